use Rattle.std.proofs.Common.{◌≡◌, ℕ, List, length}
use Rattle.lf_rounds.specs.Tasks.{Task}
use Rattle.lf_rounds.specs.views.Noting.{AreMadeBy, AreRemembered}
use Rattle.lf_rounds.proofs.between.remember.Given as goal

abbrev pub invariant-loop-note : goal.invariant-loop-note
invariant-loop-note l = record {
  kept : (t : Task) (words : List ℕ) → t.pieces ≡ l.pieces → AreMadeBy t words l.notes → AreRemembered t.universe t.rules t.reads words l.initial.sums.items → AreRemembered t.universe t.rules t.reads words l.sums.items;
  len : length l.sums.items ≡ length l.initial.sums.items;
}
