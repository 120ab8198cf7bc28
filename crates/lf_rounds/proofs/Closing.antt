-- The end of a round, as its last seat sees it.
use Rattle.std.proofs.Common.{◌≡◌, ℕ, ◌-◌, ◌<◌, false, List, drop, length, sym, subst, arith}
use mathlib.Core.Option.{some}
use lib.ListN.{get_elem?}
use Rattle.lf_board.specs.Numbers.{AreNumbersBelow}
use Rattle.lf_classes.specs.RowWords.{WordsLeq}
use Rattle.lf_rounds.specs.Rounds.{HoldsWords, task_of}
use Rattle.lf_rounds.specs.Tasks.{HoldRules, IsBelowLeast, IsTask}
use Rattle.lf_rounds.specs.declared.rule.About.{About}
use Rattle.lf_rounds.specs.declared.rule.RoundView.{RoundView}
use Rattle.lf_rounds.proofs.Allowed.{ends_words, rises_words}
use Rattle.lf_rounds.proofs.Pieces.{rules_held}

-- what is told of the words at the end
pub record Ends (k : About) (words claims : List ℕ) : Type 0 where
  pub claims_all : AreNumbersBelow k.counts.pieces claims
  pub wide : length words ≡ length (task_of k).start
  pub above : WordsLeq (task_of k).start words
  pub held : HoldRules (task_of k).universe (task_of k).rules words (task_of k).start
  pub below : IsBelowLeast (task_of k).universe (task_of k).rules words

pub ends_round : (k : About) (id : ℕ) (v : RoundView) (ws words : List ℕ) (views : List RoundView) → IsTask (task_of k) → length (task_of k).pieces ≡ k.counts.pieces → words ≡ drop 1 ws → HoldsWords k ws views → get_elem? views id ≡ some v
    → v.busy ≡ false → 0 < v.board.share → v.board.share - 1 ≡ k.counts.seats - 1 → 0 < v.board.missed → Ends k words v.board.claims
ends_round k id v ws words views is count e h at idle live all shut =
    let t = task_of k in
    let last = ends_words k id v ws views is h at idle live all shut in
    let rose = rises_words k ws views h in
    let P : List ℕ → Type 0 = λ xs. Ends k xs v.board.claims in
    subst P (sym e) (record {
      claims_all = last.0;
      wide = rose.0;
      above = rose.1;
      held = rules_held t is (drop 1 ws) rose.1 (λ p b. last.1 p (omega (arith, b, count)));
      below = rose.2;
    })
