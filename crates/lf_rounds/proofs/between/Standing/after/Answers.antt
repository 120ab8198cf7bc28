use Rattle.std.proofs.Common.{◌⊎◌, ℕ, List, [], Option, length, refl, ap, sym, ◌∙◌, subst, arith}
use Rattle.std.specs.List.{Contains}
use Rattle.lf_ast.specs.Rules.{rule_trees}
use Rattle.lf_rounds.specs.Tasks.{Task}
use Rattle.lf_rounds.specs.declared.rule.Loaded.{Loaded}
use Rattle.lf_rounds.specs.views.Noting.{AreMadeBy}
use Rattle.lf_rounds.specs.views.Standings.{IsCurrent}
use Rattle.lf_rounds.proofs.Pieces.{pieces_recording}
use Rattle.lf_rounds.proofs.Standings.{current_held, pieces_within}
use Rattle.lf_rounds.proofs.between.Standing.after.Goals as goal

pub due_of-requires-clause-within : goal.due_of-requires-clause-within
due_of-requires-clause-within c k d =
    let rules = rule_trees c.args.rules.now in
    let h = pieces_within rules c.args.all.now c.requires.all k d in
    let is = c.requires.settled in
    (omega (arith, h, is.known.names.count), omega (arith, h, is.known.reads.count), omega (arith, h, is.count, c.remember.ensures.len, ap length c.as_slice-2.ensures.value))

pub returns-clause-standing : goal.returns-clause-standing
returns-clause-standing c =
    let u = c.args.universe.now in
    let rules = rule_trees c.args.rules.now in
    let is = c.requires.settled in
    let settled = c.args.settled in
    let reads = settled.known.reads in
    let words = settled.words in
    let due : List ℕ = c.in_ok-due.due in
    let t : Task = record { universe = u; rules = rules; reads = reads; pieces = settled.pieces; start = [] } in
    let M : List Loaded → Type 0 = λ notes. AreMadeBy t words notes in
    let kept = c.remember.ensures.kept t words refl (subst M (sym c.as_slice.ensures.value) (is.made t refl refl refl refl)) is.sums in
    let C : ℕ × List ℕ × List (Option ℕ) → Type 0 = λ x. ((k : ℕ) → Contains c.args.all.now k → Contains due k ⊎ IsCurrent x.0 x.1 reads x.2 k) in
    let current = subst C (λ i. (c.words-width.ensures i, c.row_words-rows.ensures i, c.as_slice-2.ensures.value i)) c.in_ok-due.ensures.others in
    record {
      known = is.known;
      long = is.long;
      fit = is.fit;
      below = is.below;
      sums = kept;
      count = c.remember.ensures.len ∙ is.count;
      recording = λ k d. pieces_recording rules c.args.all.now c.requires.all k (c.in_ok-due.ensures.some k d);
      others = current_held u c.labels-labels.ensures.within.listing rules reads words c.args.all.now due c.remember.new.sums.items is.known.reads c.requires.all kept current;
    }
