use Rattle.std.proofs.Common.{ℕ, List, length, ap, sym, ◌∙◌, subst, arith}
use Rattle.std.specs.List.{Contains}
use Rattle.std.proofs.lemmas.List.{length-map}
use Rattle.lf_ast.specs.Labels.{Bytes}
use Rattle.lf_ast.specs.Rules.{rule_tree}
use Rattle.lf_ast.specs.Tree.{tree}
use Rattle.lf_laws.specs.Ascending.{AreAscending}
use Rattle.lf_flow.specs.Reads.{ReadsNumber}
use Rattle.lf_semantics.specs.ClassRows.{Sets}
use Rattle.lf_rounds.specs.Facts.{RoundFacts, task}
use Rattle.lf_rounds.specs.Sums.{sum_of_rows}
use Rattle.lf_rounds.specs.Tasks.{IsTask, stands_for, width}
use Rattle.lf_rounds.specs.views.Working.{seen}
use Rattle.lf_rounds.proofs.Pieces.{reads_of_piece}
use Rattle.lf_rounds.proofs.Working.{read_rows, stored_by_row}
use Rattle.lf_rounds.proofs.round.Round.load_read.Goals as goal

pub load_rows-requires-clause-ascend : goal.load_rows-requires-clause-ascend
load_rows-requires-clause-ascend c =
    let round = c.args.self.now in
    let T : RoundFacts → Type 0 = λ f. IsTask (task f) in
    let is : IsTask (task round) = subst T c.self.view_is c.self.invariant.task in
    let read = reads_of_piece (task round) is c.args.piece (rule_tree c.args.rule.now) c.requires.rule in
    subst AreAscending (sym (c.as_slice.ensures ∙ c.read_by-numbers.ensures)) read.ascend

pub load_rows-requires-clause-within : goal.load_rows-requires-clause-within
load_rows-requires-clause-within c k h =
    let round = c.args.self.now in
    let T : RoundFacts → Type 0 = λ f. IsTask (task f) in
    let is : IsTask (task round) = subst T c.self.view_is c.self.invariant.task in
    let read = reads_of_piece (task round) is c.args.piece (rule_tree c.args.rule.now) c.requires.rule in
    let P : List ℕ → Type 0 = λ l. Contains l k in
    omega (arith, read.within k (subst P (c.as_slice.ensures ∙ c.read_by-numbers.ensures) h), length-map c.args.env.now (λ (entry : Bytes × Sets). entry.0), ap length c.requires.env.names)

pub returns-clause-read : goal.returns-clause-read
returns-clause-read c =
    let round = c.args.self.now in
    let T : RoundFacts → Type 0 = λ f. IsTask (task f) in
    let is : IsTask (task round) = subst T c.self.view_is c.self.invariant.task in
    let words = seen round c.load_rows.new.seat.me in
    let after = c.load_rows.new.env in
    let r = rule_tree c.args.rule.now in
    let read = reads_of_piece (task round) is c.args.piece r c.requires.rule in
    let of = c.in_ok-sum.ensures.env in
    let listed : (k : ℕ) → ReadsNumber after (tree c.args.rule.now.expr) k → Contains c.as_slice.result.now k =
    λ k h. (let P : List ℕ → Type 0 = λ l. Contains l k in subst P (sym (c.as_slice.ensures ∙ c.read_by-numbers.ensures)) (read.all after of.names k h)) in
    stored_by_row round.universe after (stands_for (task round) words) r
    (read_rows (task round) is words c.as_slice.result.now after (tree c.args.rule.now.expr) of listed c.in_ok-sum.ensures.read)

pub returns-clause-rows : goal.returns-clause-rows
returns-clause-rows c =
    let round = c.args.self.now in
    let words = seen round c.load_rows.new.seat.me in
    c.in_ok-sum.ensures.rows ∙ ap (λ (l : List ℕ). sum_of_rows (width (task round)) words l) (c.as_slice.ensures ∙ c.read_by-numbers.ensures)
