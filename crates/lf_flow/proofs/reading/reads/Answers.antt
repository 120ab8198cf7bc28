use Rattle.std.proofs.Common.{◌≡◌, ◌↔◌, ℕ, List, Option, ◌∙◌, subst}
use Rattle.std.specs.List.{Contains}
use Rattle.std.specs.Prelude.{IfOk}
use Rattle.std.proofs.lemmas.Result.{IfOk-weaker}
use Rattle.lf_ast.specs.Labels.{Bytes}
use Rattle.lf_ast.specs.Tree.{tree}
use Rattle.lf_deps.specs.Reading.{selectors}
use Rattle.lf_laws.specs.Ascending.{AreAscending}
use Rattle.lf_semantics.specs.Listing.{Listing}
use Rattle.lf_semantics.specs.RowTable.{Environment, row_of}
use Rattle.lf_flow.specs.Reads.{AreEqualAt, ReadsNumber, names_of}
use Rattle.lf_flow.specs.views.Reading.{AreSelected}
use Rattle.lf_flow.proofs.ReadNumbers.{equal_rows, read_numbers}
use Rattle.lf_flow.proofs.reading.reads.Goals as goal

pub returns-clause-numbers : goal.returns-clause-numbers
returns-clause-numbers c =
    let env = c.args.env.now in
    let e = tree c.args.expr.now in
    let P : List Bytes × List (Option Bytes) → Type 0 = λ x. IfOk c.numbers_selected.result (AreSelected x.0 x.1) in
    let told = subst P (λ i. (c.recorded.ensures i, (c.as_slice.ensures ∙ c.in_ok-found.ensures) i)) c.numbers_selected.ensures in
    IfOk-weaker c.numbers_selected.result (AreSelected (names_of env) (selectors e)) (λ numbers. (k : ℕ) → Contains numbers k ↔ ReadsNumber env e k) (λ numbers is. read_numbers env e numbers is) told

pub returns-clause-ascending : goal.returns-clause-ascending
returns-clause-ascending c = IfOk-weaker c.numbers_selected.result (AreSelected c.recorded.result.now c.as_slice.result.now) AreAscending (λ numbers is. is.ascend) c.numbers_selected.ensures

pub returns-clause-same : goal.returns-clause-same
returns-clause-same c =
    let env = c.args.env.now in
    let e = tree c.args.expr.now in
    let P : List Bytes × List (Option Bytes) → Type 0 = λ x. IfOk c.numbers_selected.result (AreSelected x.0 x.1) in
    let told = subst P (λ i. (c.recorded.ensures i, (c.as_slice.ensures ∙ c.in_ok-found.ensures) i)) c.numbers_selected.ensures in
    IfOk-weaker c.numbers_selected.result (AreSelected (names_of env) (selectors e)) (λ numbers. (u : Listing) (other : Environment) → AreEqualAt numbers env other → row_of u env e ≡ row_of u other e)
    (λ numbers is. equal_rows env e numbers (λ k. (read_numbers env e numbers is k).1)) told
