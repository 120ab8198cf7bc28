use Rattle.std.proofs.Common.{ℕ, Bool, ◌+◌, ◌&&◌, [], eqb, false, get_or, length, not, sym, ◌∙◌, ap}
use Rattle.std.specs.List.{list_any}
use Rattle.lf_ast.specs.Labels.{Bytes}
use Rattle.lf_semantics.specs.ClassRows.{top, replaced}
use Rattle.lf_semantics.specs.Listing.{class_of, named_at}
use Rattle.lf_semantics.specs.RowTable.{is_recorded}
use Rattle.lf_semantics.proofs.RowLaws.{shape_top}
use Rattle.lf_flow.proofs.ClassSets.{set_is, set_length}
use Rattle.lf_flow.proofs.PatternSets.{retested}
use Rattle.lf_flow.proofs.Selected.{recorded_test}
use Rattle.lf_flow.proofs.scraped.scraped_row.Goals as goal

pub set_classes-requires-clause-classes : goal.set_classes-requires-clause-classes
set_classes-requires-clause-classes c =
    let u = c.args.universe.now in
    let label = c.label_of-label.result in
    ap length c.deref.ensures.value ∙ c.in_ok-on.ensures.count
    ∙ sym (ap (λ row. length (get_or row label [])) c.in_ok-row.ensures ∙ set_length u (top u) (shape_top u) label c.label_of-label.ensures.within)

pub returns : goal.returns
returns c =
    let u = c.args.universe.now in
    let env = c.args.env.now in
    let label = c.label_of-label.result in
    let n = length (named_at u label) + 2 in
    let test : ℕ → ℕ → Bool = λ l class. not (eqb class 0) && not (is_recorded u env l class) in
    c.set_classes.ensures
    ∙ ap (λ xs. replaced (λ l. eqb label l) (λ l k. get_or xs k false) c.in_ok-row.row) c.deref.ensures.value
    ∙ ap (replaced (λ l. eqb label l) (λ l k. get_or c.in_ok-on.on.items k false)) c.in_ok-row.ensures
    ∙ set_is label c.in_ok-on.on.items n test (top u)
    (retested n _ (test label) c.in_ok-on.on.items
    (λ class h. ap (λ names. not (eqb class 0) && not (list_any (λ (name : Bytes). eqb (class_of u label name) class) names)) c.recorded.ensures ∙ ap (λ b. not (eqb class 0) && not b) (recorded_test u env label class)) c.in_ok-on.ensures)
    (set_length u (top u) (shape_top u) label c.label_of-label.ensures.within)
    ∙ ap (λ k. replaced (λ l. eqb k l) test (top u)) c.label_of-label.ensures.number
