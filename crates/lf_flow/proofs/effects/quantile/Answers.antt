use Rattle.std.proofs.Common.{◌≡◌, ◌+◌, ℕ, Bool, cond, eqb, length, ◌||◌, sym, ◌∙◌, ap, arith}
use Rattle.std.specs.Prelude.{codes}
use Rattle.lf_semantics.specs.ClassRows.{bottom, only_empty}
use Rattle.lf_semantics.specs.RowTable.{is_label, is_metric_label, nameless}
use Rattle.lf_semantics.proofs.EffectsRepresent.{shape_nameless}
use Rattle.lf_semantics.proofs.RowLaws.{length_row}
use Rattle.lf_flow.proofs.Layered.{replaced_twice}
use Rattle.lf_flow.proofs.effects.quantile.Goals as goal

pub drop_label-requires : goal.drop_label-requires
drop_label-requires c =
    let u = c.args.universe.now in
    let n : length (nameless u c.args.row) ≡ length u.names + 1 = length_row u c.requires.listing (nameless u c.args.row) (shape_nameless u c.requires.listing c.args.row c.requires.shape) in
    omega (arith, n, ap length c.nameless-row.ensures, c.label_of.ensures.within, c.requires.listing.count)

pub returns-then-may_be_present : goal.returns-then-may_be_present
returns-then-may_be_present c =
    let u = c.args.universe.now in
    let row = c.args.row in
    let test : ℕ → ℕ → Bool = λ label class. eqb class 0 in
    c.drop_label.ensures
    ∙ ap (only_empty (λ l. eqb c.label_of.result l)) c.nameless-row.ensures
    ∙ ap (λ label. only_empty (λ l. eqb label l) (nameless u row)) c.label_of.ensures.number
    ∙ replaced_twice (is_metric_label u) (is_label u (codes "le")) test row
    ∙ ap (λ b. cond b (only_empty (λ label. is_metric_label u label || is_label u (codes "le") label) row) (bottom u)) (sym c.if-may_be_present.true ∙ c.may_be_present.ensures)
