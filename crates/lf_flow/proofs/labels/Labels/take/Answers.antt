use Rattle.std.proofs.Common.{◌≡◌, ℕ, Bool, false, eqb, map, length, get_or, ◌∙◌, ap, sym, arith}
use Rattle.lf_semantics.specs.ClassRows.{holds, replaced}
use Rattle.lf_semantics.proofs.RowLaws.{shape_replaced}
use Rattle.lf_flow.proofs.Below.{below, replaced_all, replaced_first, replaced_more, replaced_same}
use Rattle.lf_flow.proofs.Layered.{length_replaced}
use Rattle.lf_flow.proofs.labels.Labels.take.Goals as goal
use Rattle.lf_flow.proofs.labels.Labels.take.Goals.{then-has, else-has}

pub loop-label-init : goal.loop-label-init
loop-label-init c = sym (replaced_first (λ m. get_or c.args.self.now m false) (holds c.args.other.now) c.args.row.now)

pub take_label-requires-clause-label : goal.take_label-requires-clause-label
take_label-requires-clause-label c =
    let n : length c.loop-label.row ≡ length c.args.row.now = ap length c.loop-label.invariant ∙ length_replaced (below (λ m. get_or c.args.self.now m false) c.loop-label.label) (holds c.args.other.now) c.args.row.now in
    omega arith

pub take_label-requires-clause-shape : goal.take_label-requires-clause-shape
take_label-requires-clause-shape c = ap (map length) c.loop-label.invariant ∙ shape_replaced (below (λ m. get_or c.args.self.now m false) c.loop-label.label) (holds c.args.other.now) c.args.row.now ∙ c.requires.shape

pub loop-label-preserved : goal.loop-label-preserved
loop-label-preserved c =
    let k = c.loop-label.label in
    let chosen : ℕ → Bool = λ m. get_or c.args.self.now m false in
    elim c.if-has.branch [
      | then-has w ↦ w.row-is ∙ w.take_label.ensures ∙ ap (replaced (λ l. eqb k l) (holds c.args.other.now)) c.loop-label.invariant ∙ replaced_more chosen (holds c.args.other.now) c.args.row.now k (sym c.has.ensures ∙ w.if-has.true)
      | else-has w ↦ w.row-is ∙ c.loop-label.invariant ∙ replaced_same chosen (holds c.args.other.now) c.args.row.now k (sym c.has.ensures ∙ w.if-has.false)
    ]

pub returns : goal.returns
returns c =
    let chosen : ℕ → Bool = λ m. get_or c.args.self.now m false in
    let n : c.loop-label.label ≡ length c.args.row.now = omega arith in
    c.loop-label.invariant ∙ ap (λ k. replaced (below chosen k) (holds c.args.other.now) c.args.row.now) n ∙ replaced_all chosen (holds c.args.other.now) c.args.row.now
