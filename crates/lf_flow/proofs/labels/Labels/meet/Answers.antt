use Rattle.std.proofs.Common.{◌≡◌, ℕ, Bool, false, not, ◌||◌, eqb, map, length, get_or, ◌∙◌, ap, sym, arith}
use Rattle.lf_semantics.specs.ClassRows.{holds, narrowed}
use Rattle.lf_semantics.proofs.RowLaws.{shape_narrowed}
use Rattle.lf_flow.proofs.Below.{narrowed_all, narrowed_first, narrowed_more, narrowed_same, passing}
use Rattle.lf_flow.proofs.Layered.{length_narrowed}
use Rattle.lf_flow.proofs.labels.Labels.meet.Goals as goal
use Rattle.lf_flow.proofs.labels.Labels.meet.Goals.{then-has, else-has}

pub loop-label-init : goal.loop-label-init
loop-label-init c = sym (narrowed_first (λ m. get_or c.args.self.now m false) (holds c.args.other.now) c.args.row.now c.requires.live)

pub meet_label-requires-clause-label : goal.meet_label-requires-clause-label
meet_label-requires-clause-label c =
    let n : length c.loop-label.row ≡ length c.args.row.now = ap length c.loop-label.invariant ∙ length_narrowed _ c.args.row.now in
    omega arith

pub meet_label-requires-clause-shape : goal.meet_label-requires-clause-shape
meet_label-requires-clause-shape c = ap (map length) c.loop-label.invariant ∙ shape_narrowed _ c.args.row.now ∙ c.requires.shape

pub loop-label-preserved : goal.loop-label-preserved
loop-label-preserved c =
    let k = c.loop-label.label in
    let chosen : ℕ → Bool = λ m. get_or c.args.self.now m false in
    elim c.if-has.branch [
      | then-has w ↦ w.row-is ∙ w.meet_label.ensures ∙ ap (narrowed (λ l x. not (eqb k l) || holds c.args.other.now l x)) c.loop-label.invariant ∙ narrowed_more chosen (holds c.args.other.now) c.args.row.now k (sym c.has.ensures ∙ w.if-has.true)
      | else-has w ↦ w.row-is ∙ c.loop-label.invariant ∙ narrowed_same chosen (holds c.args.other.now) c.args.row.now k (sym c.has.ensures ∙ w.if-has.false)
    ]

pub returns : goal.returns
returns c =
    let chosen : ℕ → Bool = λ m. get_or c.args.self.now m false in
    let n : c.loop-label.label ≡ length c.args.row.now = omega arith in
    c.loop-label.invariant ∙ ap (λ k. narrowed (passing chosen (holds c.args.other.now) c.args.row.now k) c.args.row.now) n ∙ narrowed_all chosen (holds c.args.other.now) c.args.row.now
