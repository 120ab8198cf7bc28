use Rattle.std.proofs.Common.{◌≡◌, ℕ, Bool, false, not, eqb, length, get_or, ◌∙◌, ap, sym, arith}
use Rattle.lf_semantics.specs.ClassRows.{only_empty}
use Rattle.lf_flow.proofs.Below.{below, replaced_all, replaced_first, replaced_more, replaced_same}
use Rattle.lf_flow.proofs.Layered.{length_replaced}
use Rattle.lf_flow.proofs.labels.Labels.drop_others.Goals as goal
use Rattle.lf_flow.proofs.labels.Labels.drop_others.Goals.{then-not-has, else-not-has}

pub loop-label-init : goal.loop-label-init
loop-label-init c = sym (replaced_first (λ m. not (get_or c.args.self.now m false)) (λ l k. eqb k 0) c.args.row.now)

pub drop_label-requires : goal.drop_label-requires
drop_label-requires c =
    let n : length c.loop-label.row ≡ length c.args.row.now = ap length c.loop-label.invariant ∙ length_replaced (below (λ m. not (get_or c.args.self.now m false)) c.loop-label.label) (λ l k. eqb k 0) c.args.row.now in
    omega arith

pub loop-label-preserved : goal.loop-label-preserved
loop-label-preserved c =
    let k = c.loop-label.label in
    let others : ℕ → Bool = λ m. not (get_or c.args.self.now m false) in
    elim c.if-not-has.branch [
      | then-not-has w ↦ w.row-is ∙ w.drop_label.ensures ∙ ap (only_empty (λ l. eqb k l)) c.loop-label.invariant ∙ replaced_more others (λ l k. eqb k 0) c.args.row.now k (ap not (sym c.has.ensures ∙ w.if-not-has.true))
      | else-not-has w ↦ w.row-is ∙ c.loop-label.invariant ∙ replaced_same others (λ l k. eqb k 0) c.args.row.now k (ap not (sym c.has.ensures ∙ w.if-not-has.false))
    ]

pub returns : goal.returns
returns c =
    let others : ℕ → Bool = λ m. not (get_or c.args.self.now m false) in
    let n : c.loop-label.label ≡ length c.args.row.now = omega arith in
    c.loop-label.invariant ∙ ap (λ k. only_empty (below others k) c.args.row.now) n ∙ replaced_all others (λ l k. eqb k 0) c.args.row.now
