use Rattle.std.proofs.Common.{Option, Some, None, sym, ◌∙◌, ap, subst}
use Rattle.std.specs.Prelude.{IfOk}
use Rattle.lf_semantics.specs.Evaluation.{IsAbsent}
use Rattle.lf_semantics.specs.Parts.{Sought}
use Rattle.lf_witness.specs.Strict.{IsOpenAbsent, StrictAbsent, StrictlyEvaluates}
use Rattle.lf_witness.specs.StrictRuns.{InOrder}
use Rattle.lf_witness.proofs.SomeSample.{sought_labels, sought_sample}
use Rattle.lf_strict.proofs.Absences.{shut_ok}
use Rattle.lf_strict.proofs.absence.absent.Goals as goal

pub returns-in_ok-one-in-Some : goal.returns-in_ok-one-in-Some
returns-in_ok-one-in-Some c = λ W e given.
    let s = c.in-Some.sought in
    let one = c.in_ok-one-in-Some.one in
    let shut : IsOpenAbsent (Some s) → ⊥ = λ is_open. let yes = c.leaves_open.ensures.1 is_open in let no = c.if-leaves_open.false in cc in
    let is = subst (IsAbsent (Some s)) (sym (c.in_ok-one-in-Some.ensures ∙ ap (λ (s : Sought). sought_labels s.matchers) c.sought.view_is)) (sought_sample s shut) in
    subst (λ (sought : Option Sought). IfOk c.where_empty.result (InOrder (StrictAbsent sought (StrictlyEvaluates W e)))) (sym c.in-Some.is ∙ c.sought_in.ensures)
    (shut_ok (Some s) (StrictlyEvaluates W e) one c.where_empty.result shut is (c.where_empty.ensures W e given))

pub returns-in-None : goal.returns-in-None
returns-in-None c = λ W e given.
    subst (λ (sought : Option Sought). IfOk c.where_empty-in-None.result (InOrder (StrictAbsent sought (StrictlyEvaluates W e)))) (sym c.in-None.is ∙ c.sought_in.ensures)
    (shut_ok None (StrictlyEvaluates W e) c.new.result c.where_empty-in-None.result (λ no. no) c.new.ensures (c.where_empty-in-None.ensures W e given))
