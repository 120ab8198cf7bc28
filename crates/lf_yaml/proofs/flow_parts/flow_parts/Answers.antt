use Rattle.std.proofs.Common.{sym, subst}
use Rattle.lf_base.specs.Answers.{AnswersAs}
use Rattle.lf_yaml.specs.reading.FlowTurns.{IsTurnIn}
use Rattle.lf_yaml.specs.views.Shown.{shown}
use Rattle.lf_yaml.proofs.flow_parts.flow_parts.Goals as goal
use Rattle.lf_yaml.proofs.flow_parts.flow_parts.Goals.{in-Ok, in-Err-push}

pub returns-in-Ok-Ends-clause-gives : goal.returns-in-Ok-Ends-clause-gives
returns-in-Ok-Ends-clause-gives g c = λ read h. rw c.in-Ok-Ends.field-0-is at (c.in-Ok-Ends.ensures.gives c.parts.parts read (c.parts.invariant.0 read h))

pub returns-in-Ok-Ends-clause-part : goal.returns-in-Ok-Ends-clause-part
returns-in-Ok-Ends-clause-part g c = (subst (IsTurnIn c.args.source.bytes.now c.parts.at.at) c.in-Ok-Ends.field-0-is c.in-Ok-Ends.ensures.turn).0

pub returns-in-Ok-Last-clause-gives : goal.returns-in-Ok-Last-clause-gives
returns-in-Ok-Last-clause-gives g c = λ read h.
    let given = rw c.in-Ok-Last.field-0-is at (c.in-Ok-Last.ensures.gives c.parts.parts read (c.parts.invariant.0 read h)) in
    elim c.match-push.branch [
      | in-Ok w ↦ subst (λ r. AnswersAs (λ x. (g.P.FlowParts.made x.0, (shown x.1).first)) r read) (sym w.result-is) (rw w.in-Ok.ensures.ok given)
      | in-Err-push w ↦ subst (λ r. AnswersAs (λ x. (g.P.FlowParts.made x.0, (shown x.1).first)) r read) (sym w.result-is) tt
    ]

pub parts-preserved : goal.parts-preserved
parts-preserved g c = (
  λ read h. rw c.in-Ok-push.ensures.ok (rw c.in-Ok-More.field-0-is at (c.in-Ok-More.ensures.gives c.parts.parts read (c.parts.invariant.0 read h))),
  (subst (IsTurnIn c.args.source.bytes.now c.parts.at.at) c.in-Ok-More.field-0-is c.in-Ok-More.ensures.turn).0,
)

pub returns-in-Err-clause-gives : goal.returns-in-Err-clause-gives
returns-in-Err-clause-gives g c = λ read h. c.in-Err.ensures.gives c.parts.parts read (c.parts.invariant.0 read h)
