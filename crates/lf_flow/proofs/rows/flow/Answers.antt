use Rattle.lf_flow.proofs.rows.flow.Goals as goal

pub returns-clause-sound : goal.returns-clause-sound
returns-clause-sound c = c.flow_with.ensures.sound

pub returns-clause-grows : goal.returns-clause-grows
returns-clause-grows c = c.flow_with.ensures.grows
