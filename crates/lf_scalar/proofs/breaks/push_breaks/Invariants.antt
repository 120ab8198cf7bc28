use Rattle.lf_scalar.proofs.Walk.{Walk}
use Rattle.lf_scalar.proofs.BreaksRun.{Ends}
use Rattle.lf_scalar.proofs.breaks.push_breaks.Given as goal

abbrev pub invariant-loop : goal.invariant-loop
invariant-loop l = record { walk : Walk l.at l.body l.count l.counter l.place; ends : Ends l.fn.builder l.builder l.at l.body l.count l.counter l.place }
