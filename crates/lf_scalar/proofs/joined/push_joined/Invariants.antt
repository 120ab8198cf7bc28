use Rattle.lf_scalar.specs.reading.Body.{FewBehind}
use Rattle.lf_scalar.proofs.Walk.{Walk}
use Rattle.lf_scalar.proofs.JoinedRun.{Joins}
use Rattle.lf_scalar.proofs.joined.push_joined.Given as goal

abbrev pub invariant-loop : goal.invariant-loop
invariant-loop l = record {
  walk : Walk l.at l.body l.count l.counter l.place;
  few : FewBehind l.last l.counter;
  joins : Joins l.joining l.indent l.fn.builder l.builder l.at l.body l.count l.last l.counter l.place;
}
