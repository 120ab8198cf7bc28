use Rattle.std.proofs.Common.{sym}
use Rattle.lf_built.proofs.SideTexts.{signature_found, signature_said}
use Rattle.lf_built.proofs.sides.signature_class.Goals as goal

pub returns-in-Some-clause-class : goal.returns-in-Some-clause-class
returns-in-Some-clause-class c = λ l r op m D rows signed dropped_is stands.
    signature_said c.args.universe.now op m l r D c.args.label c.args.dropped c.args.class c.in-Some.class dropped_is stands (sym c.in-Some.ensures)

pub returns-in-None-clause-class : goal.returns-in-None-clause-class
returns-in-None-clause-class c = λ l r op m D rows signed dropped_is stands.
    signature_found c.args.universe.now op m l r D c.args.label c.args.dropped c.args.class c.first_common_class.result dropped_is stands (sym c.in-None.ensures) c.first_common_class.ensures.class (c.first_common_class.ensures.candidate l r rows)
