use Rattle.std.proofs.Common.{ℕ, Option, Some, subst, ◌∙◌, arith}
use Rattle.lf_candidates.specs.views.ClassTexts.{IsClass, StandsAt}
use Rattle.lf_candidates.proofs.FirstClass.{set_length}
use Rattle.lf_candidates.proofs.Standing.{holds_class}
use Rattle.lf_candidates.proofs.given.has_class.Goals as goal

pub has-requires-clause-class : goal.has-requires-clause-class
has-requires-clause-class c =
    let room = set_length c.args.universe.now c.args.row.now c.requires.shape c.args.label c.requires.label in
    let P : Option ℕ → Type 0 = λ o. IsClass c.args.universe.now c.args.label o in
    let is : IsClass c.args.universe.now c.args.label (Some c.in-Some.class) = subst P c.in-Some.is c.requires.class in
    omega (arith, room, is)

pub returns-in-Some : goal.returns-in-Some
returns-in-Some c = λ D stands. c.has.ensures ∙ holds_class c.args.universe.now c.requires.universe c.args.label c.requires.label c.args.row.now D c.in-Some.class (subst (λ o. StandsAt c.args.universe.now c.args.label o D) c.in-Some.is stands)
