use Rattle.std.proofs.Common.{◌≡◌, ◌&&◌, Bool, false, sym, ap, ◌∙◌, arith, below_more}
use Rattle.std.proofs.Math.Bool.{and-false}
use Rattle.lf_semantics.specs.ClassRows.{holds}
use Rattle.lf_trials.specs.Candidates.{has_presence}
use Rattle.lf_candidates.specs.views.ClassTexts.{text_at}
use Rattle.lf_candidates.proofs.FirstClass.{first_with, none_with, presence_of, set_length}
use Rattle.lf_candidates.proofs.candidates.first_found.Goals as goal
use Rattle.lf_candidates.proofs.candidates.first_found.Goals.{else-has-via-then-has+else-is_with, else-has-via-else-has}

pub has-requires-clause-class : goal.has-requires-clause-class
has-requires-clause-class c =
    let room = set_length c.args.universe.now c.args.row.now c.requires.shape c.args.label c.requires.label in omega (arith, room, c.loop-class-test.true, c.classes-class-end.ensures)

pub returns-then-is_with-clause-candidate : goal.returns-then-is_with-clause-candidate
returns-then-is_with-clause-candidate c =
    first_with c.args.universe.now c.requires.universe c.args.label c.requires.label c.args.presence c.args.row.now c.loop-class.class (omega (arith, c.loop-class-test.true, c.classes-class-end.ensures))
    (sym c.has.ensures ∙ c.if-has.true) (sym c.is_with.ensures ∙ c.if-is_with.true) c.loop-class.invariant

pub loop-class-preserved : goal.loop-class-preserved
loop-class-preserved c =
    let u = c.args.universe.now in
    let label = c.args.label in
    let class = c.loop-class.class in
    let presence = presence_of u c.requires.universe label c.requires.label c.args.presence class (omega (arith, c.loop-class-test.true, c.classes-class-end.ensures)) in
    let Is : Type 0 = (holds c.args.row.now label class && has_presence c.args.presence (text_at u label class)) ≡ false in
    let here : Is =
    elim c.else-has.branch [
      | else-has-via-then-has+else-is_with w ↦ ap (λ (b : Bool). holds c.args.row.now label class && b) (presence ∙ sym w.is_with.ensures ∙ w.if-is_with.false) ∙ and-false (holds c.args.row.now label class)
      | else-has-via-else-has w ↦ ap (λ (b : Bool). b && has_presence c.args.presence (text_at u label class)) (sym c.has.ensures ∙ w.if-has.false)
    ] in
    below_more (λ j. (holds c.args.row.now label j && has_presence c.args.presence (text_at u label j)) ≡ false) class c.loop-class.invariant here

pub returns-clause-candidate : goal.returns-clause-candidate
returns-clause-candidate c =
    none_with c.args.universe.now c.requires.universe c.args.label c.requires.label c.args.presence c.args.row.now
    (λ j h. c.loop-class.invariant j (omega (arith, h, c.loop-class-test.false, c.classes-class-end.ensures)))
