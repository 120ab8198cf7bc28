use Rattle.std.proofs.Common.{◌≡◌, ◌&&◌, ◌||◌, false, get_or, sym, ◌∙◌, arith, refl}
use Rattle.lf_semantics.specs.RowTable.{set_at}
use Rattle.lf_flow.proofs.ClassSets.{set_length}
use Rattle.lf_flow.proofs.HasClass.{found_all, found_before, found_here, found_more, found_not}
use Rattle.lf_flow.proofs.replacing.meets.Goals as goal
use Rattle.lf_flow.proofs.replacing.meets.Goals.{then-found, else-found+then-has, else-found+else-has}

pub has-requires-clause-class : goal.has-requires-clause-class
has-requires-clause-class c = omega (arith, c.classes-class-end.ensures, c.loop-class-test.true, set_length c.args.universe.now c.args.row.now c.requires.shape c.args.label c.requires.label)

pub loop-class-preserved : goal.loop-class-preserved
loop-class-preserved c =
    let u = c.args.universe.now in
    let set = set_at u c.args.row.now c.args.label in
    let k = c.loop-class.class in
    let found = c.loop-class.found in
    let size = set_length u c.args.row.now c.requires.shape c.args.label c.requires.label in
    let on = get_or set k false in
    let passes = get_or c.args.on.now k false in
    let now : c.if-found.found ≡ (found || (get_or set k false && get_or c.args.on.now k false)) =
    elim c.if-found.branch [
      | then-found w ↦ found_before found on passes _ w.if-found.true (w.found-is ∙ w.if-found.true)
      | else-found+then-has w ↦ found_here found on passes _ w.if-found.false (sym w.has.ensures ∙ w.if-has.true) w.found-is
      | else-found+else-has w ↦ let none : c.if-found.found ≡ false = cc in found_not found on passes _ w.if-found.false (sym w.has.ensures ∙ w.if-has.false) none
    ] in
    rw now (found_more u (λ class. get_or c.args.on.now class false) set k found (get_or set k false && get_or c.args.on.now k false) (omega (arith, c.classes-class-end.ensures, c.loop-class-test.true, size)) refl c.loop-class.invariant)

pub returns : goal.returns
returns c =
    let u = c.args.universe.now in
    let size = set_length u c.args.row.now c.requires.shape c.args.label c.requires.label in
    sym (found_all u (λ class. get_or c.args.on.now class false) (set_at u c.args.row.now c.args.label) c.loop-class.class c.loop-class.found (omega (arith, size, c.classes-class-end.ensures, c.loop-class-test.false)) c.loop-class.invariant)
