use Rattle.std.proofs.Common.{◌+◌, ◌&&◌, true, List, eqb, length, not, ◌∙◌, ap, subst, arith}
use Rattle.std.specs.List.{list_any}
use Rattle.std.specs.Prelude.{replicate}
use Rattle.std.proofs.lemmas.List.{take_all}
use Rattle.lf_ast.specs.Labels.{Bytes}
use Rattle.lf_semantics.specs.Listing.{class_of, named_at}
use Rattle.lf_flow.specs.views.ClassSets.{IsSet}
use Rattle.lf_flow.proofs.Selected.{first_off, off_more}
use Rattle.lf_flow.proofs.scraped.unrecorded.Goals as goal

pub loop-place-init : goal.loop-place-init
loop-place-init c =
    let n = length (named_at c.args.universe.now c.args.label) + 2 in
    first_off n c.in_ok-on.on.items (omega arith) (c.in_ok-on.ensures.items_if_clones_equal (λ y e. e) ∙ ap (λ k. replicate k true) c.classes.ensures)

pub loop-place-preserved : goal.loop-place-preserved
loop-place-preserved c =
    let u = c.args.universe.now in
    let label = c.args.label in
    off_more u label (length (named_at u label) + 2) c.class_of-class.result c.loop-place.place c.args.names.now c.loop-place.on.items (omega (arith, c.loop-place-test.true, c.len-place-end.ensures.count))
    (c.class_of-class.ensures.number ∙ ap (class_of u label) (c.as_str.ensures ∙ c.get.ensures)) c.class_of-class.ensures.within c.loop-place.invariant

pub returns : goal.returns
returns c =
    let u = c.args.universe.now in
    let label = c.args.label in
    let names = c.args.names.now in
    let P : List Bytes → Type 0 = λ xs. IsSet (length (named_at u label) + 2) (λ class. not (eqb class 0) && not (list_any (λ (name : Bytes). eqb (class_of u label name) class) xs)) c.loop-place.on.items in
    subst P (take_all c.loop-place.place names (omega (arith, c.loop-place-test.false, c.len-place-end.ensures.count))) c.loop-place.invariant
