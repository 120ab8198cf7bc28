use Rattle.std.proofs.Common.{◌+◌, ◌-◌, List, false, length, refl, ◌∙◌, ap, subst, arith}
use Rattle.std.specs.List.{list_any}
use Rattle.std.specs.Prelude.{replicate}
use Rattle.std.proofs.lemmas.List.{take_all}
use Rattle.lf_ast.specs.Labels.{Bytes}
use Rattle.lf_semantics.specs.Listing.{class_of, named_at}
use Rattle.lf_flow.specs.views.ClassSets.{IsSet}
use Rattle.lf_flow.proofs.ListedSets.{is_class, listed_more, listed_set, none_on}
use Rattle.lf_flow.proofs.replacing.listed.Goals as goal

pub loop-text-init : goal.loop-text-init
loop-text-init c =
    none_on (length (named_at c.args.universe.now c.args.label) + 2) c.in_ok-on.on.items
    (c.in_ok-on.ensures.items_if_clones_equal (λ y e. e) ∙ ap (λ k. replicate k false) c.classes-count.ensures)

pub loop-text-preserved : goal.loop-text-preserved
loop-text-preserved c =
    let u = c.args.universe.now in
    let label = c.args.label in
    listed_more u label (length (named_at u label) + 2) c.class_of-class.result c.loop-text.text-index c.text-item.result c.args.texts.now c.loop-text.on.items c.loop-text-test.true c.text-item.is
    (c.class_of-class.ensures.number ∙ ap (class_of u label) c.as_str.ensures) c.class_of-class.ensures.within c.loop-text.invariant

pub returns : goal.returns
returns c =
    let u = c.args.universe.now in
    let label = c.args.label in
    let texts = c.args.texts.now in
    let n = length (named_at u label) + 2 in
    let P : List Bytes → Type 0 = λ xs. IsSet n (λ class. list_any (is_class u label class) xs) c.loop-text.on.items in
    listed_set u label c.requires.listing n (c.classes-count.result - 1) texts c.loop-text.on.items refl (omega (arith, c.classes-count.ensures))
    (subst P (take_all c.loop-text.text-index texts c.loop-text-test.false) c.loop-text.invariant)
