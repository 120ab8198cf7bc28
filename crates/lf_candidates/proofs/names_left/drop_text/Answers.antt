use Rattle.std.proofs.Common.{◌≡◌, ◌<◌, ℕ, false, true, length, map, subst, sym, ◌∙◌, ap, arith}
use Rattle.lf_semantics.specs.ClassRows.{Sets, holds, kept}
use Rattle.lf_semantics.specs.Listing.{class_of, other_class}
use Rattle.lf_candidates.proofs.FirstClass.{row_length, set_length}
use Rattle.lf_candidates.proofs.Labelled.{some_label}
use Rattle.lf_candidates.proofs.NamesLeft.{shape_kept, text_stays}
use Rattle.lf_candidates.proofs.names_left.drop_text.Goals as goal

pub keep-requires-clause-label : goal.keep-requires-clause-label
keep-requires-clause-label c = omega (arith, row_length c.args.universe.now c.args.row.now c.requires.shape, some_label c.args.universe.now c.requires.universe)

pub keep-requires-clause-class : goal.keep-requires-clause-class
keep-requires-clause-class c =
    let u = c.args.universe.now in
    omega (arith, set_length u c.args.row.now c.requires.shape 0 (some_label u c.requires.universe), c.class_of-class.ensures.within)

pub returns-then-class-classes-clause-shape : goal.returns-then-class-classes-clause-shape
returns-then-class-classes-clause-shape c = ap (map length) c.keep.ensures ∙ shape_kept 0 c.class_of-class.result false c.args.row.now ∙ c.requires.shape

pub returns-then-class-classes-clause-others : goal.returns-then-class-classes-clause-others
returns-then-class-classes-clause-others c = λ class own differs held.
    let u = c.args.universe.now in
    let row : Sets = c.args.row.now in
    let text = c.args.text.now in
    let number : c.class_of-class.result ≡ class_of u 0 text = c.class_of-class.ensures.number in
    let known : class_of u 0 text < other_class u 0 = omega (arith, number, c.if-class-classes.true, c.classes-classes.ensures) in
    subst (λ (r : Sets). holds r 0 class ≡ true) (sym (c.keep.ensures ∙ ap (λ (k : ℕ). kept 0 k false row) number)) (text_stays u text row c.is_empty-settled.ensures.settled known class differs held)
