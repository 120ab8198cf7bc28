use Rattle.std.proofs.Common.{◌≡◌, ◌+◌, false, List, Some, sym, ◌∙◌, ap, subst, add-one}
use Rattle.std.specs.Prelude.{slice_get}
use Rattle.std.specs.Ordering.{eq_by_cmp}
use Rattle.lf_ast.specs.Labels.{Labels}
use Rattle.lf_ast.specs.LabelOrder.{labels_cmp}
use Rattle.lf_strict.specs.views.Apart.{AreApart}
use Rattle.lf_strict.proofs.Times.{none_repeated, repeated_moved, rising_ascends, same_moved, sorted_rises, twice_there}
use Rattle.lf_witness.proofs.Decided.{told_same}
use Rattle.lf_strict.proofs.apart.apart.Goals as goal

pub returns-then-has_equal_neighbours : goal.returns-then-has_equal_neighbours
returns-then-has_equal_neighbours c =
    let sorted : List Labels = c.sorted-made.result.items in
    let two = c.has_equal_neighbours.ensures.some c.if-has_equal_neighbours.true in
    let k = two.0 in
    let one = ap (λ (l : List Labels). slice_get l k) (sym c.as_slice.ensures.value) ∙ two.3 in
    let next = ap (λ (l : List Labels). slice_get l (k + 1)) (sym c.as_slice.ensures.value) ∙ two.4 in
    repeated_moved c.args.made.items sorted c.sorted-made.ensures.permutation
    (two.1, twice_there sorted k two.1 two.2 one (ap (slice_get sorted) (sym (add-one k)) ∙ next) (told_same two.1 two.2 two.5))

pub returns : goal.returns
returns c =
    let sorted : List Labels = c.sorted-made.result.items in
    let others : (k : _) (s t : Labels) → slice_get sorted k ≡ Some s → slice_get sorted (k + 1) ≡ Some t → eq_by_cmp labels_cmp s t ≡ false = λ k s t a b. c.has_equal_neighbours.ensures.none c.if-has_equal_neighbours.false k s t
    (ap (λ (l : List Labels). slice_get l k) c.as_slice.ensures.value ∙ a) (ap (λ (l : List Labels). slice_get l (k + 1)) c.as_slice.ensures.value ∙ b) in
    let ascends = rising_ascends sorted (sorted_rises sorted c.sorted-made.ensures.sorted others) in
    let moved = c.sorted-made.ensures.permutation in
    subst (λ (l : List Labels). AreApart c.args.made.items (Some l)) (sym c.from_vec.ensures) (same_moved c.args.made.items sorted moved, ascends, none_repeated c.args.made.items sorted moved ascends)
