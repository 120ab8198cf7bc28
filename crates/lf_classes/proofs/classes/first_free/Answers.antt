use Rattle.std.proofs.Common.{◌≡◌, ◌+◌, ◌++◌, codes, length, sym, ap, subst, ◌∙◌, arith, below_more}
use Rattle.std.specs.Prelude.{decimal}
use Rattle.std.specs.List.{Contains}
use Rattle.lf_semantics.specs.Listing.{place}
use Rattle.lf_semantics.proofs.FreeTexts.{one_free}
use Rattle.lf_semantics.proofs.ListingLaws.{place_within}
use Rattle.lf_semantics.proofs.Places.{placed_there}
use Rattle.lf_classes.proofs.classes.first_free.Goals as goal

pub returns-then-place-count : goal.returns-then-place-count
returns-then-place-count c =
    let at : place c.args.taken.now c.in_ok-text.text ≡ length c.args.taken.now = ap (place c.args.taken.now) (sym c.as_str.ensures) ∙ sym c.place.ensures.place ∙ c.if-place-count.true ∙ c.len-count.ensures.count in
    (c.loop-number.number, c.in_ok-text.ensures, (λ there. let less = place_within c.args.taken.now c.in_ok-text.text there in absurd (omega (arith, less, at))), c.loop-number.invariant)

pub loop-number-preserved : goal.loop-number-preserved
loop-number-preserved c =
    let at : place c.args.taken.now c.in_ok-text.text ≡ c.place.result = ap (place c.args.taken.now) (sym c.as_str.ensures) ∙ sym c.place.ensures.place in
    let within = c.place.ensures.within in
    let no = c.if-place-count.false in
    let there : Contains c.args.taken.now c.in_ok-text.text = placed_there c.args.taken.now c.in_ok-text.text (omega (arith, at, within, no, c.len-count.ensures.count)) in
    below_more (λ j. Contains c.args.taken.now (codes "v" ++ decimal (j + 1))) c.loop-number.number c.loop-number.invariant (subst (λ t. Contains c.args.taken.now t) c.in_ok-text.ensures there)

pub unreachable-requires : goal.unreachable-requires
unreachable-requires c =
    one_free 118 c.args.taken.now (omega (arith, c.len-count.ensures.count, c.len-count.ensures.small))
    (λ j h. c.loop-number.invariant j (omega (arith, h, c.len-count.ensures.count, c.loop-number-test.false)))
