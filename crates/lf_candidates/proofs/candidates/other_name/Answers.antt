use Rattle.std.proofs.Common.{◌≡◌, ◌<◌, ◌+◌, ◌++◌, codes, length, sym, ap, subst, ◌∙◌, arith, below_more}
use Rattle.std.specs.Prelude.{decimal}
use Rattle.std.specs.List.{Contains}
use Rattle.lf_semantics.specs.Listing.{place}
use Rattle.lf_semantics.proofs.ListingLaws.{place_within}
use Rattle.lf_semantics.proofs.Places.{placed_there}
use Rattle.lf_candidates.proofs.Labelled.{is_other_name, some_other_name}
use Rattle.lf_candidates.proofs.candidates.other_name.Goals as goal

pub returns-then-label_of-star : goal.returns-then-label_of-star
returns-then-label_of-star c =
    let u = c.args.universe.now in
    let within = c.labels-star.ensures.within in
    let last : place u.names c.in_ok-name.name ≡ length u.names =
    ap (place u.names) (sym c.as_str.ensures) ∙ (let at = c.label_of.ensures.number in let is = c.if-label_of-star.true in let all = c.labels-star.ensures.count in let more = within.listing.count in omega (arith, at, is, all, more)) in
    is_other_name u within c.in_ok-name.name
    (c.loop-number.number, c.in_ok-name.ensures, (λ there. let less = place_within u.names c.in_ok-name.name there in absurd (omega (arith, less, last))), c.loop-number.invariant)

pub loop-number-preserved : goal.loop-number-preserved
loop-number-preserved c =
    let u = c.args.universe.now in
    let at : place u.names c.in_ok-name.name ≡ c.label_of.result = ap (place u.names) (sym c.as_str.ensures) ∙ sym c.label_of.ensures.number in
    let less : place u.names c.in_ok-name.name < length u.names =
    (let no = c.if-label_of-star.false in let most = c.label_of.ensures.within in let all = c.labels-star.ensures.count in let more = c.labels-star.ensures.within.listing.count in omega (arith, at, no, most, all, more)) in
    below_more (λ j. Contains u.names (codes "x" ++ decimal (j + 1))) c.loop-number.number c.loop-number.invariant (subst (Contains u.names) c.in_ok-name.ensures (placed_there u.names c.in_ok-name.name less))

pub unreachable-requires : goal.unreachable-requires
unreachable-requires c =
    let u = c.args.universe.now in
    let within = c.labels-star.ensures.within in
    some_other_name u within
    (λ j h. c.loop-number.invariant j (let all = c.labels-star.ensures.count in let more = within.listing.count in let done = c.loop-number-test.false in omega (arith, h, all, more, done)))
