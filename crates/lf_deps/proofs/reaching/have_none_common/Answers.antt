use Rattle.std.proofs.Common.{◌≡◌, ℕ, [], get_or, List, inl, inr, sym, ◌∙◌, ap, subst, arith}
use Rattle.std.specs.List.{Contains}
use Rattle.std.proofs.lemmas.Bool.{cases_lt}
use Rattle.lf_ast.specs.Labels.{Bytes}
use Rattle.lf_semantics.specs.Listing.{place}
use Rattle.lf_semantics.proofs.ListingLaws.{place_within}
use Rattle.lf_semantics.proofs.Places.{placed_there}
use Rattle.std.proofs.lemmas.List.Elements.{Contains-get_or}
use Rattle.lf_deps.proofs.Reached.{text_place}
use Rattle.lf_deps.proofs.reaching.have_none_common.Goals as goal

pub returns-then-place-len-clause-common : goal.returns-then-place-len-clause-common
returns-then-place-len-clause-common c told =
    let left : List Bytes = c.args.left.now in
    let right : List Bytes = c.args.right.now in
    let name : Bytes = get_or left c.loop-k.k [] in
    let e : c.place.result ≡ place right name = c.place.ensures.place ∙ ap (place right) (c.as_str.ensures ∙ c.get.ensures) in
    let n = c.len.ensures.count in
    let t = c.if-place-len.true in
    (name, Contains-get_or left c.loop-k.k [] (omega (arith, c.loop-k-test.true, c.len-k-end.ensures.count)), placed_there right name (omega (arith, e, n, t)))

pub loop-k-preserved : goal.loop-k-preserved
loop-k-preserved c j h d =
    let left : List Bytes = c.args.left.now in
    let right : List Bytes = c.args.right.now in
    elim (cases_lt j c.loop-k.k) [
      | inl b ↦ c.loop-k.invariant j b d
      | inr b ↦
          let same : j ≡ c.loop-k.k = omega (arith, h, b) in
          let e : c.place.result ≡ place right (get_or left j []) = c.place.ensures.place ∙ ap (place right) (c.as_str.ensures ∙ c.get.ensures ∙ ap (λ (i : ℕ). get_or left i []) (sym same)) in
          let w = place_within right (get_or left j []) d in
          let n = c.len.ensures.count in
          let f = c.if-place-len.false in
          absurd (omega (arith, e, w, n, f))
    ]

pub returns-clause-none : goal.returns-clause-none
returns-clause-none c told name a b =
    let left : List Bytes = c.args.left.now in
    let at = text_place left name a in
    let P : Bytes → Type 0 = λ z. Contains c.args.right.now z in
    c.loop-k.invariant at.0 (omega (arith, at.1, c.loop-k-test.false, c.len-k-end.ensures.count)) (subst P (sym at.2) b)
