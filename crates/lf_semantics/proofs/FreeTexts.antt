-- Of one more numbered texts than are taken, one is free.
use Rattle.std.proofs.Common.{◌≡◌, ◌<◌, ◌^◌, ℕ, ◌+◌, eqb, true, List, ◌∷◌, get_or, drop, map, length, sym, ap, subst, ◌∙◌, arith}
use Rattle.std.specs.Prelude.{decimal}
use Rattle.std.specs.List.{Contains, IsDistinct, list_any, range_with_len}
use Rattle.std.proofs.lemmas.Bool.{eqb-true, false_from_ne_true}
use Rattle.std.proofs.lemmas.Fmt.{decimal_injective}
use Rattle.std.proofs.lemmas.List.{length-map}
use Rattle.std.proofs.lemmas.List.FromFn.{get_or-map-range_with_len, length-range_with_len}
use Rattle.std.proofs.lemmas.Map.Keys.{IsDistinct-from_apart}
use Rattle.std.proofs.lemmas.Map.Steps.{length-le_from_distinct_below}
use Rattle.std.proofs.lemmas.Map.Views.{Contains-from_any}
use Rattle.lf_ast.specs.Labels.{Bytes}
use Rattle.lf_semantics.specs.Listing.{place}
use Rattle.lf_semantics.proofs.ListingLaws.{place_within}
use Rattle.lf_semantics.proofs.Places.{same_text}

module _ (letter : ℕ) (taken : List Bytes) (small : length taken < 2 ^ 63) where
  abbrev pub numbered : ℕ → Bytes
  numbered j = letter ∷ decimal (j + 1)

  module _ (all : (j : ℕ) → j < length taken + 1 → Contains taken (numbered j)) where
    abbrev at : ℕ → ℕ
    at j = place taken (numbered j)

    abbrev places : List ℕ
    places = map at (range_with_len 0 (length taken + 1))

    count : length places ≡ length taken + 1
    count = length-map (range_with_len 0 (length taken + 1)) at ∙ length-range_with_len 0 (length taken + 1)

    within : (j : ℕ) → j < length taken + 1 → at j < length taken
    within j h = place_within taken (numbered j) (all j h)

    read : (i d : ℕ) → i < length taken + 1 → get_or places i d ≡ at i
    read i d h = get_or-map-range_with_len at 0 (length taken + 1) i i d h (omega arith)

    apart : (i j : ℕ) → i < j → j < length taken + 1 → at i ≡ at j → ⊥
    apart i j less h e =
        let same : numbered i ≡ numbered j = same_text taken (numbered i) (numbered j) (within i (omega (arith, less, h))) e in
        let numbers : i + 1 ≡ j + 1 = decimal_injective (i + 1) (j + 1) (omega (arith, less, h, small)) (omega (arith, h, small)) (ap (drop 1) same) in
        absurd (omega (arith, less, numbers))

    distinct : IsDistinct eqb places
    distinct =
        IsDistinct-from_apart eqb places
        (λ i j d less h. let under : j < length taken + 1 = omega (arith, h, count) in
        false_from_ne_true (eqb (get_or places i d) (get_or places j d))
        (λ e. apart i j less under (sym (read i d (omega (arith, less, under))) ∙ eqb-true (get_or places i d) (get_or places j d) e ∙ read j d under)))

    below : (q : ℕ) → list_any (eqb q) places ≡ true → q < length taken
    below q h =
        let c = Contains-from_any {eq = eqb} eqb-true q places h in
        let under : c.0 < length taken + 1 = let k = c.1 in omega (arith, k, count) in
        subst (λ x. x < length taken) (sym (read c.0 q under) ∙ c.2) (within c.0 under)

    pub one_free : ⊥
    one_free = let most = length-le_from_distinct_below places (length taken) distinct below in absurd (omega (arith, most, count))
