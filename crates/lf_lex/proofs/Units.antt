-- The units of a run, part by part.
use Rattle.std.proofs.Common.{◌≡◌, ℕ, suc, ◌+◌, ◌<◌, ◌≤◌, Bool, true, false, ◌&&◌, cond, eqb, leb, List, [], ◌∷◌, Option, Some, None, length, drop, refl, ap, arith, sym, ◌∙◌}
use Rattle.std.proofs.Common.{◌⊎◌, inl, inr}
use Rattle.std.proofs.lemmas.Bool.{cases_lt}
use Rattle.std.proofs.lemmas.Bool.Decides.{nat_tests}
use Rattle.std.proofs.lemmas.List.Sums.{prefix_len-drop_no, prefix_len-drop_all, prefix_len_stops}
use Rattle.std.specs.List.{prefix_len}
use Rattle.std.specs.Option.{option_map_or}
use Rattle.lf_base.specs.Names.{is_digit}
use Rattle.lf_lex.specs.reading.Runs.{place_of_letter, one_letter, unit_at, before, with_unit, units, rise, duration_order}

-- digits of a part are passed
pub units-row : (src : List ℕ) → units true src ≡ units true (drop (prefix_len is_digit src) src)
unfolding units
units-row [] = refl
units-row (b ∷ []) = by (is_digit b) refl
  where
    by : (t : Bool) → is_digit b ≡ t → units true (b ∷ []) ≡ units true (drop (cond (is_digit b) (1 + 0) 0) (b ∷ []))
    by true e = rw e refl
    by false e = let z : cond (is_digit b) (1 + 0) 0 ≡ 0 = rw e refl in ap (λ (n : ℕ). units true (drop n (b ∷ []))) (sym z)
units-row (b ∷ c ∷ more) = by (units-row (c ∷ more)) (is_digit b) refl
  where
    by : units true (c ∷ more) ≡ units true (drop (prefix_len is_digit (c ∷ more)) (c ∷ more)) → (t : Bool) → is_digit b ≡ t → units true (b ∷ c ∷ more) ≡ units true (drop (cond (is_digit b) (1 + prefix_len is_digit (c ∷ more)) 0) (b ∷ c ∷ more))
    by again true e = let k : 1 + prefix_len is_digit (c ∷ more) ≡ suc (prefix_len is_digit (c ∷ more)) = omega arith in rw (e, k) again
    by again false e = let z : cond (is_digit b) (1 + prefix_len is_digit (c ∷ more)) 0 ≡ 0 = rw e refl in ap (λ (n : ℕ). units true (drop n (b ∷ c ∷ more))) (sym z)

-- digits begin a part
units-begin : (src : List ℕ) → 0 < prefix_len is_digit src → units false src ≡ units true src
unfolding units
units-begin [] p = absurd (omega arith)
units-begin (b ∷ []) p = by (is_digit b) refl p
  where
    by : (t : Bool) → is_digit b ≡ t → 0 < cond (is_digit b) (1 + 0) 0 → units false (b ∷ []) ≡ units true (b ∷ [])
    by true e p = rw e refl
    by false e p = absurd (let h = rw e at p in omega arith)
units-begin (b ∷ c ∷ more) p = by (is_digit b) refl p
  where
    by : (t : Bool) → is_digit b ≡ t → 0 < cond (is_digit b) (1 + prefix_len is_digit (c ∷ more)) 0 → units false (b ∷ c ∷ more) ≡ units true (b ∷ c ∷ more)
    by true e p = rw e refl
    by false e p = absurd (let h = rw e at p in omega arith)

pub units-digits : (src : List ℕ) → 0 < prefix_len is_digit src → units false src ≡ units true (drop (prefix_len is_digit src) src)
units-digits src p = units-begin src p ∙ units-row src

-- a part begins with a digit
pub units-none : (src : List ℕ) → 0 < length src → prefix_len is_digit src ≤ 0 → units false src ≡ None
unfolding units
units-none [] lt p = absurd (omega arith)
units-none (b ∷ []) lt p = by (is_digit b) refl p
  where
    by : (t : Bool) → is_digit b ≡ t → cond (is_digit b) (1 + 0) 0 ≤ 0 → units false (b ∷ []) ≡ None
    by true e p = rw e refl
    by false e p = rw e refl
units-none (b ∷ c ∷ more) lt p = by (is_digit b) refl p
  where
    by : (t : Bool) → is_digit b ≡ t → cond (is_digit b) (1 + prefix_len is_digit (c ∷ more)) 0 ≤ 0 → units false (b ∷ c ∷ more) ≡ None
    by true e p = absurd (let h = rw e at p in omega arith)
    by false e p = rw e refl

abbrev pub unit_first : List ℕ → Option (ℕ × ℕ) → Option (List ℕ)
unit_first src None = None
unit_first src (Some unit) = before unit.0 (units false (drop unit.1 src))

one-letter-first : (b : ℕ) (src : List ℕ) (o : Option ℕ) → with_unit o (units false src) ≡ unit_first (b ∷ src) (one_letter o)
one-letter-first b src None = refl
one-letter-first b src (Some place) = refl

-- behind the digits stands a unit
pub units-unit : (src : List ℕ) → prefix_len is_digit src ≤ 0 → units true src ≡ unit_first src (unit_at src)
unfolding units unit_at
units-unit [] p = refl
units-unit (b ∷ []) p = by (is_digit b) refl p
  where
    by : (t : Bool) → is_digit b ≡ t → cond (is_digit b) (1 + 0) 0 ≤ 0 → units true (b ∷ []) ≡ unit_first (b ∷ []) (unit_at (b ∷ []))
    by true e p = absurd (let h = rw e at p in omega arith)
    by false e p = rw e (one-letter-first b [] (place_of_letter b))
units-unit (b ∷ c ∷ more) p = by (is_digit b) refl p
  where
    ms : (t : Bool) → cond t (before 6 (units false more)) (with_unit (place_of_letter b) (units false (c ∷ more))) ≡ unit_first (b ∷ c ∷ more) (cond t (Some (6, 2)) (one_letter (place_of_letter b)))
    ms true = refl
    ms false = one-letter-first b (c ∷ more) (place_of_letter b)

    by : (t : Bool) → is_digit b ≡ t → cond (is_digit b) (1 + prefix_len is_digit (c ∷ more)) 0 ≤ 0 → units true (b ∷ c ∷ more) ≡ unit_first (b ∷ c ∷ more) (unit_at (b ∷ c ∷ more))
    by true e p = absurd (let h = rw e at p in omega arith)
    by false e p = rw e (ms (eqb b 109 && eqb c 115))

-- whether the units stand in order, where some were read before
abbrev pub order_so_far : Bool → ℕ → Option (List ℕ) → Option Bool
order_so_far ordered least places = option_map_or (λ places. Some (ordered && rise least places)) places None

pub order-start : (run : List ℕ) → order_so_far true 0 (units false run) ≡ duration_order run
order-start run = by (units false run)
  where
    by : (o : Option (List ℕ)) → order_so_far true 0 o ≡ option_map_or (λ places. Some (rise 0 places)) o None
    by None = refl
    by (Some ps) = refl

pub order-more : (ordered : Bool) (least place : ℕ) (o : Option (List ℕ)) → order_so_far ordered least (before place o) ≡ order_so_far (ordered && leb least place) (place + 1) o
order-more true least place None = refl
order-more false least place None = refl
order-more true least place (Some ps) = let e : suc place ≡ place + 1 = omega arith in rw e refl
order-more false least place (Some ps) = refl

pub order-end : (ordered : Bool) (least : ℕ) → order_so_far ordered least (units false []) ≡ Some ordered
unfolding units
order-end true least = refl
order-end false least = refl

-- ---- one part

-- nothing of a row is left behind it
pub row-stops : (p : ℕ → Bool) (src : List ℕ) → prefix_len p (drop (prefix_len p src) src) ≤ 0
row-stops p src = by (cases_lt (prefix_len p src) (length src))
  where
    by : (prefix_len p src < length src) ⊎ (length src ≤ prefix_len p src) → prefix_len p (drop (prefix_len p src) src) ≤ 0
    by (inl lt) = let e = prefix_len-drop_no p src (prefix_len p src) 0 lt (prefix_len_stops p src 0 lt) in omega arith
    by (inr le) = let e = prefix_len-drop_all p src (prefix_len p src) le in omega arith

module _ (ordered : Bool) (least : ℕ) (rest : List ℕ) (digits : ℕ) (row : digits ≡ prefix_len is_digit rest) where
  pub part-none : 0 < length rest → digits ≡ 0 → order_so_far ordered least (units false rest) ≡ None
  part-none lt z = rw (units-none rest lt (omega arith)) refl

  module _ (some : 0 < digits) where
    behind : units false rest ≡ unit_first (drop digits rest) (unit_at (drop digits rest))
    behind =
        let p : 0 < prefix_len is_digit rest = omega arith in
        let q : prefix_len is_digit (drop digits rest) ≤ 0 = rw row (row-stops is_digit rest) in
        units-digits rest p ∙ ap (λ (n : ℕ). units true (drop n rest)) (sym row) ∙ units-unit (drop digits rest) q

    pub part-wrong : None ≡ unit_at (drop digits rest) → order_so_far ordered least (units false rest) ≡ None
    part-wrong e = rw (behind, ← e) refl

    pub part-read : (place len : ℕ) → Some (place, len) ≡ unit_at (drop digits rest) → order_so_far ordered least (units false rest) ≡ order_so_far (ordered && leb least place) (place + 1) (units false (drop len (drop digits rest)))
    part-read place len e = rw (behind, ← e) (order-more ordered least place _)

pub order-ended : (ordered : Bool) (least : ℕ) (rest : List ℕ) → length rest ≤ 0 → order_so_far ordered least (units false rest) ≡ Some ordered
order-ended ordered least [] z = order-end ordered least
order-ended ordered least (b ∷ rest) z = absurd (omega arith)

pub not-empty : (n : ℕ) (r : Bool) → r ≡ eqb n 0 → r ≡ false → 0 < n
not-empty n r e f = grind (arith, nat_tests)

pub is-empty : (n : ℕ) (r : Bool) → r ≡ eqb n 0 → r ≡ true → n ≤ 0
is-empty n r e f = grind (arith, nat_tests)
