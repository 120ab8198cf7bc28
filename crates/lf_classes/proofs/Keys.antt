-- Where a text stands among texts, and what one more text changes of it.
use Rattle.std.proofs.Common.{◌≡◌, ◌≤◌, ℕ, ◌+◌, Bool, true, false, cond, List, [], ◌∷◌, ◌++◌, length, ltb, Option, Some, None, refl, sym, ap, ◌∙◌, arith}
use Rattle.std.specs.List.{position_from}
use Rattle.std.specs.Option.{option_map_or}
use Rattle.std.specs.Prelude.{position}
use Rattle.std.specs.Str.{bytes_eq}
use Rattle.std.proofs.lemmas.Iterator.Adapters.{position_from-zero}
use Rattle.lf_ast.specs.Labels.{Bytes}
use Rattle.lf_semantics.specs.Listing.{place}
use Rattle.lf_semantics.proofs.Places.{place_le}

-- where it is found
pub found_at : (p n : ℕ) (b : Bool) (i : ℕ) → ltb p n ≡ b → cond b (Some p) None ≡ Some i → i ≡ p
found_at p n true i e h = sym (ap (λ o. option_map_or (λ k. k) o 0) h)
found_at p n false i e h = absurd (cc)

pub found_none : (p n : ℕ) (b : Bool) → ltb p n ≡ b → ◌≡◌ {A = Option ℕ} (cond b (Some p) None) None → n ≤ p
found_none p n true e h = absurd (cc)
found_none p n false e h = grind arith

-- a text that isn't there has the place behind the last
pub no_place : (texts : List Bytes) (text : Bytes) → position (λ other. bytes_eq other text) texts ≡ None → place texts text ≡ length texts
no_place texts text h = let behind = found_none (place texts text) (length texts) _ refl h in omega (arith, behind, place_le texts text)

-- what is found first, or else the last
abbrev pub or_last : Option ℕ → Option ℕ → Option ℕ
or_last None last = last
or_last (Some k) last = Some k

-- with one more behind, whose place is n
pushed : {X : Type 0} (test : X → Bool) (xs : List X) (y : X) (i n : ℕ) → n ≡ i + length xs → or_last (position_from test i xs) (cond (test y) (Some n) None) ≡ position_from test i (xs ++ y ∷ [])
pushed test [] y i n e = ap (λ k. cond (test y) (Some k) None) (omega (arith, e))
pushed test (x ∷ xs) y i n e = by (test x) (pushed test xs y (i + 1) n (omega (arith, e)))
  where
    by : (b : Bool) → or_last (position_from test (i + 1) xs) (cond (test y) (Some n) None) ≡ position_from test (i + 1) (xs ++ y ∷ [])
        → or_last (cond b (Some i) (position_from test (i + 1) xs)) (cond (test y) (Some n) None) ≡ cond b (Some i) (position_from test (i + 1) (xs ++ y ∷ []))
    by true rest = refl
    by false rest = rest

pub or_none : (found : Option ℕ) → found ≡ or_last found None
or_none None = refl
or_none (Some k) = refl

-- where texts stand once one is put behind them
pub position_pushed : (texts : List Bytes) (new text : Bytes)
    → or_last (position (λ other. bytes_eq other text) texts) (cond (bytes_eq new text) (Some (length texts)) None) ≡ position (λ other. bytes_eq other text) (texts ++ new ∷ [])
position_pushed texts new text =
    ap (λ found. or_last found (cond (bytes_eq new text) (Some (length texts)) None)) (position_from-zero test texts)
    ∙ pushed test texts new 0 (length texts) (omega arith)
    ∙ sym (position_from-zero test (texts ++ new ∷ []))
  where
    test : Bytes → Bool
    test other = bytes_eq other text
