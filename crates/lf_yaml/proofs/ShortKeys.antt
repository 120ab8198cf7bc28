-- A text that is short and doesn't begin as a null has no key without quotes that is left out.
use Rattle.std.proofs.Common.{◌≡◌, ℕ, ◌≤◌, ◌==◌, ◌&&◌, ◌||◌, Bool, true, false, List, [], ◌∷◌, ◌++◌, Option, Some, None, length, length-append, refl, ap, arith, subst, sym, ◌∙◌, inl, inr}
use Rattle.std.specs.List.{list_all}
use Rattle.std.proofs.lemmas.Bool.{cases_Bool, le-ltb}
use Rattle.lf_scalar.specs.Cells.{Cell, cells}
use Rattle.lf_scalar.specs.Folding.{trimmed}
use Rattle.lf_scalar.specs.Lines.{is_blank}
use Rattle.lf_scalar.specs.Plain.{before_blank, begins_plain, is_null}
use Rattle.lf_scalar.specs.Splits.{Split}
use Rattle.lf_scalar.proofs.Cells.{cells-length}
use Rattle.lf_yaml.specs.Keys.{key_in, never, begins_character, characters, has_bare_left_out}
use Rattle.lf_yaml.specs.views.Signs.{begins_null}
use Rattle.lf_yaml.proofs.FlowKeys.{split-source}
use Rattle.lf_yaml.proofs.KeyText.{by, tested}

-- ---- how many characters

few-characters : (cs : List Cell) → characters cs ≤ length cs
few-characters [] = omega arith
few-characters (c ∷ cs) =
    let few = few-characters cs in
    elim (cases_Bool (begins_character c)) [
      | inl h ↦ rw h (omega (arith, few))
      | inr h ↦ rw h (omega (arith, few))
    ]

-- ---- null

-- of the four texts two begin with `N`
none-of : (n m t x y z w : Bool) → (n || (m || t)) ≡ false → ((n && x) || ((m && y) || ((m && z) || ((t && w) || false)))) ≡ false
none-of false false false x y z w e = refl
none-of true m t x y z w e = let no : true ≡ false = e in cc
none-of false true t x y z w e = let no : true ≡ false = e in cc
none-of false false true x y z w e = let no : true ≡ false = e in cc

no-null : (c : Cell) (cs : List Cell) → begins_null (c.byte ∷ []) ≡ false → is_null (c ∷ cs) ≡ false
no-null c cs e = none-of (c.byte == 110) (c.byte == 78) (c.byte == 126) _ _ _ _ e

no-null-trimmed : (c : Cell) (cs : List Cell) → begins_null (c.byte ∷ []) ≡ false → is_null (trimmed is_blank (c ∷ cs)) ≡ false
no-null-trimmed c cs e =
    elim (cases_Bool (is_blank c && list_all is_blank cs)) [
      | inl h ↦ rw h refl
      | inr h ↦ rw h (no-null c (trimmed is_blank cs) e)
    ]

-- ---- keys

abbrev first_byte : List Cell → ℕ
first_byte [] = 0
first_byte (c ∷ cs) = c.byte

first-kept : (at : ℕ) (text : List ℕ) → begins_null text ≡ false → (c : Cell) (cs : List Cell) → cells at text ≡ c ∷ cs → begins_null (c.byte ∷ []) ≡ false
first-kept at [] other c cs e = absurd cc
first-kept at (b ∷ bs) other c cs e = subst (λ (x : ℕ). begins_null (x ∷ []) ≡ false) (ap first_byte e) other

module _ (at : ℕ) (text : List ℕ) (few : length text ≤ 1024) (other : begins_null text ≡ false) where
  kept-front : (front : List Cell) (colon : Cell) (rest : List Cell) → cells at text ≡ front ++ colon ∷ rest → is_null (trimmed is_blank front) ≡ false
  kept-front [] colon rest source = refl
  kept-front (c ∷ cs) colon rest source = no-null-trimmed c cs (first-kept at text other c (cs ++ colon ∷ rest) source)

  kept : (o : Option Split) → key_in never before_blank (cells at text) ≡ o → false ≡ by o
  kept None e = refl
  kept (Some x) e =
      let source = split-source never before_blank (cells at text) x e in
      let lengths = ap length source ∙ length-append x.0 (x.1.0 ∷ x.1.1) in
      let whole = cells-length at text in
      let counted = few-characters x.0 in
      rw (kept-front x.0 x.1.0 x.1.1 source, le-ltb 1024 (characters x.0) (omega (arith, few, lengths, whole, counted))) refl

  pub short-key : false ≡ has_bare_left_out (cells at text)
  short-key =
      elim (cases_Bool (begins_plain (cells at text))) [
        | inl p ↦ kept (key_in never before_blank (cells at text)) refl ∙ sym (tested (cells at text) (key_in never before_blank (cells at text)) p refl)
        | inr p ↦ rw p refl
      ]
