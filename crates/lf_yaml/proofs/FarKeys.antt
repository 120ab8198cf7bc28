-- Keys between quotes whose `:` stands too far behind: what closes them, and what stands before the `:`.
use Rattle.std.proofs.Common.{◌≡◌, ℕ, zero, suc, ◌+◌, ◌-◌, ◌<◌, ◌≤◌, Bool, false, List, [], ◌∷◌, Option, Some, None, length, get_or, take, drop, refl, ap, arith, sym, ◌∙◌, inl, inr, ◌&&◌}
use Rattle.std.specs.Prelude.{nat_lt}
use Rattle.std.specs.List.{flat_map}
use Rattle.std.proofs.lemmas.List.Sums.{take_while-cons}
use Rattle.std.proofs.lemmas.Bool.{lt-ltb, le-ltb}
use Rattle.std.proofs.lemmas.Bool.Decides.{eqb_tells}
use Rattle.std.proofs.lemmas.Option.{none-some}
use Rattle.lf_scalar.specs.declared.quotes.Quotes.{Quotes}
use Rattle.lf_scalar.specs.declared.quotes.Quotes.TheVariants.{Single, Double}
use Rattle.lf_scalar.specs.Cells.{Cell, cell, cells}
use Rattle.lf_scalar.specs.Lines.{after_blanks}
use Rattle.lf_scalar.specs.Plain.{before_blank}
use Rattle.lf_scalar.specs.Quoted.{raw, Closes}
use Rattle.lf_scalar.specs.reading.Quoted.{closing_of}
use Rattle.lf_scalar.specs.Splits.{Split, behind_cell}
use Rattle.lf_scalar.proofs.Closing.{closes-again}
use Rattle.lf_yaml.specs.Keys.{closed_in, quotes_of, is_too_far, before_offset, has_far_sign, is_far_behind, is_far_between, has_far_key}
use Rattle.lf_yaml.specs.reading.Trees.{sign_if, sign_behind, behind_closing}

-- ---- what closes

pub closed-is : (kind : Quotes) (cs : List Cell) → closed_in kind cs ≡ closing_of kind 0 cs
unfolding closed_in closing_of
closed-is kind [] = refl
closed-is Single (c ∷ []) =
    elim (eqb_tells c.byte 39) [
      | inl a ↦ rw a.0 refl
      | inr a ↦ rw a.0 refl
    ]
closed-is Single (c ∷ d ∷ cs) =
    elim (eqb_tells c.byte 39) [
      | inl a ↦ elim (eqb_tells d.byte 39) [
        | inl b ↦ rw (a.0, b.0) (ap (λ (o : Option Split). behind_cell c (behind_cell d o)) (closed-is Single cs))
        | inr b ↦ rw (a.0, b.0) refl
      ]
      | inr a ↦ rw a.0 (ap (behind_cell c) (closed-is Single (d ∷ cs)))
    ]
closed-is Double (c ∷ []) =
    elim (eqb_tells c.byte 34) [
      | inl a ↦ rw a.0 refl
      | inr a ↦ rw a.0 refl
    ]
closed-is Double (c ∷ d ∷ cs) =
    elim (eqb_tells c.byte 34) [
      | inl a ↦ rw a.0 refl
      | inr a ↦ elim (eqb_tells c.byte 92) [
        | inl b ↦ rw (a.0, b.0) (ap (λ (o : Option Split). behind_cell c (behind_cell d o)) (closed-is Double cs))
        | inr b ↦ rw (a.0, b.0) (ap (behind_cell c) (closed-is Double (d ∷ cs)))
      ]
    ]

-- it is what `Closes` says
pub closes-in : (kind : Quotes) (cs : List Cell) (c : Closes kind cs) → closed_in kind cs ≡ Some (flat_map raw c.raws, (c.closing, c.rest))
closes-in kind cs c = closed-is kind cs ∙ closes-again kind cs c

pub none-in : (kind : Quotes) (cs : List Cell) → closed_in kind cs ≡ None → Closes kind cs → ⊥
none-in kind cs n c = let x : Split = (flat_map raw c.raws, (c.closing, c.rest)) in none-some x (sym n ∙ closes-in kind cs c)

-- ---- the sign behind it

-- the same of what reads a row
abbrev pub far_apart : List Cell → Option (Cell × List Cell) → Bool
far_apart text None = false
far_apart text (Some x) = before_blank x.1 && is_too_far (before_offset x.0.at text)

far-sign : (text after : List Cell) → has_far_sign text after ≡ far_apart text (sign_if after)
far-sign text [] = refl
far-sign text (c ∷ cs) =
    elim (eqb_tells c.byte 58) [
      | inl a ↦ rw a.0 refl
      | inr a ↦ rw a.0 refl
    ]

far-closing : (text : List Cell) (o : Option Split) → is_far_behind text o ≡ far_apart text (sign_behind (behind_closing o))
far-closing text None = refl
far-closing text (Some x) = far-sign text (after_blanks x.1.1)

pub far-behind : (text inside : List Cell) (kind : Quotes) → is_far_behind text (closed_in kind inside) ≡ far_apart text (sign_behind (behind_closing (closing_of kind 0 inside)))
far-behind text inside kind = ap (is_far_behind text) (closed-is kind inside) ∙ far-closing text (closing_of kind 0 inside)

-- ---- what stands before the sign

pub before-at : (at n : ℕ) (text : List ℕ) → before_offset (at + n) (cells at text) ≡ cells at (take n text)
before-at at zero [] = refl
before-at at (suc n) [] = refl
before-at at zero (b ∷ text) = take_while-cons (λ (c : Cell). nat_lt c.at (at + zero)) (cell b at) (cells (suc at) text) ∙ rw (le-ltb at (at + zero) (omega arith)) refl
before-at at (suc n) (b ∷ text) =
    let z : at + suc n ≡ suc at + n = omega arith in
    take_while-cons (λ (c : Cell). nat_lt c.at (at + suc n)) (cell b at) (cells (suc at) text) ∙ rw (lt-ltb at (at + suc n) (omega arith))
    (ap (λ (cs : List Cell). cell b at ∷ cs) (ap (λ (m : ℕ). before_offset m (cells (suc at) text)) z ∙ before-at (suc at) n text))

pub far-at : (at colon : ℕ) (text front : List ℕ) (b : Bool) → at ≤ colon → front ≡ take (colon - at) text → b ≡ is_too_far (cells at front) → b ≡ is_too_far (before_offset colon (cells at text))
far-at at colon text front b le f e =
    let z : at + (colon - at) ≡ colon = omega arith in
    e ∙ ap (λ (xs : List ℕ). is_too_far (cells at xs)) f ∙ ap is_too_far (sym (before-at at (colon - at) text)) ∙ ap (λ (m : ℕ). is_too_far (before_offset m (cells at text))) z

-- ---- as the code finds it

-- the sign behind a key between quotes
abbrev pub sign_in : Quotes → ℕ → List ℕ → Option (Cell × List Cell)
sign_in kind at text = sign_behind (behind_closing (closing_of kind 0 (cells (suc at) (drop 1 text))))

far-by : (at : ℕ) (text : List ℕ) (o : Option Quotes) → 0 < length text → o ≡ quotes_of (cell (get_or text 0 0) at) → has_far_key (cells at text) ≡ is_far_between (cells at text) (cells (suc at) (drop 1 text)) o
far-by at [] o lt e = absurd (omega arith)
far-by at (b ∷ text) o lt e = ap (is_far_between (cell b at ∷ cells (suc at) text) (cells (suc at) text)) (sym e)

pub no-quote-far : (at : ℕ) (text : List ℕ) → 0 < length text → None ≡ quotes_of (cell (get_or text 0 0) at) → false ≡ has_far_key (cells at text)
no-quote-far at text lt e = sym (far-by at text None lt e)

pub quote-far : (kind : Quotes) (at : ℕ) (text : List ℕ) (o : Option (Cell × List Cell)) (b : Bool) → 0 < length text → Some kind ≡ quotes_of (cell (get_or text 0 0) at) → o ≡ sign_in kind at text → b ≡ far_apart (cells at text) o → b ≡ has_far_key (cells at text)
quote-far kind at text o b lt e s h =
    h ∙ ap (far_apart (cells at text)) s ∙ sym (far-behind (cells at text) (cells (suc at) (drop 1 text)) kind) ∙ sym (far-by at text (Some kind) lt e)
