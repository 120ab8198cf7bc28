-- The lines of a source by its first cell.
use Rattle.std.proofs.Common.{◌≡◌, ℕ, true, false, eqb, List, [], ◌∷◌, eq-eqb, refl, ap, ◌∙◌, ◌⊎◌, inl, inr, ◌&&◌}
use Rattle.std.proofs.lemmas.Bool.Decides.{eqb_tells}
use Rattle.lf_scalar.specs.Cells.{Cell}
use Rattle.lf_scalar.specs.Lines.{Line, line, begins_with, lengthen, lines, first_text}

-- a carriage return before a line feed
pub record IsReturn (c : Cell) (src : List Cell) : Type 0 where
  pub return : c.byte ≡ 13
  pub feed : Cell
  pub rest : List Cell
  pub source : src ≡ feed ∷ rest
  pub is_feed : feed.byte ≡ 10

-- neither a line feed nor a carriage return before one
pub record IsOther (c : Cell) (src : List Cell) : Type 0 where
  pub no_feed : eqb c.byte 10 ≡ false
  pub no_return : (eqb c.byte 13 && begins_with 10 src) ≡ false

pub line-step : (c : Cell) (src : List Cell) → (c.byte ≡ 10) ⊎ (IsReturn c src ⊎ IsOther c src)
line-step c src =
    elim (eqb_tells c.byte 10) [
      | inl a ↦ inl a.1
      | inr a ↦ elim (eqb_tells c.byte 13) [
        | inl b ↦ returns src a.0 b
        | inr b ↦ inr (inr (record { no_feed = a.0; no_return = rw b.0 refl }))
      ]
    ]
  where
    returns : (src : List Cell) → eqb c.byte 10 ≡ false → (eqb c.byte 13 ≡ true) × (c.byte ≡ 13) → (c.byte ≡ 10) ⊎ (IsReturn c src ⊎ IsOther c src)
    returns [] a b = inr (inr (record { no_feed = a; no_return = rw b.0 refl }))
    returns (d ∷ src) a b =
        elim (eqb_tells d.byte 10) [
          | inl f ↦ inr (inl (record { return = b.1; feed = d; rest = src; source = refl; is_feed = f.1 }))
          | inr f ↦ inr (inr (record { no_feed = a; no_return = rw (b.0, f.0) refl }))
        ]

pub lines-nil : (end : ℕ) → lines end [] ≡ []
unfolding lines
lines-nil end = refl

pub lines-feed : (end : ℕ) (c : Cell) (src : List Cell) → c.byte ≡ 10 → lines end (c ∷ src) ≡ line [] c.at ∷ lines end src
unfolding lines
lines-feed end c src e = rw (eq-eqb c.byte 10 e) refl

pub not-feed : (b : ℕ) → b ≡ 13 → eqb b 10 ≡ false
not-feed b e = rw e refl

return-feed : (end : ℕ) (c d : Cell) (rest : List Cell) → c.byte ≡ 13 → d.byte ≡ 10 → lines end (c ∷ d ∷ rest) ≡ line [] d.at ∷ lines end rest
unfolding lines
return-feed end c d rest e f = rw (not-feed c.byte e, eq-eqb c.byte 13 e, eq-eqb d.byte 10 f) refl

pub lines-return : (end : ℕ) (c : Cell) (src : List Cell) (r : IsReturn c src) → lines end (c ∷ src) ≡ line [] r.feed.at ∷ lines end r.rest
lines-return end c src r = ap (λ (x : List Cell). lines end (c ∷ x)) r.source ∙ return-feed end c r.feed r.rest r.return r.is_feed

pub lines-other : (end : ℕ) (c : Cell) (src : List Cell) → IsOther c src → lines end (c ∷ src) ≡ lengthen end c (lines end src)
unfolding lines
lines-other end c src o = rw (o.no_feed, o.no_return) refl

-- the first line of a source that goes on
pub first-lengthen : (end : ℕ) (c : Cell) (ls : List Line) → first_text (lengthen end c ls) ≡ c ∷ first_text ls
first-lengthen end c [] = refl
first-lengthen end c (l ∷ ls) = refl
