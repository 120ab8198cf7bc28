-- What closes a quoted scalar is found, and pieces and lines leave it where it is.
use Rattle.std.proofs.Common.{◌≡◌, ◌≢◌, ℕ, zero, suc, ◌+◌, ◌*◌, ◌<◌, false, eqb, List, [], ◌∷◌, ◌++◌, Option, Some, None, length, eq-eqb, refl, ap, arith, append_assoc, sym, ◌∙◌, subst, ◌⊎◌, inl, inr}
use Rattle.std.specs.List.{flat_map, AllByRecursion}
use Rattle.std.proofs.lemmas.List.{append-nil}
use Rattle.std.proofs.lemmas.List.Concat.{flat_map-cons}
use Rattle.std.proofs.lemmas.Bool.{ne_eqb}
use Rattle.std.proofs.lemmas.Bool.Decides.{eqb_tells}
use Rattle.lf_scalar.specs.Cells.{Cell}
use Rattle.lf_scalar.specs.Quoted.{Quotes, Single, Double, quote_of, TellsNumber, QuotedPiece, Bare, Twice, Letter, Number, spelled, IsQuotedPiece, QuotedRaw, One, Pair, raw, IsQuotedRaw, ClosesBefore, Closes}
use Rattle.lf_scalar.specs.reading.Quoted.{closing_of}
use Rattle.lf_scalar.specs.Splits.{Split, behind_cell}
use Rattle.lf_base.specs.Names.{hexadecimal_value}

abbrev pub ahead : List Cell → Option Split → Option Split
ahead cs None = None
ahead cs (Some x) = Some (cs ++ x.0, x.1)

pub ahead-ahead : (a b : List Cell) (o : Option Split) → ahead a (ahead b o) ≡ ahead (a ++ b) o
ahead-ahead a b None = refl
ahead-ahead a b (Some x) = ap (λ (cs : List Cell). Some (cs, x.1)) (sym (append_assoc a b x.0))

behind-is : (c : Cell) (o : Option Split) → behind_cell c o ≡ ahead (c ∷ []) o
behind-is c None = refl
behind-is c (Some x) = refl

behind-are : (b e : Cell) (o : Option Split) → behind_cell b (behind_cell e o) ≡ ahead (b ∷ e ∷ []) o
behind-are b e None = refl
behind-are b e (Some x) = refl

pub no-quote : (b : ℕ) → b ≡ 92 → eqb b 34 ≡ false
no-quote b h = rw h refl

pub closing-one : (kind : Quotes) (r : QuotedRaw) (src : List Cell) → IsQuotedRaw kind r → closing_of kind 0 (raw r ++ src) ≡ ahead (raw r) (closing_of kind 0 src)
unfolding closing_of
closing-one Single (One c) src h = rw (ne_eqb c.byte 39 h) (behind-is c (closing_of Single 0 src))
closing-one Single (Pair b e) src h = rw (eq-eqb b.byte 39 h.0, eq-eqb e.byte 39 h.1) (behind-are b e (closing_of Single 0 src))
closing-one Double (One c) src h = rw (ne_eqb c.byte 34 h.0, ne_eqb c.byte 92 h.1) (behind-is c (closing_of Double 0 src))
closing-one Double (Pair b e) src h = rw (no-quote b.byte h, eq-eqb b.byte 92 h) (behind-are b e (closing_of Double 0 src))

-- bytes before the closing quote that stand for themselves
closing-ones : (cs src : List Cell) → AllByRecursion (λ c. (c.byte ≢ 34) × (c.byte ≢ 92)) cs → closing_of Double 0 (cs ++ src) ≡ ahead cs (closing_of Double 0 src)
closing-ones [] src each = nothing (closing_of Double 0 src)
  where
    nothing : (o : Option Split) → o ≡ ahead [] o
    nothing None = refl
    nothing (Some x) = refl
closing-ones (c ∷ cs) src each = closing-one Double (One c) (cs ++ src) each.0 ∙ ap (ahead (c ∷ [])) (closing-ones cs src each.1) ∙ ahead-ahead (c ∷ []) cs (closing_of Double 0 src)

digit-bare : (b d : ℕ) → hexadecimal_value b ≡ Some d → (b ≢ 34) × (b ≢ 92)
unfolding hexadecimal_value
digit-bare b d h = (λ e. none (subst (λ (k : ℕ). hexadecimal_value k ≡ Some d) e h), λ e. none (subst (λ (k : ℕ). hexadecimal_value k ≡ Some d) e h))
  where
    none : None ≡ Some d → ⊥
    none e = cc

digits-bare : (before : ℕ) (cs : List Cell) (n : ℕ) → TellsNumber before cs n → AllByRecursion (λ c. (c.byte ≢ 34) × (c.byte ≢ 92)) cs
digits-bare before [] n t = tt
digits-bare before (c ∷ cs) n (d, p, t) = (digit-bare c.byte d p, digits-bare (16 * before + d) cs n t)

pub closing-piece : (kind : Quotes) (p : QuotedPiece) (src : List Cell) → IsQuotedPiece kind p → closing_of kind 0 (spelled p ++ src) ≡ ahead (spelled p) (closing_of kind 0 src)
closing-piece Single (Bare c) src h = closing-one Single (One c) src h
closing-piece Single (Twice c d) src h = closing-one Single (Pair c d) src h
closing-piece Single (Letter b e n) src h = absurd h
closing-piece Single (Number b e digits n) src h = absurd h
closing-piece Double (Bare c) src h = closing-one Double (One c) src h
closing-piece Double (Twice c d) src h = absurd h
closing-piece Double (Letter b e n) src h = closing-one Double (Pair b e) src h.0
closing-piece Double (Number b e digits n) src h = closing-one Double (Pair b e) (digits ++ src) h.0 ∙ ap (ahead (b ∷ e ∷ [])) (closing-ones digits src (digits-bare 0 digits n h.2)) ∙ ahead-ahead (b ∷ e ∷ []) digits (closing_of Double 0 src)

pub closing-pieces : (kind : Quotes) (ps : List QuotedPiece) (src : List Cell) → AllByRecursion (IsQuotedPiece kind) ps → closing_of kind 0 (flat_map spelled ps ++ src) ≡ ahead (flat_map spelled ps) (closing_of kind 0 src)
closing-pieces kind [] src each = nothing (closing_of kind 0 src)
  where
    nothing : (o : Option Split) → o ≡ ahead [] o
    nothing None = refl
    nothing (Some x) = refl
closing-pieces kind (p ∷ ps) src each =
    let regrouped : flat_map spelled (p ∷ ps) ++ src ≡ spelled p ++ (flat_map spelled ps ++ src) = ap (λ (x : List Cell). x ++ src) (flat_map-cons spelled p ps) ∙ append_assoc (spelled p) (flat_map spelled ps) src in
    ap (closing_of kind 0) regrouped ∙ closing-piece kind p (flat_map spelled ps ++ src) each.0 ∙ ap (ahead (spelled p)) (closing-pieces kind ps src each.1) ∙ ahead-ahead (spelled p) (flat_map spelled ps) (closing_of kind 0 src)
    ∙ ap (λ (x : List Cell). ahead x (closing_of kind 0 src)) (sym (flat_map-cons spelled p ps))

closing-raws : (kind : Quotes) (rs : List QuotedRaw) (src : List Cell) → AllByRecursion (IsQuotedRaw kind) rs → closing_of kind 0 (flat_map raw rs ++ src) ≡ ahead (flat_map raw rs) (closing_of kind 0 src)
closing-raws kind [] src each = nothing (closing_of kind 0 src)
  where
    nothing : (o : Option Split) → o ≡ ahead [] o
    nothing None = refl
    nothing (Some x) = refl
closing-raws kind (p ∷ ps) src each =
    let regrouped : flat_map raw (p ∷ ps) ++ src ≡ raw p ++ (flat_map raw ps ++ src) = ap (λ (x : List Cell). x ++ src) (flat_map-cons raw p ps) ∙ append_assoc (raw p) (flat_map raw ps) src in
    ap (closing_of kind 0) regrouped ∙ closing-one kind p (flat_map raw ps ++ src) each.0 ∙ ap (ahead (raw p)) (closing-raws kind ps src each.1) ∙ ahead-ahead (raw p) (flat_map raw ps) (closing_of kind 0 src)
    ∙ ap (λ (x : List Cell). ahead x (closing_of kind 0 src)) (sym (flat_map-cons raw p ps))

closing-here : (kind : Quotes) (c : Cell) (rest : List Cell) → c.byte ≡ quote_of kind → ClosesBefore kind rest → closing_of kind 0 (c ∷ rest) ≡ Some ([], (c, rest))
unfolding closing_of
closing-here Single c rest e h = rw (eq-eqb c.byte 39 e, h) refl
closing-here Double c rest e h = rw (eq-eqb c.byte 34 e) refl

pub closes-again : (kind : Quotes) (src : List Cell) (c : Closes kind src) → closing_of kind 0 src ≡ Some (flat_map raw c.raws, (c.closing, c.rest))
closes-again kind src c =
    ap (closing_of kind 0) c.source ∙ closing-raws kind c.raws (c.closing ∷ c.rest) c.each ∙ ap (ahead (flat_map raw c.raws)) (closing-here kind c.closing c.rest c.closes c.alone)
    ∙ ap (λ (x : List Cell). Some (x, (c.closing, c.rest))) (append-nil (flat_map raw c.raws))

pub inner-again : (kind : Quotes) (src : List Cell) (c : Closes kind src) → closing_of kind 0 (flat_map raw c.raws ++ c.closing ∷ []) ≡ Some (flat_map raw c.raws, (c.closing, []))
inner-again kind src c =
    closing-raws kind c.raws (c.closing ∷ []) c.each ∙ ap (ahead (flat_map raw c.raws)) (closing-here kind c.closing [] c.closes (alone kind)) ∙ ap (λ (x : List Cell). Some (x, (c.closing, []))) (append-nil (flat_map raw c.raws))
  where
    alone : (kind : Quotes) → ClosesBefore kind []
    alone Single = refl
    alone Double = tt

-- ---- where nothing closes nothing is found

more-raw : (kind : Quotes) (r : QuotedRaw) (src : List Cell) → IsQuotedRaw kind r → Closes kind src → Closes kind (raw r ++ src)
more-raw kind r src h c = record {
  raws = r ∷ c.raws;
  each = (h, c.each);
  closing = c.closing;
  rest = c.rest;
  source = ap (λ (x : List Cell). raw r ++ x) c.source ∙ sym (append_assoc (raw r) (flat_map raw c.raws) (c.closing ∷ c.rest)) ∙ ap (λ (x : List Cell). x ++ c.closing ∷ c.rest) (sym (flat_map-cons raw r c.raws));
  closes = c.closes;
  alone = c.alone;
}

closes-here : (kind : Quotes) (c : Cell) (src : List Cell) → c.byte ≡ quote_of kind → ClosesBefore kind src → Closes kind (c ∷ src)
closes-here kind c src e h = record { raws = []; each = tt; closing = c; rest = src; source = refl; closes = e; alone = h }

abbrev Found : Quotes → List Cell → Type 0
Found kind src = Closes kind src ⊎ (closing_of kind 0 src ≡ None)

found-raw : (kind : Quotes) (r : QuotedRaw) (src : List Cell) → IsQuotedRaw kind r → Found kind src → Found kind (raw r ++ src)
found-raw kind r src h (inl c) = inl (more-raw kind r src h c)
found-raw kind r src h (inr n) = inr (closing-one kind r src h ∙ ap (ahead (raw r)) n)

pub closes-or-none : (kind : Quotes) (n : ℕ) (src : List Cell) → length src < n → Closes kind src ⊎ (closing_of kind 0 src ≡ None)
unfolding closing_of
closes-or-none kind zero src lt = absurd (omega arith)
closes-or-none kind (suc n) [] lt = inr refl
closes-or-none Single (suc n) (c ∷ []) lt =
    elim (eqb_tells c.byte 39) [
      | inl a ↦ inl (closes-here Single c [] a.1 refl)
      | inr a ↦ inr (rw a.0 refl)
    ]
closes-or-none Single (suc n) (c ∷ d ∷ src) lt =
    elim (eqb_tells c.byte 39) [
      | inl a ↦ elim (eqb_tells d.byte 39) [
        | inl b ↦ found-raw Single (Pair c d) src (a.1, b.1) (closes-or-none Single n src (omega arith))
        | inr b ↦ inl (closes-here Single c (d ∷ src) a.1 b.0)
      ]
      | inr a ↦ found-raw Single (One c) (d ∷ src) a.1 (closes-or-none Single n (d ∷ src) (omega arith))
    ]
closes-or-none Double (suc n) (c ∷ []) lt =
    elim (eqb_tells c.byte 34) [
      | inl a ↦ inl (closes-here Double c [] a.1 tt)
      | inr a ↦ inr (rw a.0 refl)
    ]
closes-or-none Double (suc n) (c ∷ d ∷ src) lt =
    elim (eqb_tells c.byte 34) [
      | inl a ↦ inl (closes-here Double c (d ∷ src) a.1 tt)
      | inr a ↦ elim (eqb_tells c.byte 92) [
        | inl b ↦ found-raw Double (Pair c d) src b.1 (closes-or-none Double n src (omega arith))
        | inr b ↦ found-raw Double (One c) (d ∷ src) (a.1, b.1) (closes-or-none Double n (d ∷ src) (omega arith))
      ]
    ]
