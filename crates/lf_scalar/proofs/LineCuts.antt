-- A source is its first line's text, the line's end, and what its other lines stand for.
use Rattle.std.proofs.Common.{◌≡◌, ℕ, List, [], ◌∷◌, ◌++◌, refl, ap, sym, ◌∙◌, subst, ◌⊎◌, inl, inr}
use Rattle.lf_scalar.specs.Cells.{Cell}
use Rattle.lf_scalar.specs.Lines.{Line, line, lengthen, lines}
use Rattle.lf_scalar.proofs.LineSteps.{IsReturn, IsOther, line-step, lines-nil, lines-feed, lines-return, lines-other}

-- a line ends with a line feed, perhaps with a carriage return before it
pub record EndsAt (break : ℕ) (ending : List Cell) : Type 0 where
  pub before : List Cell
  pub feed : Cell
  pub is_ending : ending ≡ before ++ feed ∷ []
  pub is_feed : feed.byte ≡ 10
  pub place : break ≡ feed.at
  pub returns : (before ≡ []) ⊎ ((r : Cell) × (before ≡ r ∷ []) × (r.byte ≡ 13))

pub record FirstLine (end : ℕ) (src : List Cell) (l : Line) (ls : List Line) : Type 0 where
  pub ending : List Cell
  pub rest : List Cell
  pub source : src ≡ l.text ++ (ending ++ rest)
  pub following : ls ≡ lines end rest
  pub ends : EndsAt l.break ending ⊎ ((ending ≡ []) × (rest ≡ []) × (l.break ≡ end))

abbrev pub HasLine : ℕ → List Cell → Type 0
HasLine end src = (l : Line) × (ls : List Line) × (lines end src ≡ l ∷ ls) × FirstLine end src l ls

by-feed : (end : ℕ) (c : Cell) (src : List Cell) → c.byte ≡ 10 → HasLine end (c ∷ src)
by-feed end c src e = (
  line [] c.at,
  lines end src,
  lines-feed end c src e,
  record { ending = c ∷ []; rest = src; source = refl; following = refl; ends = inl (record { before = []; feed = c; is_ending = refl; is_feed = e; place = refl; returns = inl refl }) },
)

by-return : (end : ℕ) (c : Cell) (src : List Cell) → IsReturn c src → HasLine end (c ∷ src)
by-return end c src r = (
  line [] r.feed.at,
  lines end r.rest,
  lines-return end c src r,
  record {
    ending = c ∷ r.feed ∷ [];
    rest = r.rest;
    source = ap (λ (cs : List Cell). c ∷ cs) r.source;
    following = refl;
    ends = inl (record { before = c ∷ []; feed = r.feed; is_ending = refl; is_feed = r.is_feed; place = refl; returns = inr (c, refl, r.return) });
  },
)

by-other : (end : ℕ) (c : Cell) (src : List Cell) → IsOther c src → HasLine end src → HasLine end (c ∷ src)
by-other end c src o (l, ls, e, f) = (
  line (c ∷ l.text) l.break,
  ls,
  lines-other end c src o ∙ ap (lengthen end c) e,
  record { ending = f.ending; rest = f.rest; source = ap (λ (cs : List Cell). c ∷ cs) f.source; following = f.following; ends = f.ends },
)

by-last : (end : ℕ) (c : Cell) → IsOther c [] → HasLine end (c ∷ [])
by-last end c o = (
  line (c ∷ []) end,
  [],
  lines-other end c [] o ∙ ap (lengthen end c) (lines-nil end),
  record { ending = []; rest = []; source = refl; following = sym (lines-nil end); ends = inr (refl, refl, refl) },
)

-- some cells have a first line
pub has-line : (end : ℕ) (c : Cell) (src : List Cell) → HasLine end (c ∷ src)
has-line end c [] =
    elim (line-step c []) [
      | inl a ↦ by-feed end c [] a
      | inr (inl r) ↦ by-return end c [] r
      | inr (inr o) ↦ by-last end c o
    ]
has-line end c (d ∷ src) =
    elim (line-step c (d ∷ src)) [
      | inl a ↦ by-feed end c (d ∷ src) a
      | inr (inl r) ↦ by-return end c (d ∷ src) r
      | inr (inr o) ↦ by-other end c (d ∷ src) o (has-line end d src)
    ]

no-line : (l : Line) (ls : List Line) → [] ≡ l ∷ ls → ⊥
no-line l ls e = cc

same-first : (l m : Line) (ls ms : List Line) → l ∷ ls ≡ m ∷ ms → l ≡ m
same-first l m ls ms e = cc

same-others : (l m : Line) (ls ms : List Line) → l ∷ ls ≡ m ∷ ms → ls ≡ ms
same-others l m ls ms e = cc

pub first-line-of : (end : ℕ) (src : List Cell) (l : Line) (ls : List Line) → lines end src ≡ l ∷ ls → FirstLine end src l ls
first-line-of end [] l ls e = absurd (no-line l ls (sym (lines-nil end) ∙ e))
first-line-of end (c ∷ src) l ls e =
    let h = has-line end c src in
    let k : h.0 ∷ h.1 ≡ l ∷ ls = sym h.2 ∙ e in
    subst (λ (ms : List Line). FirstLine end (c ∷ src) l ms) (same-others h.0 l h.1 ls k) (subst (λ (m : Line). FirstLine end (c ∷ src) m h.1) (same-first h.0 l h.1 ls k) h.3)
