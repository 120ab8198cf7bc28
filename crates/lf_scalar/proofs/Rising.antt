-- The offsets of cells: those of a source rise, those of a text never fall.
use Rattle.std.proofs.Common.{◌≡◌, ℕ, zero, suc, ◌+◌, ◌<◌, ◌≤◌, List, [], ◌∷◌, ◌++◌, length, ap, arith, append_assoc, sym, ◌∙◌, subst, ◌⊎◌, inl, inr}
use Rattle.std.proofs.lemmas.List.{append-nil, length-append}
use Rattle.lf_scalar.specs.Cells.{Cell, cells, end_of}
use Rattle.lf_scalar.specs.Lines.{Line, lines}
use Rattle.lf_scalar.specs.Folding.{fold, feeds}
use Rattle.lf_scalar.proofs.LineSteps.{lines-nil}
use Rattle.lf_scalar.proofs.LineCuts.{EndsAt, HasLine, has-line}
use Rattle.lf_scalar.proofs.Parts.{Part}

-- each cell stands behind the one before it, the first at an offset or later, and all before another offset
abbrev pub Rises : ℕ → List Cell → ℕ → Type 0
Rises lo [] hi = lo ≤ hi
Rises lo (c ∷ cs) hi = (lo ≤ c.at) × Rises (suc c.at) cs hi

-- no cell stands before the one before it, the first at an offset or later, and all before another offset
abbrev pub Climbs : ℕ → List Cell → ℕ → Type 0
Climbs lo [] hi = lo ≤ hi
Climbs lo (c ∷ cs) hi = (lo ≤ c.at) × (c.at < hi) × Climbs c.at cs hi

pub rises-le : (lo : ℕ) (cs : List Cell) (hi : ℕ) → Rises lo cs hi → lo ≤ hi
rises-le lo [] hi h = h
rises-le lo (c ∷ cs) hi h = let k = rises-le (suc c.at) cs hi h.1 in omega (arith, h.0, k)

pub rises-low : (lo low : ℕ) (cs : List Cell) (hi : ℕ) → low ≤ lo → Rises lo cs hi → Rises low cs hi
rises-low lo low [] hi le h = omega (arith, le, h)
rises-low lo low (c ∷ cs) hi le h = (omega (arith, le, h.0), h.1)

pub rises-front : (lo : ℕ) (xs ys : List Cell) (hi : ℕ) → Rises lo (xs ++ ys) hi → Rises lo xs hi
rises-front lo [] ys hi h = rises-le lo ys hi h
rises-front lo (x ∷ xs) ys hi h = (h.0, rises-front (suc x.at) xs ys hi h.1)

pub rises-back : (lo : ℕ) (xs ys : List Cell) (hi : ℕ) → Rises lo (xs ++ ys) hi → Rises lo ys hi
rises-back lo [] ys hi h = h
rises-back lo (x ∷ xs) ys hi h = rises-low (suc x.at) lo ys hi (omega (arith, h.0)) (rises-back (suc x.at) xs ys hi h.1)

pub rises-part : (lo : ℕ) (whole part : List Cell) (hi : ℕ) → Part whole part → Rises lo whole hi → Rises lo part hi
rises-part lo whole part hi p h = rises-front lo part p.back hi (rises-back lo p.front (part ++ p.back) hi (subst (λ (cs : List Cell). Rises lo cs hi) p.source h))

-- before a cell, and behind it
pub rises-before : (lo : ℕ) (xs : List Cell) (c : Cell) (ys : List Cell) (hi : ℕ) → Rises lo (xs ++ c ∷ ys) hi → Rises lo xs c.at
rises-before lo [] c ys hi h = h.0
rises-before lo (x ∷ xs) c ys hi h = (h.0, rises-before (suc x.at) xs c ys hi h.1)

pub rises-behind : (lo : ℕ) (xs : List Cell) (c : Cell) (ys : List Cell) (hi : ℕ) → Rises lo (xs ++ c ∷ ys) hi → Rises (suc c.at) ys hi
rises-behind lo [] c ys hi h = h.1
rises-behind lo (x ∷ xs) c ys hi h = rises-behind (suc x.at) xs c ys hi h.1

pub cells-rise : (at : ℕ) (bytes : List ℕ) → Rises at (cells at bytes) (at + length bytes)
cells-rise at [] = omega arith
cells-rise at (b ∷ bytes) =
    let e : suc at + length bytes ≡ at + suc (length bytes) = omega arith in
    (omega arith, subst (Rises (suc at) (cells (suc at) bytes)) e (cells-rise (suc at) bytes))

-- ---- texts

pub climbs-le : (lo : ℕ) (cs : List Cell) (hi : ℕ) → Climbs lo cs hi → lo ≤ hi
climbs-le lo [] hi h = h
climbs-le lo (c ∷ cs) hi h = omega (arith, h.0, h.1)

pub climbs-from : (lo : ℕ) (cs : List Cell) (hi : ℕ) → Rises lo cs hi → Climbs lo cs hi
climbs-from lo [] hi h = h
climbs-from lo (c ∷ cs) hi h =
    let k = rises-le (suc c.at) cs hi h.1 in
    (h.0, omega (arith, k), climbs-from c.at cs hi (rises-low (suc c.at) c.at cs hi (omega arith) h.1))

pub climbs-low : (lo low : ℕ) (cs : List Cell) (hi : ℕ) → low ≤ lo → Climbs lo cs hi → Climbs low cs hi
climbs-low lo low [] hi le h = omega (arith, le, h)
climbs-low lo low (c ∷ cs) hi le h = (omega (arith, le, h.0), h.1, h.2)

pub climbs-high : (lo : ℕ) (cs : List Cell) (hi high : ℕ) → hi ≤ high → Climbs lo cs hi → Climbs lo cs high
climbs-high lo [] hi high le h = omega (arith, le, h)
climbs-high lo (c ∷ cs) hi high le h = (h.0, omega (arith, le, h.1), climbs-high c.at cs hi high le h.2)

pub climbs-append : (lo : ℕ) (xs : List Cell) (mid : ℕ) (ys : List Cell) (hi : ℕ) → Climbs lo xs mid → Climbs mid ys hi → Climbs lo (xs ++ ys) hi
climbs-append lo [] mid ys hi h k = climbs-low mid lo ys hi h k
climbs-append lo (x ∷ xs) mid ys hi h k = let le = climbs-le mid ys hi k in (h.0, omega (arith, h.1, le), climbs-append x.at xs mid ys hi h.2 k)

pub feeds-climb : (k at : ℕ) → Climbs at (feeds k at) (suc at)
feeds-climb zero at = omega arith
feeds-climb (suc k) at = (omega arith, omega arith, feeds-climb k at)

pub fold-climbs : (at k : ℕ) → Climbs at (fold at k) (suc at)
fold-climbs at zero = (omega arith, omega arith, omega arith)
fold-climbs at (suc k) = feeds-climb (suc k) at

pub climbs-end : (none lo : ℕ) (cs : List Cell) (hi : ℕ) → none ≤ hi → Climbs lo cs hi → end_of none cs ≤ hi
climbs-end none lo [] hi le h = le
climbs-end none lo (c ∷ cs) hi le h = climbs-end (suc c.at) c.at cs hi (omega (arith, h.1)) h.2

-- ---- lines

-- the cells of each line rise and stand before its line break, and those of the next line behind it
abbrev pub LinesRise : ℕ → List Line → ℕ → Type 0
LinesRise lo [] hi = Unit {0}
LinesRise lo (l ∷ ls) hi = Rises lo l.text l.break × (l.break ≤ hi) × LinesRise (suc l.break) ls hi

pub lines-low : (lo low : ℕ) (ls : List Line) (hi : ℕ) → low ≤ lo → LinesRise lo ls hi → LinesRise low ls hi
lines-low lo low [] hi le h = tt
lines-low lo low (l ∷ ls) hi le h = (rises-low lo low l.text l.break le h.0, h.1, h.2)

pub lines-behind : (lo : ℕ) (xs ys : List Line) (hi : ℕ) → LinesRise lo (xs ++ ys) hi → LinesRise lo ys hi
lines-behind lo [] ys hi h = h
lines-behind lo (x ∷ xs) ys hi h = let k = rises-le lo x.text x.break h.0 in lines-low (suc x.break) lo ys hi (omega (arith, k)) (lines-behind (suc x.break) xs ys hi h.2)

-- a source that ends with a line's end and what stands behind it
pub fed : (text before rest : List Cell) (feed : Cell) (ending : List Cell) → ending ≡ before ++ feed ∷ [] → text ++ (ending ++ rest) ≡ (text ++ before) ++ feed ∷ rest
fed text before rest feed ending e =
    ap (λ (xs : List Cell). text ++ (xs ++ rest)) e ∙ ap (λ (xs : List Cell). text ++ xs) (append_assoc before (feed ∷ []) rest) ∙ sym (append_assoc text before (feed ∷ rest))

pub ended : (text ending rest : List Cell) → ending ≡ [] → rest ≡ [] → text ++ (ending ++ rest) ≡ text
ended text ending rest e r = rw (e, r) (append-nil text)

pub lines-rise : (n end lo : ℕ) (src : List Cell) → length src < n → Rises lo src end → LinesRise lo (lines end src) end
lines-rise zero end lo src lt h = absurd (omega (arith, lt))
lines-rise (suc n) end lo [] lt h = subst (λ (ls : List Line). LinesRise lo ls end) (sym (lines-nil end)) tt
lines-rise (suc n) end lo (c ∷ src) lt h = by (has-line end c src) (λ rest lo lt h. lines-rise n end lo rest lt h)
  where
    by : HasLine end (c ∷ src) → ((rest : List Cell) (low : ℕ) → length rest < n → Rises low rest end → LinesRise low (lines end rest) end) → LinesRise lo (lines end (c ∷ src)) end
    by (l, ls, e, f) below = subst (λ (xs : List Line). LinesRise lo xs end) (sym e) (cases f.ends)
      where
        cases : EndsAt l.break f.ending ⊎ ((f.ending ≡ []) × (f.rest ≡ []) × (l.break ≡ end)) → LinesRise lo (l ∷ ls) end
        cases (inl a) =
            let s : c ∷ src ≡ (l.text ++ a.before) ++ a.feed ∷ f.rest = f.source ∙ fed l.text a.before f.rest a.feed f.ending a.is_ending in
            let k : Rises lo ((l.text ++ a.before) ++ a.feed ∷ f.rest) end = subst (λ (xs : List Cell). Rises lo xs end) s h in
            let b = rises-behind lo (l.text ++ a.before) a.feed f.rest end k in
            let le = rises-le (suc a.feed.at) f.rest end b in
            let size : suc (length src) ≡ length (l.text ++ a.before) + suc (length f.rest) = ap length s ∙ length-append (l.text ++ a.before) (a.feed ∷ f.rest) in
            let text : Rises lo l.text a.feed.at = rises-front lo l.text a.before a.feed.at (rises-before lo (l.text ++ a.before) a.feed f.rest end k) in (
              subst (Rises lo l.text) (sym a.place) text,
              omega (arith, a.place, le),
              subst (λ (xs : List Line). LinesRise (suc l.break) xs end) (sym f.following) (rw a.place (below f.rest (suc a.feed.at) (omega (arith, lt, size)) b)),
            )
        cases (inr (e, r, p)) =
            let s : c ∷ src ≡ l.text = f.source ∙ ended l.text f.ending f.rest e r in (
              subst (Rises lo l.text) (sym p) (subst (λ (xs : List Cell). Rises lo xs end) s h),
              omega (arith, p),
              subst (λ (xs : List Line). LinesRise (suc l.break) xs end) (sym (f.following ∙ ap (lines end) r ∙ lines-nil end)) tt,
            )
