-- The text of a block scalar: it is UTF-8, and its offsets never fall.
use Rattle.std.proofs.Common.{◌≡◌, ℕ, zero, suc, ◌≤◌, Bool, true, false, cond, ◌||◌, eqb, leb, nat_lt, List, [], ◌∷◌, ◌++◌, length, map, take, drop, take_while, refl, ap, arith, sym, ◌∙◌, subst, ◌⊎◌, inl, inr, eqb-true}
use Rattle.std.specs.List.{flat_map, list_all}
use Rattle.std.proofs.lemmas.List.{take-append-drop}
use Rattle.std.proofs.lemmas.List.Sums.{take_while-cons}
use Rattle.std.proofs.lemmas.Bool.{and_parts, or_cases, leb-true, cases_Bool}
use Rattle.lf_scalar.specs.declared.block.Chomp.{Chomp}
use Rattle.lf_scalar.specs.declared.block.Chomp.TheVariants.{Strip, Clip, Keep}
use Rattle.lf_scalar.specs.Cells.{Cell, cell}
use Rattle.lf_scalar.specs.Lines.{Line, indent_of, is_spaces}
use Rattle.lf_scalar.specs.Folding.{fold, feeds}
use Rattle.lf_scalar.specs.Block.{in_body, content, body_of, breaks, line_end, line_ends, last_end, chomped, joined, Stretch, whole, begins_blank, between, folded, IsFolded, AreJoinedLines, IsBlockText}
use Rattle.lf_scalar.proofs.Parts.{Utf8, Part, whole-part, low-part, part-utf8}
use Rattle.lf_scalar.proofs.Utf8Lines.{utf8-nil, utf8-append, utf8-low, feeds-utf8, fold-utf8, LinesUtf8, lines-utf8-behind, lines-utf8-front}
use Rattle.lf_scalar.proofs.Rising.{Rises, LinesRise, rises-le, rises-low, rises-back, lines-low, lines-behind}

-- ---- lines of the body

-- without spaces at the front, where there are so many or no other character
indented-part : (k : ℕ) (cs : List Cell) → (k ≤ indent_of cs) ⊎ (list_all (λ c. eqb c.byte 32) cs ≡ true) → Part cs (drop k cs)
indented-part zero cs h = whole-part cs
indented-part (suc k) [] h = whole-part []
indented-part (suc k) (c ∷ cs) h =
    elim (cases_Bool (eqb c.byte 32)) [
      | inl a ↦ low-part c cs (drop k cs) (omega (arith, eqb-true c.byte 32 a)) (indented-part k cs (fewer a h))
      | inr a ↦ absurd (not-space a h)
    ]
  where
    fewer : eqb c.byte 32 ≡ true → (suc k ≤ indent_of (c ∷ cs)) ⊎ (list_all (λ c. eqb c.byte 32) (c ∷ cs) ≡ true) → (k ≤ indent_of cs) ⊎ (list_all (λ c. eqb c.byte 32) cs ≡ true)
    fewer a (inl le) = let m : suc k ≤ suc (indent_of cs) = rw a at le in inl (omega (arith, m))
    fewer a (inr all) = inr (and_parts (eqb c.byte 32) (list_all (λ c. eqb c.byte 32) cs) all).1

    not-space : eqb c.byte 32 ≡ false → (suc k ≤ indent_of (c ∷ cs)) ⊎ (list_all (λ c. eqb c.byte 32) (c ∷ cs) ≡ true) → ⊥
    not-space a (inl le) = let m : suc k ≤ 0 = rw a at le in omega (arith, m)
    not-space a (inr all) = let m : true ≡ false = sym (and_parts (eqb c.byte 32) (list_all (λ c. eqb c.byte 32) cs) all).0 ∙ a in cc

content-part : (k : ℕ) (l : Line) → in_body k l ≡ true → Part l.text (drop k l.text)
content-part k l h =
    elim (or_cases (is_spaces l) (leb k (indent_of l.text)) h) [
      | inl a ↦ indented-part k l.text (inr a)
      | inr a ↦ indented-part k l.text (inl (leb-true k (indent_of l.text) a))
    ]

taken-utf8 : (k : ℕ) (ls : List Line) → LinesUtf8 ls → LinesUtf8 (map (content k) (take_while (in_body k) ls))
taken-utf8 k [] u = tt
taken-utf8 k (l ∷ ls) u = subst (λ (ms : List Line). LinesUtf8 (map (content k) ms)) (sym (take_while-cons (in_body k) l ls)) (by (in_body k l) refl (taken-utf8 k ls u.1))
  where
    by : (b : Bool) → in_body k l ≡ b → LinesUtf8 (map (content k) (take_while (in_body k) ls)) → LinesUtf8 (map (content k) (cond b (l ∷ take_while (in_body k) ls) []))
    by true e below = (part-utf8 l.text (drop k l.text) (content-part k l e) u.0, below)
    by false e below = tt

pub body-utf8 : (k : ℕ) (ls : List Line) → LinesUtf8 ls → LinesUtf8 (body_of k ls)
body-utf8 k ls u = taken-utf8 k ls u

content-rises : (k lo : ℕ) (l : Line) → Rises lo l.text l.break → Rises lo (content k l).text l.break
content-rises k lo l r = rises-back lo (take k l.text) (drop k l.text) l.break (subst (λ (cs : List Cell). Rises lo cs l.break) (sym (take-append-drop k l.text)) r)

pub body-rises : (k lo hi : ℕ) (ls : List Line) → LinesRise lo ls hi → LinesRise lo (body_of k ls) hi
body-rises k lo hi [] r = tt
body-rises k lo hi (l ∷ ls) r = subst (λ (ms : List Line). LinesRise lo (map (content k) ms) hi) (sym (take_while-cons (in_body k) l ls)) (by (in_body k l) (body-rises k (suc l.break) hi ls r.2))
  where
    by : (b : Bool) → LinesRise (suc l.break) (map (content k) (take_while (in_body k) ls)) hi → LinesRise lo (map (content k) (cond b (l ∷ take_while (in_body k) ls) [])) hi
    by true below = (content-rises k lo l r.0, r.1, below)
    by false below = tt

-- ---- UTF-8

breaks-utf8 : (ls : List Line) → Utf8 (breaks ls)
breaks-utf8 [] = utf8-nil
breaks-utf8 (l ∷ ls) = utf8-low (cell 10 l.break) (breaks ls) (omega arith) (breaks-utf8 ls)

end-utf8 : (end : ℕ) (l : Line) → Utf8 (line_end end l)
end-utf8 end l = by (nat_lt l.break end)
  where
    by : (b : Bool) → Utf8 (cond b (cell 10 l.break ∷ []) [])
    by true = utf8-low (cell 10 l.break) [] (omega arith) utf8-nil
    by false = utf8-nil

ends-utf8 : (end : ℕ) (ls : List Line) → Utf8 (line_ends end ls)
ends-utf8 end [] = utf8-nil
ends-utf8 end (l ∷ ls) = utf8-append (line_end end l) (line_ends end ls) (end-utf8 end l) (ends-utf8 end ls)

last-end-utf8 : (end : ℕ) (ls : List Line) → Utf8 (last_end end ls)
last-end-utf8 end [] = utf8-nil
last-end-utf8 end (l ∷ []) = end-utf8 end l
last-end-utf8 end (l ∷ m ∷ ls) = last-end-utf8 end (m ∷ ls)

chomped-utf8 : (end : ℕ) (chomp : Chomp) (full empty : List Line) → Utf8 (chomped end chomp full empty)
chomped-utf8 end Strip full empty = utf8-nil
chomped-utf8 end Clip full empty = last-end-utf8 end full
chomped-utf8 end Keep full empty = utf8-append (last_end end full) (line_ends end empty) (last-end-utf8 end full) (ends-utf8 end empty)

joined-utf8 : (ls : List Line) → LinesUtf8 ls → Utf8 (joined ls)
joined-utf8 [] u = utf8-nil
joined-utf8 (l ∷ []) u = u.0
joined-utf8 (l ∷ m ∷ ls) u = utf8-append l.text (cell 10 l.break ∷ joined (m ∷ ls)) u.0 (utf8-low (cell 10 l.break) (joined (m ∷ ls)) (omega arith) (joined-utf8 (m ∷ ls) u.1))

between-utf8 : (s : Stretch) (next : Line) → Utf8 (between s next)
between-utf8 s next = by (begins_blank s.full.text || begins_blank next.text)
  where
    by : (b : Bool) → Utf8 (cond b (feeds (suc (length s.behind)) s.full.break) (fold s.full.break (length s.behind)))
    by true = feeds-utf8 (suc (length s.behind)) s.full.break
    by false = fold-utf8 s.full.break (length s.behind)

folded-utf8 : (ss : List Stretch) → LinesUtf8 (flat_map whole ss) → Utf8 (folded ss)
folded-utf8 [] u = utf8-nil
folded-utf8 (s ∷ []) u = u.0
folded-utf8 (s ∷ t ∷ ss) u =
    utf8-append s.full.text (between s t.full ++ folded (t ∷ ss)) u.0
    (utf8-append (between s t.full) (folded (t ∷ ss)) (between-utf8 s t.full) (folded-utf8 (t ∷ ss) (lines-utf8-behind s.behind (flat_map whole (t ∷ ss)) u.1)))

-- what joins lines makes UTF-8 of UTF-8
abbrev pub KeepsUtf8 : (List Line → List Cell → Type 0) → Type 0
KeepsUtf8 Joins = (ls : List Line) (text : List Cell) → Joins ls text → LinesUtf8 ls → Utf8 text

pub joins-utf8 : KeepsUtf8 AreJoinedLines
joins-utf8 ls text e u = subst Utf8 (sym e) (joined-utf8 ls u)

pub folds-utf8 : KeepsUtf8 IsFolded
folds-utf8 ls text f u =
    subst Utf8 (sym f.text_is)
    (utf8-append (breaks f.empty) (folded f.stretches) (breaks-utf8 f.empty) (folded-utf8 f.stretches (lines-utf8-behind f.empty (flat_map whole f.stretches) (subst LinesUtf8 f.source u))))

pub block-utf8 : (Joins : List Line → List Cell → Type 0) → KeepsUtf8 Joins → (end : ℕ) (chomp : Chomp) (body : List Line) (text : List Cell) → IsBlockText Joins end chomp body text → LinesUtf8 body → Utf8 text
block-utf8 Joins keeps end chomp body text b u =
    subst Utf8 (sym b.text_is)
    (utf8-append b.inner (chomped end chomp b.full b.empty) (keeps b.full b.inner b.joins (lines-utf8-front b.full b.empty (subst LinesUtf8 b.source u))) (chomped-utf8 end chomp b.full b.empty))

-- ---- offsets

-- no cell stands before the one before it, the first at an offset or later, and all at another offset or before it
abbrev pub Mounts : ℕ → List Cell → ℕ → Type 0
Mounts lo [] hi = lo ≤ hi
Mounts lo (c ∷ cs) hi = (lo ≤ c.at) × Mounts c.at cs hi

pub mounts-le : (lo : ℕ) (cs : List Cell) (hi : ℕ) → Mounts lo cs hi → lo ≤ hi
mounts-le lo [] hi h = h
mounts-le lo (c ∷ cs) hi h = let k = mounts-le c.at cs hi h.1 in omega (arith, h.0, k)

pub mounts-low : (lo low : ℕ) (cs : List Cell) (hi : ℕ) → low ≤ lo → Mounts lo cs hi → Mounts low cs hi
mounts-low lo low [] hi le h = omega (arith, le, h)
mounts-low lo low (c ∷ cs) hi le h = (omega (arith, le, h.0), h.1)

pub mounts-high : (lo : ℕ) (cs : List Cell) (hi high : ℕ) → hi ≤ high → Mounts lo cs hi → Mounts lo cs high
mounts-high lo [] hi high le h = omega (arith, le, h)
mounts-high lo (c ∷ cs) hi high le h = (h.0, mounts-high c.at cs hi high le h.1)

pub mounts-append : (lo : ℕ) (xs : List Cell) (mid : ℕ) (ys : List Cell) (hi : ℕ) → Mounts lo xs mid → Mounts mid ys hi → Mounts lo (xs ++ ys) hi
mounts-append lo [] mid ys hi h k = mounts-low mid lo ys hi h k
mounts-append lo (x ∷ xs) mid ys hi h k = (h.0, mounts-append x.at xs mid ys hi h.1 k)

mounts-from : (lo : ℕ) (cs : List Cell) (hi : ℕ) → Rises lo cs hi → Mounts lo cs hi
mounts-from lo [] hi h = h
mounts-from lo (c ∷ cs) hi h = (h.0, mounts-from c.at cs hi (rises-low (suc c.at) c.at cs hi (omega arith) h.1))

feeds-mount : (k at : ℕ) → Mounts at (feeds k at) at
feeds-mount zero at = omega arith
feeds-mount (suc k) at = (omega arith, feeds-mount k at)

fold-mounts : (at k : ℕ) → Mounts at (fold at k) at
fold-mounts at zero = (omega arith, omega arith)
fold-mounts at (suc k) = feeds-mount (suc k) at

-- the last line's break, or an offset where there is no line
abbrev pub reach : ℕ → List Line → ℕ
reach lo [] = lo
reach lo (l ∷ ls) = reach l.break ls

reach-le : (lo hi : ℕ) (ls : List Line) → LinesRise lo ls hi → lo ≤ reach lo ls
reach-le lo hi [] r = omega arith
reach-le lo hi (l ∷ ls) r =
    let a = rises-le lo l.text l.break r.0 in
    let b = reach-le l.break hi ls (lines-low (suc l.break) l.break ls hi (omega arith) r.2) in
    omega (arith, a, b)

reach-high : (lo hi : ℕ) (ls : List Line) → lo ≤ hi → LinesRise lo ls hi → reach lo ls ≤ hi
reach-high lo hi [] le r = le
reach-high lo hi (l ∷ ls) le r = reach-high l.break hi ls r.1 (lines-low (suc l.break) l.break ls hi (omega arith) r.2)

-- the lines behind some lines stand at their last line break or later
lines-past : (lo hi : ℕ) (xs ys : List Line) → LinesRise lo (xs ++ ys) hi → LinesRise (reach lo xs) ys hi
lines-past lo hi [] ys r = r
lines-past lo hi (x ∷ xs) ys r = lines-past x.break hi xs ys (lines-low (suc x.break) x.break (xs ++ ys) hi (omega arith) r.2)

lines-before : (lo hi : ℕ) (xs ys : List Line) → LinesRise lo (xs ++ ys) hi → LinesRise lo xs hi
lines-before lo hi [] ys r = tt
lines-before lo hi (x ∷ xs) ys r = (r.0, r.1, lines-before (suc x.break) hi xs ys r.2)

reach-append : (lo : ℕ) (xs ys : List Line) → reach lo (xs ++ ys) ≡ reach (reach lo xs) ys
reach-append lo [] ys = refl
reach-append lo (x ∷ xs) ys = reach-append x.break xs ys

breaks-mount : (lo hi : ℕ) (ls : List Line) → LinesRise lo ls hi → Mounts lo (breaks ls) (reach lo ls)
breaks-mount lo hi [] r = omega arith
breaks-mount lo hi (l ∷ ls) r = (rises-le lo l.text l.break r.0, breaks-mount l.break hi ls (lines-low (suc l.break) l.break ls hi (omega arith) r.2))

end-mounts : (end : ℕ) (l : Line) → Mounts l.break (line_end end l) l.break
end-mounts end l = by (nat_lt l.break end)
  where
    by : (b : Bool) → Mounts l.break (cond b (cell 10 l.break ∷ []) []) l.break
    by true = (omega arith, omega arith)
    by false = omega arith

ends-mount : (end lo hi : ℕ) (ls : List Line) → LinesRise lo ls hi → Mounts lo (line_ends end ls) (reach lo ls)
ends-mount end lo hi [] r = omega arith
ends-mount end lo hi (l ∷ ls) r =
    mounts-append lo (line_end end l) l.break (line_ends end ls) (reach l.break ls) (mounts-low l.break lo (line_end end l) l.break (rises-le lo l.text l.break r.0) (end-mounts end l))
    (ends-mount end l.break hi ls (lines-low (suc l.break) l.break ls hi (omega arith) r.2))

last-end-mounts : (end lo hi : ℕ) (ls : List Line) → LinesRise lo ls hi → Mounts (reach lo ls) (last_end end ls) (reach lo ls)
last-end-mounts end lo hi [] r = omega arith
last-end-mounts end lo hi (l ∷ []) r = end-mounts end l
last-end-mounts end lo hi (l ∷ m ∷ ls) r = last-end-mounts end (suc l.break) hi (m ∷ ls) r.2

chomped-mounts : (end : ℕ) (chomp : Chomp) (lo hi : ℕ) (full empty : List Line) → lo ≤ hi → LinesRise lo (full ++ empty) hi → Mounts (reach lo full) (chomped end chomp full empty) hi
chomped-mounts end Strip lo hi full empty le r = reach-high lo hi full le (lines-before lo hi full empty r)
chomped-mounts end Clip lo hi full empty le r =
    let f = lines-before lo hi full empty r in
    mounts-high (reach lo full) (last_end end full) (reach lo full) hi (reach-high lo hi full le f) (last-end-mounts end lo hi full f)
chomped-mounts end Keep lo hi full empty le r =
    let f = lines-before lo hi full empty r in
    let e = lines-past lo hi full empty r in
    mounts-append (reach lo full) (last_end end full) (reach lo full) (line_ends end empty) hi (last-end-mounts end lo hi full f)
    (mounts-high (reach lo full) (line_ends end empty) (reach (reach lo full) empty) hi (reach-high (reach lo full) hi empty (reach-high lo hi full le f) e) (ends-mount end (reach lo full) hi empty e))

joined-mounts : (lo hi : ℕ) (ls : List Line) → LinesRise lo ls hi → Mounts lo (joined ls) (reach lo ls)
joined-mounts lo hi [] r = omega arith
joined-mounts lo hi (l ∷ []) r = mounts-from lo l.text l.break r.0
joined-mounts lo hi (l ∷ m ∷ ls) r =
    mounts-append lo l.text l.break (cell 10 l.break ∷ joined (m ∷ ls)) (reach l.break (m ∷ ls)) (mounts-from lo l.text l.break r.0)
    (omega arith, joined-mounts l.break hi (m ∷ ls) (lines-low (suc l.break) l.break (m ∷ ls) hi (omega arith) r.2))

between-mounts : (s : Stretch) (next : Line) → Mounts s.full.break (between s next) s.full.break
between-mounts s next = by (begins_blank s.full.text || begins_blank next.text)
  where
    by : (b : Bool) → Mounts s.full.break (cond b (feeds (suc (length s.behind)) s.full.break) (fold s.full.break (length s.behind))) s.full.break
    by true = feeds-mount (suc (length s.behind)) s.full.break
    by false = fold-mounts s.full.break (length s.behind)

folded-mounts : (lo hi : ℕ) (ss : List Stretch) → LinesRise lo (flat_map whole ss) hi → Mounts lo (folded ss) (reach lo (flat_map whole ss))
folded-mounts lo hi [] r = omega arith
folded-mounts lo hi (s ∷ []) r =
    mounts-high lo s.full.text s.full.break (reach s.full.break (s.behind ++ [])) (reach-le s.full.break hi (s.behind ++ []) (lines-low (suc s.full.break) s.full.break (s.behind ++ []) hi (omega arith) r.2)) (mounts-from lo s.full.text s.full.break r.0)
folded-mounts lo hi (s ∷ t ∷ ss) r =
    let later : LinesRise s.full.break (flat_map whole (t ∷ ss)) hi = lines-low (suc s.full.break) s.full.break (flat_map whole (t ∷ ss)) hi (omega arith) (lines-behind (suc s.full.break) s.behind (flat_map whole (t ∷ ss)) hi r.2) in
    let end : reach s.full.break (flat_map whole (t ∷ ss)) ≡ reach s.full.break (s.behind ++ flat_map whole (t ∷ ss)) = sym (reach-append s.full.break s.behind (flat_map whole (t ∷ ss))) in
    mounts-append lo s.full.text s.full.break (between s t.full ++ folded (t ∷ ss)) (reach s.full.break (s.behind ++ flat_map whole (t ∷ ss))) (mounts-from lo s.full.text s.full.break r.0)
    (mounts-append s.full.break (between s t.full) s.full.break (folded (t ∷ ss)) (reach s.full.break (s.behind ++ flat_map whole (t ∷ ss))) (between-mounts s t.full)
    (subst (Mounts s.full.break (folded (t ∷ ss))) end (folded-mounts s.full.break hi (t ∷ ss) later)))

-- what joins lines makes a text whose offsets never fall
abbrev pub KeepsOrder : (List Line → List Cell → Type 0) → Type 0
KeepsOrder Joins = (ls : List Line) (text : List Cell) → Joins ls text → (lo hi : ℕ) → LinesRise lo ls hi → Mounts lo text (reach lo ls)

pub joins-order : KeepsOrder AreJoinedLines
joins-order ls text e lo hi r = subst (λ (cs : List Cell). Mounts lo cs (reach lo ls)) (sym e) (joined-mounts lo hi ls r)

pub folds-order : KeepsOrder IsFolded
folds-order ls text f lo hi r =
    let s : LinesRise lo (f.empty ++ flat_map whole f.stretches) hi = subst (λ (ms : List Line). LinesRise lo ms hi) f.source r in
    let e = lines-before lo hi f.empty (flat_map whole f.stretches) s in
    let w = lines-past lo hi f.empty (flat_map whole f.stretches) s in
    let end : reach (reach lo f.empty) (flat_map whole f.stretches) ≡ reach lo ls = sym (reach-append lo f.empty (flat_map whole f.stretches)) ∙ ap (reach lo) (sym f.source) in
    subst (λ (cs : List Cell). Mounts lo cs (reach lo ls)) (sym f.text_is)
    (mounts-append lo (breaks f.empty) (reach lo f.empty) (folded f.stretches) (reach lo ls) (breaks-mount lo hi f.empty e) (subst (Mounts (reach lo f.empty) (folded f.stretches)) end (folded-mounts (reach lo f.empty) hi f.stretches w)))

pub block-mounts : (Joins : List Line → List Cell → Type 0) → KeepsOrder Joins → (end : ℕ) (chomp : Chomp) (body : List Line) (text : List Cell) → IsBlockText Joins end chomp body text → (lo hi : ℕ) → lo ≤ hi → LinesRise lo body hi → Mounts lo text hi
block-mounts Joins keeps end chomp body text b lo hi le r =
    let s : LinesRise lo (b.full ++ b.empty) hi = subst (λ (ms : List Line). LinesRise lo ms hi) b.source r in
    subst (λ (cs : List Cell). Mounts lo cs hi) (sym b.text_is)
    (mounts-append lo b.inner (reach lo b.full) (chomped end chomp b.full b.empty) hi (keeps b.full b.inner b.joins lo hi (lines-before lo hi b.full b.empty s)) (chomped-mounts end chomp lo hi b.full b.empty le s))
