-- The text of a block scalar's body is the one that the definition has.
use Rattle.std.proofs.Common.{◌≡◌, ◌≢◌, ℕ, suc, ◌+◌, Bool, true, false, List, [], ◌∷◌, ◌++◌, length, refl, ap, arith, sym, ◌∙◌, subst, inl, inr, ◌&&◌}
use Rattle.std.specs.List.{flat_map, list_all, AllByRecursion}
use Rattle.std.proofs.lemmas.List.Concat.{flat_map-cons}
use Rattle.std.proofs.lemmas.Bool.{cases_Bool, and_parts}
use Rattle.lf_scalar.specs.declared.block.Chomp.{Chomp}
use Rattle.lf_scalar.specs.Cells.{Cell, cell}
use Rattle.lf_scalar.specs.Lines.{Line, is_empty_text}
use Rattle.lf_scalar.specs.Folding.{trimmed}
use Rattle.lf_scalar.specs.Block.{EndsFull, AreEmpty, breaks, chomped, joined, Stretch, IsStretch, whole, folded, IsFolded, AreJoinedLines, IsBlockText}
use Rattle.lf_scalar.specs.reading.Block.{is_empty, empties, between_of, stretch_of, folded_of, block_text}
use Rattle.lf_scalar.proofs.Tails.{true-false}

empty-true : (l : Line) → l.text ≡ [] → is_empty l ≡ true
empty-true l e = rw e refl

true-empty : (l : Line) → is_empty l ≡ true → l.text ≡ []
true-empty l h = by l.text h
  where
    by : (text : List Cell) → is_empty_text text ≡ true → text ≡ []
    by [] h = refl
    by (c ∷ cs) h = true-false false h refl

full-false : (l : Line) → l.text ≢ [] → is_empty l ≡ false
full-false l n = by l.text n
  where
    by : (text : List Cell) → text ≢ [] → is_empty_text text ≡ false
    by [] n = absurd (n refl)
    by (c ∷ cs) n = refl

false-full : (l : Line) → is_empty l ≡ false → l.text ≢ []
false-full l h e = true-false (is_empty l) (empty-true l e) h

all-empty : (ls : List Line) → AreEmpty ls → list_all is_empty ls ≡ true
all-empty [] h = refl
all-empty (l ∷ ls) h = rw (empty-true l h.0) (all-empty ls h.1)

empty-all : (ls : List Line) → list_all is_empty ls ≡ true → AreEmpty ls
empty-all [] h = tt
empty-all (l ∷ ls) h = let b = and_parts (is_empty l) (list_all is_empty ls) h in (true-empty l b.0, empty-all ls b.1)

-- ---- the lines up to the last that isn't empty, and the empty ones

full-tail : (l : Line) (ls : List Line) → EndsFull (l ∷ ls) → EndsFull ls
full-tail l [] h = tt
full-tail l (m ∷ ls) h = h

not-all : (full empty : List Line) (l : Line) → EndsFull (l ∷ full) → (is_empty l && list_all is_empty (full ++ empty)) ≡ false
not-all [] empty l h = rw (full-false l h) refl
not-all (m ∷ full) empty l h = ends (is_empty l) (not-all full empty m h)
  where
    ends : (a : Bool) → list_all is_empty (m ∷ full ++ empty) ≡ false → (a && list_all is_empty (m ∷ full ++ empty)) ≡ false
    ends true e = e
    ends false e = refl

-- a split as the definition has it is the one that is read
pub split-again : (full empty : List Line) → EndsFull full → AreEmpty empty → (trimmed is_empty (full ++ empty) ≡ full) × (empties (full ++ empty) ≡ empty)
split-again [] [] f e = (refl, refl)
split-again [] (l ∷ ls) f e = let a : (is_empty l && list_all is_empty ls) ≡ true = all-empty (l ∷ ls) e in (rw a refl, rw a refl)
split-again (l ∷ full) empty f e =
    let n = not-all full empty l f in
    let later = split-again full empty (full-tail l full f) e in
    (rw n (ap (λ (x : List Line). l ∷ x) later.0), rw n later.1)

pub record Split (body : List Line) : Type 0 where
  pub source : body ≡ trimmed is_empty body ++ empties body
  pub ends_full : EndsFull (trimmed is_empty body)
  pub are_empty : AreEmpty (empties body)

-- the test of a line before others
trim-last : (l : Line) (ls : List Line) → (is_empty l && list_all is_empty ls) ≡ true → (trimmed is_empty (l ∷ ls) ≡ []) × (empties (l ∷ ls) ≡ l ∷ ls)
trim-last l ls h = (rw h refl, rw h refl)

trim-more : (l : Line) (ls : List Line) → (is_empty l && list_all is_empty ls) ≡ false → (trimmed is_empty (l ∷ ls) ≡ l ∷ trimmed is_empty ls) × (empties (l ∷ ls) ≡ empties ls)
trim-more l ls h = (rw h refl, rw h refl)

trimmed-all : (ls : List Line) → trimmed is_empty ls ≡ [] → list_all is_empty ls ≡ true
trimmed-all [] h = refl
trimmed-all (l ∷ ls) h =
    elim (cases_Bool (is_empty l && list_all is_empty ls)) [
      | inl a ↦ a
      | inr a ↦ absurd (none (sym (trim-more l ls a).0 ∙ h))
    ]
  where
    none : l ∷ trimmed is_empty ls ≡ [] → ⊥
    none e = cc

full-cons : (l : Line) (ls : List Line) → EndsFull ls → (ls ≡ [] → l.text ≢ []) → EndsFull (l ∷ ls)
full-cons l [] h n = n refl
full-cons l (m ∷ ls) h n = h

pub split : (body : List Line) → Split body
split [] = record { source = refl; ends_full = tt; are_empty = tt }
split (l ∷ ls) =
    elim (cases_Bool (is_empty l && list_all is_empty ls)) [
      | inl a ↦
          let t = trim-last l ls a in
          record { source = rw (t.0, t.1) refl; ends_full = subst EndsFull (sym t.0) tt; are_empty = subst AreEmpty (sym t.1) (empty-all (l ∷ ls) a) }
      | inr a ↦
          let t = trim-more l ls a in
          let s = split ls in
          let here : trimmed is_empty ls ≡ [] → l.text ≢ [] = λ e f. true-false (is_empty l && list_all is_empty ls) (rw (empty-true l f, trimmed-all ls e) refl) a in
          record {
            source = rw (t.0, t.1) (ap (λ (x : List Line). l ∷ x) s.source);
            ends_full = subst EndsFull (sym t.0) (full-cons l (trimmed is_empty ls) s.ends_full here);
            are_empty = subst AreEmpty (sym t.1) s.are_empty;
          }
    ]

-- ---- folding

empties-passed : (l : Line) (k : ℕ) (empty rest : List Line) → AreEmpty empty → stretch_of l k (empty ++ rest) ≡ stretch_of l (k + length empty) rest
unfolding stretch_of
empties-passed l k [] rest h = ap (λ (n : ℕ). stretch_of l n rest) (omega arith)
empties-passed l k (m ∷ ms) rest h =
    let n : suc k + length ms ≡ k + suc (length ms) = omega arith in
    rw (empty-true m h.0) (empties-passed l (suc k) ms rest h.1 ∙ ap (λ (j : ℕ). stretch_of l j rest) n)

stretch-nil : (l : Line) (k : ℕ) → stretch_of l k [] ≡ l.text
unfolding stretch_of
stretch-nil l k = refl

stretch-next : (l m : Line) (k : ℕ) (ls : List Line) → m.text ≢ [] → stretch_of l k (m ∷ ls) ≡ l.text ++ (between_of l k m ++ stretch_of m 0 ls)
unfolding stretch_of
stretch-next l m k ls n = rw (full-false m n) refl

behind-empties : (s : Stretch) (rest : List Line) → IsStretch s → stretch_of s.full 0 (s.behind ++ rest) ≡ stretch_of s.full (length s.behind) rest
behind-empties s rest h =
    let n : 0 + length s.behind ≡ length s.behind = omega arith in
    empties-passed s.full 0 s.behind rest h.1 ∙ ap (λ (j : ℕ). stretch_of s.full j rest) n

-- stretches are folded as they are read
stretches-again : (s : Stretch) (ss : List Stretch) → IsStretch s → AllByRecursion IsStretch ss → stretch_of s.full 0 (s.behind ++ flat_map whole ss) ≡ folded (s ∷ ss)
stretches-again s [] h hs = behind-empties s [] h ∙ stretch-nil s.full (length s.behind)
stretches-again s (t ∷ ss) h hs =
    behind-empties s (flat_map whole (t ∷ ss)) h ∙ ap (stretch_of s.full (length s.behind)) (flat_map-cons whole t ss) ∙ stretch-next s.full t.full (length s.behind) (t.behind ++ flat_map whole ss) hs.0.0
    ∙ ap (λ (x : List Cell). s.full.text ++ (between_of s.full (length s.behind) t.full ++ x)) (stretches-again t ss hs.0 hs.1)

folded-lead : (empty rest : List Line) → AreEmpty empty → folded_of (empty ++ rest) ≡ breaks empty ++ folded_of rest
unfolding folded_of
folded-lead [] rest h = refl
folded-lead (l ∷ ls) rest h = rw (empty-true l h.0) (ap (λ (x : List Cell). cell 10 l.break ∷ x) (folded-lead ls rest h.1))

folded-stretches : (ss : List Stretch) → AllByRecursion IsStretch ss → folded_of (flat_map whole ss) ≡ folded ss
unfolding folded_of
folded-stretches [] h = refl
folded-stretches (s ∷ ss) h = ap folded_of (flat_map-cons whole s ss) ∙ rw (full-false s.full h.0.0) (stretches-again s ss h.0 h.1)

pub folded-again : (ls : List Line) (text : List Cell) → IsFolded ls text → text ≡ folded_of ls
folded-again ls text h =
    h.text_is ∙ ap (λ (x : List Cell). breaks h.empty ++ x) (sym (folded-stretches h.stretches h.are_stretches)) ∙ sym (folded-lead h.empty (flat_map whole h.stretches) h.are_empty) ∙ ap folded_of (sym h.source)

-- empty lines, and then stretches
pub record Parts (ls : List Line) : Type 0 where
  pub empty : List Line
  pub stretches : List Stretch
  pub source : ls ≡ empty ++ flat_map whole stretches
  pub are_empty : AreEmpty empty
  pub are_stretches : AllByRecursion IsStretch stretches

parts : (ls : List Line) → Parts ls
parts [] = record { empty = []; stretches = []; source = refl; are_empty = tt; are_stretches = tt }
parts (l ∷ ls) =
    let p = parts ls in
    elim (cases_Bool (is_empty l)) [
      | inl a ↦ record { empty = l ∷ p.empty; stretches = p.stretches; source = ap (λ (x : List Line). l ∷ x) p.source; are_empty = (true-empty l a, p.are_empty); are_stretches = p.are_stretches }
      | inr a ↦
          let s : Stretch = record { full = l; behind = p.empty } in
          record { empty = []; stretches = s ∷ p.stretches; source = ap (λ (x : List Line). l ∷ x) p.source ∙ sym (flat_map-cons whole s p.stretches); are_empty = tt; are_stretches = ((false-full l a, p.are_empty), p.are_stretches) }
    ]

pub folded-told : (ls : List Line) → IsFolded ls (folded_of ls)
folded-told ls =
    let p = parts ls in
    let h : IsFolded ls (breaks p.empty ++ folded p.stretches) = record { empty = p.empty; stretches = p.stretches; source = p.source; are_empty = p.are_empty; are_stretches = p.are_stretches; text_is = refl } in
    subst (IsFolded ls) (folded-again ls (breaks p.empty ++ folded p.stretches) h) h

-- ---- the text

-- a way to join lines, as the definition has it and as it is read
pub record Joining (Joins : List Line → List Cell → Type 0) (joins : List Line → List Cell) : Type 0 where
  pub again : (ls : List Line) (text : List Cell) → Joins ls text → text ≡ joins ls
  pub told : (ls : List Line) → Joins ls (joins ls)

pub joining : Joining AreJoinedLines joined
joining = record { again = λ ls text h. h; told = λ ls. refl }

pub folding : Joining IsFolded folded_of
folding = record { again = folded-again; told = folded-told }

pub text-again : (Joins : List Line → List Cell → Type 0) (joins : List Line → List Cell) (j : Joining Joins joins) (end : ℕ) (chomp : Chomp) (body : List Line) (text : List Cell) → IsBlockText Joins end chomp body text → text ≡ block_text joins end chomp body
text-again Joins joins j end chomp body text h =
    let s = split-again h.full h.empty h.ends_full h.are_empty in
    let f : trimmed is_empty body ≡ h.full = ap (trimmed is_empty) h.source ∙ s.0 in
    let e : empties body ≡ h.empty = ap empties h.source ∙ s.1 in
    h.text_is ∙ rw (f, e) (ap (λ (x : List Cell). x ++ chomped end chomp h.full h.empty) (j.again h.full h.inner h.joins))

pub text-told : (Joins : List Line → List Cell → Type 0) (joins : List Line → List Cell) (j : Joining Joins joins) (end : ℕ) (chomp : Chomp) (body : List Line) → IsBlockText Joins end chomp body (block_text joins end chomp body)
text-told Joins joins j end chomp body =
    let s = split body in
    record { full = trimmed is_empty body; empty = empties body; source = s.source; ends_full = s.ends_full; are_empty = s.are_empty; inner = joins (trimmed is_empty body); joins = j.told (trimmed is_empty body); text_is = refl }
