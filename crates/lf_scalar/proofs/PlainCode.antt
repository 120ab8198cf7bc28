-- The lines behind a plain scalar's first line, one by one.
use Rattle.std.proofs.Common.{◌≡◌, ℕ, ◌+◌, ◌≤◌, Bool, true, false, cond, List, [], ◌∷◌, ◌++◌, Option, Some, None, Result, Ok, Err, length, take, drop, refl, ap, arith, append_assoc, sym, ◌∙◌, subst}
use Rattle.std.proofs.lemmas.List.{append-nil, drop_all}
use Rattle.lf_base.specs.declared.kind.Kind.TheVariants.{BadIndent}
use Rattle.lf_base.specs.declared.refusal.Refusal.{Refusal}
use Rattle.lf_base.specs.declared.refusal.Refusal.TheVariants as refusal_of
use Rattle.lf_scalar.specs.declared.plain.PendingPlainBreak.{PendingPlainBreak}
use Rattle.lf_base.specs.declared.fault.Fault.{Fault}
use Rattle.lf_scalar.specs.Cells.{Cell, cells, byte_fault, Fails, front, ◌>>=◌}
use Rattle.lf_scalar.specs.Lines.{Line, line, lines_at, start_of, is_blank_line}
use Rattle.lf_scalar.specs.Folding.{fold}
use Rattle.lf_scalar.specs.Plain.{is_commented, continues, has_tab}
use Rattle.lf_scalar.specs.views.Built.{TextAnswers}
use Rattle.lf_scalar.specs.reading.Quoted.{line_at}
use Rattle.lf_scalar.specs.reading.Plain.{plain_line, plain_behind, plain_from, plain_lines_text, tab_with, Steps}
use Rattle.lf_scalar.proofs.PlainLaws.{blanks-passed, stops, goes, tabs}
use Rattle.lf_scalar.proofs.LineSteps.{lines-nil}
use Rattle.lf_scalar.proofs.Tails.{true-false}

abbrev pub Read : Type 0
Read = Result (List Cell) Fault

abbrev pub yes : List Cell → Read
yes text = Ok text

abbrev pub no : Fault → Read
no f = Err f

pub yes-is : (x y : List Cell) → yes x ≡ yes y → x ≡ y
yes-is x y e = cc

pub yes-no : (x : List Cell) (f : Fault) → yes x ≡ no f → ⊥
yes-no x f e = cc

-- ---- cells before what is read

pub front-nil : (r : Read) → r ≡ front [] r
front-nil (Ok x) = refl
front-nil (Err f) = refl

pub front-twice : (a b : List Cell) (r : Read) → front a (front b r) ≡ front (a ++ b) r
front-twice a b (Ok x) = ap yes (sym (append_assoc a b x))
front-twice a b (Err f) = refl

pub front-gives : {X : Type 0} (r : Result X Refusal) (old mid new cs : List Cell) (read : Read) → mid ≡ old ++ cs → TextAnswers r mid new read → TextAnswers r old new (front cs read)
front-gives (Ok x) old mid new cs read m (part, e, n) = (cs ++ part, rw e refl, n ∙ ap (λ (ys : List Cell). ys ++ part) m ∙ append_assoc old cs part)
front-gives (Err refusal_of.Memory) old mid new cs read m h = tt
front-gives (Err (refusal_of.At kind span)) old mid new cs read m h = rw h refl

-- what a line gives, and what follows it
front-line : (cs part : List Cell) (p : Read) (behind : Read) → front cs p ≡ yes part → front cs (p >>= λ text. front text behind) ≡ front part behind
front-line cs part (Ok text) behind e = front-twice cs text behind ∙ ap (λ (x : List Cell). front x behind) (yes-is (cs ++ text) part e)
front-line cs part (Err f) behind e = absurd (yes-no part f (sym e))

front-wrong : (cs : List Cell) (p : Read) (behind : Read) (f : Fault) → front cs p ≡ no f → front cs (p >>= λ text. front text behind) ≡ no f
front-wrong cs (Ok text) behind f e = absurd (yes-no (cs ++ text) f e)
front-wrong cs (Err g) behind f e = e

-- ---- one line

module _ (above break k : ℕ) (tab : Option ℕ) (l : Line) where
  pub blank-step : (after : Option ℕ) → after ≡ tab_with tab l → is_blank_line l ≡ true → (ls : List Line) → plain_behind above break k tab (l ∷ ls) ≡ front [] (plain_behind above break (k + 1) after ls)
  blank-step after a h ls = blanks-passed above break k tab (l ∷ []) ls (h, tt) ∙ ap (λ (o : Option ℕ). plain_behind above break (k + 1) o ls) (sym a) ∙ front-nil (plain_behind above break (k + 1) after ls)

  goes-step : (b : Bool) (part : List Cell) → continues above l ≡ true → tab_with tab l ≡ None → is_commented l ≡ b → front (fold break k) (plain_line l) ≡ Ok part → (ls : List Line)
      → plain_behind above break k tab (l ∷ ls) ≡ front part (cond b (Ok []) (plain_behind above l.break 0 None ls))
  goes-step b part c t m e ls =
      goes above break k tab l ls c t ∙ front-line (fold break k) part (plain_line l) (cond (is_commented l) (Ok []) (plain_behind above l.break 0 None ls)) e
      ∙ ap (λ (x : Bool). front part (cond x (Ok []) (plain_behind above l.break 0 None ls))) m

  pub last-step : (part : List Cell) → continues above l ≡ true → tab_with tab l ≡ None → is_commented l ≡ true → front (fold break k) (plain_line l) ≡ Ok part → (ls : List Line) → plain_behind above break k tab (l ∷ ls) ≡ Ok part
  last-step part c t m e ls = goes-step true part c t m e ls ∙ ap yes (append-nil part)

  pub more-step : (part : List Cell) → continues above l ≡ true → tab_with tab l ≡ None → is_commented l ≡ false → front (fold break k) (plain_line l) ≡ Ok part → (ls : List Line)
      → plain_behind above break k tab (l ∷ ls) ≡ front part (plain_behind above l.break 0 None ls)
  more-step part c t m e ls = goes-step false part c t m e ls

  pub wrong-step : (e : Refusal) → continues above l ≡ true → tab_with tab l ≡ None → Fails e (front (fold break k) (plain_line l)) → (ls : List Line) → Fails e (plain_behind above break k tab (l ∷ ls))
  wrong-step refusal_of.Memory c t h ls = tt
  wrong-step (refusal_of.At kind span) c t h ls =
      goes above break k tab l ls c t ∙ front-wrong (fold break k) (plain_line l) (cond (is_commented l) (Ok []) (plain_behind above l.break 0 None ls)) (record { kind = kind; span = span }) h

  pub tab-step : (at : ℕ) → continues above l ≡ true → tab_with tab l ≡ Some at → (ls : List Line) → plain_behind above break k tab (l ∷ ls) ≡ Err (byte_fault BadIndent at)
  tab-step at c t ls = tabs above break k tab l ls at c t

  pub ends-step : is_blank_line l ≡ false → continues above l ≡ false → (ls : List Line) → plain_behind above break k tab (l ∷ ls) ≡ Ok []
  ends-step b c ls = stops above break k tab (l ∷ ls) (b, c)

-- ---- a tab behind the spaces of a line

-- a line with one begins with its first byte
pub tab-begun : (at : ℕ) (bytes : List ℕ) (break : ℕ) → has_tab (line_at at bytes break) ≡ true → start_of (line_at at bytes break) ≡ at
tab-begun at [] break h = true-false false h refl
tab-begun at (b ∷ bytes) break h = refl

-- ---- the lines behind a line break

-- what has been read of the lines behind a line break, and what is left
pub record Onto (above feed : ℕ) (all : List Line) (old now : List Cell) (folded : PendingPlainBreak) (left : List Line) : Type 0 where
  pub part : List Cell
  pub grown : now ≡ old ++ part
  pub same : plain_behind above feed 0 None all ≡ front part (plain_behind above folded.at folded.blank folded.tab left)

module _ (above feed : ℕ) (all : List Line) (old now : List Cell) (folded : PendingPlainBreak) (l : Line) (left : List Line) (h : Onto above feed all old now folded (l ∷ left)) where
  pub onto-wrong : (e : Refusal) (new : List Cell) → Steps above folded l (Err e) now new → Fails e (plain_behind above feed 0 None all)
  onto-wrong refusal_of.Memory new s = tt
  onto-wrong (refusal_of.At kind span) new s = h.same ∙ ap (front h.part) (s left)

pub onto-end : (above feed : ℕ) (all : List Line) (old now : List Cell) (folded : PendingPlainBreak) → Onto above feed all old now folded [] → (part : List Cell) × (plain_behind above feed 0 None all ≡ Ok part) × (now ≡ old ++ part)
unfolding plain_behind
onto-end above feed all old now folded h = (h.part, h.same ∙ ap yes (append-nil h.part), h.grown)

-- ---- the bytes left behind some lines

pub lines-none : (at place : ℕ) (rest : List ℕ) → length rest ≤ place → lines_at (at + place) (drop place rest) ≡ []
lines-none at place rest le = ap (λ (xs : List ℕ). lines_at (at + place) xs) (drop_all place rest le) ∙ lines-nil ((at + place) + 0)

-- ---- the first line

pub first-last : (above : ℕ) (l : Line) (ls : List Line) (part : List Cell) → plain_line l ≡ Ok part → is_commented l ≡ true → plain_from above l ls ≡ Ok part
first-last above l ls part e c = rw (e, c) (ap yes (append-nil part))

pub first-more : {X : Type 0} (r : Result X Refusal) (above : ℕ) (l : Line) (ls : List Line) (old mid new part : List Cell) → plain_line l ≡ Ok part → mid ≡ old ++ part → is_commented l ≡ false → TextAnswers r mid new (plain_behind above l.break 0 None ls) → TextAnswers r old new (plain_from above l ls)
first-more r above l ls old mid new part e m c h =
    let same : front part (plain_behind above l.break 0 None ls) ≡ plain_from above l ls = rw (e, c) refl in
    subst (TextAnswers r old new) same (front-gives r old mid new part (plain_behind above l.break 0 None ls) m h)

pub first-wrong : (e : Refusal) (above : ℕ) (l : Line) (ls : List Line) → Fails e (plain_line l) → Fails e (plain_from above l ls)
first-wrong refusal_of.Memory above l ls h = tt
first-wrong (refusal_of.At kind span) above l ls h = rw h refl

module _ (above at : ℕ) (rest taken : List ℕ) (text feed : ℕ) (t : taken ≡ take text rest) (first : lines_at at rest ≡ line (cells at (take text rest)) (at + feed) ∷ lines_at (at + (feed + 1)) (drop (feed + 1) rest)) where
  whole : plain_lines_text above (lines_at at rest) ≡ plain_from above (line_at at taken (at + feed)) (lines_at (at + (feed + 1)) (drop (feed + 1) rest))
  whole = ap (plain_lines_text above) first ∙ rw t refl

  pub commented-first : (part : List Cell) → plain_line (line_at at taken (at + feed)) ≡ Ok part → is_commented (line_at at taken (at + feed)) ≡ true → plain_lines_text above (lines_at at rest) ≡ Ok part
  commented-first part e c = whole ∙ first-last above (line_at at taken (at + feed)) (lines_at (at + (feed + 1)) (drop (feed + 1) rest)) part e c

  pub bare-first : {X : Type 0} (r : Result X Refusal) (old mid new part : List Cell) (left : List ℕ) → plain_line (line_at at taken (at + feed)) ≡ Ok part → mid ≡ old ++ part → is_commented (line_at at taken (at + feed)) ≡ false → left ≡ drop (feed + 1) rest
      → TextAnswers r mid new (plain_behind above (at + feed) 0 None (lines_at ((at + feed) + 1) left)) → TextAnswers r old new (plain_lines_text above (lines_at at rest))
  bare-first r old mid new part left e m c l h =
      let p : (at + feed) + 1 ≡ at + (feed + 1) = omega arith in
      let q : lines_at ((at + feed) + 1) left ≡ lines_at (at + (feed + 1)) (drop (feed + 1) rest) = ap (λ (n : ℕ). lines_at n left) p ∙ ap (λ (xs : List ℕ). lines_at (at + (feed + 1)) xs) l in
      subst (TextAnswers r old new) (sym whole)
      (first-more r above (line_at at taken (at + feed)) (lines_at (at + (feed + 1)) (drop (feed + 1) rest)) old mid new part e m c (subst (λ (ls : List Line). TextAnswers r mid new (plain_behind above (at + feed) 0 None ls)) q h))

  pub wrong-first : (e : Refusal) → Fails e (plain_line (line_at at taken (at + feed))) → Fails e (plain_lines_text above (lines_at at rest))
  wrong-first e h = subst (Fails e) (sym whole) (first-wrong e above (line_at at taken (at + feed)) (lines_at (at + (feed + 1)) (drop (feed + 1) rest)) h)
