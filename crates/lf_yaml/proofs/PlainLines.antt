-- The lines of plain scalars of flow collections, as the code takes them one by one.
use Rattle.std.proofs.Common.{◌≡◌, ℕ, suc, ◌+◌, ◌<◌, ◌≤◌, Bool, true, false, cond, List, [], ◌∷◌, ◌++◌, Some, None, Result, Ok, Err, length, take, drop, refl, ap, arith, append_assoc, sym, ◌∙◌, not, eq-eqb, ◌≢◌}
use Rattle.std.specs.List.{list_all}
use Rattle.std.proofs.lemmas.Bool.{ne_eqb}
use Rattle.std.proofs.lemmas.List.{append-nil}
use Rattle.lf_base.specs.declared.kind.Kind.TheVariants.{NotANode}
use Rattle.lf_base.specs.declared.refusal.Refusal.{Refusal}
use Rattle.lf_base.specs.declared.refusal.Refusal.TheVariants as refusal_of
use Rattle.lf_base.specs.declared.fault.Fault.{Fault}
use Rattle.lf_scalar.specs.Cells.{Cell, cell, cells, byte_fault, Fails, front, ◌>>=◌}
use Rattle.lf_scalar.specs.Lines.{Line, line, start_of, is_empty_text, is_blank, after_blanks, after_spaces}
use Rattle.lf_scalar.specs.Folding.{fold}
use Rattle.lf_scalar.specs.reading.Plain.{unless_key}
use Rattle.lf_scalar.specs.reading.Quoted.{line_at}
use Rattle.lf_scalar.proofs.PlainCode.{Read, yes, no, yes-is, yes-no}
use Rattle.lf_yaml.specs.Rows.{ContentRow, is_mark, content_row}
use Rattle.lf_yaml.specs.Flow.{line_on, flow_text, line_text, line_left, line_colon, colon_in, is_bare, is_spaces, is_flow_sign, goes_on, left_on}
use Rattle.lf_yaml.specs.reading.Trees.{plain_line, Folded, before_text, plain_behind, plain_from}
use Rattle.lf_yaml.specs.reading.FlowLines.{Steps, FoldsAs}
use Rattle.lf_yaml.specs.declared.flow_plain.PendingFlowBreak.{PendingFlowBreak}
use Rattle.lf_yaml.proofs.FlowLines.{good}
use Rattle.lf_yaml.proofs.PartCode.{behind-is}

-- ---- one line

module _ (at skipped len b : ℕ) (bytes text : List ℕ) (after : after_blanks (cells at bytes) ≡ cells (at + skipped) (drop skipped bytes)) (is : text ≡ drop skipped bytes) (le : len ≤ length text)
    (cut : flow_text (cells (at + skipped) text) ≡ cells (at + skipped) (take len text)) where
  abbrev here : Line
  here = line_at at bytes b

  behind-blanks : after_blanks (cells at bytes) ≡ cells (at + skipped) text
  behind-blanks = after ∙ ap (cells (at + skipped)) (sym is)

  pub text-is : line_text here ≡ cells (at + skipped) (take len text)
  text-is = ap flow_text behind-blanks ∙ cut

  pub left-is : line_left here ≡ cells (at + skipped + len) (drop len text)
  left-is = ap (λ (cs : List Cell). drop (length (flow_text cs)) cs) behind-blanks ∙ behind-is (at + skipped) len text le cut

  colon-is : line_colon here ≡ colon_in (cells (at + skipped) (take len text)) (cells (at + skipped + len) (drop len text))
  colon-is = ap (λ (cs : List Cell). colon_in cs (line_left here)) text-is ∙ ap (colon_in (cells (at + skipped) (take len text))) left-is

  pub line-refused : (k : ℕ) → Some (cell 58 k) ≡ colon_in (cells (at + skipped) (take len text)) (cells (at + skipped + len) (drop len text)) → plain_line here ≡ no (byte_fault NotANode k)
  line-refused k e = ap (unless_key (line_text here)) (colon-is ∙ sym e)

  pub line-read : None ≡ colon_in (cells (at + skipped) (take len text)) (cells (at + skipped + len) (drop len text)) → plain_line here ≡ yes (cells (at + skipped) (take len text))
  line-read e = ap (unless_key (line_text here)) (colon-is ∙ sym e) ∙ ap yes text-is

  pub nothing-left : (left : List ℕ) → left ≡ drop len text → list_all is_blank (cells (at + skipped + len) left) ≡ true → is_bare here ≡ true
  nothing-left left e h = ap (list_all is_blank) (left-is ∙ ap (cells (at + skipped + len)) (sym e)) ∙ h

  pub something-left : (left : List ℕ) → left ≡ drop len text → list_all is_blank (cells (at + skipped + len) left) ≡ false → (is_bare here ≡ false) × (left_on here ≡ at + (skipped + len))
  something-left left e h =
      let same : line_left here ≡ cells (at + skipped + len) left = left-is ∙ ap (cells (at + skipped + len)) (sym e) in
      let bare : is_bare here ≡ false = ap (list_all is_blank) same ∙ h in
      let z : at + skipped + len ≡ at + (skipped + len) = omega arith in
      (bare, ap (λ (x : Bool). cond x b (start_of (line (line_left here) b))) bare ∙ ap (λ (cs : List Cell). start_of (line cs b)) same ∙ begins left h ∙ z)
    where
      begins : (xs : List ℕ) → list_all is_blank (cells (at + skipped + len) xs) ≡ false → start_of (line (cells (at + skipped + len) xs) b) ≡ at + skipped + len
      begins [] h = absurd (never h)
        where
          never : true ≡ false → ⊥
          never e = cc
      begins (x ∷ xs) h = refl

-- ---- how a line begins

pub spaces-none : (at k b : ℕ) (bytes part : List ℕ) → after_spaces (cells at bytes) ≡ cells (at + k) (drop k bytes) → part ≡ drop k bytes → length part < 1 → true ≡ is_spaces (line_at at bytes b)
spaces-none at k b bytes part e p lt = sym (ap is_empty_text (e ∙ ap (cells (at + k)) (sym p)) ∙ by part lt)
  where
    by : (xs : List ℕ) → length xs < 1 → is_empty_text (cells (at + k) xs) ≡ true
    by [] lt = refl
    by (x ∷ xs) lt = absurd (omega arith)

pub spaces-some : (at k b : ℕ) (bytes part : List ℕ) → after_spaces (cells at bytes) ≡ cells (at + k) (drop k bytes) → part ≡ drop k bytes → 0 < length part → false ≡ is_spaces (line_at at bytes b)
spaces-some at k b bytes part e p lt = sym (ap is_empty_text (e ∙ ap (cells (at + k)) (sym p)) ∙ by part lt)
  where
    by : (xs : List ℕ) → 0 < length xs → is_empty_text (cells (at + k) xs) ≡ false
    by [] lt = absurd (omega arith)
    by (x ∷ xs) lt = refl

pub tab-ends : (r : ContentRow) (rs : List ContentRow) → r.first.byte ≡ 9 → false ≡ goes_on (r ∷ rs)
tab-ends r rs e = rw (eq-eqb r.first.byte 9 e) refl

pub sign-ends : (r : ContentRow) (rs : List ContentRow) → r.first.byte ≢ 9 → is_flow_sign r.first ≡ true → false ≡ goes_on (r ∷ rs)
sign-ends r rs ne s = rw (ne_eqb r.first.byte 9 ne, s) refl

pub mark-tells : (r : ContentRow) (rs : List ContentRow) (b : Bool) → r.first.byte ≢ 9 → is_flow_sign r.first ≡ false → b ≡ is_mark r → not b ≡ goes_on (r ∷ rs)
mark-tells r rs b ne s m = ap not m ∙ sym (rw (ne_eqb r.first.byte 9 ne, s) refl)

-- ---- cells before what is read

abbrev pub bad : Fault → Folded
bad f = Err f

before-nil : (r : Folded) → r ≡ before_text [] r
before-nil (Ok x) = refl
before-nil (Err f) = refl

before-twice : (a b : List Cell) (r : Folded) → before_text a (before_text b r) ≡ before_text (a ++ b) r
before-twice a b (Ok x) = ap (λ (text : List Cell). good text x.1) (sym (append_assoc a b x.0))
before-twice a b (Err f) = refl

-- what a line gives behind some cells, and what follows it
front-line : (cs part : List Cell) (p : Read) (behind : Folded) → front cs p ≡ yes part → before_text cs (p >>= λ text. before_text text behind) ≡ before_text part behind
front-line cs part (Ok text) behind e = before-twice cs text behind ∙ ap (λ (x : List Cell). before_text x behind) (yes-is (cs ++ text) part e)
front-line cs part (Err f) behind e = absurd (yes-no part f (sym e))

front-wrong : (cs : List Cell) (p : Read) (behind : Folded) (f : Fault) → front cs p ≡ no f → before_text cs (p >>= λ text. before_text text behind) ≡ bad f
front-wrong cs (Ok text) behind f e = absurd (yes-no (cs ++ text) f e)
front-wrong cs (Err g) behind f e = ap bad (no-is g f e)
  where
    no-is : (x y : Fault) → no x ≡ no y → x ≡ y
    no-is x y e = cc

-- ---- one step

module _ (break k : ℕ) (l : Line) where
  pub blank-step : is_spaces l ≡ true → (ls : List Line) → plain_behind break k (l ∷ ls) ≡ before_text [] (plain_behind break (k + 1) ls)
  unfolding plain_behind
  blank-step h ls = let z : suc k ≡ k + 1 = omega arith in rw h (ap (λ (n : ℕ). plain_behind break n ls) z ∙ before-nil (plain_behind break (k + 1) ls))

  pub ends-step : is_spaces l ≡ false → goes_on (content_row l) ≡ false → (ls : List Line) → plain_behind break k (l ∷ ls) ≡ good [] break
  unfolding plain_behind
  ends-step s g ls = rw (s, g) refl

  goes-step : is_spaces l ≡ false → goes_on (content_row l) ≡ true → (ls : List Line)
      → plain_behind break k (l ∷ ls) ≡ before_text (fold break k) (plain_line l >>= λ text. before_text text (cond (is_bare l) (plain_behind l.break 0 ls) (good [] (left_on l))))
  unfolding plain_behind
  goes-step s g ls = rw (s, g) refl

  line-step : (part : List Cell) → is_spaces l ≡ false → goes_on (content_row l) ≡ true → front (fold break k) (plain_line l) ≡ yes part → (ls : List Line)
      → plain_behind break k (l ∷ ls) ≡ before_text part (cond (is_bare l) (plain_behind l.break 0 ls) (good [] (left_on l)))
  line-step part s g e ls = goes-step s g ls ∙ front-line (fold break k) part (plain_line l) (cond (is_bare l) (plain_behind l.break 0 ls) (good [] (left_on l))) e

  pub last-step : (part : List Cell) (after : ℕ) → is_spaces l ≡ false → goes_on (content_row l) ≡ true → (is_bare l ≡ false) × (left_on l ≡ after) → front (fold break k) (plain_line l) ≡ yes part → (ls : List Line) → plain_behind break k (l ∷ ls) ≡ good part after
  last-step part after s g left e ls =
      line-step part s g e ls ∙ ap (λ (x : Bool). before_text part (cond x (plain_behind l.break 0 ls) (good [] (left_on l)))) left.0 ∙ ap (λ (text : List Cell). good text (left_on l)) (append-nil part) ∙ ap (good part) left.1

  pub more-step : (part : List Cell) → is_spaces l ≡ false → goes_on (content_row l) ≡ true → is_bare l ≡ true → front (fold break k) (plain_line l) ≡ yes part → (ls : List Line) → plain_behind break k (l ∷ ls) ≡ before_text part (plain_behind l.break 0 ls)
  more-step part s g bare e ls = line-step part s g e ls ∙ ap (λ (x : Bool). before_text part (cond x (plain_behind l.break 0 ls) (good [] (left_on l)))) bare

  pub wrong-step : (e : Refusal) → is_spaces l ≡ false → goes_on (content_row l) ≡ true → Fails e (front (fold break k) (plain_line l)) → (ls : List Line) → Fails e (plain_behind break k (l ∷ ls))
  wrong-step refusal_of.Memory s g h ls = tt
  wrong-step (refusal_of.At kind place) s g h ls =
      goes-step s g ls ∙ front-wrong (fold break k) (plain_line l) (cond (is_bare l) (plain_behind l.break 0 ls) (good [] (left_on l))) (record { kind = kind; span = place }) h

-- ---- the lines behind a line break

-- what has been read of the lines behind a line break, and what is left
pub record Onto (feed : ℕ) (all : List Line) (old now : List Cell) (folded : PendingFlowBreak) (left : List Line) : Type 0 where
  pub part : List Cell
  pub grown : now ≡ old ++ part
  pub same : plain_behind feed 0 all ≡ before_text part (plain_behind folded.at folded.blank left)

module _ (feed : ℕ) (all : List Line) (old now : List Cell) (folded : PendingFlowBreak) (l : Line) (left : List Line) (h : Onto feed all old now folded (l ∷ left)) where
  pub onto-wrong : (e : Refusal) (new : List Cell) → Steps folded l (Err e) now new → Fails e (plain_behind feed 0 all)
  onto-wrong refusal_of.Memory new s = tt
  onto-wrong (refusal_of.At kind place) new s = h.same ∙ ap (before_text h.part) (s left)

pub onto-end : (feed : ℕ) (all : List Line) (old now : List Cell) (folded : PendingFlowBreak) → Onto feed all old now folded [] → (part : List Cell) × (plain_behind feed 0 all ≡ good part folded.at) × (now ≡ old ++ part)
unfolding plain_behind
onto-end feed all old now folded h = (h.part, h.same ∙ ap (λ (x : List Cell). good x folded.at) (append-nil h.part), h.grown)

-- ---- the first line

pub line-is : (bytes : List ℕ) (at : ℕ) (text : List ℕ) → cells at text ≡ (line_on bytes at).text → line_at at text (line_on bytes at).break ≡ line_on bytes at
line-is bytes at text e = ap (λ (cs : List Cell). line cs (line_on bytes at).break) e

first-is : (l : Line) (ls : List Line) (part : List Cell) → plain_line l ≡ yes part → plain_from l ls ≡ before_text part (cond (is_bare l) (plain_behind l.break 0 ls) (good [] (left_on l)))
first-is l ls part e = ap (λ (r : Read). r >>= λ text. before_text text (cond (is_bare l) (plain_behind l.break 0 ls) (good [] (left_on l)))) e

pub first-last : (l : Line) (ls : List Line) (part : List Cell) (after : ℕ) → plain_line l ≡ yes part → (is_bare l ≡ false) × (left_on l ≡ after) → plain_from l ls ≡ good part after
first-last l ls part after e left =
    first-is l ls part e ∙ ap (λ (x : Bool). before_text part (cond x (plain_behind l.break 0 ls) (good [] (left_on l)))) left.0 ∙ ap (λ (text : List Cell). good text (left_on l)) (append-nil part) ∙ ap (good part) left.1

pub first-more : (l : Line) (ls : List Line) (part : List Cell) → plain_line l ≡ yes part → is_bare l ≡ true → plain_from l ls ≡ before_text part (plain_behind l.break 0 ls)
first-more l ls part e bare = first-is l ls part e ∙ ap (λ (x : Bool). before_text part (cond x (plain_behind l.break 0 ls) (good [] (left_on l)))) bare

pub first-wrong : (l : Line) (ls : List Line) (e : Refusal) → Fails e (plain_line l) → Fails e (plain_from l ls)
first-wrong l ls refusal_of.Memory h = tt
first-wrong l ls (refusal_of.At kind place) h = ap (λ (r : Read). r >>= λ text. before_text text (cond (is_bare l) (plain_behind l.break 0 ls) (good [] (left_on l)))) h

-- what is read behind some cells that were appended
pub folds-behind : (r : Result ℕ Refusal) (old mid new cs : List Cell) (read : Folded) → mid ≡ old ++ cs → FoldsAs r mid new read → FoldsAs r old new (before_text cs read)
folds-behind (Ok after) old mid new cs read m (part, e, n) = (cs ++ part, ap (before_text cs) e, n ∙ ap (λ (ys : List Cell). ys ++ part) m ∙ append_assoc old cs part)
folds-behind (Err refusal_of.Memory) old mid new cs read m h = tt
folds-behind (Err (refusal_of.At kind place)) old mid new cs read m h = ap (before_text cs) h
