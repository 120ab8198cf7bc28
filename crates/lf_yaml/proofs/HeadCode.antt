-- What stands behind a sign on a row, as the code finds it.
use Rattle.std.proofs.Common.{◌≡◌, ℕ, zero, suc, ◌+◌, ◌-◌, ◌<◌, ◌≤◌, Bool, true, false, eqb, List, [], ◌∷◌, ◌++◌, length, get_or, take, drop, length-drop, length-take, Option, Some, None, refl, ap, arith, sym, ◌∙◌, subst, append_assoc, inl, inr}
use Rattle.std.specs.Str.{IsCharBoundary, IsUtf8}
use Rattle.std.specs.List.{flat_map}
use Rattle.std.proofs.lemmas.List.{get_or-take, drop-drop}
use Rattle.std.proofs.lemmas.Bool.{eqb-true, cases_Bool}
use Rattle.std.proofs.lemmas.Str.{IsCharBoundary-after_ascii}
use Rattle.std.proofs.lemmas.Option.{same_Some}
use Rattle.lf_scalar.specs.Cells.{Cell, cell, cells, bytes_of}
use Rattle.lf_scalar.specs.Lines.{is_blank}
use Rattle.lf_scalar.specs.Quoted.{raw}
use Rattle.lf_scalar.proofs.Tails.{true-false}
use Rattle.lf_yaml.specs.Rows.{ContentRow, row, text_of, left_of}
use Rattle.lf_yaml.specs.Heads.{Key, BeginsEntry}
use Rattle.lf_yaml.specs.Heads as head
use Rattle.lf_yaml.specs.reading.Trees.{EntryHead, entry_of}
use Rattle.lf_yaml.specs.views.Shown.{shown}
use Rattle.lf_yaml.specs.views.Cursor.{IsRowOf}
use Rattle.lf_yaml.specs.views.Headed.{headed}
use Rattle.lf_yaml.specs.reading.BlockTurns.{IsBehind}
use Rattle.lf_yaml.specs.declared.row.ContentLine.{ContentLine}
use Rattle.lf_yaml.specs.declared.entries.EntryHead.{EntryHead as CodeHead}
use Rattle.lf_scalar.proofs.Cells.{cells-bytes, no-cell}
use Rattle.lf_yaml.proofs.HeadLaws.{entry-view}
use Rattle.lf_yaml.proofs.Placed.{placed-left, cons-cells, none-row}
use Rattle.lf_yaml.proofs.RowCode.{text-shown}
use Rattle.lf_yaml.proofs.RowsAfter.{part-of-file, get-drop}
use Rattle.lf_yaml.proofs.BlockTells.{blanks-suffix}
use Rattle.lf_yaml.proofs.FlowKeys.{split-source}

-- ---- an entry's row is what stands before its `:`, this sign, and what stands behind it

pub entry-source : (r : ContentRow) (k : Key) (colon : Cell) (behind : List Cell) → BeginsEntry r k colon behind → (front : List Cell) × (text_of r ≡ front ++ colon ∷ behind)
entry-source r _ _ _ (head.BeginsEntry.bare {front = front} {rest = rest} {colon = colon} p l e) = (front, split-source head.never _ (text_of r) (front, (colon, rest)) e)
entry-source r _ _ _ (head.BeginsEntry.quoted {rest = rest} {colon = colon} kind c e l s b) =
    let k = blanks-suffix c.rest in
    let raws = flat_map raw c.raws in
    let behind : c.rest ≡ k.0 ++ colon ∷ rest = k.1 ∙ ap (λ (xs : List Cell). k.0 ++ xs) s.0 in
    let whole : r.rest ≡ (raws ++ c.closing ∷ []) ++ c.rest = c.source ∙ sym (append_assoc raws (c.closing ∷ []) c.rest) in
    let all : r.rest ≡ ((raws ++ c.closing ∷ []) ++ k.0) ++ colon ∷ rest =
    whole ∙ ap (λ (xs : List Cell). (raws ++ c.closing ∷ []) ++ xs) behind ∙ sym (append_assoc (raws ++ c.closing ∷ []) k.0 (colon ∷ rest)) in
    (r.first ∷ ((raws ++ c.closing ∷ []) ++ k.0), ap (λ (xs : List Cell). r.first ∷ xs) all)

pub entry-split : (r : ContentRow) (h : EntryHead) → entry_of r ≡ Some h → (front : List Cell) × (text_of r ≡ front ++ h.1 ∷ h.2)
entry-split r h e =
    elim (entry-view r) [
      | inl (k, colon, behind, b, t) ↦
          let same : some (k, colon, behind) ≡ some h = sym t ∙ e in
          subst (λ (x : EntryHead). (front : List Cell) × (text_of r ≡ front ++ x.1 ∷ x.2)) (inside (k, colon, behind) h same) (entry-source r k colon behind b)
      | inr (t, none) ↦ absurd (never h (sym t ∙ e))
    ]
  where
    some : EntryHead → Option EntryHead
    some h = Some h

    inside : (x y : EntryHead) → some x ≡ some y → x ≡ y
    inside x y e = cc

    never : (h : EntryHead) → None ≡ some h → ⊥
    never h e = cc

-- where some cells of a text stand in it
pub record Stands (at : ℕ) (text : List ℕ) (n byte place : ℕ) (behind : List ℕ) : Type 0 where
  pub same_place : place ≡ at + n
  pub within : n < length text
  pub same_byte : get_or text n 0 ≡ byte
  pub same_rest : behind ≡ drop (suc n) text

pub cells-stand : (at : ℕ) (text : List ℕ) (front : List Cell) (byte place : ℕ) (behind : List ℕ) → cells at text ≡ front ++ cell byte place ∷ cells (suc place) behind → Stands at text (length front) byte place behind
cells-stand at [] [] byte place behind e = absurd (no-cell (cell byte place) (cells (suc place) behind) e)
cells-stand at [] (x ∷ front) byte place behind e = absurd (no-cell x (front ++ cell byte place ∷ cells (suc place) behind) e)
cells-stand at (b ∷ text) [] byte place behind e =
    let h = cons-cells (cell b at) (cell byte place) (cells (suc at) text) (cells (suc place) behind) e in
    let z : at ≡ at + 0 = omega arith in
    record {
      same_place = ap (λ (c : Cell). c.at) (sym h.0) ∙ z;
      within = omega arith;
      same_byte = ap (λ (c : Cell). c.byte) h.0;
      same_rest = sym (cells-bytes (suc place) behind) ∙ ap bytes_of (sym h.1) ∙ cells-bytes (suc at) text;
    }
cells-stand at (b ∷ text) (x ∷ front) byte place behind e =
    let h = cons-cells (cell b at) x (cells (suc at) text) (front ++ cell byte place ∷ cells (suc place) behind) e in
    let k = cells-stand (suc at) text front byte place behind h.1 in
    let z : suc at + length front ≡ at + suc (length front) = omega arith in
    record {
      same_place = k.same_place ∙ z;
      within = omega (arith, k.within);
      same_byte = k.same_byte;
      same_rest = k.same_rest;
    }

pub head-behind : (r : ContentLine) (h : CodeHead) → 0 < length r.text.now → entry_of (shown r) ≡ Some (headed r.at r.text.now h) → IsBehind r h.colon h.behind.now
head-behind r h lt e =
    let s = entry-split (shown r) (headed r.at r.text.now h) e in
    let k = cells-stand r.at r.text.now s.0 58 h.colon h.behind.now (sym (text-shown r lt) ∙ s.1) in
    let n : h.colon - r.at ≡ length s.0 = omega (arith, k.same_place) in
    record {
      order = omega (arith, k.same_place);
      within = omega (arith, k.within, n);
      sign = ap (λ (m : ℕ). get_or r.text.now m 0) n ∙ k.same_byte;
      rest = k.same_rest ∙ ap (λ (m : ℕ). drop (suc m) r.text.now) (sym n);
    }

-- ---- what is left behind a sign

pub record LeftAt (at : ℕ) (text : List ℕ) (left : ContentRow) : Type 0 where
  pub skipped : ℕ
  pub place : left.first.at ≡ at + skipped
  pub text_left : text_of left ≡ cells (at + skipped) (drop skipped text)
  pub behind_blank : 0 < skipped → is_blank (cell (get_or text (skipped - 1) 0) 0) ≡ true

pub left-at : (begin at : ℕ) (text : List ℕ) (left : ContentRow) → left_of begin (cells at text) ≡ Some left → LeftAt at text left
left-at begin at [] left e = none-row left e
left-at begin at (b ∷ text) left e =
    elim (cases_Bool (is_blank (cell b 0))) [
      | inl a ↦
          let k = left-at begin (suc at) text left (rw a at e) in
          let z : suc at + k.skipped ≡ at + suc k.skipped = omega arith in
          record {
            skipped = suc k.skipped;
            place = k.place ∙ z;
            text_left = k.text_left ∙ ap (λ (n : ℕ). cells n (drop k.skipped text)) z;
            behind_blank = λ lt. blank-before b text k.skipped a k.behind_blank;
          }
      | inr a ↦ elim (cases_Bool (eqb b 35)) [
        | inl h ↦ none-row left (rw (a, h) at e)
        | inr h ↦
            let same : row begin (cell b at) (cells (suc at) text) ≡ left = same_Some (row begin (cell b at) (cells (suc at) text)) left (rw (a, h) at e) in
            let z : at ≡ at + 0 = omega arith in
            record {
              skipped = 0;
              place = ap (λ (r : ContentRow). r.first.at) (sym same) ∙ z;
              text_left = ap text_of (sym same) ∙ ap (λ (n : ℕ). cells n (b ∷ text)) z;
              behind_blank = λ lt. absurd (omega (arith, lt));
            }
      ]
    ]
  where
    blank-before : (b : ℕ) (text : List ℕ) (n : ℕ) → is_blank (cell b 0) ≡ true → (0 < n → is_blank (cell (get_or text (n - 1) 0) 0) ≡ true) → is_blank (cell (get_or (b ∷ text) (suc n - 1) 0) 0) ≡ true
    blank-before b text zero a h = a
    blank-before b text (suc n) a h =
        let z : suc n - 1 ≡ n = omega arith in
        let y : suc (suc n) - 1 ≡ suc n = omega arith in
        ap (λ (m : ℕ). is_blank (cell (get_or (b ∷ text) m 0) 0)) y ∙ ap (λ (m : ℕ). is_blank (cell (get_or text m 0) 0)) (sym z) ∙ h (omega arith)

blank-ascii : (b : ℕ) → is_blank (cell b 0) ≡ true → b < 128
blank-ascii b e = by (eqb b 32) (eqb b 9) refl refl e
  where
    by : (x y : Bool) → eqb b 32 ≡ x → eqb b 9 ≡ y → is_blank (cell b 0) ≡ true → b < 128
    by true y p q e = omega (arith, eqb-true b 32 p)
    by false true p q e = omega (arith, eqb-true b 9 q)
    by false false p q e = true-false (is_blank (cell b 0)) e (rw (p, q) refl)

cells-split : (at n : ℕ) (text : List ℕ) → cells at text ≡ cells at (take n text) ++ cells (at + n) (drop n text)
cells-split at zero text = let z : at + 0 ≡ at = omega arith in ap (λ (m : ℕ). cells m text) (sym z)
cells-split at (suc n) [] = refl
cells-split at (suc n) (b ∷ text) =
    let z : suc at + n ≡ at + suc n = omega arith in
    ap (λ (cs : List Cell). cell b at ∷ cs) (cells-split (suc at) n text ∙ ap (λ (m : ℕ). cells (suc at) (take n text) ++ cells m (drop n text)) z)

-- a byte of a row is that of the file
byte-of-file : (bytes : List ℕ) (r : ContentLine) (i : ℕ) → IsRowOf bytes r → i < length r.text.now → (get_or r.text.now i 0 ≡ get_or bytes (r.at + i) 0) × (r.at + i < length bytes)
byte-of-file bytes r i h lt =
    let n = length r.text.now in
    let a : length r.text.now ≡ length (take n (drop r.at bytes)) = ap length h.text in (
      ap (λ (xs : List ℕ). get_or xs i 0) h.text ∙ get_or-take n (drop r.at bytes) i 0 (omega arith) ∙ get-drop r.at i bytes,
      omega (arith, a, length-take n (drop r.at bytes), length-drop r.at bytes),
    )

pub left-row : (bytes : List ℕ) (r left : ContentLine) (sign : ℕ) → IsUtf8 bytes → IsRowOf bytes r → 0 < length r.text.now → 0 < length left.text.now → sign < length r.text.now → get_or r.text.now sign 0 < 128
    → left_of r.begin (cells (r.at + (sign + 1)) (drop (sign + 1) r.text.now)) ≡ Some (shown left) → IsRowOf bytes left
left-row bytes r left sign utf8 h full full2 lt ascii e =
    let from = r.at + (sign + 1) in
    let behind = drop (sign + 1) r.text.now in
    let k = left-at r.begin from behind (shown left) e in
    let text : left.text.now ≡ drop k.skipped behind =
    sym (cells-bytes left.at left.text.now) ∙ ap bytes_of (sym (text-shown left full2) ∙ k.text_left) ∙ cells-bytes (from + k.skipped) (drop k.skipped behind) in
    let whole : left.text.now ≡ drop (sign + 1 + k.skipped) r.text.now = text ∙ drop-drop k.skipped (sign + 1) r.text.now in
    let n : left.at - r.at ≡ sign + 1 + k.skipped = omega (arith, k.place) in
    let last : sign + 1 + k.skipped ≤ length r.text.now = omega (arith, full2, ap length whole, length-drop (sign + 1 + k.skipped) r.text.now) in
    let before : get_or r.text.now (sign + k.skipped) 0 < 128 = byte-before r.text.now sign k.skipped ascii k.behind_blank in
    let b = byte-of-file bytes r (sign + k.skipped) h (omega arith) in
    let p : r.at + (sign + k.skipped) + 1 ≡ left.at = omega (arith, k.place) in
    record {
      placed = placed-left bytes (shown r) (shown left) (cells r.at (take (sign + 1) r.text.now)) (cells from behind) r.begin h.placed (text-shown r full ∙ cells-split r.at (sign + 1) r.text.now) e;
      boundary = subst (IsCharBoundary bytes) p (IsCharBoundary-after_ascii bytes (r.at + (sign + k.skipped)) utf8 b.1 (omega (arith, before, b.0)));
      text = part-of-file bytes r.at left.at r.text.now left.text.now (omega (arith, k.place)) h.text (whole ∙ ap (λ (m : ℕ). drop m r.text.now) (sym n));
    }
  where
    byte-before : (text : List ℕ) (sign n : ℕ) → get_or text sign 0 < 128 → (0 < n → is_blank (cell (get_or (drop (sign + 1) text) (n - 1) 0) 0) ≡ true) → get_or text (sign + n) 0 < 128
    byte-before text sign zero a h = let z : sign + 0 ≡ sign = omega arith in subst (λ (m : ℕ). get_or text m 0 < 128) (sym z) a
    byte-before text sign (suc n) a h =
        let z : suc n - 1 ≡ n = omega arith in
        let y : sign + 1 + n ≡ sign + suc n = omega arith in
        let blank : is_blank (cell (get_or (drop (sign + 1) text) n 0) 0) ≡ true = ap (λ (m : ℕ). is_blank (cell (get_or (drop (sign + 1) text) m 0) 0)) (sym z) ∙ h (omega arith) in
        let same : get_or (drop (sign + 1) text) n 0 ≡ get_or text (sign + suc n) 0 = get-drop (sign + 1) n text ∙ ap (λ (m : ℕ). get_or text m 0) y in
        omega (arith, same, blank-ascii (get_or (drop (sign + 1) text) n 0) blank)
