-- The rows from an offset on, line by line.
use Rattle.std.proofs.Common.{◌≡◌, ℕ, zero, suc, ◌+◌, ◌-◌, ◌<◌, ◌≤◌, List, [], ◌∷◌, ◌++◌, length, get_or, drop, take, refl, ap, arith, sym, ◌∙◌, subst, length-drop, ◌⊎◌, inl, inr}
use Rattle.std.specs.Str.{IsCharBoundary, IsUtf8}
use Rattle.std.proofs.lemmas.List.{drop_all, get_or-take, drop-drop}
use Rattle.std.proofs.lemmas.Str.{IsCharBoundary-after_ascii, IsCharBoundary-end}
use Rattle.std.proofs.Math.Seq.{take-nil}
use Rattle.lf_scalar.specs.Cells.{cells}
use Rattle.lf_scalar.specs.Lines.{Line, line, lines, lines_at}
use Rattle.lf_scalar.specs.Scalars.{source_at}
use Rattle.lf_scalar.proofs.LineSteps.{lines-nil}
use Rattle.lf_yaml.specs.Rows.{ContentRow, content_row, rows_of}
use Rattle.lf_yaml.specs.views.Cursor.{rows_after, IsPlaced}
use Rattle.lf_yaml.proofs.Placed.{ArePlaced, file-placed}

nil-rows : (end : ℕ) (ls : List Line) → ls ≡ [] → rows_of ls ≡ []
unfolding rows_of
nil-rows end ls e = ap rows_of e

pub rows-past : (bytes : List ℕ) (from : ℕ) → length bytes ≤ from → rows_after bytes from ≡ []
unfolding rows_after
rows-past bytes from le = nil-rows 0 (lines (length bytes) (source_at bytes from)) (ap (λ (xs : List ℕ). lines (length bytes) (cells from xs)) (drop_all from bytes le) ∙ lines-nil (length bytes))

-- the lines from an offset within the file on
pub lines-from : (bytes : List ℕ) (from : ℕ) → from ≤ length bytes → lines_at from (drop from bytes) ≡ lines (length bytes) (source_at bytes from)
lines-from bytes from le =
    let e : from + length (drop from bytes) ≡ length bytes = omega (arith, length-drop from bytes) in
    ap (λ (n : ℕ). lines n (cells from (drop from bytes))) e

first-row : (l : Line) (ls ms : List Line) → ls ≡ l ∷ ms → rows_of ls ≡ content_row l ++ rows_of ms
unfolding rows_of
first-row l ls ms e = ap rows_of e

-- behind the first line
abbrev LineIs : List ℕ → ℕ → ℕ → ℕ → Type 0
LineIs bytes from t f = lines_at from (drop from bytes) ≡ line (cells from (take t (drop from bytes))) (from + f) ∷ lines_at (from + (f + 1)) (drop (f + 1) (drop from bytes))

pub rows-line : (bytes : List ℕ) (from t f behind : ℕ) → from < length bytes → f < length (drop from bytes) → behind ≡ from + f + 1 → LineIs bytes from t f
    → rows_after bytes from ≡ content_row (line (cells from (take t (drop from bytes))) (from + f)) ++ rows_after bytes behind
unfolding rows_after
rows-line bytes from t f behind lt within e first =
    let d : drop (f + 1) (drop from bytes) ≡ drop behind bytes = drop-drop (f + 1) from bytes ∙ ap (λ (n : ℕ). drop n bytes) (omega arith) in
    let p : from + (f + 1) ≡ behind = omega arith in
    let later : lines_at (from + (f + 1)) (drop (f + 1) (drop from bytes)) ≡ lines (length bytes) (source_at bytes behind) =
    ap (λ (xs : List ℕ). lines_at (from + (f + 1)) xs) d ∙ ap (λ (n : ℕ). lines_at n (drop behind bytes)) p ∙ lines-from bytes behind (omega (arith, length-drop from bytes)) in
    first-row _ _ _ (sym (lines-from bytes from (omega arith)) ∙ first) ∙ ap (λ (ls : List Line). content_row (line (cells from (take t (drop from bytes))) (from + f)) ++ rows_of ls) later

pub rows-last : (bytes : List ℕ) (from t f behind : ℕ) → from < length bytes → length (drop from bytes) ≤ f → behind ≡ length bytes → LineIs bytes from t f
    → rows_after bytes from ≡ content_row (line (cells from (take t (drop from bytes))) (from + f)) ++ rows_after bytes behind
unfolding rows_after
rows-last bytes from t f behind lt within e first =
    let n : drop (f + 1) (drop from bytes) ≡ [] = drop_all (f + 1) (drop from bytes) (omega arith) in
    let nothing : lines_at (from + (f + 1)) (drop (f + 1) (drop from bytes)) ≡ [] = ap (λ (xs : List ℕ). lines_at (from + (f + 1)) xs) n ∙ lines-nil _ in
    let none : lines (length bytes) (source_at bytes behind) ≡ [] = ap (λ (xs : List ℕ). lines (length bytes) (cells behind xs)) (drop_all behind bytes (omega arith)) ∙ lines-nil (length bytes) in
    first-row _ _ _ (sym (lines-from bytes from (omega arith)) ∙ first) ∙ ap (λ (ls : List Line). content_row (line (cells from (take t (drop from bytes))) (from + f)) ++ rows_of ls) (nothing ∙ sym none)

pub get-drop : (k i : ℕ) (xs : List ℕ) → get_or (drop k xs) i 0 ≡ get_or xs (k + i) 0
get-drop zero i xs = let z : 0 + i ≡ i = omega arith in ap (λ (n : ℕ). get_or xs n 0) (sym z)
get-drop (suc k) i [] = refl
get-drop (suc k) i (x ∷ xs) = let z : suc k + i ≡ suc (k + i) = omega arith in get-drop k i xs ∙ ap (λ (n : ℕ). get_or (x ∷ xs) n 0) (sym z)

-- behind a line feed a character begins
pub after-feed : (bytes : List ℕ) (from f behind : ℕ) → IsUtf8 bytes → f < length (drop from bytes) → behind ≡ from + f + 1 → get_or (drop from bytes) f 0 ≡ 10 → IsCharBoundary bytes behind
after-feed bytes from f behind utf8 lt e h =
    let b : get_or bytes (from + f) 0 < 128 = omega (arith, h, get-drop from f bytes) in
    subst (IsCharBoundary bytes) (sym e) (IsCharBoundary-after_ascii bytes (from + f) utf8 (omega (arith, length-drop from bytes)) b)

-- the first line, with its end where it has one
abbrev pub Behind : List ℕ → ℕ → List ℕ → ℕ → ℕ → Type 0
Behind bytes from rest f behind = ((f < length rest) × (behind ≡ from + f + 1)) ⊎ ((length rest ≤ f) × (behind ≡ length bytes))

pub rows-of-line : (bytes : List ℕ) (from t f behind : ℕ) (rest text : List ℕ) → from < length bytes → rest ≡ drop from bytes → text ≡ take t rest → Behind bytes from rest f behind
    → lines_at from rest ≡ line (cells from (take t rest)) (from + f) ∷ lines_at (from + (f + 1)) (drop (f + 1) rest)
    → (feed : ℕ) × (rows_after bytes from ≡ content_row (line (cells from text) feed) ++ rows_after bytes behind)
rows-of-line bytes from t f behind rest text lt e k b first =
    let first2 : LineIs bytes from t f = subst (λ (xs : List ℕ). lines_at from xs ≡ line (cells from (take t xs)) (from + f) ∷ lines_at (from + (f + 1)) (drop (f + 1) xs)) e first in
    let same : text ≡ take t (drop from bytes) = k ∙ ap (take t) e in
    (from + f, by b first2 ∙ ap (λ (xs : List ℕ). content_row (line (cells from xs) (from + f)) ++ rows_after bytes behind) (sym same))
  where
    by : Behind bytes from rest f behind → LineIs bytes from t f → rows_after bytes from ≡ content_row (line (cells from (take t (drop from bytes))) (from + f)) ++ rows_after bytes behind
    by (inl (within, p)) first = rows-line bytes from t f behind lt (omega (arith, within, ap length e)) p first
    by (inr (within, p)) first = rows-last bytes from t f behind lt (omega (arith, within, ap length e)) p first

pub behind-start : (bytes : List ℕ) (from f behind : ℕ) (rest : List ℕ) → IsUtf8 bytes → rest ≡ drop from bytes → Behind bytes from rest f behind → (f < length rest → get_or rest f 0 ≡ 10) → IsCharBoundary bytes behind
behind-start bytes from f behind rest utf8 e (inl (within, p)) feed =
    after-feed bytes from f behind utf8 (omega (arith, within, ap length e)) p (sym (ap (λ (xs : List ℕ). get_or xs f 0) e) ∙ feed within)
behind-start bytes from f behind rest utf8 e (inr (within, p)) feed = subst (IsCharBoundary bytes) (sym p) (IsCharBoundary-end bytes)

-- ---- what is known of the next row

pub placed-first : (bytes : List ℕ) (from : ℕ) (r : ContentRow) (rs : List ContentRow) → rows_after bytes from ≡ r ∷ rs → IsPlaced bytes r
unfolding rows_after
placed-first bytes from r rs e =
    let all : ArePlaced bytes (r ∷ rs) = subst (ArePlaced bytes) e (file-placed bytes from) in
    all.0

pub boundary-behind : (bytes : List ℕ) (from n : ℕ) (text : List ℕ) → IsUtf8 bytes → IsCharBoundary bytes from → from + length text ≤ length bytes → text ≡ take (length text) (drop from bytes) → n < length text → (0 < n → get_or text (n - 1) 0 ≡ 32)
    → IsCharBoundary bytes (from + n)
boundary-behind bytes from zero text utf8 b room e lt h = let z : from ≡ from + 0 = omega arith in subst (IsCharBoundary bytes) z b
boundary-behind bytes from (suc n) text utf8 b room e lt h =
    let k : suc n - 1 ≡ n = omega arith in
    let space : get_or text n 0 ≡ 32 = ap (λ (m : ℕ). get_or text m 0) (sym k) ∙ h (omega arith) in
    let same : get_or text n 0 ≡ get_or (drop from bytes) n 0 = ap (λ (xs : List ℕ). get_or xs n 0) e ∙ get_or-take (length text) (drop from bytes) n 0 (omega arith) in
    let p : from + n + 1 ≡ from + suc n = omega arith in
    subst (IsCharBoundary bytes) p (IsCharBoundary-after_ascii bytes (from + n) utf8 (omega arith) (omega (arith, space, same, get-drop from n bytes)))

pub drop-of-take : (n k : ℕ) (xs : List ℕ) → drop n (take k xs) ≡ take (k - n) (drop n xs)
drop-of-take zero k xs = let z : k - 0 ≡ k = omega arith in ap (λ (m : ℕ). take m xs) (sym z)
drop-of-take (suc n) zero xs = let z : 0 - suc n ≡ 0 = omega arith in ap (λ (m : ℕ). take m (drop (suc n) xs)) (sym z)
drop-of-take (suc n) (suc k) [] = let a : take (suc k - suc n) (drop {A = ℕ} (suc n) []) ≡ [] = take-nil (suc k - suc n) in sym a
drop-of-take (suc n) (suc k) (x ∷ xs) = let z : suc k - suc n ≡ k - n = omega arith in drop-of-take n k xs ∙ ap (λ (m : ℕ). take m (drop n xs)) (sym z)

-- a part of a line is a part of the file
pub part-of-file : (bytes : List ℕ) (from at : ℕ) (text part : List ℕ) → from ≤ at → text ≡ take (length text) (drop from bytes) → part ≡ drop (at - from) text → part ≡ take (length part) (drop at bytes)
part-of-file bytes from at text part le e p =
    let z : from + (at - from) ≡ at = omega arith in
    let d : drop (at - from) (drop from bytes) ≡ drop at bytes = drop-drop (at - from) from bytes ∙ ap (λ (m : ℕ). drop m bytes) z in
    let whole : part ≡ take (length text - (at - from)) (drop at bytes) =
    p ∙ ap (drop (at - from)) e ∙ drop-of-take (at - from) (length text) (drop from bytes) ∙ ap (take (length text - (at - from))) d in
    let n : length part ≡ length text - (at - from) = ap length p ∙ length-drop (at - from) text in
    whole ∙ ap (λ (m : ℕ). take m (drop at bytes)) (sym n)

pub row-boundary : (bytes : List ℕ) (from at : ℕ) (text part : List ℕ) → IsUtf8 bytes → IsCharBoundary bytes from → from + length text ≤ length bytes → text ≡ take (length text) (drop from bytes) → from ≤ at → part ≡ drop (at - from) text → 0 < length part
    → (from < at → get_or text (at - from - 1) 0 ≡ 32) → IsCharBoundary bytes at
row-boundary bytes from at text part utf8 b room e le p full spaces =
    let z : from + (at - from) ≡ at = omega arith in
    subst (IsCharBoundary bytes) z (boundary-behind bytes from (at - from) text utf8 b room e (omega (arith, full, ap length p, length-drop (at - from) text)) (λ lt. spaces (omega (arith, lt))))
