-- The bytes of a line of a plain scalar: where its comment begins, where its text ends, and where the sign of a key stands.
use Rattle.std.proofs.Common.{◌≡◌, ℕ, zero, suc, ◌+◌, ◌<◌, ◌≤◌, true, false, Bool, eqb, ◌&&◌, List, [], ◌∷◌, Some, None, length, get_or, take, drop, refl, ap, arith, ◌≢◌, eq-eqb, drop-cons}
use Rattle.std.specs.List.{list_all}
use Rattle.std.proofs.lemmas.List.{drop_all}
use Rattle.std.proofs.lemmas.Bool.{ne_eqb}
use Rattle.std.proofs.Math.Bool.{and-false}
use Rattle.lf_scalar.specs.Cells.{Cell, cell, cells}
use Rattle.lf_scalar.specs.Lines.{begins_with, is_blank}
use Rattle.lf_scalar.specs.Folding.{trimmed}
use Rattle.lf_scalar.specs.Plain.{before_comment, has_comment, before_blank, key_sign}
use Rattle.lf_scalar.specs.reading.Plain.{comment_at, key_at}

-- ---- comments

pub comment-at : (line : List ℕ) (n : ℕ) → n < length line → comment_at line n ≡ (is_blank (cell (get_or line n 0) 0) && eqb (get_or line (n + 1) 0) 35)
comment-at [] n lt = absurd (omega arith)
comment-at (x ∷ xs) zero lt = refl
comment-at (x ∷ xs) (suc n) lt = let e : suc n + 1 ≡ suc (n + 1) = omega arith in rw e (comment-at xs n (omega arith))

pub comment-blank : (line : List ℕ) (n : ℕ) → n < length line → is_blank (cell (get_or line n 0) 0) ≡ true → eqb (get_or line (n + 1) 0) 35 ≡ comment_at line n
comment-blank line n lt e = rw (comment-at line n lt, e) refl

pub comment-other : (line : List ℕ) (n : ℕ) → n < length line → is_blank (cell (get_or line n 0) 0) ≡ false → false ≡ comment_at line n
comment-other line n lt e = rw (comment-at line n lt, e) refl

comment-test : (at x : ℕ) (xs : List ℕ) → (is_blank (cell x at) && begins_with 35 (cells (suc at) xs)) ≡ comment_at (x ∷ xs) 0
comment-test at x [] = refl
comment-test at x (y ∷ ys) = refl

pub comment-text : (at : ℕ) (line : List ℕ) (n : ℕ) → n < length line → ((k : ℕ) → k < n → comment_at line k ≡ false) → comment_at line n ≡ true → before_comment (cells at line) ≡ cells at (take n line)
comment-text at [] n lt none e = absurd (omega arith)
comment-text at (x ∷ xs) zero lt none e = rw (comment-test at x xs, e) refl
comment-text at (x ∷ xs) (suc n) lt none e =
    rw (comment-test at x xs, none 0 (omega arith)) (ap (λ (cs : List Cell). cell x at ∷ cs) (comment-text (suc at) xs n (omega arith) (λ k h. none (suc k) (omega arith)) e))

pub comment-there : (at : ℕ) (line : List ℕ) (n : ℕ) → n < length line → ((k : ℕ) → k < n → comment_at line k ≡ false) → comment_at line n ≡ true → has_comment (cells at line) ≡ true
comment-there at [] n lt none e = absurd (omega arith)
comment-there at (x ∷ xs) zero lt none e = rw (comment-test at x xs, e) refl
comment-there at (x ∷ xs) (suc n) lt none e = rw (comment-test at x xs, none 0 (omega arith)) (comment-there (suc at) xs n (omega arith) (λ k h. none (suc k) (omega arith)) e)

pub no-comment-text : (at : ℕ) (line : List ℕ) → ((k : ℕ) → k < length line → comment_at line k ≡ false) → before_comment (cells at line) ≡ cells at (take (length line) line)
no-comment-text at [] none = refl
no-comment-text at (x ∷ xs) none = rw (comment-test at x xs, none 0 (omega arith)) (ap (λ (cs : List Cell). cell x at ∷ cs) (no-comment-text (suc at) xs (λ k h. none (suc k) (omega arith))))

pub no-comment : (at : ℕ) (line : List ℕ) → ((k : ℕ) → k < length line → comment_at line k ≡ false) → has_comment (cells at line) ≡ false
no-comment at [] none = refl
no-comment at (x ∷ xs) none = rw (comment-test at x xs, none 0 (omega arith)) (no-comment (suc at) xs (λ k h. none (suc k) (omega arith)))

-- ---- blanks at the end

all-blank : (at : ℕ) (text : List ℕ) → ((k : ℕ) → k < length text → is_blank (cell (get_or text k 0) 0) ≡ true) → list_all is_blank (cells at text) ≡ true
all-blank at [] all = refl
all-blank at (x ∷ xs) all = rw (all 0 (omega arith)) (all-blank (suc at) xs (λ k h. all (suc k) (omega arith)))

not-all : (at : ℕ) (text : List ℕ) (n : ℕ) → n < length text → is_blank (cell (get_or text n 0) 0) ≡ false → list_all is_blank (cells at text) ≡ false
not-all at [] n lt e = absurd (omega arith)
not-all at (x ∷ xs) zero lt e = rw e refl
not-all at (x ∷ xs) (suc n) lt e = rw (not-all (suc at) xs n (omega arith) e) (and-false (is_blank (cell x at)))

pub trimmed-is : (at : ℕ) (text : List ℕ) (n : ℕ) → n ≤ length text → ((k : ℕ) → n ≤ k → k < length text → is_blank (cell (get_or text k 0) 0) ≡ true) → ((m : ℕ) → suc m ≡ n → is_blank (cell (get_or text m 0) 0) ≡ false)
    → trimmed is_blank (cells at text) ≡ cells at (take n text)
trimmed-is at [] zero le all stop = refl
trimmed-is at [] (suc n) le all stop = refl
trimmed-is at (x ∷ xs) zero le all stop = rw (all-blank at (x ∷ xs) (λ k h. all k (omega arith) h)) refl
trimmed-is at (x ∷ xs) (suc n) le all stop =
    rw (not-all at (x ∷ xs) n (omega arith) (stop n refl)) (ap (λ (cs : List Cell). cell x at ∷ cs) (trimmed-is (suc at) xs n (omega arith) (λ k a b. all (suc k) (omega arith) (omega arith)) (λ m e. stop (suc m) (ap suc e))))

-- ---- the sign of a key

same-before : (at : ℕ) (xs : List ℕ) → before_blank (cells at xs) ≡ before_blank (cells 0 xs)
same-before at [] = refl
same-before at (x ∷ xs) = refl

key-test : (at x : ℕ) (xs : List ℕ) → (eqb x 58 && before_blank (cells (suc at) xs)) ≡ key_at (x ∷ xs) 0
key-test at x xs = ap (λ (b : Bool). eqb x 58 && b) (same-before (suc at) xs)

pub key-at : (text : List ℕ) (n : ℕ) → n < length text → key_at text n ≡ (eqb (get_or text n 0) 58 && before_blank (cells 0 (drop (n + 1) text)))
key-at [] n lt = absurd (omega arith)
key-at (x ∷ xs) zero lt = refl
key-at (x ∷ xs) (suc n) lt = let e : suc n + 1 ≡ suc (n + 1) = omega arith in rw e (key-at xs n (omega arith))

pub key-last : (text : List ℕ) (n : ℕ) → n < length text → get_or text n 0 ≡ 58 → n + 1 ≡ length text → eqb (n + 1) (length text) ≡ key_at text n
key-last text n lt e l =
    let d : drop (n + 1) text ≡ [] = drop_all (n + 1) text (omega (arith, l)) in
    rw (key-at text n lt, eq-eqb (get_or text n 0) 58 e, d, eq-eqb (n + 1) (length text) l) refl

pub key-next : (text : List ℕ) (n : ℕ) → n + 1 < length text → get_or text n 0 ≡ 58 → is_blank (cell (get_or text (n + 1) 0) 0) ≡ key_at text n
key-next text n lt e = rw (key-at text n (omega arith), eq-eqb (get_or text n 0) 58 e, drop-cons text (n + 1) 0) refl

pub key-other : (text : List ℕ) (n : ℕ) → n < length text → get_or text n 0 ≢ 58 → false ≡ key_at text n
key-other text n lt e = rw (key-at text n lt, ne_eqb (get_or text n 0) 58 e) refl

pub key-found : (at : ℕ) (text : List ℕ) (n : ℕ) → n < length text → ((k : ℕ) → k < n → key_at text k ≡ false) → key_at text n ≡ true → key_sign (cells at text) ≡ Some (cell (get_or text n 0) (at + n))
key-found at [] n lt none e = absurd (omega arith)
key-found at (x ∷ xs) zero lt none e = let p : at + 0 ≡ at = omega arith in rw (p, key-test at x xs, e) refl
key-found at (x ∷ xs) (suc n) lt none e =
    let p : suc at + n ≡ at + suc n = omega arith in
    rw (key-test at x xs, none 0 (omega arith), ← p) (key-found (suc at) xs n (omega arith) (λ k h. none (suc k) (omega arith)) e)

pub no-key : (at : ℕ) (text : List ℕ) → ((k : ℕ) → k < length text → key_at text k ≡ false) → key_sign (cells at text) ≡ None
no-key at [] none = refl
no-key at (x ∷ xs) none = rw (key-test at x xs, none 0 (omega arith)) (no-key (suc at) xs (λ k h. none (suc k) (omega arith)))
