-- What is counted from left to right is the measure.
use Rattle.std.proofs.Common.{◌≡◌, ◌∙◌, ℕ, zero, suc, ◌+◌, ◌*◌, ◌<◌, ◌≤◌, max, min, Bool, true, false, leb, List, [], ◌∷◌, ◌++◌, length, refl, sym, ap, ap₂, add-mul, mul_assoc, mul-pos, le-mul_of_pos_right, leb-true, leb-false, arith}
use Rattle.lf_sizes.specs.Sizes.{SizeMark, atom, more, opens, closes, count, often, outside, in_groups, size, most, marks_in, measured, says}
use Rattle.lf_sizes.specs.declared.size.Weights.{Weights}
use Rattle.lf_sizes.specs.views.Size.{SizeState, closed, marked, marked_all, plus_each, size_from, start, stepped}

-- ---- numbers

-- what is cut before it is multiplied is cut behind
cut : (x k y : ℕ) → 0 < k → min (min x most * k + y) most ≡ min (x * k + y) most
cut x k y some = by (leb x most) refl
  where
    by : (small : Bool) → leb x most ≡ small → min (min x most * k + y) most ≡ min (x * k + y) most
    by true e = let is : min x most ≡ x = omega (arith, leb-true x most e) in ap (λ n. min (n * k + y) most) is
    by false e =
        let is : min x most ≡ most = omega (arith, leb-false x most e) in
        let great : x ≤ x * k = le-mul_of_pos_right x some in
        ap (λ n. min (n * k + y) most) is ∙ omega (arith, leb-false x most e, great, some)

joined : (a b k y : ℕ) → 0 < k → min (min (a + b) most * k + y) most ≡ min (a * k + b * k + y) most
joined a b k y some = cut (a + b) k y some ∙ ap (λ n. min (n + y) most) (add-mul a b k)

-- ---- each mark counts once at least

mutual
  some : (ms : List SizeMark) → 0 < often ms
  some [] = omega arith
  some (count n ∷ ms) = let h : 0 < max n 1 = omega arith in mul-pos h (some ms)
  some (more n ∷ ms) = some ms
  some (closes ∷ ms) = some ms
  some (atom n ∷ ms) = some_outside 0 ms
  some (opens ∷ ms) = some_outside 1 ms

  some_outside : (d : ℕ) (ms : List SizeMark) → 0 < outside d ms
  some_outside d [] = omega arith
  some_outside d (count n ∷ ms) = some_outside d ms
  some_outside d (more n ∷ ms) = some_outside d ms
  some_outside d (atom n ∷ ms) = some_outside d ms
  some_outside d (opens ∷ ms) = some_outside (suc d) ms
  some_outside zero (closes ∷ ms) = some ms
  some_outside (suc d) (closes ∷ ms) = some_outside d ms

-- ---- what stands before the open groups counts as often as these groups

abbrev before : ℕ → List ℕ → List SizeMark → ℕ
before d [] ms = 0
before d (b ∷ bs) ms = b * outside d ms + before (suc d) bs ms

before_same : (m : SizeMark) (ms : List SizeMark) → ((d : ℕ) → outside d (m ∷ ms) ≡ outside d ms) → (d : ℕ) (bs : List ℕ) → before d bs (m ∷ ms) ≡ before d bs ms
before_same m ms same d [] = refl
before_same m ms same d (b ∷ bs) = ap₂ (λ x y. b * x + y) (same d) (before_same m ms same (suc d) bs)

before_open : (ms : List SizeMark) (d : ℕ) (bs : List ℕ) → before d bs (opens ∷ ms) ≡ before (suc d) bs ms
before_open ms d [] = refl
before_open ms d (b ∷ bs) = ap (λ y. b * outside (suc d) ms + y) (before_open ms (suc d) bs)

before_closed : (ms : List SizeMark) (d : ℕ) (bs : List ℕ) → before (suc d) bs (closes ∷ ms) ≡ before d bs ms
before_closed ms d [] = refl
before_closed ms d (b ∷ bs) = ap (λ y. b * outside d ms + y) (before_closed ms (suc d) bs)

-- ---- the size of all, where this was read, and these marks are left

abbrev whole : SizeState → List SizeMark → ℕ
whole s ms = s.last * often ms + (s.sum * outside 0 ms + before 1 s.outer ms + size ms)

-- an atom
by_atom : (p a b o w z : ℕ) → 0 < o → min (p + (min (a + b) most * o + w + z)) most ≡ min (b * o + (a * o + w + (p + z))) most
by_atom p a b o w z some =
    let first : (x : ℕ) → p + (x + w + z) ≡ x + (p + (w + z)) = λ x. omega arith in
    let last : (x y : ℕ) → x + y + (p + (w + z)) ≡ y + (x + w + (p + z)) = λ x y. omega arith in
    ap (λ n. min n most) (first (min (a + b) most * o)) ∙ joined a b o (p + (w + z)) some ∙ ap (λ n. min n most) (last (a * o) (b * o))

-- a part of what stands before
by_more : (l n o r w z : ℕ) → 0 < o → min (min (l + n) most * o + (r + w + z)) most ≡ min (l * o + (r + w + (n * o + z))) most
by_more l n o r w z some =
    let last : (x y : ℕ) → x + y + (r + w + z) ≡ x + (r + w + (y + z)) = λ x y. omega arith in
    joined l n o (r + w + z) some ∙ ap (λ n. min n most) (last (l * o) (n * o))

-- a number in braces
by_count : (l k o q r w z : ℕ) → 0 < o → min (min (l * k) most * o + (r + w + z)) most ≡ min (l * (k * o) + (r + w + (0 * q + z))) most
by_count l k o q r w z some =
    let last : (x : ℕ) → x + (r + w + z) ≡ x + (r + w + (0 * q + z)) = λ x. omega arith in
    cut (l * k) o (r + w + z) some ∙ ap (λ n. min n most) (last (l * k * o)) ∙ ap (λ n. min (n + (r + w + (0 * q + z))) most) (mul_assoc l k o)

-- a group that begins
by_open : (p q a b o w z : ℕ) → 0 < o → min (0 * p + (0 * q + (min (a + b) most * o + w) + z)) most ≡ min (b * o + (a * o + w + (0 * p + z))) most
by_open p q a b o w z some =
    let first : (x : ℕ) → 0 * p + (0 * q + (x + w) + z) ≡ x + (w + z) = λ x. omega arith in
    let last : (x y : ℕ) → x + y + (w + z) ≡ y + (x + w + (0 * p + z)) = λ x y. omega arith in
    ap (λ n. min n most) (first (min (a + b) most * o)) ∙ joined a b o (w + z) some ∙ ap (λ n. min n most) (last (a * o) (b * o))

-- a group that ends
by_close : (a b o y z : ℕ) → 0 < o → min (min (min (a + b) most + 1) most * o + (y + z)) most ≡ min (b * o + (a * o + y + (1 * o + z))) most
by_close a b o y z some =
    let is : min (min (a + b) most + 1) most ≡ min (a + (b + 1)) most = omega arith in
    let apart : (b + 1) * o ≡ b * o + 1 * o = add-mul b 1 o in
    let last : (x k l : ℕ) → x + (k + l) + (y + z) ≡ k + (x + y + (l + z)) = λ x k l. omega arith in
    ap (λ n. min (n * o + (y + z)) most) is ∙ joined a (b + 1) o (y + z) some ∙ ap (λ n. min (a * o + n + (y + z)) most) apart ∙ ap (λ n. min n most) (last (a * o) (b * o) (1 * o))

-- what is left, where the groups are open that are open in the state
abbrev rest : SizeState → List SizeMark → List SizeMark
rest s ms = in_groups (length s.outer) ms

whole_closed : (outer : List ℕ) (s : SizeState) (ms : List SizeMark) → let left = in_groups (length outer) (closes ∷ ms) in min (whole (closed outer s) (rest (closed outer s) ms)) most ≡ min (s.last * often left + (s.sum * outside 0 left + before 1 outer left + size left)) most
whole_closed [] s all =
    let ms = in_groups 0 all in
    by_atom (1 * often ms) s.sum s.last (outside 0 ms) 0 (size ms) (some_outside 0 ms)
whole_closed (b ∷ bs) s all =
    let ms = in_groups (length bs) all in
    by_close s.sum s.last (often ms) (b * outside 0 ms + before 1 bs ms) (size ms) (some ms)
    ∙ ap (λ w. min (s.last * often ms + (s.sum * often ms + (b * outside 0 ms + w) + (1 * often ms + size ms))) most) (sym (before_closed ms 1 bs))

whole_marked : (m : SizeMark) (s : SizeState) (ms : List SizeMark) → min (whole (marked m s) (rest (marked m s) ms)) most ≡ min (whole s (rest s (m ∷ ms))) most
whole_marked (atom n) s all =
    let ms = in_groups (length s.outer) all in
    by_atom (n * often ms) s.sum s.last (outside 0 ms) (before 1 s.outer ms) (size ms) (some_outside 0 ms)
    ∙ ap (λ w. min (s.last * outside 0 ms + (s.sum * outside 0 ms + w + (n * often ms + size ms))) most) (sym (before_same (atom n) ms (λ d. refl) 1 s.outer))
whole_marked (more n) s all =
    let ms = in_groups (length s.outer) all in
    by_more s.last n (often ms) (s.sum * outside 0 ms) (before 1 s.outer ms) (size ms) (some ms)
    ∙ ap (λ w. min (s.last * often ms + (s.sum * outside 0 ms + w + (n * often ms + size ms))) most) (sym (before_same (more n) ms (λ d. refl) 1 s.outer))
whole_marked opens s all =
    let ms = in_groups (suc (length s.outer)) all in
    by_open (often ms) (outside 0 ms) s.sum s.last (outside 1 ms) (before 2 s.outer ms) (size ms) (some_outside 1 ms)
    ∙ ap (λ w. min (s.last * outside 1 ms + (s.sum * outside 1 ms + w + (0 * often ms + size ms))) most) (sym (before_open ms 1 s.outer))
whole_marked closes s ms = whole_closed s.outer s ms
whole_marked (count n) s all =
    let ms = in_groups (length s.outer) all in
    by_count s.last (max n 1) (often ms) (often ms) (s.sum * outside 0 ms) (before 1 s.outer ms) (size ms) (some ms)
    ∙ ap (λ w. min (s.last * (max n 1 * often ms) + (s.sum * outside 0 ms + w + (0 * often ms + size ms))) most) (sym (before_same (count n) ms (λ d. refl) 1 s.outer))

whole_all : (ws : List SizeMark) (s : SizeState) (ms : List SizeMark) → min (whole (marked_all ws s) (rest (marked_all ws s) ms)) most ≡ min (whole s (rest s (ws ++ ms))) most
whole_all [] s ms = refl
whole_all (w ∷ ws) s ms = whole_all ws (marked w s) ms ∙ whole_marked w s (ws ++ ms)

total_is : (n d : ℕ) (bs : List ℕ) → plus_each (min n most) bs ≡ min (n + before d bs []) most
total_is n d [] = omega arith
total_is n d (b ∷ bs) =
    let is : min (min n most + b) most ≡ min (n + b) most = omega arith in
    ap (λ k. plus_each k bs) is ∙ total_is (n + b) (suc d) bs ∙ ap (λ k. min k most) (omega arith)

counted : (s : SizeState) (cs : List ℕ) → size_from s cs ≡ min (whole s (rest s (marks_in s.weights s.mode s.character cs))) most
unfolding stepped
counted s [] = total_is (s.sum + s.last) 1 s.outer ∙ ap (λ n. min n most) (omega arith)
counted s (c ∷ cs) =
    let w = says s.weights s.mode s.character c in
    counted (stepped s c) cs ∙ whole_all w.marks s (marks_in s.weights w.next w.character cs)

pub law : (weights : Weights) (pattern : List ℕ) → size_from (start weights) pattern ≡ measured weights pattern
law weights pattern = counted (start weights) pattern ∙ ap (λ n. min n most) (omega arith)
