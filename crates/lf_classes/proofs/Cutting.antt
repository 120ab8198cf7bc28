-- Sets that are cut from one list of bits.
use Rattle.std.proofs.Common.{◌≡◌, ℕ, zero, suc, ◌+◌, ◌-◌, ◌<◌, ◌≤◌, Bool, true, false, List, [], ◌∷◌, map, length, get_or, take, drop, refl, sym, ◌∙◌, ap, arith, length-drop}
use Rattle.std.specs.Prelude.{replicate}
use Rattle.std.specs.List.{sum}
use Rattle.std.proofs.lemmas.List.{length-take-le, get_or-take, get_or-drop, get_or-replicate, drop-replicate, length-replicate, take-replicate}
use Rattle.std.proofs.lemmas.List.Sums.{sum_by-cons, sum_by_more_le}
use Rattle.lf_semantics.specs.ClassRows.{emptied, holds, is_live, remade}
use Rattle.lf_semantics.proofs.RowLaws.{any_at, holds-remade, shape_remade}
use Rattle.lf_semantics.proofs.RowSets.{count_at, dead_when, emptied_same, same_sets}
use Rattle.lf_classes.specs.views.Cut.{cut, start}

-- a sum from its first number on
pub sum_cons : (n : ℕ) (ns : List ℕ) → sum (n ∷ ns) ≡ n + sum ns
sum_cons n ns = sum_by-cons (λ x. x) n ns

pub length-cut : (counts : List ℕ) (bits : List Bool) → length (cut counts bits) ≡ length counts
length-cut [] bits = refl
length-cut (n ∷ counts) bits = ap suc (length-cut counts (drop n bits))

pub shape_cut : (counts : List ℕ) (bits : List Bool) → sum counts ≤ length bits → map length (cut counts bits) ≡ counts
shape_cut [] bits h = refl
shape_cut (n ∷ counts) bits h =
    let a : length (take n bits) ≡ n = length-take-le n bits (omega (arith, sum_cons n counts)) in
    let b : map length (cut counts (drop n bits)) ≡ counts = shape_cut counts (drop n bits) (omega (arith, sum_cons n counts, length-drop n bits)) in
    rw (a, b) refl

pub holds-cut : (counts : List ℕ) (bits : List Bool) (l c : ℕ) → l < length counts → c < get_or counts l 0 → holds (cut counts bits) l c ≡ get_or bits (start counts l + c) false
holds-cut [] bits l c h k = absurd (omega arith)
holds-cut (n ∷ counts) bits zero c h k = get_or-take n bits c false k ∙ ap (λ i. get_or bits i false) (let e : c ≡ 0 + c = omega arith in e)
holds-cut (n ∷ counts) bits (suc l) c h k =
    holds-cut counts (drop n bits) l c (omega arith) k ∙ get_or-drop n bits (start counts l + c) false
    ∙ ap (λ i. get_or bits i false) (let e : n + (start counts l + c) ≡ start (n ∷ counts) (suc l) + c = omega (arith, sum_cons n (take l counts)) in e)

-- the classes of a label stand before those of the next
pub start_within : (counts : List ℕ) (l : ℕ) → l < length counts → start counts l + get_or counts l 0 ≤ sum counts
start_within counts l h = sum_by_more_le (λ x. x) counts l 0 h

pub start_before : (counts : List ℕ) (l m : ℕ) → l < m → m < length counts → start counts l + get_or counts l 0 ≤ start counts m
start_before [] l m h k = absurd (omega arith)
start_before (n ∷ counts) l zero h k = absurd (omega arith)
start_before (n ∷ counts) zero (suc m) h k = omega (arith, sum_cons n (take m counts))
start_before (n ∷ counts) (suc l) (suc m) h k = omega (arith, sum_cons n (take m counts), sum_cons n (take l counts), start_before counts l m (omega arith) (omega arith))

-- bits made anew, class by class
pub cut_remade : (f : ℕ → ℕ → Bool → Bool) (counts : List ℕ) (old new : List Bool) → sum counts ≤ length old → sum counts ≤ length new
    → ((l c : ℕ) → l < length counts → c < get_or counts l 0 → get_or new (start counts l + c) false ≡ f l c (get_or old (start counts l + c) false))
    → cut counts new ≡ remade f (cut counts old)
cut_remade f counts old new h k same =
    let shape : map length (cut counts new) ≡ counts = shape_cut counts new k in
    let before : map length (cut counts old) ≡ counts = shape_cut counts old h in
    same_sets (cut counts new) (remade f (cut counts old)) (shape ∙ sym (shape_remade f 0 (cut counts old) ∙ before))
    (λ l c j i.
    let a : l < length counts = omega (arith, length-cut counts new) in
    let b : c < get_or counts l 0 = omega (arith, count_at (cut counts new) counts l shape j) in
    let d : l < length (cut counts old) = omega (arith, length-cut counts old) in
    let g : c < length (get_or (cut counts old) l []) = omega (arith, count_at (cut counts old) counts l before d) in
    holds-cut counts new l c a b ∙ same l c a b
    ∙ sym (holds-remade f (cut counts old) l c d g ∙ ap (f l c) (holds-cut counts old l c a b)))

-- what is found among the bits of a label

pub found_class : (counts : List ℕ) (bits : List Bool) (l : ℕ) → l < length counts
    → (k : ℕ) × (start counts l ≤ k) × (k < start counts l + get_or counts l 0) × (get_or bits k false ≡ true) → (c : ℕ) × (holds (cut counts bits) l c ≡ true)
found_class counts bits l h r =
    let c = r.0 - start counts l in
    let b : c < get_or counts l 0 = omega (arith, r.1, r.2) in
    let q : start counts l + c ≡ r.0 = omega (arith, r.1) in
    (c, holds-cut counts bits l c h b ∙ ap (λ n. get_or bits n false) q ∙ r.3)

pub no_class : (counts : List ℕ) (bits : List Bool) (l : ℕ) → sum counts ≤ length bits → l < length counts
    → ((k : ℕ) → start counts l ≤ k → k < start counts l + get_or counts l 0 → get_or bits k false ≡ false) → is_live (cut counts bits) ≡ false
no_class counts bits l n h none =
    let i : l < length (cut counts bits) = omega (arith, length-cut counts bits) in
    dead_when (cut counts bits) l i (λ c b.
    let d : c < get_or counts l 0 = omega (arith, count_at (cut counts bits) counts l (shape_cut counts bits n) i) in
    holds-cut counts bits l c h d ∙ none (start counts l + c) (omega arith) (omega arith))

-- bits that are all set

pub full_cut : (counts : List ℕ) (on : Bool) → cut counts (replicate (sum counts) on) ≡ map (λ n. replicate n on) counts
full_cut [] on = refl
full_cut (n ∷ counts) on =
    let a : take n (replicate (n + sum counts) on) ≡ replicate n on = take-replicate n (n + sum counts) on (omega arith) in
    let e : (n + sum counts) - n ≡ sum counts = omega arith in
    let b : drop n (replicate (n + sum counts) on) ≡ replicate (sum counts) on = drop-replicate n (n + sum counts) on ∙ ap (λ m. replicate m on) e in
    ap (λ m. cut (n ∷ counts) (replicate m on)) (sum_cons n counts)
    ∙ ap (λ xs. xs ∷ cut counts (drop n (replicate (n + sum counts) on))) a ∙ ap (λ xs. replicate n on ∷ cut counts xs) b ∙ ap (λ ys. replicate n on ∷ ys) (full_cut counts on)

pub full_live : (counts : List ℕ) → ((l : ℕ) → l < length counts → 0 < get_or counts l 0) → is_live (map (λ n. replicate n true) counts) ≡ true
full_live [] h = refl
full_live (n ∷ counts) h =
    let first : get_or (replicate n true) 0 false ≡ true = get_or-replicate n 0 true false (h 0 (omega arith)) in
    rw (any_at (replicate n true) 0 first, full_live counts (λ l b. h (suc l) (omega arith))) refl

counts_alike : (counts : List ℕ) (on : Bool) → map length (map (λ n. replicate n on) counts) ≡ counts
counts_alike [] on = refl
counts_alike (n ∷ counts) on = rw (length-replicate n on, counts_alike counts on) refl

-- an empty row, whatever its bits
pub empty_cut : (counts : List ℕ) (bits : List Bool) (on : Bool) → sum counts ≤ length bits → emptied (cut counts bits) ≡ emptied (map (λ n. replicate n on) counts)
empty_cut counts bits on h = emptied_same (cut counts bits) (map (λ n. replicate n on) counts) (shape_cut counts bits h ∙ sym (counts_alike counts on))
