-- What is counted of a pattern, one byte after another.
use Rattle.std.proofs.Common.{◌≡◌, ℕ, ◌+◌, ◌<◌, ◌==◌, ◌&&◌, Bool, true, false, not, cond, List, [], ◌∷◌, length, drop, get_or, refl, sym, ◌∙◌, ap, zero-add}
use Rattle.std.proofs.lemmas.List.{at_drop_more}
use Rattle.lf_accept.specs.Sizes.{begins_marked, class_count, marked_count, names_class}

-- how many classes what is left names, where the byte before it is a backslash to which the next byte belongs, or isn't
abbrev pub classes_behind : Bool → List ℕ → ℕ
classes_behind true [] = 0
classes_behind true (b ∷ bs) = cond (names_class b) 1 0 + class_count bs
classes_behind false bs = class_count bs

unescaped : (b : ℕ) (bs : List ℕ) → class_count (b ∷ bs) ≡ classes_behind (b == 92) bs
unescaped b bs = by (b == 92) bs refl
  where
    by : (slash : Bool) (bs : List ℕ) → (b == 92) ≡ slash → class_count (b ∷ bs) ≡ classes_behind slash bs
    by true [] e = refl
    by false [] e = refl
    by true (c ∷ cs) e = ap (λ x. cond x (cond (names_class c) 1 0 + class_count cs) (class_count (c ∷ cs))) e
    by false (c ∷ cs) e = ap (λ x. cond x (cond (names_class c) 1 0 + class_count cs) (class_count (c ∷ cs))) e

class_more : (slash : Bool) (b : ℕ) (bs : List ℕ) → classes_behind slash (b ∷ bs) ≡ cond (slash && names_class b) 1 0 + classes_behind (not slash && (b == 92)) bs
class_more true b bs = refl
class_more false b bs = unescaped b bs ∙ sym (zero-add (classes_behind (b == 92) bs))

pub class_at : (slash : Bool) (bs : List ℕ) (k d : ℕ) → k < length bs → classes_behind slash (drop k bs) ≡ cond (slash && names_class (get_or bs k d)) 1 0 + classes_behind (not slash && (get_or bs k d == 92)) (drop (k + 1) bs)
class_at slash bs k d h = at_drop_more (classes_behind slash) bs k d h ∙ class_more slash (get_or bs k d) (drop (k + 1) bs)

pub marked_at : (bs : List ℕ) (k : ℕ) → k < length bs → marked_count (drop k bs) ≡ cond (begins_marked (drop k bs)) 1 0 + marked_count (drop (k + 1) bs)
marked_at bs k h = at_drop_more marked_count bs k 0 h ∙ ap (λ b. cond b 1 0 + marked_count (drop (k + 1) bs)) (sym (at_drop_more begins_marked bs k 0 h))
