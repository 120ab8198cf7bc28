-- The class of a word, one entry of the table at a time.
use Rattle.std.proofs.Common.{arith, Bool, ◌-◌, ◌≡◌, ℕ, ◌+◌, ◌<◌, ◌==◌, List, [], ◌∷◌, length, drop, map, get_or, true, false, refl, sym, ◌∙◌, ap}
use Rattle.std.specs.Borrow.{Bor}
use Rattle.std.specs.Char.{to_ascii_lowercase}
use Rattle.std.specs.Str.{bytes_eq}
use Rattle.std.proofs.lemmas.Bool.{false_from_ne_true}
use Rattle.std.proofs.lemmas.Bool.Decides.{not_from_Decides, Decides-eqb}
use Rattle.std.proofs.lemmas.List.{at_drop_more, length-map}
use Rattle.std.proofs.lemmas.Slice.Eq.{bytes_eq-Decides}
use Rattle.std.specs.Prelude.{if◌then◌else◌}
use Rattle.lf_parse.specs.declared.class.WordClass.{WordClass}
use Rattle.lf_parse.specs.declared.class.WordClass.TheVariants.{Plain}
use Rattle.lf_parse.specs.Tokens.{class_in, class_of, words}
use Rattle.lf_parse.specs.views.Values.{entries}

module _ (w : List ℕ) (es : List (Bor (List ℕ) × WordClass)) (k : ℕ) (e : Bor (List ℕ) × WordClass) (h : k < length es) where
  at_entry : class_in w (entries (drop k es)) ≡ (if bytes_eq w (map to_ascii_lowercase (get_or es k e).0.now) then (get_or es k e).1 else class_in w (entries (drop (k + 1) es)))
  at_entry = at_drop_more (λ l. class_in w (entries l)) es k e h

  pub entry_is : bytes_eq w (map to_ascii_lowercase (get_or es k e).0.now) ≡ true → class_in w (entries (drop k es)) ≡ (get_or es k e).1
  entry_is i = at_entry ∙ ap (λ b. if b then (get_or es k e).1 else class_in w (entries (drop (k + 1) es))) i

  pub entry_is_not : bytes_eq w (map to_ascii_lowercase (get_or es k e).0.now) ≡ false → class_in w (entries (drop k es)) ≡ class_in w (entries (drop (k + 1) es))
  entry_is_not i = at_entry ∙ ap (λ b. if b then (get_or es k e).1 else class_in w (entries (drop (k + 1) es))) i

-- ---- words by their length

-- the words of a list that have so many bytes
abbrev pub of_length : ℕ → List (List ℕ × WordClass) → List (List ℕ × WordClass)
of_length n [] = []
of_length n (e ∷ es) = if length e.0 == n then e ∷ of_length n es else of_length n es

-- a word of another length is none that has so many bytes
other_length : (w v : List ℕ) (n : ℕ) → length w ≡ n → (length v == n) ≡ false → bytes_eq w v ≡ false
other_length w v n h other = false_from_ne_true (bytes_eq w v) (λ is. not_from_Decides (length v == n) (Decides-eqb (length v) n) other (ap length (sym ((bytes_eq-Decides w v).0 is)) ∙ h))

with_entry : (w : List ℕ) (n : ℕ) → length w ≡ n → (e : List ℕ × WordClass) (es : List (List ℕ × WordClass)) → class_in w (of_length n es) ≡ class_in w es → (as_long : Bool) → (length e.0 == n) ≡ as_long → class_in w (if as_long then e ∷ of_length n es else of_length n es) ≡ class_in w (e ∷ es)
with_entry w n h e es same true _ = ap (λ c. if bytes_eq w e.0 then e.1 else c) same
with_entry w n h e es same false other = same ∙ ap (λ b. if b then e.1 else class_in w es) (sym (other_length w e.0 n h other))

same_class : (w : List ℕ) (n : ℕ) → length w ≡ n → (es : List (List ℕ × WordClass)) → class_in w (of_length n es) ≡ class_in w es
same_class w n h [] = refl
same_class w n h (e ∷ es) = with_entry w n h e es (same_class w n h es) (length e.0 == n) refl

-- a word's class is that which the words of its length give it
pub class_by_length : (text : List ℕ) (n : ℕ) → length text ≡ n → class_in (map to_ascii_lowercase text) (of_length n words) ≡ class_of text
unfolding class_of
class_by_length text n h = same_class (map to_ascii_lowercase text) n (length-map text to_ascii_lowercase ∙ h) words

-- no word has more than twelve bytes
abbrev few_bytes : List (List ℕ × WordClass) → Bool
few_bytes [] = true
few_bytes (e ∷ es) = if length e.0 - 12 == 0 then few_bytes es else false

none_with : (n : ℕ) → 12 < n → (e : List ℕ × WordClass) (es : List (List ℕ × WordClass)) → (few_bytes es ≡ true → of_length n es ≡ []) → (few : Bool) → (length e.0 - 12 == 0) ≡ few → (if few then few_bytes es else false) ≡ true → of_length n (e ∷ es) ≡ []
none_with n h e es rest true few all =
    ap (λ b. if b then e ∷ of_length n es else of_length n es) (false_from_ne_true (length e.0 == n) (λ is. omega (arith, h, (Decides-eqb (length e.0 - 12) 0).0 few, (Decides-eqb (length e.0) n).0 is))) ∙ rest all
none_with n h e es rest false few all = let no : false ≡ true = all in cc

none_as_long : (n : ℕ) → 12 < n → (es : List (List ℕ × WordClass)) → few_bytes es ≡ true → of_length n es ≡ []
none_as_long n h [] _ = refl
none_as_long n h (e ∷ es) all = none_with n h e es (none_as_long n h es) (length e.0 - 12 == 0) refl all

pub class_of_longer : (text : List ℕ) → 12 < length text → Plain ≡ class_of text
class_of_longer text h = ap (λ es. class_in (map to_ascii_lowercase text) es) (sym (none_as_long (length text) h words refl)) ∙ class_by_length text (length text) refl
