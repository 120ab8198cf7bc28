-- The text of a key without quotes, as the code finds it.
use Rattle.std.proofs.Common.{◌≡◌, ℕ, suc, ◌+◌, ◌<◌, ◌≤◌, Bool, true, false, cond, List, [], ◌∷◌, Option, Some, None, length, get_or, take, drop, refl, ap, arith, sym, ◌∙◌, inl, inr}
use Rattle.std.proofs.lemmas.List.{drop_all}
use Rattle.std.proofs.lemmas.Bool.{cases_Bool}
use Rattle.lf_scalar.specs.Cells.{Cell, cell, cells}
use Rattle.lf_scalar.specs.Plain.{before_blank, begins_plain}
use Rattle.lf_scalar.proofs.Cells.{cells-drop}
use Rattle.lf_scalar.specs.Splits.{Split, split_of}
use Rattle.lf_yaml.specs.Keys.{key_in, never, begins_character, characters, is_key_left_out, has_bare_left_out}
use Rattle.lf_yaml.specs.views.Signs.{stops_of}

-- ---- how many characters

-- the characters of a text don't hang on its offset
pub characters-at : (a b : ℕ) (text : List ℕ) → characters (cells a text) ≡ characters (cells b text)
characters-at a b [] = refl
characters-at a b (x ∷ xs) =
    elim (cases_Bool (begins_character (cell x 0))) [
      | inl h ↦ rw h (ap suc (characters-at (suc a) (suc b) xs))
      | inr h ↦ rw h (characters-at (suc a) (suc b) xs)
    ]

-- those of a text from a place on
abbrev pub left_at : List ℕ → ℕ → ℕ
left_at text i = characters (cells (0 + i) (drop i text))

pub one-counted : (text : List ℕ) (i n : ℕ) → i < length text → n ≡ cond (begins_character (cell (get_or text i 0) 0)) 1 0 → left_at text i ≡ n + left_at text (i + 1)
one-counted text i n lt e =
    ap characters (cells-drop 0 text i lt)
    ∙ elim (cases_Bool (begins_character (cell (get_or text i 0) 0))) [
      | inl h ↦ rw (e, h) (omega arith)
      | inr h ↦ rw (e, h) (omega arith)
    ]

pub all-counted : (text : List ℕ) (i : ℕ) → length text ≤ i → left_at text i ≡ 0
all-counted text i le = ap (λ (xs : List ℕ). characters (cells (0 + i) xs)) (drop_all i text le)

-- ---- keys

abbrev pub by : Option Split → Bool
by None = false
by (Some x) = is_key_left_out x.0

pub tested : (cs : List Cell) (o : Option Split) → begins_plain cs ≡ true → o ≡ key_in never before_blank cs → has_bare_left_out cs ≡ by o
tested cs None p e = rw (p, ← e) refl
tested cs (Some x) p e = rw (p, ← e) refl

pub key-found : (at k : ℕ) (front whole : List ℕ) → Some (split_of at whole k) ≡ key_in (stops_of false) before_blank (cells at whole) → front ≡ take k whole → begins_plain (cells at whole) ≡ true
    → (result : Bool) → result ≡ is_key_left_out (cells at front) → result ≡ has_bare_left_out (cells at whole)
key-found at k front whole e f p result r = r ∙ ap (λ (xs : List ℕ). is_key_left_out (cells at xs)) f ∙ sym (tested (cells at whole) (Some (split_of at whole k)) p e)

pub key-missing : (at : ℕ) (whole : List ℕ) → None ≡ key_in (stops_of false) before_blank (cells at whole) → begins_plain (cells at whole) ≡ true → false ≡ has_bare_left_out (cells at whole)
key-missing at whole e p = sym (tested (cells at whole) None p e)

pub not-plain : (at : ℕ) (whole : List ℕ) → begins_plain (cells at whole) ≡ false → false ≡ has_bare_left_out (cells at whole)
not-plain at whole p = rw p refl
