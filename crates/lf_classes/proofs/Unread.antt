-- What a pattern that can be read passes, and one that can't.
use Rattle.std.proofs.Common.{◌≡◌, Bool, true, false, not, ◌&&◌, ◌||◌, List, ℕ, Option, Some, None, is_some, refl, ap}
use Rattle.std.specs.Option.{option_map_or}
use Rattle.std.specs.List.{list_any}
use Rattle.std.specs.Str.{bytes_eq}
use Rattle.lf_pattern.specs.Matching.{IsRead, is_read, matches}
use Rattle.lf_pattern.specs.Read.{reading}
use Rattle.lf_pattern.specs.Scan.{alternatives_of}
use Rattle.lf_pattern.proofs.GroupLaws.{read_is}
use Rattle.lf_laws.proofs.Booleans.{clash}

neither : {A B : Type 0} (f : A → Bool) (g : B → Bool) (a : Option A) (b : Option B) → (is_some a || is_some b) ≡ false → option_map_or f a (option_map_or g b false) ≡ false
neither f g None None e = refl
neither f g None (Some y) e = absurd (clash true refl e)
neither f g (Some x) b e = absurd (clash true refl e)

-- a pattern that can't be read matches nothing
pub unread_matches : (p value : List ℕ) → is_read p ≡ false → matches p value ≡ false
unread_matches p value e = neither (λ alternatives. list_any (λ a. bytes_eq a value) alternatives) _ (alternatives_of p) (reading p) e

-- and passes nothing
pub unread_passes : (p value : List ℕ) → is_read p ≡ false → (is_read p && not (matches p value)) ≡ false
unread_passes p value e = ap (λ b. b && not (matches p value)) e

-- a pattern that can be read passes what it doesn't match
pub read_passes : (p value : List ℕ) → IsRead p → (is_read p && not (matches p value)) ≡ not (matches p value)
read_passes p value r = ap (λ b. b && not (matches p value)) ((read_is p).1 r)
