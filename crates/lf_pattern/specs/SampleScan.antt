-- The samples that are kept as a function, one after the other. The universe of lf_semantics goes by it; so it is a definition. `AreSamples` of Samples.antt says the same as a relation,
-- and laws in proofs/SampleLaws.antt say that the two agree.
use Rattle.std.specs.Prelude.{ℕ, Bool, ◌&&◌, ◌||◌, not, nat_eq, nat_le, nat_lt, List, [], ◌∷◌, ◌++◌, length, Option, Some, None, if◌then◌else◌}
use Rattle.std.specs.List.{list_any}
use Rattle.std.specs.Str.{bytes_eq}
use Rattle.lf_pattern.specs.Matching.{matches}
use Rattle.lf_pattern.specs.declared.sample.Both.{Both}

-- whether a sample is kept
abbrev pub is_kept : List ℕ → List ℕ → Bool
is_kept p sample = nat_lt 0 (length sample) && nat_le (length sample) 256 && matches p sample

-- the list with a sample behind it, where it isn't too long, isn't empty, isn't in the list and is matched
abbrev pub added : List ℕ → List (List ℕ) → Option (List ℕ) → List (List ℕ)
added p list None = list
added p list (Some s) =
    if (nat_eq (length s) 0 || list_any (λ a. bytes_eq a s) list) || not (matches p s) then list
    else list ++ s ∷ []

abbrev pub both_added : List ℕ → Both → List (List ℕ)
both_added p b = added p (added p [] b.low) b.high
