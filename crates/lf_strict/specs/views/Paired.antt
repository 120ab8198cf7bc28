-- Pairs of a many side and a one side, as the code matches them: the one side under its signatures, and what a pair gives.
use Rattle.std.specs.Prelude.{◌≡◌, ◌⊎◌, cond, List, [], ◌∷◌, Option, Some, None}
use Rattle.std.specs.BTreeMap.{BTreeMap, get}
use Rattle.std.specs.List.{Contains}
use Rattle.std.specs.Ordering.{eq_by_cmp}
use Rattle.std.specs.Option.{option_map, option_to_list}
use Rattle.lf_ast.specs.Labels.{Labels}
use Rattle.lf_ast.specs.declared.expr.Group.{Group}
use Rattle.lf_ast.specs.declared.expr.Group.TheVariants.{One, Left, Right}
use Rattle.lf_ast.specs.declared.expr.Matching.{Matching}
use Rattle.lf_ast.specs.declared.expr.Op.{Op}
use Rattle.lf_semantics.specs.Grouped.{keeps, many_to_one, signs}
use Rattle.lf_semantics.specs.Texts.{HasTexts, restricted}
use Rattle.lf_witness.specs.Ascending.{labels_cmp}
use Rattle.lf_witness.specs.Strict.{HasTwoAlike, IsPair, Outcomes, PairsCoincide}

abbrev pub signature_of : Matching → Labels → Labels
signature_of m s = restricted (signs m) s

-- by its signature each sample is found, and no other
abbrev pub FindsEach : Matching → List Labels → (Labels → Option Labels) → Type 0
FindsEach m Q found =
    ((k t : Labels) → found k ≡ Some t → Contains Q t × (k ≡ signature_of m t))
    × ((t : Labels) → Contains Q t → HasTexts t × (found (signature_of m t) ≡ Some t))

-- the map has each sample under its signature, and no other
abbrev pub IsIndex : Matching → List Labels → BTreeMap Labels Labels → Type 0
IsIndex m Q ones = FindsEach m Q (get labels_cmp ones)

-- such a map, and None where two samples have equal signatures
abbrev pub AreIndexed : Matching → List Labels → Option (BTreeMap Labels Labels) → Type 0
AreIndexed m Q None = HasTwoAlike m Q
AreIndexed m Q (Some ones) = IsIndex m Q ones

-- what a sample of the many side gives with one of the one side; one to one the left side is the many side
abbrev pub result_of : Group → Op → Matching → Labels → Labels → Labels
result_of One op m many one = restricted (keeps op m) many
result_of Left op m many one = many_to_one op m many one
result_of Right op m many one = many_to_one op m many one

-- what a sample of the many side gives with its partner, and the sample itself where it has none
abbrev pub with_partner : Op → Matching → Labels → Option Labels → Labels
with_partner op m many None = many
with_partner op m many (Some one) = result_of m.group op m many one

-- the result of a sample of the many side, if it has a partner
abbrev pub with_found : Op → Matching → (Labels → Option Labels) → Labels → List Labels
with_found op m found s = option_to_list (option_map (result_of m.group op m s) (found (signature_of m s)))

-- the same by a map of the one side
abbrev pub with_one : Op → Matching → BTreeMap Labels Labels → Labels → List Labels
with_one op m ones s = with_found op m (get labels_cmp ones) s

-- the same where the one side has this sample alone
abbrev pub with_only : Op → Matching → Labels → Labels → List Labels
with_only op m one s = cond (eq_by_cmp labels_cmp (signature_of m s) (signature_of m one)) (result_of m.group op m s one ∷ []) []

-- the results of all pairs
abbrev pub AreManyPairs : Op → Matching → List Labels → List Labels → List Labels → Type 0
AreManyPairs op m P Q R =
    ((r : Labels) → Contains R r → (s : Labels) × (t : Labels) × IsPair m P Q s t × (r ≡ result_of m.group op m s t))
    × ((s t : Labels) → IsPair m P Q s t → Contains R (result_of m.group op m s t))

-- what the many side P gives with the one side Q, and None where two samples of the one side have equal signatures or two pairs one result
abbrev pub ManyPairs : Op → Matching → List Labels → List Labels → Outcomes
ManyPairs op m P Q None = HasTwoAlike m Q ⊎ PairsCoincide (result_of m.group op m) m P Q
ManyPairs op m P Q (Some R) = AreManyPairs op m P Q R × (HasTwoAlike m Q → ⊥) × (PairsCoincide (result_of m.group op m) m P Q → ⊥)
