-- The definitions on examples.
use Rattle.std.proofs.Common.{◌≡◌, ◌≢◌, ℕ, zero, suc, List, [], ◌∷◌, None, refl, sym, arith, inl, inr, All, false, true≢false}
use Rattle.std.specs.Char.{encode_utf8}
use Rattle.lf_pattern.specs.Plain.{HasGroup, IsInPair, IsPlainList, is_special, is_escapable}
use Rattle.lf_pattern.specs.Matching.{IsPlainGroup}
use Rattle.lf_pattern.proofs.GroupLaws.{capture_given}
use Rattle.lf_pattern.specs.Plain as joins
use Rattle.lf_pattern.specs.Scan.{scanned, inside}
use Rattle.lf_pattern.specs.Shape.{Samples, same, followed, counted, unknown, class_samples, HasSamples, one, next, nothing, once, often, ordinary, any, class, negated, star, optional, greedy}
use Rattle.lf_pattern.specs.Replacement.{ReadsReplacement, IsGroupNumber}
use Rattle.lf_pattern.specs.Replacement as pieces
use Rattle.lf_pattern.specs.declared.replacement.ReplacementPiece.TheVariants.{Group}

-- `(a|b\.c)` has the alternatives `a` and `b.c`
two_alternatives : IsPlainList (40 ∷ 97 ∷ 124 ∷ 98 ∷ 92 ∷ 46 ∷ 99 ∷ 41 ∷ []) ((97 ∷ []) ∷ (98 ∷ 46 ∷ 99 ∷ []) ∷ [])
unfolding is_special is_escapable
two_alternatives =
    inr (inl (97 ∷ 124 ∷ 98 ∷ 92 ∷ 46 ∷ 99 ∷ [], refl, joins.ordinary refl (joins.bar (joins.ordinary refl (joins.escaped refl (joins.ordinary refl joins.end))))))

-- `(a)` stands in a pair that is a group, and `(?:a)` doesn't
in_pair : IsInPair (40 ∷ 97 ∷ 41 ∷ []) ((97 ∷ []) ∷ [])
unfolding is_special
in_pair = (97 ∷ [], refl, joins.ordinary refl joins.end)

in_quiet_pair : (vs : List (List ℕ)) → IsInPair (40 ∷ 63 ∷ 58 ∷ 97 ∷ 41 ∷ []) vs → ⊥
in_quiet_pair vs pair = true≢false (sym (capture_given (40 ∷ 63 ∷ 58 ∷ 97 ∷ 41 ∷ []) vs pair))

-- of a plain pattern in a pair that is a group, group 1 of a match at `a` is `a`, and group 2 is empty
group_1_of_pair : (p : List ℕ) → HasGroup p → IsPlainGroup p (97 ∷ []) 1 (97 ∷ [])
group_1_of_pair p pair = inl (inr (pair, refl), refl)

group_2_of_pair : (p : List ℕ) → IsPlainGroup p (97 ∷ []) 2 []
group_2_of_pair p = inr ((λ whole. elim whole [ inl e ↦ absurd (omega (arith, e)) | inr (pair, e) ↦ absurd (omega (arith, e)) ]), refl)

-- `a.*` isn't plain
dot_star : scanned [] [] false (inside (97 ∷ 46 ∷ 42 ∷ [])) ≡ None
unfolding scanned is_special is_escapable
dot_star = refl

abbrev any_samples : Samples
any_samples = record { low = 48 ∷ []; high = 97 ∷ [] }

-- `5..` gives `500` and `5aa`
abbrev dots_samples : Samples
dots_samples = followed (same (encode_utf8 53)) (followed any_samples (followed any_samples (same [])))

dots : HasSamples (53 ∷ 46 ∷ 46 ∷ []) dots_samples
unfolding is_special
dots = one (next (once (ordinary refl)) (next (once any) (next (once any) nothing)))

dots_are : dots_samples ≡ record { low = 53 ∷ 48 ∷ 48 ∷ []; high = 53 ∷ 97 ∷ 97 ∷ [] }
unfolding encode_utf8
dots_are = refl

-- `.*` gives nothing and `a`
abbrev star_samples : Samples
star_samples = followed (counted 0 any_samples) (same [])

any_star : HasSamples (46 ∷ 42 ∷ []) star_samples
any_star = one (next (often any star greedy) nothing)

any_star_is : star_samples ≡ record { low = []; high = 97 ∷ [] }
any_star_is = refl

-- `[a-c]x?` gives `a` and `cx`
abbrev class_x_samples : Samples
class_x_samples = followed (class_samples 97 (45 ∷ 99 ∷ [])) (followed (counted 0 (same (encode_utf8 120))) (same []))

no_brackets : All (λ (m : ℕ). m ≢ 93) (45 ∷ 99 ∷ [])
no_brackets zero d lt = λ (e : 45 ≡ 93). absurd (omega arith)
no_brackets (suc zero) d lt = λ (e : 99 ≡ 93). absurd (omega arith)
no_brackets (suc (suc k)) d lt = absurd (omega arith)

class_x : HasSamples (91 ∷ 97 ∷ 45 ∷ 99 ∷ 93 ∷ 120 ∷ 63 ∷ []) class_x_samples
unfolding is_special
class_x = one (next (once (class 97 (45 ∷ 99 ∷ []) (λ (e : 97 ≡ 94). absurd (omega arith)) no_brackets)) (next (often (ordinary refl) optional greedy) nothing))

class_x_is : class_x_samples ≡ record { low = 97 ∷ []; high = 99 ∷ 120 ∷ [] }
unfolding encode_utf8
class_x_is = refl

-- `[^]a]` is one negated class, of the members `]` and `a`
only_a : All (λ (m : ℕ). m ≢ 93) (97 ∷ [])
only_a zero d lt = λ (e : 97 ≡ 93). absurd (omega arith)
only_a (suc k) d lt = absurd (omega arith)

not_bracket : HasSamples (91 ∷ 94 ∷ 93 ∷ 97 ∷ 93 ∷ []) (followed unknown (same []))
not_bracket = one (next (once (negated 93 (97 ∷ []) only_a)) nothing)

-- `$1` is group 1
one_is : IsGroupNumber (49 ∷ []) 1
one_is = ((omega arith, (omega arith, tt)), inl (λ (e : 49 ≡ 48). absurd (omega arith)), refl)

group_one : ReadsReplacement (36 ∷ 49 ∷ []) (Group 1 ∷ [])
group_one = pieces.number (49 ∷ []) one_is tt pieces.end
