-- What a selector gives, matcher by matcher.
use Rattle.std.proofs.Common.{◌≡◌, inl, inr, ◌<◌, ◌+◌, ◌++◌, ℕ, Bool, true, false, cond, List, [], ◌∷◌, Option, Some, None, get_or, length, take, refl, sym, ap, ◌∙◌}
use Rattle.std.specs.List.{Contains, filter}
use Rattle.std.proofs.lemmas.List.{take_more}
use Rattle.std.proofs.lemmas.List.Elements.{Contains-append_cases, Contains-append_left, Contains-append_right}
use Rattle.lf_ast.specs.Labels.{Bytes, Labels}
use Rattle.lf_ast.specs.Selectors.{metric}
use Rattle.lf_ast.specs.declared.expr.Matcher.{Matcher}
use Rattle.lf_pattern.specs.Matching.{IsRead, is_read}
use Rattle.lf_pattern.proofs.GroupLaws.{read_is}
use Rattle.lf_semantics.specs.Passing.{HasName, PassesEach}
use Rattle.lf_semantics.specs.Texts.{value_of}
use Rattle.lf_semantics.proofs.Members.{in_filter, of_filter, same_true, true_same}
use Rattle.lf_semantics.proofs.PatternTexts.{passes_is}
use Rattle.lf_witness.specs.Ascending.{IsAscending}
use Rattle.lf_witness.specs.Strict.{AreSame, AreSelected}
use Rattle.lf_strict.specs.views.Selected.{has_name, passes_by, passing}
use Rattle.lf_strict.proofs.Filtered.{ascending_filter}

pub read : (p : Bytes) → IsRead p → is_read p ≡ true
read p r = (read_is p).1 r

pub none_kept : {X : Type 0} (p : X → Bool) (xs : List X) → ((x : X) → p x ≡ false) → filter p xs ≡ []
none_kept p [] none = refl
none_kept p (x ∷ xs) none = ap (λ b. cond b (x ∷ filter p xs) (filter p xs)) (none x) ∙ none_kept p xs none

-- one matcher more

passing_push : (ms : List Matcher) (m : Matcher) (W : List Labels) → passing (ms ++ m ∷ []) W ≡ filter (passes_by m) (passing ms W)
passing_push [] m W = refl
passing_push (n ∷ ms) m W = passing_push ms m (filter (passes_by n) W)

pub passing_more : (ms : List Matcher) (k : ℕ) (m : Matcher) (W : List Labels) → k < length ms → m ≡ get_or ms k m → passing (take (k + 1) ms) W ≡ filter (passes_by m) (passing (take k ms) W)
passing_more ms k m W lt is = ap (λ l. passing l W) (take_more ms k m lt ∙ ap (λ x. take k ms ++ x ∷ []) (sym is)) ∙ passing_push (take k ms) m W

-- what passes each matcher

of_passing : (ms : List Matcher) (W : List Labels) (s : Labels) → Contains (passing ms W) s → Contains W s × PassesEach ms s
of_passing [] W s c = (c, tt)
of_passing (m ∷ ms) W s c =
    let later = of_passing ms (filter (passes_by m) W) s c in
    let own = of_filter (passes_by m) W s later.0 in
    (own.0, ((passes_is m.op m.value (value_of s m.label)).0 own.1, later.1))

in_passing : (ms : List Matcher) (W : List Labels) (s : Labels) → Contains W s → PassesEach ms s → Contains (passing ms W) s
in_passing [] W s c each = c
in_passing (m ∷ ms) W s c each = in_passing ms (filter (passes_by m) W) s (in_filter (passes_by m) W s c ((passes_is m.op m.value (value_of s m.label)).1 each.0)) each.1

ascending_passing : (ms : List Matcher) (W : List Labels) → IsAscending W → IsAscending (passing ms W)
ascending_passing [] W ascends = ascends
ascending_passing (m ∷ ms) W ascends = ascending_passing ms (filter (passes_by m) W) (ascending_filter (passes_by m) W ascends)

told_name : (name : Option Bytes) (s : Labels) → has_name name s ≡ true → HasName name s
told_name None s e = tt
told_name (Some name) s e = true_same (value_of s metric) name e

name_told : (name : Option Bytes) (s : Labels) → HasName name s → has_name name s ≡ true
name_told None s e = refl
name_told (Some name) s e = same_true (value_of s metric) name e

pub chosen_selected : (W : List Labels) (name : Option Bytes) (ms : List Matcher) → AreSelected W name ms (passing ms (filter (has_name name) W))
chosen_selected W name ms = (
  λ s c named each. in_passing ms (filter (has_name name) W) s (in_filter (has_name name) W s c (name_told name s named)) each,
  λ s c. let later = of_passing ms (filter (has_name name) W) s c in let own = of_filter (has_name name) W s later.0 in (own.0, told_name name s own.1, later.1),
)

pub are_selected : (W : List Labels) (name : Option Bytes) (ms : List Matcher) → IsAscending W → AreSelected W name ms (passing ms (filter (has_name name) W)) × IsAscending (passing ms (filter (has_name name) W))
are_selected W name ms ascends = (chosen_selected W name ms, ascending_passing ms (filter (has_name name) W) (ascending_filter (has_name name) W ascends))

-- so are those of another list with the same
pub moved_selected : (W : List Labels) (name : Option Bytes) (ms : List Matcher) (P R : List Labels) → AreSelected W name ms P → AreSame P R → AreSelected W name ms R
moved_selected W name ms P R are same = (λ s c named each. same.0 s (are.0 s c named each), λ s c. are.1 s (same.1 s c))

-- of two lists
pub joined_selected : (V W : List Labels) (name : Option Bytes) (ms : List Matcher) (P R : List Labels) → AreSelected V name ms P → AreSelected W name ms R → AreSelected (V ++ W) name ms (P ++ R)
joined_selected V W name ms P R first second = (
  λ s c named each. elim (Contains-append_cases V W s c) [
    | inl left ↦ Contains-append_left P R s (first.0 s left named each)
    | inr right ↦ Contains-append_right P R s (second.0 s right named each)
  ],
  λ s c. elim (Contains-append_cases P R s c) [
    | inl left ↦ (let from = first.1 s left in (Contains-append_left V W s from.0, from.1, from.2))
    | inr right ↦ (let from = second.1 s right in (Contains-append_right V W s from.0, from.1, from.2))
  ],
)
