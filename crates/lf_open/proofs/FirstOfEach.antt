-- What stands open first in some rules, from what stands open first in each.
use Rattle.std.proofs.Common.{◌≡◌, ◌+◌, ◌<◌, ℕ, List, [], ◌∷◌, ◌++◌, length, take, get_or, Option, refl, sym, ap, ap₂, ◌∙◌, slice_get, subst}
use Rattle.lf_ast.specs.Rules.{RuleTree}
use Rattle.lf_deps.specs.Ordering.{without}
use Rattle.lf_open.specs.declared.open_at.OpenAt.{OpenAt}
use Rattle.lf_open.specs.OpenList.{AreOpen, IsFirstOpen}
use Rattle.lf_open.specs.views.Firsts.{IsFirstOfEach, earlier}
use Rattle.lf_open.proofs.Joined.{one_more}

-- the first of two lists that stand one behind the other
pub first_of_both : (xs ys : List OpenAt) → slice_get (xs ++ ys) 0 ≡ earlier (slice_get xs 0) (slice_get ys 0)
first_of_both [] ys = refl
first_of_both (x ∷ xs) ys = refl

pub first_more : (rules : List RuleTree) (i k d n : ℕ) (numbers : List ℕ) (first other new : Option OpenAt) → k < length numbers → n ≡ get_or numbers k d → IsFirstOfEach rules (without i (take k numbers)) first
    → IsFirstOfEach rules (without i (n ∷ [])) other → new ≡ earlier first other → IsFirstOfEach rules (without i (take (k + 1) numbers)) new
first_more rules i k d n numbers first other new lt at (found, each, is) (own, of_n, own_is) new_is =
    let l = one_more rules i k d n numbers [] found own (found ++ own) lt at (found, each, refl) (own, of_n, refl) refl in
    (l.0, l.1, new_is ∙ ap₂ earlier is own_is ∙ sym (first_of_both found own) ∙ ap (λ (xs : List OpenAt). slice_get xs 0) l.2)

-- the first of what stands open for a rule is what stands open first
pub first_open : (rules : List RuleTree) (i : ℕ) (first : Option OpenAt) (found : List OpenAt) → AreOpen rules i found → first ≡ slice_get found 0 → IsFirstOpen rules i first
first_open rules i first [] are is = subst (IsFirstOpen rules i) (sym is) are
first_open rules i first (o ∷ later) are is = subst (IsFirstOpen rules i) (sym is) (later, are)
