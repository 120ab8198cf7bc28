-- Where the findings of a rule stand in any list, in whatever order and however often, the rule has its list of findings.
use Rattle.std.proofs.Common.{◌≡◌, ℕ, List, [], ◌∷◌, refl, sym, ap, ◌∙◌}
use Rattle.std.specs.FinMap.{nat_cmp-IsAntisymmetric, slice_cmp-IsAntisymmetric}
use Rattle.std.specs.List.{Contains}
use Rattle.std.specs.declared.cmp.Ordering.TheVariants.{Equal}
use Rattle.std.specs.Cmp.Lexicographic.{nat_list_cmp_total}
use Rattle.lf_checks.specs.views.Cases.{check_at}
use Rattle.std.specs.Cmp.{on_total}
use Rattle.lf_laws.proofs.Ascending.{in_order}
use Rattle.lf_base.specs.Faults.{span}
use Rattle.lf_ast.specs.Rules.{RuleTree}
use Rattle.lf_semantics.specs.Listing.{Listing}
use Rattle.lf_semantics.specs.RowTable.{Environment}
use Rattle.lf_checks.specs.Files.{File}
use Rattle.lf_checks.specs.Finding.{Check, AlertComparison, AlertTemplate, RuleDuplicate, RuleDependency, PromqlRegexp, MatchLabel, ExprEmpty, ExprType, RuleLabel, Finding, finding, finding_cmp, key_of, rank}
use Rattle.lf_checks.specs.Findings.{AreFindingsIn, IsFindingIn}

-- ---- findings that neither comes before the other are one

pub at_rank : (c : Check) → check_at (rank c) ≡ c
at_rank AlertComparison = refl
at_rank AlertTemplate = refl
at_rank RuleDuplicate = refl
at_rank RuleDependency = refl
at_rank PromqlRegexp = refl
at_rank MatchLabel = refl
at_rank ExprEmpty = refl
at_rank ExprType = refl
at_rank RuleLabel = refl

finding_from : List ℕ → Finding
finding_from (check ∷ start ∷ end ∷ text) = finding (check_at check) (span start end) text
finding_from _ = finding RuleLabel (span 0 0) []

from_key : (f : Finding) → finding_from (key_of f) ≡ f
unfolding finding_from
from_key f = ap (λ (c : Check). finding c f.span f.text) (at_rank f.check)

pub equal_same : (f g : Finding) → finding_cmp f g ≡ Equal → f ≡ g
equal_same f g e = sym (from_key f) ∙ ap finding_from (slice_cmp-IsAntisymmetric nat_cmp-IsAntisymmetric (key_of f) (key_of g) e) ∙ from_key g

-- ---- all of them

pub some_list : (files : List File) (u : Listing) (rules : List RuleTree) (env : Environment) (i : ℕ) (listed : List Finding) → ((f : Finding) → Contains listed f → IsFindingIn files u rules env i f) → ((f : Finding) → IsFindingIn files u rules env i f → Contains listed f)
    → (found : List Finding) × AreFindingsIn files u rules env i found
some_list files u rules env i listed each all =
    let sorted = in_order (on_total key_of nat_list_cmp_total) equal_same listed in (
      sorted.0,
      record { each = λ f c. each f (sorted.1.only f c); all = λ f h. sorted.1.kept f (all f h); ascending = sorted.1.ascending },
    )
