-- Samples whose signature is one of some signatures, and samples that their signatures tell apart.
use Rattle.std.specs.Prelude.{◌≡◌, Bool, true, false, cond, not, List}
use Rattle.std.specs.List.{list_any}
use Rattle.std.specs.Ordering.{eq_by_cmp}
use Rattle.lf_ast.specs.Labels.{Labels}
use Rattle.lf_ast.specs.declared.expr.Matching.{Matching}
use Rattle.lf_semantics.specs.Evaluation.{AreMatched, AreUnmatched}
use Rattle.lf_semantics.specs.Grouped.{signs}
use Rattle.lf_semantics.specs.Texts.{HasTexts, restricted}
use Rattle.lf_witness.specs.Ascending.{labels_cmp}
use Rattle.lf_witness.specs.Strict.{HasTwoAlike}

-- a label set is one of these
abbrev pub is_one_of : List Labels → Labels → Bool
is_one_of R s = list_any (λ t. eq_by_cmp labels_cmp t s) R

-- the signature of a sample is one of these, or isn't where that is wanted
abbrev pub is_signed : Matching → List Labels → Bool → Labels → Bool
is_signed m signatures wanted s = cond wanted (is_one_of signatures (restricted (signs m) s)) (not (is_one_of signatures (restricted (signs m) s)))

-- the left samples that have a partner on the right, or those that have none where that is wanted
abbrev pub ArePartnered : Bool → Matching → List Labels → List Labels → List Labels → Type 0
ArePartnered true = AreMatched
ArePartnered false = AreUnmatched

-- whether no two samples of P have equal signatures
abbrev pub TellsApart : Matching → List Labels → Bool → Type 0
TellsApart m P true = HasTwoAlike m P → ⊥
TellsApart m P false = HasTwoAlike m P

-- the signature of a sample, none of whose texts is empty
abbrev pub IsSignature : Matching → Labels → Labels → Type 0
IsSignature m s r = (r ≡ restricted (signs m) s) × HasTexts s
