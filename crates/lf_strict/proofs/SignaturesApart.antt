-- Signatures that are apart: they are the label sets that samples become, and two become one where their signatures are equal.
use Rattle.std.proofs.Common.{◌≡◌, Bool, List, Option, Some, None, is_some, refl, sym, ◌∙◌, subst}
use Rattle.lf_ast.specs.Labels.{Labels}
use Rattle.lf_ast.specs.declared.expr.Matching.{Matching}
use Rattle.lf_semantics.specs.Grouped.{signs}
use Rattle.lf_semantics.specs.Texts.{restricted}
use Rattle.lf_witness.specs.Strict.{HasTwoAlike, MadeApart}
use Rattle.lf_witness.specs.StrictRuns.{InOrder}
use Rattle.lf_strict.specs.views.Signed.{IsSignature, TellsApart}
use Rattle.lf_strict.proofs.Signatures.{one_signature, same_signature}

module _ (m : Matching) (P : List Labels) where
  none_alike : (R : List Labels) → InOrder (MadeApart (IsSignature m) P) (Some R) → HasTwoAlike m P → ⊥
  none_alike R made (s, t, a, b, apart, same) =
      let one = made.0.0.0 s a in
      let other = made.0.0.0 t b in
      made.0.1 (s, t, restricted (signs m) s, a, b, apart, (refl, one.1.1), (one_signature m s t one.1.1 other.1.1 same, other.1.1))

  two_alike : InOrder (MadeApart (IsSignature m) P) None → HasTwoAlike m P
  two_alike (s, t, r, a, b, apart, one, other) = (s, t, a, b, apart, same_signature m s t (sym one.0 ∙ other.0))

  pub tells_apart : (o : Option (List Labels)) (b : Bool) → InOrder (MadeApart (IsSignature m) P) o → b ≡ is_some o → TellsApart m P b
  tells_apart (Some R) b made is = subst (TellsApart m P) (sym is) (none_alike R made)
  tells_apart None b made is = subst (TellsApart m P) (sym is) (two_alike made)
