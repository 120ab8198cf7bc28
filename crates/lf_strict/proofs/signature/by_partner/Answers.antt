use Rattle.std.proofs.Common.{List, ◌∙◌, ap₂, subst, sym}
use Rattle.std.specs.List.{AllZip, Contains, filter}
use Rattle.lf_ast.specs.Labels.{Labels}
use Rattle.lf_semantics.specs.Texts.{HasTexts}
use Rattle.lf_witness.specs.Ascending.{IsAscending}
use Rattle.lf_strict.specs.views.Signed.{ArePartnered, IsSignature, is_signed}
use Rattle.lf_strict.proofs.Filtered.{are_partnered, ascending_filter, when_both}
use Rattle.lf_strict.proofs.MadeApart.{made_together}
use Rattle.lf_strict.proofs.signature.by_partner.Goals as goal

pub returns : goal.returns
returns c =
    let m = c.args.matching.now in
    let P : List Labels = c.args.left.now in
    let Q : List Labels = c.args.right.now in
    let wanted = c.args.wanted in
    let signatures : List Labels = c.together-signatures.result in
    let each = subst (λ (l : List Labels). AllZip (IsSignature m) l c.in_ok-each_signature.field-0.items) c.as_slice.ensures c.in_ok-each_signature.ensures in
    let made = made_together (IsSignature m) Q c.in_ok-each_signature.field-0.items signatures each c.together-signatures.ensures.same c.together-signatures.ensures.ascends in
    let is = ap₂ (λ (x y : List Labels). filter (is_signed m x wanted) y) c.as_slice-3.ensures c.as_slice-2.ensures in
    when_both _ _ (λ set. ArePartnered wanted m P Q set × IsAscending set) c.with_signature.result c.with_signature.ensures.kept c.with_signature.ensures.texts (λ set kept texts.
    let full : (s : Labels) → Contains P s → HasTexts s = λ s inside. texts s (subst (λ (l : List Labels). Contains l s) (sym c.as_slice-2.ensures) inside) in
    subst (λ (l : List Labels). ArePartnered wanted m P Q l × IsAscending l) (sym (kept ∙ is))
    (are_partnered m P Q signatures wanted made.0 full, ascending_filter (is_signed m signatures wanted) P c.requires))
