use Rattle.std.proofs.Common.{◌≡◌, [], List, Some, None, sym, ◌∙◌, subst}
use Rattle.std.specs.List.{Contains}
use Rattle.std.specs.Map.{lookup}
use Rattle.std.proofs.lemmas.Result.{IfOk-weaker}
use Rattle.lf_laws.proofs.Members.{none_in}
use Rattle.lf_ast.specs.Labels.{Labels}
use Rattle.lf_witness.specs.Ascending.{IsAscending}
use Rattle.lf_witness.specs.Strict.{AreSelected}
use Rattle.lf_witness.proofs.AscendingLists.{none_ascends}
use Rattle.lf_strict.proofs.StoredSamples.{found_all, found_none, found_some, is_named, selected_of}
use Rattle.lf_strict.proofs.named_samples.NamedSamples.select_named.Goals as goal

pub returns-in-Some : goal.returns-in-Some
returns-in-Some c =
    let es = c.self.inside.by_name.entries in
    let W : List Labels = c.args.self.now in
    let V : List Labels = c.in-Some.samples.now in
    let name = c.args.name.now in
    let ms = c.args.matchers.now in
    let n = c.as_str.result.now in
    let found : lookup (is_named n) es ≡ Some V = sym c.in-Some.ensures.value in
    let inside : (s : Labels) → Contains V s → Contains W s = λ s d. subst (λ (l : List Labels). Contains l s) c.self.view_is (found_some n es c.self.invariant V found s d).0 in
    let all : (s : Labels) → Contains W s → _ → _ → Contains V s = λ s d named each.
    found_all n es c.len-count.ensures.ordered c.self.invariant V found s (subst (λ (l : List Labels). Contains l s) (sym c.self.view_is) d) (c.requires s named each ∙ sym c.as_str.ensures) in
    IfOk-weaker c.select.result _ _ (λ R is. (selected_of W V name ms R inside all is.0, is.1)) c.select.ensures

pub returns-in-None : goal.returns-in-None
returns-in-None c =
    let es = c.self.inside.by_name.entries in
    let W : List Labels = c.args.self.now in
    let n = c.as_str.result.now in
    let found : lookup (is_named n) es ≡ None = sym c.in-None.ensures.value in
    let none : AreSelected W c.args.name.now c.args.matchers.now [] = (
      λ s d named each. absurd (found_none n es c.self.invariant found s (subst (λ (l : List Labels). Contains l s) (sym c.self.view_is) d) (c.requires s named each ∙ sym c.as_str.ensures)),
      λ s d. absurd (none_in s d),
    ) in
    subst (λ (l : List Labels). AreSelected W c.args.name.now c.args.matchers.now l × IsAscending l) (sym c.new.ensures) (none, none_ascends)
