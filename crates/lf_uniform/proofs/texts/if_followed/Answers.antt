use Rattle.std.proofs.Common.{◌≡◌, ◌+◌, ℕ, Bool, cond, List, [], Some, None, sym, ap, ◌∙◌, subst, arith}
use Rattle.std.specs.List.{Contains}
use Rattle.std.proofs.lemmas.List.Elements.{Contains-get_or}
use Rattle.lf_ast.specs.Labels.{Bytes}
use Rattle.lf_ast.specs.Rules.{RuleTree, rule_trees}
use Rattle.lf_classes.specs.Limits.{IsWithin}
use Rattle.lf_semantics.specs.Listing.{IsCandidate, Listing}
use Rattle.lf_trials.specs.Candidates.{candidates}
use Rattle.lf_candidates.specs.views.ClassTexts.{name_at, text_at}
use Rattle.lf_candidates.proofs.FirstClass.{candidate_count}
use Rattle.lf_candidates.proofs.Standing.{candidate_text}
use Rattle.lf_uniform.specs.views.Texts.{is_followed}
use Rattle.lf_uniform.proofs.RequiredTexts.{find_only}
use Rattle.lf_uniform.proofs.texts.if_followed.Goals as goal

pub returns-then-fits-clause-text : goal.returns-then-fits-clause-text
returns-then-fits-clause-text c = λ own at.
    let u = c.args.setting.now.universe in
    let same : c.universe.result.now ≡ u = c.universe.ensures.value in
    let within : IsWithin u = subst IsWithin same c.universe.ensures.within in
    let l : ℕ = c.args.label in
    let v : Bytes = text_at u l c.args.class in
    let followed : Bytes → Bool = is_followed u (rule_trees c.args.setting.now.rules) c.args.number own c.args.wanted (name_at u l) in
    let text = candidate_text u within l c.requires.label c.args.class c.candidate-text.result.now c.requires.class (subst (λ (w : Listing). IsCandidate w l c.args.class c.candidate-text.result.now) same c.candidate-text.ensures) in
    let told : c.in_ok-fits.fits ≡ followed v =
    c.in_ok-fits.ensures own at
    ∙ ap (λ (n : Bytes). is_followed u (rule_trees c.args.setting.now.rules) c.args.number own c.args.wanted n c.candidate-text.result.now) c.requires.name
    ∙ ap followed text in
    let there : Contains (candidates u (name_at u l)) v = Contains-get_or (candidates u (name_at u l)) c.args.class [] (let count = candidate_count u within l c.requires.label in omega (arith, count, c.requires.class)) in
    sym (ap (λ (b : Bool). cond b (Some v) None) (sym told ∙ c.if-fits.true)) ∙ find_only followed (candidates u (name_at u l)) v there (c.requires.only own at c.args.wanted)

pub returns-else-fits-clause-text : goal.returns-else-fits-clause-text
returns-else-fits-clause-text c = λ own at.
    let u = c.args.setting.now.universe in
    let same : c.universe.result.now ≡ u = c.universe.ensures.value in
    let within : IsWithin u = subst IsWithin same c.universe.ensures.within in
    let l : ℕ = c.args.label in
    let v : Bytes = text_at u l c.args.class in
    let followed : Bytes → Bool = is_followed u (rule_trees c.args.setting.now.rules) c.args.number own c.args.wanted (name_at u l) in
    let text = candidate_text u within l c.requires.label c.args.class c.candidate-text.result.now c.requires.class (subst (λ (w : Listing). IsCandidate w l c.args.class c.candidate-text.result.now) same c.candidate-text.ensures) in
    let told : c.in_ok-fits.fits ≡ followed v =
    c.in_ok-fits.ensures own at
    ∙ ap (λ (n : Bytes). is_followed u (rule_trees c.args.setting.now.rules) c.args.number own c.args.wanted n c.candidate-text.result.now) c.requires.name
    ∙ ap followed text in
    let there : Contains (candidates u (name_at u l)) v = Contains-get_or (candidates u (name_at u l)) c.args.class [] (let count = candidate_count u within l c.requires.label in omega (arith, count, c.requires.class)) in
    sym (ap (λ (b : Bool). cond b (Some v) None) (sym told ∙ c.if-fits.false)) ∙ find_only followed (candidates u (name_at u l)) v there (c.requires.only own at c.args.wanted)
