use Rattle.std.proofs.Common.{◌≡◌, ◌<◌, ◌+◌, ℕ, Bool, List, false, length, sym, ap, ◌∙◌, subst, arith, below_more}
use Rattle.lf_ast.specs.Labels.{Bytes}
use Rattle.lf_ast.specs.Rules.{RuleTree, rule_trees}
use Rattle.lf_classes.specs.Limits.{IsWithin}
use Rattle.lf_semantics.specs.Grouped.{is_metric}
use Rattle.lf_semantics.specs.Listing.{IsCandidate, Listing, named_at}
use Rattle.lf_candidates.specs.views.ClassTexts.{name_at, text_at}
use Rattle.lf_candidates.proofs.FirstClass.{first_passing, none_passing}
use Rattle.lf_candidates.proofs.Standing.{candidate_text}
use Rattle.lf_uniform.specs.views.Texts.{is_followed}
use Rattle.lf_uniform.proofs.MetricNames.{none_of_any}
use Rattle.lf_uniform.proofs.texts.first_of_all.Goals as goal

pub loop-class-preserved : goal.loop-class-preserved
loop-class-preserved c = λ own at.
    let u = c.args.setting.now.universe in
    let same : c.universe-universe.result.now ≡ u = c.universe-universe.ensures.value in
    let within : IsWithin u = subst IsWithin same c.universe-universe.ensures.within in
    let l : ℕ = c.args.label in
    let followed : Bytes → Bool = is_followed u (rule_trees c.args.setting.now.rules) c.args.number own c.args.wanted (name_at u l) in
    let class : ℕ = c.loop-class.class in
    let less : class < length (named_at u l) + 2 = (let count = ap (λ (v : Listing). length (named_at v l) + 2) same in omega (arith, count, c.telling_classes-class-end.ensures.within, c.loop-class-test.true)) in
    let text = candidate_text u within l c.requires.label class c.candidate-text.result.now less (subst (λ (v : Listing). IsCandidate v l class c.candidate-text.result.now) same c.candidate-text.ensures) in
    let told : c.in_ok-fits.fits ≡ followed (text_at u l class) =
    c.in_ok-fits.ensures own at
    ∙ ap (λ (n : Bytes). is_followed u (rule_trees c.args.setting.now.rules) c.args.number own c.args.wanted n c.candidate-text.result.now) c.requires.name
    ∙ ap followed text in
    below_more (λ j. followed (text_at u l j) ≡ false) class (c.loop-class.invariant own at) (sym told ∙ c.if-fits.false)

pub returns-then-fits-clause-text : goal.returns-then-fits-clause-text
returns-then-fits-clause-text c = λ own at.
    let u = c.args.setting.now.universe in
    let same : c.universe-universe.result.now ≡ u = c.universe-universe.ensures.value in
    let within : IsWithin u = subst IsWithin same c.universe-universe.ensures.within in
    let l : ℕ = c.args.label in
    let followed : Bytes → Bool = is_followed u (rule_trees c.args.setting.now.rules) c.args.number own c.args.wanted (name_at u l) in
    let class : ℕ = c.loop-class.class in
    let less : class < length (named_at u l) + 2 = (let count = ap (λ (v : Listing). length (named_at v l) + 2) same in omega (arith, count, c.telling_classes-class-end.ensures.within, c.loop-class-test.true)) in
    let text = candidate_text u within l c.requires.label class c.candidate-text.result.now less (subst (λ (v : Listing). IsCandidate v l class c.candidate-text.result.now) same c.candidate-text.ensures) in
    let told : c.in_ok-fits.fits ≡ followed (text_at u l class) =
    c.in_ok-fits.ensures own at
    ∙ ap (λ (n : Bytes). is_followed u (rule_trees c.args.setting.now.rules) c.args.number own c.args.wanted n c.candidate-text.result.now) c.requires.name
    ∙ ap followed text in
    first_passing u within l c.requires.label followed class less (sym told ∙ c.if-fits.true) (c.loop-class.invariant own at)

pub returns-clause-text : goal.returns-clause-text
returns-clause-text c = λ own at.
    let u = c.args.setting.now.universe in
    let same : c.universe-universe.result.now ≡ u = c.universe-universe.ensures.value in
    let within : IsWithin u = subst IsWithin same c.universe-universe.ensures.within in
    let l : ℕ = c.args.label in
    let rules : List RuleTree = rule_trees c.args.setting.now.rules in
    let asked : ℕ = c.telling_classes-class-end.result in
    none_passing u within l c.requires.label (is_followed u rules c.args.number own c.args.wanted (name_at u l))
    (none_of_any u rules (name_at u l) c.args.number own c.args.wanted (text_at u l) (length (named_at u l) + 2) asked
    (λ is. c.telling_classes-class-end.ensures.one (ap is_metric c.requires.name ∙ is))
    (λ is. c.telling_classes-class-end.ensures.each (ap is_metric c.requires.name ∙ is) ∙ ap (λ (v : Listing). length (named_at v l) + 2) same)
    (λ j h. c.loop-class.invariant own at j (omega (arith, h, c.loop-class-test.false))))
