use Rattle.std.proofs.Common.{◌≡◌, ◌<◌, ◌+◌, ℕ, refl, sym, ◌∙◌, ap, subst, arith}
use Rattle.std.proofs.lemmas.List.{length-map}
use Rattle.std.proofs.lemmas.Option.{same_Some, slice_get_within}
use Rattle.lf_ast.specs.Rules.{rule_tree}
use Rattle.lf_trials.specs.Building.{Building}
use Rattle.lf_built.specs.declared.work.Pending.{Pending}
use Rattle.lf_built.specs.views.Indexed.{trees_of}
use Rattle.lf_built.specs.views.Places.{size}
use Rattle.lf_built.proofs.Efforts.{entered_less}
use Rattle.lf_built.proofs.Works.{entered, entered_stack}
use Rattle.lf_built.proofs.prepared.Prepared.pick.Goals as goal

pub enter-requires-clause-number : goal.enter-requires-clause-number
enter-requires-clause-number c =
    let f = c.in-Some.ensures.first c.requires.texts.0 c.requires.texts.1 in
    subst (λ (n : ℕ). c.in-Some.number < n) (length-map c.args.self.now.rules.now rule_tree) (slice_get_within (trees_of c.args.self.now) c.in-Some.number f.0 f.2)

pub enter-requires-clause-free : goal.enter-requires-clause-free
enter-requires-clause-free c = c.in-Some.ensures.free

pub returns-in_ok-enter-in-Some-clause-goes : goal.returns-in_ok-enter-in-Some-clause-goes
returns-in_ok-enter-in-Some-clause-goes c whole D stands left =
    let p = c.args.self.now in
    let f = c.in-Some.ensures.first D stands in
    let entry = c.in_ok-enter-in-Some.ensures D stands in
    let same : entry.rule ≡ f.0 = same_Some entry.rule f.0 (sym entry.is_rule ∙ f.2) in
    let more : c.enter.new.work.made.selectors ≡ c.args.work.now.made.selectors + 1 = ap (λ (b : Building). b.selectors) entry.made in
    (entered p whole c.args.name.now D c.in-Some.number f.0 c.args.work.now c.enter.new.work f.1 entry same left, omega (arith, more, c.requires.few))

pub returns-in_ok-enter-in-Some-clause-less : goal.returns-in_ok-enter-in-Some-clause-less
returns-in_ok-enter-in-Some-clause-less c _ =
    let p = c.args.self.now in
    let D = c.requires.texts.0 in
    let entry = c.in_ok-enter-in-Some.ensures D c.requires.texts.1 in
    let more : c.enter.new.work.made.selectors ≡ c.args.work.now.made.selectors + 1 = ap (λ (b : Building). b.selectors) entry.made in
    entered_less p c.args.most c.in-Some.number entry.rule (Rattle.lf_built.specs.declared.work.Pending.TheVariants.Visit entry.spot entry.texts) Rattle.lf_built.specs.declared.work.Pending.TheVariants.Finish c.args.work.now c.enter.new.work
    entry.is_rule (ap size entry.is_expr) refl more c.requires.few (entered_stack p c.in-Some.number D c.args.work.now c.enter.new.work entry)
