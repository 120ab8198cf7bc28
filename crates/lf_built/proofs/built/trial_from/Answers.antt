use Rattle.std.proofs.Common.{◌<◌, ℕ, Option, sym, subst, arith}
use Rattle.std.proofs.lemmas.List.{length-map}
use Rattle.lf_laws.proofs.Slices.{some_at}
use Rattle.lf_ast.specs.Rules.{rule_tree}
use Rattle.lf_trials.specs.Given.{Given, giving, nothing_given}
use Rattle.lf_candidates.specs.views.ClassTexts.{name_at, text_at}
use Rattle.lf_built.specs.declared.made.BuiltSeries.{BuiltSeries}
use Rattle.lf_built.specs.views.Begun.{begun_of}
use Rattle.lf_built.specs.views.Indexed.{trees_of, universe_of}
use Rattle.lf_built.specs.views.Works.{IsOutcome, so_far}
use Rattle.lf_built.proofs.built.trial_from.Goals as goal

pub build-requires-clause-few : goal.build-requires-clause-few
build-requires-clause-few c =
    let p = c.args.prepared.now in
    let u = universe_of p in
    let D : Given = giving (name_at u c.args.label) (text_at u c.args.label c.args.class) nothing_given in
    let stands = c.give.ensures u nothing_given c.requires.known.within c.requires.class c.in_ok-texts.ensures in
    let r = some_at (trees_of p) c.args.number (subst (λ (n : ℕ). c.args.number < n) (sym (length-map p.rules.now rule_tree)) c.requires.number) in
    let h = c.in_ok-work.ensures D r.0 stands r.1 in
    omega (arith, h.1)

pub build-requires-clause-builds : goal.build-requires-clause-builds
build-requires-clause-builds c =
    let p = c.args.prepared.now in
    let u = universe_of p in
    let D : Given = giving (name_at u c.args.label) (text_at u c.args.label c.args.class) nothing_given in
    let stands = c.give.ensures u nothing_given c.requires.known.within c.requires.class c.in_ok-texts.ensures in
    let r = some_at (trees_of p) c.args.number (subst (λ (n : ℕ). c.args.number < n) (sym (length-map p.rules.now rule_tree)) c.requires.number) in
    let h = c.in_ok-work.ensures D r.0 stands r.1 in
    (begun_of p c.args.number r.0 D, h.0)

pub returns-in_ok-trial-in-Some : goal.returns-in_ok-trial-in-Some
returns-in_ok-trial-in-Some c r is =
    let p = c.args.prepared.now in
    let u = universe_of p in
    let D : Given = giving (name_at u c.args.label) (text_at u c.args.label c.args.class) nothing_given in
    let stands = c.give.ensures u nothing_given c.requires.known.within c.requires.class c.in_ok-texts.ensures in
    let h = c.in_ok-work.ensures D r stands is in
    let whole = begun_of p c.args.number r D in
    let out = subst (λ (o : Option BuiltSeries). IsOutcome c.args.most whole o) c.in-Some.is (c.in_ok-made.ensures whole h.0) in
    (so_far c.in-Some.made, out.0, out.1, c.in_ok-trial-in-Some.ensures)

pub returns-in-None : goal.returns-in-None
returns-in-None c r is =
    let p = c.args.prepared.now in
    let u = universe_of p in
    let D : Given = giving (name_at u c.args.label) (text_at u c.args.label c.args.class) nothing_given in
    let stands = c.give.ensures u nothing_given c.requires.known.within c.requires.class c.in_ok-texts.ensures in
    let h = c.in_ok-work.ensures D r stands is in
    let whole = begun_of p c.args.number r D in
    subst (λ (o : Option BuiltSeries). IsOutcome c.args.most whole o) c.in-None.is (c.in_ok-made.ensures whole h.0)
