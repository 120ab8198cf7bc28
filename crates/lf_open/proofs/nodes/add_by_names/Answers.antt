use Rattle.std.proofs.Common.{◌≡◌, ◌⊎◌, IsTrue, List, Some, subst}
use Rattle.std.proofs.lemmas.Result.{on_ok_weaker}
use Rattle.lf_laws.proofs.Gaining.{gains_both}
use Rattle.lf_base.specs.declared.place.Span.{Span}
use Rattle.lf_ast.specs.Rules.{RuleTree}
use Rattle.lf_ast.specs.Tree.{Tree, tree}
use Rattle.lf_ast.specs.declared.functions.LabelEffect.TheVariants.{Absent}
use Rattle.lf_semantics.specs.Parts.{sought_in}
use Rattle.lf_witness.specs.Strict.{IsOpenAbsent}
use Rattle.lf_open.specs.Constructs.{NarrowsFork, SaysCyclicName, effect_of}
use Rattle.lf_open.specs.Holding.{arguments_of}
use Rattle.lf_open.specs.declared.construct.Construct.TheVariants.{CyclicName, Forked, OpenAbsent}
use Rattle.lf_open.specs.declared.open_at.OpenAt.{OpenAt}
use Rattle.lf_open.specs.views.Adding.{Adds, IsAt, IsByNames}
use Rattle.lf_open.specs.views.Known.{rules_of}
use Rattle.lf_open.proofs.NodeLaws.{one_at}
use Rattle.lf_open.proofs.nodes.add_by_names.Goals as goal

pub returns : goal.returns
returns c =
    let rules : List RuleTree = rules_of c.args.known.now in
    let k = c.args.rule in
    let e : Tree = tree c.args.expr.now in
    let old : List OpenAt = c.args.found.now.items in
    let first : List OpenAt = c.add_if.new.found.items in
    let second : List OpenAt = c.add_if-2.new.found.items in
    let new : List OpenAt = c.add_if-3.new.found.items in
    let Leaves : Type 0 = (effect_of e ≡ Some Absent) × IsOpenAbsent (sought_in (arguments_of e)) in
    let a : Adds (IsAt rules k e (SaysCyclicName rules e) CyclicName) old first =
    one_at rules k CyclicName e (SaysCyclicName rules e) c.says_cyclic_name-cyclic.result old first c.says_cyclic_name-cyclic.ensures
    (subst (λ (s : Span). Adds (λ o. IsTrue c.says_cyclic_name-cyclic.result × (o ≡ record { construct = CyclicName; rule = k; span = s })) old first) c.span_of-span.ensures c.in_ok-add_if.ensures) in
    let b : Adds (IsAt rules k e (NarrowsFork rules e) Forked) first second =
    one_at rules k Forked e (NarrowsFork rules e) c.in_ok-narrowed.narrowed first second c.in_ok-narrowed.ensures
    (subst (λ (s : Span). Adds (λ o. IsTrue c.in_ok-narrowed.narrowed × (o ≡ record { construct = Forked; rule = k; span = s })) first second) c.span_of-span.ensures c.in_ok-add_if-2.ensures) in
    on_ok_weaker {P = Adds (λ o. IsTrue c.is_open_absent-absent.result × (o ≡ record { construct = OpenAbsent; rule = k; span = c.span_of-span.result })) second new} {Q = Adds (IsByNames rules k e) old new} c.add_if-3.result
    (λ added.
    let d : Adds (IsAt rules k e Leaves OpenAbsent) second new =
    one_at rules k OpenAbsent e Leaves c.is_open_absent-absent.result second new c.is_open_absent-absent.ensures
    (subst (λ (s : Span). Adds (λ o. IsTrue c.is_open_absent-absent.result × (o ≡ record { construct = OpenAbsent; rule = k; span = s })) second new) c.span_of-span.ensures added) in
    gains_both _ (IsAt rules k e (SaysCyclicName rules e) CyclicName) (λ o. IsAt rules k e (NarrowsFork rules e) Forked o ⊎ IsAt rules k e Leaves OpenAbsent o) old first new a
    (gains_both _ (IsAt rules k e (NarrowsFork rules e) Forked) (IsAt rules k e Leaves OpenAbsent) first second new b d)) c.add_if-3.ensures
