use Rattle.std.proofs.Common.{◌≡◌, ◌<◌, ◌&&◌, false, subst, sym, ◌∙◌, arith}
use Rattle.std.specs.Prelude.{IfOk}
use Rattle.lf_ast.specs.Labels.{Bytes}
use Rattle.lf_semantics.specs.ClassRows.{holds}
use Rattle.lf_semantics.specs.Listing.{other_class}
use Rattle.lf_trials.specs.Names.{is_scraped_name, passes_as_name}
use Rattle.lf_candidates.specs.views.ClassTexts.{text_at}
use Rattle.lf_candidates.proofs.FirstClass.{row_length, set_length}
use Rattle.lf_candidates.proofs.Labelled.{some_label}
use Rattle.lf_candidates.proofs.NamesLeft.{not_left}
use Rattle.lf_candidates.proofs.Standing.{candidate_text}
use Rattle.lf_candidates.proofs.names.is_name.Goals as goal

pub has-requires-clause-label : goal.has-requires-clause-label
has-requires-clause-label c = omega (arith, row_length c.args.universe.now c.args.left.now c.requires.shape, some_label c.args.universe.now c.requires.universe)

pub has-requires-clause-class : goal.has-requires-clause-class
has-requires-clause-class c =
    let u = c.args.universe.now in
    omega (arith, set_length u c.args.left.now c.requires.shape 0 (some_label u c.requires.universe), c.requires.class)

pub returns-then-not-has : goal.returns-then-not-has
returns-then-not-has c = λ rules are.
    let u = c.args.universe.now in
    let own : c.args.class < other_class u 0 = omega (arith, c.if-class-classes.true, c.classes-classes.ensures) in
    let out : holds c.args.left.now 0 c.args.class ≡ false = sym c.has.ensures ∙ c.if-not-has.true in
    sym (not_left u c.requires.universe c.args.matchers.now c.args.left.now c.requires.left c.args.class own out (is_scraped_name rules (text_at u 0 c.args.class)))

pub returns : goal.returns
returns c = λ rules are.
    let u = c.args.universe.now in
    let text = candidate_text u c.requires.universe 0 (some_label u c.requires.universe) c.args.class c.candidate-name.result.now c.requires.class c.candidate-name.ensures in
    subst (λ (t : Bytes). IfOk c.may_be_name.result (λ found. found ≡ (is_scraped_name rules t && passes_as_name c.args.matchers.now t))) text (c.may_be_name.ensures rules are)
