use Rattle.std.proofs.Common.{List, sym, ◌∙◌, ap}
use Rattle.std.specs.List.{filter}
use Rattle.std.proofs.lemmas.List.{take_all}
use Rattle.lf_ast.specs.Labels.{Labels}
use Rattle.lf_strict.specs.views.Selected.{passes_by, passing}
use Rattle.lf_strict.proofs.Selected.{passing_more}
use Rattle.lf_strict.proofs.selecting.passing_each.Goals as goal

pub loop-matcher-preserved : goal.loop-matcher-preserved
loop-matcher-preserved c =
    let W : List Labels = c.args.kept in
    c.in_ok-kept.ensures
    ∙ ap (filter (passes_by c.matcher-item.result)) c.loop-matcher.invariant
    ∙ sym (passing_more c.args.matchers.now c.loop-matcher.matcher-index c.matcher-item.result W c.loop-matcher-test.true c.matcher-item.is)

pub returns : goal.returns
returns c =
    let ms = c.args.matchers.now in
    c.loop-matcher.invariant ∙ ap (λ l. passing l c.args.kept) (take_all c.loop-matcher.matcher-index ms c.loop-matcher-test.false)
