use Rattle.std.proofs.Common.{Bool, List, sym, subst}
use Rattle.std.proofs.lemmas.Result.{IfOk-weaker}
use Rattle.lf_ast.specs.Rules.{RuleTree, rule_trees}
use Rattle.lf_open.specs.Holding.{names_le}
use Rattle.lf_open.specs.views.Marks.{AreChosenBy, AreMarks, TellsReading}
use Rattle.lf_open.proofs.Chosen.{passing_by}
use Rattle.lf_open.proofs.MarkedNames.{tells_reading}
use Rattle.lf_open.proofs.reading.le_marks.Goals as goal

pub returns : goal.returns
returns c =
    let rules : List RuleTree = rule_trees c.args.rules.now in
    let test : RuleTree → Bool = names_le in
    let are = passing_by c.args.rules.now test c.in_ok-passing.passing.items c.as_slice.result.now c.as_slice.ensures.value c.in_ok-passing.ensures in
    let chosen = subst (AreChosenBy rules test) (sym c.as_slice-2.ensures.value) (c.in_ok-found.ensures.chosen rules test c.requires.sources are) in
    IfOk-weaker c.marks_of.result (AreMarks rules c.as_slice-2.result.now) (TellsReading rules test) (λ m marks. tells_reading rules test c.as_slice-2.result.now chosen m marks) c.marks_of.ensures
