use Rattle.std.proofs.Common.{◌+◌, ◌&&◌, eqb, length, true}
use Rattle.std.proofs.lemmas.Result.{IfOk-weaker}
use Rattle.lf_pattern.specs.Matching.{IsRead}
use Rattle.lf_semantics.proofs.PatternFaults.{unread_is}
use Rattle.lf_semantics.specs.Listing.{named_at}
use Rattle.lf_semantics.specs.RowTable.{may_match}
use Rattle.lf_flow.specs.views.ClassSets.{IsSet}
use Rattle.lf_flow.proofs.ListedSets.{unread_other}
use Rattle.lf_flow.proofs.PatternSets.{unread_set}
use Rattle.lf_flow.proofs.replacing.matched.Goals as goal

pub returns-in-None : goal.returns-in-None
returns-in-None c =
    let u = c.args.universe.now in
    let pattern = c.args.pattern.now in
    let label = c.args.label in
    let none : IsRead pattern → ⊥ = rw c.in-None.is at c.in_ok-on.ensures.unread in
    IfOk-weaker c.unread.result
    (λ on. IsSet c.classes.result (λ class. eqb (class + 1) c.classes.result && true) on.items)
    (λ on. IsSet (length (named_at u label) + 2) (may_match u pattern label) on.items)
    (λ on set. unread_set u pattern label c.classes.result true on.items c.classes.ensures (unread_other u label pattern ((unread_is pattern).1 none)) none set)
    c.unread.ensures
