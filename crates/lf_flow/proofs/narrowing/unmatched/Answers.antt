use Rattle.std.proofs.Common.{◌+◌, ◌&&◌, ◌||◌, eqb, get_or, not, false, true, length}
use Rattle.std.proofs.lemmas.Result.{IfOk-weaker}
use Rattle.lf_ast.specs.declared.expr.MatchOp.TheVariants.{NotMatches}
use Rattle.lf_pattern.specs.Matching.{IsRead}
use Rattle.lf_semantics.specs.Listing.{named_at}
use Rattle.lf_semantics.specs.RowTable.{may_match, passes_class}
use Rattle.lf_flow.specs.views.ClassSets.{IsSet}
use Rattle.lf_flow.proofs.MatcherSets.{fails_pass, unread_pass}
use Rattle.lf_flow.proofs.PatternSets.{failed_set}
use Rattle.lf_flow.proofs.narrowing.unmatched.Goals as goal

pub returns-in-Some : goal.returns-in-Some
returns-in-Some c =
    let u = c.args.universe.now in
    let pattern = c.args.pattern.now in
    let label = c.args.label in
    let xs = c.deref.result.now in
    let matched = c.in-Some.matched.items in
    let set : IsSet (length (named_at u label) + 2) (may_match u pattern label) matched = rw c.in-Some.is at c.in_ok-matched.ensures.set in
    let read : IsRead pattern = rw c.in-Some.is at c.in_ok-matched.ensures.read in
    IfOk-weaker c.failed.result
    (λ on. IsSet (length xs) (λ class. eqb (class + 1) (length xs) || not (get_or xs class false)) on.items)
    (λ on. IsSet (length (named_at u label) + 2) (passes_class u NotMatches pattern label) on.items)
    (λ on is. fails_pass u label pattern on.items read (failed_set u pattern label xs matched on.items c.deref.ensures.value set is))
    c.failed.ensures

pub returns-in-None : goal.returns-in-None
returns-in-None c =
    let u = c.args.universe.now in
    let pattern = c.args.pattern.now in
    let label = c.args.label in
    let n = c.classes.result in
    let none : IsRead pattern → ⊥ = rw c.in-None.is at c.in_ok-matched.ensures.unread in
    IfOk-weaker c.unread.result
    (λ on. IsSet n (λ class. eqb (class + 1) n && true) on.items)
    (λ on. IsSet (length (named_at u label) + 2) (passes_class u NotMatches pattern label) on.items)
    (λ on set. unread_pass u label pattern n on.items c.classes.ensures none set)
    c.unread.ensures
