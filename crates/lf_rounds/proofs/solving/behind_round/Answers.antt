use Rattle.std.proofs.Common.{ℕ, List, refl, sym, subst}
use Rattle.lf_ast.specs.Rules.{rule_trees}
use Rattle.lf_semantics.specs.Listing.{IsListing}
use Rattle.lf_rounds.specs.views.Standings.{Rises}
use Rattle.lf_rounds.proofs.Standings.{rises_of, settled_of}
use Rattle.lf_rounds.proofs.solving.behind_round.Goals as goal

pub after-requires-clause-settled : goal.after-requires-clause-settled
after-requires-clause-settled g c =
    let end = c.in_ok-settled.ensures in
    let settled = c.in_ok-settled.settled in
    let over = c.in_ok-round.ensures.round in
    let p = subst IsListing over.universe end.ends.task.listing in
    settled_of c.args.universe.now p c.args.rules.now c.args.before c.requires.before c.args.seats c.in_ok-round.round over settled.words end.ends settled refl end.fit end.known end.over.0 end.over.1 end.made

pub returns-clause-rises : goal.returns-clause-rises
returns-clause-rises g c =
    let end = c.in_ok-settled.ensures in
    let settled = c.in_ok-settled.settled in
    let over = c.in_ok-round.ensures.round in
    let p = subst IsListing over.universe end.ends.task.listing in
    let R : List ℕ → Type 0 = λ words. Rises c.args.universe.now (rule_trees c.args.rules.now) c.args.before.words words in
    subst R (sym c.in_ok-next.ensures.words) (rises_of c.args.universe.now p c.args.rules.now c.args.before c.requires.before c.args.seats c.in_ok-round.round over settled.words end.ends)
