use Rattle.std.proofs.Common.{◌≡◌, ℕ, List, map, sym, subst, rules}
use Rattle.std.specs.Map.Iter.{deref}
use Rattle.std.proofs.lemmas.List.{map_push}
use Rattle.std.proofs.lemmas.Map.Iter.{iter_end}
use Rattle.lf_graph.specs.views.Listing.{AddsBelow}
use Rattle.lf_graph.proofs.Inserting.{below_one, below_other}
use Rattle.lf_graph.proofs.components.add_below.Goals as goal

pub loop-next-preserved-then-next-number : goal.loop-next-preserved-then-next-number
loop-next-preserved-then-next-number c =
    let P : List ℕ → Type 0 = λ l. AddsBelow l c.args.number c.args.due.now.keys c.insert.new.self.keys in
    subst P (sym (map_push deref c.loop-next.yielded c.in-Some.next))
    (below_one c.args.number (map deref c.loop-next.yielded) c.args.due.now.keys c.loop-next.due.keys c.insert.new.self.keys c.in-Some.next.now c.if-next-number.true c.loop-next.invariant c.in_ok-insert.ensures.keys)

pub loop-next-preserved : goal.loop-next-preserved
loop-next-preserved c =
    let P : List ℕ → Type 0 = λ l. AddsBelow l c.args.number c.args.due.now.keys c.loop-next.due.keys in
    subst P (sym (map_push deref c.loop-next.yielded c.in-Some.next))
    (below_other c.args.number (map deref c.loop-next.yielded) c.args.due.now.keys c.loop-next.due.keys c.in-Some.next.now c.if-next-number.false c.loop-next.invariant)

pub returns : goal.returns
returns c =
    let P : List ℕ → Type 0 = λ l. AddsBelow l c.args.number c.args.due.now.keys c.loop-next.due.keys in
    let all : map deref c.loop-next.yielded ≡ c.args.nexts.now.keys = search (rules, iter_end) in
    subst P all c.loop-next.invariant
