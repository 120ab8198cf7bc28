use Rattle.std.proofs.Common.{sym, ◌∙◌, arith}
use Rattle.std.proofs.lemmas.Option.{slice_get_within}
use Rattle.lf_strict.proofs.Times.{others_further, pair_there}
use Rattle.lf_strict.proofs.apart.has_equal_neighbours.Goals as goal

pub returns-then-eq-clause-some : goal.returns-then-eq-clause-some
returns-then-eq-clause-some c = λ _. pair_there c.args.sorted.now c.loop-k.k c.index-sorted-k.result c.index-sorted-k-in-loop-k.result (omega arith) (omega arith) c.index-sorted-k.is c.index-sorted-k-in-loop-k.is (sym c.eq.ensures ∙ c.if-eq.true)

pub loop-k-preserved : goal.loop-k-preserved
loop-k-preserved c = others_further c.args.sorted.now c.loop-k.k c.index-sorted-k.result c.index-sorted-k-in-loop-k.result (omega arith) c.index-sorted-k.is c.index-sorted-k-in-loop-k.is (sym c.eq.ensures ∙ c.if-eq.false) c.loop-k.invariant

pub returns-clause-none : goal.returns-clause-none
returns-clause-none c = λ _ k s t a b. c.loop-k.invariant k s t (let within = slice_get_within c.args.sorted.now _ t b in omega arith) a b
