use Rattle.std.proofs.Common.{List, ℕ, get_or, take, sym, subst, arith}
use Rattle.std.proofs.lemmas.List.{take_more}
use Rattle.std.proofs.lemmas.List.Elements.{Contains-get_or}
use Rattle.lf_deps.specs.views.Queue.{CountsDown}
use Rattle.lf_deps.proofs.Counting.{down_more, occurs_front}
use Rattle.lf_deps.proofs.queue.count_down_all.Goals as goal

pub count_down-requires-clause-within : goal.count_down-requires-clause-within
count_down-requires-clause-within c =
    let b = c.requires.within (get_or c.args.sources.now c.loop-source.source-index 0) (Contains-get_or c.args.sources.now c.loop-source.source-index 0 c.loop-source-test.true) in
    omega (arith, b, c.loop-source.auto.counts)

pub count_down-requires-clause-enough : goal.count_down-requires-clause-enough
count_down-requires-clause-enough c =
    let x : ℕ = get_or c.args.sources.now c.loop-source.source-index 0 in
    let front = occurs_front c.args.sources.now c.loop-source.source-index c.loop-source-test.true in
    let enough = c.requires.enough x in
    let counted = c.loop-source.invariant.counted x in
    omega (arith, front, enough, counted)

pub loop-source-preserved : goal.loop-source-preserved
loop-source-preserved c =
    let xs : List ℕ = c.args.sources.now in
    let i : ℕ = c.loop-source.source-index in
    let P : List ℕ → Type 0 = λ l. CountsDown c.args.listed.now l c.args.counts.now c.count_down.new.counts c.args.due.now c.count_down.new.due in
    subst P (sym (take_more xs i 0 c.loop-source-test.true))
    (down_more c.args.listed.now (take i xs) (get_or xs i 0) c.args.counts.now c.loop-source.counts c.count_down.new.counts c.args.due.now c.loop-source.due c.count_down.new.due c.loop-source.invariant c.in_ok-count_down.ensures)
