use Rattle.std.proofs.Common.{List, subst, arith}
use Rattle.std.proofs.lemmas.List.{take_all}
use Rattle.lf_ast.specs.Labels.{Bytes}
use Rattle.lf_deps.specs.views.Search.{Grows}
use Rattle.lf_deps.proofs.Followed.{grows_next, grows_none}
use Rattle.lf_deps.proofs.searching.add_texts.Goals as goal

pub loop-k-init : goal.loop-k-init
loop-k-init c = grows_none c.args.texts.now

pub loop-k-preserved : goal.loop-k-preserved
loop-k-preserved c =
    grows_next c.args.names.now c.loop-k.k c.get.result.now c.args.texts.now c.loop-k.texts c.add_text.new.texts (omega (arith, c.loop-k-test.true, c.len-k-end.ensures.count)) c.get.ensures c.loop-k.invariant c.in_ok-add_text.ensures

pub returns : goal.returns
returns c =
    let P : List Bytes → Type 0 = λ l. Grows l c.args.texts.now c.loop-k.texts in
    subst P (take_all c.loop-k.k c.args.names.now (omega (arith, c.loop-k-test.false, c.len-k-end.ensures.count))) c.loop-k.invariant
