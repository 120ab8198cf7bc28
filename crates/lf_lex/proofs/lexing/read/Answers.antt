use Rattle.std.proofs.Common.{arith, ◌<◌, length, ◌+◌}
use Rattle.std.proofs.lemmas.Result.{err_from_is_err_and}
use Rattle.lf_lex.proofs.Reading.{so_far_none, so_far_more, refusal_breaks, so_far_all, ordered_more, last_more}
use Rattle.lf_lex.proofs.lexing.read.Goals as goal

pub loop-at-init : goal.loop-at-init
loop-at-init c = rw c.in_ok-tokens.ensures (record {
  so_far = so_far_none c.args.from.now c.args.text.now;
  within = omega arith;
  ordered = λ i j d le lt. absurd (omega arith);
  last = λ d lt. absurd (omega arith);
})

pub loop-at-preserved : goal.loop-at-preserved
loop-at-preserved c =
    let room : c.loop-at.at + c.in_ok-found.len < length c.args.from.now = omega (arith, c.in_ok-found.ensures.within.1) in
    rw (c.behind-inside.ensures, c.in_ok-push.ensures) (record {
      so_far = so_far_more c.args.from.now c.args.text.now c.loop-at.inside c.loop-at.at c.loop-at.tokens c.loop-at.invariant.so_far c.loop-at-test.true c.in_ok-found.found c.in_ok-found.len c.in_ok-found.ensures.told;
      within = c.in_ok-found.ensures.within.1;
      ordered = ordered_more c.args.from.now c.loop-at.at c.in_ok-found.len c.loop-at.tokens c.requires.rises room c.loop-at.invariant.ordered c.loop-at.invariant.last c.in_ok-found.found;
      last = last_more c.args.from.now c.loop-at.at c.in_ok-found.len c.loop-at.tokens c.requires.rises room c.loop-at.invariant.ordered c.loop-at.invariant.last c.in_ok-found.found;
    })

pub returns-in_err-found-clause-refused : goal.returns-in_err-found-clause-refused
returns-in_err-found-clause-refused c =
    let p = err_from_is_err_and c.from_residual-in_err-found.result c.from_residual-in_err-found.ensures.1 in
    rw (p.1, p.2) (refusal_breaks c.args.from.now c.args.text.now c.loop-at.inside c.loop-at.at c.loop-at.tokens c.loop-at.invariant.so_far c.loop-at-test.true c.in_err-found.field-0.0 c.in_err-found.ensures.told)

pub returns : goal.returns
returns c = record {
  found = so_far_all c.args.from.now c.args.text.now c.loop-at.inside c.loop-at.at c.loop-at.tokens c.loop-at.invariant.so_far c.loop-at-test.false;
  refused = tt;
  ordered = c.loop-at.invariant.ordered;
}
