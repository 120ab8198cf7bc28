use Rattle.std.proofs.Common.{◌≡◌, ◌+◌, ◌∙◌, sym, ap, take, false, arith}
use Rattle.lf_parse.specs.Depth.{nesting, is_too_deep}
use Rattle.lf_parse.specs.views.Values.{token_of, nesting_of}
use Rattle.lf_parse.proofs.Nestings.{few_bounded, step_more, shallow_more, braces_rise}
use Rattle.lf_parse.proofs.nesting.first_too_deep.Goals as goal

pub returns-then-tokens : goal.returns-then-tokens
returns-then-tokens c = few_bounded c.args.tokens.now (omega (arith, c.if-tokens.true))

pub loop-index-preserved : goal.loop-index-preserved
loop-index-preserved c =
    let ts = c.args.tokens.now in
    let k = c.loop-index.index in
    let so_far : nesting_of c.in_ok-nesting.nesting ≡ nesting (take (k + 1) ts) = step_more ts k c.index-tokens-index.result (nesting_of c.loop-index.nesting) (nesting_of c.in_ok-nesting.nesting) (token_of c.marked.result) c.loop-index-test.true c.index-tokens-index.is c.loop-index.invariant.so_far c.in_ok-nesting.ensures c.marked.ensures in
    let shallow : is_too_deep (nesting (take (k + 1) ts)) ≡ false = ap is_too_deep (sym so_far) ∙ sym c.is_too_deep.ensures ∙ c.if-is_too_deep.false in
    record {
      so_far = so_far;
      shallow = shallow_more ts k c.loop-index.invariant.shallow shallow;
      braces = omega (arith, ap (λ n. n.braces) c.in_ok-nesting.ensures, braces_rise (nesting_of c.loop-index.nesting) (token_of c.marked.result), c.loop-index.invariant.braces);
    }
