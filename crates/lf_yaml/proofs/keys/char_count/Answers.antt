use Rattle.std.proofs.Common.{◌≡◌, ◌∙◌, arith}
use Rattle.lf_scalar.specs.Cells.{cells}
use Rattle.lf_yaml.specs.Keys.{characters}
use Rattle.lf_yaml.proofs.KeyText.{characters-at, one-counted, all-counted}
use Rattle.lf_yaml.proofs.keys.char_count.Goals as goal

pub loop-i-preserved : goal.loop-i-preserved
loop-i-preserved c = (
  omega (arith, c.loop-i.invariant.0, c.begun_by-count.ensures.few),
  omega (arith, c.loop-i.invariant.1, one-counted c.args.text.now c.loop-i.i c.begun_by-count.result c.loop-i-test.true (c.begun_by-count.ensures.value 0)),
)

pub returns : goal.returns
returns c =
    let e : c.loop-i.count ≡ characters (cells 0 c.args.text.now) = omega (arith, c.loop-i.invariant.1, all-counted c.args.text.now c.loop-i.i c.loop-i-test.false) in
    λ at. e ∙ characters-at 0 at c.args.text.now
