use Rattle.std.proofs.Common.{◌+◌, ◌/◌, ◌∙◌, ap, arith}
use Rattle.std.proofs.Math.Nat.{div-add-mod}
use Rattle.lf_classes.specs.views.Bits.{bits_of}
use Rattle.lf_classes.proofs.WordLists.{bits_alike}
use Rattle.lf_classes.proofs.bits.Bits.of.Goals as goal

pub returns : goal.returns
returns c =
    ap (λ words. bits_of words c.args.len) (c.in_ok-words.ensures.items_if_clones_equal (λ y e. e))
    ∙ bits_alike c.whole.result (c.args.len / 64 + 1) c.args.len c.args.on (omega (arith, div-add-mod c.args.len 64)) c.whole.ensures
