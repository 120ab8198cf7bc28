use Rattle.std.proofs.Common.{◌≡◌, ◌+◌, ◌++◌, ◌∷◌, [], rules, sym, subst, take}
use Rattle.std.specs.List.{AllZip}
use Rattle.std.proofs.lemmas.List.Elements.{all_zip_more}
use Rattle.lf_strict.specs.views.Signed.{IsSignature}
use Rattle.lf_strict.proofs.signature.each_signature.Goals as goal

pub loop-sample-preserved : goal.loop-sample-preserved
loop-sample-preserved c =
    let becomes = IsSignature c.args.matching.now in
    let pushed : c.push.new.self.items ≡ c.loop-sample.made.items ++ c.in_ok-signature.field-0 ∷ [] = search rules in
    subst (AllZip becomes (take (c.loop-sample.sample-index + 1) c.args.samples.now)) (sym pushed)
    (all_zip_more becomes c.args.samples.now c.loop-sample.made.items c.loop-sample.sample-index c.sample-item.result c.in_ok-signature.field-0 c.loop-sample-test.true c.sample-item.is c.loop-sample.invariant c.in_ok-signature.ensures)
