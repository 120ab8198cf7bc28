use Rattle.std.proofs.Common.{◌≡◌, ℕ, Bool, true, false, refl, ◌∙◌}
use Rattle.lf_classes.specs.views.Bits.{bit}
use Rattle.lf_classes.proofs.word.mask_at_edge.Goals as goal

-- a bit that is clear stays clear
clear : (b : Bool) (word i high : ℕ) → bit high i ≡ b → (bit high i ≡ false → bit word i ≡ false) → (bit high i ≡ true → bit word i ≡ false) → bit word i ≡ false
clear true word i high e kept cleared = cleared e
clear false word i high e kept cleared = kept e

pub returns : goal.returns
returns c =
    let low = c.from_place-low.ensures in
    let high = c.from_place-high.ensures in
    let out = c.without.ensures in
    record {
      inside = λ i h l u. out.kept i h (high.below i (c.place_in-2.ensures.before i h u)) ∙ low.above i (c.place_in.ensures.after i h l) h;
      below = λ i h l. clear _ c.without.result i c.from_place-high.result refl (λ e. out.kept i h e ∙ low.below i (c.place_in.ensures.before i h l)) (λ e. out.cleared i h e);
      above = λ i h u. out.cleared i h (high.above i (c.place_in-2.ensures.after i h u) h);
    }
