-- Words all bits of which are there.
use Rattle.std.proofs.Common.{◌≡◌, ℕ, ◌+◌, ◌*◌, ◌<◌, ◌≤◌, ◌^◌, false, Bool, List, get_or, take, drop, sym, ◌∙◌, ap, arith}
use Rattle.lf_classes.specs.RowWords.{number_of}
use Rattle.lf_classes.specs.views.Bits.{bit, bits_of}
use Rattle.lf_classes.proofs.RowWords.{number_is}
use Rattle.lf_classes.proofs.WordLists.{at_place, get_bits}

pub whole_word : (words : List ℕ) (len k : ℕ) (bits : List Bool) → bits_of words len ≡ bits → 64 * k + 64 ≤ len → (w : ℕ) → w < 2 ^ 64 → w ≡ get_or words k 0 → w ≡ number_of (take 64 (drop (64 * k) bits))
whole_word words len k bits shown h w small e =
    number_is w bits (64 * k) small
    (λ i l. ap (λ x. bit x i) e ∙ sym (at_place words k i l) ∙ sym (get_bits words len (64 * k + i) false (omega (arith, h, l))) ∙ ap (λ xs. get_or xs (64 * k + i) false) shown)
