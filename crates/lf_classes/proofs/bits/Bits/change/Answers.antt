use Rattle.std.proofs.Common.{◌≡◌, ◌≤◌, length, ap, ◌∙◌, arith}
use Rattle.std.proofs.Math.Nat.{div-add-mod}
use Rattle.lf_classes.specs.views.Bits.{changed}
use Rattle.lf_classes.proofs.WordLists.{both_seen, length_bits, same_length, same_seen}
use Rattle.lf_classes.proofs.bits.Bits.change.Goals as goal

pub change_words-requires : goal.change_words-requires
change_words-requires c =
    let b = c.self.inside in
    let o = c.other.inside in
    let same : o.len ≡ b.len = omega (arith, c.requires.same, ap length c.self.view_is, ap length c.other.view_is, length_bits b.words.items b.len, length_bits o.words.items o.len) in
    let fit : c.args.to ≤ b.len = omega (arith, c.requires.within, ap length c.self.view_is, length_bits b.words.items b.len) in
    record {
      same = omega (arith, same, c.self.invariant.filled, c.other.invariant.filled, ap length c.as_slice.ensures.value);
      within = omega (arith, same, fit, c.other.invariant.filled, ap length c.as_slice.ensures.value, div-add-mod o.len 64);
      small = omega (arith, fit, c.self.invariant.small);
    }

pub invariant_of-self : goal.invariant_of-self
invariant_of-self c = record {
  filled = c.change_words.ensures.len ∙ c.self.invariant.filled;
  small = c.self.invariant.small;
}

pub returns : goal.returns
returns c =
    let b = c.self.inside in
    let o = c.other.inside in
    let new = c.change_words.new.words.items in
    let same : o.len ≡ b.len = omega (arith, c.requires.same, ap length c.self.view_is, ap length c.other.view_is, length_bits b.words.items b.len, length_bits o.words.items o.len) in
    let fit : c.args.to ≤ b.len = omega (arith, c.requires.within, ap length c.self.view_is, length_bits b.words.items b.len) in
    record {
      len = same_length b.words.items new b.len _ c.self.view_is;
      inside = λ k l u. both_seen b.words.items new b.len _ c.self.view_is (changed c.args.change) o.words.items c.as_slice.result.now o.len k _ c.other.view_is c.as_slice.ensures.value same (omega arith) (c.change_words.ensures.inside k l u);
      below = λ k l. same_seen b.words.items new b.len _ c.self.view_is k (c.change_words.ensures.below k l);
      above = λ k u. same_seen b.words.items new b.len _ c.self.view_is k (c.change_words.ensures.above k u);
    }
