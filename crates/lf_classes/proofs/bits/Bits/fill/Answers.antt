use Rattle.std.proofs.Common.{◌≤◌, length, ◌∙◌, ap, arith}
use Rattle.std.proofs.Math.Nat.{div-add-mod}
use Rattle.lf_classes.proofs.WordLists.{fill_seen, length_bits, same_length, same_seen}
use Rattle.lf_classes.proofs.bits.Bits.fill.Goals as goal

pub fill_words-requires : goal.fill_words-requires
fill_words-requires c =
    let b = c.self.inside in
    let fit : c.args.to ≤ b.len = omega (arith, ap length c.self.view_is, length_bits b.words.items b.len) in
    record {
      within = omega (arith, fit, c.self.invariant.filled, div-add-mod b.len 64);
      small = omega (arith, fit, c.self.invariant.small);
    }

pub invariant_of-self : goal.invariant_of-self
invariant_of-self c = record {
  filled = c.fill_words.ensures.len ∙ c.self.invariant.filled;
  small = c.self.invariant.small;
}

pub returns : goal.returns
returns c =
    let b = c.self.inside in
    let new = c.fill_words.new.words.items in
    let fit : c.args.to ≤ b.len = omega (arith, ap length c.self.view_is, length_bits b.words.items b.len) in
    record {
      len = same_length b.words.items new b.len _ c.self.view_is;
      inside = λ k l u. fill_seen b.words.items new b.len _ c.self.view_is c.args.on k (omega arith) (c.fill_words.ensures.inside k l u);
      below = λ k l. same_seen b.words.items new b.len _ c.self.view_is k (c.fill_words.ensures.below k l);
      above = λ k u. same_seen b.words.items new b.len _ c.self.view_is k (c.fill_words.ensures.above k u);
    }
