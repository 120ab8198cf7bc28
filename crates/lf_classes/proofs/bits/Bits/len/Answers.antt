use Rattle.std.proofs.Common.{length, sym, ◌∙◌, ap}
use Rattle.lf_classes.proofs.WordLists.{length_bits}
use Rattle.lf_classes.proofs.bits.Bits.len.Goals as goal

pub returns : goal.returns
returns c = let b = c.self.inside in sym (length_bits b.words.items b.len) ∙ ap length c.self.view_is
