use Rattle.std.proofs.Common.{sym, ◌∙◌}
use Rattle.lf_scalar.specs.reading.Quoted.{broken}
use Rattle.lf_scalar.proofs.NextLine.{marker-gives}
use Rattle.lf_scalar.proofs.quoted.push_next.Goals as goal

pub returns-then-is_marker : goal.returns-then-is_marker
returns-then-is_marker c = λ b.
    marker-gives b c.args.kind c.args.at c.args.pending.blank c.args.line.now (broken c.args.pending.at_break c.args.pending.at) (sym (c.is_marker.ensures c.args.at) ∙ c.if-is_marker.true) c.requires.full
