use Rattle.std.proofs.Common.{◌∙◌}
use Rattle.lf_built.proofs.Fits.{set_at}
use Rattle.lf_built.proofs.prepared.Prepared.set_by.Goals as goal

pub returns : goal.returns
returns c r is = c.as_slice.ensures ∙ c.index.ensures ∙ set_at c.args.self.now c.requires.known c.args.rule r c.index.result.now is
