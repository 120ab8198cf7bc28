use Rattle.std.proofs.Common.{rules}
use Rattle.lf_checks.proofs.judged.is_impossible.Goals as goal

pub returns-then-not-is_empty : goal.returns-then-not-is_empty
returns-then-not-is_empty c = let texts = c.has_text.ensures c.args.universe.now in search (rules, texts)
