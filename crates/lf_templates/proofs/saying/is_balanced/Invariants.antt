use Rattle.std.proofs.Common.{◌≡◌, ◌≤◌, drop}
use Rattle.lf_templates.specs.Actions.{is_balanced, tokens_of}
use Rattle.lf_templates.proofs.saying.is_balanced.Given as goal

abbrev pub invariant-loop-lexeme : goal.invariant-loop-lexeme
invariant-loop-lexeme l = record {
  same : is_balanced 0 (tokens_of l.tokens) ≡ is_balanced l.depth (tokens_of (drop l.lexeme-index l.tokens));
  small : l.depth ≤ l.lexeme-index;
}
