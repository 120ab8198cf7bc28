use Rattle.std.proofs.Common.{◌≡◌, drop}
use Rattle.lf_templates.specs.Actions.{head_of, tokens_of}
use Rattle.lf_templates.proofs.saying.head.Given as goal

abbrev pub invariant-loop-lexeme : goal.invariant-loop-lexeme
invariant-loop-lexeme l = head_of (tokens_of l.tokens) ≡ head_of (tokens_of (drop l.lexeme-index l.tokens))
