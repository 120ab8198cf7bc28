use Rattle.std.proofs.Common.{◌≡◌, drop}
use Rattle.std.specs.List.{list_any}
use Rattle.lf_templates.specs.Actions.{is_wrong, tokens_of}
use Rattle.lf_templates.proofs.saying.has_wrong.Given as goal

abbrev pub invariant-loop-lexeme : goal.invariant-loop-lexeme
invariant-loop-lexeme l = list_any is_wrong (tokens_of l.tokens) ≡ list_any is_wrong (tokens_of (drop l.lexeme-index l.tokens))
