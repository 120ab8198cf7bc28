use Rattle.std.proofs.Common.{◌≡◌, drop}
use Rattle.lf_templates.specs.Actions.{sets_labels, tokens_of}
use Rattle.lf_templates.proofs.TokenLoops.{sets_from}
use Rattle.lf_templates.proofs.saying.sets_labels.Given as goal

abbrev pub invariant-loop-lexeme : goal.invariant-loop-lexeme
invariant-loop-lexeme l = sets_labels (tokens_of l.tokens) ≡ sets_from l.behind_labels (tokens_of (drop l.lexeme-index l.tokens))
