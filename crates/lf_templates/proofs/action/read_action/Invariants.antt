use Rattle.std.proofs.Common.{◌≡◌, ◌+◌, ◌-◌, ◌≤◌, ◌++◌, length, drop}
use Rattle.std.specs.Prelude.{option_map}
use Rattle.lf_templates.specs.declared.token.TokenContext.TheVariants.{Start}
use Rattle.lf_templates.specs.reading.Templates.{lexed, total, Named}
use Rattle.lf_templates.proofs.action.read_action.Given as goal

abbrev pub invariant-loop-at : goal.invariant-loop-at
invariant-loop-at l = record {
  same : option_map (λ ls. l.tokens.items ++ ls) (lexed l.place 0 (drop l.at l.bytes)) ≡ lexed Start 0 (drop l.start l.bytes);
  end : l.at ≡ l.start + total l.tokens.items;
  within : l.at ≤ length l.bytes;
  named : Named l.bytes l.start l.tokens.items;
}

abbrev pub decreases-loop-at : goal.decreases-loop-at
decreases-loop-at l = length l.initial.bytes - l.at
