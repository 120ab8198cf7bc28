use Rattle.std.proofs.Common.{◌≡◌, ◌<◌, ◌≤◌, ℕ, drop, false}
use Rattle.lf_yaml.specs.Characters.{mark_length, is_wrong}
use Rattle.lf_yaml.proofs.characters.first_wrong.Given as goal

abbrev pub invariant-loop-offset : goal.invariant-loop-offset
invariant-loop-offset l = (j : ℕ) → mark_length l.bytes ≤ j → j < l.offset → is_wrong (drop j l.bytes) ≡ false
