use Rattle.std.proofs.Common.{◌≡◌, ◌++◌, take}
use Rattle.lf_checks.proofs.ordering.push_bytes.Given as goal

abbrev pub invariant-loop-byte : goal.invariant-loop-byte
invariant-loop-byte l = l.key ≡ l.fn.key ++ take l.byte-index l.byte-items
