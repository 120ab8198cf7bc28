use Rattle.std.proofs.Common.{◌≡◌, ℕ, ◌++◌, map, take}
use Rattle.lf_scalar.specs.Cells.{cell}
use Rattle.lf_scalar.proofs.builder.push_char.Given as goal

abbrev pub invariant-loop-byte : goal.invariant-loop-byte
invariant-loop-byte l = l.builder ≡ l.fn.builder ++ map (λ (b : ℕ). cell b l.at) (take l.byte-index l.byte-items)
