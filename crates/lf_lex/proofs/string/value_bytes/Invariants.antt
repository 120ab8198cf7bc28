use Rattle.std.proofs.Common.{◌≡◌, ◌++◌, drop}
use Rattle.lf_lex.specs.reading.Strings.{gives, bytes_of}
use Rattle.lf_lex.proofs.string.value_bytes.Given as goal

abbrev pub invariant-loop-i : goal.invariant-loop-i
invariant-loop-i l = l.bytes.items ++ bytes_of (gives l.quote l.i l.skip (drop l.i l.inner)) ≡ bytes_of (gives l.quote 0 0 l.inner)
