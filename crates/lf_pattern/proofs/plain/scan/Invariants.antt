use Rattle.std.proofs.Common.{◌≡◌, [], false, drop, string_bytes}
use Rattle.lf_pattern.specs.Scan.{scanned}
use Rattle.lf_pattern.proofs.plain.scan.Given as goal

abbrev pub invariant-loop-c : goal.invariant-loop-c
invariant-loop-c l = scanned l.done (string_bytes l.now) l.escaped (drop l.c-index l.characters) ≡ scanned [] [] false l.characters
