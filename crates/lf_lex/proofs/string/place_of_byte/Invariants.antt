use Rattle.std.proofs.Common.{◌≡◌, ◌<◌, length, drop, get_or}
use Rattle.lf_lex.specs.reading.Strings.{gives, places_of}
use Rattle.lf_lex.proofs.string.place_of_byte.Given as goal

abbrev pub invariant-loop-i : goal.invariant-loop-i
invariant-loop-i l = record {
  same : get_or (places_of (gives l.quote l.i l.skip (drop l.i l.inner))) l.left 0 ≡ get_or (places_of (gives l.quote 0 0 l.inner)) l.number 0;
  within : l.left < length (gives l.quote l.i l.skip (drop l.i l.inner));
}
