use Rattle.std.proofs.Common.{◌≡◌, ◌++◌, drop, string_bytes}
use Rattle.std.specs.List.{flat_map}
use Rattle.lf_pattern.specs.reading.Expansion.{piece_text, plain_group}
use Rattle.lf_pattern.proofs.writing.write_plain.Given as goal

abbrev pub invariant-loop-piece : goal.invariant-loop-piece
invariant-loop-piece l =
    string_bytes l.text ++ flat_map (piece_text (plain_group l.pair l.value)) (drop l.piece-index l.pieces)
    ≡ flat_map (piece_text (plain_group l.pair l.value)) l.pieces
