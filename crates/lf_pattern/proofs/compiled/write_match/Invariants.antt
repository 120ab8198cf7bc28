use Rattle.std.proofs.Common.{◌≡◌, ◌++◌, drop, string_bytes}
use Rattle.std.specs.List.{flat_map}
use Rattle.lf_pattern.specs.views.Groups.{group_of_match}
use Rattle.lf_pattern.specs.reading.Expansion.{piece_text}
use Rattle.lf_pattern.proofs.compiled.write_match.Given as goal

abbrev pub invariant-loop-piece : goal.invariant-loop-piece
invariant-loop-piece l =
    string_bytes l.text ++ flat_map (piece_text (group_of_match l.value l.captures)) (drop l.piece-index l.pieces)
    ≡ flat_map (piece_text (group_of_match l.value l.captures)) l.pieces
