-- One more frame.
use Rattle.std.proofs.Common.{◌≡◌, List, [], ◌∷◌, ◌++◌, map, ap}
use Rattle.std.proofs.lemmas.List.{reverse-append}
use Rattle.lf_parse.specs.declared.mode.ParserFrame.{ParserFrame as ParserFrameOf}
use Rattle.lf_parse.specs.views.Values.{frame_of, frames_of}

pub frames_push : (ps : List ParserFrameOf) (b : ParserFrameOf) → frames_of (ps ++ b ∷ []) ≡ frame_of b ∷ frames_of ps
frames_push ps b = ap (map frame_of) (reverse-append ps (b ∷ []))
