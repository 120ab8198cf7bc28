use Rattle.std.proofs.Common.{rules, ◌≡◌, ◌∙◌, List, IfOk, subst, ap}
use Rattle.std.specs.Str.{chars}
use Rattle.std.proofs.lemmas.Str.{chars_from_encodes}
use Rattle.lf_pattern.specs.declared.replacement.ReplacementPiece.{ReplacementPiece}
use Rattle.lf_pattern.specs.declared.replacement.ReplacementMode.TheVariants.{Text}
use Rattle.lf_pattern.specs.reading.Replacement.{pieces_of}
use Rattle.lf_pattern.proofs.PieceLaws.{found_pieces}
use Rattle.lf_pattern.proofs.replacement.pieces.Goals as goal

pub returns : goal.returns
returns c = λ ps reads.
    let same : c.in_ok-characters.characters.items ≡ chars c.args.replacement.now = search (rules, chars_from_encodes) in
    let P : List ReplacementPiece → Type 0 = λ l. IfOk c.scan.result (λ found. found ≡ l) in
    subst P (ap (pieces_of Text) (c.deref.ensures.value ∙ same) ∙ found_pieces reads) c.scan.ensures
