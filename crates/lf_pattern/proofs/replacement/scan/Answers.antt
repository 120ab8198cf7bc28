use Rattle.std.proofs.Common.{◌≡◌, List, ◌++◌, [], drop, ap, sym, ◌∙◌, append-nil}
use Rattle.std.proofs.lemmas.List.{at_drop_all}
use Rattle.lf_pattern.specs.declared.replacement.ReplacementPiece.{ReplacementPiece}
use Rattle.lf_pattern.specs.declared.replacement.ReplacementMode.{ReplacementMode}
use Rattle.lf_pattern.specs.reading.Replacement.{pieces_of}
use Rattle.lf_pattern.proofs.PieceLaws.{number-end, end-apart}
use Rattle.lf_pattern.proofs.replacement.scan.Goals as goal
use Rattle.lf_pattern.proofs.replacement.scan.Goals.{in-Number+in_ok-push, in_default}

pub returns : goal.returns
returns c =
    let pieces = c.loop-c.pieces in
    let mode = c.loop-c.mode in
    let all : pieces_of mode (drop c.loop-c.c-index c.args.characters.now) ≡ pieces_of mode [] = at_drop_all (pieces_of mode) c.args.characters.now c.loop-c.c-index c.loop-c-test.false in
    let whole : pieces ++ pieces_of mode [] ≡ _ = ap (λ (l : List ReplacementPiece). pieces ++ l) (sym all) ∙ c.loop-c.invariant in
    elim c.match-mode.branch [
      | in-Number+in_ok-push w ↦ w.pieces-is ∙ w.in_ok-push.ensures.ok ∙ ap (λ (l : List ReplacementPiece). pieces ++ l) (sym (number-end w.in-Number.n) ∙ ap (λ (m : ReplacementMode). pieces_of m []) (sym w.in-Number.is)) ∙ whole
      | in_default w ↦ w.pieces-is ∙ sym (append-nil pieces) ∙ ap (λ (l : List ReplacementPiece). pieces ++ l) (sym (end-apart mode w.in_default.not-Number)) ∙ whole
    ]
