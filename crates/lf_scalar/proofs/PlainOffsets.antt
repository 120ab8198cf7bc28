-- The offsets of a plain scalar's text.
use Rattle.std.proofs.Common.{ℕ, suc, List, ◌∷◌, ◌++◌, length}
use Rattle.lf_scalar.specs.Cells.{Cell}
use Rattle.lf_scalar.specs.Lines.{Line, after_blanks}
use Rattle.lf_scalar.specs.Folding.{fold}
use Rattle.lf_scalar.specs.Plain.{before_comment, plain_text, PlainFrom, last, more}
use Rattle.lf_scalar.proofs.Parts.{after-blanks-part, before-comment-front, trimmed-front, front-part}
use Rattle.lf_scalar.proofs.Rising.{Rises, Climbs, LinesRise, rises-part, climbs-from, climbs-high, climbs-append, fold-climbs, lines-behind}

pub plain-text-rises : (lo : ℕ) (l : Line) (hi : ℕ) → Rises lo l.text hi → Rises lo (plain_text l) hi
plain-text-rises lo l hi h =
    rises-part lo (before_comment (after_blanks l.text)) (plain_text l) hi (front-part (before_comment (after_blanks l.text)) (plain_text l) (trimmed-front (before_comment (after_blanks l.text))))
    (rises-part lo (after_blanks l.text) (before_comment (after_blanks l.text)) hi (front-part (after_blanks l.text) (before_comment (after_blanks l.text)) (before-comment-front (after_blanks l.text)))
    (rises-part lo l.text (after_blanks l.text) hi (after-blanks-part l.text) h))

pub plain-climbs : (above : ℕ) (l : Line) (ls : List Line) (text : List Cell) → PlainFrom above l ls text → (lo hi : ℕ) → LinesRise lo (l ∷ ls) hi → Climbs lo text hi
plain-climbs above l ls _ (last e h) lo hi r = climbs-high lo (plain_text l) l.break hi r.1 (climbs-from lo (plain_text l) l.break (plain-text-rises lo l l.break r.0))
plain-climbs above l _ _ (more {next = next} {ls = ls} {text = text} blank e g t rest) lo hi r =
    let below : Climbs (suc l.break) text hi = plain-climbs above next ls text rest (suc l.break) hi (lines-behind (suc l.break) blank (next ∷ ls) hi r.2) in
    climbs-append lo (plain_text l) l.break (fold l.break (length blank) ++ text) hi (climbs-from lo (plain_text l) l.break (plain-text-rises lo l l.break r.0))
    (climbs-append l.break (fold l.break (length blank)) (suc l.break) text hi (fold-climbs l.break (length blank)) below)
