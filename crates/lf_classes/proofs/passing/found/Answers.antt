use Rattle.std.proofs.Common.{◌≡◌, Bool, true, false, not, refl, sym, ◌∙◌, ap}
use Rattle.std.proofs.Math.Bool.{beq}
use Rattle.lf_pattern.specs.Matching.{matches}
use Rattle.lf_semantics.proofs.PatternFaults.{unread_is}
use Rattle.lf_classes.proofs.Unread.{read_passes, unread_matches, unread_passes}
use Rattle.lf_classes.proofs.passing.found.Goals as goal

beq_false : (b w : Bool) → w ≡ false → beq b w ≡ not b
beq_false true false e = refl
beq_false false false e = refl
beq_false b true e = absurd (cc)

pub returns-in_ok-matches-in-Ok-clause-no : goal.returns-in_ok-matches-in-Ok-clause-no
returns-in_ok-matches-in-Ok-clause-no c = λ e.
    beq_false c.in_ok-matches-in-Ok.field-0 c.args.wanted e
    ∙ ap not (c.in_ok-matches-in-Ok.ensures.value ∙ ap (λ p. matches p c.args.value.now) c.in-Ok.ensures.text)
    ∙ sym (read_passes c.args.pattern.now c.args.value.now c.in-Ok.ensures.read)

pub returns-in-Err-BadPattern-clause-yes : goal.returns-in-Err-BadPattern-clause-yes
returns-in-Err-BadPattern-clause-yes c = λ e. sym (unread_matches c.args.pattern.now c.args.value.now ((unread_is c.args.pattern.now).1 (c.in-Err-BadPattern.ensures.bad c.in-Err-BadPattern.field-0-is)))

pub returns-in-Err-BadPattern-clause-no : goal.returns-in-Err-BadPattern-clause-no
returns-in-Err-BadPattern-clause-no c = λ e. sym (unread_passes c.args.pattern.now c.args.value.now ((unread_is c.args.pattern.now).1 (c.in-Err-BadPattern.ensures.bad c.in-Err-BadPattern.field-0-is)))
