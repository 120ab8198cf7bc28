use Rattle.std.proofs.Common.{◌≡◌, Bool, true, false, not, refl, sym, ap, ◌∙◌}
use Rattle.lf_semantics.specs.ClassRows.{is_live}
use Rattle.lf_trials.specs.Given.{completed_by}
use Rattle.lf_candidates.specs.views.Packed.{PackedRow}
use Rattle.lf_candidates.proofs.Completed.{all_completed, left_out, of_empty}
use Rattle.lf_candidates.proofs.given.LabelTexts.completed_by.Goals as goal

dead : (b : Bool) → not b ≡ true → b ≡ false
dead true e = sym e
dead false e = refl

live : (b : Bool) → not b ≡ false → b ≡ true
live true e = refl
live false e = sym e

pub returns-then-is_empty : goal.returns-then-is_empty
returns-then-is_empty c = λ whole D is stands.
    let same : not c.args.row.now.live ≡ not (is_live whole) = ap (λ (row : PackedRow). not row.live) is.1 in
    of_empty c.args.universe.now whole D (dead (is_live whole) (sym same ∙ sym c.is_empty.ensures ∙ c.if-is_empty.true))

pub returns-then-is_whole : goal.returns-then-is_whole
returns-then-is_whole c = λ whole D is stands.
    let u = c.args.universe.now in
    let same : not c.args.row.now.live ≡ not (is_live whole) = ap (λ (row : PackedRow). not row.live) is.1 in
    let done = c.complete.ensures whole D is stands in
    all_completed u whole D c.complete.new.self (live (is_live whole) (sym same ∙ sym c.is_empty.ensures ∙ c.if-is_empty.false)) (sym c.if-is_whole.true ∙ c.is_whole.ensures u (completed_by u whole D) c.requires.universe done) done

pub returns-else-is_whole : goal.returns-else-is_whole
returns-else-is_whole c = λ whole D is stands.
    let u = c.args.universe.now in
    left_out u whole D (sym c.if-is_whole.false ∙ c.is_whole.ensures u (completed_by u whole D) c.requires.universe (c.complete.ensures whole D is stands))
