use Rattle.std.proofs.Common.{sym, ◌∙◌, ◌≡◌, ◌+◌, ◌&&◌, ap, List, ℕ, drop, false, eqb, get_or}
use Rattle.lf_scalar.specs.Cells.{cells}
use Rattle.lf_scalar.specs.Plain.{before_blank}
use Rattle.lf_yaml.proofs.ColonScan.{colon-here, colon-later, not-apart, not-colon}
use Rattle.lf_yaml.proofs.flow_text.find_colon.Goals as goal
use Rattle.lf_yaml.proofs.flow_text.find_colon.Goals.{else-text-i-eq58-via-then-text-i-eq58+else-is_apart, else-text-i-eq58-via-else-text-i-eq58}

pub returns-then-is_apart-clause-value : goal.returns-then-is_apart-clause-value
returns-then-is_apart-clause-value c =
    λ at. sym (colon-here at c.args.len c.loop-i.i c.args.text.now c.loop-i-test.true c.requires.within c.if-text-i-eq58.true
    (ap (λ (xs : List ℕ). before_blank (cells (at + (c.loop-i.i + 1)) xs)) (sym c.past.ensures) ∙ sym (c.is_apart.ensures (at + (c.loop-i.i + 1))) ∙ c.if-is_apart.true))
    ∙ c.loop-i.invariant at

pub loop-i-preserved : goal.loop-i-preserved
loop-i-preserved c =
    λ at. let test : (eqb (get_or c.args.text.now c.loop-i.i 0) 58 && before_blank (cells (at + (c.loop-i.i + 1)) (drop (c.loop-i.i + 1) c.args.text.now))) ≡ false =
    elim c.else-text-i-eq58.branch [
      | else-text-i-eq58-via-then-text-i-eq58+else-is_apart w ↦
          not-apart (get_or c.args.text.now c.loop-i.i 0) (before_blank (cells (at + (c.loop-i.i + 1)) (drop (c.loop-i.i + 1) c.args.text.now)))
          (ap (λ (xs : List ℕ). before_blank (cells (at + (c.loop-i.i + 1)) xs)) (sym w.past.ensures) ∙ sym (w.is_apart.ensures (at + (c.loop-i.i + 1))) ∙ w.if-is_apart.false)
      | else-text-i-eq58-via-else-text-i-eq58 w ↦ not-colon (get_or c.args.text.now c.loop-i.i 0) (before_blank (cells (at + (c.loop-i.i + 1)) (drop (c.loop-i.i + 1) c.args.text.now))) w.if-text-i-eq58.false
    ] in
    sym (colon-later at c.args.len c.loop-i.i c.args.text.now c.loop-i-test.true c.requires.within test) ∙ c.loop-i.invariant at
