-- Turns over flow collections that don't go back.
use Rattle.std.proofs.Common.{ℕ, ◌≤◌, List, Result, Ok, Err, IfOk, arith}
use Rattle.lf_base.specs.declared.refusal.Refusal.{Refusal}
use Rattle.lf_yaml.specs.Flow.{next_on}
use Rattle.lf_yaml.specs.reading.FlowTurns.{IsTurnIn}
use Rattle.lf_yaml.specs.views.Parts.{IsNext}
use Rattle.lf_yaml.specs.views.Shown.{shown}
use Rattle.lf_yaml.specs.declared.row.ContentLine.{ContentLine}
use Rattle.lf_yaml.specs.declared.turn.Turn.{Turn}
use Rattle.lf_yaml.specs.declared.turn.Turn.TheVariants as turn
use Rattle.lf_yaml.proofs.FlowParts.{part-within}

turn-low : {T : Type 0} (bytes : List ℕ) (from low : ℕ) → low ≤ from → (t : Turn T) → IsTurnIn bytes from t → IsTurnIn bytes low t
turn-low bytes from low le (turn.Ends closing next) h = (h.0, let at = h.1 in omega (arith, le, at))
turn-low bytes from low le (turn.Last found closing next) h = (h.0, let at = h.1 in omega (arith, le, at))
turn-low bytes from low le (turn.More found place) h = (h.0, let at = h.1 in omega (arith, le, at))

-- from an earlier offset on
pub turns-low : {T E : Type 0} (bytes : List ℕ) (from low : ℕ) → low ≤ from → (r : Result (Turn T) E) → IfOk r (λ t. IsTurnIn bytes from t) → IfOk r (λ t. IsTurnIn bytes low t)
turns-low bytes from low le (Ok t) h = turn-low bytes from low le t h
turns-low bytes from low le (Err e) h = tt

-- no part stands before the offset that it is looked for from
pub part-on : (bytes : List ℕ) (at : ℕ) (r : Result (ContentLine × ℕ) Refusal) → IsNext r (next_on bytes at) → IfOk r (λ x. at ≤ x.0.at)
part-on bytes at (Ok x) e = (part-within bytes at (shown x.0).first (shown x.0).rest e).0
part-on bytes at (Err e) h = tt
