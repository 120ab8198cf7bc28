use Rattle.std.proofs.Common.{◌≢◌, ◌-◌, ℕ, length, get_or, sym, ◌∙◌, arith, IsTrue, not, eqb}
use Rattle.std.proofs.lemmas.Bool.{eqb-true, ltb-true}
use Rattle.std.proofs.lemmas.Bool.Decides.{nat_tests}
use Rattle.lf_checks.proofs.PatternLaws.{tested}
use Rattle.lf_checks.proofs.promql_regexp.ends_anchored.Goals as goal
use Rattle.lf_checks.proofs.promql_regexp.ends_anchored.Goals.{then-count-gt0, else-count-gt0}

other_by : (n m : ℕ) → IsTrue (not (eqb n m)) → n ≢ m
other_by n m t = grind (arith, nat_tests)

by_other : (n m : ℕ) → n ≢ m → IsTrue (not (eqb n m))
by_other n m ne = grind (arith, nat_tests)

pub returns-else-count-eq1 : goal.returns-else-count-eq1
returns-else-count-eq1 c =
    let p = c.args.pattern.now in
    elim c.if-count-gt0.branch [
      | then-count-gt0 w ↦
          let both = tested p w.if-count-gt0.true c.if-count-eq1.false (eqb-true (get_or p (length p - 1) 0) 36 (sym w.value-is ∙ c.if-pattern-count-eq36.true)) in
          (λ t. both.0 (other_by (get_or p (length p - 2) 0) 92 t), λ h. by_other (get_or p (length p - 2) 0) 92 (both.1 h))
      | else-count-gt0 w ↦
          let some = ltb-true 0 (length p) (sym w.value-is ∙ c.if-pattern-count-eq36.true) in
          absurd (omega (arith, some, w.if-count-gt0.false))
    ]
