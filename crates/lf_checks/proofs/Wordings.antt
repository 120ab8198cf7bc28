-- What the numbers of checks and cases say.
use Rattle.std.proofs.Common.{◌≡◌, Result, ℕ, zero, suc, ◌++◌, refl, ◌∙◌}
use Rattle.std.proofs.lemmas.Result.{IfOk-weaker}
use Rattle.std.specs.Prelude.{IfOk, codes}
use Rattle.lf_ast.specs.Labels.{Bytes}
use Rattle.lf_checks.specs.AlertTemplate.{says_unreadable}
use Rattle.lf_checks.specs.Finding.{RuleLabel}
use Rattle.lf_checks.specs.PromqlRegexp.{says_anchored}
use Rattle.lf_checks.specs.views.Cases.{check_at, said}

-- a text that is equal to what is to be said
pub told : {E : Type 0} (r : Result Bytes E) (one other : Bytes) → IfOk r (λ t. t ≡ one) → one ≡ other → IfOk r (λ t. t ≡ other)
told r one other h e = IfOk-weaker r (λ t. t ≡ one) (λ t. t ≡ other) (λ t is. is ∙ e) h

module _ (check case : ℕ) (label place : Bytes) where
  pub later_template : check ≡ 2 → (case ≡ 0 → ⊥) → says_unreadable ≡ said (check_at check) case label place
  later_template e other = by case other
    where
      by : (k : ℕ) → (k ≡ 0 → ⊥) → says_unreadable ≡ said (check_at check) k label place
      by zero none = absurd (none refl)
      by (suc k) none = rw e refl

  pub later_dependency : check ≡ 4 → (case ≡ 0 → ⊥) → label ++ codes " is read in its own making" ≡ said (check_at check) case label place
  later_dependency e other = by case other
    where
      by : (k : ℕ) → (k ≡ 0 → ⊥) → label ++ codes " is read in its own making" ≡ said (check_at check) k label place
      by zero none = absurd (none refl)
      by (suc k) none = rw e refl

  pub later_pattern : check ≡ 5 → (case ≡ 0 → ⊥) → says_anchored ≡ said (check_at check) case label place
  later_pattern e other = by case other
    where
      by : (k : ℕ) → (k ≡ 0 → ⊥) → says_anchored ≡ said (check_at check) k label place
      by zero none = absurd (none refl)
      by (suc k) none = rw e refl

  pub on_operand : check ≡ 6 → codes "label " ++ (label ++ codes " is never on the operand") ≡ said (check_at check) case label place
  on_operand e = rw e refl

  module _ (last : check_at check ≡ RuleLabel) where
    pub replaced : case ≡ 0 → codes "label " ++ (label ++ codes " replaces one that each sample has") ≡ said (check_at check) case label place
    replaced e = rw (last, e) refl

    pub removed : (case ≡ 0 → ⊥) → codes "label " ++ (label ++ codes " is removed but on no sample") ≡ said (check_at check) case label place
    removed other = by case other
      where
        by : (k : ℕ) → (k ≡ 0 → ⊥) → codes "label " ++ (label ++ codes " is removed but on no sample") ≡ said (check_at check) k label place
        by zero none = absurd (none refl)
        by (suc k) none = rw last refl

-- the numbers but 1 to 8 are of the last check
pub last_check : (n : ℕ) → (n ≡ 1 → ⊥) → (n ≡ 2 → ⊥) → (n ≡ 3 → ⊥) → (n ≡ 4 → ⊥) → (n ≡ 5 → ⊥) → (n ≡ 6 → ⊥) → (n ≡ 7 → ⊥) → (n ≡ 8 → ⊥) → check_at n ≡ RuleLabel
last_check zero a b c d e f g h = refl
last_check (suc zero) a b c d e f g h = absurd (a refl)
last_check (suc (suc zero)) a b c d e f g h = absurd (b refl)
last_check (suc (suc (suc zero))) a b c d e f g h = absurd (c refl)
last_check (suc (suc (suc (suc zero)))) a b c d e f g h = absurd (d refl)
last_check (suc (suc (suc (suc (suc zero))))) a b c d e f g h = absurd (e refl)
last_check (suc (suc (suc (suc (suc (suc zero)))))) a b c d e f g h = absurd (f refl)
last_check (suc (suc (suc (suc (suc (suc (suc zero))))))) a b c d e f g h = absurd (g refl)
last_check (suc (suc (suc (suc (suc (suc (suc (suc zero)))))))) a b c d e f g h = absurd (h refl)
last_check (suc (suc (suc (suc (suc (suc (suc (suc (suc zero))))))))) a b c d e f g h = refl
last_check (suc (suc (suc (suc (suc (suc (suc (suc (suc (suc k)))))))))) a b c d e f g h = refl
