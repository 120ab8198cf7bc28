-- What a report tells of the rule with a number.
use Rattle.std.proofs.Common.{◌≡◌, ℕ, zero, suc, ◌+◌, Bool, List, [], ◌∷◌, length, Some, refl, ◌∙◌, ap, arith}
use Rattle.std.specs.Prelude.{slice_get}
use Rattle.lf_judge.specs.Judged.{Checked, ToldRule, rule_told, rules_told}

-- what is told of the rule with a number
pub told_at : (labels : Bool) (n : ℕ) (checked : List Checked) (k : ℕ) (told : ToldRule) → slice_get (rules_told labels n checked) k ≡ Some told → (c : Checked) × (slice_get checked k ≡ Some c) × (rule_told labels (n + k) c ≡ told)
told_at labels n [] k told e = absurd cc
told_at labels n (c ∷ checked) zero told e = (let same : n + 0 ≡ n = omega arith in (c, refl, ap (λ i. rule_told labels i c) same ∙ cc))
told_at labels n (c ∷ checked) (suc k) told e =
    let later = told_at labels (suc n) checked k told e in
    let same : n + suc k ≡ suc n + k = omega arith in
    (later.0, later.1, ap (λ i. rule_told labels i later.0) same ∙ later.2)

pub told_count : (labels : Bool) (n : ℕ) (checked : List Checked) → length (rules_told labels n checked) ≡ length checked
told_count labels n [] = refl
told_count labels n (c ∷ checked) = ap (λ k. suc k) (told_count labels (suc n) checked)
