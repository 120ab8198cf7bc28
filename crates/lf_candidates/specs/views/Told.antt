-- What a search for a trial tells: how contracts see the code. It defines nothing.
use Rattle.std.specs.Prelude.{ℕ, List, Option, Some, None, refl}
use Rattle.std.specs.Coded.{Coded, code_by, coded×, coded_ℕ, coded_list}
use Rattle.std.specs.FinMap as map
use Rattle.lf_ast.specs.Labels.{Labels}
use Rattle.lf_trials.specs.Reached.{Trial}

-- a trial is stored as the pair of its fields
abbrev pub trial_code : Coded Trial
trial_code =
    code_by (List Labels × List ℕ) (coded× (coded_list (map.code (coded_list coded_ℕ) (coded_list coded_ℕ))) (coded_list coded_ℕ)) (λ t. (t.series, t.steps)) (λ p. record { series = p.0; steps = p.1 }) (λ _. refl)

-- a trial that is one of these, or none where there is none
abbrev pub AnswersFor : (Trial → Type 0) → Option Trial → Type 0
AnswersFor Is (Some trial) = Is trial
AnswersFor Is None = (trial : Trial) → Is trial → ⊥
