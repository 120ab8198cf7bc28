-- What the code knows between two actions, in the words of the way of reading; it defines nothing.
use Rattle.std.specs.Prelude.{◌≡◌, ◌<◌, ◌≤◌, ℕ, length, drop, List, ◌∷◌, reverse, Option, Result, Ok, Err}
use Rattle.lf_base.specs.declared.refusal.Refusal.{Refusal}
use Rattle.lf_templates.specs.declared.reference.Reference.{Reference}
use Rattle.lf_templates.specs.declared.state.TemplateState.{TemplateState}
use Rattle.lf_base.specs.Answers.{IfAt}
use Rattle.lf_base.specs.declared.fault.Fault.{Fault}
use Rattle.lf_templates.specs.Templates.{Action}
use Rattle.lf_templates.specs.reading.Templates.{outcome, acts_of}

-- the answer behind a state, with the actions to come
abbrev pub outcome_of : List ℕ → List ℕ → TemplateState → List Action → Option ℕ → Result (List Reference) Fault
outcome_of from text state later endless = outcome from text (reverse state.bodies) state.flaw state.renamed state.found later endless

-- An action leads from a state to another, or to a refusal, whatever comes behind it.
abbrev pub Steps : List ℕ → List ℕ → TemplateState → Action → Result TemplateState Refusal → Type 0
Steps from text old a (Ok new) = (later : List Action) (endless : Option ℕ) → outcome_of from text old (a ∷ later) endless ≡ outcome_of from text new later endless
Steps from text old a (Err refusal) = IfAt refusal (λ f. (later : List Action) (endless : Option ℕ) → outcome_of from text old (a ∷ later) endless ≡ Err f)

-- the answer behind a state, with the rest of the text to come, which begins at an offset
abbrev pub answer_at : List ℕ → List ℕ → TemplateState → ℕ → Result (List Reference) Fault
answer_at from text state at = let acts = acts_of at 0 (drop at text) in outcome_of from text state acts.actions acts.endless

-- A part of the text leads from a state at an offset to another at one further on, or to a refusal.
abbrev pub Advances : List ℕ → List ℕ → TemplateState → ℕ → Result (TemplateState × ℕ) Refusal → Type 0
Advances from text state at (Ok next) = (answer_at from text state at ≡ answer_at from text next.0 next.1) × (at < next.1) × (next.1 ≤ length text)
Advances from text state at (Err refusal) = IfAt refusal (λ f. answer_at from text state at ≡ Err f)
