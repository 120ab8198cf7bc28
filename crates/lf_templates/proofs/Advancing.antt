-- From one piece of a text to the next.
use Rattle.std.proofs.Common.{◌≡◌, ℕ, ◌+◌, ◌<◌, ◌≤◌, Bool, true, false, List, [], ◌∷◌, Some, None, Result, Ok, Err, length, get_or, drop, refl, ap, arith, sym, ◌∙◌, subst, add-one, drop-cons, length-drop}
use Rattle.std.specs.Prelude.{reverse}
use Rattle.std.proofs.lemmas.List.{drop-drop}
use Rattle.lf_base.specs.declared.refusal.Refusal.{Refusal}
use Rattle.lf_base.specs.declared.refusal.Refusal.TheVariants.{At, Memory}
use Rattle.lf_templates.specs.declared.token.TokenContext.TheVariants as places
use Rattle.lf_templates.specs.declared.token.Lexeme.{Lexeme}
use Rattle.lf_templates.specs.declared.reference.Reference.{Reference}
use Rattle.lf_templates.specs.declared.state.TemplateState.{TemplateState}
use Rattle.lf_base.specs.Answers.{IfAt, Answers}
use Rattle.lf_base.specs.declared.fault.Fault.{Fault}
use Rattle.lf_templates.specs.Templates.{opens, Action}
use Rattle.lf_templates.specs.reading.Templates.{Acts, acts_of, before, action_at, total, lexed, outcome, ending, reading}
use Rattle.lf_templates.specs.views.Steps.{outcome_of, Steps, answer_at, Advances}
use Rattle.lf_templates.proofs.Outcomes.{outcome_judged}
use Rattle.lf_templates.proofs.Acts.{acts_end, acts_byte, acts_open, acts_action}

abbrev pub of_acts : List ℕ → List ℕ → TemplateState → Acts → Result (List Reference) Fault
of_acts from text state acts = outcome_of from text state acts.actions acts.endless

module _ (from text : List ℕ) (state : TemplateState) (at : ℕ) (lt : at < length text) where
  pub byte_advances : opens (drop at text) ≡ false → answer_at from text state at ≡ answer_at from text state (at + 1)
  byte_advances e =
      let split : drop at text ≡ get_or text at 0 ∷ drop (at + 1) text = rw (add-one, drop-cons text at 0) refl in
      ap (of_acts from text state) (ap (acts_of at 0) split ∙ acts_byte at (get_or text at 0) (drop (at + 1) text) (sym (ap opens split) ∙ e))

  pub open_stops : opens (drop at text) ≡ true → None ≡ lexed places.Start 0 (drop (at + 2) text) → answer_at from text state at ≡ ending from (reverse state.bodies) state.flaw state.found (Some at)
  unfolding outcome
  open_stops e f = ap (of_acts from text state) (acts_open at (drop at text) e (ap (lexed places.Start 0) (drop-drop 2 at text) ∙ sym f))

  module _ (ls : List Lexeme) (end : ℕ) (begins : opens (drop at text) ≡ true) (found : Some ls ≡ lexed places.Start 0 (drop (at + 2) text)) (ends : end ≡ at + (total ls + 4)) (within : end ≤ length text) where
    here : acts_of at 0 (drop at text) ≡ before (action_at at ls) (acts_of end 0 (drop end text))
    here =
        let l = length-drop at text in
        rw ends (acts_action at (drop at text) ls begins (ap (lexed places.Start 0) (drop-drop 2 at text) ∙ sym found) (omega arith) ∙ ap (λ (x : List ℕ). before (action_at at ls) (acts_of (at + (total ls + 4)) 0 x)) (drop-drop (total ls + 4) at text))

    pub action_advances : (next : TemplateState) → Steps from text state (action_at at ls) (Ok next) → answer_at from text state at ≡ answer_at from text next end
    action_advances next h = ap (of_acts from text state) here ∙ h (acts_of end 0 (drop end text)).actions (acts_of end 0 (drop end text)).endless

    pub action_stops : (refusal : Refusal) → Steps from text state (action_at at ls) (Err refusal) → IfAt refusal (λ f. answer_at from text state at ≡ Err f)
    action_stops Memory h = tt
    action_stops (At kind span) h = ap (of_acts from text state) here ∙ h (acts_of end 0 (drop end text)).actions (acts_of end 0 (drop end text)).endless

pub carried : (x y : Result (List Reference) Fault) → x ≡ y → (refusal : Refusal) → IfAt refusal (λ f. y ≡ Err f) → IfAt refusal (λ f. x ≡ Err f)
carried x y e Memory h = tt
carried x y e (At kind span) h = e ∙ h

pub after_is : (at : ℕ) (text bytes rest : List ℕ) → bytes ≡ text → rest ≡ drop at bytes → (t : Bool) → t ≡ opens rest → (u : Bool) → t ≡ u → opens (drop at text) ≡ u
after_is at text bytes rest e f t g u h = ap (λ (x : List ℕ). opens (drop at x)) (sym e) ∙ ap opens (sym f) ∙ sym g ∙ h

pub steps_as : (from text : List ℕ) (old : TemplateState) (a : Action) (r s : Result TemplateState Refusal) → r ≡ s → Steps from text old a r → Steps from text old a s
steps_as from text old a r s e h = subst (Steps from text old a) e h

-- ---- the whole

module _ (from text : List ℕ) (start state : TemplateState) (at : ℕ)
    (bodies : start.bodies ≡ []) (flaw : start.flaw ≡ None) (renamed : start.renamed ≡ false) (found : start.found ≡ [])
    (same : answer_at from text start 0 ≡ answer_at from text state at) where
  begins : answer_at from text start 0 ≡ reading from text
  begins =
      let acts = acts_of 0 0 text in
      let fresh : outcome_of from text start acts.actions acts.endless ≡ outcome from text [] None false [] acts.actions acts.endless = rw (bodies, flaw, renamed, found) refl in
      fresh ∙ outcome_judged from text acts.actions acts.endless

  pub refused : (refusal : Refusal) → IfAt refusal (λ f. answer_at from text state at ≡ Err f) → Answers (Err refusal) (reading from text)
  refused Memory h = tt
  refused (At kind span) h = sym begins ∙ same ∙ h

  pub finished : (r : Result (List Reference) Refusal) → Answers r (ending from (reverse state.bodies) state.flaw state.found None) → length text ≤ at → Answers r (reading from text)
  unfolding outcome
  finished r h le =
      let end : answer_at from text state at ≡ ending from (reverse state.bodies) state.flaw state.found None = ap (of_acts from text state) (acts_end at at text le) in
      subst (Answers r) (sym (sym begins ∙ same ∙ end)) h

pub advances_as : (from text : List ℕ) (state : TemplateState) (at : ℕ) (r s : Result (TemplateState × ℕ) Refusal) → r ≡ s → Advances from text state at r → Advances from text state at s
advances_as from text state at r s e h = subst (Advances from text state at) e h
