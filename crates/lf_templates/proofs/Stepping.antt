-- One action after another.
use Rattle.std.proofs.Common.{◌≡◌, ℕ, ◌+◌, Bool, ◌||◌, List, ◌∷◌, ◌++◌, Option, Some, None, Err, refl, ap, ◌∙◌}
use Rattle.lf_base.specs.declared.place.Span.{Span}
use Rattle.lf_templates.specs.declared.token.Word.{Word}
use Rattle.lf_templates.specs.declared.token.Lexeme.{Lexeme}
use Rattle.lf_templates.specs.declared.body.OpenBody.{OpenBody}
use Rattle.lf_templates.specs.declared.reference.Reference.{Reference}
use Rattle.lf_templates.specs.Source.{in_source}
use Rattle.lf_templates.specs.Actions.{tokens_of, first, sets_labels}
use Rattle.lf_templates.specs.Templates.{Action, word_of_action, references_at}
use Rattle.lf_templates.specs.reading.Templates.{outcome, closed_by, opened_by, is_hidden, is_bad_by, or_else, settled, or_settled, bad_action}

module _ (from text : List ℕ) (a : Action) (ts : List Lexeme) (word : Word) (span : Span) (bodies closed opened : List OpenBody) (flaw worst : Option Span) (renamed gone bad hidden : Bool) (found more : List Reference)
    (lexemes : ts ≡ a.lexemes)
    (head : word ≡ word_of_action a)
    (place : span ≡ in_source from a.start a.end)
    (closes : closed ≡ closed_by word bodies)
    (opens : opened ≡ opened_by word span closed)
    (judges : bad ≡ is_bad_by (first bodies) (tokens_of ts) word)
    (worsens : worst ≡ or_else flaw bad span)
    (renames : gone ≡ (renamed || sets_labels (tokens_of ts)))
    (hides : hidden ≡ (gone || is_hidden closed))
    (finds : more ≡ found ++ references_at from text hidden (a.start + 2) ts) where
  stepped : (later : List Action) (endless : Option ℕ) → outcome from text bodies flaw renamed found (a ∷ later) endless ≡ or_settled (settled opened worst) (outcome from text opened worst gone more later endless)
  unfolding outcome
  stepped later endless = rw (finds, hides, worsens, judges, renames, opens, closes, place, head, lexemes) refl

  pub steps_err : (flawed : Span) → settled opened worst ≡ Some flawed → (later : List Action) (endless : Option ℕ) → outcome from text bodies flaw renamed found (a ∷ later) endless ≡ Err (bad_action flawed)
  steps_err flawed e later endless = stepped later endless ∙ ap (λ (x : Option Span). or_settled x (outcome from text opened worst gone more later endless)) e

  pub steps_ok : settled opened worst ≡ None → (later : List Action) (endless : Option ℕ) → outcome from text bodies flaw renamed found (a ∷ later) endless ≡ outcome from text opened worst gone more later endless
  steps_ok e later endless = stepped later endless ∙ ap (λ (x : Option Span). or_settled x (outcome from text opened worst gone more later endless)) e
