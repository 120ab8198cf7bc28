use Rattle.std.proofs.Common.{◌≡◌, ap, sym, ◌∙◌, ◌||◌, List, get_or}
use Rattle.std.specs.Prelude.{reverse}
use Rattle.lf_base.specs.declared.place.Span.{Span}
use Rattle.lf_templates.specs.declared.token.Lexeme.{Lexeme}
use Rattle.lf_templates.specs.declared.body.OpenBody.{OpenBody}
use Rattle.lf_templates.specs.Source.{in_source}
use Rattle.lf_templates.specs.Actions.{first, tokens_of, head_of, word_at}
use Rattle.lf_templates.specs.Templates.{word_of_action}
use Rattle.lf_templates.specs.reading.Templates.{action_at, is_bad_by, is_hidden, settled}
use Rattle.lf_templates.proofs.Stepping.{steps_err, steps_ok}
use Rattle.lf_templates.proofs.state.step.Goals as goal

pub returns-in-Some : goal.returns-in-Some
returns-in-Some c =
    let a = action_at c.args.start c.args.action.now.tokens.items in
    let ts = c.as_slice-tokens.result.now in
    let lexemes : ts ≡ a.lexemes = c.as_slice-tokens.ensures.value in
    let word = c.word_at-word.result in
    let head : word ≡ word_of_action a = c.word_at-word.ensures ∙ ap word_at c.head-head.ensures ∙ ap (λ (x : List Lexeme). word_at (head_of (tokens_of x))) lexemes in
    let span : Span = record { start = get_or c.args.from.now c.args.start 0; end = get_or c.args.from.now c.args.action.now.end 0 } in
    let place : span ≡ in_source c.args.from.now a.start a.end = ap (in_source c.args.from.now c.args.start) c.requires.end in
    let judges = c.is_bad-bad.ensures ∙ ap (λ (x : List OpenBody). is_bad_by (first (reverse x)) (tokens_of ts) word) c.as_slice.ensures in
    let hides = c.is_hidden-hidden.ensures ∙ ap (λ (x : List OpenBody). c.sets_anew-renamed.result || is_hidden (reverse x)) c.as_slice-2.ensures in
    let told = sym (ap (λ (x : List OpenBody). settled (reverse x) c.or_else-flaw.result) c.as_slice-3.ensures) ∙ sym c.settled.ensures ∙ c.in-Some.is in
    steps_err c.args.from.now c.args.text.now a ts word span (reverse c.args.state.bodies) (reverse c.close_by.new.bodies) (reverse c.open_by.new.bodies) c.args.state.flaw c.or_else-flaw.result c.args.state.renamed c.sets_anew-renamed.result c.is_bad-bad.result c.is_hidden-hidden.result c.args.state.found c.push_references.new.found
    lexemes head place c.close_by.ensures c.in_ok-open_by.ensures judges c.or_else-flaw.ensures c.sets_anew-renamed.ensures hides c.in_ok-push_references.ensures c.in-Some.span told

pub returns-in-None : goal.returns-in-None
returns-in-None c =
    let a = action_at c.args.start c.args.action.now.tokens.items in
    let ts = c.as_slice-tokens.result.now in
    let lexemes : ts ≡ a.lexemes = c.as_slice-tokens.ensures.value in
    let word = c.word_at-word.result in
    let head : word ≡ word_of_action a = c.word_at-word.ensures ∙ ap word_at c.head-head.ensures ∙ ap (λ (x : List Lexeme). word_at (head_of (tokens_of x))) lexemes in
    let span : Span = record { start = get_or c.args.from.now c.args.start 0; end = get_or c.args.from.now c.args.action.now.end 0 } in
    let place : span ≡ in_source c.args.from.now a.start a.end = ap (in_source c.args.from.now c.args.start) c.requires.end in
    let judges = c.is_bad-bad.ensures ∙ ap (λ (x : List OpenBody). is_bad_by (first (reverse x)) (tokens_of ts) word) c.as_slice.ensures in
    let hides = c.is_hidden-hidden.ensures ∙ ap (λ (x : List OpenBody). c.sets_anew-renamed.result || is_hidden (reverse x)) c.as_slice-2.ensures in
    let told = sym (ap (λ (x : List OpenBody). settled (reverse x) c.or_else-flaw.result) c.as_slice-3.ensures) ∙ sym c.settled.ensures ∙ c.in-None.is in
    steps_ok c.args.from.now c.args.text.now a ts word span (reverse c.args.state.bodies) (reverse c.close_by.new.bodies) (reverse c.open_by.new.bodies) c.args.state.flaw c.or_else-flaw.result c.args.state.renamed c.sets_anew-renamed.result c.is_bad-bad.result c.is_hidden-hidden.result c.args.state.found c.push_references.new.found
    lexemes head place c.close_by.ensures c.in_ok-open_by.ensures judges c.or_else-flaw.ensures c.sets_anew-renamed.ensures hides c.in_ok-push_references.ensures told
