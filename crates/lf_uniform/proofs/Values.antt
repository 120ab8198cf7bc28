-- What is told of the names in line, one after another.
use Rattle.std.proofs.Common.{◌≡◌, ◌<◌, inl, inr, ℕ, ◌+◌, List, [], ◌∷◌, ◌++◌, get_or, length, Some, None, sym, ◌∙◌, ap, subst, arith, length-append}
use Rattle.std.specs.Prelude.{slice_get}
use Rattle.std.specs.Option.{option_map}
use Rattle.std.proofs.lemmas.Bool.{cases_lt}
use Rattle.std.proofs.lemmas.List.{get_or-append-add, get_or_append_left, take-append-le, take_all}
use Rattle.std.proofs.lemmas.Option.{slice_get_within}
use Rattle.lf_ast.specs.Labels.{Bytes}
use Rattle.lf_ast.specs.Rules.{RuleTree}
use Rattle.lf_semantics.specs.Listing.{Listing}
use Rattle.lf_trials.specs.Follow.{Followed, follow, recorded_text}
use Rattle.lf_semantics.specs.Environments.{records}
use Rattle.lf_uniform.specs.views.Following.{known_by}
use Rattle.lf_uniform.specs.views.Lines.{AreEntries, AreValuesBefore, Line, ValueAt}
use Rattle.lf_uniform.proofs.Sound.{found_rule}

-- what stands in line are rules
pub entry_rule : (rules : List RuleTree) (line : Line) → AreEntries rules line → (j : ℕ) → j < length line.numbers → get_or line.numbers j 0 < length rules
entry_rule rules line entries j less =
    let entry = entries.each j (omega (arith, less, entries.count)) in
    let found = found_rule (λ k r. records (get_or line.names j []) r) 0 rules (get_or line.numbers j 0) entry.rule entry.first in
    let w = slice_get_within rules found.place entry.rule found.is in
    omega (arith, found.at, w)

module _ (u : Listing) (rules : List RuleTree) (label given : Bytes) (line : Line) where
  -- one more
  pub one_value : (count : ℕ) (values : List Followed) (text : Followed) → AreValuesBefore u rules label given line count values
      → ((r : RuleTree) → slice_get rules (get_or line.numbers count 0) ≡ Some r → text ≡ option_map (recorded_text label r) (follow u rules label given (known_by line.names values) r.expr))
      → AreValuesBefore u rules label given line (count + 1) (values ++ text ∷ [])
  one_value count values text are own = record {
    count_is = let m = length-append values (text ∷ []) in omega (arith, m, are.count_is);
    each = λ j less. elim (cases_lt j count) [
      | inl front ↦ λ r at.
          get_or_append_left values (text ∷ []) None j (omega (arith, front, are.count_is)) ∙ are.each j front r at
          ∙ ap (λ (vs : List Followed). option_map (recorded_text label r) (follow u rules label given (known_by line.names vs) r.expr)) (sym (take-append-le j values (text ∷ []) (omega (arith, front, are.count_is))))
      | inr last ↦
          let same : count ≡ j = omega (arith, last, less) in
          subst (ValueAt u rules label given line (values ++ text ∷ [])) same
          (λ r at.
          let end : length values + 0 ≡ count = omega (arith, are.count_is) in
          ap (λ i. get_or (values ++ text ∷ []) i None) (sym end) ∙ get_or-append-add values (text ∷ []) 0 None ∙ own r at
          ∙ ap (λ (vs : List Followed). option_map (recorded_text label r) (follow u rules label given (known_by line.names vs) r.expr))
          (sym (take-append-le count values (text ∷ []) (omega (arith, are.count_is)) ∙ take_all count values (omega (arith, are.count_is)))))
    ];
  }
