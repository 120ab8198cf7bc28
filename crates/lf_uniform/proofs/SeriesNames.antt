-- Names of series, rule by rule.
use Rattle.std.proofs.Common.{◌≡◌, ◌<◌, ◌+◌, ℕ, Bool, true, false, cond, get_or, take, List, [], ◌∷◌, ◌++◌, map, length, Option, Some, None, refl, sym, ◌∙◌, ap, option_to_list}
use Rattle.std.specs.Prelude.{slice_get, option_and_then}
use Rattle.std.specs.List.{flat_map}
use Rattle.std.proofs.lemmas.Grind.{flat_map-append}
use Rattle.std.proofs.lemmas.List.{append-nil, append_assoc, take_more}
use Rattle.lf_ast.specs.Labels.{Bytes}
use Rattle.lf_ast.specs.Rules.{RuleTree}
use Rattle.lf_ast.specs.Tree.{Tree}
use Rattle.lf_classes.proofs.Seen.{first_seen-push}
use Rattle.lf_deps.specs.Reading.{selectors}
use Rattle.lf_semantics.specs.Listing.{Listing, first_seen}
use Rattle.lf_trials.specs.Names.{is_scraped_name}
use Rattle.lf_witness.specs.StrictRuns.{rules_at}
use Rattle.lf_trials.specs.Selected.{Selected, selected_by, selectors_of}
use Rattle.lf_trials.specs.Uniform.{name_said, name_unsaid, series_names}
use Rattle.lf_trials.proofs.SelectedNames.{same_selectors}
use Rattle.lf_uniform.specs.views.Naming.{said_all, said_by, said_one, unsaid_by, unsaid_in, with_each}
use Rattle.lf_uniform.specs.views.NamingVisits.{each_append}

-- texts each once, in the order in which they come first
seen_from : (xs ys : List Bytes) → with_each (first_seen ys) xs ≡ first_seen (ys ++ xs)
seen_from [] ys = ap first_seen (sym (append-nil ys))
seen_from (x ∷ xs) ys = ap (λ (s : List Bytes). with_each s xs) (sym (first_seen-push ys x)) ∙ seen_from xs (ys ++ x ∷ []) ∙ ap first_seen (append_assoc ys (x ∷ []) xs)

pub all_seen : (xs : List Bytes) → with_each [] xs ≡ first_seen xs
all_seen xs = seen_from xs []

module _ (u : Listing) (rules : List RuleTree) where
  said_is : (o : Option Bytes) → option_to_list (option_and_then (λ name. cond (is_scraped_name rules name) (Some name) None) o) ≡ said_one rules o
  said_is None = refl
  said_is (Some name) = by (is_scraped_name rules name)
    where
      by : (b : Bool) → option_to_list (cond b (Some name) None) ≡ cond b (name ∷ []) []
      by true = refl
      by false = refl

  said_names : (selected : List Selected) → said_all rules selected ≡ said_by rules (map (λ s. s.name) selected)
  said_names [] = refl
  said_names (s ∷ selected) = ap (λ (l : List Bytes). l ++ said_all rules selected) (said_is s.name) ∙ ap (λ (l : List Bytes). said_one rules s.name ++ l) (said_names selected)

  said_of : (e : Tree) → said_all rules (selectors_of e) ≡ said_by rules (selectors e)
  said_of e = said_names (selectors_of e) ∙ ap (said_by rules) (same_selectors e)

  -- one more rule
  one_more : (numbers : List ℕ) (k : ℕ) (r : RuleTree) → k < length numbers → slice_get rules (get_or numbers k 0) ≡ Some r → selected_by rules (take (k + 1) numbers) ≡ selected_by rules (take k numbers) ++ selectors_of r.expr
  one_more numbers k r less at =
      ap (selected_by rules) (take_more numbers k 0 less)
      ∙ ap (flat_map (λ (q : RuleTree). selectors_of q.expr)) (flat_map-append (λ j. option_to_list (slice_get rules j)) (take k numbers) (get_or numbers k 0 ∷ []))
      ∙ flat_map-append (λ (q : RuleTree). selectors_of q.expr) (rules_at rules (take k numbers)) (rules_at rules (get_or numbers k 0 ∷ []))
      ∙ ap (λ (o : Option RuleTree). selected_by rules (take k numbers) ++ flat_map (λ (q : RuleTree). selectors_of q.expr) (option_to_list o ++ [])) at
      ∙ ap (λ (l : List Selected). selected_by rules (take k numbers) ++ l) (append-nil (selectors_of r.expr))

  pub said_more : (numbers : List ℕ) (k : ℕ) (r : RuleTree) (names : List Bytes) → k < length numbers → slice_get rules (get_or numbers k 0) ≡ Some r → names ≡ with_each [] (said_all rules (selected_by rules (take k numbers)))
      → with_each names (said_by rules (selectors r.expr)) ≡ with_each [] (said_all rules (selected_by rules (take (k + 1) numbers)))
  said_more numbers k r names less at are =
      ap (λ (ns : List Bytes). with_each ns (said_by rules (selectors r.expr))) are
      ∙ sym (each_append (said_all rules (selected_by rules (take k numbers))) [] (said_by rules (selectors r.expr)))
      ∙ ap (λ (l : List Bytes). with_each [] (said_all rules (selected_by rules (take k numbers)) ++ l)) (sym (said_of r.expr))
      ∙ ap (with_each []) (sym (flat_map-append (λ s. option_to_list (name_said rules s)) (selected_by rules (take k numbers)) (selectors_of r.expr)))
      ∙ ap (λ (s : List Selected). with_each [] (said_all rules s)) (sym (one_more numbers k r less at))

  pub unsaid_more : (numbers : List ℕ) (k : ℕ) (r : RuleTree) (start names : List Bytes) → k < length numbers → slice_get rules (get_or numbers k 0) ≡ Some r → names ≡ with_each start (unsaid_by u rules (selected_by rules (take k numbers)))
      → with_each names (unsaid_in u rules r.expr) ≡ with_each start (unsaid_by u rules (selected_by rules (take (k + 1) numbers)))
  unsaid_more numbers k r start names less at are =
      ap (λ (ns : List Bytes). with_each ns (unsaid_in u rules r.expr)) are
      ∙ sym (each_append (unsaid_by u rules (selected_by rules (take k numbers))) start (unsaid_in u rules r.expr))
      ∙ ap (with_each start) (sym (flat_map-append (λ s. option_to_list (name_unsaid u rules s)) (selected_by rules (take k numbers)) (selectors_of r.expr)))
      ∙ ap (λ (s : List Selected). with_each start (unsaid_by u rules s)) (sym (one_more numbers k r less at))

  pub names_are : (selected : List Selected) (names : List Bytes) → names ≡ with_each (with_each [] (said_all rules selected)) (unsaid_by u rules selected) → names ≡ series_names u rules selected
  names_are selected names are = are ∙ sym (each_append (said_all rules selected) [] (unsaid_by u rules selected)) ∙ all_seen (said_all rules selected ++ unsaid_by u rules selected)
