-- The uniform world: all scraped series have the same labels but for their names, and the rules that are read are evaluated over and over.
use Rattle.std.specs.Prelude.{◌≡◌, ◌≤◌, ℕ, Bool, true, false, not, ◌||◌, cond, min, List, ◌++◌, map, length, Option, Some, None, is_some, option_and_then, slice_get, option_to_list}
use Rattle.std.specs.List.{Contains, find, flat_map, list_all, range_with_len}
use Rattle.std.specs.Option.{option_map_or}
use Rattle.std.specs.Str.{bytes_eq}
use Rattle.lf_ast.specs.Labels.{Bytes, Labels}
use Rattle.lf_ast.specs.Rules.{RuleTree}
use Rattle.lf_ast.specs.Selectors.{metric}
use Rattle.lf_semantics.specs.Listing.{Listing, first_seen}
use Rattle.lf_deps.specs.Reading.{IsCyclic}
use Rattle.lf_trials.specs.Candidates.{candidates, has_presence, labels_in}
use Rattle.lf_trials.specs.Follow.{follow_from}
use Rattle.lf_trials.specs.Given.{Given, giving, label_set}
use Rattle.lf_trials.specs.Names.{is_scraped_name, name_for}
use Rattle.lf_trials.specs.Reached.{IsReach, Trial, with_reach}
use Rattle.lf_trials.specs.Selected.{Selected, selected_by}

-- a selector of one of the rules selects a recorded name that is read in its own making
abbrev pub SelectsCyclic : List RuleTree → List ℕ → Type 0
SelectsCyclic rules numbers = (s : Selected) × Contains (selected_by rules numbers) s × (name : Bytes) × (s.name ≡ Some name) × IsCyclic rules name

-- the rules in reach, in as many passes as there are of them, and in 8 at most
abbrev pub passes_over : List ℕ → List ℕ
passes_over reach = flat_map (λ pass. reach) (range_with_len 0 (min (length reach) 8))

-- the scraped name that a selector says
abbrev pub name_said : List RuleTree → Selected → Option Bytes
name_said rules s = option_and_then (λ name. cond (is_scraped_name rules name) (Some name) None) s.name

-- each label of the universe has a text
abbrev pub has_texts : Listing → Given → Bool
has_texts u D = list_all (λ name. is_some (D name)) (labels_in u)

module _ (u : Listing) (rules : List RuleTree) where
  -- texts

  -- a candidate is taken for a label if it can be followed through the rule's expression, and for the label in question if it then has the presence
  abbrev pub is_taken : ℕ → RuleTree → Bytes → Bool → Bytes → Bytes → Bool
  is_taken i r label presence name text = option_map_or (λ followed. not (bytes_eq name label) || has_presence presence followed) (follow_from u rules name text i r) false

  -- the first candidate that is taken
  abbrev pub uniform_texts : ℕ → RuleTree → Bytes → Bool → Given
  uniform_texts i r label presence name = find (is_taken i r label presence name) (candidates u name)

  -- series

  -- the name for a selector that says none
  abbrev pub name_unsaid : Selected → Option Bytes
  name_unsaid s = cond (is_some s.name) None (name_for u rules s.matchers)

  -- the names of the series, each once: those that are said, and then those for selectors that say none
  abbrev pub series_names : List Selected → List Bytes
  series_names selected = first_seen (flat_map (λ s. option_to_list (name_said rules s)) selected ++ flat_map (λ s. option_to_list (name_unsaid s)) selected)

  abbrev pub uniform_series : List Selected → Given → List Labels
  uniform_series selected D = map (λ name. label_set (labels_in u) (giving metric name D)) (series_names selected)

  -- The uniform world for a label and a presence. There is none where more than 256 rules are read, where a selector is of a name read in its own making, and where a
  -- label has no text.
  pub record IsUniform (i : ℕ) (label : Bytes) (presence : Bool) (trial : Trial) : Type 0 where
    pub rule : RuleTree
    pub is_rule : slice_get rules i ≡ Some rule
    pub reach : List ℕ
    pub is_reach : IsReach rules rule.expr reach
    pub few : length reach ≤ 256
    pub no_cycle : SelectsCyclic rules (with_reach i reach) → ⊥
    pub texts : has_texts u (uniform_texts i rule label presence) ≡ true
    pub is_trial : trial ≡ record { series = uniform_series (selected_by rules (with_reach i reach)) (uniform_texts i rule label presence); steps = passes_over reach }
