-- What a trial shows is so in a world of the relational evaluation: a label that is called possible has two of them, one with a sample that has it and one with a sample
-- that lacks it.
use Rattle.std.proofs.Common.{◌≡◌, ◌≢◌, inl, inr, ℕ, Bool, true, false, cond, List, [], ◌∷◌, Option, Some, None, is_some, sym, ap, subst, true≢false, slice_get, option_to_list}
use Rattle.std.specs.Prelude.{IfSome}
use Rattle.std.specs.List.{Contains, flat_map}
use Rattle.std.proofs.lemmas.List.Elements.{Contains-append_cases}
use Rattle.lf_laws.proofs.Members.{map_member, of_flat_map, true_same, same_true}
use Rattle.lf_laws.proofs.Slices.{member_at}
use Rattle.lf_ast.specs.Labels.{Bytes}
use Rattle.lf_ast.specs.Rules.{RuleTree}
use Rattle.lf_ast.specs.Selectors.{metric}
use Rattle.lf_semantics.specs.ClassRows.{Sets}
use Rattle.lf_semantics.specs.Listing.{IsListing, Listing}
use Rattle.lf_semantics.specs.RowTable.{Environment}
use Rattle.lf_semantics.specs.Texts.{Has, value_of}
use Rattle.lf_semantics.specs.Worlds.{AreScraped, IsSample, World}
use Rattle.lf_semantics.proofs.ListingLaws.{of_first_seen}
use Rattle.lf_trials.specs.Building.{Building}
use Rattle.lf_trials.specs.Built.{IsBuilt}
use Rattle.lf_trials.specs.Candidates.{has_presence, labels_in}
use Rattle.lf_trials.specs.Given.{Given, giving, label_set}
use Rattle.lf_trials.specs.Names.{name_for}
use Rattle.lf_witness.specs.StrictRuns.{rules_at}
use Rattle.lf_trials.specs.Reached.{Trial, with_reach}
use Rattle.lf_trials.specs.Trials.{IsFirstShown, Shown, Shows}
use Rattle.lf_trials.specs.Selected.{Selected, selected_by}
use Rattle.lf_trials.specs.Uniform.{IsUniform, name_said, name_unsaid, series_names, uniform_series, uniform_texts}
use Rattle.lf_trials.specs.Verdicts.{IsLabelVerdict, Possible}
use Rattle.lf_trials.proofs.BuiltSeries.{HasScraped, building_scraped, once_there}
use Rattle.lf_trials.proofs.MadeSeries.{IsScraped, IsScrapedName, made_is_scraped, named_for, said_is_scraped}
pub use Rattle.lf_trials.proofs.MadeSeries.{found_in}
use Rattle.lf_witness.proofs.RulesAt.{of_listed, rules_among}
use Rattle.lf_witness.proofs.StrictRunIsRun.{samples_behind}

module _ (u : Listing) (env : Environment) (rules : List RuleTree) (listing : IsListing u) where
  -- the series of trials are scraped

  unsaid_is_scraped : (s : Selected) (name : Bytes) → name_unsaid u rules s ≡ Some name → IsScrapedName rules name
  unsaid_is_scraped s name e = by (is_some s.name) e
    where
      by : (b : Bool) → cond b None (name_for u rules s.matchers) ≡ Some name → IsScrapedName rules name
      by true same = absurd (true≢false (sym (ap is_some same)))
      by false same = named_for u rules s.matchers name same

  name_is_scraped : (selected : List Selected) (name : Bytes) → Contains (series_names u rules selected) name → IsScrapedName rules name
  name_is_scraped selected name there =
      elim (Contains-append_cases (flat_map (λ s. option_to_list (name_said rules s)) selected) (flat_map (λ s. option_to_list (name_unsaid u rules s)) selected) name (of_first_seen _ name there)) [
        | inl said ↦ let from = of_flat_map (λ s. option_to_list (name_said rules s)) selected name said in said_is_scraped rules from.0.name name (of_listed (name_said rules from.0) name from.2)
        | inr unsaid ↦ let from = of_flat_map (λ s. option_to_list (name_unsaid u rules s)) selected name unsaid in unsaid_is_scraped from.0 name (of_listed (name_unsaid u rules from.0) name from.2)
      ]

  uniform_scraped : (selected : List Selected) (D : Given) → AreScraped rules (uniform_series u rules selected D)
  uniform_scraped selected D s there =
      let from = map_member (λ name. label_set (labels_in u) (giving metric name D)) (series_names u rules selected) s there in
      subst (IsScraped rules) (sym from.2) (made_is_scraped u rules listing from.0 D (name_is_scraped selected from.0 from.1))

  module _ (i : ℕ) (label : Bytes) (presence : Bool) where
    pub built_is_scraped : (t : Trial) → IsBuilt u env rules i label presence t → AreScraped rules t.series
    built_is_scraped t is s there =
        let all : AreScraped rules is.built.series = subst (λ (o : Option Building). IfSome o (HasScraped rules)) is.is_built (building_scraped u env rules listing is.holds_fork i is.rule label presence) in
        all s (once_there u env rules listing is.built.series s (subst (λ (v : Trial). Contains v.series s) is.is_trial there))

    pub uniform_is_scraped : (t : Trial) → IsUniform u rules i label presence t → AreScraped rules t.series
    uniform_is_scraped t is s there =
        uniform_scraped (selected_by rules (with_reach i is.reach)) (uniform_texts u rules i is.rule label presence) s (subst (λ (v : Trial). Contains v.series s) is.is_trial there)

    trial_is_scraped : (shown : Shown) → IsFirstShown u env rules i label presence shown → AreScraped rules shown.trial.series
    trial_is_scraped shown (inl built) = built_is_scraped shown.trial built.0
    trial_is_scraped shown (inr uniform) = uniform_is_scraped shown.trial uniform.1.0

    shows : (shown : Shown) → IsFirstShown u env rules i label presence shown → Shows rules i label presence shown
    shows shown (inl built) = built.1
    shows shown (inr uniform) = uniform.1.1

    -- a world with the series that are shown, in which the sample that is shown is one of the rule and has the presence
    pub record IsInWorld (shown : Shown) : Type 0 where
      pub world : World rules
      pub series : world.series ≡ shown.trial.series
      pub rule : RuleTree
      pub is_rule : slice_get rules i ≡ Some rule
      pub sample : IsSample world rule shown.sample
      pub present : has_presence presence (value_of shown.sample label) ≡ true

    pub shown_in_world : (shown : Shown) → IsFirstShown u env rules i label presence shown → IsInWorld shown
    shown_in_world shown first =
        let is = shows shown first in
        let trial = shown.trial in
        let found = found_in (λ s. has_presence presence (value_of s label)) is.samples shown.sample is.is_sample in
        let made = samples_behind rules trial.series (trial_is_scraped shown first) (rules_at rules trial.steps) (rules_among rules trial.steps) is.stored is.is_stored.0 is.rule is.samples (member_at rules i is.rule is.is_rule) is.are_samples.0 in
        record { world = made.0; series = made.1; rule = is.rule; is_rule = is.is_rule; sample = made.2 shown.sample found.0; present = found.1 }

-- presence and absence

pub is_there : (text : Bytes) → has_presence true text ≡ true → text ≢ []
is_there [] e = absurd (true≢false (sym e))
is_there (c ∷ text) e = λ empty. true≢false (sym (same_true (c ∷ text) [] empty))

pub is_lacking : (text : Bytes) → has_presence false text ≡ true → text ≡ []
is_lacking text e = true_same text [] e

-- a label that is called possible
module _ (u : Listing) (env : Environment) (rules : List RuleTree) (listing : IsListing u) (i : ℕ) (row : Sets) (label : Bytes) (with without : Shown) (possible : IsLabelVerdict u env rules i row label (Possible with without)) where
  pub is_with : (world : World rules) × (r : RuleTree) × (slice_get rules i ≡ Some r) × IsSample world r with.sample × Has with.sample label
  is_with = let is = shown_in_world u env rules listing i label true with possible.1 in (is.world, is.rule, is.is_rule, is.sample, is_there (value_of with.sample label) is.present)

  pub is_without : (world : World rules) × (r : RuleTree) × (slice_get rules i ≡ Some r) × IsSample world r without.sample × (value_of without.sample label ≡ [])
  is_without = let is = shown_in_world u env rules listing i label false without possible.2 in (is.world, is.rule, is.is_rule, is.sample, is_lacking (value_of without.sample label) is.present)
