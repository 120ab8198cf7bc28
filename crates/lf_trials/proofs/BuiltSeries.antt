-- The series that are built are scraped ones.
use Rattle.std.proofs.Common.{inl, inr, ℕ, Bool, List, [], ◌∷◌, subst}
use Rattle.std.specs.Prelude.{IfSome}
use Rattle.std.specs.List.{Contains}
use Rattle.std.proofs.lemmas.List.Elements.{Contains-append_cases}
use Rattle.lf_laws.proofs.Members.{behind, first_or_behind, here, none_in, only_one}
use Rattle.lf_ast.specs.Labels.{Bytes, Labels}
use Rattle.lf_ast.specs.Rules.{RuleTree}
use Rattle.lf_ast.specs.Tree.{Tree}
use Rattle.lf_semantics.specs.Listing.{IsListing, Listing}
use Rattle.lf_semantics.specs.RowTable.{Environment}
use Rattle.lf_semantics.specs.Worlds.{AreScraped}
use Rattle.lf_semantics.proofs.Members.{of_filter}
use Rattle.lf_trials.specs.Building.{Building, each_once}
use Rattle.lf_trials.specs.Built.{building_of}
use Rattle.lf_trials.proofs.BuildingInvariants.{IsInvariant, building_keeps}
use Rattle.lf_trials.proofs.MadeSeries.{IsScraped, made_is_scraped}

-- each series is scraped
abbrev pub HasScraped : List RuleTree → Building → Type 0
HasScraped rules b = AreScraped rules b.series

stay_scraped : (u : Listing) (rules : List RuleTree) → IsListing u → IsInvariant u rules (HasScraped rules)
stay_scraped u rules listing = record {
  of_nothing = λ s there. absurd (none_in s there);
  of_series = λ name D is s there. subst (IsScraped rules) (only_one _ s there) (made_is_scraped u rules listing name D is);
  of_both = λ a b of_a of_b s there. elim (Contains-append_cases a.series b.series s there) [ inl before ↦ of_a s before | inr later ↦ of_b s later ];
  of_one_more = λ b is. is;
  of_step = λ k b less is. is;
}

module _ (u : Listing) (env : Environment) (rules : List RuleTree) (listing : IsListing u) where
  pub building_scraped : (holds_fork : Tree → Bool) (i : ℕ) (r : RuleTree) (label : Bytes) (presence : Bool) → IfSome (building_of u env rules holds_fork i r label presence) (HasScraped rules)
  building_scraped = building_keeps u env rules (HasScraped rules) (stay_scraped u rules listing)

  -- each of them once
  pub once_there : (xs : List Labels) (s : Labels) → Contains (each_once xs) s → Contains xs s
  once_there [] s there = there
  once_there (x ∷ xs) s there = elim (first_or_behind x _ s there) [
    | inl e ↦ subst (Contains (x ∷ xs)) e (here x xs)
    | inr later ↦ behind x xs s (once_there xs s (of_filter _ (each_once xs) s later).0)
  ]
