-- Texts that are completed by a row: where the row is empty, or a label is left without a text, there are none.
use Rattle.std.proofs.Common.{◌≡◌, ℕ, Bool, true, false, ◌&&◌, cond, List, Option, Some, None, sym, subst}
use Rattle.std.specs.Prelude.{is_some}
use Rattle.std.specs.List.{list_all}
use Rattle.lf_semantics.specs.ClassRows.{Sets, is_live}
use Rattle.lf_semantics.specs.Listing.{Listing}
use Rattle.lf_trials.specs.Candidates.{labels_in}
use Rattle.lf_trials.specs.Given.{Given, completed, completed_by}
use Rattle.lf_candidates.specs.views.ClassTexts.{Stands, StandsFor}

module _ (u : Listing) (row : Sets) (D : Given) where
  abbrev all_given : Bool
  all_given = list_all (λ name. is_some (completed_by u row D name)) (labels_in u)

  abbrev now : Bool → Bool → Option Given
  now live all = cond (live && all) (Some (completed_by u row D)) None

  pub of_empty : is_live row ≡ false → StandsFor u None (completed u row D)
  of_empty empty = subst (λ (b : Bool). StandsFor u None (now b all_given)) (sym empty) tt

  pub left_out : false ≡ all_given → StandsFor u None (completed u row D)
  left_out some = subst (λ (b : Bool). StandsFor u None (now (is_live row) b)) some (by (is_live row))
    where
      by : (live : Bool) → StandsFor u None (now live false)
      by true = tt
      by false = tt

  pub all_completed : (classes : List (Option ℕ)) → is_live row ≡ true → true ≡ all_given → Stands u classes (completed_by u row D) → StandsFor u (Some classes) (completed u row D)
  all_completed classes live all stands = subst (λ (b : Bool). StandsFor u (Some classes) (now b all_given)) (sym live) (subst (λ (b : Bool). StandsFor u (Some classes) (now true b)) all stands)
