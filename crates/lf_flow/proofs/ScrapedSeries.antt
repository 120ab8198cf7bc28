-- The row of all scraped series, which is made once for many environments of the same names.
use Rattle.std.proofs.Common.{◌≡◌, not, ◌&&◌, eqb, List, Option, Some, None, IfSome, sym, ◌∙◌, ap, subst}
use Rattle.std.specs.List.{list_any}
use Rattle.std.specs.Option.{option_copied}
use denote.Ref.{Bor}
use Rattle.lf_ast.specs.Labels.{Bytes}
use Rattle.lf_semantics.specs.ClassRows.{Sets, replaced, top}
use Rattle.lf_semantics.specs.Listing.{Listing, class_of}
use Rattle.lf_semantics.specs.RowTable.{Environment, is_metric_label, scraped_row}
use Rattle.lf_flow.specs.Reads.{names_of}
use Rattle.lf_flow.proofs.Selected.{recorded_test}

module _ (u : Listing) where
  abbrev of_names : List Bytes → Sets
  of_names names = replaced (is_metric_label u) (λ label class. not (eqb class 0) && not (list_any (λ (name : Bytes). eqb (class_of u label name) class) names)) (top u)

  scraped_by_names : (env : Environment) → of_names (names_of env) ≡ scraped_row u env
  scraped_by_names env = λ i. replaced (is_metric_label u) (λ label class. not (eqb class 0) && not (recorded_test u env label class i)) (top u)

  -- it depends on the names alone
  pub scraped_same : (env other : Environment) → names_of env ≡ names_of other → scraped_row u env ≡ scraped_row u other
  scraped_same env other same = sym (scraped_by_names env) ∙ ap of_names same ∙ scraped_by_names other

-- what holds of a value that may be there holds of it as it is lent
pub when_lent : {X : Type 0} (P : X → Type 0) (own : Option X) (lent : Option (Bor X)) → option_copied lent ≡ own → IfSome own P → IfSome lent (λ x. P x.now)
when_lent P own None is h = tt
when_lent {X = X} P own (Some x) is h = subst (λ (o : Option X). IfSome o P) (sym is) h
