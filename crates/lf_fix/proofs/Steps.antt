-- A step of a rule that is dirty, and the rules that it makes dirty again.
use Rattle.std.proofs.Common.{◌≡◌, ℕ, ◌<◌, Bool, true, false, List, length, Some, None, ◌⊎◌, inl, inr, sym, ◌∙◌, subst}
use Rattle.std.specs.Prelude.{slice_get, slice_index_or, slice_set}
use Rattle.std.specs.List.{Contains}
use Rattle.std.proofs.lemmas.List.{get_or-set_other, get_or-set_same}
use Rattle.std.proofs.lemmas.Bool.{cases_eq, false_from_ne_true}
use Rattle.lf_laws.proofs.Booleans.{clash}
use Rattle.lf_laws.proofs.Slices.{one_at}
use Rattle.lf_ast.specs.Labels.{Bytes}
use Rattle.lf_ast.specs.Rules.{RuleTree}
use Rattle.lf_flow.specs.Raising.{joined}
use Rattle.lf_semantics.specs.Environments.{HoldsRule, IsEnvironmentOf, recorded_row}
use Rattle.lf_semantics.specs.Listing.{IsListing, Listing}
use Rattle.lf_semantics.specs.RowTable.{Environment}
use Rattle.lf_semantics.proofs.Members.{one_of}
use Rattle.lf_semantics.proofs.NormalizedRows.{recorded_row_is}
use Rattle.lf_deps.specs.Reading.{selectors}
use Rattle.lf_fix.specs.views.Dependents.{Index, IsIndexOf, IsListed, SelectsRow}
use Rattle.lf_fix.specs.views.Rounds.{OthersHold, StepTells, TellsOf}
use Rattle.lf_fix.proofs.Rounds.{has_row}
use Rattle.lf_fix.proofs.SameRows.{holds_own, holds_without}

module _ (u : Listing) (p : IsListing u) (rules : List RuleTree) (k : ℕ) (env : Environment) (of : IsEnvironmentOf u rules env) (dirty : List Bool) (hold : OthersHold u rules env dirty) where
  module _ (within : k < length dirty) (later : Environment) (added : Bool) (t : TellsOf u rules k env later added) where
    abbrev cleared : List Bool
    cleared = slice_set dirty k false

    -- no class was added
    pub step_same : added ≡ false → StepTells u rules k env later dirty cleared added
    step_same e = record {
      rises = t.rises;
      less = t.less;
      same = t.same;
      hold = λ j r is free.
          let P : Environment → Type 0 = λ x. HoldsRule u x r in
          subst P (sym (t.same e)) (elim (cases_eq j k) [
            | inl q ↦ let A : ℕ → Type 0 = λ i. slice_get rules i ≡ Some r in t.holds e r (subst A q is)
            | inr n ↦ hold j r is (sym (get_or-set_other dirty k j false true n) ∙ free)
          ]);
      done = λ f. get_or-set_same dirty k false true within;
      still = λ f j g. elim (cases_eq j k) [
        | inl q ↦ let A : ℕ → Type 0 = λ i. slice_index_or (slice_set dirty k false) i true ≡ false in subst A (sym q) (get_or-set_same dirty k false true within)
        | inr n ↦ get_or-set_other dirty k j false true n ∙ g
      ];
      again = λ j r rule at is c a. absurd (clash _ a c);
    }

    -- A class was added: each rule that selects the name is dirty again, and no other.
    module _ (rule : RuleTree) (is : slice_get rules k ≡ Some rule) (after : List Bool) (kept : (j : ℕ) → slice_index_or cleared j true ≡ true → slice_index_or after j true ≡ true)
        (marked : (j : ℕ) (r : RuleTree) → slice_get rules j ≡ Some r → SelectsRow r.expr rule.name → slice_index_or after j true ≡ true)
        (only : (j : ℕ) (r : RuleTree) → slice_get rules j ≡ Some r → slice_index_or after j true ≡ true → (slice_index_or cleared j true ≡ true) ⊎ SelectsRow r.expr rule.name) where
      free_before : (j : ℕ) → slice_index_or after j true ≡ false → slice_index_or cleared j true ≡ false
      free_before j free = false_from_ne_true (slice_index_or cleared j true) (λ e. clash _ (kept j e) free)

      pub step_added : added ≡ true → StepTells u rules k env later dirty after added
      step_added e =
          let j = t.joins e rule is in
          let P : Environment → Type 0 = λ x. OthersHold u rules x after in
          record {
            rises = t.rises;
            less = t.less;
            same = t.same;
            hold = subst P (sym j.1) (λ i r at free. elim (cases_eq i k) [
              | inl q ↦
                  let A : ℕ → Type 0 = λ x. slice_get rules x ≡ Some r in
                  let same : rule ≡ r = one_at rules k rule r is (subst A q at) in
                  let N : RuleTree → Type 0 = λ x. SelectsRow x.expr rule.name → ⊥ in
                  let H : RuleTree → Type 0 = λ x. HoldsRule u (joined rule.name (recorded_row u env rule) env) x in
                  let row = has_row u p rules env k rule of is j.0 in
                  subst H same (holds_own u p rules env of rule row.0 row.1 (subst N (sym same) (λ looks. clash _ (marked i r at looks) free)))
              | inr n ↦
                  holds_without u p rules env of rule.name (recorded_row u env rule) (recorded_row_is u p env of.environment rule) r (λ looks. clash _ (marked i r at looks) free)
                  (hold i r at (sym (get_or-set_other dirty k i false true n) ∙ free_before i free))
            ]);
            done = λ f. absurd (clash _ e f);
            still = λ f. absurd (clash _ e f);
            again = λ j r other at same c a. elim (only j r at a) [
              | inl t ↦ absurd (clash _ t c)
              | inr s ↦ let N : RuleTree → Type 0 = λ x. SelectsRow r.expr x.name in (e, subst N (one_at rules k rule other is same) s)
            ];
          }

-- a rule that selects a name is listed with it, or with those that select all
pub listed : (rules : List RuleTree) (index : Index) (j : ℕ) (r : RuleTree) (name : Bytes) → IsIndexOf rules index → slice_get rules j ≡ Some r → SelectsRow r.expr name → IsListed index j (Some name) ⊎ IsListed index j None
listed rules index j r name is at (inl c) = inl (one_of (IsListed index j) (selectors r.expr) (Some name) (is.all j r at) c)
listed rules index j r name is at (inr c) = inr (one_of (IsListed index j) (selectors r.expr) None (is.all j r at) c)

-- and one that is listed so selects it
pub selects : (rules : List RuleTree) (index : Index) (j : ℕ) (r : RuleTree) (name : Bytes) → IsIndexOf rules index → slice_get rules j ≡ Some r → IsListed index j (Some name) ⊎ IsListed index j None → SelectsRow r.expr name
selects rules index j r name is at (inl l) =
    let o = is.only j (Some name) l in
    let P : RuleTree → Type 0 = λ x. Contains (selectors x.expr) (Some name) in
    inl (subst P (one_at rules j o.0 r o.1 at) o.2)
selects rules index j r name is at (inr l) =
    let o = is.only j None l in
    let P : RuleTree → Type 0 = λ x. Contains (selectors x.expr) None in
    inr (subst P (one_at rules j o.0 r o.1 at) o.2)
