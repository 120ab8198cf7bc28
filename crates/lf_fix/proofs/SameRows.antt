-- What a rule records stays the same where it doesn't select the row that is raised.
use Rattle.std.proofs.Common.{◌≡◌, Bool, true, false, cond, List, Option, Some, None, inl, inr, refl, sym, ◌∙◌, ap, subst}
use Rattle.std.specs.List.{Contains}
use Rattle.std.specs.Str.{bytes_eq}
use Rattle.lf_ast.specs.Labels.{Bytes}
use Rattle.lf_ast.specs.Rules.{RuleTree}
use Rattle.lf_flow.specs.Raising.{joined}
use Rattle.lf_semantics.specs.ClassRows.{Sets, join}
use Rattle.lf_semantics.specs.Environments.{HoldsRule, IsEnvironmentOf, IsRow, Leq, recorded_row}
use Rattle.lf_semantics.specs.Listing.{IsListing, Listing}
use Rattle.lf_semantics.specs.RowTable.{Environment, row_named}
use Rattle.lf_laws.proofs.Members.{other_false, same_true}
use Rattle.lf_semantics.proofs.Members.{all_of}
use Rattle.lf_semantics.proofs.NormalizedRows.{recorded_row_is}
use Rattle.lf_semantics.proofs.LeqLaws.{leq_refl, leq_trans, leq_join_left, leq_join_right}
use Rattle.lf_deps.specs.Reading.{selectors}
use Rattle.lf_flow.proofs.SameRows.{SameAt, recorded_same}
use Rattle.lf_fix.specs.views.Dependents.{SelectsRow}
use Rattle.lf_fix.proofs.Raising.{named_joined, others_joined}
use Rattle.lf_fix.proofs.Rounds.{one_named}

module _ (u : Listing) (p : IsListing u) (rules : List RuleTree) (env : Environment) (of : IsEnvironmentOf u rules env) (name : Bytes) (row : Sets) (is : IsRow u row) where
  -- what a rule records stays the same where it doesn't select the name that is raised
  same_without : (r : RuleTree) → (SelectsRow r.expr name → ⊥) → recorded_row u env r ≡ recorded_row u (joined name row env) r
  same_without r none = recorded_same u env (joined name row env) r (all_of (SameAt u env (joined name row env)) (selectors r.expr) at)
    where
      at : (o : Option Bytes) → Contains (selectors r.expr) o → SameAt u env (joined name row env) o
      at None c = absurd (none (inr c))
      at (Some n) c =
          let P : Bytes → Type 0 = λ x. Contains (selectors r.expr) (Some x) in
          sym (others_joined name row env n (other_false n name (λ e. none (inl (subst P e c)))))

  grown : (b : Bool) (old : Sets) → IsRow u old → Leq old (cond b (join old row) old)
  grown true old h = leq_join_left u old row h.0 is.0
  grown false old h = leq_refl old

  -- so its row lies in that of its name as before
  pub holds_without : (r : RuleTree) → (SelectsRow r.expr name → ⊥) → HoldsRule u env r → HoldsRule u (joined name row env) r
  holds_without r none h e =
      let k = h e in
      let P : Sets → Type 0 = λ x. Leq x (cond (bytes_eq r.name name) (join k.0 row) k.0) in (
        cond (bytes_eq r.name name) (join k.0 row) k.0,
        named_joined name row env r.name k.0 k.1,
        subst P (same_without r none) (leq_trans (recorded_row u env r) k.0 _ k.2 (grown (bytes_eq r.name name) k.0 (one_named (λ x. IsRow u x) env r.name k.0 of.environment.rows k.1))),
      )

-- and so it does where its own row was joined
pub holds_own : (u : Listing) (p : IsListing u) (rules : List RuleTree) (env : Environment) → IsEnvironmentOf u rules env → (r : RuleTree) (old : Sets) → row_named env r.name ≡ Some old → (SelectsRow r.expr r.name → ⊥)
    → HoldsRule u (joined r.name (recorded_row u env r) env) r
holds_own u p rules env of r old named none e =
    let row : Sets = recorded_row u env r in
    let own = recorded_row_is u p env of.environment r in
    let old_is = one_named (λ x. IsRow u x) env r.name old of.environment.rows named in
    let P : Sets → Type 0 = λ x. Leq x (join old row) in (
      join old row,
      named_joined r.name row env r.name old named ∙ ap (λ b. Some (cond b (join old row) old)) (same_true r.name r.name refl),
      subst P (same_without u p rules env of r.name row own r none) (leq_join_right u old row old_is.0 own.0),
    )
