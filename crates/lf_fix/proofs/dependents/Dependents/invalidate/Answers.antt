use Rattle.std.proofs.Common.{ℕ, List, [], get_or, Some, None, inl, inr, sym, subst}
use Rattle.std.specs.List.{Contains}
use Rattle.lf_fix.specs.views.Dependents.{Index, IsListed}
use Rattle.lf_fix.proofs.dependents.Dependents.invalidate.Goals as goal

pub returns-clause-named : goal.returns-clause-named
returns-clause-named c k l =
    let P : Index → Type 0 = λ i. IsListed i k (Some c.args.name.now) in
    let Q : ℕ → Type 0 = λ j. Contains (get_or c.self.inside.of_name j []) k in
    let R : List ℕ → Type 0 = λ xs. Contains xs k in
    c.mark_all-2.ensures.marked k (subst R (sym c.at.ensures) (subst Q (sym c.place-place.ensures.place) (subst P (sym c.self.view_is) l)))

pub returns-clause-only : goal.returns-clause-only
returns-clause-only c k m =
    let N : Index → Type 0 = λ i. IsListed i k None in
    let P : Index → Type 0 = λ i. IsListed i k (Some c.args.name.now) in
    let Q : ℕ → Type 0 = λ j. Contains (get_or c.self.inside.of_name j []) k in
    let R : List ℕ → Type 0 = λ xs. Contains xs k in
    elim (c.mark_all-2.ensures.only k m) [
      | inl before ↦ elim (c.mark_all.ensures.only k before) [ inl old ↦ inl old | inr all ↦ inr (inr (subst N c.self.view_is (subst R c.as_slice.ensures all))) ]
      | inr here ↦ inr (inl (subst P c.self.view_is (subst Q c.place-place.ensures.place (subst R c.at.ensures here))))
    ]
