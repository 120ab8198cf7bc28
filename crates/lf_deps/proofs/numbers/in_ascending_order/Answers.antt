use Rattle.std.proofs.Common.{◌↔◌, [], ℕ, List, inl, inr, sym, subst}
use Rattle.std.specs.List.{Contains}
use Rattle.lf_laws.specs.Ascending.{AreAscending}
use Rattle.lf_laws.proofs.Members.{none_in}
use Rattle.lf_graph.specs.views.Listing.{Adds}
use Rattle.lf_deps.proofs.numbers.in_ascending_order.Goals as goal

pub returns-then-are_ascending-clause-ascending : goal.returns-then-are_ascending-clause-ascending
returns-then-are_ascending-clause-ascending c = subst AreAscending c.as_slice.ensures (c.are_ascending.ensures c.if-are_ascending.true)

pub returns-then-are_ascending-clause-same : goal.returns-then-are_ascending-clause-same
returns-then-are_ascending-clause-same c k = (λ h. h, λ h. h)

pub returns-clause-same : goal.returns-clause-same
returns-clause-same c =
    let keys : List ℕ = c.in_ok-set.set.keys in
    let A : List ℕ → Type 0 = λ l. Adds l [] keys in
    let adds = subst A c.as_slice-2.ensures c.in_ok-set.ensures in
    let P : List ℕ → Type 0 = λ l. (k : ℕ) → Contains l k ↔ Contains c.args.numbers k in
    subst P (sym c.in_ok-sorted.ensures.members) (λ k. (λ h. elim (adds.only k h) [ inl d ↦ absurd (none_in k d) | inr d ↦ d ], λ h. adds.all k h))
