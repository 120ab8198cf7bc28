use Rattle.std.proofs.Common.{◌≡◌, ◌↔◌, ◌<◌, ℕ, List, [], length, get_or, inl, inr, sym, subst, rules}
use Rattle.std.specs.List.{Contains}
use Rattle.std.proofs.lemmas.List.Sorted.{Contains-permutation, IsPermutation-sym}
use Rattle.std.proofs.lemmas.Map.Keys.{below_from_sorted}
use Rattle.lf_laws.proofs.Members.{none_in}
use Rattle.lf_graph.specs.views.Listing.{Adds}
use Rattle.lf_graph.proofs.ordered.in_order.Goals as goal

pub returns-clause-ascending : goal.returns-clause-ascending
returns-clause-ascending c =
    let P : List ℕ → Type 0 = λ found. (k l : ℕ) → k < l → l < length found → get_or found k 0 < get_or found l 0 in
    let keys : List ℕ = c.in_ok-set.set.keys in
    let same : c.from_vec-2.result ≡ keys = search rules in
    subst P (sym same) (λ k l h b. below_from_sorted keys k l 0 c.into_iter.ensures.into_iter_gives.4 h b)

pub returns-clause-same : goal.returns-clause-same
returns-clause-same c =
    let keys : List ℕ = c.in_ok-set.set.keys in
    let numbers : List ℕ = c.args.numbers.items in
    let A : List ℕ → Type 0 = λ l. Adds l [] keys in
    let adds = subst A c.as_slice-2.ensures.value c.in_ok-set.ensures in
    let P : List ℕ → Type 0 = λ l. (k : ℕ) → Contains l k ↔ Contains numbers k in
    let same : c.from_vec-2.result ≡ keys = search rules in
    let turned : List ℕ = c.reverse.new.self.items in
    let moved = c.reverse.ensures.permutation in
    let back : (k : ℕ) → Contains turned k → Contains numbers k = λ k. Contains-permutation turned numbers k (IsPermutation-sym numbers turned moved) in
    subst P (sym same) (λ k. (λ h. elim (adds.only k h) [ inl d ↦ absurd (none_in k d) | inr d ↦ back k d ], λ h. adds.all k (Contains-permutation numbers turned k moved h)))
