-- Nodes that are closed one after another.
use Rattle.std.proofs.Common.{◌≡◌, ℕ, ◌<◌, ◌+◌, List, [], ◌∷◌, length, take, get_or, inl, inr, sym, ◌∙◌, ap, subst, arith}
use Rattle.std.specs.Prelude.{slice_set}
use Rattle.std.specs.List.{Contains}
use Rattle.std.proofs.lemmas.Bool.{cases_eq}
use Rattle.std.proofs.lemmas.List.{get_or-set_other, get_or-set_same, length-set, take_more}
use Rattle.std.proofs.lemmas.List.Elements.{Contains-append_left, Contains-push, Contains-push_cases}
use Rattle.lf_graph.specs.views.Search.{IsClosing}
use Rattle.lf_graph.specs.declared.search.NodeState.{NodeState}
use Rattle.lf_graph.specs.declared.search.NodeState.TheVariants.{Unmet, Closed}

pub one_more : (number : ℕ) (members : List ℕ) (nodes known later : List NodeState) (i : ℕ) → i < length members → get_or members i 0 < length nodes →
    IsClosing number (take i members) nodes known → later ≡ slice_set known (get_or members i 0) (Closed number) → IsClosing number (take (i + 1) members) nodes later
one_more number members nodes known later i h within a e =
    let m : ℕ = get_or members i 0 in
    let count = a.count in
    let more = take_more members i 0 h in
    let same = ap (λ l. get_or l m Unmet) e ∙ get_or-set_same known m (Closed number) Unmet (omega (arith, within, count)) in
    let P : ℕ → List ℕ → Type 0 = λ u l. Contains l u in
    record {
      count = ap length e ∙ length-set known m (Closed number) ∙ count;
      closed = λ u c. elim (cases_eq u m) [
        | inl f ↦ ap (λ (k : ℕ). get_or later k Unmet) f ∙ same
        | inr n ↦ elim (Contains-push_cases (take i members) m u (subst (P u) more c)) [
          | inl b ↦ ap (λ l. get_or l u Unmet) e ∙ get_or-set_other known m u (Closed number) Unmet n ∙ a.closed u b
          | inr b ↦ absurd (n (sym b))
        ]
      ];
      kept = λ u none.
          let n : u ≡ m → ⊥ = λ f. none (let Q : ℕ → Type 0 = λ k. Contains (take (i + 1) members) k in subst Q (sym f) (subst (P m) (sym more) (Contains-push (take i members) m))) in
          ap (λ l. get_or l u Unmet) e ∙ get_or-set_other known m u (Closed number) Unmet n ∙ a.kept u (λ c. none (subst (P u) (sym more) (Contains-append_left (take i members) (m ∷ []) u c)));
    }
