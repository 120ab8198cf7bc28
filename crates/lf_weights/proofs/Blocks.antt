-- The weights of what nodes reach, block by block.
use Rattle.std.proofs.Common.{◌≡◌, ◌≢◌, ℕ, zero, suc, ◌+◌, ◌*◌, ◌-◌, ◌<◌, ◌≤◌, min, Bool, true, false, cond, eqb, ◌||◌, List, [], ◌∷◌, length, take, drop, get_or, refl, sym, ◌∙◌, ap, ap₂, subst, inl, inr, true≢false, arith}
use Rattle.std.specs.Int.{bit_at}
use Rattle.std.specs.List.{Contains, list_any, range_with_len, sum_by}
use Rattle.std.proofs.lemmas.Bool.{cases_eq, cases_lt}
use Rattle.std.proofs.lemmas.Bool.Decides.{Decides-eqb}
use Rattle.std.proofs.lemmas.List.{get_or_default, get_or-drop, get_or-take, length-drop, length-take}
use Rattle.std.proofs.lemmas.List.Sums.{sum_by-cons}
use Rattle.std.proofs.lemmas.Nat.Bits.{bit_at-lt}
use Rattle.lf_laws.specs.Ascending.{AreAscending}
use Rattle.lf_laws.proofs.Members.{any_has, behind, here, same_sums, some_has}
use Rattle.lf_graph.specs.Components.{AreComponents, Components, number_of}
use Rattle.lf_graph.specs.Paths.{Leads}
use Rattle.lf_weights.specs.Weights.{AreReached, weight_of, weight_reached}
use Rattle.lf_weights.specs.views.Masks.{AreMasks, LeadsInto, mask_at, weight_in}
use Rattle.lf_weights.proofs.Nodes.{back, up}
use Rattle.lf_weights.proofs.Sums.{both_sums, of_range, sum_behind, sum_by_places, sum_more, sum_of_none}

-- the number is one of these
abbrev is_in : List ℕ → ℕ → Bool
is_in nodes v = list_any (eqb v) nodes

is_member : (nodes : List ℕ) (v : ℕ) → is_in nodes v ≡ true → Contains nodes v
is_member nodes v e =
    let found = some_has (eqb v) nodes e in
    let P : ℕ → Type 0 = λ k. Contains nodes k in
    subst P (sym ((Decides-eqb v found.0).0 found.2)) found.1

has_member : (nodes : List ℕ) (v : ℕ) → Contains nodes v → is_in nodes v ≡ true
has_member nodes v c = any_has (eqb v) nodes v c ((Decides-eqb v v).1 refl)

-- ---- the weights of nodes, as a sum over the first nodes

module _ (weights : List ℕ) where
  abbrev where_it_is : ℕ → ℕ → ℕ
  where_it_is x v = cond (eqb v x) 1 0 * get_or weights v 0

  abbrev where_one_is : List ℕ → ℕ → ℕ
  where_one_is nodes v = cond (is_in nodes v) 1 0 * get_or weights v 0

  other_by : (x v : ℕ) (b : Bool) → eqb v x ≡ b → v ≢ x → cond b 1 0 * get_or weights v 0 ≡ 0
  other_by x v true e other = absurd (other ((Decides-eqb v x).0 e))
  other_by x v false e other = omega arith

  same_by : (x v : ℕ) → v ≡ x → where_it_is x v ≡ get_or weights x 0
  same_by x v e = ap (λ (b : Bool). cond b 1 0 * get_or weights v 0) ((Decides-eqb v x).1 e) ∙ omega arith ∙ ap (λ (k : ℕ). get_or weights k 0) e

  before : (x n : ℕ) → n ≤ x → sum_by (where_it_is x) (range_with_len 0 n) ≡ 0
  before x n h = same_sums (where_it_is x) (λ v. 0) (range_with_len 0 n) (λ v there. let less = of_range n v there in other_by x v (eqb v x) refl (λ e. absurd (omega (arith, less, e, h)))) ∙ sum_of_none (λ (v : ℕ). 0) (range_with_len 0 n) (λ v. refl)

  alone : (x n : ℕ) → x < n → sum_by (where_it_is x) (range_with_len 0 n) ≡ get_or weights x 0
  alone x zero h = absurd (omega (arith, h))
  alone x (suc n) h =
      let i : suc n ≡ n + 1 = omega arith in
      let e = ap (λ (k : ℕ). sum_by (where_it_is x) (range_with_len 0 k)) i in
      let more = sum_more (where_it_is x) n in
      elim (cases_lt x n) [
        | inl less ↦
            let rest = alone x n less in
            let last = other_by x n (eqb n x) refl (λ f. absurd (omega (arith, f, less))) in
            omega (arith, e, more, rest, last)
        | inr most ↦
            let rest = before x n most in
            let last = same_by x n (omega (arith, most, h)) in
            omega (arith, e, more, rest, last)
      ]

  either_by : (a b : Bool) (n : ℕ) → (a ≡ true → b ≡ true → ⊥) → cond (a || b) 1 0 * n ≡ cond a 1 0 * n + cond b 1 0 * n
  either_by true true n never = absurd (never refl refl)
  either_by true false n never = omega arith
  either_by false b n never = omega arith

  pub whole_weight : (nodes : List ℕ) (n : ℕ) → AreAscending nodes → ((v : ℕ) → Contains nodes v → v < n) → sum_by (where_one_is nodes) (range_with_len 0 n) ≡ weight_of weights nodes
  whole_weight [] n ascending within = sum_of_none (where_one_is []) (range_with_len 0 n) (λ v. omega arith)
  whole_weight (x ∷ xs) n ascending within =
      let behind_it : Contains xs x → ⊥ = λ c. let less = ascending 0 (suc c.0) (omega arith) (omega (arith, c.1)) in absurd (omega (arith, less, get_or_default xs c.0 0 x c.1, c.2)) in
      let rest = whole_weight xs n (λ k l less most. ascending (suc k) (suc l) (omega (arith, less)) (omega (arith, most))) (λ v c. within v (behind x xs v c)) in
      let apart : (v : ℕ) → where_one_is (x ∷ xs) v ≡ where_it_is x v + where_one_is xs v = λ v. either_by (eqb v x) (is_in xs v) (get_or weights v 0)
      (λ is in_rest. let P : ℕ → Type 0 = λ k. Contains xs k in behind_it (subst P ((Decides-eqb v x).0 is) (is_member xs v in_rest))) in
      let sums = same_sums (where_one_is (x ∷ xs)) (λ v. where_it_is x v + where_one_is xs v) (range_with_len 0 n) (λ v there. apart v) in
      let both = both_sums (where_it_is x) (where_one_is xs) (range_with_len 0 n) in
      let one = alone x n (within x (here x xs)) in
      let all = sum_by-cons (λ v. get_or weights v 0) x xs in
      omega (arith, sums, both, one, rest, all)

  -- of what each node reaches the weights of the first nodes
  abbrev pub weight_before : (ℕ → List ℕ) → ℕ → ℕ
  weight_before reached m = sum_by (λ u. sum_by (where_one_is (reached u)) (range_with_len 0 m)) (range_with_len 0 (length weights))

  pub none_before : (reached : ℕ → List ℕ) → weight_before reached 0 ≡ 0
  none_before reached = sum_of_none (λ u. sum_by (where_one_is (reached u)) (range_with_len 0 0)) (range_with_len 0 (length weights)) (λ u. refl)

-- ---- block by block

module _ (edges : List (List ℕ)) (c : Components) (are : AreComponents edges c) (weights : List ℕ) (fits : length weights ≤ length edges) where
  numbers_long : length (take (length weights) c.numbers) ≡ length weights
  numbers_long = let long = length-take (length weights) c.numbers in omega (arith, long, are.numbered.nodes, fits)

  pub first_number_within : (k : ℕ) → Contains (take (length weights) c.numbers) k → k < length c.nexts
  first_number_within k there =
      let u : ℕ = there.0 in
      let less = there.1 in
      let is : get_or (take (length weights) c.numbers) u k ≡ number_of c.numbers u =
      get_or_default (take (length weights) c.numbers) u k 0 less ∙ get_or-take (length weights) c.numbers u 0 (omega (arith, less, numbers_long)) in
      let below = are.numbered.below u (omega (arith, less, numbers_long, fits)) in
      omega (arith, below, are.count, is, there.2)

  module _ (first : ℕ) where
    abbrev pub part : List ℕ
    part = take 64 (drop first weights)

    abbrev pub nodes : List ℕ
    nodes = take 64 (drop first (take (length weights) c.numbers))

    pub part_long : length part ≡ min 64 (length weights - first)
    part_long = length-take 64 (drop first weights) ∙ ap (min 64) (length-drop first weights)

    pub nodes_long : length nodes ≡ min 64 (length weights - first)
    nodes_long = length-take 64 (drop first (take (length weights) c.numbers)) ∙ ap (min 64) (length-drop first (take (length weights) c.numbers) ∙ ap (λ (n : ℕ). n - first) numbers_long)

    pub weight_is : (j : ℕ) → j < length part → get_or part j 0 ≡ get_or weights (first + j) 0
    weight_is j h = get_or-take 64 (drop first weights) j 0 (omega (arith, h, part_long)) ∙ get_or-drop first weights j 0

    module _ (begins : first ≤ length weights) where
      pub node_is : (j : ℕ) → j < length nodes → get_or nodes j 0 ≡ number_of c.numbers (first + j)
      node_is j h =
          get_or-take 64 (drop first (take (length weights) c.numbers)) j 0 (omega (arith, h, nodes_long))
          ∙ get_or-drop first (take (length weights) c.numbers) j 0
          ∙ get_or-take (length weights) c.numbers (first + j) 0 (omega (arith, h, nodes_long, begins))

      pub node_within : (j : ℕ) → j < length nodes → get_or nodes j 0 < length c.nexts
      node_within j h =
          let below = are.numbered.below (first + j) (omega (arith, h, nodes_long, begins, fits)) in
          let is = node_is j h in
          omega (arith, below, is, are.count)

  module _ (reached : ℕ → List ℕ) (found : AreReached edges (length weights) reached) where
    pub all_weights : weight_before weights reached (length weights) ≡ weight_reached weights reached
    all_weights = same_sums _ _ (range_with_len 0 (length weights)) (λ u there.
        let is = found u (of_range (length weights) u there) in
        whole_weight weights (reached u) (length weights) is.ascending (λ v c. ((is.members v).0 c).0))

    module _ (first : ℕ) (begins : first ≤ length weights) where
      pub next_begins : (more : ℕ) → more ≡ first + 64 → first + length (part first) ≡ min more (length weights)
      next_begins more e = let long = part_long first in omega (arith, long, begins, e)

      module _ (masks : List ℕ) (has : AreMasks (length c.nexts) (LeadsInto c.nexts (nodes first)) masks) where
        module _ (u : ℕ) (node : u < length weights) where
          abbrev mask : ℕ
          mask = mask_at masks (number_of c.numbers u)

          inside : number_of c.numbers u < length c.nexts
          inside = let below = are.numbered.below u (omega (arith, node, fits)) in omega (arith, below, are.count)

          leads : (j : ℕ) → j < length (part first) → bit_at mask j ≡ 1 → Contains (reached u) (first + j)
          leads j h e =
              let into = (has.bits (number_of c.numbers u) j inside).0 e in
              let long = part_long first in
              let v : first + j < length weights = omega (arith, h, long, begins) in
              ((found u node).members (first + j)).1 (
                v,
                back edges c are (number_of c.numbers u) (get_or (nodes first) j 0) u (first + j) into.1 (omega (arith, node, fits)) (omega (arith, v, fits)) refl (sym (node_is first begins j into.0)),
              )

          is_led : (j : ℕ) → j < length (part first) → Contains (reached u) (first + j) → bit_at mask j ≡ 1
          is_led j h there =
              let path = ((found u node).members (first + j)).0 there in
              let long = part_long first in
              let nodes_are = nodes_long first in
              let inside_it : j < length (nodes first) = omega (arith, h, long, nodes_are) in
              let P : ℕ → Type 0 = λ k. Leads c.nexts (number_of c.numbers u) k in
              (has.bits (number_of c.numbers u) j inside).1 (inside_it, subst P (sym (node_is first begins j inside_it)) (up edges c are u (first + j) (omega (arith, node, fits)) path.1))

          bit_by : (j : ℕ) (b : Bool) → j < length (part first) → is_in (reached u) (first + j) ≡ b → bit_at mask j ≡ cond b 1 0
          bit_by j true h e = is_led j h (is_member (reached u) (first + j) e)
          bit_by j false h e = elim (cases_eq (bit_at mask j) 1) [
            | inl is ↦ absurd (true≢false (sym (has_member (reached u) (first + j) (leads j h is)) ∙ e))
            | inr not ↦ let low = bit_at-lt mask j in zero_by (bit_at mask j) low not
          ]
            where
              zero_by : (n : ℕ) → n < 2 → (n ≡ 1 → ⊥) → n ≡ 0
              zero_by n less other = elim (cases_lt n 1) [ inl l ↦ omega (arith, l) | inr m ↦ absurd (other (omega (arith, m, less))) ]

          part_weight : weight_in mask (part first) ≡ sum_by (λ j. where_one_is weights (reached u) (first + j)) (range_with_len 0 (length (part first)))
          part_weight = same_sums _ _ (range_with_len 0 (length (part first))) (λ j there.
              let h = of_range (length (part first)) j there in
              ap₂ (λ (m n : ℕ). m * n) (bit_by j (is_in (reached u) (first + j)) h refl) (weight_is first j h))

        -- with the nodes of one block more
        pub one_block_more : weight_before weights reached first + sum_by (λ k. weight_in (mask_at masks k) (part first)) (take (length weights) c.numbers) ≡ weight_before weights reached (first + length (part first))
        one_block_more =
            let n : ℕ = length weights in
            let one : ℕ → ℕ → ℕ = λ u. where_one_is weights (reached u) in
            let over : ℕ → ℕ = λ u. sum_by (λ j. one u (first + j)) (range_with_len 0 (length (part first))) in
            let until : ℕ → ℕ = λ u. sum_by (one u) (range_with_len 0 first) in
            let places = sum_by_places (λ k. weight_in (mask_at masks k) (part first)) c.numbers 0 n (omega (arith, fits, are.numbered.nodes)) in
            let parts = same_sums (λ u. weight_in (mask_at masks (number_of c.numbers u)) (part first)) over (range_with_len 0 n) (λ u there. part_weight u (of_range n u there)) in
            let both = both_sums until over (range_with_len 0 n) in
            let all = same_sums (λ u. sum_by (one u) (range_with_len 0 (first + length (part first)))) (λ u. until u + over u) (range_with_len 0 n) (λ u there. sum_behind (one u) first (length (part first))) in
            omega (arith, places, parts, both, all)
