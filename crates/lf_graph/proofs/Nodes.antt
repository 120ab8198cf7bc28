-- What is known of nodes, and the work that is left.
use Rattle.std.proofs.Common.{◌≡◌, ℕ, zero, suc, ◌<◌, ◌+◌, ◌⊎◌, List, [], ◌∷◌, length, get_or, inl, inr, refl, sym, ◌∙◌, ap, arith}
use Rattle.std.specs.Prelude.{slice_set}
use Rattle.lf_graph.specs.views.Search.{number_in, to_come, weight}
use Rattle.lf_graph.specs.declared.search.NodeState.{NodeState}
use Rattle.lf_graph.specs.declared.search.NodeState.TheVariants.{Unmet, Open, Closed}

abbrev place_in : NodeState → ℕ
place_in (Open p) = p
place_in (Closed c) = 0
place_in Unmet = 0

abbrev which : NodeState → ℕ
which Unmet = 0
which (Open p) = 1
which (Closed c) = 2

pub same_place : (p q : ℕ) → Open p ≡ Open q → p ≡ q
same_place p q e = ap place_in e

pub same_number : (c d : ℕ) → Closed c ≡ Closed d → c ≡ d
same_number c d e = ap number_in e

pub unmet_open : (n : NodeState) (p : ℕ) → n ≡ Unmet → n ≡ Open p → ⊥
unmet_open n p e f = let g = ap which (sym e ∙ f) in absurd (omega (arith, g))

pub unmet_closed : (n : NodeState) (c : ℕ) → n ≡ Unmet → n ≡ Closed c → ⊥
unmet_closed n c e f = let g = ap which (sym e ∙ f) in absurd (omega (arith, g))

pub open_closed : (n : NodeState) (p c : ℕ) → n ≡ Open p → n ≡ Closed c → ⊥
open_closed n p c e f = let g = ap which (sym e ∙ f) in absurd (omega (arith, g))

-- a node is in one of three states
pub states : (n : NodeState) → (n ≡ Unmet) ⊎ (((p : ℕ) × (n ≡ Open p)) ⊎ ((c : ℕ) × (n ≡ Closed c)))
states Unmet = inl refl
states (Open p) = inr (inl (p, refl))
states (Closed c) = inr (inr (c, refl))

pub same_weight : (n m : NodeState) → n ≡ m → weight n ≡ weight m
same_weight n m e = ap weight e

pub open_met : (n : NodeState) (p : ℕ) → n ≡ Open p → weight n ≡ 0
open_met n p e = ap weight e

pub closed_met : (n : NodeState) (c : ℕ) → n ≡ Closed c → weight n ≡ 0
closed_met n c e = ap weight e

pub unmet_not : (n : NodeState) → n ≡ Unmet → weight n ≡ 0 → ⊥
unmet_not n e f = let g = ap weight e in absurd (omega (arith, f, g))

-- what is yet to come of a node that is met is nothing
come_met : (n : NodeState) (nodes : List NodeState) (xs : List ℕ) (lists : List (List ℕ)) → weight n ≡ 0 → to_come (n ∷ nodes) (xs ∷ lists) ≡ to_come nodes lists
come_met Unmet nodes xs lists e = absurd (omega (arith, e))
come_met (Open p) nodes xs lists e = refl
come_met (Closed c) nodes xs lists e = refl

come_unmet : (n : NodeState) (nodes : List NodeState) (xs : List ℕ) (lists : List (List ℕ)) → n ≡ Unmet → to_come (n ∷ nodes) (xs ∷ lists) ≡ length xs + 2 + to_come nodes lists
come_unmet n nodes xs lists e = ap (λ (m : NodeState). to_come (m ∷ nodes) (xs ∷ lists)) e

-- once a node is met, its edges and a part are to come no more
pub come_less : (nodes : List NodeState) (lists : List (List ℕ)) (k : ℕ) (n : NodeState) → k < length nodes → k < length lists → get_or nodes k Unmet ≡ Unmet → weight n ≡ 0 →
    to_come (slice_set nodes k n) lists + length (get_or lists k []) + 2 ≡ to_come nodes lists
come_less [] lists k n h g e w = absurd (omega (arith, h))
come_less (m ∷ nodes) [] k n h g e w = absurd (omega (arith, g))
come_less (m ∷ nodes) (xs ∷ lists) zero n h g e w =
    let a = come_met n nodes xs lists w in
    let b = come_unmet m nodes xs lists e in
    omega (arith, a, b)
come_less (Unmet ∷ nodes) (xs ∷ lists) (suc k) n h g e w =
    let r = come_less nodes lists k n (omega (arith, h)) (omega (arith, g)) e w in
    omega (arith, r)
come_less (Open p ∷ nodes) (xs ∷ lists) (suc k) n h g e w = come_less nodes lists k n (omega (arith, h)) (omega (arith, g)) e w
come_less (Closed c ∷ nodes) (xs ∷ lists) (suc k) n h g e w = come_less nodes lists k n (omega (arith, h)) (omega (arith, g)) e w

-- where the same nodes are met the same is to come
pub come_same : (nodes later : List NodeState) (lists : List (List ℕ)) → length later ≡ length nodes →
    ((k : ℕ) → weight (get_or later k Unmet) ≡ weight (get_or nodes k Unmet)) → to_come later lists ≡ to_come nodes lists
come_same [] [] lists e w = refl
come_same [] (m ∷ later) lists e w = absurd (omega (arith, e))
come_same (n ∷ nodes) [] lists e w = absurd (omega (arith, e))
come_same (n ∷ nodes) (m ∷ later) [] e w = refl
come_same (n ∷ nodes) (m ∷ later) (xs ∷ lists) e w = first n m (w 0) (come_same nodes later lists (omega (arith, e)) (λ k. w (suc k)))
  where
    first : (a b : NodeState) → weight b ≡ weight a → to_come later lists ≡ to_come nodes lists → to_come (b ∷ later) (xs ∷ lists) ≡ to_come (a ∷ nodes) (xs ∷ lists)
    first Unmet Unmet f r = omega (arith, r)
    first Unmet (Open p) f r = absurd (omega (arith, f))
    first Unmet (Closed c) f r = absurd (omega (arith, f))
    first (Open p) b f r = come_met b later xs lists f ∙ r
    first (Closed c) b f r = come_met b later xs lists f ∙ r
