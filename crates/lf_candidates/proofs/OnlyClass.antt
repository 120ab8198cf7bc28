-- A class that is the only one that a row has of its label.
use Rattle.std.proofs.Common.{◌≡◌, ◌<◌, ℕ, Bool, true, false, not, ◌&&◌, ◌||◌, cond, eqb, [], get_or, length, refl, sym, ◌∙◌, arith, eq-eqb, true≢false}
use Rattle.std.proofs.lemmas.Bool.Decides.{Decides-eqb}
use Rattle.std.proofs.lemmas.List.Sums.{position_or_len_is}
use Rattle.lf_semantics.specs.ClassRows.{Sets, emptied, holds, is_live, narrowed, remade}
use Rattle.lf_semantics.specs.Environments.{Leq}
use Rattle.lf_semantics.proofs.RowLaws.{holds-remade, holds_within, length_remade}
use Rattle.lf_semantics.proofs.RowSets.{emptied_dead}
use Rattle.lf_candidates.specs.views.ClassTexts.{first_held}

module _ (row : Sets) (label class : ℕ) where
  abbrev pub test : ℕ → ℕ → Bool
  test l c = not (eqb label l) || eqb c class

  abbrev left : ℕ → ℕ → Bool → Bool
  left l c on = on && test l c

  module _ (live : is_live row ≡ true) (has : holds row label class ≡ true) (leq : Leq row (narrowed test row)) where
    alone : (j : ℕ) → holds row label j ≡ true → eqb j class ≡ true
    alone j held = by (is_live (remade left row)) (leq live).0 ((leq live).1 label j held)
      where
        within : (label < length row) × (j < length (get_or row label []))
        within = holds_within row label j held

        pick : (a b c : Bool) → a ≡ true → b ≡ true → (a && (not b || c)) ≡ true → c ≡ true
        pick true true c p q e = e
        pick true false c p q e = absurd (true≢false (sym q))
        pick false b c p q e = absurd (true≢false (sym p))

        by : (b : Bool) → is_live (cond b (remade left row) (emptied (remade left row))) ≡ true → holds (cond b (remade left row) (emptied (remade left row))) label j ≡ true → eqb j class ≡ true
        by true e k = pick (holds row label j) (eqb label label) (eqb j class) held (eq-eqb label label refl) (sym (holds-remade left row label j within.0 within.1) ∙ k)
        by false e k = absurd (true≢false (sym e ∙ emptied_dead (remade left row) (omega (arith, within.0, length_remade left row))))

    none_before : (j : ℕ) → j < class → holds row label j ≡ false
    none_before j before = by (holds row label j) refl
      where
        by : (b : Bool) → holds row label j ≡ b → b ≡ false
        by true held = (let same : j ≡ class = (Decides-eqb j class).0 (alone j held) in absurd (omega (arith, same, before)))
        by false e = refl

    pub first_is : class ≡ first_held row label
    first_is = sym (position_or_len_is (λ (on : Bool). on) (get_or row label []) class false (omega (arith, (holds_within row label class has).1)) none_before (λ less. has))
