use Rattle.std.proofs.Common.{◌≡◌, ◌<◌, ℕ, zero, suc, ◌+◌, true, length, List, [], ◌∷◌, ◌++◌, inl, inr, get_or, take, sym, subst, arith}
use Rattle.std.specs.List.{Contains}
use Rattle.std.proofs.lemmas.Bool.{cases_lt}
use Rattle.std.proofs.lemmas.List.{take_all, take_more}
use Rattle.std.proofs.lemmas.List.Elements.{Contains-append_left, Contains-append_right}
use Rattle.lf_laws.proofs.Members.{here}
use Rattle.lf_fix.proofs.dependents.mark_all.Goals as goal

number_at : (xs : List ℕ) (i k : ℕ) → i < length xs → get_or xs i k ≡ k → k ≡ get_or xs i 0
number_at [] i k h f = absurd (omega arith)
number_at (y ∷ xs) zero k h f = sym f
number_at (y ∷ xs) (suc i) k h f = number_at xs i k (omega arith) f

pub loop-number-preserved : goal.loop-number-preserved
loop-number-preserved c =
    let numbers : List ℕ = c.args.numbers.now in
    let i : ℕ = c.loop-number.number-index in
    let one : ℕ = get_or numbers i 0 in
    let more : take i numbers ++ one ∷ [] ≡ take (i + 1) numbers = sym (take_more numbers i 0 (omega (arith, c.loop-number-test.true))) in (
      λ k h. c.mark_one.ensures.kept k (c.loop-number.invariant.0 k h),
      λ j k h e. elim (cases_lt j i) [
        | inl b ↦ c.mark_one.ensures.kept k (c.loop-number.invariant.1 j k b e)
        | inr b ↦
            let P : ℕ → Type 0 = λ m. get_or c.mark_one.new.marks m true ≡ true in
            let at : j ≡ i = omega (arith, h, b) in
            let A : ℕ → Type 0 = λ n. get_or numbers n k ≡ k in
            subst P (sym (number_at numbers i k (omega (arith, c.loop-number-test.true)) (subst A at e))) c.mark_one.ensures.marked
      ],
      λ k m. elim (c.mark_one.ensures.only k m) [
        | inl n ↦ elim (c.loop-number.invariant.2 k n) [ inl o ↦ inl o | inr o ↦ inr (let R : List ℕ → Type 0 = λ l. Contains l k in subst R more (Contains-append_left (take i numbers) (one ∷ []) k o)) ]
        | inr n ↦
            let R : List ℕ → Type 0 = λ l. Contains l k in
            let T : ℕ → Type 0 = λ x. Contains (one ∷ []) x in
            inr (subst R more (Contains-append_right (take i numbers) (one ∷ []) k (subst T (sym n) (here one []))))
      ],
    )

pub returns-clause-only : goal.returns-clause-only
returns-clause-only c k m =
    let R : List ℕ → Type 0 = λ l. Contains l k in
    elim (c.loop-number.invariant.2 k m) [ inl o ↦ inl o | inr o ↦ inr (subst R (take_all c.loop-number.number-index c.args.numbers.now (omega (arith, c.loop-number-test.false))) o) ]
