-- A row that covers another stays as it is when that one is joined to it.
use Rattle.std.proofs.Common.{◌≡◌, ℕ, Bool, true, false, ◌||◌, cond, refl, sym, ◌∙◌, ap}
use Rattle.lf_semantics.specs.ClassRows.{Sets, holds, is_live, remade, join}
use Rattle.lf_semantics.proofs.RowSets.{same_row}

or_same : (a b : Bool) → (b ≡ true → a ≡ true) → (a || b) ≡ a
or_same true b h = refl
or_same false true h = sym (h refl)
or_same false false h = refl

pub union_same : (row other : Sets) → is_live row ≡ true → is_live other ≡ true → ((l c : ℕ) → holds other l c ≡ true → holds row l c ≡ true) → join row other ≡ row
union_same row other e f more =
    let both : Sets = remade (λ l c on. on || holds other l c) row in
    ap (λ b. cond b (cond (is_live other) both row) other) e ∙ ap (λ b. cond b both row) f ∙ same_row (λ l c on. on || holds other l c) row (λ l c. or_same (holds row l c) (holds other l c) (more l c))
