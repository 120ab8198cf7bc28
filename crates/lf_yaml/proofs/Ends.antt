-- The end of a list of rows.
use Rattle.std.proofs.Common.{◌≡◌, ◌≤◌, List, [], ◌∷◌, ◌++◌, length, refl, ap, arith, sym, ◌∙◌, subst, append_assoc, length-append}
use Rattle.std.specs.List.{AllByRecursion}
use Rattle.lf_yaml.specs.Rows.{ContentRow}
use Rattle.lf_laws.proofs.Members.{all_back}

-- some rows end with others
abbrev pub IsEnd : List ContentRow → List ContentRow → Type 0
IsEnd rs ss = (front : List ContentRow) × (rs ≡ front ++ ss)

pub end-all : (rs : List ContentRow) → IsEnd rs rs
end-all rs = ([], refl)

pub end-behind : (r : ContentRow) (rs ss : List ContentRow) → IsEnd rs ss → IsEnd (r ∷ rs) ss
end-behind r rs ss h = (r ∷ h.0, ap (λ (xs : List ContentRow). r ∷ xs) h.1)

pub end-trans : (rs ss ts : List ContentRow) → IsEnd rs ss → IsEnd ss ts → IsEnd rs ts
end-trans rs ss ts h k = (h.0 ++ k.0, h.1 ∙ ap (λ (xs : List ContentRow). h.0 ++ xs) k.1 ∙ sym (append_assoc h.0 k.0 ts))

pub end-length : (rs ss : List ContentRow) → IsEnd rs ss → length ss ≤ length rs
end-length rs ss h = omega (arith, ap length h.1, length-append h.0 ss)

-- what holds of all rows holds of the last of them
pub end-holds : (P : ContentRow → Type 0) (rs ss : List ContentRow) → IsEnd rs ss → AllByRecursion P rs → AllByRecursion P ss
end-holds P rs ss h all = all_back P h.0 ss (subst (AllByRecursion P) h.1 all)
