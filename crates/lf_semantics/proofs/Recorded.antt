-- The recorded names are those of the recording rules.
use Rattle.std.proofs.Common.{◌≡◌, Bool, true, false, cond, List, [], ◌∷◌, ◌⊎◌, inl, inr, refl, sym, ◌∙◌, ap, subst, true≢false}
use Rattle.std.specs.List.{Contains}
use Rattle.lf_ast.specs.Labels.{Bytes}
use Rattle.lf_ast.specs.Rules.{RuleTree}
use Rattle.lf_semantics.specs.Environments.{names_recorded}
use Rattle.lf_semantics.proofs.Members.{behind, first_or_behind, here, none_in}

pub recorder : (rules : List RuleTree) (n : Bytes) → Contains (names_recorded rules) n → (r : RuleTree) × Contains rules r × (r.alert ≡ false) × (r.name ≡ n)
recorder [] n c = absurd (none_in n c)
recorder (x ∷ rules) n c = by x.alert refl c (recorder rules n)
  where
    later : (r : RuleTree) × Contains rules r × (r.alert ≡ false) × (r.name ≡ n) → (r : RuleTree) × Contains (x ∷ rules) r × (r.alert ≡ false) × (r.name ≡ n)
    later (r, there, recording, same) = (r, behind x rules r there, recording, same)

    by : (b : Bool) → x.alert ≡ b → Contains (cond b (names_recorded rules) (x.name ∷ names_recorded rules)) n → (Contains (names_recorded rules) n → (r : RuleTree) × Contains rules r × (r.alert ≡ false) × (r.name ≡ n))
        → (r : RuleTree) × Contains (x ∷ rules) r × (r.alert ≡ false) × (r.name ≡ n)
    by true is d rest = later (rest d)
    by false is d rest = elim (first_or_behind x.name (names_recorded rules) n d) [ inl same ↦ (x, here x rules, is, same) | inr f ↦ later (rest f) ]

pub recorded : (rules : List RuleTree) (r : RuleTree) → Contains rules r → r.alert ≡ false → Contains (names_recorded rules) r.name
recorded [] r c a = absurd (none_in r c)
recorded (x ∷ rules) r c a = by x.alert refl (first_or_behind x rules r c) (recorded rules r)
  where
    by : (b : Bool) → x.alert ≡ b → (x ≡ r) ⊎ Contains rules r → (Contains rules r → r.alert ≡ false → Contains (names_recorded rules) r.name) → Contains (cond b (names_recorded rules) (x.name ∷ names_recorded rules)) r.name
    by true is (inl same) rest = absurd (true≢false (sym is ∙ ap (λ (z : RuleTree). z.alert) same ∙ a))
    by true is (inr d) rest = rest d a
    by false is (inl same) rest = let P : Bytes → Type 0 = λ z. Contains (x.name ∷ names_recorded rules) z in subst P (ap (λ (z : RuleTree). z.name) same) (here x.name (names_recorded rules))
    by false is (inr d) rest = behind x.name (names_recorded rules) r.name (rest d a)
