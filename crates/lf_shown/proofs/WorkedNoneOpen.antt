-- Worked expressions: which can be silent, and which have no open construct.
use Rattle.std.proofs.Common.{◌≡◌, ◌⊎◌, inl, inr, ℕ, Bool, true, false, List, [], ◌∷◌, codes, refl, sym, subst}
use Rattle.std.specs.List.{AllByRecursion}
use Rattle.std.specs.Str.{bytes_eq}
use Rattle.lf_laws.proofs.Booleans.{clash}
use Rattle.lf_laws.proofs.Members.{each_member, same_true}
use Rattle.lf_laws.proofs.Slices.{number_of}
use Rattle.lf_ast.specs.Functions.{function_named, functions}
use Rattle.lf_ast.specs.Labels.{Bytes}
use Rattle.lf_ast.specs.Rules.{RuleTree}
use Rattle.lf_ast.specs.Tree.{Tree}
use Rattle.lf_ast.specs.declared.expr.Op.TheVariants.{Or, Unless}
use Rattle.lf_semantics.proofs.Written.{between, call, number, over_time, selector, sum_by, unmodified}
use Rattle.lf_deps.specs.Reading.{IsCyclic, Reads}
use Rattle.lf_trials.specs.Forks.{HoldsFork}
use Rattle.lf_trials.proofs.Reachable.{fork_test, reaches, reaches_is, tells_forks}
use Rattle.lf_trials.proofs.WorkedBuilt.{chain, three}
use Rattle.lf_shown.specs.NoneOpen.{HasNoneOpen, IsClosed, SidesAreClosed}
use Rattle.lf_shown.specs.Silence.{can_be_silent}

abbrev foo : Tree
foo = selector (codes "foo") []

-- ---- what can be silent

selector_is_silent : can_be_silent foo ≡ true
selector_is_silent = refl

grouped_is_silent : can_be_silent (sum_by (codes "job" ∷ []) (between Or unmodified foo (selector (codes "bar") []))) ≡ true
grouped_is_silent = refl

-- a rate of a range vector
rate_is_silent : can_be_silent (call (codes "rate") (over_time (codes "foo") [] ∷ [])) ≡ true
unfolding function_named functions
rate_is_silent = refl

vector_is_loud : can_be_silent (call (codes "vector") (number ∷ [])) ≡ false
unfolding function_named functions
vector_is_loud = refl

now_is_loud : can_be_silent (call (codes "hour") []) ≡ false
unfolding function_named functions
now_is_loud = refl

hour_of_is_silent : can_be_silent (call (codes "hour") (foo ∷ [])) ≡ true
unfolding function_named functions
hour_of_is_silent = refl

absent_is_loud : can_be_silent (call (codes "absent") (foo ∷ [])) ≡ false
unfolding function_named functions
absent_is_loud = refl

-- one loud side is enough
loud_side : can_be_silent (between Or unmodified foo (call (codes "vector") (number ∷ []))) ≡ false
unfolding function_named functions
loud_side = refl

-- ---- `a:three` is `sum by (job, env) (a:two)` over rules of which each reads the one before it: nothing is open

module _ (rules : List RuleTree) where
  abbrev of_name : Bytes → ℕ → RuleTree → Bool
  of_name n k q = bytes_eq q.name n

  -- no rule of the name reads it
  pub acyclic : (n : Bytes) → AllByRecursion (λ (r : RuleTree). (bytes_eq r.name n ≡ false) ⊎ (reaches rules (of_name n) r.expr ≡ false)) rules → IsCyclic rules n → ⊥
  acyclic n all (r, c, (recording, name), reads) = by (each_member (λ (r : RuleTree). (bytes_eq r.name n ≡ false) ⊎ (reaches rules (of_name n) r.expr ≡ false)) rules r all c)
    where
      by : (bytes_eq r.name n ≡ false) ⊎ (reaches rules (of_name n) r.expr ≡ false) → ⊥
      by (inl other) = clash _ (same_true r.name n name) other
      by (inr none) =
          let at = number_of rules r c in
          clash _ ((reaches_is rules (of_name n) r.expr).1 (at.0, r, at.2, (recording, subst (Reads rules r.expr) (sym name) reads), same_true r.name n name)) none

  pub no_fork : (e : Tree) → fork_test rules e ≡ false → HoldsFork rules e → ⊥
  no_fork e none fork = clash _ ((tells_forks rules e).1 fork) none

x_closed : IsClosed chain (selector (codes "x") [])
x_closed = inr (record { name = codes "x"; says = refl; acyclic = acyclic chain (codes "x") (inl refl, (inl refl, (inl refl, tt))); plain = tt; unmatched = λ fork. tt })

one_closed : IsClosed chain (selector (codes "a:one") [])
one_closed = inr (record { name = codes "a:one"; says = refl; acyclic = acyclic chain (codes "a:one") (inr refl, (inl refl, (inl refl, tt))); plain = tt; unmatched = λ fork. tt })

two_closed : IsClosed chain (selector (codes "a:two") [])
two_closed = inr (record { name = codes "a:two"; says = refl; acyclic = acyclic chain (codes "a:two") (inl refl, (inr refl, (inl refl, tt))); plain = tt; unmatched = λ fork. tt })

each_closed : AllByRecursion (λ (r : RuleTree). IsClosed chain r.expr) chain
each_closed = (inr ((x_closed, tt), tt), (one_closed, (inr ((two_closed, tt), tt), tt)))

three_has_none_open : HasNoneOpen chain three.expr
three_has_none_open = record {
  own = inr ((two_closed, tt), tt);
  read = λ r c reach. each_member (λ (r : RuleTree). IsClosed chain r.expr) chain r each_closed c;
}

three_holds_no_fork : HoldsFork chain three.expr → ⊥
three_holds_no_fork = no_fork chain three.expr refl

-- ---- `foo unless vector(1)` is open: its right side can't be silent

loud_unless : SidesAreClosed chain Unless (between Unless unmodified foo (call (codes "vector") (number ∷ []))) foo (call (codes "vector") (number ∷ [])) → ⊥
unfolding function_named functions
loud_unless sides = clash _ sides.1 refl
