-- What a part of an expression reads the expression reads, and a fork beneath a part is beneath the expression.
use Rattle.std.proofs.Common.{◌≡◌, ◌≤◌, inl, inr, ℕ, zero, suc, Bool, true, false, not, ◌&&◌, cond, List, [], length, Option, Some, None, sym, ◌∙◌, ap, subst, arith, length-append}
use Rattle.std.proofs.lemmas.Bool.{or_right, false_from_ne_true}
use Rattle.std.proofs.lemmas.Bool.{or_left}
use Rattle.std.specs.List.{Contains}
use Rattle.std.proofs.lemmas.List.Elements.{Contains-append_left, Contains-append_right}
use Rattle.lf_laws.proofs.Booleans.{clash}
use Rattle.lf_ast.specs.Labels.{Bytes}
use Rattle.lf_ast.specs.Rules.{RuleTree}
use Rattle.lf_ast.specs.Tree.{Tree, Trees, Nil, Next}
use Rattle.lf_semantics.specs.Parts.{argument_at, is_scalar_part}
use Rattle.lf_deps.specs.Reading.{Reads, Selects, arguments_selectors, selectors, selectors_in}
use Rattle.lf_trials.specs.Forks.{HoldsFork, TellsForks, fork_in, fork_in_arguments, has_own_fork}

-- the selectors of the one are among those of the other
abbrev pub SelectsLess : Tree → Tree → Type 0
SelectsLess x e = (o : Option Bytes) → Contains (selectors x) o → Contains (selectors e) o

abbrev pub ForksLess : List RuleTree → Tree → Tree → Type 0
ForksLess rules x e = has_own_fork rules x ≡ true → has_own_fork rules e ≡ true

-- a part of an expression: what it selects and its forks are the expression's, and it has no more selectors
pub record IsPart (rules : List RuleTree) (x e : Tree) : Type 0 where
  pub selects : SelectsLess x e
  pub forks : ForksLess rules x e
  pub fewer : length (selectors x) ≤ length (selectors e)

module _ (rules : List RuleTree) where
  selects_more : (x e : Tree) (n : Bytes) → SelectsLess x e → Selects rules x n → Selects rules e n
  selects_more x e n less (inl said) = inl (less (Some n) said)
  selects_more x e n less (inr unsaid) = inr (less None unsaid.0, unsaid.1)

  pub reads_more : (x e : Tree) → SelectsLess x e → (n : Bytes) → Reads rules x n → Reads rules e n
  reads_more x e less n (Reads.selected s) = Reads.selected (selects_more x e n less s)
  reads_more x e less n (Reads.through r c recording s reads) = Reads.through r c recording (selects_more x e r.name less s) reads

  pub forks_more : (x e : Tree) → IsPart rules x e → HoldsFork rules x → HoldsFork rules e
  forks_more x e part (inl own) = inl (part.forks own)
  forks_more x e part (inr r) = inr (r.0, r.1, (r.2.0, reads_more x e part.selects r.0.name r.2.1), r.3)

  -- ---- parts

  outside : (e : Tree) → is_scalar_part e ≡ false → selectors e ≡ selectors_in e
  outside e is = ap (λ b. cond b [] (selectors_in e)) is

  own : (e : Tree) → is_scalar_part e ≡ false → has_own_fork rules e ≡ fork_in rules e
  own e is = ap (λ b. not b && fork_in rules e) is

  -- the parts of an expression that is no scalar
  pub part_of : (x e : Tree) → is_scalar_part e ≡ false → ((o : Option Bytes) → Contains (selectors x) o → Contains (selectors_in e) o) → (has_own_fork rules x ≡ true → fork_in rules e ≡ true)
      → length (selectors x) ≤ length (selectors_in e) → IsPart rules x e
  part_of x e is selects forks fewer = record {
    selects = λ o c. subst (λ xs. Contains xs o) (sym (outside e is)) (selects o c);
    forks = λ f. own e is ∙ forks f;
    fewer = let h = ap (λ (xs : List (Option Bytes)). length xs) (outside e is) in omega (arith, h, fewer);
  }

  pub same_part : (x e : Tree) → is_scalar_part e ≡ false → selectors x ≡ selectors_in e → has_own_fork rules x ≡ fork_in rules e → IsPart rules x e
  same_part x e is s f =
      part_of x e is (λ o c. subst (λ xs. Contains xs o) s c) (λ h. sym f ∙ h) (let h = ap (λ (xs : List (Option Bytes)). length xs) s in omega (arith, h))

  -- an argument among the arguments
  pub record IsArgument (x : Tree) (args : Trees) : Type 0 where
    pub selects : (o : Option Bytes) → Contains (selectors x) o → Contains (arguments_selectors args) o
    pub forks : has_own_fork rules x ≡ true → fork_in_arguments rules args ≡ true
    pub fewer : length (selectors x) ≤ length (arguments_selectors args)

  pub argument_part : (args : Trees) (k : ℕ) (x : Tree) → argument_at args k ≡ Some x → IsArgument x args
  argument_part Nil k x e = absurd (cc)
  argument_part (Next y ys) zero x e =
      let q : y ≡ x = cc in
      subst (λ z. IsArgument z (Next y ys)) q
      (record {
        selects = λ o c. Contains-append_left (selectors y) (arguments_selectors ys) o c;
        forks = λ f. or_left (has_own_fork rules y) (fork_in_arguments rules ys) f;
        fewer = let h = length-append (selectors y) (arguments_selectors ys) in omega (arith, h);
      })
  argument_part (Next y ys) (suc k) x e =
      let r = argument_part ys k x e in
      record {
        selects = λ o c. Contains-append_right (selectors y) (arguments_selectors ys) o (r.selects o c);
        forks = λ f. or_right (has_own_fork rules y) (fork_in_arguments rules ys) (r.forks f);
        fewer = let h = length-append (selectors y) (arguments_selectors ys) in let g = r.fewer in omega (arith, h, g);
      }

  -- ---- forks by a test

  module _ (holds_fork : Tree → Bool) (tells : TellsForks rules holds_fork) where
    pub no_fork : (e : Tree) → (HoldsFork rules e → ⊥) → holds_fork e ≡ false
    no_fork e none = false_from_ne_true (holds_fork e) (λ h. none ((tells e).0 h))

    pub part_forks : (x e : Tree) → IsPart rules x e → holds_fork e ≡ false → holds_fork x ≡ false
    part_forks x e part none = false_from_ne_true (holds_fork x) (λ h. clash _ ((tells e).1 (forks_more x e part ((tells x).0 h))) none)
