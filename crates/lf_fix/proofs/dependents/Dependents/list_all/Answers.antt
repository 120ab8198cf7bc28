use Rattle.std.proofs.Common.{◌≡◌, ℕ, ◌+◌, List, [], ◌∷◌, ◌++◌, Option, inl, inr, take, sym, ◌∙◌, ap, subst, arith}
use Rattle.std.specs.List.{AllByRecursion, Contains}
use Rattle.std.proofs.lemmas.List.Elements.{Contains-append_left, Contains-append_right}
use Rattle.std.proofs.lemmas.List.{take_all, take_more}
use Rattle.lf_ast.specs.Labels.{Bytes}
use Rattle.lf_fix.specs.views.Dependents.{Index, IsListed}
use Rattle.lf_laws.proofs.Members.{all_append, here}
use Rattle.lf_fix.proofs.Listing.{all_map}
use Rattle.lf_fix.proofs.dependents.Dependents.list_all.Goals as goal

pub loop-k-preserved : goal.loop-k-preserved
loop-k-preserved c =
    let found : List (Option Bytes) = c.args.found.now in
    let k : ℕ = c.loop-k.k in
    let one : Option Bytes = c.index-found-k.result in
    let old : Index = c.loop-k.self in
    let new : Index = c.list.new.self in
    let P : Option Bytes → Type 0 = λ o. IsListed new c.args.rule o in
    let before : AllByRecursion P (take k found) = all_map (IsListed old c.args.rule) P (take k found) (λ o. c.in_ok-list.ensures.kept c.args.rule o) c.loop-k.invariant.1 in
    let more : take k found ++ one ∷ [] ≡ take (k + 1) found = ap (λ (o : Option Bytes). take k found ++ o ∷ []) c.index-found-k.is ∙ sym (take_more found k one (omega (arith, c.loop-k-test.true))) in
    let Q : List (Option Bytes) → Type 0 = λ l. AllByRecursion P l in
    let R : Option Bytes → List (Option Bytes) → Type 0 = λ o l. Contains l o in (
      c.in_ok-list.ensures.full,
      subst Q more (all_append P (take k found) (one ∷ []) before (c.in_ok-list.ensures.listed, tt)),
      λ i o l. c.in_ok-list.ensures.kept i o (c.loop-k.invariant.2 i o l),
      λ i o l. elim (c.in_ok-list.ensures.only i o l) [
        | inl m ↦ elim (c.loop-k.invariant.3 i o m) [ inl n ↦ inl n | inr n ↦ inr (n.0, subst (R o) more (Contains-append_left (take k found) (one ∷ []) o n.1)) ]
        | inr m ↦
            let T : Option Bytes → Type 0 = λ x. Contains (one ∷ []) x in
            inr (m.0, subst (R o) more (Contains-append_right (take k found) (one ∷ []) o (subst T (sym m.1) (here one []))))
      ],
    )

pub returns-clause-listed : goal.returns-clause-listed
returns-clause-listed c =
    let Q : List (Option Bytes) → Type 0 = λ l. AllByRecursion (IsListed c.loop-k.self c.args.rule) l in
    subst Q (take_all c.loop-k.k c.args.found.now (omega (arith, c.loop-k-test.false))) c.loop-k.invariant.1

pub returns-clause-only : goal.returns-clause-only
returns-clause-only c i o l =
    let R : List (Option Bytes) → Type 0 = λ l. Contains l o in
    elim (c.loop-k.invariant.3 i o l) [ inl n ↦ inl n | inr n ↦ inr (n.0, subst R (take_all c.loop-k.k c.args.found.now (omega (arith, c.loop-k-test.false))) n.1) ]
