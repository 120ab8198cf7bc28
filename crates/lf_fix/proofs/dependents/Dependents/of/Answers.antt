use Rattle.std.proofs.Common.{◌≡◌, ◌<◌, ℕ, zero, suc, List, [], ◌∷◌, length, get_or, Option, inl, inr, sym, subst, arith}
use Rattle.std.specs.List.{AllByRecursion, Contains}
use Rattle.std.proofs.lemmas.Bool.{cases_lt}
use Rattle.std.proofs.lemmas.Option.{slice_get_within}
use Rattle.lf_ast.specs.Labels.{Bytes}
use Rattle.lf_laws.proofs.Members.{none_in}
use Rattle.lf_laws.proofs.Slices.{some_at}
use Rattle.lf_deps.specs.views.Sources.{Sources}
use Rattle.lf_deps.proofs.LookedUp.{selected_count, selected_is}
use Rattle.lf_fix.specs.views.Dependents.{Index, IsListed}
use Rattle.lf_fix.proofs.Listing.{all_map}
use Rattle.lf_fix.proofs.dependents.Dependents.of.Goals as goal

pub list_all-requires : goal.list_all-requires
list_all-requires c = record { full = c.loop-k.invariant.0 }

pub loop-k-preserved : goal.loop-k-preserved
loop-k-preserved c =
    let selected : List (List (Option Bytes)) = c.args.sources.now.selected in
    let k : ℕ = c.loop-k.k in
    let old : Index = c.loop-k.dependents in
    let new : Index = c.list_all.new.self in (
      c.in_ok-list_all.ensures.full,
      λ j h. elim (cases_lt j k) [
        | inl b ↦ all_map (IsListed old j) (IsListed new j) (get_or selected j []) (λ o. c.in_ok-list_all.ensures.kept j o) (c.loop-k.invariant.1 j b)
        | inr b ↦
            let e : k ≡ j = omega (arith, h, b) in
            let Q : List (Option Bytes) → Type 0 = λ found. AllByRecursion (IsListed new k) found in
            let R : ℕ → Type 0 = λ i. AllByRecursion (IsListed new i) (get_or selected i []) in
            subst R e (subst Q c.selected_by.ensures c.in_ok-list_all.ensures.listed)
      ],
      λ j o l. elim (c.in_ok-list_all.ensures.only j o l) [
        | inl m ↦ c.loop-k.invariant.2 j o m
        | inr m ↦
            let R : List (Option Bytes) → Type 0 = λ found. Contains found o in
            let T : ℕ → Type 0 = λ i. Contains (get_or selected i []) o in
            subst T (sym m.0) (subst R c.selected_by.ensures m.1)
      ],
    )

selected_within : (xs : List (List (Option Bytes))) (j : ℕ) (o : Option Bytes) → Contains (get_or xs j []) o → j < length xs
selected_within [] j o c = absurd (none_in o c)
selected_within (x ∷ xs) zero o c = omega arith
selected_within (x ∷ xs) (suc j) o c = let h = selected_within xs j o c in omega (arith, h)

pub returns : goal.returns
returns c rules is =
    let s : Sources = c.args.sources.now in
    let count = selected_count rules s is in
    record {
      all = λ j r at.
          let within = slice_get_within rules j r at in
          let P : List (Option Bytes) → Type 0 = λ found. AllByRecursion (IsListed c.loop-k.dependents j) found in
          subst P (selected_is rules s is j r at) (c.loop-k.invariant.1 j (omega (arith, within, count, c.loop-k-test.false)));
      only = λ j o l.
          let b = c.loop-k.invariant.2 j o l in
          let within = selected_within s.selected j o b in
          let r = some_at rules j (omega (arith, within, count)) in
          let P : List (Option Bytes) → Type 0 = λ found. Contains found o in
          (r.0, r.1, subst P (selected_is rules s is j r.0 r.1) b);
    }
