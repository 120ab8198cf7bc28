-- The graph of what is selected where leads from the forks to the names that are made by them.
use Rattle.std.proofs.Common.{◌≡◌, ◌⊎◌, ◌↔◌, ℕ, false, List, [], length, Option, Some, None, inl, inr, refl, sym, ◌∙◌, subst, arith}
use Rattle.std.specs.List.{Contains, flat_map}
use Rattle.lf_laws.proofs.Members.{here, in_flat_map, of_flat_map}
use Rattle.lf_ast.specs.Labels.{Bytes}
use Rattle.lf_ast.specs.Rules.{RuleTree}
use Rattle.lf_ast.specs.Tree.{Tree}
use Rattle.lf_deps.specs.Reading.{Reads, SelectsBy, selectors}
use Rattle.lf_deps.specs.Reading.Reads.{selected, through}
use Rattle.lf_deps.specs.views.Links.{source_of}
use Rattle.lf_deps.proofs.Ordered.{named_source, source_named}
use Rattle.lf_graph.specs.Paths.{IsGraph, IsReached, Leads, after}
use Rattle.lf_graph.specs.Paths.Leads.{along, nowhere}
use Rattle.lf_graph.proofs.Paths.{by_edge}
use Rattle.lf_semantics.specs.Environments.{recorded_names}
use Rattle.lf_semantics.specs.Listing.{place}
use Rattle.lf_semantics.proofs.Places.{same_text}
use Rattle.lf_semantics.proofs.Recorded.{recorded}
use Rattle.lf_forks.specs.views.ForkTests.{IsForkRule, IsMadeByFork}
use Rattle.lf_forks.specs.views.Uses.{AreUses}
use Rattle.lf_forks.proofs.Recorded.{placed}

module _ (rules : List RuleTree) (names : List Bytes) (are : names ≡ recorded_names rules) where
  -- what a selector selects is made by a fork
  abbrev pub IsMade : Option Bytes → Type 0
  IsMade (Some name) = IsMadeByFork rules name
  IsMade None = (r : RuleTree) × IsForkRule rules r

  -- these are the nodes of the rules that have a fork in their expression
  abbrev pub IsStart : List ℕ → Type 0
  IsStart start = (v : ℕ) → Contains start v ↔ ((r : RuleTree) × IsForkRule rules r × ((place names r.name ≡ v) ⊎ (length names ≡ v)))

  module _ (uses : List (List ℕ)) (is : AreUses rules names uses) where
    pub uses_graph : IsGraph uses
    uses_graph v u c =
        let it = (is.members v u).0 c in
        let there = placed rules names are it.0 it.1 it.2.0 in
        omega (arith, there, it.2.1, is.count)

    module _ (start : List ℕ) (begins : IsStart start) where
      -- what is reached is made by a fork

      abbrev pub AllMade : ℕ → Type 0
      AllMade v = (o : Option Bytes) → Contains (source_of names o) v → IsMade o

      begun : (v : ℕ) → Contains start v → AllMade v
      begun v c None d = let b = (begins v).0 c in (b.0, b.1)
      begun v c (Some name) d =
          let b = (begins v).0 c in
          let s = source_named names name v d in
          elim b.2 [
            | inl e ↦ (b.0, b.1, inl (same_text names b.0.name name (placed rules names are b.0 b.1.rule b.1.recording) (e ∙ sym s.1)))
            | inr e ↦ absurd (omega (arith, e, s.0, s.1))
          ]

      reads_fork : (s : RuleTree) (o : Option Bytes) → Contains (selectors s.expr) o → IsMade o → (r : RuleTree) × IsForkRule rules r × Reads rules s.expr r.name
      reads_fork s None c (r, fork) = (r, fork, selected (inr (c, recorded rules r fork.rule fork.recording)))
      reads_fork s (Some name) c (r, fork, inl same) = (r, fork, selected (inl (subst (λ n. Contains (selectors s.expr) (Some n)) (sym same) c)))
      reads_fork s (Some name) c (r, fork, inr (t, there, (recording, same), rest)) =
          (r, fork, through t there recording (inl (subst (λ n. Contains (selectors s.expr) (Some n)) (sym same) c)) rest)

      reader_made : (s r : RuleTree) (u : ℕ) → Contains rules s → s.alert ≡ false → place names s.name ≡ u → IsForkRule rules r → Reads rules s.expr r.name → AllMade u
      reader_made s r u there recording at fork reads None d = (r, fork)
      reader_made s r u there recording at fork reads (Some name) d =
          let n = source_named names name u d in
          (r, fork, inr (s, there, (recording, same_text names s.name name (placed rules names are s there recording) (at ∙ sym n.1)), reads))

      onward : (v u : ℕ) → Contains (after uses v) u → AllMade v → AllMade u
      onward v u c made =
          let it = (is.members v u).0 c in
          let from = of_flat_map (source_of names) (selectors it.0.expr) v it.2.2 in
          let reads = reads_fork it.0 from.0 from.1 (made from.0 from.2) in
          reader_made it.0 reads.0 u it.1 it.2.0 it.2.1 reads.1 reads.2

      led : (u v : ℕ) → Leads uses u v → AllMade u → AllMade v
      led u v nowhere made = made
      led u v (along w c rest) made = led w v rest (onward u w c made)

      pub reached_made : (v : ℕ) → IsReached uses start v → AllMade v
      reached_made v q = led q.0 v q.2 (begun q.0 q.1)

      -- and what is made by a fork is reached

      abbrev IsLed : Tree → Type 0
      IsLed e = (u : ℕ) × Contains (flat_map (source_of names) (selectors e)) u × IsReached uses start u

      fork_reached : (r : RuleTree) → IsForkRule rules r → IsReached uses start (place names r.name)
      fork_reached r fork = (place names r.name, (begins (place names r.name)).1 (r, fork, inl refl), nowhere)

      pub all_reached : (r : RuleTree) → IsForkRule rules r → IsReached uses start (length names)
      all_reached r fork = (length names, (begins (length names)).1 (r, fork, inr refl), nowhere)

      led_to : (s : RuleTree) → Contains rules s → s.alert ≡ false → IsLed s.expr → IsReached uses start (place names s.name)
      led_to s there recording at =
          (at.2.0, at.2.1, by_edge uses at.2.0 at.0 (place names s.name) at.2.2 ((is.members at.0 (place names s.name)).1 (s, there, (recording, refl, at.1))))

      -- an expression that selects a name of such a rule selects what is reached
      selects_led : (e : Tree) (s r : RuleTree) → Contains rules s → s.alert ≡ false → IsForkRule rules r → IsReached uses start (place names s.name) → SelectsBy rules (selectors e) s.name → IsLed e
      selects_led e s r there recording fork at (inl c) = (
        place names s.name,
        in_flat_map (source_of names) (selectors e) (Some s.name) (place names s.name) c (named_source names s.name (placed rules names are s there recording)),
        at,
      )
      selects_led e s r there recording fork at (inr c) = (
        length names,
        in_flat_map (source_of names) (selectors e) None (length names) c.0 (here (length names) []),
        all_reached r fork,
      )

      reads_led : (e : Tree) (r : RuleTree) → IsForkRule rules r → Reads rules e r.name → IsLed e
      reads_led e r fork (selected sel) = selects_led e r r fork.rule fork.recording fork (fork_reached r fork) sel
      reads_led e r fork (through t there recording sel rest) = selects_led e t r there recording fork (led_to t there recording (reads_led t.expr r fork rest)) sel

      pub made_reached : (name : Bytes) → IsMadeByFork rules name → IsReached uses start (place names name)
      made_reached name (r, fork, inl same) = subst (λ n. IsReached uses start (place names n)) same (fork_reached r fork)
      made_reached name (r, fork, inr (s, there, (recording, same), reads)) =
          subst (λ n. IsReached uses start (place names n)) same (led_to s there recording (reads_led s.expr r fork reads))
