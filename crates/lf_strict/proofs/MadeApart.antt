-- Sets that are made of a set sample by sample, and then put in order.
use Rattle.std.proofs.Common.{◌≡◌, ◌≢◌, ◌<◌, ◌+◌, ◌⊎◌, inl, inr, Bool, true, false, cond, List, [], ◌∷◌, length, Option, Some, None, refl, sym, ◌∙◌, subst, arith}
use Rattle.std.specs.List.{AllZip, Contains}
use Rattle.std.specs.Ordering.{eq_by_cmp}
use Rattle.std.proofs.lemmas.List.Sorted.{IsPermutation-refl}
use Rattle.lf_laws.proofs.Members.{behind, first_or_behind, here, none_in}
use Rattle.lf_ast.specs.Labels.{Labels}
use Rattle.lf_semantics.specs.Evaluation.{AreMade}
use Rattle.lf_witness.specs.Ascending.{IsAscending, labels_cmp}
use Rattle.lf_witness.specs.Strict.{AreSame, MadeApart, MadeTogether}
use Rattle.lf_witness.specs.StrictRuns.{InOrder}
use Rattle.lf_witness.proofs.AscendingLists.{alone_ascends, head_less, less_itself, tail_ascends}
use Rattle.lf_strict.specs.views.Apart.{AreApart, times}
use Rattle.lf_strict.proofs.Times.{counted_member, member_counted, none_repeated}
use Rattle.lf_witness.proofs.Decided.{same_told, told_same}
use Rattle.lf_witness.proofs.SameSets.{same_itself}

module _ (becomes : Labels → Labels → Type 0) where
  -- what a sample becomes is made
  pub made_of : (P M : List Labels) → AllZip becomes P M → (s : Labels) → Contains P s → (r : Labels) × becomes s r × Contains M r
  made_of [] [] z s c = absurd (none_in s c)
  made_of [] (m ∷ M) z s c = absurd z
  made_of (p ∷ P) [] z s c = absurd z
  made_of (p ∷ P) (m ∷ M) z s c = elim (first_or_behind p P s c) [
    | inl e ↦ (m, subst (λ x. becomes x m) e z.0, here m M)
    | inr later ↦ (let rest = made_of P M z.1 s later in (rest.0, rest.1, behind m M rest.0 rest.2))
  ]

  -- and nothing else is
  pub made_from : (P M : List Labels) → AllZip becomes P M → (r : Labels) → Contains M r → (s : Labels) × Contains P s × becomes s r
  made_from [] [] z r c = absurd (none_in r c)
  made_from [] (m ∷ M) z r c = absurd z
  made_from (p ∷ P) [] z r c = absurd z
  made_from (p ∷ P) (m ∷ M) z r c = elim (first_or_behind m M r c) [
    | inl e ↦ (p, here p P, subst (becomes p) e z.0)
    | inr later ↦ (let rest = made_from P M z.1 r later in (rest.0, behind p P rest.0 rest.1, rest.2))
  ]

  pub are_made : (P M R : List Labels) → AllZip becomes P M → AreSame M R → AreMade becomes P R
  are_made P M R z same = (
    λ s c. let found = made_of P M z s c in (found.0, found.1, same.0 found.0 found.2),
    λ r c. made_from P M z r (same.1 r c),
  )

  -- what is made twice is made of two
  made_of_two : (P M : List Labels) → IsAscending P → AllZip becomes P M → (r : Labels) → 1 < times r M
      → (s t : Labels) × Contains P s × Contains P t × (s ≢ t) × becomes s r × becomes t r
  made_of_two [] [] ascends z r lt = absurd (omega (arith, lt))
  made_of_two [] (m ∷ M) ascends z r lt = absurd z
  made_of_two (p ∷ P) [] ascends z r lt = absurd z
  made_of_two (p ∷ P) (m ∷ M) ascends z r lt = by (eq_by_cmp labels_cmp m r) refl lt (made_of_two P M (tail_ascends p P ascends) z.1 r)
    where
      by : (b : Bool) → eq_by_cmp labels_cmp m r ≡ b → 1 < cond b 1 0 + times r M
          → (1 < times r M → (s t : Labels) × Contains P s × Contains P t × (s ≢ t) × becomes s r × becomes t r)
          → (s t : Labels) × Contains (p ∷ P) s × Contains (p ∷ P) t × (s ≢ t) × becomes s r × becomes t r
      by true e more _ =
          let another = made_from P M z.1 r (counted_member r M (omega (arith, more))) in (
            p,
            another.0,
            here p P,
            behind p P another.0 another.1,
            (λ same. less_itself p (head_less p p P ascends (subst (Contains P) (sym same) another.1))),
            subst (becomes p) (told_same m r e) z.0,
            another.2,
          )
      by false e more rest =
          let two = rest (omega (arith, more)) in
          (two.0, two.1, behind p P two.0 two.2, behind p P two.1 two.3, two.4, two.5, two.6)

  -- what is made of two is made twice
  two_make : ((s t u : Labels) → becomes s t → becomes s u → t ≡ u) → (P M : List Labels) → AllZip becomes P M → (s t r : Labels) → Contains P s → Contains P t → (s ≢ t) → becomes s r → becomes t r
      → 1 < times r M
  two_make one [] M z s t r a b apart c d = absurd (none_in s a)
  two_make one (p ∷ P) [] z s t r a b apart c d = absurd z
  two_make one (p ∷ P) (m ∷ M) z s t r a b apart c d = by (first_or_behind p P s a) (first_or_behind p P t b) (λ e f. two_make one P M z.1 s t r e f apart c d)
    where
      front : (x : Labels) → p ≡ x → becomes x r → 0 < times r M → 1 < times r (m ∷ M)
      front x e makes some =
          let same : m ≡ r = one p m r z.0 (subst (λ y. becomes y r) (sym e) makes) in
          subst (λ (v : Bool). 1 < cond v 1 0 + times r M) (sym (same_told m r same)) (omega (arith, some))

      later : (x : Labels) → Contains P x → becomes x r → 0 < times r M
      later x inside makes =
          let made = made_of P M z.1 x inside in
          subst (λ y. 0 < times y M) (one x made.0 r made.1 makes) (member_counted made.0 M made.2)

      by : (p ≡ s) ⊎ Contains P s → (p ≡ t) ⊎ Contains P t → (Contains P s → Contains P t → 1 < times r M) → 1 < times r (m ∷ M)
      by (inl e) (inl f) _ = absurd (apart (sym e ∙ f))
      by (inl e) (inr after) _ = front s e c (later t after d)
      by (inr after) (inl f) _ = front t f d (later s after c)
      by (inr after) (inr too) rest = let more = rest after too in omega (arith, more)

  pub made_apart : ((s t u : Labels) → becomes s t → becomes s u → t ≡ u) → (P M : List Labels) → IsAscending P → AllZip becomes P M → (o : Option (List Labels)) → AreApart M o
      → InOrder (MadeApart becomes P) o
  made_apart one P M ascends z None repeated =
      let two = made_of_two P M ascends z repeated.0 repeated.1 in
      (two.0, two.1, repeated.0, two.2, two.3, two.4, two.5, two.6)
  made_apart one P M ascends z (Some R) listed = (
    (are_made P M R z listed.0, λ two. listed.2 (two.2, two_make one P M z two.0 two.1 two.2 two.3 two.4 two.5 two.6 two.7)),
    listed.1,
  )

  -- what is made of one sample alone is in order

  alone : (P M : List Labels) → length P ≡ 1 → AllZip becomes P M → IsAscending M
  alone [] M one z = absurd (omega (arith, one))
  alone (p ∷ P) [] one z = absurd z
  alone (p ∷ []) (m ∷ []) one z = alone_ascends m
  alone (p ∷ []) (m ∷ n ∷ M) one z = absurd z.1
  alone (p ∷ q ∷ P) (m ∷ M) one z = absurd (omega (arith, one))

  pub only_apart : ((s t u : Labels) → becomes s t → becomes s u → t ≡ u) → (P M : List Labels) → length P ≡ 1 → IsAscending P → AllZip becomes P M → InOrder (MadeApart becomes P) (Some M)
  only_apart one P M only ascends z =
      let made = alone P M only z in
      made_apart one P M ascends z (Some M) (same_itself M, made, none_repeated M M (IsPermutation-refl M) made)

  pub only_together : (P M : List Labels) → length P ≡ 1 → AllZip becomes P M → InOrder (MadeTogether becomes P) (Some M)
  only_together P M only z = (are_made P M M z (same_itself M), alone P M only z)

  pub made_together : (P M R : List Labels) → AllZip becomes P M → AreSame M R → IsAscending R → InOrder (MadeTogether becomes P) (Some R)
  made_together P M R z same ascends = (are_made P M R z same, ascends)
