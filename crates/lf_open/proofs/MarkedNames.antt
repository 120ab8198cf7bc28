-- Marks, rule by rule; and that those of chosen rules tell which selectors read a rule that passes a test.
use Rattle.std.proofs.Common.{◌≡◌, ◌<◌, ◌≤◌, ◌+◌, ◌⊎◌, inl, inr, ℕ, Bool, true, false, true≢false, not, ◌&&◌, List, [], ◌∷◌, length, get_or, Option, Some, None, refl, sym, ap, ◌∙◌, subst, arith, slice_get}
use Rattle.std.proofs.lemmas.Bool.{and_from, cases_lt, not-true, not_from_false}
use Rattle.std.proofs.lemmas.List.{get_or_past}
use Rattle.std.proofs.lemmas.Option.{same_Some}
use Rattle.std.specs.List.{Contains}
use Rattle.lf_laws.proofs.Booleans.{and_left, and_right}
use Rattle.lf_laws.proofs.Members.{here, none_in, only_one}
use Rattle.lf_laws.proofs.Slices.{member_at, number_of}
use Rattle.lf_ast.specs.Labels.{Bytes}
use Rattle.lf_ast.specs.Rules.{RuleTree}
use Rattle.lf_deps.specs.Reading.{Reaches, SelectsBy}
use Rattle.lf_deps.specs.views.Search.{ReadsBy}
use Rattle.lf_semantics.specs.Listing.{place}
use Rattle.lf_semantics.proofs.Places.{at_place}
use Rattle.lf_semantics.proofs.Recorded.{recorded}
use Rattle.lf_forks.proofs.Recorded.{placed}
use Rattle.lf_forks.specs.views.NameMarks.{Marks, NameMarks}
use Rattle.lf_open.specs.views.Marks.{AreChosenBy, AreMarks, AreMarksUpTo, IsChosen, TellsReading, place_if}

module _ (rules : List RuleTree) (chosen : List Bool) where
  -- a chosen rule among the first j records the name at the place
  abbrev Placed : ℕ → NameMarks → ℕ → Type 0
  Placed j m p = (k : ℕ) × (s : RuleTree) × IsChosen rules chosen j k s × (place m.names s.name ≡ p)

  -- a rule among the first i + 1 is one among the first i, or the one behind them
  later : (i k : ℕ) (r : RuleTree) → IsChosen rules chosen i k r → IsChosen rules chosen (i + 1) k r
  later i k r is = record { before = omega (arith, is.before); at = is.at; recording = is.recording; picked = is.picked }

  module _ (i : ℕ) (r : RuleTree) (at : slice_get rules i ≡ Some r) (on : Bool) (on_is : on ≡ get_or chosen i false) where
    this : (on && not r.alert) ≡ true → IsChosen rules chosen (i + 1) i r
    this e = record { before = omega arith; at = at; recording = not-true r.alert (and_right on (not r.alert) e); picked = sym on_is ∙ and_left on (not r.alert) e }

    earlier : (k : ℕ) (s : RuleTree) → IsChosen rules chosen (i + 1) k s → IsChosen rules chosen i k s ⊎ (((on && not r.alert) ≡ true) × (r ≡ s))
    earlier k s is = by (cases_lt k i)
      where
        by : (k < i) ⊎ (i ≤ k) → IsChosen rules chosen i k s ⊎ (((on && not r.alert) ≡ true) × (r ≡ s))
        by (inl less) = inl (record { before = less; at = is.at; recording = is.recording; picked = is.picked })
        by (inr more) =
            let b = is.before in
            let same : k ≡ i = omega (arith, more, b) in
            let it : r ≡ s = same_Some r s (sym at ∙ ap (slice_get rules) (sym same) ∙ is.at) in
            inr (and_from on (not r.alert) (on_is ∙ ap (λ (n : ℕ). get_or chosen n false) (sym same) ∙ is.picked) (not_from_false r.alert (ap (λ (z : RuleTree). z.alert) it ∙ is.recording)), it)

    pub one_more : (old new : NameMarks) → AreMarksUpTo rules chosen i old → Marks (place_if (on && not r.alert) old.names r.name) old new → AreMarksUpTo rules chosen (i + 1) new
    one_more old new are m = record {
      names = m.names ∙ are.names;
      count = m.count ∙ are.count ∙ sym (ap length m.names);
      marked = λ p less. let less_old : p < length old.marked = subst (λ n. p < n) m.count less in (to p less_old, from p less_old);
      without_name = (to_without, from_without);
    }
      where
        -- the rule is chosen where its name is to be marked
        picked : (p : ℕ) → Contains (place_if (on && not r.alert) old.names r.name) p → ((on && not r.alert) ≡ true) × (place old.names r.name ≡ p)
        picked p c = by (on && not r.alert) c
          where
            by : (b : Bool) → Contains (place_if b old.names r.name) p → (b ≡ true) × (place old.names r.name ≡ p)
            by true d = (refl, only_one (place old.names r.name) p d)
            by false d = absurd (none_in p d)

        pick : (on && not r.alert) ≡ true → Contains (place_if (on && not r.alert) old.names r.name) (place old.names r.name)
        pick e = subst (λ (b : Bool). Contains (place_if b old.names r.name) (place old.names r.name)) (sym e) (here (place old.names r.name) [])

        to : (p : ℕ) → p < length old.marked → get_or new.marked p false ≡ true → Placed (i + 1) new p
        to p less e = by ((m.marked p less).0 e)
          where
            by : (get_or old.marked p false ≡ true) ⊎ Contains (place_if (on && not r.alert) old.names r.name) p → Placed (i + 1) new p
            by (inl was) = let w = (are.marked p less).0 was in (w.0, w.1, later i w.0 w.1 w.2, ap (λ (l : List Bytes). place l w.1.name) m.names ∙ w.3)
            by (inr c) = let it = picked p c in (i, r, this it.0, ap (λ (l : List Bytes). place l r.name) m.names ∙ it.1)

        from : (p : ℕ) → p < length old.marked → Placed (i + 1) new p → get_or new.marked p false ≡ true
        from p less (k, s, is, e) = (m.marked p less).1 (by (earlier k s is))
          where
            by : IsChosen rules chosen i k s ⊎ (((on && not r.alert) ≡ true) × (r ≡ s)) → (get_or old.marked p false ≡ true) ⊎ Contains (place_if (on && not r.alert) old.names r.name) p
            by (inl was) = inl ((are.marked p less).1 (k, s, was, ap (λ (l : List Bytes). place l s.name) (sym m.names) ∙ e))
            by (inr it) =
                let at : place old.names r.name ≡ p = ap (λ (z : RuleTree). place old.names z.name) it.1 ∙ ap (λ (l : List Bytes). place l s.name) (sym m.names) ∙ e in
                inr (subst (Contains (place_if (on && not r.alert) old.names r.name)) at (pick it.0))

        to_without : new.without_name ≡ true → (k : ℕ) × (s : RuleTree) × IsChosen rules chosen (i + 1) k s
        to_without e = elim (m.without_name.0 e) [
          | inl was ↦ let w = are.without_name.0 was in (w.0, w.1, later i w.0 w.1 w.2)
          | inr c ↦ (i, r, this (picked c.0 c.1).0)
        ]

        from_without : ((k : ℕ) × (s : RuleTree) × IsChosen rules chosen (i + 1) k s) → new.without_name ≡ true
        from_without (k, s, is) = m.without_name.1 (by (earlier k s is))
          where
            by : IsChosen rules chosen i k s ⊎ (((on && not r.alert) ≡ true) × (r ≡ s)) → (old.without_name ≡ true) ⊎ ((p : ℕ) × Contains (place_if (on && not r.alert) old.names r.name) p)
            by (inl was) = inl (are.without_name.1 (k, s, was))
            by (inr it) = inr (place old.names r.name, pick it.0)

-- ---- what they tell

module _ (rules : List RuleTree) (of_rule : RuleTree → Bool) (chosen : List Bool) (by_test : AreChosenBy rules of_rule chosen) (m : NameMarks) (are : AreMarks rules chosen m) where
  abbrev Passing : RuleTree → Type 0
  Passing r = (of_rule r ≡ true) ⊎ ((s : RuleTree) × Contains rules s × Reaches rules r.expr s × (of_rule s ≡ true))

  abbrev ReadsPassing : Option Bytes → Type 0
  ReadsPassing o = (r : RuleTree) × Contains rules r × (r.alert ≡ false) × ReadsBy rules (o ∷ []) r.name × (of_rule r ≡ true)

  -- a chosen rule whose name is selected
  selected_chosen : (o : Option Bytes) (k : ℕ) (r : RuleTree) → IsChosen rules chosen (length rules) k r → SelectsBy rules (o ∷ []) r.name → ReadsPassing o
  selected_chosen o k r is selects = by ((by_test k r is.at).0 is.picked)
    where
      by : Passing r → ReadsPassing o
      by (inl own) = (r, member_at rules k r is.at, is.recording, inl selects, own)
      by (inr (s, there, (recording, reads), own)) = (s, there, recording, inr (r, member_at rules k r is.at, is.recording, selects, reads), own)

  -- a rule that is read is chosen, or the one that is selected
  read_chosen : (o : Option Bytes) → ReadsPassing o → (k : ℕ) × (r : RuleTree) × IsChosen rules chosen (length rules) k r × SelectsBy rules (o ∷ []) r.name
  read_chosen o (r, there, recording, inl selects, own) =
      let at = number_of rules r there in (at.0, r, record { before = at.1; at = at.2; recording = recording; picked = (by_test at.0 r at.2).1 (inl own) }, selects)
  read_chosen o (r, there, recording, inr (s, here_too, too, selects, reads), own) =
      let at = number_of rules s here_too in (at.0, s, record { before = at.1; at = at.2; recording = too; picked = (by_test at.0 s at.2).1 (inr (r, there, (recording, reads), own)) }, selects)

  the_name : (name other : Bytes) → SelectsBy rules (Some name ∷ []) other → name ≡ other
  the_name name other (inl c) = ap (λ (o : Option Bytes). elim o [ None ↦ name | Some z ↦ z ]) (only_one (Some name) (Some other) c)
  the_name name other (inr (c, recorded)) = absurd (true≢false (sym (ap (λ (o : Option Bytes). elim o [ None ↦ false | Some z ↦ true ]) (sym (only_one (Some name) None c)))))

  pub tells_reading : TellsReading rules of_rule m
  tells_reading None = (to, from)
    where
      to : m.without_name ≡ true → ReadsPassing None
      to e = let w = are.without_name.0 e in selected_chosen None w.0 w.1 w.2 (inr (here None [], recorded rules w.1 (member_at rules w.0 w.1 w.2.at) w.2.recording))

      from : ReadsPassing None → m.without_name ≡ true
      from h = let w = read_chosen None h in are.without_name.1 (w.0, w.1, w.2)
  tells_reading (Some name) = (to, from)
    where
      to : get_or m.marked (place m.names name) false ≡ true → ReadsPassing (Some name)
      to e = by (cases_lt (place m.names name) (length m.marked))
        where
          by : (place m.names name < length m.marked) ⊎ (length m.marked ≤ place m.names name) → ReadsPassing (Some name)
          by (inl less) =
              let w = (are.marked (place m.names name) less).0 e in
              let k : ℕ = w.0 in
              let r : RuleTree = w.1 in
              let is : IsChosen rules chosen (length rules) k r = w.2 in
              let own : get_or m.names (place m.names r.name) [] ≡ r.name = at_place m.names r.name (placed rules m.names are.names r (member_at rules k r is.at) is.recording) in
              let same : r.name ≡ name = sym own ∙ ap (λ (n : ℕ). get_or m.names n []) w.3 ∙ at_place m.names name (subst (λ n. place m.names name < n) are.count less) in
              selected_chosen (Some name) k r is (inl (subst (λ n. Contains (Some name ∷ []) (Some n)) (sym same) (here (Some name) [])))
          by (inr past) = absurd (true≢false (sym e ∙ get_or_past m.marked (place m.names name) false past))

      from : ReadsPassing (Some name) → get_or m.marked (place m.names name) false ≡ true
      from h =
          let w = read_chosen (Some name) h in
          let r : RuleTree = w.1 in
          let is : IsChosen rules chosen (length rules) w.0 r = w.2 in
          let same : name ≡ r.name = the_name name r.name w.3 in
          let placed_r : place m.names r.name < length m.names = placed rules m.names are.names r (member_at rules w.0 r is.at) is.recording in
          let within : place m.names name < length m.marked = subst (λ n. place m.names name < n) (sym are.count) (subst (λ n. place m.names n < length m.names) (sym same) placed_r) in
          (are.marked (place m.names name) within).1 (w.0, r, is, ap (place m.names) (sym same))
