-- Which presences of a label a row leaves, told of all its classes at once.
use Rattle.std.proofs.Common.{◌≡◌, ◌<◌, ℕ, zero, suc, ◌+◌, Bool, true, false, not, ◌&&◌, cond, eqb, List, [], ◌∷◌, get_or, length, Some, is_some, refl, sym, ◌∙◌, ap, subst, arith}
use Rattle.std.specs.List.{find}
use Rattle.std.proofs.lemmas.Bool.{and_parts}
use Rattle.lf_ast.specs.Labels.{Bytes}
use Rattle.lf_semantics.specs.ClassRows.{HasShape, Sets, holds, indexed_from}
use Rattle.lf_semantics.specs.Listing.{Listing, named_at}
use Rattle.lf_semantics.specs.RowTable.{has_class}
use Rattle.lf_semantics.proofs.RowLaws.{get_or-indexed, length-indexed}
use Rattle.lf_semantics.proofs.RowSets.{some_on}
use Rattle.lf_classes.specs.Limits.{IsWithin}
use Rattle.lf_trials.specs.Candidates.{candidates, candidates_of, chosen_from, has_presence}
use Rattle.lf_trials.specs.Verdicts.{leaves}
use Rattle.lf_candidates.specs.views.ClassTexts.{name_at}
use Rattle.lf_candidates.proofs.FirstClass.{candidate_count, first_with, no_absence, no_text, none_with, presence_of, set_length}
use Rattle.lf_candidates.proofs.Labelled.{label_at}

-- where a chosen text passes, some is found
module _ (test : Bytes → Bool) (chosen : ℕ → Bool) where
  here : (b : Bool) (text : Bytes) (texts : List Bytes) → b ≡ true → test text ≡ true → true ≡ is_some (find test (cond b (text ∷ texts) texts))
  here true text texts is passes = ap (λ (z : Bool). is_some (cond z (Some text) (find test texts))) (sym passes)
  here false text texts is passes = absurd (cc)

  behind : (b c : Bool) (text : Bytes) (texts : List Bytes) → test text ≡ c → true ≡ is_some (find test texts) → true ≡ is_some (find test (cond b (text ∷ texts) texts))
  behind true true text texts is there = ap (λ (z : Bool). is_some (cond z (Some text) (find test texts))) (sym is)
  behind true false text texts is there = there ∙ ap (λ (z : Bool). is_some (cond z (Some text) (find test texts))) (sym is)
  behind false c text texts is there = there

  some_found : (a : ℕ) (texts : List Bytes) (k i : ℕ) → i ≡ a + k → k < length texts → chosen i ≡ true → test (get_or texts k []) ≡ true → true ≡ is_some (find test (chosen_from chosen a texts))
  some_found a [] k i at less is passes = absurd (omega (arith, less))
  some_found a (text ∷ texts) zero i at less is passes = (let same : a ≡ i = omega (arith, at) in here (chosen a) text (chosen_from chosen (suc a) texts) (ap chosen same ∙ is) passes)
  some_found a (text ∷ texts) (suc k) i at less is passes = behind (chosen a) (test text) text (chosen_from chosen (suc a) texts) refl (some_found (suc a) texts k i (omega (arith, at)) (omega (arith, less)) is passes)

-- a class of the set that passes
class_there : (u : Listing) (test : ℕ → Bool) (set : List Bool) → has_class u test set ≡ true → (c : ℕ) × (c < length set) × (get_or set c false ≡ true) × (test c ≡ true)
class_there u test set e =
    let tested : List Bool = indexed_from (λ class on. on && test class) 0 set in
    let r = some_on tested e in
    let less : r.0 < length set = omega (arith, r.1, length-indexed (λ class on. on && test class) 0 set) in
    let both = and_parts (get_or set r.0 false) (test (0 + r.0)) (sym (get_or-indexed (λ class on. on && test class) 0 set r.0 false false less) ∙ r.2) in
    let P : ℕ → Type 0 = λ n. test n ≡ true in
    (r.0, less, both.0, subst P (omega arith) both.1)

module _ (u : Listing) (within : IsWithin u) (label : ℕ) (h : label < length u.named) (row : Sets) (shape : HasShape u row) where
  -- a text, where the row has a class other than the first
  pub text_left : (b : Bool) → ((v : Listing) → b ≡ has_class v (λ class. not (eqb class 0)) (get_or row label [])) → b ≡ leaves u row (name_at u label) true
  text_left true is =
      let there = class_there u (λ class. not (eqb class 0)) (get_or row label []) (sym (is u)) in
      let less : there.0 < length (named_at u label) + 2 = omega (arith, there.1, set_length u row shape label h) in
      let found : true ≡ is_some (find (has_presence true) (candidates_of u (name_at u label) (holds row label))) =
      some_found (has_presence true) (holds row label) 0 (candidates u (name_at u label)) there.0 there.0 (omega arith) (omega (arith, less, candidate_count u within label h)) there.2 (presence_of u within label h true there.0 less ∙ there.3) in
      subst (λ l. true ≡ is_some (find (has_presence true) (candidates_of u (name_at u label) (λ class. holds row l class)))) (sym (label_at u within label h)) found
  text_left false is =
      ap is_some (none_with u within label h true row (λ j less. ap (λ (b : Bool). holds row label j && b) (presence_of u within label h true j less) ∙ no_text row label (λ v. sym (is v)) j))

  -- the absence, where it has the first one
  pub absence_left : (b : Bool) → b ≡ holds row label 0 → b ≡ leaves u row (name_at u label) false
  absence_left true is = ap is_some (first_with u within label h false row 0 (omega arith) (sym is) refl (λ j before. absurd (omega (arith, before))))
  absence_left false is =
      ap is_some (none_with u within label h false row (λ j less. ap (λ (b : Bool). holds row label j && b) (presence_of u within label h false j less) ∙ no_absence row label (sym is) j))
