-- Samples under their metric names: look-ups, and a sample more.
use Rattle.std.proofs.Common.{◌≡◌, ◌⊎◌, inl, inr, Bool, true, false, cond, List, [], ◌∷◌, ◌++◌, String, Option, Some, None, Result, Ok, Err, refl, sym, ap, ◌∙◌, subst, true≢false}
use Rattle.std.specs.Prelude.{string_bytes, OnErr, OnOk}
use Rattle.std.specs.BTreeMap.{insert_entry}
use Rattle.std.specs.Cmp.Lexicographic.{slice_cmp}
use Rattle.std.specs.FinMap.{nat_cmp-IsAntisymmetric, slice_cmp-IsAntisymmetric}
use Rattle.std.specs.List.{Contains}
use Rattle.std.specs.List.Sorted.{IsStrictlySortedBy}
use Rattle.std.specs.Map.{keys_of, lookup, set_value, values_of}
use Rattle.std.specs.Ordering.{is_eq, match_ordering, nat_cmp}
use Rattle.std.specs.String.{string_cmp}
use Rattle.std.specs.declared.cmp.Ordering.{Ordering}
use Rattle.std.specs.declared.cmp.Ordering.TheVariants.{Less, Equal, Greater}
use Rattle.std.proofs.lemmas.Cmp.{tied_itself}
use Rattle.std.proofs.lemmas.Map.Keys.{sorted_head, sorted_tail}
use Rattle.std.specs.Cmp.Lexicographic.{nat_list_cmp_total}
use Rattle.std.proofs.lemmas.List.Elements.{Contains-append_cases, Contains-append_left, Contains-append_right}
use Rattle.lf_laws.proofs.Members.{behind, each_member, here, in_map, none_in}
use Rattle.lf_ast.specs.Labels.{Bytes, Labels}
use Rattle.lf_ast.specs.declared.expr.Matcher.{Matcher}
use Rattle.lf_ast.specs.Selectors.{metric}
use Rattle.lf_semantics.specs.Passing.{HasName, PassesEach}
use Rattle.lf_semantics.specs.Texts.{value_of}
use Rattle.lf_strict.specs.views.Stored.{AreUnderNames, samples_of}
use Rattle.lf_witness.specs.Strict.{AreSame, AreSelected}
use Rattle.lf_laws.proofs.Ascending.{tied}
use Rattle.lf_strict.proofs.SampleSets.{IsWith, pushed_with, with_front, with_left, with_pushed, with_right}

-- the name of a key is the one that is sought

names_same : (n m : Bytes) → slice_cmp nat_cmp n m ≡ Equal → n ≡ m
names_same n m e = slice_cmp-IsAntisymmetric nat_cmp-IsAntisymmetric n m e

not_there : (v : List Labels) → None ≡ Some v → ⊥
not_there v e = cc

-- what was lent has the sample more, or is as it was
written : {E : Type 0} (r : Result (Unit {0}) E) (s : Labels) (v w : List Labels) → OnOk r (AreSame (v ++ s ∷ []) w) → OnErr r (w ≡ v) → (t : Labels) → Contains w t → (s ≡ t) ⊎ Contains v t
written (Ok u) s v w same _ t c = (with_pushed s v w same).0 t c
written (Err e) s v w _ same t c = inr (subst (λ (l : List Labels). Contains l t) same c)

module _ {A : Type 0} where
  -- the test of a look-up
  abbrev pub is_named : Bytes → String A → Bool
  is_named n k = is_eq (slice_cmp nat_cmp n (string_bytes k))

  named_same : (n : Bytes) (k : String A) → is_named n k ≡ true → n ≡ string_bytes k
  named_same n k e = names_same n (string_bytes k) (tied _ e)

  same_named : (n : Bytes) (k : String A) → n ≡ string_bytes k → is_named n k ≡ true
  same_named n k e = ap is_eq (subst (λ z. slice_cmp nat_cmp n z ≡ Equal) e (tied_itself nat_list_cmp_total n))

  -- the name of a sample is that of its entry
  key_of : (es : List (String A × List Labels)) → AreUnderNames es → (s : Labels) → Contains (samples_of es) s → (e : String A × List Labels) × Contains es e × (value_of s metric ≡ string_bytes e.0)
  key_of [] under s c = absurd (none_in s c)
  key_of (e ∷ es) under s c = elim (Contains-append_cases e.1 (samples_of es) s c) [
    | inl own ↦ (e, here e es, under.0 s own)
    | inr later ↦ (let more = key_of es under.1 s later in (more.0, behind e es more.0 more.1, more.2))
  ]

  -- what a look-up finds are samples, of the name that is sought
  pub found_some : (n : Bytes) (es : List (String A × List Labels)) → AreUnderNames es → (v : List Labels) → lookup (is_named n) es ≡ Some v → (s : Labels) → Contains v s → Contains (samples_of es) s × (value_of s metric ≡ n)
  found_some n [] under v found s c = absurd (not_there v found)
  found_some n (e ∷ es) under v found s c = by (is_named n e.0) refl found (found_some n es under.1 v)
    where
      by : (b : Bool) → is_named n e.0 ≡ b → cond b (Some e.1) (lookup (is_named n) es) ≡ Some v
          → (lookup (is_named n) es ≡ Some v → (s : Labels) → Contains v s → Contains (samples_of es) s × (value_of s metric ≡ n)) → Contains (e.1 ++ samples_of es) s × (value_of s metric ≡ n)
      by true is f _ =
          let same : e.1 ≡ v = (let g : Some e.1 ≡ Some v = f in cc) in
          let own = subst (λ (l : List Labels). Contains l s) (sym same) c in
          (Contains-append_left e.1 (samples_of es) s own, under.0 s own ∙ sym (named_same n e.0 is))
      by false is f rest = let more = rest f s c in (Contains-append_right e.1 (samples_of es) s more.0, more.1)

  -- a look-up finds all samples of a name
  pub found_all : (n : Bytes) (es : List (String A × List Labels)) → IsStrictlySortedBy string_cmp (keys_of es) → AreUnderNames es → (v : List Labels) → lookup (is_named n) es ≡ Some v
      → (s : Labels) → Contains (samples_of es) s → value_of s metric ≡ n → Contains v s
  found_all n [] sorted under v found s c named = absurd (none_in s c)
  found_all n (e ∷ es) sorted under v found s c named = by (is_named n e.0) refl found (found_all n es (sorted_tail string_cmp e.0 (keys_of es) sorted) under.1 v)
    where
      by : (b : Bool) → is_named n e.0 ≡ b → cond b (Some e.1) (lookup (is_named n) es) ≡ Some v
          → (lookup (is_named n) es ≡ Some v → (s : Labels) → Contains (samples_of es) s → value_of s metric ≡ n → Contains v s) → Contains v s
      by true is f _ =
          let same : e.1 ≡ v = (let g : Some e.1 ≡ Some v = f in cc) in
          elim (Contains-append_cases e.1 (samples_of es) s c) [
            | inl own ↦ subst (λ (l : List Labels). Contains l s) same own
            | inr later ↦ (
                let key = key_of es under.1 s later in
                let less = each_member (λ k. string_cmp e.0 k ≡ Less) (keys_of es) key.0.0 (sorted_head string_cmp e.0 (keys_of es) sorted) (in_map (λ x. x.0) es key.0 key.1) in
                let twice : string_bytes e.0 ≡ string_bytes key.0.0 = sym (named_same n e.0 is) ∙ sym named ∙ key.2 in
                let equal = subst (λ z. slice_cmp nat_cmp (string_bytes e.0) z ≡ Equal) twice (tied_itself nat_list_cmp_total (string_bytes e.0)) in
                absurd (let clash : Less ≡ Equal = sym less ∙ equal in cc)
                )
          ]
      by false is f rest = elim (Contains-append_cases e.1 (samples_of es) s c) [
        | inl own ↦ absurd (true≢false (sym (same_named n e.0 (sym named ∙ under.0 s own)) ∙ is))
        | inr later ↦ rest f s later named
      ]

  -- where none is found, there is none of the name
  pub found_none : (n : Bytes) (es : List (String A × List Labels)) → AreUnderNames es → lookup (is_named n) es ≡ None → (s : Labels) → Contains (samples_of es) s → value_of s metric ≡ n → ⊥
  found_none n [] under found s c named = none_in s c
  found_none n (e ∷ es) under found s c named = by (is_named n e.0) refl found (found_none n es under.1)
    where
      by : (b : Bool) → is_named n e.0 ≡ b → cond b (Some e.1) (lookup (is_named n) es) ≡ None
          → (lookup (is_named n) es ≡ None → (s : Labels) → Contains (samples_of es) s → value_of s metric ≡ n → ⊥) → ⊥
      by true is f _ = let g : Some e.1 ≡ None = f in cc
      by false is f rest = elim (Contains-append_cases e.1 (samples_of es) s c) [
        | inl own ↦ true≢false (sym (same_named n e.0 (sym named ∙ under.0 s own)) ∙ is)
        | inr later ↦ rest f s later named
      ]

  -- other samples under a name

  pub under_set : (n : Bytes) (es : List (String A × List Labels)) (w : List Labels) → AreUnderNames es → ((t : Labels) → Contains w t → value_of t metric ≡ n) → AreUnderNames (set_value (is_named n) es w)
  under_set n [] w under named = tt
  under_set n (e ∷ es) w under named = by (is_named n e.0) refl (under_set n es w under.1 named)
    where
      by : (b : Bool) → is_named n e.0 ≡ b → AreUnderNames (set_value (is_named n) es w) → AreUnderNames (cond b ((e.0, w) ∷ es) (e ∷ set_value (is_named n) es w))
      by true is _ = (λ t c. named t c ∙ named_same n e.0 is, under.1)
      by false is rest = (under.0, rest)

  pub under_written : {E : Type 0} (r : Result (Unit {0}) E) (s : Labels) (n : Bytes) (es : List (String A × List Labels)) (v w : List Labels) → AreUnderNames es → lookup (is_named n) es ≡ Some v
      → value_of s metric ≡ n → OnOk r (AreSame (v ++ s ∷ []) w) → OnErr r (w ≡ v) → AreUnderNames (set_value (is_named n) es w)
  under_written r s n es v w under found named ok err = under_set n es w under (λ t c. elim (written r s v w ok err t c) [
    | inl new ↦ subst (λ z. value_of z metric ≡ n) new named
    | inr old ↦ (found_some n es under v found t old).1
  ])

  pub with_set : (s : Labels) (n : Bytes) (es : List (String A × List Labels)) (v w : List Labels) → lookup (is_named n) es ≡ Some v → IsWith s v w → IsWith s (samples_of es) (samples_of (set_value (is_named n) es w))
  with_set s n [] v w found is = absurd (not_there v found)
  with_set s n (e ∷ es) v w found more = by (is_named n e.0) found (with_set s n es v w)
    where
      by : (b : Bool) → cond b (Some e.1) (lookup (is_named n) es) ≡ Some v → (lookup (is_named n) es ≡ Some v → IsWith s v w → IsWith s (samples_of es) (samples_of (set_value (is_named n) es w)))
          → IsWith s (e.1 ++ samples_of es) (samples_of (cond b ((e.0, w) ∷ es) (e ∷ set_value (is_named n) es w)))
      by true f _ =
          let same : e.1 ≡ v = (let g : Some e.1 ≡ Some v = f in cc) in
          with_left s e.1 w (samples_of es) (subst (λ (l : List Labels). IsWith s l w) (sym same) more)
      by false f rest = with_right s (samples_of es) (samples_of (set_value (is_named n) es w)) e.1 (rest f more)

  pub same_written : {E : Type 0} (r : Result (Unit {0}) E) (s : Labels) (n : Bytes) (es : List (String A × List Labels)) (v w : List Labels) → lookup (is_named n) es ≡ Some v → OnOk r (AreSame (v ++ s ∷ []) w)
      → OnOk r (AreSame (samples_of es ++ s ∷ []) (samples_of (set_value (is_named n) es w)))
  same_written (Ok u) s n es v w found same = pushed_with s (samples_of es) (samples_of (set_value (is_named n) es w)) (with_set s n es v w found (with_pushed s v w same))
  same_written (Err e) s n es v w found _ = tt

  -- a name more

  pub under_insert : (k : String A) (es : List (String A × List Labels)) (w : List Labels) → AreUnderNames es → ((t : Labels) → Contains w t → value_of t metric ≡ string_bytes k) → AreUnderNames (insert_entry string_cmp es k w)
  under_insert k [] w under named = (named, tt)
  under_insert k (e ∷ es) w under named = by (string_cmp k e.0) refl (under_insert k es w under.1 named)
    where
      by : (o : Ordering) → string_cmp k e.0 ≡ o → AreUnderNames (insert_entry string_cmp es k w) → AreUnderNames (match_ordering o ((k, w) ∷ e ∷ es) ((e.0, w) ∷ es) (e ∷ insert_entry string_cmp es k w))
      by Less is _ = (named, under)
      by Equal is _ = (λ t c. named t c ∙ names_same (string_bytes k) (string_bytes e.0) is, under.1)
      by Greater is rest = (under.0, rest)

  pub with_entry : (s : Labels) (k : String A) (es : List (String A × List Labels)) (w : List Labels) → lookup (is_named (string_bytes k)) es ≡ None → IsWith s [] w → IsWith s (samples_of es) (samples_of (insert_entry string_cmp es k w))
  with_entry s k [] w none is = with_front s w [] is
  with_entry s k (e ∷ es) w none more = by (string_cmp k e.0) refl none (with_entry s k es w)
    where
      by : (o : Ordering) → string_cmp k e.0 ≡ o → cond (is_eq o) (Some e.1) (lookup (is_named (string_bytes k)) es) ≡ None
          → (lookup (is_named (string_bytes k)) es ≡ None → IsWith s [] w → IsWith s (samples_of es) (samples_of (insert_entry string_cmp es k w)))
          → IsWith s (e.1 ++ samples_of es) (samples_of (match_ordering o ((k, w) ∷ e ∷ es) ((e.0, w) ∷ es) (e ∷ insert_entry string_cmp es k w)))
      by Less is f _ = with_front s w (e.1 ++ samples_of es) more
      by Equal is f _ = absurd (let g : Some e.1 ≡ None = f in cc)
      by Greater is f rest = with_right s (samples_of es) (samples_of (insert_entry string_cmp es k w)) e.1 (rest f more)

-- all samples, group by group

abbrev pub all_of : List (List Labels) → List Labels
all_of [] = []
all_of (v ∷ vs) = v ++ all_of vs

pub all_of_values : {A : Type 0} (es : List (String A × List Labels)) → all_of (values_of es) ≡ samples_of es
all_of_values [] = refl
all_of_values (e ∷ es) = ap (λ l. e.1 ++ l) (all_of_values es)

-- what is selected of some samples, which have all others of the name and the matchers
pub selected_of : (W V : List Labels) (name : Option Bytes) (ms : List Matcher) (R : List Labels) → ((s : Labels) → Contains V s → Contains W s)
    → ((s : Labels) → Contains W s → HasName name s → PassesEach ms s → Contains V s) → AreSelected V name ms R → AreSelected W name ms R
selected_of W V name ms R inside all is = (
  λ s c named each. is.0 s (all s c named each) named each,
  λ s c. let from = is.1 s c in (inside s from.0, from.1, from.2),
)
