-- What pairs give: the one side under its signatures, and the results of a many side.
use Rattle.std.proofs.Common.{◌≡◌, ◌≢◌, ◌⊎◌, inl, inr, ◌+◌, ◌<◌, ◌++◌, ℕ, zero, suc, Bool, true, false, cond, List, [], ◌∷◌, Option, Some, None, get_or, length, take, refl, sym, ap, ◌∙◌, subst, arith}
use Rattle.std.specs.Prelude.{is_some}
use Rattle.std.specs.BTreeMap.{BTreeMap, Updates, get}
use Rattle.std.specs.List.{AllZip, Contains, filter, flat_map}
use Rattle.std.specs.Option.{option_map, option_to_list}
use Rattle.std.specs.Map.{lookup}
use Rattle.std.specs.Ordering.{is_eq}
use Rattle.std.specs.declared.cmp.Ordering.TheVariants as ordering
use Rattle.std.proofs.Math.Logic.{⊎_swap}
use Rattle.std.proofs.lemmas.Option.{none-some}
use Rattle.std.proofs.lemmas.List.{take_more}
use Rattle.std.proofs.lemmas.List.Elements.{Contains-append_left, Contains-push, Contains-push_cases}
use Rattle.std.proofs.lemmas.Bool.{false_from_ne_true}
use Rattle.lf_laws.proofs.Members.{behind, first_or_behind, here, none_in}
use Rattle.lf_ast.specs.Labels.{Labels}
use Rattle.lf_ast.specs.declared.expr.Group.{Group}
use Rattle.lf_ast.specs.declared.expr.Group.TheVariants.{Right}
use Rattle.lf_ast.specs.declared.expr.Matching.{Matching}
use Rattle.lf_ast.specs.declared.expr.Op.{Op}
use Rattle.lf_ast.specs.declared.expr.Op.TheVariants.{Add, Subtract, Multiply, Divide, Modulo, Power, Atan2, Equal, NotEqual, LessOrEqual, Less, GreaterOrEqual, Greater, And, Or, Unless}
use Rattle.lf_semantics.specs.Evaluation.{AreMatched}
use Rattle.lf_semantics.specs.Grouped.{out, paired}
use Rattle.lf_semantics.specs.Texts.{HasTexts}
use Rattle.lf_semantics.proofs.Members.{in_filter, of_filter}
use Rattle.lf_witness.specs.Ascending.{IsAscending, labels_cmp}
use Rattle.lf_witness.specs.Strict.{HasTwoAlike, IsAmbiguous, IsPair, MadeApart, StrictCombines, StrictPairs}
use Rattle.lf_witness.specs.StrictRuns.{InOrder}
use Rattle.lf_witness.proofs.AscendingLists.{head_less, less_itself, tail_ascends}
use Rattle.lf_strict.specs.views.Apart.{AreApart}
use Rattle.lf_strict.specs.views.Paired.{FindsEach, IsIndex, ManyPairs, result_of, signature_of, with_found, with_partner}
use Rattle.lf_strict.proofs.Filtered.{ascending_filter}
use Rattle.lf_strict.proofs.MadeApart.{made_apart}
use Rattle.lf_strict.proofs.Signatures.{one_signature, same_signature}
use Rattle.lf_witness.proofs.Decided.{told_same}

pub is_there : (o : Option Labels) → is_some o ≡ true → (t : Labels) × (o ≡ Some t)
is_there None e = cc
is_there (Some t) e = (t, refl)

pub is_not_there : (o : Option Labels) → is_some o ≡ false → o ≡ None
is_not_there None e = refl
is_not_there (Some t) e = cc

-- the one side, a sample more

taken_less : (xs : List Labels) (k : ℕ) (x : Labels) → IsAscending xs → k < length xs → x ≡ get_or xs k x → (t : Labels) → Contains (take k xs) t → Contains xs t × (labels_cmp t x ≡ ordering.Less)
taken_less [] k x ascends lt is t c = absurd (omega (arith, lt))
taken_less (y ∷ xs) zero x ascends lt is t c = absurd (none_in t c)
taken_less (y ∷ xs) (suc k) x ascends lt is t c = elim (first_or_behind y (take k xs) t c) [
  | inl e ↦ (subst (Contains (y ∷ xs)) e (here y xs), subst (λ z. labels_cmp z x ≡ ordering.Less) e (head_less y x xs ascends (k, omega (arith, lt), sym is)))
  | inr later ↦ (let rest = taken_less xs k x (tail_ascends y xs ascends) (omega (arith, lt)) is t later in (behind y xs t rest.0, rest.1))
]

some_same : (x t : Labels) → Some x ≡ Some t → x ≡ t
some_same x t e = cc

pub no_ones : (m : Matching) (ones : BTreeMap Labels Labels) → ones.entries ≡ [] → IsIndex m [] ones
no_ones m ones e = (
  λ k t found. absurd (none-some t (sym (ap (λ (l : List (Labels × Labels)). lookup (λ q. is_eq (labels_cmp k q)) l) e) ∙ found)),
  λ t c. absurd (none_in t c),
)

module _ (m : Matching) (xs : List Labels) (k : ℕ) (x : Labels) (lt : k < length xs) (is : x ≡ get_or xs k x) where
  took : take (k + 1) xs ≡ take k xs ++ x ∷ []
  took = take_more xs k x lt ∙ ap (λ (y : Labels). take k xs ++ y ∷ []) (sym is)

  pub two_alike : IsAscending xs → (ones : BTreeMap Labels Labels) → IsIndex m (take k xs) ones → (t : Labels) → get labels_cmp ones (signature_of m x) ≡ Some t → HasTwoAlike m xs
  two_alike ascends ones index t found =
      let there = index.0 (signature_of m x) t found in
      let before = taken_less xs k x ascends lt is t there.0 in
      (x, t, (k, lt, sym is), before.0, λ e. less_itself x (subst (λ z. labels_cmp z x ≡ ordering.Less) (sym e) before.1), same_signature m x t there.1)

  pub index_more : (ones more : BTreeMap Labels Labels) → HasTexts x → IsIndex m (take k xs) ones → get labels_cmp ones (signature_of m x) ≡ None
      → Updates labels_cmp ones more (signature_of m x) (Some x) → IsIndex m (take (k + 1) xs) more
  index_more ones more full index none updates = (
    λ q t found. by q t (is_eq (labels_cmp (signature_of m x) q)) refl (sym (updates.0 q) ∙ found),
    λ t c. elim (Contains-push_cases (take k xs) x t (subst (λ (l : List Labels). Contains l t) took c)) [
      | inl old ↦ (
          let before = index.1 t old in
          let other = false_from_ne_true (is_eq (labels_cmp (signature_of m x) (signature_of m t))) (λ e. none-some t (sym none ∙ subst (λ z. get labels_cmp ones z ≡ Some t) (sym (told_same (signature_of m x) (signature_of m t) e)) before.1)) in
          (before.0, updates.0 (signature_of m t) ∙ ap (λ b. cond b (Some x) (get labels_cmp ones (signature_of m t))) other ∙ before.1)
          )
      | inr new ↦ subst (λ z. HasTexts z × (get labels_cmp more (signature_of m z) ≡ Some z)) new (full, updates.1)
    ],
  )
    where
      by : (q t : Labels) (b : Bool) → is_eq (labels_cmp (signature_of m x) q) ≡ b → cond b (Some x) (get labels_cmp ones q) ≡ Some t → Contains (take (k + 1) xs) t × (q ≡ signature_of m t)
      by q t true same f =
          let new = some_same x t f in
          (subst (Contains (take (k + 1) xs)) new (subst (λ (l : List Labels). Contains l x) (sym took) (Contains-push (take k xs) x)), sym (told_same (signature_of m x) q same) ∙ ap (signature_of m) new)
      by q t false other f =
          let before = index.0 q t f in
          (subst (λ (l : List Labels). Contains l t) (sym took) (Contains-append_left (take k xs) (x ∷ []) t before.0), before.1)

-- no two have equal signatures
pub none_alike : (m : Matching) (Q : List Labels) (look : Labels → Option Labels) → FindsEach m Q look → HasTwoAlike m Q → ⊥
none_alike m Q look index (s, t, a, b, apart, same) =
    let one = index.1 s a in
    let other = index.1 t b in
    apart (some_same s t (sym one.1 ∙ subst (λ z. look z ≡ Some t) (sym (one_signature m s t one.0 other.0 same)) other.1))

-- the results of the many side

module _ (op : Op) (m : Matching) (P Q partnered : List Labels) (look : Labels → Option Labels) (index : FindsEach m Q look) (are : AreMatched m P Q partnered) where
  abbrev Becomes : Labels → Labels → Type 0
  Becomes s r = (r ≡ with_partner op m s (look (signature_of m s))) × HasTexts s

  found : (s t : Labels) → HasTexts s → IsPair m P Q s t → look (signature_of m s) ≡ Some t
  found s t full pair = let there = index.1 t pair.1 in subst (λ z. look z ≡ Some t) (sym (one_signature m s t full there.0 pair.2)) there.1

  gives : (s t r : Labels) → IsPair m P Q s t → Becomes s r → r ≡ result_of m.group op m s t
  gives s t r pair is = is.0 ∙ ap (with_partner op m s) (found s t is.1 pair)

  pair_of : (s : Labels) → Contains partnered s → (t : Labels) × IsPair m P Q s t
  pair_of s c = let from = are.1 s c in (from.1.0, (from.0, from.1.1, from.1.2))

  pub many_pairs : (o : Option (List Labels)) → InOrder (MadeApart Becomes partnered) o → InOrder (ManyPairs op m P Q) o
  many_pairs None (s, t, r, a, b, apart, one, other) =
      let p = pair_of s a in
      let q = pair_of t b in
      inr (s, p.0, t, q.0, p.1, q.1, inl apart, sym (gives s p.0 r p.1 one) ∙ gives t q.0 r q.1 other)
  many_pairs (Some R) given = (
    (
      (
        λ r c. let from = given.0.0.1 r c in let p = pair_of from.0 from.1 in (from.0, p.0, p.1, gives from.0 p.0 r p.1 from.2),
        λ s t pair. let made = given.0.0.0 s (are.0 s pair.0 (t, pair.1, pair.2)) in subst (Contains R) (gives s t made.0 pair made.1) made.2,
      ),
      none_alike m Q look index,
      λ two. together two.0 two.1 two.2 two.3 two.4 two.5 two.6 two.7,
    ),
    given.1,
  )
    where
      together : (s t u v : Labels) → IsPair m P Q s t → IsPair m P Q u v → ((s ≢ u) ⊎ (t ≢ v)) → result_of m.group op m s t ≡ result_of m.group op m u v → ⊥
      together s t u v p q differ same =
          let a = are.0 s p.0 (t, p.1, p.2) in
          let b = are.0 u q.0 (v, q.1, q.2) in
          let one = given.0.0.0 s a in
          let other = given.0.0.0 u b in
          let equal = gives s t one.0 p one.1 ∙ same ∙ sym (gives u v other.0 q other.1) in
          let apart : s ≢ u = elim differ [
            | inl many ↦ many
            | inr ones_differ ↦ (λ e. ones_differ (some_same t v (sym (found s t one.1.1 p) ∙ subst (λ z. look (signature_of m z) ≡ Some v) (sym e) (found u v other.1.1 q))))
          ] in
          given.0.1 (s, u, one.0, a, b, apart, one.1, subst (Becomes u) (sym equal) other.1)

-- the same of a list of the results, which may have one of them twice

module _ (op : Op) (m : Matching) (P Q made : List Labels) (look : Labels → Option Labels) (index : FindsEach m Q look) (texts : (s : Labels) → Contains P s → HasTexts s) where
  abbrev has_one : Labels → Bool
  has_one s = is_some (look (signature_of m s))

  are_matched : AreMatched m P Q (filter has_one P)
  are_matched = (
    λ s c partner.
        let there = index.1 partner.0 partner.1 in
        let full = texts s c in
        let got : look (signature_of m s) ≡ Some partner.0 = subst (λ z. look z ≡ Some partner.0) (sym (one_signature m s partner.0 full there.0 partner.2)) there.1 in
        in_filter has_one P s c (ap is_some got),
    λ s c.
        let own = of_filter has_one P s c in
        let there = is_there (look (signature_of m s)) own.1 in
        let from = index.0 (signature_of m s) there.0 there.1 in
        (own.0, (there.0, from.0, same_signature m s there.0 from.1)),
  )

  gives_each : (xs : List Labels) → ((s : Labels) → Contains xs s → HasTexts s) → AllZip (Becomes op m P Q (filter has_one P) look index are_matched) (filter has_one xs) (flat_map (with_found op m look) xs)
  gives_each [] full = tt
  gives_each (x ∷ xs) full = by (look (signature_of m x)) refl (gives_each xs (λ s c. full s (behind x xs s c)))
    where
      by : (o : Option Labels) → look (signature_of m x) ≡ o → AllZip (Becomes op m P Q (filter has_one P) look index are_matched) (filter has_one xs) (flat_map (with_found op m look) xs)
          → AllZip (Becomes op m P Q (filter has_one P) look index are_matched) (cond (is_some o) (x ∷ filter has_one xs) (filter has_one xs)) (option_to_list (option_map (result_of m.group op m x) o) ++ flat_map (with_found op m look) xs)
      by (Some t) e rest = ((ap (with_partner op m x) (sym e), full x (here x xs)), rest)
      by None e rest = rest

  pub listed_pairs : IsAscending P → made ≡ flat_map (with_found op m look) P → (o : Option (List Labels)) → AreApart made o → InOrder (ManyPairs op m P Q) o
  listed_pairs ascends is o apart =
      many_pairs op m P Q (filter has_one P) look index are_matched o
      (made_apart (Becomes op m P Q (filter has_one P) look index are_matched) (λ s t u a b. a.0 ∙ sym b.0) (filter has_one P) made (ascending_filter has_one P ascends)
      (subst (AllZip (Becomes op m P Q (filter has_one P) look index are_matched) (filter has_one P)) (sym is) (gives_each P texts)) o apart)

-- by the side that is the many side

module _ (op : Op) (m : Matching) (P Q : List Labels) where
  pub same_out : (g : Group) → m.group ≡ g → ((s t : Labels) → paired g op m s t ≡ result_of g op m s t) → (s t : Labels) → out op m s t ≡ result_of m.group op m s t
  same_out g e same s t = ap (λ g. paired g op m s t) e ∙ same s t ∙ sym (ap (λ g. result_of g op m s t) e)

  pub from_left : ((s t : Labels) → out op m s t ≡ result_of m.group op m s t) → (HasTwoAlike m Q → IsAmbiguous m.group m P Q) → (IsAmbiguous m.group m P Q → HasTwoAlike m Q)
      → (o : Option (List Labels)) → InOrder (ManyPairs op m P Q) o → InOrder (StrictPairs op m P Q) o
  from_left outs to back None (inl two) = inl (to two)
  from_left outs to back None (inr (s, t, u, v, p, q, differ, same)) = inr (s, t, u, v, p, q, differ, outs s t ∙ same ∙ sym (outs u v))
  from_left outs to back (Some R) given = (
    (
      (
        λ r c. let from = given.0.0.0 r c in (from.0, from.1, from.2.0, from.2.1, from.2.2, from.3 ∙ sym (outs from.0 from.1)),
        λ s t a b same. subst (Contains R) (sym (outs s t)) (given.0.0.1 s t (a, b, same)),
      ),
      λ two. given.0.1 (back two),
      λ two. given.0.2 (two.0, two.1, two.2, two.3, two.4, two.5, two.6, sym (outs two.0 two.1) ∙ two.7 ∙ outs two.2 two.3),
    ),
    given.1,
  )

  turned : (s t : Labels) → IsPair m Q P t s → IsPair m P Q s t
  turned s t pair = (pair.1, pair.0, λ label signed. sym (pair.2 label signed))

  turned_back : (s t : Labels) → IsPair m P Q s t → IsPair m Q P t s
  turned_back s t pair = (pair.1, pair.0, λ label signed. sym (pair.2 label signed))

  pub from_right : m.group ≡ Right → (o : Option (List Labels)) → InOrder (ManyPairs op m Q P) o → InOrder (StrictPairs op m P Q) o
  from_right e o is = by outs o is
    where
      outs : (s t : Labels) → out op m s t ≡ result_of m.group op m t s
      outs s t = ap (λ g. paired g op m s t) e ∙ sym (ap (λ g. result_of g op m t s) e)

      by : ((s t : Labels) → out op m s t ≡ result_of m.group op m t s) → (o : Option (List Labels)) → InOrder (ManyPairs op m Q P) o → InOrder (StrictPairs op m P Q) o
      by outs None (inl two) = inl (subst (λ g. IsAmbiguous g m P Q) (sym e) two)
      by outs None (inr (s, t, u, v, p, q, differ, same)) = inr (t, s, v, u, turned t s p, turned v u q, ⊎_swap differ, outs t s ∙ same ∙ sym (outs v u))
      by outs (Some R) given = (
        (
          (
            λ r c. let from = given.0.0.0 r c in let pair = turned from.1 from.0 from.2 in (from.1, from.0, pair.0, pair.1, pair.2, from.3 ∙ sym (outs from.1 from.0)),
            λ s t a b same. subst (Contains R) (sym (outs s t)) (given.0.0.1 t s (turned_back s t (a, b, same))),
          ),
          λ two. given.0.1 (subst (λ g. IsAmbiguous g m P Q) e two),
          λ two. given.0.2 (two.1, two.0, two.3, two.2, turned_back two.0 two.1 two.4, turned_back two.2 two.3 two.5, ⊎_swap two.6, sym (outs two.0 two.1) ∙ two.7 ∙ outs two.2 two.3),
        ),
        given.1,
      )

-- all operators but those of sets give pairs
pub pairs_combine : (op : Op) (m : Matching) (P Q : List Labels) → (op ≡ And → ⊥) → (op ≡ Or → ⊥) → (op ≡ Unless → ⊥) → (o : Option (List Labels)) → InOrder (StrictPairs op m P Q) o → InOrder (StrictCombines op m P Q) o
pairs_combine Add m P Q a b c o is = is
pairs_combine Subtract m P Q a b c o is = is
pairs_combine Multiply m P Q a b c o is = is
pairs_combine Divide m P Q a b c o is = is
pairs_combine Modulo m P Q a b c o is = is
pairs_combine Power m P Q a b c o is = is
pairs_combine Atan2 m P Q a b c o is = is
pairs_combine Equal m P Q a b c o is = is
pairs_combine NotEqual m P Q a b c o is = is
pairs_combine LessOrEqual m P Q a b c o is = is
pairs_combine Less m P Q a b c o is = is
pairs_combine GreaterOrEqual m P Q a b c o is = is
pairs_combine Greater m P Q a b c o is = is
pairs_combine And m P Q a b c o is = absurd (a refl)
pairs_combine Or m P Q a b c o is = absurd (b refl)
pairs_combine Unless m P Q a b c o is = absurd (c refl)
