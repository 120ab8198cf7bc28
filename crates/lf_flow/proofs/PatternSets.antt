-- Which classes may match a pattern and may fail it, and whether a set has one of them.
use Rattle.std.proofs.Common.{◌≡◌, ℕ, ◌+◌, ◌<◌, Bool, true, false, not, ◌&&◌, ◌||◌, cond, eqb, List, [], ◌∷◌, length, get_or, ltb, refl, sym, ◌∙◌, ap, subst, arith}
use Rattle.std.specs.List.{list_any}
use Rattle.std.proofs.lemmas.Bool.Decides.{Decides-eqb, Decides-ltb, nat_tests}
use Rattle.lf_ast.specs.Labels.{Bytes}
use Rattle.lf_pattern.specs.Matching.{IsRead, matches}
use Rattle.lf_base.specs.Names.{is_label_name}
use Rattle.lf_semantics.specs.ClassRows.{HasShape, Sets}
use Rattle.lf_semantics.specs.Listing.{Listing, class_texts, label_of, named_at, other_class}
use Rattle.lf_semantics.specs.Passing.{is_plain}
use Rattle.lf_semantics.specs.RowTable.{has_class, is_other, may_fail, may_match, set_at, source_set}
use Rattle.lf_semantics.proofs.PatternFaults.{unread_is}
use Rattle.lf_classes.proofs.Unread.{unread_matches}
use Rattle.lf_flow.specs.views.ClassSets.{IsSet}
use Rattle.lf_flow.proofs.ClassSets.{indexed_same, set_length}

not_other : (u : Listing) (label class : ℕ) → class < other_class u label → is_other u label class ≡ false
not_other u label class h = ap not ((Decides-ltb class (other_class u label)).1 h)

other_at : (u : Listing) (label class : ℕ) → class ≡ other_class u label → is_other u label class ≡ true
other_at u label class e = by (ltb class (other_class u label)) refl
  where
    by : (b : Bool) → ltb class (other_class u label) ≡ b → not b ≡ true
    by false f = refl
    by true f = absurd (let h : class < other_class u label = (Decides-ltb class (other_class u label)).0 f in omega arith)

module _ (u : Listing) (pattern : Bytes) (label class : ℕ) where
  pub match_named : (text : Bytes) → class < other_class u label → text ≡ get_or (class_texts u label) class [] → may_match u pattern label class ≡ matches pattern text
  match_named text h e = rw (not_other u label class h) (ap (matches pattern) (sym e))

  pub match_other : class ≡ other_class u label → may_match u pattern label class ≡ not (is_plain pattern)
  match_other e = rw (other_at u label class e) refl

  fail_named : class < other_class u label → may_fail u pattern label class ≡ not (may_match u pattern label class)
  fail_named h = rw (not_other u label class h) refl

  fail_other : class ≡ other_class u label → may_fail u pattern label class ≡ true
  fail_other e = rw (other_at u label class e) refl

pub retested : (n : ℕ) (test other : ℕ → Bool) (on : List Bool) → ((class : ℕ) → class < n → test class ≡ other class) → IsSet n test on → IsSet n other on
retested n test other on same set = record { count = set.count; each = λ class h. set.each class h ∙ same class h }

module _ (u : Listing) (pattern : Bytes) (label : ℕ) where
  abbrev size : ℕ
  size = length (named_at u label) + 2

  -- what is no pattern is matched by no text that is a class of its own
  unread_at : (IsRead pattern → ⊥) → (class : ℕ) → class < size → (eqb (class + 1) size && not (is_plain pattern)) ≡ may_match u pattern label class
  unread_at none class h = by (eqb (class + 1) size) refl
    where
      by : (t : Bool) → eqb (class + 1) size ≡ t → (t && not (is_plain pattern)) ≡ may_match u pattern label class
      by true f = let e : class + 1 ≡ size = (Decides-eqb (class + 1) size).0 f in sym (match_other u pattern label class (omega arith))
      by false f =
          let h : class < other_class u label = grind (arith, nat_tests, f) in
          sym (match_named u pattern label class _ h refl ∙ unread_matches pattern _ ((unread_is pattern).1 none))

  pub unread_set : (n : ℕ) (other : Bool) (on : List Bool) → n ≡ size → other ≡ not (is_plain pattern) → (IsRead pattern → ⊥) → IsSet n (λ class. eqb (class + 1) n && other) on → IsSet size (may_match u pattern label) on
  unread_set n other on count e none set =
      let P : ℕ → Type 0 = λ k. IsSet k (λ class. eqb (class + 1) k && other) on in
      retested size _ (may_match u pattern label) on (λ class h. ap (λ b. eqb (class + 1) size && b) e ∙ unread_at none class h) (subst P count set)

  failed_at : (matched : List Bool) → IsSet size (may_match u pattern label) matched → (class : ℕ) → class < size → (eqb (class + 1) size || not (get_or matched class false)) ≡ may_fail u pattern label class
  failed_at matched set class h = by (eqb (class + 1) size) refl
    where
      by : (t : Bool) → eqb (class + 1) size ≡ t → (t || not (get_or matched class false)) ≡ may_fail u pattern label class
      by true f = let e : class + 1 ≡ size = (Decides-eqb (class + 1) size).0 f in sym (fail_other u pattern label class (omega arith))
      by false f = let h : class < other_class u label = grind (arith, nat_tests, f) in ap not (set.each class (omega arith)) ∙ sym (fail_named u pattern label class h)

  -- those that don't match, and 'any other text', may fail
  pub failed_set : (xs matched failed : List Bool) → xs ≡ matched → IsSet size (may_match u pattern label) matched
      → IsSet (length xs) (λ class. eqb (class + 1) (length xs) || not (get_or xs class false)) failed → IsSet size (may_fail u pattern label) failed
  failed_set xs matched failed e set is =
      let P : List Bool → Type 0 = λ ys. IsSet (length ys) (λ class. eqb (class + 1) (length ys) || not (get_or ys class false)) failed in
      let Q : ℕ → Type 0 = λ n. IsSet n (λ class. eqb (class + 1) n || not (get_or matched class false)) failed in
      retested size _ (may_fail u pattern label) failed (failed_at matched set) (subst Q set.count (subst P e is))

-- whether a set has a class that passes depends on its classes alone
has_class_same : (u : Listing) (test other : ℕ → Bool) (set : List Bool) → ((class : ℕ) → class < length set → test class ≡ other class) → has_class u test set ≡ has_class u other set
has_class_same u test other set same =
    ap (list_any (λ on. on))
    (indexed_same (λ class on. on && test class) (λ class on. on && other class) false 0 set
    (λ class h. let e : 0 + class ≡ class = omega arith in rw e (ap (λ b. get_or set class false && b) (same class h))))

pub has_class_of : (u : Listing) (n : ℕ) (test : ℕ → Bool) (on set : List Bool) → IsSet n test on → length set ≡ n → has_class u (λ class. get_or on class false) set ≡ has_class u test set
has_class_of u n test on set is e = has_class_same u _ test set (λ class h. is.each class (omega (arith, e)))

-- a source that is a label name has a class that passes
pub met : (u : Listing) (row : Sets) (source : Bytes) (label : ℕ) (on items : List Bool) (test : ℕ → ℕ → Bool) → HasShape u row → label < length u.named → label ≡ label_of u source → on ≡ items
    → IsSet (length (named_at u label) + 2) (test label) items → is_label_name source ≡ true
    → has_class u (λ class. get_or on class false) (set_at u row label) ≡ has_class u (test (label_of u source)) (source_set u row source)
met u row source label on items test shape within p q set named =
    ap (λ xs. has_class u (λ class. get_or xs class false) (set_at u row label)) q
    ∙ has_class_of u (length (named_at u label) + 2) (test label) items (set_at u row label) set (set_length u row shape label within)
    ∙ ap (λ k. has_class u (test k) (set_at u row k)) p
    ∙ sym (ap (λ b. has_class u (test (label_of u source)) (cond b (set_at u row (label_of u source)) (true ∷ []))) named)
