-- Lists of exactly the findings for which something holds.
use Rattle.std.proofs.Common.{◌≡◌, ◌<◌, ◌≤◌, ◌+◌, ◌⊎◌, ℕ, inl, inr, length, get_or, take, true, false, Bool, List, [], ◌∷◌, ◌++◌, cond, refl, sym, ap, ◌∙◌, subst}
use Rattle.std.proofs.lemmas.List.{map-append, take_all, take_more}
use Rattle.std.proofs.lemmas.List.Elements.{All-append, All-cons, All-nil, Contains-append_cases, Contains-append_left, Contains-append_right}
use Rattle.std.specs.List.{All, Contains}
use Rattle.lf_laws.specs.Gaining.{OfSome}
use Rattle.lf_laws.proofs.Members.{here, none_in, only_one}
use Rattle.lf_base.specs.declared.place.Span.{Span}
use Rattle.lf_ast.specs.Labels.{Bytes}
use Rattle.lf_ast.specs.Rules.{RuleTree}
use Rattle.lf_ast.specs.declared.verdict.Finding.{Finding as Row}
use Rattle.lf_checks.specs.Files.{File}
use Rattle.lf_checks.specs.Finding.{Finding, finding}
use Rattle.lf_checks.specs.Numbers.{HasNumbers}
use Rattle.lf_checks.specs.declared.case.Case.{Case}
use Rattle.lf_checks.specs.views.Cases.{IsAbout, check_of, row_of, says_of}
use Rattle.lf_checks.specs.views.Shown.{AreNumbered, Lists, ListsAlone, NumberedAlone, all_shown, shown}

module _ (files : List File) (rules : List RuleTree) (is : Finding → Type 0) (found : List Row) where
  -- none
  pub lists_none : all_shown files rules found ≡ [] → ((f : Finding) → is f → ⊥) → Lists files rules is found
  lists_none e none = record {
    each = λ f c. absurd (none_in f (subst (λ (l : List Finding). Contains l f) e c));
    all = λ f h. absurd (none f h);
  }

  -- one
  pub lists_one : (g : Finding) → all_shown files rules found ≡ g ∷ [] → is g → ((f : Finding) → is f → f ≡ g) → Lists files rules is found
  lists_one g e h one = record {
    each = λ f c. subst is (only_one g f (subst (λ (l : List Finding). Contains l f) e c)) h;
    all = λ f k. subst (λ (l : List Finding). Contains l f) (sym e) (subst (Contains (g ∷ [])) (sym (one f k)) (here g []));
  }

  -- one where a test holds, and else none
  pub lists_if : (b : Bool) (g : Finding) → all_shown files rules found ≡ cond b (g ∷ []) [] → (b ≡ true → is g) → ((f : Finding) → is f → (b ≡ true) × (f ≡ g)) → Lists files rules is found
  lists_if true g e h one = lists_one g e (h refl) (λ f k. (one f k).1)
  lists_if false g e h one = lists_none e (λ f k. let e : false ≡ true = (one f k).0 in cc)

-- ---- numbers

-- each case is told, and has the numbers of what it says
pub case_shown : (case : Case) (span : Span) (label : Bytes) (files : List File) (rules : List RuleTree) → shown files rules (row_of case span label) ≡ finding (check_of case) span (says_of case label [])
case_shown Case.ComparesNothing span label files rules = refl
case_shown Case.NeverOnAlert span label files rules = refl
case_shown Case.UnreadableTemplate span label files rules = refl
case_shown Case.SameRule span label files rules = refl
case_shown Case.Unrecorded span label files rules = refl
case_shown Case.Cyclic span label files rules = refl
case_shown Case.PlainPattern span label files rules = refl
case_shown Case.AnchoredPattern span label files rules = refl
case_shown Case.NeverOnOperand span label files rules = refl
case_shown Case.NoSample span label files rules = refl
case_shown Case.WrongType span label files rules = refl
case_shown Case.ReplacesLabel span label files rules = refl
case_shown Case.RemovesNothing span label files rules = refl

abbrev pub Numbered : Row → Type 0
Numbered row = (files : List File) (rules : List RuleTree) (i : ℕ) → HasNumbers rules i (shown files rules row) row

pub case_numbered : (case : Case) (span : Span) (label : Bytes) → IsAbout case label → Numbered (row_of case span label)
case_numbered Case.ComparesNothing span label e files rules i = record { check = refl; span = refl; case = (e, refl); other = refl }
case_numbered Case.NeverOnAlert span label e files rules i = record { check = refl; span = refl; case = refl; other = refl }
case_numbered Case.UnreadableTemplate span label e files rules i = record { check = refl; span = refl; case = (e, refl); other = refl }
case_numbered Case.SameRule span label e files rules i = absurd e
case_numbered Case.Unrecorded span label e files rules i = record { check = refl; span = refl; case = refl; other = refl }
case_numbered Case.Cyclic span label e files rules i = record { check = refl; span = refl; case = refl; other = refl }
case_numbered Case.PlainPattern span label e files rules i = record { check = refl; span = refl; case = (e, refl); other = refl }
case_numbered Case.AnchoredPattern span label e files rules i = record { check = refl; span = refl; case = (e, refl); other = refl }
case_numbered Case.NeverOnOperand span label e files rules i = record { check = refl; span = refl; case = refl; other = refl }
case_numbered Case.NoSample span label e files rules i = record { check = refl; span = refl; case = (e, refl); other = refl }
case_numbered Case.WrongType span label e files rules i = record { check = refl; span = refl; case = (e, refl); other = refl }
case_numbered Case.ReplacesLabel span label e files rules i = record { check = refl; span = refl; case = refl; other = refl }
case_numbered Case.RemovesNothing span label e files rules i = record { check = refl; span = refl; case = refl; other = refl }

pub numbered_none : NumberedAlone []
numbered_none files rules i = All-nil (λ (f : Row). HasNumbers rules i (shown files rules f) f)

pub numbered_one : (row : Row) → Numbered row → NumberedAlone (row ∷ [])
numbered_one row h files rules i = All-cons (λ (f : Row). HasNumbers rules i (shown files rules f) f) row [] (h files rules i) (numbered_none files rules i)

pub numbered_both : (one other found : List Row) → NumberedAlone one → NumberedAlone other → found ≡ one ++ other → NumberedAlone found
numbered_both one other found a b e files rules i =
    let P : Row → Type 0 = λ f. HasNumbers rules i (shown files rules f) f in
    subst (All P) (sym e) (All-append P one other (a files rules i) (b files rules i))

-- ---- what is found along a list, of each of its elements

lists_more : {X : Type 0} (P : X → Finding → Type 0) (xs : List X) (x : X) (found more : List Row) → ((files : List File) (rules : List RuleTree) → Lists files rules (OfSome P xs) found) → ((files : List File) (rules : List RuleTree) → Lists files rules (P x) more)
    → (files : List File) (rules : List RuleTree) → Lists files rules (OfSome P (xs ++ x ∷ [])) (found ++ more)
lists_more {X} P xs x found more before here_now files rules =
    let old = before files rules in
    let new = here_now files rules in
    let one = all_shown files rules found in
    let other = all_shown files rules more in
    let joined : all_shown files rules (found ++ more) ≡ one ++ other = map-append (shown files rules) found more in
    let Q : Finding → List Finding → Type 0 = λ f l. Contains l f in
    record {
      each = λ f c. elim (Contains-append_cases one other f (subst (Q f) joined c)) [
        | inl d ↦ let h = old.each f d in (h.0, Contains-append_left xs (x ∷ []) h.0 h.1, h.2)
        | inr d ↦ (x, Contains-append_right xs (x ∷ []) x (here x []), new.each f d)
      ];
      all = λ f h. subst (Q f) (sym joined) (elim (Contains-append_cases xs (x ∷ []) h.0 h.1) [
        | inl d ↦ Contains-append_left one other f (old.all f (h.0, d, h.2))
        | inr d ↦ Contains-append_right one other f (new.all f (let R : X → Type 0 = λ z. P z f in subst R (sym (only_one x h.0 d)) h.2))
      ]);
    }

pub along_more : {X : Type 0} (P : X → Finding → Type 0) (xs : List X) (x : X) (found more : List Row) → ListsAlone (OfSome P xs) found → ListsAlone (P x) more → ListsAlone (OfSome P (xs ++ x ∷ [])) (found ++ more)
along_more {X} P xs x found more before here_now = record {
  lists = lists_more P xs x found more before.lists here_now.lists;
  numbers = numbered_both found more (found ++ more) before.numbers here_now.numbers refl;
}

-- a loop over the list: one element more, and the end
pub along_next : {X : Type 0} (P : X → Finding → Type 0) (xs : List X) (i : ℕ) (x : X) → i < length xs → x ≡ get_or xs i x → (found more after : List Row) → after ≡ found ++ more → ListsAlone (OfSome P (take i xs)) found → ListsAlone (P x) more
    → ListsAlone (OfSome P (take (i + 1) xs)) after
along_next {X} P xs i x inside is found more after e before here_now =
    let next : take i xs ++ x ∷ [] ≡ take (i + 1) xs = ap (λ (y : X). take i xs ++ y ∷ []) is ∙ sym (take_more xs i x inside) in
    let Q : List X → Type 0 = λ ys. ListsAlone (OfSome P ys) after in
    let R : List Row → Type 0 = λ l. ListsAlone (OfSome P (take i xs ++ x ∷ [])) l in
    subst Q next (subst R (sym e) (along_more P (take i xs) x found more before here_now))

pub along_end : {X : Type 0} (P : X → Finding → Type 0) (xs : List X) (i : ℕ) → length xs ≤ i → (found : List Row) → ListsAlone (OfSome P (take i xs)) found → ListsAlone (OfSome P xs) found
along_end {X} P xs i ends found h = let Q : List X → Type 0 = λ ys. ListsAlone (OfSome P ys) found in subst Q (take_all i xs ends) h

-- what holds of the same findings has the same lists
pub lists_same : (files : List File) (rules : List RuleTree) (is also : Finding → Type 0) (found : List Row) → ((f : Finding) → is f → also f) → ((f : Finding) → also f → is f) → Lists files rules is found → Lists files rules also found
lists_same files rules is also found to from h = record { each = λ f c. to f (h.each f c); all = λ f k. h.all f (from f k) }

-- two lists, one behind the other
pub lists_both : (files : List File) (rules : List RuleTree) (is also : Finding → Type 0) (one other found : List Row) → Lists files rules is one → Lists files rules also other → found ≡ one ++ other → Lists files rules (λ f. is f ⊎ also f) found
lists_both files rules is also one other found a b e =
    let joined : all_shown files rules found ≡ all_shown files rules one ++ all_shown files rules other = ap (all_shown files rules) e ∙ map-append (shown files rules) one other in
    let Q : Finding → List Finding → Type 0 = λ f l. Contains l f in
    record {
      each = λ f c. elim (Contains-append_cases (all_shown files rules one) (all_shown files rules other) f (subst (Q f) joined c)) [ inl d ↦ inl (a.each f d) | inr d ↦ inr (b.each f d) ];
      all = λ f h. subst (Q f) (sym joined) (elim h [
        | inl p ↦ Contains-append_left (all_shown files rules one) (all_shown files rules other) f (a.all f p)
        | inr p ↦ Contains-append_right (all_shown files rules one) (all_shown files rules other) f (b.all f p)
      ]);
    }

pub alone_both : (is also : Finding → Type 0) (one other found : List Row) → ListsAlone is one → ListsAlone also other → found ≡ one ++ other → ListsAlone (λ f. is f ⊎ also f) found
alone_both is also one other found a b e = record {
  lists = λ files rules. lists_both files rules is also one other found (a.lists files rules) (b.lists files rules) e;
  numbers = numbered_both one other found a.numbers b.numbers e;
}

pub alone_same : (is also : Finding → Type 0) (found : List Row) → ((f : Finding) → is f → also f) → ((f : Finding) → also f → is f) → ListsAlone is found → ListsAlone also found
alone_same is also found to from h = record { lists = λ files rules. lists_same files rules is also found to from (h.lists files rules); numbers = h.numbers }

-- the finding of a case, where a test holds
pub alone_if : (is : Finding → Type 0) (found : List Row) (b : Bool) (case : Case) (span : Span) (label : Bytes) → IsAbout case label → found ≡ cond b (row_of case span label ∷ []) []
    → (b ≡ true → is (finding (check_of case) span (says_of case label []))) → ((f : Finding) → is f → (b ≡ true) × (f ≡ finding (check_of case) span (says_of case label []))) → ListsAlone is found
alone_if is found b case span label about e holds one = record {
  lists = λ files rules. lists_if files rules is found b (finding (check_of case) span (says_of case label [])) (ap (all_shown files rules) e ∙ shown_if b files rules) holds one;
  numbers = λ files rules i. let P : List Row → Type 0 = λ l. AreNumbered files rules i l in subst P (sym e) (numbered_if b files rules i);
}
  where
    shown_if : (b : Bool) (files : List File) (rules : List RuleTree) → all_shown files rules (cond b (row_of case span label ∷ []) []) ≡ cond b (finding (check_of case) span (says_of case label []) ∷ []) []
    shown_if true files rules = ap (λ (f : Finding). f ∷ []) (case_shown case span label files rules)
    shown_if false files rules = refl

    numbered_if : (b : Bool) (files : List File) (rules : List RuleTree) (i : ℕ) → AreNumbered files rules i (cond b (row_of case span label ∷ []) [])
    numbered_if true files rules i = numbered_one (row_of case span label) (case_numbered case span label about) files rules i
    numbered_if false files rules i = numbered_none files rules i
