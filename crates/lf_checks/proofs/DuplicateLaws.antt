-- The first rule that is the same, by what rules are written as.
use Rattle.std.proofs.Common.{◌≡◌, ◌+◌, ◌<◌, ◌≤◌, ◌⊎◌, inl, inr, ℕ, Bool, zero, suc, true, false, cond, List, [], ◌∷◌, ◌++◌, length, take, get_or, Option, Some, None, refl, sym, subst, ap, ◌∙◌, arith, length-append}
use Rattle.std.specs.List.{Contains}
use Rattle.std.specs.Prelude.{nat_lt, slice_get}
use Rattle.std.specs.Str.{bytes_eq}
use Rattle.std.proofs.Math.Seq.{get_or-append_seam, take-append_seam}
use Rattle.std.proofs.lemmas.List.{get_or_append_left, length-map, length-take-le, take-append-le}
use Rattle.std.proofs.lemmas.List.Elements.{All-cons, All-nil}
use Rattle.std.proofs.lemmas.List.Folds.{position_or_len_push}
use Rattle.std.proofs.lemmas.Option.{slice_get_within}
use Rattle.std.proofs.Math.Nat.{eq-or-lt_of_le}
use Rattle.lf_laws.proofs.Slices.{at_end}
use Rattle.lf_ast.specs.Labels.{Bytes}
use Rattle.lf_ast.specs.Rules.{RuleTree}
use Rattle.lf_semantics.specs.Listing.{place}
use Rattle.lf_semantics.proofs.Places.{at_place, eqb-other, place_last}
use Rattle.lf_ast.specs.Rules.{rule_tree, rule_trees}
use Rattle.lf_ast.specs.declared.rule.Rule.{Rule}
use Rattle.lf_ast.specs.declared.verdict.Finding.{Finding as Row}
use Rattle.std.proofs.lemmas.Option.{get_or_from_slice_get}
use Rattle.std.proofs.lemmas.Bool.{cases_lt, le-ltb, lt-ltb}
use Rattle.lf_classes.specs.views.TextSets.{with_text}
use Rattle.lf_deps.specs.views.Index.{makers_of}
use Rattle.lf_deps.specs.views.Sources.{IsSourcesOf, Sources}
use Rattle.lf_deps.proofs.LookedUp.{recorded_from}
use Rattle.lf_checks.specs.Files.{File, StandIn, place_in}
use Rattle.lf_checks.specs.Finding.{Finding, RuleDuplicate, finding}
use Rattle.lf_checks.specs.Numbers.{HasNumbers}
use Rattle.lf_checks.specs.RuleDuplicate.{AreSameRule, IsFirstAt, IsFound, says_where}
use Rattle.lf_checks.specs.views.Cases.{same_row}
use Rattle.lf_checks.specs.views.Shown.{AreNumbered, Lists, place_of, shown}
use Rattle.lf_checks.proofs.Lists.{lists_none, lists_one}
use Rattle.lf_checks.specs.views.Duplicates.{AreFirsts, AreKept, HaveNone, IsFirst, IsFirstOf, is_shared}
use Rattle.lf_checks.specs.views.Keys.{key_of}
use Rattle.lf_checks.proofs.KeyLaws.{key_same, same_key}

-- ---- lists

get_left : {X : Type 0} (xs : List X) (y x : X) (j : ℕ) → slice_get xs j ≡ Some x → slice_get (xs ++ y ∷ []) j ≡ Some x
get_left {X} [] y x j e = let no_way : None ≡ Some x = e in absurd (cc)
get_left {X} (z ∷ xs) y x zero e = e
get_left {X} (z ∷ xs) y x (suc j) e = get_left xs y x j e

get_cases : {X : Type 0} (xs : List X) (y x : X) (j : ℕ) → slice_get (xs ++ y ∷ []) j ≡ Some x → (slice_get xs j ≡ Some x) ⊎ ((j ≡ length xs) × (y ≡ x))
get_cases {X} [] y x zero e = inr (refl, (let same : Some y ≡ Some x = e in cc))
get_cases {X} [] y x (suc j) e = let no_way : None ≡ Some x = e in absurd (cc)
get_cases {X} (z ∷ xs) y x zero e = inl e
get_cases {X} (z ∷ xs) y x (suc j) e = elim (get_cases xs y x j e) [
  | inl h ↦ inl h
  | inr h ↦ inr (ap suc h.0, h.1)
]

place_kept : (texts : List Bytes) (t x : Bytes) → place texts x < length texts → place (texts ++ t ∷ []) x ≡ place texts x
place_kept texts t x lt =
    position_or_len_push (λ y. bytes_eq y x) texts t
    ∙ ap (λ b. cond b (length texts + cond (bytes_eq t x) 0 1) (place texts x)) (eqb-other (place texts x) (length texts) (λ e. omega (arith, e, lt)))

-- what a text added to others makes of them

pub known_text : (texts : List Bytes) (t : Bytes) → place texts t < length texts → with_text texts t ≡ texts
known_text texts t lt = ap (λ b. cond b texts (texts ++ t ∷ [])) (lt-ltb (place texts t) (length texts) lt)

pub new_text : (texts : List Bytes) (t : Bytes) → length texts ≤ place texts t → with_text texts t ≡ texts ++ t ∷ []
new_text texts t le = ap (λ b. cond b texts (texts ++ t ∷ [])) (le-ltb (place texts t) (length texts) le)

-- ---- what is kept

module _ (among : Bytes → Bool) (rules : List RuleTree) (keys : List Bytes) (numbers : List ℕ) (kept : AreKept among rules keys numbers) (r : RuleTree) where
  pub alert_kept : r.alert ≡ true → AreKept among (rules ++ r ∷ []) keys numbers
  alert_kept alert = record {
    count = kept.count;
    each = λ p lt. let h = kept.each p lt in (h.0, get_left rules r h.0 (get_or numbers p 0) h.1, h.2, h.3);
    all = λ j s e recorded named. elim (get_cases rules r s j e) [
      | inl h ↦ kept.all j s h recorded named
      | inr h ↦ let no_way : true ≡ false = sym alert ∙ ap (λ (x : RuleTree). x.alert) h.1 ∙ recorded in absurd (cc)
    ];
  }

  -- a rule with another name
  pub alone_kept : among r.name ≡ false → AreKept among (rules ++ r ∷ []) keys numbers
  alone_kept alone = record {
    count = kept.count;
    each = λ p lt. let h = kept.each p lt in (h.0, get_left rules r h.0 (get_or numbers p 0) h.1, h.2, h.3);
    all = λ j s e recorded named. elim (get_cases rules r s j e) [
      | inl h ↦ kept.all j s h recorded named
      | inr h ↦ let no_way : false ≡ true = sym alone ∙ ap (λ (x : RuleTree). among x.name) h.1 ∙ named in absurd (cc)
    ];
  }

  -- a rule that is written as one that is kept
  module _ (recorded : r.alert ≡ false) (is_among : among r.name ≡ true) where
    as_named : (t : RuleTree) → r.name ≡ t.name → among t.name ≡ true
    as_named t e = ap among (sym e) ∙ is_among

    pub known_first : place keys (key_of r) < length keys → IsFirst rules r (get_or numbers (place keys (key_of r)) 0)
    known_first lt =
        let h = kept.each (place keys (key_of r)) lt in
        let key : key_of r ≡ key_of h.0 = sym (at_place keys (key_of r) lt) ∙ h.3 in
        let say = key_same r h.0 key in (
          h.0,
          h.1,
          (recorded, h.2, say.0, say.1, say.2),
          λ k t less e same.
              let there = kept.all k t e same.1 (as_named t same.2) in
              let as_t : key_of t ≡ key_of r = sym (same_key r t (same.2, same.3, same.4)) in
              let at_most : get_or numbers (place keys (key_of r)) 0 ≤ k = subst (λ (x : Bytes). get_or numbers (place keys x) 0 ≤ k) as_t there.1 in
              omega (arith, at_most, less),
        )

    pub known_kept : place keys (key_of r) < length keys → AreKept among (rules ++ r ∷ []) keys numbers
    known_kept lt = record {
      count = kept.count;
      each = λ p less. let h = kept.each p less in (h.0, get_left rules r h.0 (get_or numbers p 0) h.1, h.2, h.3);
      all = λ j s e alert named. elim (get_cases rules r s j e) [
        | inl h ↦ kept.all j s h alert named
        | inr h ↦
            let one = kept.each (place keys (key_of r)) lt in
            let below : get_or numbers (place keys (key_of r)) 0 < length rules = slice_get_within rules (get_or numbers (place keys (key_of r)) 0) one.0 one.1 in
            let at : get_or numbers (place keys (key_of r)) 0 ≤ j = omega (arith, below, h.0) in
            (subst (λ (x : RuleTree). place keys (key_of x) < length keys) h.1 lt, subst (λ (x : RuleTree). get_or numbers (place keys (key_of x)) 0 ≤ j) h.1 at)
      ];
    }

    -- a rule that is written as none that is kept
    pub new_first : length keys ≤ place keys (key_of r) → HaveNone rules r
    new_first behind j s e same =
        let there = (kept.all j s e same.1 (as_named s same.2)).0 in
        let as_s : key_of s ≡ key_of r = sym (same_key r s (same.2, same.3, same.4)) in
        let within : place keys (key_of r) < length keys = subst (λ (x : Bytes). place keys x < length keys) as_s there in
        omega (arith, within, behind)

    pub new_kept : length keys ≤ place keys (key_of r) → AreKept among (rules ++ r ∷ []) (keys ++ key_of r ∷ []) (numbers ++ length rules ∷ [])
    new_kept behind = record {
      count = length-append numbers (length rules ∷ []) ∙ ap (λ n. n + 1) kept.count ∙ sym (length-append keys (key_of r ∷ []));
      each = λ p lt. elim (eq-or-lt_of_le (at_most p lt)) [
        | inl e ↦ (r, last p e, recorded, end keys (key_of r) [] p e)
        | inr less ↦
            let h = kept.each p less in
            let count = kept.count in
            let number : get_or (numbers ++ length rules ∷ []) p 0 ≡ get_or numbers p 0 = get_or_append_left numbers (length rules ∷ []) 0 p (omega (arith, less, count)) in
            (h.0, subst (λ (n : ℕ). slice_get (rules ++ r ∷ []) n ≡ Some h.0) (sym number) (get_left rules r h.0 (get_or numbers p 0) h.1), h.2, get_or_append_left keys (key_of r ∷ []) [] p less ∙ h.3)
      ];
      all = λ j s e alert named. elim (get_cases rules r s j e) [
        | inl h ↦
            let old = kept.all j s h alert named in
            let count = kept.count in
            let same = place_kept keys (key_of r) (key_of s) old.0 in
            let long = length-append keys (key_of r ∷ []) in
            let number : get_or (numbers ++ length rules ∷ []) (place keys (key_of s)) 0 ≡ get_or numbers (place keys (key_of s)) 0 =
            get_or_append_left numbers (length rules ∷ []) 0 (place keys (key_of s)) (omega (arith, old.0, count)) in (
              subst (λ (n : ℕ). n < length (keys ++ key_of r ∷ [])) (sym same) (omega (arith, old.0, long)),
              subst (λ (n : ℕ). get_or (numbers ++ length rules ∷ []) n 0 ≤ j) (sym same) (subst (λ (n : ℕ). n ≤ j) (sym number) old.1),
            )
        | inr h ↦
            let at : place (keys ++ key_of r ∷ []) (key_of r) ≡ length keys = place_last keys (key_of r) behind in
            let long = length-append keys (key_of r ∷ []) in
            let number : get_or (numbers ++ length rules ∷ []) (length keys) 0 ≡ length rules = end numbers (length rules) 0 (length keys) (sym kept.count) in
            let first : (place (keys ++ key_of r ∷ []) (key_of r) < length (keys ++ key_of r ∷ [])) × (get_or (numbers ++ length rules ∷ []) (place (keys ++ key_of r ∷ []) (key_of r)) 0 ≤ j) = (
              subst (λ (n : ℕ). n < length (keys ++ key_of r ∷ [])) (sym at) (omega (arith, long)),
              subst (λ (n : ℕ). get_or (numbers ++ length rules ∷ []) n 0 ≤ j) (sym at) (subst (λ (n : ℕ). n ≤ j) (sym number) (let le : length rules ≤ j = omega (arith, h.0) in le)),
            ) in
            subst (λ (x : RuleTree). (place (keys ++ key_of r ∷ []) (key_of x) < length (keys ++ key_of r ∷ [])) × (get_or (numbers ++ length rules ∷ []) (place (keys ++ key_of r ∷ []) (key_of x)) 0 ≤ j)) h.1 first
      ];
    }
      where
        end : {X : Type 0} (xs : List X) (y d : X) (k : ℕ) → k ≡ length xs → get_or (xs ++ y ∷ []) k d ≡ y
        end {X} xs y d k e = subst (λ (n : ℕ). get_or (xs ++ y ∷ []) n d ≡ y) (sym e) (get_or-append_seam xs y [] d)

        at_most : (p : ℕ) → p < length (keys ++ key_of r ∷ []) → p ≤ length keys
        at_most p lt = let long = length-append keys (key_of r ∷ []) in omega (arith, lt, long)

        last : (p : ℕ) → p ≡ length keys → slice_get (rules ++ r ∷ []) (get_or (numbers ++ length rules ∷ []) p 0) ≡ Some r
        last p e = subst (λ (n : ℕ). slice_get (rules ++ r ∷ []) n ≡ Some r) (sym (end numbers (length rules) 0 p (e ∙ sym kept.count))) (at_end rules r)

-- ---- one more rule, written as this text, which has this place among those that are kept

module _ (among : Bytes → Bool) (rules : List RuleTree) (keys : List Bytes) (numbers : List ℕ) (kept : AreKept among rules keys numbers) (r : RuleTree) (recorded : r.alert ≡ false) (is_among : among r.name ≡ true) (key : Bytes) (written : key ≡ key_of r) (at : ℕ) (is : at ≡ place keys key) where
  there : at ≡ place keys (key_of r)
  there = is ∙ ap (place keys) written

  pub found_first : (number : ℕ) → at < length numbers → get_or numbers at 0 ≡ number → IsFirst rules r number
  found_first number lt e =
      let count = kept.count in
      let within : place keys (key_of r) < length keys = subst (λ (n : ℕ). n < length keys) there (omega (arith, lt, count)) in
      subst (IsFirst rules r) (ap (λ n. get_or numbers n 0) (sym there) ∙ e) (known_first among rules keys numbers kept r recorded is_among within)

  pub found_kept : (after : List Bytes) → at < length numbers → after ≡ with_text keys key → AreKept among (rules ++ r ∷ []) after numbers
  found_kept after lt e =
      let count = kept.count in
      let within : place keys key < length keys = subst (λ (n : ℕ). n < length keys) is (omega (arith, lt, count)) in
      let too : place keys (key_of r) < length keys = subst (λ (t : Bytes). place keys t < length keys) written within in
      subst (λ (l : List Bytes). AreKept among (rules ++ r ∷ []) l numbers) (sym (e ∙ known_text keys key within)) (known_kept among rules keys numbers kept r recorded is_among too)

  pub unfound_first : length numbers ≤ at → HaveNone rules r
  unfound_first le =
      let count = kept.count in
      new_first among rules keys numbers kept r recorded is_among (subst (λ (n : ℕ). length keys ≤ n) there (omega (arith, le, count)))

  pub unfound_kept : (after : List Bytes) (more : List ℕ) (number : ℕ) → length numbers ≤ at → after ≡ with_text keys key → more ≡ numbers ++ number ∷ [] → number ≡ length rules → AreKept among (rules ++ r ∷ []) after more
  unfound_kept after more number le e m n =
      let count = kept.count in
      let behind : length keys ≤ place keys (key_of r) = subst (λ (k : ℕ). length keys ≤ k) there (omega (arith, le, count)) in
      let past : length keys ≤ place keys key = subst (λ (t : Bytes). length keys ≤ place keys t) (sym written) behind in
      subst (λ (l : List Bytes). AreKept among (rules ++ r ∷ []) l more) (sym (e ∙ new_text keys key past ∙ ap (λ (t : Bytes). keys ++ t ∷ []) written))
      (subst (λ (l : List ℕ). AreKept among (rules ++ r ∷ []) (keys ++ key_of r ∷ []) l) (sym (m ∙ ap (λ (k : ℕ). numbers ++ k ∷ []) n)) (new_kept among rules keys numbers kept r recorded is_among behind))

-- ---- the first of a list

get_taken : {X : Type 0} (xs : List X) (i j : ℕ) (x : X) → slice_get (take i xs) j ≡ Some x → (j < i) × (slice_get xs j ≡ Some x)
get_taken {X} [] zero j x e = let no_way : None ≡ Some x = e in absurd (cc)
get_taken {X} [] (suc i) j x e = let no_way : None ≡ Some x = e in absurd (cc)
get_taken {X} (y ∷ xs) zero j x e = let no_way : None ≡ Some x = e in absurd (cc)
get_taken {X} (y ∷ xs) (suc i) zero x e = (omega arith, e)
get_taken {X} (y ∷ xs) (suc i) (suc j) x e = let h = get_taken xs i j x e in (let lt = h.0 in omega (arith, lt), h.1)

-- ---- a rule whose name no other rule records

one_number : (xs : List ℕ) (i j : ℕ) → length xs ≤ 1 → Contains xs i → Contains xs j → i ≡ j
one_number [] i j le (k, lt, e) b = absurd (omega (arith, lt))
one_number (x ∷ []) i j le (zero, lt, e) (zero, less, f) = sym e ∙ f
one_number (x ∷ []) i j le (zero, lt, e) (suc k, less, f) = absurd (omega (arith, less))
one_number (x ∷ []) i j le (suc k, lt, e) b = absurd (omega (arith, lt))
one_number (x ∷ y ∷ xs) i j le a b = absurd (omega (arith, le))

few_by : (n : ℕ) → nat_lt 1 n ≡ false → n ≤ 1
few_by n e = elim (cases_lt 1 n) [
  | inl lt ↦ let no_way : true ≡ false = sym (lt-ltb 1 n lt) ∙ e in absurd (cc)
  | inr le ↦ le
]

pub alone_none : (rules : List RuleTree) (s : Sources) → IsSourcesOf rules s → (i : ℕ) (r : RuleTree) → slice_get rules i ≡ Some r → r.alert ≡ false → is_shared s r.name ≡ false
    → (j : ℕ) (t : RuleTree) → j < i → slice_get rules j ≡ Some t → AreSameRule r t → ⊥
alone_none rules s is i r at recorded alone j t less e same =
    let own = recorded_from rules s is r i at recorded in
    let P : Bytes → Type 0 = λ n. Contains (makers_of s n) j in
    let other = subst P (sym same.2) (recorded_from rules s is t j e same.1) in
    let one = one_number (makers_of s r.name) i j (few_by (length (makers_of s r.name)) alone) own other in
    omega (arith, one, less)

-- the trees of the first rules
trees_taken : (rules : List Rule) (k : ℕ) → rule_trees (take k rules) ≡ take k (rule_trees rules)
trees_taken [] zero = refl
trees_taken [] (suc k) = refl
trees_taken (r ∷ rules) zero = refl
trees_taken (r ∷ rules) (suc k) = ap (λ l. rule_tree r ∷ l) (trees_taken rules k)

pub none_before : (rules : List Rule) (s : Sources) → IsSourcesOf (rule_trees rules) s → (i : ℕ) (r : RuleTree) → slice_get (rule_trees rules) i ≡ Some r → is_shared s r.name ≡ false → r.alert ≡ false → HaveNone (rule_trees (take i rules)) r
none_before rules s is i r at alone recorded j t e same =
    let P : List RuleTree → Type 0 = λ l. slice_get l j ≡ Some t in
    let there = get_taken (rule_trees rules) i j t (subst P (trees_taken rules i) e) in
    alone_none (rule_trees rules) s is i r at recorded alone j t there.0 there.1 same

-- ---- the first rules of all

pub firsts_more : (rules : List RuleTree) (firsts : List (Option ℕ)) (r : RuleTree) (first : Option ℕ) → AreFirsts rules firsts → IsFirstOf rules r first → AreFirsts (rules ++ r ∷ []) (firsts ++ first ∷ [])
firsts_more rules firsts r first old one = record {
  count = length-append firsts (first ∷ []) ∙ ap (λ n. n + 1) old.count ∙ sym (length-append rules (r ∷ []));
  each = λ i s e. elim (get_cases rules r s i e) [
    | inl h ↦
        let lt : i < length rules = slice_get_within rules i s h in
        let count = old.count in
        let same : take i (rules ++ r ∷ []) ≡ take i rules = take-append-le i rules (r ∷ []) (omega (arith, lt)) in
        let at : get_or (firsts ++ first ∷ []) i None ≡ get_or firsts i None = get_or_append_left firsts (first ∷ []) None i (omega (arith, lt, count)) in
        subst (λ (l : List RuleTree). IsFirstOf l s (get_or (firsts ++ first ∷ []) i None)) (sym same) (subst (λ (o : Option ℕ). IsFirstOf (take i rules) s o) (sym at) (old.each i s h))
    | inr h ↦
        let same : take i (rules ++ r ∷ []) ≡ rules = ap (λ n. take n (rules ++ r ∷ [])) h.0 ∙ take-append_seam rules (r ∷ []) in
        let at : get_or (firsts ++ first ∷ []) i None ≡ first = ap (λ n. get_or (firsts ++ first ∷ []) n None) (h.0 ∙ sym old.count) ∙ get_or-append_seam firsts first [] None in
        subst (λ (l : List RuleTree). IsFirstOf l s (get_or (firsts ++ first ∷ []) i None)) (sym same) (subst (λ (o : Option ℕ). IsFirstOf rules s o) (sym at) (subst (λ (x : RuleTree). IsFirstOf rules x first) h.1 one))
  ];
}

pub as_many : (rules : List Rule) (k : ℕ) → k ≤ length rules → length (rule_trees (take k rules)) ≡ k
as_many rules k le = length-map (take k rules) rule_tree ∙ length-take-le k rules le

-- ---- what is told of a rule

taken_get : {X : Type 0} (xs : List X) (i j : ℕ) (x : X) → j < i → slice_get xs j ≡ Some x → slice_get (take i xs) j ≡ Some x
taken_get {X} [] zero j x lt e = absurd (omega (arith, lt))
taken_get {X} [] (suc i) j x lt e = e
taken_get {X} (y ∷ xs) zero j x lt e = absurd (omega (arith, lt))
taken_get {X} (y ∷ xs) (suc i) zero x lt e = e
taken_get {X} (y ∷ xs) (suc i) (suc j) x lt e = taken_get xs i j x (omega (arith, lt)) e

pub not_apart : (k j : ℕ) → (k < j → ⊥) → (j < k → ⊥) → k ≡ j
not_apart k j a b = omega (arith, a, b)

-- the first of those before a rule is the first of all
first_at : (rules : List RuleTree) (i : ℕ) (r : RuleTree) (j : ℕ) (s : RuleTree) → slice_get (take i rules) j ≡ Some s → AreSameRule r s
    → ((k : ℕ) (t : RuleTree) → k < j → slice_get (take i rules) k ≡ Some t → AreSameRule r t → ⊥) → IsFirstAt rules i r j s
first_at rules i r j s taken same least =
    let at = get_taken rules i j s taken in
    (at.0, at.1, same, λ k t lt e. least k t lt (taken_get rules i k t (let less = at.0 in omega (arith, lt, less)) e))

-- the finding that names it has the numbers of what it says
pub first_numbered : (files : List File) (rules : List RuleTree) (i : ℕ) (r : RuleTree) (j : ℕ) → slice_get rules i ≡ Some r → IsFirst (take i rules) r j → AreNumbered files rules i (same_row r.name_span j ∷ [])
first_numbered files rules i r j at (s, taken, same, least) =
    let P : Row → Type 0 = λ f. HasNumbers rules i (shown files rules f) f in
    let numbered : P (same_row r.name_span j) = record {
      check = refl;
      span = refl;
      case = (refl, (place_of files rules (Some j), refl));
      other = (r, s, j, at, first_at rules i r j s taken same least, refl);
    } in
    All-cons P (same_row r.name_span j) [] numbered (All-nil P)

module _ (files : List File) (rules : List RuleTree) (i : ℕ) (r : RuleTree) (stand : StandIn files rules) where
  pub tells_none : HaveNone (take i rules) r → Lists files rules (IsFound files rules i r) []
  tells_none none = lists_none files rules (IsFound files rules i r) [] refl no
    where
      no : (f : Finding) → IsFound files rules i r f → ⊥
      no f (s, place, (j, (lt, at, same, least)), named, e) = none j s (taken_get rules i j s lt at) same

  pub tells_first : (j : ℕ) (row : Row) → IsFirst (take i rules) r j → row ≡ same_row r.name_span j → Lists files rules (IsFound files rules i r) (row ∷ [])
  tells_first j row (s, taken, same, least) is_row = lists_one files rules (IsFound files rules i r) (row ∷ []) (finding RuleDuplicate r.name_span (says_where here)) (ap (λ (f : Finding). f ∷ []) (ap (shown files rules) is_row ∙ ap (λ p. finding RuleDuplicate r.name_span (says_where p)) placed)) found one
    where
      at : slice_get rules j ≡ Some s
      at = (get_taken rules i j s taken).1

      held : (file : File) × (slice_get files s.file ≡ Some file)
      held = stand s (j, slice_get_within rules j s at, get_or_from_slice_get rules j s s at)

      here : Bytes
      here = place_in held.0 s.name_span.start

      placed : place_of files rules (Some j) ≡ here
      placed = rw (at, held.1) refl

      found : IsFound files rules i r (finding RuleDuplicate r.name_span (says_where here))
      found = (s, here, (j, first_at rules i r j s taken same least), (held.0, held.1, refl), refl)

      one : (f : Finding) → IsFound files rules i r f → f ≡ finding RuleDuplicate r.name_span (says_where here)
      one f (t, place, (k, (lt, there, alike, first)), (file, has, is), e) =
          let equal : k ≡ j = not_apart k j (λ less. least k t less (taken_get rules i k t lt there) alike) (λ less. first j s less at same) in
          let ts : t ≡ s = (let both : Some t ≡ Some s = sym there ∙ ap (slice_get rules) equal ∙ at in cc) in
          let fs : file ≡ held.0 = (let both : Some file ≡ Some held.0 = sym has ∙ ap (λ (x : RuleTree). slice_get files x.file) ts ∙ held.1 in cc) in
          e ∙ ap (λ (p : Bytes). finding RuleDuplicate r.name_span (says_where p)) (is ∙ ap (λ (x : File). place_in x t.name_span.start) fs ∙ ap (λ (x : RuleTree). place_in held.0 x.name_span.start) ts)
