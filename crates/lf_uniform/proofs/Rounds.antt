-- Rounds over rules put those in line that are ready.
use Rattle.std.proofs.Common.{◌≡◌, ◌<◌, ◌⊎◌, inl, inr, ℕ, ◌+◌, Bool, true, false, not, ◌&&◌, ◌||◌, nat_lt, get_or, List, [], ◌∷◌, ◌++◌, length, reverse, Option, Some, None, refl, sym, ◌∙◌, ap, subst, true≢false, arith, length-append}
use Rattle.std.specs.Prelude.{slice_get}
use Rattle.std.specs.List.{Contains}
use Rattle.std.proofs.lemmas.Bool.{cases_lt}
use Rattle.std.proofs.lemmas.Bool.Decides.{nat_tests}
use Rattle.std.proofs.lemmas.List.{get_or-append-add, get_or_append_left, reverse-append}
use Rattle.std.proofs.lemmas.List.Elements.{Contains-append_cases, Contains-append_left, Contains-append_right}
use Rattle.lf_laws.proofs.Members.{behind, first_or_behind, here, none_in, only_one}
use Rattle.lf_laws.proofs.Options.{same_option}
use Rattle.lf_ast.specs.Labels.{Bytes}
use Rattle.lf_ast.specs.Rules.{RuleTree}
use Rattle.lf_deps.specs.Reading.{selectors}
use Rattle.lf_deps.specs.views.Names.{IsPlaced}
use Rattle.lf_deps.proofs.Placed.{in_front, place_front}
use Rattle.lf_semantics.specs.Listing.{place}
use Rattle.lf_semantics.proofs.ListingLaws.{place_within}
use Rattle.lf_trials.specs.Reached.{is_recorded}
use Rattle.lf_uniform.specs.views.Lines.{AreEntries, IsEntry, IsLineOf, IsReady, IsRound, IsSettled, IsWaiting, Line, Stays, first_of, is_in, is_no_wait, is_ready}

in_last : (xs : List Bytes) (name : Bytes) → IsPlaced (xs ++ name ∷ []) name
in_last xs name = place_within (xs ++ name ∷ []) name (Contains-append_right xs (name ∷ []) name (here name []))

pub is_in_means : (names : List Bytes) (name : Bytes) (b : Bool) → b ≡ is_in names name → b ≡ true → IsPlaced names name
is_in_means names name b is holds = let t : nat_lt (place names name) (length names) ≡ true = sym is ∙ holds in grind (arith, nat_tests)

pub isnt_in_means : (names : List Bytes) (name : Bytes) → is_in names name ≡ false → IsPlaced names name → ⊥
isnt_in_means names name fails h = let t : nat_lt (place names name) (length names) ≡ true = grind (arith, nat_tests) in true≢false (sym t ∙ fails)

pub as_in : (names : List Bytes) (name : Bytes) → IsPlaced names name → is_in names name ≡ true
as_in names name h = grind (arith, nat_tests)

module _ (rules : List RuleTree) where
  pub settled_still : (before after : List Bytes) (k : ℕ) → Stays before after → IsSettled rules before k → IsSettled rules after k
  settled_still before after k stays settled r at first = stays r.name (settled r at first)

  module _ (a b c : Line) (xs zs ys ws : List ℕ) (one : IsRound rules a xs b ys) (two : IsRound rules b zs c ws) where
    of_first : (k : ℕ) → Contains ys k ⊎ IsSettled rules b.names k → Contains (ys ++ ws) k ⊎ IsSettled rules c.names k
    of_first k (inl m) = inl (Contains-append_left ys ws k m)
    of_first k (inr s) = inr (settled_still b.names c.names k two.stays s)

    of_second : (k : ℕ) → Contains ws k ⊎ IsSettled rules c.names k → Contains (ys ++ ws) k ⊎ IsSettled rules c.names k
    of_second k (inl m) = inl (Contains-append_right ys ws k m)
    of_second k (inr s) = inr s

    both_still : length (ys ++ ws) ≡ length (xs ++ zs) → (c ≡ a) × ((k : ℕ) → Contains (xs ++ zs) k → IsWaiting rules a.names k)
    both_still e =
        let m = length-append ys ws in
        let n = length-append xs zs in
        let first = one.still (omega (arith, e, m, n, one.fewer, two.fewer)) in
        let second = two.still (omega (arith, e, m, n, one.fewer, two.fewer)) in (
          second.0 ∙ first.0,
          λ k d. elim (Contains-append_cases xs zs k d) [
            | inl in_first ↦ first.1 k in_first
            | inr in_second ↦ subst (λ (l : Line). IsWaiting rules l.names k) first.0 (second.1 k in_second)
          ],
        )

    pub rounds_join : IsRound rules a (xs ++ zs) c (ys ++ ws)
    rounds_join = record {
      entries = λ e. two.entries (one.entries e);
      stays = λ name h. two.stays name (one.stays name h);
      fewer = let m = length-append ys ws in let n = length-append xs zs in omega (arith, m, n, one.fewer, two.fewer);
      among = λ k d. elim (Contains-append_cases ys ws k d) [ inl in_first ↦ Contains-append_left xs zs k (one.among k in_first) | inr in_second ↦ Contains-append_right xs zs k (two.among k in_second) ];
      each = λ k d. elim (Contains-append_cases xs zs k d) [ inl in_first ↦ of_first k (one.each k in_first) | inr in_second ↦ of_second k (two.each k in_second) ];
      still = both_still;
    }

  -- one number

  pub waiting_round : (line : Line) (k : ℕ) → IsWaiting rules line.names k → IsRound rules line (k ∷ []) line (k ∷ [])
  waiting_round line k waits = record {
    entries = λ e. e;
    stays = λ name h. h;
    fewer = omega arith;
    among = λ j c. c;
    each = λ j c. inl c;
    still = λ e. (refl, λ j c. subst (IsWaiting rules line.names) (only_one k j c) waits);
  }

  module _ (line : Line) (k : ℕ) (r : RuleTree) (at : slice_get rules k ≡ Some r) (first : first_of rules r.name ≡ Some (k, r)) (ready : IsReady rules line.names r) where
    abbrev longer : Line
    longer = record { numbers = line.numbers ++ k ∷ []; names = line.names ++ r.name ∷ [] }

    -- those in line before
    old_entry : (j : ℕ) → length line.numbers ≡ length line.names → j < length line.names → IsEntry rules line j → IsEntry rules longer j
    old_entry j count less entry = record {
      rule = entry.rule;
      first = ap (first_of rules) (get_or_append_left line.names (r.name ∷ []) [] j less) ∙ entry.first
          ∙ ap (λ (n : ℕ). Some (n, entry.rule)) (sym (get_or_append_left line.numbers (k ∷ []) 0 j (omega (arith, less, count))));
      before = λ name c recorded. let b = entry.before name c recorded in let e = place_front line.names (r.name ∷ []) name (omega (arith, b, less)) in omega (arith, b, e);
    }

    new_entry : length line.numbers ≡ length line.names → IsEntry rules longer (length line.names + 0)
    new_entry count = record {
      rule = r;
      first = ap (first_of rules) (get_or-append-add line.names (r.name ∷ []) 0 []) ∙ first
          ∙ ap (λ (n : ℕ). Some (n, r)) (sym (ap (λ j. get_or (line.numbers ++ k ∷ []) j 0) (let e : length line.names + 0 ≡ length line.numbers + 0 = omega (arith, count) in e) ∙ get_or-append-add line.numbers (k ∷ []) 0 0));
      before = λ name c recorded. let b = ready name c recorded in let e = place_front line.names (r.name ∷ []) name b in omega (arith, b, e);
    }

    longer_entries : AreEntries rules line → AreEntries rules longer
    longer_entries entries = record {
      count = let m = length-append line.numbers (k ∷ []) in let n = length-append line.names (r.name ∷ []) in omega (arith, m, n, entries.count);
      each = λ j less. elim (cases_lt j (length line.names)) [
        | inl front ↦ old_entry j entries.count front (entries.each j front)
        | inr last ↦ let n = length-append line.names (r.name ∷ []) in
            let e : length line.names + 0 ≡ j = omega (arith, last, less, n) in
            subst (IsEntry rules longer) e (new_entry entries.count)
      ];
    }

    pub added_round : IsRound rules line (k ∷ []) longer []
    added_round = record {
      entries = longer_entries;
      stays = λ name h. in_front line.names (r.name ∷ []) name h;
      fewer = omega arith;
      among = λ j c. absurd (none_in j c);
      each = λ j c. inr (λ q at_j found. let e : k ≡ j = only_one k j c in
          let same : r ≡ q = same_option (slice_get rules k) r q at (ap (slice_get rules) e ∙ at_j) in
          subst (λ (z : RuleTree). IsPlaced (line.names ++ r.name ∷ []) z.name) same (in_last line.names r.name));
      still = λ e. absurd (omega (arith, e));
    }

  -- a test tells what is ready

  ready_each : (recorded names : List Bytes) (found : List (Option Bytes)) → is_ready recorded names found ≡ true → (name : Bytes) → Contains found (Some name) → IsPlaced recorded name → IsPlaced names name
  ready_each recorded names [] e name c h = absurd (none_in (Some name) c)
  ready_each recorded names (o ∷ found) e name c h = by (is_no_wait recorded names o) refl e (first_or_behind o found (Some name) c) (λ f d. ready_each recorded names found f name d h)
    where
      own : (a : Bool) → is_in recorded name ≡ a → (not a || is_in names name) ≡ true → IsPlaced names name
      own true is e = is_in_means names name true (sym e) refl
      own false is e = absurd (isnt_in_means recorded name is h)

      by : (b : Bool) → is_no_wait recorded names o ≡ b → (b && is_ready recorded names found) ≡ true → (o ≡ Some name) ⊎ Contains found (Some name) → (is_ready recorded names found ≡ true → Contains found (Some name) → IsPlaced names name) → IsPlaced names name
      by false is f there later = absurd (true≢false (sym f))
      by true is f (inl same) later = own (is_in recorded name) refl (ap (is_no_wait recorded names) (sym same) ∙ is)
      by true is f (inr rest) later = later f rest

  some_waits : (recorded names : List Bytes) (found : List (Option Bytes)) → ((name : Bytes) → Contains found (Some name) → IsPlaced recorded name → IsPlaced names name) → is_ready recorded names found ≡ true
  some_waits recorded names [] each = refl
  some_waits recorded names (o ∷ found) each = ap (λ (b : Bool). b && is_ready recorded names found) (first o (λ name e. each name (subst (λ (z : Option Bytes). Contains (o ∷ found) z) e (here o found))))
      ∙ some_waits recorded names found (λ name c. each name (behind o found (Some name) c))
    where
      either : (a b : Bool) → (a ≡ true → b ≡ true) → (not a || b) ≡ true
      either true b h = h refl
      either false b h = refl

      first : (o : Option Bytes) → ((name : Bytes) → o ≡ Some name → IsPlaced recorded name → IsPlaced names name) → is_no_wait recorded names o ≡ true
      first None each = refl
      first (Some name) each = either (is_in recorded name) (is_in names name) (λ holds. as_in names name (each name refl (is_in_means recorded name true (sym holds) refl)))

  module _ (recorded names : List Bytes) (r : RuleTree) (tells : (name : Bytes) → is_in recorded name ≡ is_recorded rules name) where
    pub ready_means : is_ready recorded names (selectors r.expr) ≡ true → IsReady rules names r
    ready_means e name c is = ready_each recorded names (selectors r.expr) e name c (is_in_means recorded name true (sym (tells name ∙ is)) refl)

    pub means_ready : IsReady rules names r → is_ready recorded names (selectors r.expr) ≡ true
    means_ready ready = some_waits recorded names (selectors r.expr) (λ name c h. ready name c (sym (tells name) ∙ as_in recorded name h))

  -- no rule is in line yet
  pub no_entries : (line : Line) → length line.numbers ≡ 0 → length line.names ≡ 0 → AreEntries rules line
  no_entries line none nameless = record { count = omega (arith, none, nameless); each = λ j less. absurd (omega (arith, less, nameless)) }

  module _ (numbers left later : List ℕ) (before after : Line) (round : IsRound rules before left after later) (each : (k : ℕ) → Contains numbers k → Contains left k ⊎ IsSettled rules before.names k) where
    -- a round more
    pub each_later : (k : ℕ) → Contains numbers k → Contains later k ⊎ IsSettled rules after.names k
    each_later k c = elim (each k c) [ inl in_left ↦ round.each k in_left | inr settled ↦ inr (settled_still before.names after.names k round.stays settled) ]

    -- a round that leaves as many is the last
    pub last_round : AreEntries rules before → length later ≡ length left → IsLineOf rules numbers after
    last_round entries same =
        let still = round.still same in
        record {
          entries = round.entries entries;
          closed = λ k c. elim (each k c) [
            | inl in_left ↦ inr (subst (λ (l : Line). IsWaiting rules l.names k) (sym still.0) (still.1 k in_left))
            | inr settled ↦ inl (settled_still before.names after.names k round.stays settled)
          ];
        }

-- what stands in a list stands in it the other way round

reversed_first : (k : ℕ) (ks : List ℕ) → reverse (k ∷ ks) ≡ reverse ks ++ k ∷ []
reversed_first k ks = reverse-append (k ∷ []) ks

pub turned : (ks : List ℕ) (k : ℕ) → Contains ks k → Contains (reverse ks) k
turned [] k there = absurd (none_in k there)
turned (j ∷ js) k there = subst (λ (ls : List ℕ). Contains ls k) (sym (reversed_first j js)) (elim (first_or_behind j js k there) [
  | inl e ↦ Contains-append_right (reverse js) (j ∷ []) k (subst (λ (n : ℕ). Contains (j ∷ []) n) e (here j []))
  | inr behind_it ↦ Contains-append_left (reverse js) (j ∷ []) k (turned js k behind_it)
])

pub turned_back : (ks : List ℕ) (k : ℕ) → Contains (reverse ks) k → Contains ks k
turned_back [] k there = absurd (none_in k there)
turned_back (j ∷ js) k there = elim (Contains-append_cases (reverse js) (j ∷ []) k (subst (λ (ls : List ℕ). Contains ls k) (reversed_first j js) there)) [
  | inl among ↦ behind j js k (turned_back js k among)
  | inr last ↦ subst (λ (n : ℕ). Contains (j ∷ js) n) (only_one j k last) (here j js)
]
