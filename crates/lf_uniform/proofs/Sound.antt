-- What is told of the names in line is what the definition follows: where no name that is selected is read in its own making, marks never matter.
use Rattle.std.proofs.Common.{◌≡◌, inl, inr, ℕ, zero, suc, ◌+◌, Bool, true, false, not, ◌&&◌, ◌||◌, cond, eqb, get_or, take, List, [], ◌∷◌, length, Option, Some, None, refl, sym, ◌∙◌, ap, subst, true≢false, arith}
use Rattle.std.specs.Prelude.{option_and_then, slice_get}
use Rattle.std.specs.List.{Contains}
use Rattle.std.specs.Option.{option_map}
use Rattle.std.specs.Str.{bytes_eq}
use Rattle.std.proofs.lemmas.List.{get_or-take}
use Rattle.std.proofs.lemmas.Option.{slice_get_within, same_Some}
use Rattle.lf_laws.proofs.Members.{true_same}
use Rattle.lf_laws.proofs.Slices.{member_at}
use Rattle.lf_ast.specs.Labels.{Bytes}
use Rattle.lf_ast.specs.Rules.{RuleTree}
use Rattle.lf_ast.specs.Tree.{Tree}
use Rattle.lf_deps.proofs.Followed.{reads_more}
use Rattle.lf_deps.specs.Reading.{IsCyclic, Reads, selectors}
use Rattle.lf_deps.specs.Reading.Reads.{selected}
use Rattle.lf_deps.specs.views.Names.{IsPlaced}
use Rattle.lf_semantics.specs.Listing.{Listing, place}
use Rattle.lf_semantics.proofs.Places.{at_place}
use Rattle.lf_candidates.proofs.Marks.{AreMarks, no_marks, one_mark_more, some_unmarked}
use Rattle.lf_trials.specs.Follow.{Followed, follow, follow_by_rule, follow_from, recorded_text}
use Rattle.lf_semantics.specs.Environments.{records}
use Rattle.lf_trials.specs.Reached.{IsReach, first_rule, is_marked, is_recorded, with_reach}
use Rattle.lf_uniform.specs.views.Following.{known_by}
use Rattle.lf_uniform.specs.views.Lines.{AreValues, IsLineOf, Line, first_of}
use Rattle.lf_uniform.specs.views.Ways.{IsUncyclic, IsWay}
use Rattle.lf_uniform.proofs.Agreeing.{agrees}
use Rattle.lf_uniform.proofs.WithReach.{in_with_reach, own_with_reach}

-- rules by their numbers

pub same_number : (k : ℕ) (r : RuleTree) (l : ℕ) (q : RuleTree) → ◌≡◌ {A = Option (ℕ × RuleTree)} (Some (k, r)) (Some (l, q)) → k ≡ l
same_number k r l q e = ap (λ (p : ℕ × RuleTree). p.0) (same_Some (k, r) (l, q) e)

pub same_rule : (k : ℕ) (r : RuleTree) (l : ℕ) (q : RuleTree) → ◌≡◌ {A = Option (ℕ × RuleTree)} (Some (k, r)) (Some (l, q)) → r ≡ q
same_rule k r l q e = ap (λ (p : ℕ × RuleTree). p.1) (same_Some (k, r) (l, q) e)

-- the first rule that passes is a rule that passes
pub record IsFound (test : ℕ → RuleTree → Bool) (start : ℕ) (rules : List RuleTree) (k : ℕ) (r : RuleTree) : Type 0 where
  pub place : ℕ
  pub at : k ≡ start + place
  pub is : slice_get rules place ≡ Some r
  pub passes : test k r ≡ true

pub found_rule : (test : ℕ → RuleTree → Bool) (start : ℕ) (rules : List RuleTree) (k : ℕ) (r : RuleTree) → first_rule test start rules ≡ Some (k, r) → IsFound test start rules k r
found_rule test start [] k r e = absurd (cc)
found_rule test start (x ∷ rules) k r e = by (test start x) refl e (found_rule test (suc start) rules k r)
  where
    by : (b : Bool) → test start x ≡ b → cond b (Some (start, x)) (first_rule test (suc start) rules) ≡ Some (k, r) → (first_rule test (suc start) rules ≡ Some (k, r) → IsFound test (suc start) rules k r) → IsFound test start (x ∷ rules) k r
    by true is found later =
        let same = same_number start x k r found in
        let one = same_rule start x k r found in
        record { place = 0; at = omega (arith, same); is = ap Some one; passes = subst (λ j. test j r ≡ true) same (subst (λ z. test start z ≡ true) one is) }
    by false is found later = let l = later found in record { place = suc l.place; at = omega (arith, l.at); is = l.is; passes = l.passes }

-- a rule that is there is found, or one before it
pub some_first : (name : Bytes) (start : ℕ) (rules : List RuleTree) → is_recorded rules name ≡ true → (k : ℕ) × (r : RuleTree) × (first_rule (λ j x. records name x) start rules ≡ Some (k, r))
some_first name start [] e = absurd (true≢false (sym e))
some_first name start (x ∷ rules) e = by (records name x) e (some_first name (suc start) rules)
  where
    by : (b : Bool) → (b || is_recorded rules name) ≡ true → (is_recorded rules name ≡ true → (k : ℕ) × (r : RuleTree) × (first_rule (λ j x. records name x) (suc start) rules ≡ Some (k, r)))
        → (k : ℕ) × (r : RuleTree) × (cond b (Some (start, x)) (first_rule (λ j x. records name x) (suc start) rules) ≡ Some (k, r))
    by true _ later = (start, x, refl)
    by false e later = later e

-- tests that agree find the same rule
same_first : (test other : ℕ → RuleTree → Bool) (start : ℕ) (rules : List RuleTree) → ((k place : ℕ) (r : RuleTree) → k ≡ start + place → slice_get rules place ≡ Some r → test k r ≡ other k r) → first_rule test start rules ≡ first_rule other start rules
same_first test other start [] same = refl
same_first test other start (x ∷ rules) same =
    ap (λ (b : Bool). cond b (Some (start, x)) (first_rule test (suc start) rules)) (same start 0 x (omega arith) refl)
    ∙ ap (λ (o : Option (ℕ × RuleTree)). cond (other start x) (Some (start, x)) o) (same_first test other (suc start) rules (λ k place r at is. same k (suc place) r (omega (arith, at)) is))

recording : (a b : Bool) → (not a && b) ≡ true → (a ≡ false) × (b ≡ true)
recording true b e = absurd (true≢false (sym e))
recording false b e = (refl, e)

unmarked_passes : (b : Bool) → b ≡ false → (not b) ≡ true
unmarked_passes true e = absurd (true≢false e)
unmarked_passes false e = refl

and_true_right : (a b : Bool) → (a ≡ true → b ≡ false) → (a && not b) ≡ a
and_true_right true b none = unmarked_passes b (none refl)
and_true_right false b none = refl

module _ (u : Listing) (rules : List RuleTree) (label given : Bytes) (line : Line) (values : List Followed) (i : ℕ) (own : RuleTree) (at : slice_get rules i ≡ Some own) (reach : List ℕ) (is_reach : IsReach rules own.expr reach)
    (is_line : IsLineOf rules reach line) (are_values : AreValues u rules label given line values)
  where
    abbrev known : Bytes → Followed
    known = known_by line.names values

    abbrev followed_in : Tree → Followed
    followed_in e = follow u rules label given known e

    -- values before a place are those of the whole
    value_count : length values ≡ length line.names
    value_count = are_values.count_is ∙ is_line.entries.count

    -- what is told of a name in line is what its first rule gives
    fixed : (name : Bytes) → IsPlaced line.names name → (k : ℕ) (r : RuleTree) → first_of rules name ≡ Some (k, r) → known name ≡ option_map (recorded_text label r) (followed_in r.expr)
    fixed name inside k r first =
        let p : ℕ = place line.names name in
        let entry = is_line.entries.each p inside in
        let named : get_or line.names p [] ≡ name = at_place line.names name inside in
        let two : ◌≡◌ {A = Option (ℕ × RuleTree)} (Some (get_or line.numbers p 0, entry.rule)) (Some (k, r)) = sym entry.first ∙ ap (first_of rules) named ∙ first in
        let number = same_number (get_or line.numbers p 0) entry.rule k r two in
        let one = same_rule (get_or line.numbers p 0) entry.rule k r two in
        let found = found_rule (λ j x. records name x) 0 rules k r first in
        let there : slice_get rules (get_or line.numbers p 0) ≡ Some r = ap (slice_get rules) (number ∙ (let z : k ≡ found.place = omega (arith, found.at) in z)) ∙ found.is in
        are_values.each p (omega (arith, inside, value_count, are_values.count_is)) r there
        ∙ ap (option_map (recorded_text label r))
        (agrees u rules label given (known_by line.names (take p values)) known r.expr
        (λ n c recorded. get_or-take p values (place line.names n) None (entry.before n (subst (λ (z : RuleTree). Contains (selectors z.expr) (Some n)) (sym one) c) recorded)))

    module _ (uncyclic : IsUncyclic rules (with_reach i reach)) (in_reach : (k : ℕ) → Contains reach k → Contains (with_reach i reach) k) (own_in : Contains (with_reach i reach) i) where
      -- the rules that are marked while a name is followed: each reads the name
      record IsFollowed (marked : List ℕ) (name : Bytes) : Type 0 where
        marks : AreMarks (length rules) marked
        read : (k : ℕ) → is_marked marked k ≡ true → (r : RuleTree) → slice_get rules k ≡ Some r → Reads rules r.expr name
        own_reads : Reads rules own.expr name
        uncircled : IsCyclic rules name → ⊥
        recorded : is_recorded rules name ≡ true

      abbrev IsSame : ℕ → List ℕ → Bytes → Type 0
      IsSame unmarked marked name = IsPlaced line.names name × (follow_by_rule u rules label given unmarked marked name ≡ known name)

      -- no marked rule records the name
      none_marked : (marked : List ℕ) (name : Bytes) → IsFollowed marked name → (k : ℕ) (r : RuleTree) → slice_get rules k ≡ Some r → records name r ≡ true → is_marked marked k ≡ false
      none_marked marked name is k r there does = by (is_marked marked k) refl
        where
          by : (b : Bool) → is_marked marked k ≡ b → b ≡ false
          by false e = refl
          by true e = let two = recording r.alert (bytes_eq r.name name) does in absurd (is.uncircled (r, member_at rules k r there, (two.0, true_same r.name name two.1), is.read k e r there))

      -- the rule that is found is the first of the name
      finds : (marked : List ℕ) (name : Bytes) → IsFollowed marked name → first_rule (λ k r. records name r && not (is_marked marked k)) 0 rules ≡ first_of rules name
      finds marked name is =
          same_first (λ k r. records name r && not (is_marked marked k)) (λ k r. records name r) 0 rules
          (λ k place r at_k there. and_true_right (records name r) (is_marked marked k) (λ does. none_marked marked name is k r (subst (λ j. slice_get rules j ≡ Some r) (let z : place ≡ k = omega (arith, at_k) in z) there) does))

      -- behind that rule, the names that it selects
      module _ (marked : List ℕ) (name : Bytes) (is : IsFollowed marked name) (k : ℕ) (r : RuleTree) (first : first_of rules name ≡ Some (k, r)) where
        there : slice_get rules k ≡ Some r
        there = let found = found_rule (λ j x. records name x) 0 rules k r first in ap (slice_get rules) (let z : k ≡ found.place = omega (arith, found.at) in z) ∙ found.is

        does : (r.alert ≡ false) × (bytes_eq r.name name ≡ true)
        does = recording r.alert (bytes_eq r.name name) (found_rule (λ j x. records name x) 0 rules k r first).passes

        same_name : r.name ≡ name
        same_name = true_same r.name name does.1

        reached : Contains reach k
        reached = (is_reach.members k).1 (r, there, (does.0, subst (Reads rules own.expr) (sym same_name) is.own_reads))

        fresh : is_marked marked k ≡ false
        fresh = none_marked marked name is k r there (found_rule (λ j x. records name x) 0 rules k r first).passes

        next_is : (next : Bytes) → Contains (selectors r.expr) (Some next) → is_recorded rules next ≡ true → IsFollowed (k ∷ marked) next
        next_is next c recorded = record {
          marks = one_mark_more (length rules) k marked (slice_get_within rules k r there) fresh is.marks;
          read = λ j m q at_j. by j (eqb j k) refl m q at_j;
          own_reads = reads_more rules own.expr name is.own_reads r (member_at rules k r there) does.0 same_name next (inl c);
          uncircled = uncyclic k (in_reach k reached) r there next c;
          recorded = recorded;
        }
          where
            equal_numbers : (x y : ℕ) → eqb x y ≡ true → x ≡ y
            equal_numbers x y h = grind arith

            by : (j : ℕ) (b : Bool) → eqb j k ≡ b → (b || is_marked marked j) ≡ true → (q : RuleTree) → slice_get rules j ≡ Some q → Reads rules q.expr next
            by j true e m q at_j =
                let one : Some r ≡ Some q = sym there ∙ ap (slice_get rules) (sym (equal_numbers j k e)) ∙ at_j in
                let same : r ≡ q = cc in
                subst (λ (z : RuleTree). Reads rules z.expr next) same (selected (inl c))
            by j false e m q at_j = reads_more rules q.expr name (is.read j m q at_j) r (member_at rules k r there) does.0 same_name next (inl c)

        ready_in : (unmarked : ℕ) → ((next : Bytes) → Contains (selectors r.expr) (Some next) → is_recorded rules next ≡ true → IsSame unmarked (k ∷ marked) next) → IsPlaced line.names name
        ready_in unmarked later = elim (is_line.closed k reached) [
          | inl settled ↦ subst (IsPlaced line.names) same_name (settled r there (ap (first_of rules) same_name ∙ first))
          | inr waits ↦ absurd (waits r there (λ next c recorded. (later next c recorded).0))
        ]

        is_same : (unmarked : ℕ) → ((next : Bytes) → Contains (selectors r.expr) (Some next) → is_recorded rules next ≡ true → IsSame unmarked (k ∷ marked) next) → IsSame (suc unmarked) marked name
        is_same unmarked later = (
          ready_in unmarked later,
          ap (λ (o : Option (ℕ × RuleTree)). option_and_then (λ found. option_map (recorded_text label found.1) (follow u rules label given (follow_by_rule u rules label given unmarked (found.0 ∷ marked)) found.1.expr)) o) (finds marked name is ∙ first)
              ∙ ap (option_map (recorded_text label r)) (agrees u rules label given (follow_by_rule u rules label given unmarked (k ∷ marked)) known r.expr (λ next c recorded. (later next c recorded).1))
              ∙ sym (fixed name (ready_in unmarked later) k r first),
        )

      all_same : (unmarked : ℕ) (marked : List ℕ) (name : Bytes) → unmarked + length marked ≡ length rules + 1 → IsFollowed marked name → IsSame unmarked marked name
      all_same zero marked name count is = let some = some_unmarked (length rules) 0 marked count is.marks in absurd (omega (arith, some))
      all_same (suc unmarked) marked name count is =
          let first = some_first name 0 rules is.recorded in
          is_same marked name is first.0 first.1 first.2 unmarked (λ next c recorded. all_same unmarked (first.0 ∷ marked) next (omega (arith, count)) (next_is marked name is first.0 first.1 first.2 next c recorded))

      -- so the rule's expression is followed with what is told of the names in line
      begins : (name : Bytes) → Contains (selectors own.expr) (Some name) → is_recorded rules name ≡ true → IsFollowed (i ∷ []) name
      begins name c recorded = record {
        marks = one_mark_more (length rules) i [] (slice_get_within rules i own at) refl (no_marks (length rules));
        read = λ j m q at_j. by j (eqb j i) refl m q at_j;
        own_reads = selected (inl c);
        uncircled = uncyclic i own_in own at name c;
        recorded = recorded;
      }
        where
          equal_numbers : (x y : ℕ) → eqb x y ≡ true → x ≡ y
          equal_numbers x y h = grind arith

          by : (j : ℕ) (b : Bool) → eqb j i ≡ b → (b || false) ≡ true → (q : RuleTree) → slice_get rules j ≡ Some q → Reads rules q.expr name
          by j true e m q at_j =
              let one : Some own ≡ Some q = sym at ∙ ap (slice_get rules) (sym (equal_numbers j i e)) ∙ at_j in
              let same : own ≡ q = cc in
              subst (λ (z : RuleTree). Reads rules z.expr name) same (selected (inl c))
          by j false e m q at_j = absurd (true≢false (sym m))

      pub follows : follow_from u rules label given i own ≡ followed_in own.expr
      follows =
          agrees u rules label given (follow_by_rule u rules label given (length rules) (i ∷ [])) known own.expr
          (λ name c recorded. (all_same (length rules) (i ∷ []) name (omega arith) (begins name c recorded)).1)

-- by the way of a rule
pub follows_way : (u : Listing) (rules : List RuleTree) (label given : Bytes) (line : Line) (values : List Followed) (i : ℕ) → IsWay rules i line → AreValues u rules label given line values → (own : RuleTree) → slice_get rules i ≡ Some own
    → follow u rules label given (known_by line.names values) own.expr ≡ follow_from u rules label given i own
follows_way u rules label given line values i way are own at =
    let one : Some way.own ≡ Some own = sym way.at ∙ at in
    let same : way.own ≡ own = cc in
    subst (λ (r : RuleTree). follow u rules label given (known_by line.names values) r.expr ≡ follow_from u rules label given i r) same
    (sym (follows u rules label given line values i way.own way.at way.reach way.is_reach way.is_line are way.uncyclic (in_with_reach i way.reach) (own_with_reach i way.reach)))
