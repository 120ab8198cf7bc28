-- What is built for an expression without open constructs gives one sample: the induction over the rules that aren't marked.
use Rattle.std.proofs.Common.{◌≡◌, ◌≤◌, ◌<◌, ◌⊎◌, inl, inr, ℕ, zero, suc, Bool, true, false, not, ◌||◌, cond, eqb, List, [], ◌∷◌, length, Some, refl, sym, ◌∙◌, ap, subst, arith, slice_get, codes}
use Rattle.std.proofs.lemmas.Bool.{eq-eqb, eqb-true}
use Rattle.std.specs.List.{Contains, filter, range_with_len}
use Rattle.std.proofs.lemmas.List.FromFn.{length-range_with_len}
use Rattle.std.proofs.Math.Bool.{or-false}
use Rattle.lf_laws.proofs.Booleans.{clash}
use Rattle.lf_laws.proofs.Members.{first_or_behind, none_in}
use Rattle.lf_laws.proofs.Slices.{member_at, number_of, one_at}
use Rattle.lf_ast.specs.Labels.{Bytes}
use Rattle.lf_ast.specs.Rules.{RuleTree}
use Rattle.lf_ast.specs.Tree.{Tree}
use Rattle.lf_semantics.proofs.PartsCovered.{rule_covered}
use Rattle.lf_semantics.specs.ClassRows.{HoldsText, is_live}
use Rattle.lf_semantics.specs.Environments.{Covers, CoversRules, IsEnvironmentOf, IsPostFixedPoint}
use Rattle.lf_semantics.specs.Listing.{IsListing, Listing}
use Rattle.lf_semantics.specs.RowTable.{Environment, may_be_present, row_of}
use Rattle.lf_semantics.specs.Worlds.{SetsNoName}
use Rattle.lf_semantics.proofs.Members.{in_filter}
use Rattle.lf_deps.specs.Reading.{IsCyclic, Reads, Records, selectors}
use Rattle.lf_deps.proofs.Ascending.{number_in}
use Rattle.lf_trials.specs.Built.{build_by_rule}
use Rattle.lf_trials.specs.Forks.{TellsForks}
use Rattle.lf_trials.specs.Reached.{is_marked}
use Rattle.lf_trials.proofs.Reachable.{shorter}
use Rattle.lf_shown.specs.NoneOpen.{HasNoneOpen, NamesBucket}
use Rattle.lf_shown.specs.Silence.{can_be_silent}
use Rattle.lf_shown.proofs.Choices.{IsSmall}
use Rattle.lf_shown.proofs.Induction.{Made, NamesBuilt, from_raw, raw}
use Rattle.lf_shown.proofs.Reached.{none_behind, read_acyclic, some_recorded}
use Rattle.lf_shown.proofs.Recorded.{IsUnion, answers_name}

-- ---- how many numbers aren't marked

fewer_left : (some less : ℕ → Bool) (xs : List ℕ) → ((k : ℕ) → less k ≡ true → some k ≡ true) → length (filter less xs) ≤ length (filter some xs)
fewer_left some less [] into = omega arith
fewer_left some less (x ∷ xs) into = by (less x) refl (some x) refl (fewer_left some less xs into)
  where
    by : (a : Bool) → less x ≡ a → (b : Bool) → some x ≡ b → length (filter less xs) ≤ length (filter some xs) → length (cond a (x ∷ filter less xs) (filter less xs)) ≤ length (cond b (x ∷ filter some xs) (filter some xs))
    by true isa true isb h = omega (arith, h)
    by true isa false isb h = absurd (clash _ (into x isa) isb)
    by false isa true isb h = omega (arith, h)
    by false isa false isb h = omega (arith, h)

one_fewer : (some less : ℕ → Bool) (xs : List ℕ) (k : ℕ) → ((k : ℕ) → less k ≡ true → some k ≡ true) → Contains xs k → some k ≡ true → less k ≡ false → length (filter less xs) < length (filter some xs)
one_fewer some less [] k into c a b = absurd (none_in k c)
one_fewer some less (x ∷ xs) k into c a b = by (less x) refl (some x) refl (first_or_behind x xs k c) (fewer_left some less xs into) (λ d. one_fewer some less xs k into d a b)
  where
    by : (l : Bool) → less x ≡ l → (s : Bool) → some x ≡ s → (x ≡ k) ⊎ Contains xs k → length (filter less xs) ≤ length (filter some xs) → (Contains xs k → length (filter less xs) < length (filter some xs))
        → length (cond l (x ∷ filter less xs) (filter less xs)) < length (cond s (x ∷ filter some xs) (filter some xs))
    by true isl s iss (inl e) h rest = absurd (clash _ isl (ap less e ∙ b))
    by false isl true iss (inl e) h rest = omega (arith, h)
    by false isl false iss (inl e) h rest = absurd (clash _ (ap some e ∙ a) iss)
    by true isl true iss (inr d) h rest = let g = rest d in omega (arith, g)
    by true isl false iss (inr d) h rest = absurd (clash _ (into x isl) iss)
    by false isl true iss (inr d) h rest = let g = rest d in omega (arith, g)
    by false isl false iss (inr d) h rest = rest d

abbrev unmarked : List ℕ → ℕ → Bool
unmarked marked k = not (is_marked marked k)

-- a rule without open constructs isn't read by its own expression
pub rule_is_free : (rules : List RuleTree) (i : ℕ) (r : RuleTree) → slice_get rules i ≡ Some r → HasNoneOpen rules r.expr → (k : ℕ) (q : RuleTree) → is_marked (i ∷ []) k ≡ true → slice_get rules k ≡ Some q → q.alert ≡ false → Reads rules r.expr q.name → ⊥
rule_is_free rules i r at none k q m at' recording reads =
    let same : q ≡ r = one_at rules _ q r (subst (λ z. slice_get rules z ≡ Some q) (eqb-true k i (sym (or-false (eqb k i)) ∙ m)) at') at in
    read_acyclic rules r.expr none q.name reads (r, member_at rules i r at, (subst (λ (z : RuleTree). z.alert ≡ false) same recording, ap (λ (z : RuleTree). z.name) (sym same)), reads)

module _ (u : Listing) (rules : List RuleTree) (p : IsListing u) (small : IsSmall u) (env : Environment) (holds_fork : Tree → Bool) (tells : TellsForks rules holds_fork)
    (covers : CoversRules u rules) (unnamed : (r : RuleTree) → Contains rules r → SetsNoName r) (of : IsEnvironmentOf u rules env)
    (union : IsUnion u rules p small env holds_fork tells covers unnamed of) (closed : IsPostFixedPoint u rules env)
    (last : (e : Tree) → Covers u e → HasNoneOpen rules e → (NamesBucket rules e → ⊥) → is_live (row_of u env e) ≡ true → may_be_present u (row_of u env e) (codes "le") ≡ true → HoldsText u (row_of u env e) (codes "le") (codes "+Inf")) where
  -- there is room for the rules that aren't marked
  abbrev pub HasRoom : ℕ → List ℕ → Type 0
  HasRoom room marked = length (filter (unmarked marked) (range_with_len 0 (length rules))) ≤ room

  -- no marked rule is read
  abbrev pub IsFree : List ℕ → Tree → Type 0
  IsFree marked e = (k : ℕ) (r : RuleTree) → is_marked marked k ≡ true → slice_get rules k ≡ Some r → r.alert ≡ false → Reads rules e r.name → ⊥

  abbrev pub MadeBy : ℕ → List ℕ → Tree → Type 0
  MadeBy room marked e = Made u rules p small env holds_fork tells covers unnamed of union closed last (build_by_rule u env rules holds_fork room marked) e

  room_left : (room : ℕ) (marked : List ℕ) (k : ℕ) (r : RuleTree) → slice_get rules k ≡ Some r → is_marked marked k ≡ false → HasRoom (suc room) marked → HasRoom room (k ∷ marked)
  room_left room marked k r at free h =
      let less = one_fewer (unmarked marked) (unmarked (k ∷ marked)) (range_with_len 0 (length rules)) k (λ j e. drop_one (eqb j k) (is_marked marked j) e) (number_in rules k r at) (ap not free) (ap (λ b. not (b || is_marked marked k)) (eq-eqb k k refl)) in
      omega (arith, less, h)
    where
      drop_one : (a b : Bool) → not (a || b) ≡ true → not b ≡ true
      drop_one true b e = absurd (cc)
      drop_one false b e = e

  no_room : (marked : List ℕ) (k : ℕ) (r : RuleTree) → slice_get rules k ≡ Some r → is_marked marked k ≡ false → HasRoom 0 marked → ⊥
  no_room marked k r at free h =
      let c = in_filter (unmarked marked) (range_with_len 0 (length rules)) k (number_in rules k r at) (ap not free) in
      let w = c.1 in
      omega (arith, w, h)

  -- a rule of a name that is selected isn't marked
  is_free : (marked : List ℕ) (e : Tree) (n : Bytes) → IsFree marked e → Reads rules e n → (k : ℕ) (r : RuleTree) → slice_get rules k ≡ Some r → Records r n → is_marked marked k ≡ false
  is_free marked e n free reads k r at is = by (is_marked marked k) refl
    where
      by : (b : Bool) → is_marked marked k ≡ b → is_marked marked k ≡ false
      by true m = absurd (free k r m at is.0 (subst (Reads rules e) (sym is.1) reads))
      by false m = m

  -- and once it is, none that its expression reads is
  still_free : (marked : List ℕ) (e : Tree) → IsFree marked e → (k : ℕ) (r : RuleTree) → slice_get rules k ≡ Some r → r.alert ≡ false → Contains (selectors e) (Some r.name) → (IsCyclic rules r.name → ⊥) → IsFree (k ∷ marked) r.expr
  still_free marked e free k r at recording selects acyclic j q m at' recording' reads = by (eqb j k) refl m
    where
      by : (b : Bool) → eqb j k ≡ b → (b || is_marked marked j) ≡ true → ⊥
      by true e m =
          let same : q ≡ r = one_at rules _ q r (subst (λ z. slice_get rules z ≡ Some q) (eqb-true j k e) at') at in
          acyclic (r, member_at rules k r at, (recording, refl), subst (λ (z : RuleTree). Reads rules r.expr z.name) same reads)
      by false e m = free j q m at' recording' (Reads.through r (member_at rules k r at) recording (inl selects) reads)

  same_records : (r : RuleTree) (n : Bytes) (e : Tree) → Records r n → Contains (selectors e) (Some n) → Contains (selectors e) (Some r.name)
  same_records r n e is c = subst (λ x. Contains (selectors e) (Some x)) (sym is.1) c

  -- what is built for an expression without open constructs, where there is room and no marked rule is read
  pub made_by : (room : ℕ) (marked : List ℕ) (e : Tree) → Covers u e → HasNoneOpen rules e → HasRoom room marked → IsFree marked e → MadeBy room marked e
  made_by zero marked e known none room free =
      let names : NamesBuilt u rules p small env holds_fork tells covers unnamed of union closed last (build_by_rule u env rules holds_fork zero marked) e = record {
        read = none.read;
        built = λ n c recorded acyclic.
            let r = some_recorded rules n recorded in
            let at = number_of rules r.0 r.1 in
            absurd (no_room marked at.0 r.0 at.2 (is_free marked e n free (Reads.selected (inl c)) at.0 r.0 at.2 r.2) room);
      } in
      from_raw u rules p small env holds_fork tells covers unnamed of union closed last (build_by_rule u env rules holds_fork zero marked) e
      (λ s shut. raw u rules p small env holds_fork tells covers unnamed of union closed last (build_by_rule u env rules holds_fork zero marked) e s known shut names) none.own
  made_by (suc room) marked e known none has free =
      let names : NamesBuilt u rules p small env holds_fork tells covers unnamed of union closed last (build_by_rule u env rules holds_fork (suc room) marked) e = record {
        read = none.read;
        built = λ n c recorded acyclic row is.
            answers_name u rules p small env holds_fork tells covers unnamed of union closed n row is room marked (is_free marked e n free (Reads.selected (inl c))) acyclic
            (λ k r at records. (
              can_be_silent r.expr,
              made_by room (k ∷ marked) r.expr (rule_covered u rules covers r (member_at rules k r at)) (none_behind rules e none r (member_at rules k r at) (records.0, Reads.selected (inl (same_records r n e records c))))
                  (room_left room marked k r at (is_free marked e n free (Reads.selected (inl c)) k r at records) has)
                  (still_free marked e free k r at records.0 (same_records r n e records c) (λ cyclic. acyclic (subst (IsCyclic rules) records.1 cyclic))),
            ));
      } in
      from_raw u rules p small env holds_fork tells covers unnamed of union closed last (build_by_rule u env rules holds_fork (suc room) marked) e
      (λ s shut. raw u rules p small env holds_fork tells covers unnamed of union closed last (build_by_rule u env rules holds_fork (suc room) marked) e s known shut names) none.own

  -- of a rule, which is marked itself
  pub made_of_rule : (i : ℕ) (r : RuleTree) → slice_get rules i ≡ Some r → HasNoneOpen rules r.expr → MadeBy (length rules) (i ∷ []) r.expr
  made_of_rule i r at none =
      made_by (length rules) (i ∷ []) r.expr (rule_covered u rules covers r (member_at rules i r at)) none (let h = shorter (unmarked (i ∷ [])) (range_with_len 0 (length rules)) in let g = length-range_with_len 0 (length rules) in omega (arith, h, g))
      (rule_is_free rules i r at none)
