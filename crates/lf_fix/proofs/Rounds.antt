-- Rounds, as the code takes them.
use Rattle.std.proofs.Common.{◌≡◌, ℕ, zero, suc, ◌+◌, ◌<◌, Bool, true, false, ◌||◌, cond, List, [], ◌∷◌, map, length, Some, inl, inr, refl, sym, ◌∙◌, ap, subst, take, ◌⊎◌, arith}
use Rattle.std.specs.Prelude.{slice_get, slice_index_or}
use Rattle.std.specs.List.{AllByRecursion, Contains}
use Rattle.std.specs.Str.{bytes_eq}
use Rattle.std.proofs.Math.Seq.{take-length}
use Rattle.std.proofs.lemmas.Bool.{or_parts}
use Rattle.lf_ast.specs.Labels.{Bytes}
use Rattle.lf_ast.specs.Rules.{RuleTree}
use Rattle.lf_flow.specs.Raising.{joined}
use Rattle.lf_flow.specs.Reads.{names_of}
use Rattle.lf_semantics.specs.ClassRows.{Sets, bottom}
use Rattle.lf_semantics.specs.Environments.{CoversRules, IsEnvironmentOf, IsKnown, IsLeast, IsRow, Leq, names_recorded, recorded_names, recorded_row}
use Rattle.lf_semantics.specs.Listing.{IsListing, Listing, class_of, label_of, other_class}
use Rattle.lf_semantics.specs.RowTable.{Environment, row_named}
use Rattle.lf_ast.specs.Selectors.{metric}
use Rattle.lf_semantics.specs.Mentions.{mention, rule_mentions, mentions}
use Rattle.lf_laws.proofs.Members.{behind, first_or_behind, here, none_in, same_true}
use Rattle.lf_laws.proofs.Booleans.{clash}
use Rattle.lf_laws.proofs.Slices.{member_at, number_of, one_at}
use Rattle.lf_laws.proofs.Members.{all_back}
use Rattle.lf_semantics.proofs.Members.{all_of}
use Rattle.lf_semantics.proofs.Recorded.{recorded, recorder}
use Rattle.lf_semantics.proofs.ListingLaws.{in_first_seen, of_first_seen}
use Rattle.lf_semantics.proofs.RowLaws.{shape_bottom}
use Rattle.lf_semantics.proofs.NormalizedRows.{recorded_row_is, normalized_bottom}
use Rattle.lf_deps.specs.Ordering.{IsOrder}
use Rattle.lf_deps.proofs.OrderLaws.{each_ordered}
use Rattle.lf_fix.specs.views.Rounds.{OthersHold, Rises, StepTells, Tells, TellsOf, missing, start}
use Rattle.lf_fix.proofs.Missing.{joined_less}
use Rattle.lf_fix.proofs.Raising.{environment_joined, step_under, under_start}

-- a recorded name has a row

row_in : (env : Environment) (n : Bytes) → Contains (names_of env) n → (row : Sets) × (row_named env n ≡ Some row)
row_in [] n c = absurd (none_in n c)
row_in (e ∷ env) n c = by (bytes_eq e.0 n) refl (row_in env n)
  where
    by : (b : Bool) → bytes_eq e.0 n ≡ b → (Contains (names_of env) n → (row : Sets) × (row_named env n ≡ Some row)) → (row : Sets) × (cond b (Some e.1) (row_named env n) ≡ Some row)
    by true f rest = (e.1, refl)
    by false f rest = elim (first_or_behind e.0 (names_of env) n c) [ inl q ↦ absurd (clash _ (same_true e.0 n q) f) | inr d ↦ rest d ]

-- of the rows of an environment
pub one_named : (P : Sets → Type 0) (env : Environment) (n : Bytes) (row : Sets) → AllByRecursion (λ entry. P entry.1) env → row_named env n ≡ Some row → P row
one_named P [] n row h e = absurd (cc)
one_named P (x ∷ env) n row h e = by (bytes_eq x.0 n) e (one_named P env n row h.1)
  where
    by : (b : Bool) → cond b (Some x.1) (row_named env n) ≡ Some row → (row_named env n ≡ Some row → P row) → P row
    by true e rest = let q : x.1 ≡ row = cc in subst P q h.0
    by false e rest = rest e

rises_on : (u : Listing) (rules : List RuleTree) (a b c : Environment) → Rises u rules a b → Rises u rules b c → Rises u rules a c
rises_on u rules a b c h k = record { of_rules = k.of_rules; below = λ other o d e. k.below other o d (h.below other o d e) }

-- what stands before the place behind one stands before that one, or there
more_taken : (order : List ℕ) (n k j : ℕ) → slice_get order n ≡ Some k → Contains (take (suc n) order) j → Contains (take n order) j ⊎ (k ≡ j)
more_taken [] n k j at c = absurd (cc)
more_taken (x ∷ order) zero k j at c = elim (first_or_behind x (take 0 order) j c) [
  | inl e ↦ let q : x ≡ k = cc in inr (sym q ∙ e)
  | inr d ↦ absurd (none_in j d)
]
more_taken (x ∷ order) (suc n) k j at c = elim (first_or_behind x (take (suc n) order) j c) [
  | inl e ↦ let P : ℕ → Type 0 = λ y. Contains (x ∷ take n order) y in inl (subst P e (here x (take n order)))
  | inr d ↦ elim (more_taken order n k j at d) [ inl b ↦ inl (behind x (take n order) j b) | inr q ↦ inr q ]
]

-- a step more
pub tells_more : (u : Listing) (rules : List RuleTree) (order : List ℕ) (n k : ℕ) (env mid later : Environment) (dirty after : List Bool) (again changed : Bool) → slice_get order n ≡ Some k
    → Tells u rules order n env mid dirty again → StepTells u rules k mid later dirty after changed → Tells u rules order (n + 1) env later after (again || changed)
tells_more u rules order n k env mid later dirty after again changed at h t = record {
  rises = rises_on u rules env mid later h.rises t.rises;
  less = λ e. less again changed refl refl e;
  same = λ e. let b = or_parts again changed e in t.same b.1 ∙ h.same b.0;
  hold = t.hold;
  done = λ e j c.
      let b = or_parts again changed e in
      let more : n + 1 ≡ suc n = omega arith in
      let T : ℕ → Type 0 = λ i. Contains (take i order) j in
      elim (more_taken order n k j at (subst T more c)) [
        | inl d ↦ t.still b.1 j (h.done b.0 j d)
        | inr q ↦ let P : ℕ → Type 0 = λ i. slice_index_or after i true ≡ false in subst P q (t.done b.1)
      ];
}
  where
    less : (x y : Bool) → again ≡ x → changed ≡ y → (again || changed) ≡ true → missing later < missing env
    less true true e f i = let a = h.less e in let b = t.less f in omega arith
    less true false e f i = let P : Environment → Type 0 = λ z. missing z < missing env in subst P (sym (t.same f)) (h.less e)
    less false true e f i = let P : Environment → Type 0 = λ z. missing later < missing z in subst P (h.same e) (t.less f)
    less false false e f i = absurd (clash _ i (ap (λ b. b || changed) e ∙ f))

-- the environment without samples has the names of which it is made
pub start_names : (u : Listing) (names : List Bytes) → names_of (map (λ (name : Bytes). (name, bottom u)) names) ≡ names
start_names u [] = refl
start_names u (n ∷ names) = ap (λ (xs : List Bytes). n ∷ xs) (start_names u names)

module _ (u : Listing) (p : IsListing u) (rules : List RuleTree) where
  pub rises_none : (env : Environment) → IsEnvironmentOf u rules env → Rises u rules env env
  rises_none env h = record { of_rules = h; below = λ other o d b. b }

  -- nothing is stepped yet
  pub tells_none : (order : List ℕ) (env : Environment) (dirty : List Bool) → IsEnvironmentOf u rules env → OthersHold u rules env dirty → Tells u rules order 0 env env dirty false
  tells_none order env dirty of hold = record { rises = rises_none env of; less = λ e. absurd (cc); same = λ e. refl; hold = hold; done = λ e k c. absurd (none_in k c) }

  pub has_row : (env : Environment) (k : ℕ) (r : RuleTree) → IsEnvironmentOf u rules env → slice_get rules k ≡ Some r → r.alert ≡ false → (row : Sets) × (row_named env r.name ≡ Some row)
  has_row env k r h is e =
      let P : List Bytes → Type 0 = λ names. Contains names r.name in
      row_in env r.name (subst P (sym h.names) (in_first_seen (names_recorded rules) r.name (recorded rules r (member_at rules k r is) e)))

  -- rows of the universe have one shape
  pub same_shape : (env : Environment) (n : Bytes) (row other : Sets) → IsEnvironmentOf u rules env → IsRow u row → row_named env n ≡ Some other → map length other ≡ map length row
  same_shape env n row other h is e = (one_named (λ x. IsRow u x) env n other h.environment.rows e).0 ∙ sym is.0

  -- a row is joined to that of its name
  pub joined_tells : (env later : Environment) (k : ℕ) (r : RuleTree) (changed : Bool) → IsEnvironmentOf u rules env → slice_get rules k ≡ Some r → r.alert ≡ false → later ≡ joined r.name (recorded_row u env r) env
      → ((top : Sets) → row_named env r.name ≡ Some top → (changed ≡ false → Leq (recorded_row u env r) top) × (Leq (recorded_row u env r) top → changed ≡ false)) → (changed ≡ false → later ≡ env) → TellsOf u rules k env later changed
  joined_tells env later k r changed h is e made tells kept =
      let at = has_row env k r h is e in
      let own = recorded_row_is u p env h.environment r in
      record {
        rises =
            let P : Environment → Type 0 = λ x. Rises u rules env x in
            subst P (sym made) (record { of_rules = environment_joined r.name (recorded_row u env r) u own rules env h; below = λ other o d b. step_under u p rules env other r h o d (member_at rules k r is) e b });
        less = λ f.
            let P : Environment → Type 0 = λ x. missing x < missing env in
            subst P (sym made) (joined_less u r.name (recorded_row u env r) own env h.environment.rows at.0 at.1 (λ under. clash _ f ((tells at.0 at.1).1 under)));
        same = kept;
        holds = λ f s i g.
            let Q : RuleTree → Type 0 = λ y. (row : Sets) × (row_named env y.name ≡ Some row) × Leq (recorded_row u env y) row in
            subst Q (one_at rules k r s is i) (at.0, at.1, (tells at.0 at.1).0 f);
        joins = λ f s i. let Q : RuleTree → Type 0 = λ y. (y.alert ≡ false) × (later ≡ joined y.name (recorded_row u env y) env) in subst Q (one_at rules k r s is i) (e, made);
      }

  -- all rules of an order have been stepped
  all_taken : (order : List ℕ) (k : ℕ) → Contains order k → Contains (take (length order) order) k
  all_taken order k c = let P : List ℕ → Type 0 = λ numbers. Contains numbers k in subst P (sym (take-length order)) c

  -- a round that adds nothing has the least environment
  pub least_of : (order : List ℕ) (env later : Environment) (after : List Bool) (again : Bool) → IsOrder rules order → Rises u rules (start u rules) env
      → Tells u rules order (length order) env later after again → again ≡ false → IsLeast u rules later
  least_of order env later after again is h t e = record {
    of_rules = t.rises.of_rules;
    closed = λ r c f. let i = number_of rules r c in t.hold i.0 r i.2 (t.done e i.0 (all_taken order i.0 (each_ordered rules order is i.0 i.1))) f;
    least = λ other o d. t.rises.below other o d (h.below other o d (under_start u p rules other o));
  }

  pub rises_more : (order : List ℕ) (env later : Environment) (after : List Bool) (again : Bool) → Rises u rules (start u rules) env → Tells u rules order (length order) env later after again
      → Rises u rules (start u rules) later
  rises_more order env later after again h t = rises_on u rules (start u rules) env later h t.rises

  -- the start is an environment of the rules

  start_rows : (names : List Bytes) → AllByRecursion (λ (entry : Bytes × Sets). IsRow u entry.1) (map (λ (name : Bytes). (name, bottom u)) names)
  start_rows [] = tt
  start_rows (n ∷ names) = ((shape_bottom u, normalized_bottom u), start_rows names)

  abbrev IsClass : Bytes → Type 0
  IsClass name = class_of u (label_of u metric) name < other_class u (label_of u metric)

  start_classes : (names : List Bytes) → AllByRecursion IsClass names → AllByRecursion (λ (entry : Bytes × Sets). IsClass entry.0) (map (λ (name : Bytes). (name, bottom u)) names)
  start_classes [] h = tt
  start_classes (n ∷ names) h = (h.0, start_classes names h.1)

  -- a recorded name is a class of its own
  name_is_class : (r : RuleTree) → AllByRecursion (IsKnown u) (rule_mentions r) → r.alert ≡ false → IsClass r.name
  name_is_class r known e =
      let P : Bool → Type 0 = λ b. AllByRecursion (IsKnown u) (cond b [] (mention metric (r.name ∷ []) ∷ map (λ l. mention l.key (l.value ∷ [])) r.labels)) in
      (subst P e (all_back (IsKnown u) (mentions r.expr) _ known)).0.1.0

  names_are_classes : (rs : List RuleTree) → CoversRules u rs → (name : Bytes) → Contains (names_recorded rs) name → IsClass name
  names_are_classes rs covers name c = let f = recorder rs name c in subst IsClass f.3 (name_is_class f.0 (covers f.0 f.1) f.2)

  pub start_is : CoversRules u rules → IsEnvironmentOf u rules (start u rules)
  start_is covers = record {
    environment = record {
      rows = start_rows (recorded_names rules);
      classes = start_classes (recorded_names rules) (all_of IsClass (recorded_names rules) (λ name c. names_are_classes rules covers name (of_first_seen (names_recorded rules) name c)));
    };
    names = start_names u (recorded_names rules);
  }

  pub rises_start : (env : Environment) → CoversRules u rules → env ≡ start u rules → Rises u rules (start u rules) env
  rises_start env covers e = let P : Environment → Type 0 = λ x. Rises u rules (start u rules) x in subst P (sym e) (rises_none (start u rules) (start_is covers))
