-- In the least environment an expression without open constructs, beneath which nothing names `le`, has a row that holds `+Inf` where it holds a text of `le`.
use Rattle.std.proofs.Common.{◌≡◌, ◌<◌, inl, inr, ℕ, ◌+◌, Bool, true, false, not, ◌&&◌, ◌||◌, cond, eqb, List, [], ◌∷◌, length, get_or, Option, Some, None, refl, sym, ◌∙◌, ap, subst, arith, codes}
use Rattle.std.proofs.lemmas.Bool.{and_from, eq-eqb, not-false, not-true, false_from_ne_true}
use Rattle.std.proofs.lemmas.Bool.{or_parts}
use Rattle.std.proofs.lemmas.Bool.{or_right}
use Rattle.std.proofs.lemmas.Bool.{eqb-true}
use Rattle.std.specs.Prelude.{is_some}
use Rattle.std.specs.List.{Contains, list_any}
use Rattle.std.specs.Option.{option_map_or}
use Rattle.std.specs.Str.{bytes_eq}
use Rattle.std.proofs.lemmas.Bool.{or_cases}
use Rattle.std.proofs.lemmas.List.Elements.{Contains-append_left, Contains-append_right}
use Rattle.lf_laws.proofs.Booleans.{and_left, and_right, clash}
use Rattle.lf_laws.proofs.Members.{any_has, here, same_true, some_has, true_same}
use Rattle.lf_laws.proofs.Slices.{member_at, number_of}
use Rattle.lf_ast.specs.Functions.{Signature, aggregation, function_named}
use Rattle.lf_ast.specs.Labels.{Bytes}
use Rattle.lf_ast.specs.Rules.{RuleTree}
use Rattle.lf_ast.specs.Selectors.{selected_name}
use Rattle.lf_ast.specs.Tree.{Tree, Trees, Number, Str, Selector, Subquery, Paren, Unary, Binary, Call, Aggregate, Nil, Next}
use Rattle.lf_ast.specs.declared.expr.Matcher.{Matcher}
use Rattle.lf_ast.specs.declared.functions.LabelEffect.{LabelEffect}
use Rattle.lf_ast.specs.declared.functions.LabelEffect.TheVariants.{Maps, Keeps, Groups, CountValues, Date, Absent, LabelReplace, LabelJoin, HistogramQuantile, Bare}
use Rattle.lf_semantics.specs.ClassRows.{HoldsText, Sets, holds, indexed_from, is_live, narrowed}
use Rattle.lf_semantics.specs.Environments.{records, Covers, CoversRules, IsLeast, recorded_row}
use Rattle.lf_semantics.specs.Listing.{IsListing, Listing, class_of, label_of}
use Rattle.lf_semantics.specs.Parts.{is_scalar_part, operand_place}
use Rattle.lf_semantics.specs.RowTable.{Environment, may_be_present, row_named, row_of, set_at}
use Rattle.lf_semantics.proofs.RowLaws.{get_or-indexed, length-indexed}
use Rattle.lf_semantics.proofs.RowSets.{some_on}
use Rattle.lf_semantics.proofs.RowsGrow.{recorded_grows}
use Rattle.lf_deps.specs.Reading.{Reaches, Reads, Selects, selectors}
use Rattle.lf_trials.specs.Built.{sets_label}
use Rattle.lf_trials.specs.Selected.{Selected, selected_in, selected_in_arguments, selectors_of}
use Rattle.lf_trials.proofs.Reachable.{reaches, reaches_is}
use Rattle.lf_shown.specs.NoneOpen.{ArgumentsAreClosed, CallIsClosed, EffectIsClosed, HasNoneOpen, IsClosed, IsClosedIn, MatchesBucket, NamesBucket}
use Rattle.lf_shown.proofs.LastBuckets.{HasLast, are_clean, is_clean, is_clean_in, last_of, last_recorded}
use Rattle.lf_shown.proofs.Least.{all_pass, narrower, narrower_below, narrower_is}
use Rattle.lf_shown.proofs.Rows.{Held, in_narrowed, narrowed_passes}

module _ (u : Listing) (p : IsListing u) (rules : List RuleTree) where
  -- ---- rules that name `le`, or make labels by strings

  abbrev dirty : ℕ → RuleTree → Bool
  dirty k r = not (is_clean u p r.expr) || sets_label r (codes "le")

  -- a rule of the name does, or reads one that does
  abbrev taints : Bytes → RuleTree → Bool
  taints n r = records n r && (dirty 0 r || reaches rules dirty r.expr)

  abbrev is_tainted : Bytes → Bool
  is_tainted n = list_any (taints n) rules

  -- of a name that isn't tainted, neither is any that its rules select
  untainted_rule : (r : RuleTree) → Contains rules r → r.alert ≡ false → is_tainted r.name ≡ false → (dirty 0 r ≡ false) × (reaches rules dirty r.expr ≡ false)
  untainted_rule r c recording clean =
      or_parts (dirty 0 r) (reaches rules dirty r.expr)
      (false_from_ne_true _ (λ bad. clash _ (any_has (taints r.name) rules r c (rw (recording, same_true r.name r.name refl) bad)) clean))

  untainted_selected : (e : Tree) → reaches rules dirty e ≡ false → (n : Bytes) → Contains (selectors e) (Some n) → is_tainted n ≡ false
  untainted_selected e clean n c = false_from_ne_true (is_tainted n) (λ bad. by (some_has (taints n) rules bad))
    where
      by : ((r : RuleTree) × Contains rules r × (taints n r ≡ true)) → ⊥
      by (r, d, is) =
          let recording : r.alert ≡ false = not-true r.alert (and_left (not r.alert) (bytes_eq r.name n) (and_left (records n r) _ is)) in
          let name : r.name ≡ n = true_same r.name n (and_right (not r.alert) (bytes_eq r.name n) (and_left (records n r) _ is)) in
          let selects : Selects rules e r.name = inl (subst (λ x. Contains (selectors e) (Some x)) (sym name) c) in
          let at = number_of rules r d in
          elim (or_cases (dirty 0 r) (reaches rules dirty r.expr) (and_right (records n r) _ is)) [
            | inl bad ↦ clash _ ((reaches_is rules dirty e).1 (at.0, r, at.2, (recording, Reads.selected selects), bad)) clean
            | inr bad ↦
                let found = (reaches_is rules dirty r.expr).0 bad in
                clash _ ((reaches_is rules dirty e).1 (found.0, found.1, found.2, (found.3.0, Reads.through r d recording selects found.3.1), found.4)) clean
          ]

  clean_of : (r : RuleTree) → dirty 0 r ≡ false → (is_clean u p r.expr ≡ true) × (sets_label r (codes "le") ≡ false)
  clean_of r e = let b = or_parts (not (is_clean u p r.expr)) (sets_label r (codes "le")) e in (not-false (is_clean u p r.expr) b.0, b.1)

  -- ---- the least environment, with no text of `le` in the rows of such names that lack `+Inf`

  module _ (covers : CoversRules u rules) (env : Environment) (least : IsLeast u rules env) where
    abbrev l : ℕ
    l = label_of u (codes "le")

    abbrev last_class : ℕ
    last_class = class_of u (label_of u (codes "le")) (codes "+Inf")

    abbrev has_last : Bytes → Bool
    has_last n = option_map_or (λ row. holds row (label_of u (codes "le")) (class_of u (label_of u (codes "le")) (codes "+Inf"))) (row_named env n) false

    -- the classes that are left to a name
    abbrev left : Bytes → ℕ → ℕ → Bool
    left n label class = (is_tainted n || not (eqb label (label_of u (codes "le")))) || (eqb class 0 || has_last n)

    -- what is left of `le` to a name that isn't tainted
    left_last : (n : Bytes) (c : ℕ) → is_tainted n ≡ false → left n l c ≡ true → eqb c 0 ≡ false → has_last n ≡ true
    left_last n c clean passes some =
        second (eqb c 0) (has_last n) some
        (second (is_tainted n || not (eqb l l)) (eqb c 0 || has_last n) (ap (λ b. b || not (eqb l l)) clean ∙ ap not (eq-eqb l l refl)) passes)
      where
        second : (a b : Bool) → a ≡ false → (a || b) ≡ true → b ≡ true
        second true b e f = absurd (cc)
        second false b e f = f

    row_has_last : (n : Bytes) (row : Sets) → row_named env n ≡ Some row → has_last n ≡ true → Held row l last_class
    row_has_last n row is e = sym (ap (λ (o : Option Sets). option_map_or (λ row. holds row l last_class) o false) is) ∙ e

    of_narrower : (later : Environment) (n : Bytes) (row : Sets) → row_named (narrower left later) n ≡ Some row → (old : Sets) × (row_named later n ≡ Some old) × (narrowed (left n) old ≡ row)
    of_narrower [] n row e = absurd (cc)
    of_narrower (entry ∷ later) n row e = by (bytes_eq entry.0 n) refl e (of_narrower later n row)
      where
        by : (b : Bool) → bytes_eq entry.0 n ≡ b → cond b (Some (narrowed (left entry.0) entry.1)) (row_named (narrower left later) n) ≡ Some row
            → (row_named (narrower left later) n ≡ Some row → (old : Sets) × (row_named later n ≡ Some old) × (narrowed (left n) old ≡ row))
            → (old : Sets) × (cond b (Some entry.1) (row_named later n) ≡ Some old) × (narrowed (left n) old ≡ row)
        by true is e rest = let q : narrowed (left entry.0) entry.1 ≡ row = cc in (entry.1, refl, ap (λ x. narrowed (left x) entry.1) (sym (true_same entry.0 n is)) ∙ q)
        by false is e rest = rest e

    -- the narrower rows of such names
    narrower_last : (n : Bytes) → is_tainted n ≡ false → (row : Sets) → row_named (narrower left env) n ≡ Some row → HasLast u row
    narrower_last n clean row is =
        let old = of_narrower env n row is in
        subst (HasLast u) old.2 (λ live c held some.
        let has = left_last n c clean (narrowed_passes (left n) old.0 live l c held) some in
        in_narrowed (left n) old.0 live l last_class (row_has_last n old.0 old.1 has) (or_right _ _ (or_right (eqb last_class 0) (has_last n) has)))

    passes : (r : RuleTree) → Contains rules r → r.alert ≡ false → is_live (recorded_row u (narrower left env) r) ≡ true → (label class : ℕ) → Held (recorded_row u (narrower left env) r) label class → left r.name label class ≡ true
    passes r there recording live label class held = by (is_tainted r.name) refl (eqb label l) refl (eqb class 0) refl
      where
        stored : is_tainted r.name ≡ false → eqb label l ≡ true → eqb class 0 ≡ false → has_last r.name ≡ true
        stored clean is some =
            let rule = untainted_rule r there recording clean in
            let own = clean_of r rule.0 in
            let last : HasLast u (recorded_row u (narrower left env) r) =
            last_recorded u p (narrower left env) (narrower_is left u p rules env least) r (covers r there) recording own.1 own.0 (λ n row e c. narrower_last n (untainted_selected r.expr rule.1 n c) row e) in
            let h : Held (recorded_row u (narrower left env) r) l last_class = last live class (subst (λ k. Held (recorded_row u (narrower left env) r) k class) (eqb-true label l is) held) some in
            let old = recorded_grows u p (narrower left env) env (narrower_is left u p rules env least) least.of_rules.environment (narrower_below left u p rules env least) r live in
            let c = least.closed r there recording in
            ap (λ (o : Option Sets). option_map_or (λ row. holds row l last_class) o false) c.1 ∙ (c.2 old.0).1 l last_class (old.1 l last_class h)

        by : (a : Bool) → is_tainted r.name ≡ a → (b : Bool) → eqb label l ≡ b → (k : Bool) → eqb class 0 ≡ k → ((a || not b) || (k || has_last r.name)) ≡ true
        by true ta b eb k ek = refl
        by false ta false eb k ek = refl
        by false ta true eb true ek = refl
        by false ta true eb false ek = stored ta eb ek

    -- so the rows of such names in the least environment have it
    pub name_last : (n : Bytes) → is_tainted n ≡ false → (row : Sets) → row_named env n ≡ Some row → HasLast u row
    name_last n clean row is live c held some =
        row_has_last n row is (left_last n c clean (all_pass left u p rules env least passes n row is live l c held) some)

    -- ---- expressions without open constructs

    -- what is closed leaves `le` alone where no matcher names it

    abbrev unmatched : Selected → Type 0
    unmatched s = list_any (λ (m : Matcher). bytes_eq m.label (codes "le")) s.matchers ≡ false

    leaves : (effect : LabelEffect) (e : Tree) (args : Trees) (place : ℕ) → EffectIsClosed rules effect e args place → Rattle.lf_shown.proofs.LastBuckets.leaves_le u p effect ≡ true
    leaves CountValues e args place shut = absurd shut
    leaves LabelReplace e args place shut = absurd shut
    leaves LabelJoin e args place shut = absurd shut
    leaves Maps e args place shut = refl
    leaves Keeps e args place shut = refl
    leaves Groups e args place shut = refl
    leaves Date e args place shut = refl
    leaves Absent e args place shut = refl
    leaves HistogramQuantile e args place shut = refl
    leaves Bare e args place shut = refl

    leaves_call : (o : Option Signature) (e : Tree) (args : Trees) → CallIsClosed rules o e args → Rattle.lf_shown.proofs.LastBuckets.call_leaves u p o ≡ true
    leaves_call None e args shut = refl
    leaves_call (Some s) e args shut = leaves s.labels e args (operand_place s) shut

    sub : (x : Tree) → (IsClosedIn rules x → ((s : Selected) → Contains (selected_in x) s → unmatched s) → is_clean_in u p x ≡ true) → IsClosed rules x → ((s : Selected) → Contains (cond (is_scalar_part x) [] (selected_in x)) s → unmatched s) → is_clean u p x ≡ true
    sub x each shut others = by (is_scalar_part x) refl shut others
      where
        by : (b : Bool) → is_scalar_part x ≡ b → IsClosed rules x → ((s : Selected) → Contains (cond b [] (selected_in x)) s → unmatched s) → (b || is_clean_in u p x) ≡ true
        by true is shut others = refl
        by false is (inl e) others = absurd (clash _ e is)
        by false is (inr h) others = each h others

    mutual
      clean_in : (e : Tree) → IsClosedIn rules e → ((s : Selected) → Contains (selected_in e) s → unmatched s) → is_clean_in u p e ≡ true
      clean_in (Number text span) shut others = refl
      clean_in (Str text span) shut others = refl
      clean_in (Selector name matchers sight span) shut others =
          and_from _ _ (ap is_some shut.says) (ap not (others (record { name = selected_name name matchers; matchers = matchers }) (here (record { name = selected_name name matchers; matchers = matchers }) [])))
      clean_in (Subquery of sight span) shut others = sub of (λ h o. clean_in of h o) shut others
      clean_in (Paren of span) shut others = sub of (λ h o. clean_in of h o) shut others
      clean_in (Unary minus of span) shut others = sub of (λ h o. clean_in of h o) shut others
      clean_in (Binary op m left right span) shut others =
          and_from _ _ (sub left (λ h o. clean_in left h o) shut.0 (λ s c. others s (Contains-append_left (selectors_of left) (selectors_of right) s c)))
          (sub right (λ h o. clean_in right h o) shut.1 (λ s c. others s (Contains-append_right (selectors_of left) (selectors_of right) s c)))
      clean_in (Call name args span) shut others = and_from _ _ (leaves_call (function_named name) (Call name args span) args shut.1) (clean_arguments args shut.0 others)
      clean_in (Aggregate op grouping args span) shut others = and_from _ _ (leaves_call (Some (aggregation op)) (Aggregate op grouping args span) args shut.1) (clean_arguments args shut.0 others)

      clean_arguments : (args : Trees) → ArgumentsAreClosed rules args → ((s : Selected) → Contains (selected_in_arguments args) s → unmatched s) → are_clean u p args ≡ true
      clean_arguments Nil shut others = refl
      clean_arguments (Next x xs) shut others =
          and_from _ _ (sub x (λ h o. clean_in x h o) shut.0 (λ s c. others s (Contains-append_left (selectors_of x) (selected_in_arguments xs) s c)))
          (clean_arguments xs shut.1 (λ s c. others s (Contains-append_right (selectors_of x) (selected_in_arguments xs) s c)))

    no_matcher : (e : Tree) → (MatchesBucket e → ⊥) → (s : Selected) → Contains (selectors_of e) s → unmatched s
    no_matcher e none s c = false_from_ne_true (list_any (λ (m : Matcher). bytes_eq m.label (codes "le")) s.matchers) (λ is. none (s, c, is))

    clean_expr : (e : Tree) → IsClosed rules e → (MatchesBucket e → ⊥) → is_clean u p e ≡ true
    clean_expr e shut none = sub e (λ h o. clean_in e h o) shut (no_matcher e none)

    -- a rule that it reads isn't dirty
    clean_rule : (e : Tree) → HasNoneOpen rules e → (NamesBucket rules e → ⊥) → (r : RuleTree) → Contains rules r → Reaches rules e r → dirty 0 r ≡ false
    clean_rule e clear none r c reach =
        let expr = clean_expr r.expr (clear.read r c reach) (λ m. none (inr (r, c, reach, inl m))) in
        rw (expr, false_from_ne_true (sets_label r (codes "le")) (λ s. none (inr (r, c, reach, inr s)))) refl

    nothing_dirty : (e : Tree) → HasNoneOpen rules e → (NamesBucket rules e → ⊥) → reaches rules dirty e ≡ false
    nothing_dirty e clear none =
        false_from_ne_true (reaches rules dirty e) (λ bad. let found = (reaches_is rules dirty e).0 bad in clash _ found.4 (clean_rule e clear none found.1 (member_at rules found.0 found.1 found.2) found.3))

    row_last : (e : Tree) → Covers u e → HasNoneOpen rules e → (NamesBucket rules e → ⊥) → HasLast u (row_of u env e)
    row_last e known clear none =
        last_of u p env least.of_rules.environment e known (clean_expr e clear.own (λ m. none (inl m))) (λ n row is c. name_last n (untainted_selected e (nothing_dirty e clear none) n c) row is)

    -- a text of a label may be present: some class but that of the empty text is held
    some_present : (row : Sets) (name : Bytes) → may_be_present u row name ≡ true → (c : ℕ) × Held row (label_of u name) c × (eqb c 0 ≡ false)
    some_present row name e =
        let set = set_at u row (label_of u name) in
        let found = some_on (indexed_from (λ class on. on && not (eqb class 0)) 0 set) e in
        let within : found.0 < length set = let h = found.1 in let n = length-indexed (λ class on. on && not (eqb class 0)) 0 set in omega (arith, h, n) in
        let both : (get_or set found.0 false && not (eqb (0 + found.0) 0)) ≡ true = sym (get_or-indexed (λ class on. on && not (eqb class 0)) 0 set found.0 false false within) ∙ found.2 in
        let zero : 0 + found.0 ≡ found.0 = omega arith in
        (found.0, and_left (get_or set found.0 false) _ both, ap (λ k. eqb k 0) (sym zero) ∙ not-true (eqb (0 + found.0) 0) (and_right (get_or set found.0 false) _ both))

    pub last_is : (e : Tree) → Covers u e → HasNoneOpen rules e → (NamesBucket rules e → ⊥) → is_live (row_of u env e) ≡ true → may_be_present u (row_of u env e) (codes "le") ≡ true → HoldsText u (row_of u env e) (codes "le") (codes "+Inf")
    last_is e known clear none live present =
        let c = some_present (row_of u env e) (codes "le") present in
        row_last e known clear none live c.0 c.1 c.2
