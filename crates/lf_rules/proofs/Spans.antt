-- Where a tree lies in a source, so do its breaches and its rules.
use Rattle.std.proofs.Common.{◌≡◌, ℕ, zero, suc, ◌<◌, Bool, true, false, cond, List, [], ◌∷◌, ◌++◌, Option, Some, None, Result, Ok, Err, ◌⊎◌, inl, inr, refl, sym, subst, arith, codes, slice_get}
use Rattle.std.specs.Prelude.{IfOk, option_map}
use Rattle.std.specs.List.{Contains, AllZip, AllByRecursion}
use Rattle.std.specs.Str.{bytes_eq}
use Rattle.lf_base.specs.declared.fault.Fault.{Fault}
use Rattle.lf_base.specs.declared.kind.Kind.{Kind}
use Rattle.lf_base.specs.declared.kind.Kind.TheVariants.{MissingKey, BadName, BadLimit, BadDuration}
use Rattle.lf_base.specs.declared.place.Span.{Span}
use Rattle.lf_base.specs.declared.refusal.Refusal.{Refusal}
use Rattle.lf_base.specs.Answers.{Found, Refused, RefusedIn}
use Rattle.lf_base.specs.Faults.{LiesIn}
use Rattle.lf_base.specs.Names.{Bytes, is_metric_name}
use Rattle.lf_base.proofs.Answering.{refused_in}
use Rattle.lf_laws.proofs.Members.{behind, here, none_in, first_or_behind}
use Rattle.lf_yaml.specs.Tree.{Tree, leaf, sequence, mapping, Items, no_items, item, Entries, no_entries, entry}
use Rattle.lf_yaml.specs.Insides.{ScalarInside, Inside, ItemsInside, EntriesInside}
use Rattle.lf_rules.specs.Mappings.{Pairing, pairs, trees, place, entry_at, given_entry, given}
use Rattle.lf_rules.specs.Breaches as breach
use Rattle.lf_rules.specs.Breaches.{at_start, NoScalarAt, WrongTextAt, UnknownIn, SettingsBreak, settings_are_no_mapping, key_is_no_label, label_sets_the_name, setting_is_no_scalar, RuleBreaks, RuleTreeBreaks, GroupBreaks, GroupTreeBreaks, SecondName, Breaks, FirstBreak}
use Rattle.lf_rules.specs.Texts.{IsTime, IsLimit}
use Rattle.lf_rules.specs.Rules.{rule_keys, group_keys, file_keys, SetsText, AreSettings, IsRecord, IsAlert, IsRule, IsRuleTree, AreRules, IsGroupTree, AreGroups, AreFileGroups, IsRules}
use Rattle.lf_rules.specs.Sources.{Setting, Source, SettingInside, SourceInside, SourcesInside}
use Rattle.lf_rules.proofs.RuleParts.{given_is_there}

module _ (n : ℕ) where
  -- ---- what a tree has

  place_lies : (t : Tree) → Inside n t → LiesIn n (place t)
  place_lies (leaf v) h = h.0
  place_lies (sequence items s) h = h.0
  place_lies (mapping es s) h = h.0

  -- the entries of a mapping, as a list
  abbrev AreInside : List Pairing → Type 0
  AreInside es = (e : Pairing) → Contains es e → ScalarInside n e.0 × Inside n e.1

  pairs_inside : (es : Entries) → EntriesInside n es → AreInside (pairs es)
  pairs_inside no_entries h e c = absurd (none_in e c)
  pairs_inside (entry k t es) h e c = elim (first_or_behind (k, t) (pairs es) e c) [
    | inl same ↦ subst (λ (x : Pairing). ScalarInside n x.0 × Inside n x.1) same (h.0, h.1)
    | inr m ↦ pairs_inside es h.2 e m
  ]

  trees_inside : (items : Items) → ItemsInside n items → (t : Tree) → Contains (trees items) t → Inside n t
  trees_inside no_items h t c = absurd (none_in t c)
  trees_inside (item u items) h t c = elim (first_or_behind u (trees items) t c) [
    | inl same ↦ subst (Inside n) same h.0
    | inr m ↦ trees_inside items h.1 t m
  ]

  entry_found : (key : Bytes) (es : List Pairing) (e : Pairing) → entry_at key es ≡ Some e → Contains es e
  unfolding entry_at
  entry_found key [] e is = absurd (cc)
  entry_found key (x ∷ es) e is = by (bytes_eq x.0.text key) is (entry_found key es e)
    where
      same : Some x ≡ Some e → x ≡ e
      same h = cc

      by : (b : Bool) → cond b (Some x) (entry_at key es) ≡ Some e → (entry_at key es ≡ Some e → Contains es e) → Contains (x ∷ es) e
      by true h later = subst (Contains (x ∷ es)) (same h) (here x es)
      by false h later = behind x es e (later h)

  module _ (es : List Pairing) (inside : AreInside es) where
    entry_inside : (key : Bytes) (e : Pairing) → given_entry key es ≡ Some e → ScalarInside n e.0 × Inside n e.1
    entry_inside key e g = inside e (entry_found key es e (given_is_there (entry_at key es) e g))

    given_inside : (key : Bytes) (t : Tree) → given key es ≡ Some t → Inside n t
    given_inside key t g = by (given_entry key es) refl g
      where
        same : (e : Pairing) → Some e.1 ≡ Some t → e.1 ≡ t
        same e h = cc

        by : (found : Option Pairing) → given_entry key es ≡ found → option_map (λ e. e.1) found ≡ Some t → Inside n t
        by None is h = absurd (cc)
        by (Some e) is h = subst (Inside n) (same e h) (entry_inside key e is).1

    -- ---- breaches

    text_lies : (key : Bytes) (is : Bytes → Type 0) (kind : Kind) (f : Fault) → WrongTextAt key is kind es f → LiesIn n f.span
    text_lies key is kind f w = subst (λ (x : Fault). LiesIn n x.span) (sym w.3) (given_inside key (leaf w.0) w.1).0

    scalar_lies : (key : Bytes) (f : Fault) → NoScalarAt key es f → LiesIn n f.span
    scalar_lies key f w = subst (λ (x : Fault). LiesIn n x.span) (sym w.3) (place_lies w.0 (given_inside key w.0 w.1))

    unknown_lies : (keys : List Bytes) (f : Fault) → UnknownIn keys es f → LiesIn n f.span
    unknown_lies keys f u = subst (λ (x : Fault). LiesIn n x.span) (sym u.4) (inside (u.0, u.1) u.2).0.0

  settings_lie : (is_labels : Bool) (t : Tree) (f : Fault) → Inside n t → SettingsBreak is_labels t f → LiesIn n f.span
  settings_lie is_labels t f h (settings_are_no_mapping bare) = place_lies t h
  settings_lie is_labels t f h (key_is_no_label {es = es} {k = k} {t = u} c other) = (pairs_inside es h.2 (k, u) c).0.0
  settings_lie is_labels t f h (label_sets_the_name {es = es} {k = k} {t = u} c e) = (pairs_inside es h.2 (k, u) c).0.0
  settings_lie is_labels t f h (setting_is_no_scalar {es = es} {k = k} {t = u} c bare) = place_lies u (pairs_inside es h.2 (k, u) c).1

  module _ (few : n < 4294967296) where
    -- the first character of a mapping
    first_lies : (s : Span) → s.start < n → LiesIn n (at_start MissingKey s).span
    first_lies s lt = (omega arith, omega arith)

    rule_lies : (s : Span) (es : List Pairing) (f : Fault) → s.start < n → AreInside es → RuleBreaks s es f → LiesIn n f.span
    rule_lies s es f lt inside (breach.rule_has_unknown_key u) = unknown_lies es inside rule_keys f u
    rule_lies s es f lt inside (breach.rule_has_no_name a b) = first_lies s lt
    rule_lies s es f lt inside (breach.rule_has_no_expression a) = first_lies s lt
    rule_lies s es f lt inside (breach.alert_behind_record {alerted = e} g h b) = (entry_inside es inside (codes "alert") e h).0.0
    rule_lies s es f lt inside (breach.record_behind_alert {recorded = e} g h b) = (entry_inside es inside (codes "record") e g).0.0
    rule_lies s es f lt inside (breach.record_is_no_metric w) = text_lies es inside (codes "record") (λ t. is_metric_name t ≡ true) BadName f w
    rule_lies s es f lt inside (breach.only_for_alerts {key = key} {e = e} r c g) = (entry_inside es inside key e g).0.0
    rule_lies s es f lt inside (breach.rule_wants_a_scalar {key = key} k w) = scalar_lies es inside key f w
    rule_lies s es f lt inside (breach.rule_wants_a_time {key = key} k w) = text_lies es inside key IsTime BadDuration f w
    rule_lies s es f lt inside (breach.labels_break {t = t} g b) = settings_lie true t f (given_inside es inside (codes "labels") t g) b
    rule_lies s es f lt inside (breach.annotations_break {t = t} g b) = settings_lie false t f (given_inside es inside (codes "annotations") t g) b

    rule_tree_lies : (t : Tree) (f : Fault) → Inside n t → RuleTreeBreaks t f → LiesIn n f.span
    rule_tree_lies t f h (breach.rule_is_no_mapping bare) = place_lies t h
    rule_tree_lies t f h (breach.rule_breaks {es = es} {s = s} b) = rule_lies s (pairs es) f h.1 (pairs_inside es h.2) b

    group_lies : (s : Span) (es : List Pairing) (f : Fault) → s.start < n → AreInside es → GroupBreaks s es f → LiesIn n f.span
    group_lies s es f lt inside (breach.group_has_unknown_key u) = unknown_lies es inside group_keys f u
    group_lies s es f lt inside (breach.group_has_no_name a) = first_lies s lt
    group_lies s es f lt inside (breach.group_wants_a_scalar {key = key} k w) = scalar_lies es inside key f w
    group_lies s es f lt inside (breach.group_wants_a_time {key = key} k w) = text_lies es inside key IsTime BadDuration f w
    group_lies s es f lt inside (breach.group_wants_a_limit w) = text_lies es inside (codes "limit") IsLimit BadLimit f w
    group_lies s es f lt inside (breach.rules_are_no_list {t = t} g bare) = place_lies t (given_inside es inside (codes "rules") t g)
    group_lies s es f lt inside (breach.some_rule_breaks {items = items} {p = p} {t = t} g c b) = rule_tree_lies t f (trees_inside items (given_inside es inside (codes "rules") (sequence items p) g).1 t c) b

    group_tree_lies : (t : Tree) (f : Fault) → Inside n t → GroupTreeBreaks t f → LiesIn n f.span
    group_tree_lies t f h (breach.group_is_no_mapping bare) = place_lies t h
    group_tree_lies t f h (breach.group_breaks {es = es} {s = s} b) = group_lies s (pairs es) f h.1 (pairs_inside es h.2) b

    member_at : (ts : List Tree) (i : ℕ) (t : Tree) → slice_get ts i ≡ Some t → Contains ts t
    member_at [] i t e = absurd (cc)
    member_at (x ∷ ts) zero t e = subst (Contains (x ∷ ts)) (same e) (here x ts)
      where
        same : Some x ≡ Some t → x ≡ t
        same h = cc
    member_at (x ∷ ts) (suc i) t e = behind x ts t (member_at ts i t e)

    name_lies : (ts : List Tree) (f : Fault) → ((t : Tree) → Contains ts t → Inside n t) → SecondName ts f → LiesIn n f.span
    name_lies ts f inside (i, j, lt, t, u, v, w, at_i, at_j, named, (es, s, is, g), again, f_is) =
        let h : Inside n (mapping es s) = subst (Inside n) is (inside u (member_at ts j u at_j)) in
        subst (λ (x : Fault). LiesIn n x.span) (sym f_is) (given_inside (pairs es) (pairs_inside es h.2) (codes "name") (leaf w) g).0

    -- the value of `groups`
    groups_at : (es : Entries) (s : Span) → Inside n (mapping es s) → (t : Tree) → given (codes "groups") (pairs es) ≡ Some t → Inside n t
    groups_at es s h t g = given_inside (pairs es) (pairs_inside es h.2) (codes "groups") t g

    pub breach_lies : (t : Tree) → Inside n t → (f : Fault) → Breaks t f → LiesIn n f.span
    breach_lies t h f (breach.file_is_no_mapping bare e) = place_lies t h
    breach_lies t h f (breach.file_has_unknown_key {es = es} u) = unknown_lies (pairs es) (pairs_inside es h.2) file_keys f u
    breach_lies t h f (breach.file_has_no_groups {s = s} a) = first_lies s h.1
    breach_lies t h f (breach.groups_are_no_list {es = es} {s = s} {t = u} g bare) = place_lies u (groups_at es s h u g)
    breach_lies t h f (breach.some_group_breaks {es = es} {s = s} {p = p} {items = items} {t = u} g c b) = group_tree_lies u f (trees_inside items (groups_at es s h (sequence items p) g).1 u c) b
    breach_lies t h f (breach.second_name {es = es} {s = s} {p = p} {items = items} g b) = name_lies (trees items) f (trees_inside items (groups_at es s h (sequence items p) g).1) b

  -- ---- rules

  each_setting : (es : List Pairing) (ss : List Setting) → AreInside es → AllZip SetsText es ss → AllByRecursion (SettingInside n) ss
  each_setting [] [] inside z = tt
  each_setting [] (s ∷ ss) inside z = absurd z
  each_setting (e ∷ es) [] inside z = tt
  each_setting (e ∷ es) (s ∷ ss) inside z =
      let own = inside e (here e es) in
      let value : Inside n (leaf s.1) = subst (Inside n) z.0.1 own.1 in
      ((subst (ScalarInside n) (sym z.0.0) own.0, value), each_setting es ss (λ x c. inside x (behind e es x c)) z.1)

  settings_inside : (g : Option Tree) (ss : List Setting) → ((t : Tree) → g ≡ Some t → Inside n t) → AreSettings g ss → AllByRecursion (SettingInside n) ss
  settings_inside None ss inside z = subst (AllByRecursion (SettingInside n)) (sym z) tt
  settings_inside (Some (leaf v)) ss inside z = absurd z
  settings_inside (Some (sequence items s)) ss inside z = absurd z
  settings_inside (Some (mapping es s)) ss inside z = let h = inside (mapping es s) refl in each_setting (pairs es) ss (pairs_inside es h.2) z

  rule_inside : (group : ℕ) (es : List Pairing) (r : Source) → AreInside es → IsRule group es r → SourceInside n r
  rule_inside group es r inside i = record {
    name = by i.kind;
    expr = given_inside es inside (codes "expr") (leaf r.expr) i.expr;
    labels = settings_inside (given (codes "labels") es) r.labels (given_inside es inside (codes "labels")) i.labels;
    annotations = settings_inside (given (codes "annotations") es) r.annotations (given_inside es inside (codes "annotations")) i.annotations;
  }
    where
      by : IsRecord es r ⊎ IsAlert es r → ScalarInside n r.name
      by (inl k) = given_inside es inside (codes "record") (leaf r.name) k.record_is
      by (inr k) = given_inside es inside (codes "alert") (leaf r.name) k.alert_is

  rule_tree_inside : (group : ℕ) (t : Tree) (r : Source) → Inside n t → IsRuleTree group t r → SourceInside n r
  rule_tree_inside group (leaf v) r h i = absurd i
  rule_tree_inside group (sequence items s) r h i = absurd i
  rule_tree_inside group (mapping es s) r h i = rule_inside group (pairs es) r (pairs_inside es h.2) i

  each_rule : (group : ℕ) (ts : List Tree) (rs : List Source) → ((t : Tree) → Contains ts t → Inside n t) → AllZip (IsRuleTree group) ts rs → SourcesInside n rs
  each_rule group [] [] inside z = tt
  each_rule group [] (r ∷ rs) inside z = absurd z
  each_rule group (t ∷ ts) [] inside z = tt
  each_rule group (t ∷ ts) (r ∷ rs) inside z = (rule_tree_inside group t r (inside t (here t ts)) z.0, each_rule group ts rs (λ x c. inside x (behind t ts x c)) z.1)

  rules_inside : (group : ℕ) (g : Option Tree) (rs : List Source) → ((t : Tree) → g ≡ Some t → Inside n t) → AreRules group g rs → SourcesInside n rs
  rules_inside group None rs inside z = subst (SourcesInside n) (sym z) tt
  rules_inside group (Some (leaf v)) rs inside z = absurd z
  rules_inside group (Some (sequence items s)) rs inside z = let h = inside (sequence items s) refl in each_rule group (trees items) rs (trees_inside items h.1) z
  rules_inside group (Some (mapping es s)) rs inside z = absurd z

  group_inside : (number : ℕ) (t : Tree) (name : Bytes) (rs : List Source) → Inside n t → IsGroupTree number t name rs → SourcesInside n rs
  group_inside number (leaf v) name rs h i = absurd i
  group_inside number (sequence items s) name rs h i = absurd i
  group_inside number (mapping es s) name rs h i = rules_inside number (given (codes "rules") (pairs es)) rs (given_inside (pairs es) (pairs_inside es h.2) (codes "rules")) i.rules

  both_inside : (rs others : List Source) → SourcesInside n rs → SourcesInside n others → SourcesInside n (rs ++ others)
  both_inside [] others h k = k
  both_inside (r ∷ rs) others h k = (h.0, both_inside rs others h.1 k)

  groups_inside : (number : ℕ) (ts : List Tree) (names : List Bytes) (rs : List Source) → ((t : Tree) → Contains ts t → Inside n t) → AreGroups number ts names rs → SourcesInside n rs
  groups_inside number [] names rs inside z = subst (SourcesInside n) (sym z.1) tt
  groups_inside number (t ∷ ts) names rs inside (name, others, first, later, names_are, rs_are, i, more) =
      subst (SourcesInside n) (sym rs_are) (both_inside first later (group_inside number t name first (inside t (here t ts)) i) (groups_inside (suc number) ts others later (λ x c. inside x (behind t ts x c)) more))

  file_inside : (g : Option Tree) (rs : List Source) → ((t : Tree) → g ≡ Some t → Inside n t) → AreFileGroups g rs → SourcesInside n rs
  file_inside None rs inside z = subst (SourcesInside n) (sym z) tt
  file_inside (Some (leaf v)) rs inside z = absurd z
  file_inside (Some (sequence items s)) rs inside z = let h = inside (sequence items s) refl in groups_inside 0 (trees items) z.0 rs (trees_inside items h.1) z.1
  file_inside (Some (mapping es s)) rs inside z = absurd z

  pub sources_inside : (t : Tree) (rs : List Source) → Inside n t → IsRules t rs → SourcesInside n rs
  sources_inside (leaf v) rs h z = subst (SourcesInside n) (sym z.1) tt
  sources_inside (sequence items s) rs h z = absurd z
  sources_inside (mapping es s) rs h z = file_inside (given (codes "groups") (pairs es)) rs (given_inside (pairs es) (pairs_inside es h.2) (codes "groups")) z.2

-- ---- the clauses of a reader

module _ {X : Type 0} (view : X → List Source) (t : Tree) where
  -- the scalars of what is answered lie in the source
  pub found_inside : (r : Result X Refusal) → Found view (IsRules t) r → (n : ℕ) → n < 4294967296 → Inside n t → IfOk r (λ x. SourcesInside n (view x))
  found_inside (Ok x) i n few h = sources_inside n t (view x) h i
  found_inside (Err e) i n few h = tt

  -- and so does the span of a refusal
  pub refused_inside : (r : Result X Refusal) → Refused (FirstBreak t) r → (n : ℕ) → n < 4294967296 → Inside n t → RefusedIn n r
  refused_inside r refused n few h = refused_in n (FirstBreak t) (λ f b. breach_lies n few t h f b.0) r refused
