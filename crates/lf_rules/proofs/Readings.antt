-- A tree without faults says the rules that the reading gives, and a tree that says rules has no fault and says these.
use Rattle.std.proofs.Common.{◌≡◌, ◌≢◌, ℕ, Bool, true, false, List, [], ◌++◌, Option, Some, None, option_map, ◌⊎◌, inl, inr, refl, sym, subst, true≢false, ap, ◌∙◌, codes, arith}
use Rattle.std.specs.List.{Contains, flat_map}
use Rattle.lf_base.specs.declared.kind.Kind.TheVariants.{BadName, BadDuration}
use Rattle.lf_base.specs.declared.place.Span.{Span}
use Rattle.lf_scalar.specs.Cells.{Value}
use Rattle.lf_base.specs.declared.fault.Fault.{Fault}
use Rattle.lf_yaml.specs.Tree.{Tree, leaf}
use Rattle.lf_rules.specs.Texts.{IsTime}
use Rattle.lf_base.specs.Names.{Bytes, is_metric_name}
use Rattle.lf_rules.specs.Mappings.{Pairing, given, given_entry}
use Rattle.lf_rules.specs.Sources.{Source, Setting}
use Rattle.lf_rules.specs.Rules.{IsText, AreSettings, NoneSetsName, IsRecord, IsAlert, IsRule, rule_keys}
use Rattle.lf_rules.specs.reading.Files.{is_time, text_faults, scalar_faults, unknown_faults, missing_faults, settings_faults, records_first, kind_faults, misplaced, alert_faults, rule_parts, rule_faults, text_of, settings_of, name_text, is_alert, rule_source}
use Rattle.lf_rules.proofs.Parts.{Decides}
use Rattle.lf_rules.proofs.RuleParts.{record_key, alert_key, not_given, none_given, some_given, is_given}
use Rattle.lf_rules.proofs.Stands.{both_empty, empty_both, part_is_empty, parts_are_empty, text_stands, text_clean, text_is_scalar, scalar_stands, scalar_clean, text_of_leaf, keys_stand, keys_clean, settings_stand, settings_clean}

-- ---- what a rule records or alerts

-- the faults of both keys, by what they are given
abbrev pub KindStands : List Pairing → Type 0
KindStands es =
    ((e : Pairing) × (given_entry record_key es ≡ Some e) × (given_entry alert_key es ≡ None))
    ⊎ ((a : Pairing) × (given_entry record_key es ≡ None) × (given_entry alert_key es ≡ Some a))

kind_stands : (s : Span) (first : Bool) (es : List Pairing) (recorded alerted : Option Pairing) → given_entry record_key es ≡ recorded → given_entry alert_key es ≡ alerted → kind_faults s first recorded alerted ≡ [] → KindStands es
kind_stands s first es None None g h e = absurd (cc)
kind_stands s first es None (Some a) g h e = inr (a, g, h)
kind_stands s first es (Some r) None g h e = inl (r, g, h)
kind_stands s first es (Some r) (Some a) g h e = absurd (cc)

misplaced_stands : (key : Bytes) (es : List Pairing) (found : Option Pairing) → given_entry key es ≡ found → misplaced found ≡ [] → given key es ≡ None
misplaced_stands key es None g e = not_given key es g
misplaced_stands key es (Some x) g e = absurd (cc)

-- the entry that is given is not missing
given_some : (key : Bytes) (es : List Pairing) (e : Pairing) → given_entry key es ≡ Some e → given key es ≡ Some e.1
given_some key es e g = ap (option_map (λ x. x.1)) g

pub not_missing : (s : Span) (es : List Pairing) (key : Bytes) (found : Option Pairing) → given_entry key es ≡ found → missing_faults s found ≡ [] → given key es ≢ None
not_missing s es key None g e = absurd (cc)
not_missing s es key (Some x) g e = is_given key es x g

alert_keys_stand : (es : List Pairing) (recorded alerted : Option Pairing) (e : Pairing) → recorded ≡ Some e → alerted ≡ None → alert_faults recorded alerted es ≡ []
    → (misplaced (given_entry (codes "for") es) ++ (misplaced (given_entry (codes "keep_firing_for") es) ++ misplaced (given_entry (codes "annotations") es))) ≡ []
alert_keys_stand es recorded alerted e g h f = subst (λ x. alert_faults (Some e) x es ≡ []) h (subst (λ x. alert_faults x alerted es ≡ []) g f)

module _ (time : Decides is_time IsTime) where
  -- ---- a rule without faults stands

  record_stands : (s : Span) (es : List Pairing) (group : ℕ) (e : Pairing) → rule_faults s es ≡ [] → given_entry record_key es ≡ Some e → given_entry alert_key es ≡ None → IsRecord es (rule_source group es)
  record_stands s es group e h g a =
      let part : (p : List Fault) → Contains (rule_parts s es) p → p ≡ [] = λ p c. part_is_empty (rule_parts s es) p h c in
      let three : (misplaced (given_entry (codes "for") es) ++ (misplaced (given_entry (codes "keep_firing_for") es) ++ misplaced (given_entry (codes "annotations") es))) ≡ [] =
      alert_keys_stand es (given_entry record_key es) (given_entry alert_key es) e g a (part (alert_faults (given_entry record_key es) (given_entry alert_key es) es) (2, omega arith, refl)) in
      let split : (misplaced (given_entry (codes "for") es) ≡ []) × ((misplaced (given_entry (codes "keep_firing_for") es) ++ misplaced (given_entry (codes "annotations") es)) ≡ []) = both_empty (misplaced (given_entry (codes "for") es)) (misplaced (given_entry (codes "keep_firing_for") es) ++ misplaced (given_entry (codes "annotations") es)) three in
      let two : (misplaced (given_entry (codes "keep_firing_for") es) ≡ []) × (misplaced (given_entry (codes "annotations") es) ≡ []) = both_empty (misplaced (given_entry (codes "keep_firing_for") es)) (misplaced (given_entry (codes "annotations") es)) split.1 in
      let is : given record_key es ≡ Some e.1 = given_some record_key es e g in
      let scalar : given record_key es ≡ Some (leaf (text_of (given record_key es))) = text_is_scalar is_metric_name BadName (given record_key es) (part (text_faults is_metric_name BadName (given record_key es)) (3, omega arith, refl)) (is_given record_key es e g) in
      let metric : IsText (λ t. is_metric_name t ≡ true) (given record_key es) = text_stands is_metric_name (λ t. is_metric_name t ≡ true) BadName (given record_key es) ((λ t x. x), (λ t x. x)) (part (text_faults is_metric_name BadName (given record_key es)) (3, omega arith, refl)) in
      record {
        kind = rw is refl;
        record_is = scalar ∙ ap (λ v. Some (leaf v)) (named (given record_key es) (given alert_key es) (text_of (given record_key es)) scalar);
        no_alert = not_given alert_key es a;
        no_for = misplaced_stands (codes "for") es (given_entry (codes "for") es) refl split.0;
        no_keep = misplaced_stands (codes "keep_firing_for") es (given_entry (codes "keep_firing_for") es) refl two.0;
        no_annotations = misplaced_stands (codes "annotations") es (given_entry (codes "annotations") es) refl two.1;
        name = subst (λ v. is_metric_name v.text ≡ true) (named (given record_key es) (given alert_key es) (text_of (given record_key es)) scalar) (subst (λ x. IsText (λ t. is_metric_name t ≡ true) x) scalar metric);
      }
    where
      named : (r a : Option Tree) (v : Value) → r ≡ Some (leaf v) → v ≡ name_text r a
      named r a v e = subst (λ x. v ≡ name_text x a) (sym e) refl

  alert_stands : (s : Span) (es : List Pairing) (group : ℕ) (x : Pairing) → rule_faults s es ≡ [] → given_entry record_key es ≡ None → given_entry alert_key es ≡ Some x → IsAlert es (rule_source group es)
  alert_stands s es group x h g a =
      let scalar : given alert_key es ≡ Some (leaf (text_of (given alert_key es))) = scalar_stands (given alert_key es) (part_is_empty (rule_parts s es) (scalar_faults (given alert_key es)) h (4, omega arith, refl)) (is_given alert_key es x a) in
      record {
        kind = rw (not_given record_key es g) refl;
        alert_is = scalar ∙ ap (λ v. Some (leaf v)) (named (given record_key es) (given alert_key es) (not_given record_key es g));
        no_record = not_given record_key es g;
      }
    where
      named : (r a : Option Tree) → r ≡ None → text_of a ≡ name_text r a
      named r a e = subst (λ y. text_of a ≡ name_text y a) (sym e) refl

  pub rule_stands : (s : Span) (es : List Pairing) (group : ℕ) → rule_faults s es ≡ [] → IsRule group es (rule_source group es)
  rule_stands s es group h =
      let part : (p : List Fault) → Contains (rule_parts s es) p → p ≡ [] = λ p c. part_is_empty (rule_parts s es) p h c in
      let labels : AreSettings (given (codes "labels") es) (settings_of (given (codes "labels") es)) × (true ≡ true → NoneSetsName (settings_of (given (codes "labels") es))) = settings_stand true (given (codes "labels") es) (part (settings_faults true (given (codes "labels") es)) (9, omega arith, refl)) in
      record {
        keys = keys_stand rule_keys es (part (flat_map (unknown_faults rule_keys) es) (0, omega arith, refl));
        kind = by (kind_stands s (records_first es) es (given_entry record_key es) (given_entry alert_key es) refl refl (part (kind_faults s (records_first es) (given_entry record_key es) (given_entry alert_key es)) (1, omega arith, refl)));
        expr = scalar_stands (given (codes "expr") es) (part (scalar_faults (given (codes "expr") es)) (6, omega arith, refl)) (not_missing s es (codes "expr") (given_entry (codes "expr") es) refl (part (missing_faults s (given_entry (codes "expr") es)) (5, omega arith, refl)));
        for_is = text_stands is_time IsTime BadDuration (given (codes "for") es) time (part (text_faults is_time BadDuration (given (codes "for") es)) (7, omega arith, refl));
        keep_is = text_stands is_time IsTime BadDuration (given (codes "keep_firing_for") es) time (part (text_faults is_time BadDuration (given (codes "keep_firing_for") es)) (8, omega arith, refl));
        labels = labels.0;
        no_name = labels.1 refl;
        annotations = (settings_stand false (given (codes "annotations") es) (part (settings_faults false (given (codes "annotations") es)) (10, omega arith, refl))).0;
        group_is = refl;
      }
    where
      by : KindStands es → IsRecord es (rule_source group es) ⊎ IsAlert es (rule_source group es)
      by (inl (e, g, a)) = inl (record_stands s es group e h g a)
      by (inr (x, g, a)) = inr (alert_stands s es group x h g a)

  -- ---- a rule that stands has no fault

  abbrev source_from : Bool → Value → Value → List Setting → List Setting → ℕ → Source
  source_from a n e l o g = record { alert = a; name = n; expr = e; labels = l; annotations = o; group = g }

  same_source : (a b : Bool) (n m e x : Value) (l k o p : List Setting) (g h : ℕ) → a ≡ b → n ≡ m → e ≡ x → l ≡ k → o ≡ p → g ≡ h → source_from a n e l o g ≡ source_from b m x k p h
  same_source a b n m e x l k o p g h i j q r s t = rw (i, j, q, r, s, t) refl

  -- what a record and an alert have in common here
  abbrev KindClean : Span → List Pairing → Source → Type 0
  KindClean s es r =
      (kind_faults s (records_first es) (given_entry record_key es) (given_entry alert_key es) ≡ []) × (alert_faults (given_entry record_key es) (given_entry alert_key es) es ≡ [])
      × (text_faults is_metric_name BadName (given record_key es) ≡ []) × (scalar_faults (given alert_key es) ≡ [])
      × (r.alert ≡ is_alert (given record_key es)) × (r.name ≡ name_text (given record_key es) (given alert_key es))

  clean_kind : (s : Span) (first : Bool) (es : List Pairing) (recorded alerted : Option Pairing) (e : Pairing) → recorded ≡ Some e → alerted ≡ None → kind_faults s first recorded alerted ≡ []
  clean_kind s first es recorded alerted e g a = subst (λ x. kind_faults s first x alerted ≡ []) (sym g) (subst (λ y. kind_faults s first (Some e) y ≡ []) (sym a) refl)

  clean_alert_kind : (s : Span) (first : Bool) (recorded alerted : Option Pairing) (x : Pairing) → recorded ≡ None → alerted ≡ Some x → kind_faults s first recorded alerted ≡ []
  clean_alert_kind s first recorded alerted x g a = subst (λ y. kind_faults s first y alerted ≡ []) (sym g) (subst (λ y. kind_faults s first None y ≡ []) (sym a) refl)

  clean_misplaced : (key : Bytes) (es : List Pairing) → given key es ≡ None → misplaced (given_entry key es) ≡ []
  clean_misplaced key es n = subst (λ x. misplaced x ≡ []) (sym (none_given (given_entry key es) n)) refl

  clean_alert_keys : (es : List Pairing) (recorded alerted : Option Pairing) (e : Pairing) → recorded ≡ Some e → alerted ≡ None → given (codes "for") es ≡ None → given (codes "keep_firing_for") es ≡ None → given (codes "annotations") es ≡ None
      → alert_faults recorded alerted es ≡ []
  clean_alert_keys es recorded alerted e g a f k n =
      subst (λ x. alert_faults x alerted es ≡ []) (sym g) (subst (λ y. alert_faults (Some e) y es ≡ []) (sym a)
      (empty_both (misplaced (given_entry (codes "for") es)) (misplaced (given_entry (codes "keep_firing_for") es) ++ misplaced (given_entry (codes "annotations") es)) (clean_misplaced (codes "for") es f)
      (empty_both (misplaced (given_entry (codes "keep_firing_for") es)) (misplaced (given_entry (codes "annotations") es)) (clean_misplaced (codes "keep_firing_for") es k) (clean_misplaced (codes "annotations") es n))))

  pub leaf_there : (key : Bytes) (es : List Pairing) (v : Value) → given key es ≡ Some (leaf v) → (e : Pairing) × (given_entry key es ≡ Some e)
  leaf_there key es v g = some_given (given_entry key es) (λ none. by (sym g ∙ none))
    where
      by : Some (leaf v) ≡ None → ⊥
      by h = absurd (cc)

  record_clean : (s : Span) (es : List Pairing) (r : Source) → IsRecord es r → KindClean s es r
  record_clean s es r i =
      let there : (e : Pairing) × (given_entry record_key es ≡ Some e) = leaf_there record_key es r.name i.record_is in
      let no_alert : given_entry alert_key es ≡ None = none_given (given_entry alert_key es) i.no_alert in (
        clean_kind s (records_first es) es (given_entry record_key es) (given_entry alert_key es) there.0 there.1 no_alert,
        clean_alert_keys es (given_entry record_key es) (given_entry alert_key es) there.0 there.1 no_alert i.no_for i.no_keep i.no_annotations,
        text_clean is_metric_name (λ t. is_metric_name t ≡ true) BadName (given record_key es) ((λ t x. x), (λ t x. x)) (subst (IsText (λ t. is_metric_name t ≡ true)) (sym i.record_is) i.name),
        subst (λ x. scalar_faults x ≡ []) (sym i.no_alert) refl,
        subst (λ x. r.alert ≡ is_alert x) (sym i.record_is) i.kind,
        subst (λ x. r.name ≡ name_text x (given alert_key es)) (sym i.record_is) refl,
      )

  alert_clean : (s : Span) (es : List Pairing) (r : Source) → IsAlert es r → KindClean s es r
  alert_clean s es r i =
      let there : (e : Pairing) × (given_entry alert_key es ≡ Some e) = leaf_there alert_key es r.name i.alert_is in
      let no_record : given_entry record_key es ≡ None = none_given (given_entry record_key es) i.no_record in (
        clean_alert_kind s (records_first es) (given_entry record_key es) (given_entry alert_key es) there.0 no_record there.1,
        subst (λ x. alert_faults x (given_entry alert_key es) es ≡ []) (sym no_record) refl,
        subst (λ x. text_faults is_metric_name BadName x ≡ []) (sym i.no_record) refl,
        scalar_clean (given alert_key es) r.name i.alert_is,
        subst (λ x. r.alert ≡ is_alert x) (sym i.no_record) i.kind,
        subst (λ x. r.name ≡ name_text x (given alert_key es)) (sym i.no_record) (text_of_leaf (given alert_key es) r.name i.alert_is),
      )

  pub rule_clean : (s : Span) (es : List Pairing) (group : ℕ) (r : Source) → IsRule group es r → (rule_faults s es ≡ []) × (r ≡ rule_source group es)
  rule_clean s es group r i =
      let kind : KindClean s es r = by i.kind in
      let labels : (settings_faults true (given (codes "labels") es) ≡ []) × (r.labels ≡ settings_of (given (codes "labels") es)) = settings_clean true (given (codes "labels") es) r.labels i.labels (λ l. i.no_name) in
      let annotations : (settings_faults false (given (codes "annotations") es) ≡ []) × (r.annotations ≡ settings_of (given (codes "annotations") es)) = settings_clean false (given (codes "annotations") es) r.annotations i.annotations (λ l. absurd (true≢false (sym l))) in
      let expr : (e : Pairing) × (given_entry (codes "expr") es ≡ Some e) = leaf_there (codes "expr") es r.expr i.expr in (
        parts_are_empty (rule_parts s es) ((
          keys_clean rule_keys es i.keys,
          (
            kind.0,
            (
              kind.1,
              (
                kind.2,
                (
                  kind.3,
                  (
                    subst (λ x. missing_faults s x ≡ []) (sym expr.1) refl,
                    (
                      scalar_clean (given (codes "expr") es) r.expr i.expr,
                      (text_clean is_time IsTime BadDuration (given (codes "for") es) time i.for_is, (text_clean is_time IsTime BadDuration (given (codes "keep_firing_for") es) time i.keep_is, (labels.0, (annotations.0, tt)))),
                    ),
                  ),
                ),
              ),
            ),
          ),
        )),
        same_source r.alert (is_alert (given record_key es)) r.name (name_text (given record_key es) (given alert_key es)) r.expr (text_of (given (codes "expr") es)) r.labels (settings_of (given (codes "labels") es)) r.annotations (settings_of (given (codes "annotations") es)) r.group group
            kind.4 kind.5 (text_of_leaf (given (codes "expr") es) r.expr i.expr) labels.1 annotations.1 i.group_is,
      )
    where
      by : IsRecord es r ⊎ IsAlert es r → KindClean s es r
      by (inl k) = record_clean s es r k
      by (inr k) = alert_clean s es r k
