-- The faults of a rule are those of the definition.
use Rattle.std.proofs.Common.{◌≡◌, ◌≢◌, Bool, true, false, not, ◌&&◌, ◌||◌, cond, List, [], ◌∷◌, ◌++◌, Option, Some, None, option_map, ◌⊎◌, inl, inr, refl, sym, subst, true≢false, codes, ap, ◌∙◌, arith}
use Rattle.std.specs.List.{Contains, flat_map}
use Rattle.std.specs.Str.{bytes_eq}
use Rattle.lf_base.specs.declared.kind.Kind.TheVariants.{WrongKind, MissingKey, BothKinds, BadName, NotForRecord, BadDuration}
use Rattle.lf_base.specs.declared.place.Span.{Span}
use Rattle.lf_base.specs.declared.fault.Fault.{Fault}
use Rattle.lf_yaml.specs.Tree.{Tree, leaf, sequence, mapping}
use Rattle.lf_rules.specs.Texts.{IsTime}
use Rattle.lf_base.specs.Names.{Bytes, is_metric_name}
use Rattle.lf_rules.specs.Mappings.{Pairing, pairs, place, given, given_entry, entry_at, unless_empty, is_empty}
use Rattle.lf_rules.specs.Rules.{rule_keys, alert_keys}
use Rattle.lf_rules.specs.Breaches as breach
use Rattle.lf_rules.specs.Breaches.{at_start, scalar_keys, time_keys, StandsBefore, RuleBreaks, RuleTreeBreaks, HasRecordAlone}
use Rattle.lf_base.specs.Faults.{fault}
use Rattle.lf_rules.specs.reading.Files.{is_time, records_first, kind_faults, misplaced, alert_faults, rule_parts, rule_faults, rule_tree_faults, text_faults, scalar_faults, missing_faults, unknown_faults, settings_faults}
use Rattle.lf_laws.proofs.Members.{here, behind, none_in, only_one, first_or_behind, true_same, same_true, other_false, any_out, in_flat_map, of_flat_map, each_member}
use Rattle.std.proofs.lemmas.Bool.{or_right}
use Rattle.lf_rules.proofs.Parts.{Decides, either, scalar_out, scalar_in, text_out, text_in_kind, text_in_text, unknown_out, unknown_in, settings_out, settings_in, scalar_is_no_mapping, list_is_no_mapping}
use Rattle.std.proofs.lemmas.List.Elements.{Contains-append_left, Contains-append_right}

-- ---- which of two keys stands first

abbrev pub record_key : Bytes
record_key = codes "record"

abbrev pub alert_key : Bytes
alert_key = codes "alert"

pub keys_apart : record_key ≢ alert_key
keys_apart e = true≢false (sym (same_true record_key alert_key e))

-- one more entry in front, which has another key
further : (key other : Bytes) (e : Pairing) (es : List Pairing) → e.0.text ≢ other → StandsBefore key other es → StandsBefore key other (e ∷ es)
further key other e es apart s = (e ∷ s.0, s.1, s.2, ap (λ l. e ∷ l) s.3, s.4, (λ b c. by b (first_or_behind e s.0 b c)))
  where
    by : (b : Pairing) → (e ≡ b) ⊎ Contains s.0 b → b.0.text ≢ other
    by b (inl is) = subst (λ x. x.0.text ≢ other) is apart
    by b (inr m) = s.5 b m

-- an entry that is given stands in the mapping
pub given_is_there : (found : Option Pairing) (e : Pairing) → unless_empty found ≡ Some e → found ≡ Some e
given_is_there None e g = absurd (cc)
given_is_there (Some x) e g = by (is_empty x.1) g
  where
    by : (b : Bool) → cond b None (Some x) ≡ Some e → Some x ≡ Some e
    by true h = absurd (cc)
    by false h = h

-- the first of both keys, as the scan says
pub record_stands_first : (es : List Pairing) (e : Pairing) → entry_at record_key es ≡ Some e → records_first es ≡ true → StandsBefore record_key alert_key es
unfolding records_first entry_at
record_stands_first [] e g r = absurd (cc)
record_stands_first (x ∷ es) e g r = by (bytes_eq x.0.text record_key) (bytes_eq x.0.text alert_key) refl refl g r (record_stands_first es e)
  where
    by : (a b : Bool) → bytes_eq x.0.text record_key ≡ a → bytes_eq x.0.text alert_key ≡ b → cond a (Some x) (entry_at record_key es) ≡ Some e → (a || (not b && records_first es)) ≡ true
        → (entry_at record_key es ≡ Some e → records_first es ≡ true → StandsBefore record_key alert_key es) → StandsBefore record_key alert_key (x ∷ es)
    by true b is other h t later = ([], es, x, refl, true_same x.0.text record_key is, (λ y c. absurd (none_in y c)))
    by false true is other h t later = absurd (true≢false (sym t))
    by false false is other h t later = further record_key alert_key x es (λ same. true≢false (sym (same_true x.0.text alert_key same) ∙ other)) (later h t)

pub alert_stands_first : (es : List Pairing) (e : Pairing) → entry_at alert_key es ≡ Some e → records_first es ≡ false → StandsBefore alert_key record_key es
unfolding records_first entry_at
alert_stands_first [] e g r = absurd (cc)
alert_stands_first (x ∷ es) e g r = by (bytes_eq x.0.text record_key) (bytes_eq x.0.text alert_key) refl refl g r (alert_stands_first es e)
  where
    by : (a b : Bool) → bytes_eq x.0.text record_key ≡ a → bytes_eq x.0.text alert_key ≡ b → cond b (Some x) (entry_at alert_key es) ≡ Some e → (a || (not b && records_first es)) ≡ false
        → (entry_at alert_key es ≡ Some e → records_first es ≡ false → StandsBefore alert_key record_key es) → StandsBefore alert_key record_key (x ∷ es)
    by true b is other h t later = absurd (true≢false t)
    by false true is other h t later = ([], es, x, refl, true_same x.0.text alert_key other, (λ y c. absurd (none_in y c)))
    by false false is other h t later = further alert_key record_key x es (λ same. true≢false (sym (same_true x.0.text record_key same) ∙ is)) (later h t)

scan_record : (front back : List Pairing) (e : Pairing) → e.0.text ≡ record_key → ((y : Pairing) → Contains front y → y.0.text ≢ alert_key) → records_first (front ++ e ∷ back) ≡ true
unfolding records_first
scan_record [] back e is none = rw (same_true e.0.text record_key is) refl
scan_record (x ∷ front) back e is none =
    let later : records_first (front ++ e ∷ back) ≡ true = scan_record front back e is (λ y c. none y (behind x front y c)) in
    rw (other_false x.0.text alert_key (none x (here x front)), later) (or_right (bytes_eq x.0.text record_key) true refl)

pub scan_first_record : (es : List Pairing) → StandsBefore record_key alert_key es → records_first es ≡ true
scan_first_record es s = subst (λ l. records_first l ≡ true) (sym s.3) (scan_record s.0 s.1 s.2 s.4 s.5)

scan_alert : (front back : List Pairing) (e : Pairing) → e.0.text ≡ alert_key → ((y : Pairing) → Contains front y → y.0.text ≢ record_key) → records_first (front ++ e ∷ back) ≡ false
unfolding records_first
scan_alert [] back e is none = rw (other_false e.0.text record_key (λ same. keys_apart (sym same ∙ is)), same_true e.0.text alert_key is) refl
scan_alert (x ∷ front) back e is none =
    let later : records_first (front ++ e ∷ back) ≡ false = scan_alert front back e is (λ y c. none y (behind x front y c)) in
    rw (other_false x.0.text record_key (none x (here x front)), later) (by (bytes_eq x.0.text alert_key))
  where
    by : (b : Bool) → (not b && false) ≡ false
    by true = refl
    by false = refl

pub scan_first_alert : (es : List Pairing) → StandsBefore alert_key record_key es → records_first es ≡ false
scan_first_alert es s = subst (λ l. records_first l ≡ false) (sym s.3) (scan_alert s.0 s.1 s.2 s.4 s.5)

-- ---- from the list of faults to the definition

pub missing_out : (s : Span) (found : Option Pairing) (f : Fault) → Contains (missing_faults s found) f → (found ≡ None) × (f ≡ at_start MissingKey s)
missing_out s None f c = (refl, sym (only_one (at_start MissingKey s) f c))
missing_out s (Some e) f c = absurd (none_in f c)

pub not_given : (key : Bytes) (es : List Pairing) → given_entry key es ≡ None → given key es ≡ None
not_given key es e = ap (option_map (λ x. x.1)) e

pub is_given : (key : Bytes) (es : List Pairing) (e : Pairing) → given_entry key es ≡ Some e → given key es ≢ None
is_given key es e g none = by (sym (ap (option_map (λ x. x.1)) g) ∙ none)
  where
    by : Some e.1 ≡ None → ⊥
    by h = absurd (cc)

kind_out : (s : Span) (es : List Pairing) (f : Fault) (recorded alerted : Option Pairing) (first : Bool) → records_first es ≡ first → given_entry record_key es ≡ recorded → given_entry alert_key es ≡ alerted
    → Contains (kind_faults s first recorded alerted) f → RuleBreaks s es f
kind_out s es f None None first r g h c = subst (RuleBreaks s es) (only_one (at_start MissingKey s) f c) (breach.rule_has_no_name (not_given record_key es g) (not_given alert_key es h))
kind_out s es f None (Some a) first r g h c = absurd (none_in f c)
kind_out s es f (Some e) None first r g h c = absurd (none_in f c)
kind_out s es f (Some e) (Some a) true r g h c =
    subst (RuleBreaks s es) (only_one (fault BothKinds a.0.span) f c) (breach.alert_behind_record g h (record_stands_first es e (given_is_there (entry_at record_key es) e g) r))
kind_out s es f (Some e) (Some a) false r g h c =
    subst (RuleBreaks s es) (only_one (fault BothKinds e.0.span) f c) (breach.record_behind_alert g h (alert_stands_first es a (given_is_there (entry_at alert_key es) a h) r))

misplaced_out : (s : Span) (es : List Pairing) (f : Fault) (key : Bytes) (found : Option Pairing) → HasRecordAlone es → Contains alert_keys key → given_entry key es ≡ found → Contains (misplaced found) f → RuleBreaks s es f
misplaced_out s es f key None r k g c = absurd (none_in f c)
misplaced_out s es f key (Some e) r k g c = subst (RuleBreaks s es) (only_one (fault NotForRecord e.0.span) f c) (breach.only_for_alerts r k g)

for_key : Contains alert_keys (codes "for")
for_key = any_out (codes "for") alert_keys refl

keep_key : Contains alert_keys (codes "keep_firing_for")
keep_key = any_out (codes "keep_firing_for") alert_keys refl

annotations_key : Contains alert_keys (codes "annotations")
annotations_key = any_out (codes "annotations") alert_keys refl

alert_out : (s : Span) (es : List Pairing) (f : Fault) (recorded alerted : Option Pairing) → given_entry record_key es ≡ recorded → given_entry alert_key es ≡ alerted → Contains (alert_faults recorded alerted es) f → RuleBreaks s es f
alert_out s es f None alerted g h c = absurd (none_in f c)
alert_out s es f (Some e) (Some a) g h c = absurd (none_in f c)
alert_out s es f (Some e) None g h c =
    let records : HasRecordAlone es = (is_given record_key es e g, not_given alert_key es h) in
    either (RuleBreaks s es f) _ _ f (misplaced_out s es f (codes "for") _ records for_key refl)
    (either (RuleBreaks s es f) _ _ f (misplaced_out s es f (codes "keep_firing_for") _ records keep_key refl) (misplaced_out s es f (codes "annotations") _ records annotations_key refl)) c

labels_out : (s : Span) (es : List Pairing) (f : Fault) (found : Option Tree) → given (codes "labels") es ≡ found → Contains (settings_faults true found) f → RuleBreaks s es f
labels_out s es f None g c = absurd (none_in f c)
labels_out s es f (Some t) g c = breach.labels_break g (settings_out true t f c)

annotations_out : (s : Span) (es : List Pairing) (f : Fault) (found : Option Tree) → given (codes "annotations") es ≡ found → Contains (settings_faults false found) f → RuleBreaks s es f
annotations_out s es f None g c = absurd (none_in f c)
annotations_out s es f (Some t) g c = breach.annotations_break g (settings_out false t f c)

metric_decides : Decides is_metric_name (λ t. is_metric_name t ≡ true)
metric_decides = ((λ t h. h), (λ t h. h))

module _ (time : Decides is_time IsTime) where
  time_out : (s : Span) (es : List Pairing) (f : Fault) (key : Bytes) → Contains time_keys key → Contains scalar_keys key
      → Contains (text_faults is_time BadDuration (given key es)) f → RuleBreaks s es f
  time_out s es f key k m c = by (text_out is_time IsTime BadDuration key es (given key es) f time refl c)
    where
      by : breach.NoScalarAt key es f ⊎ breach.WrongTextAt key IsTime BadDuration es f → RuleBreaks s es f
      by (inl n) = breach.rule_wants_a_scalar m n
      by (inr w) = breach.rule_wants_a_time k w

  record_out : (s : Span) (es : List Pairing) (f : Fault) → Contains (text_faults is_metric_name BadName (given record_key es)) f → RuleBreaks s es f
  record_out s es f c = by (text_out is_metric_name (λ t. is_metric_name t ≡ true) BadName record_key es (given record_key es) f metric_decides refl c)
    where
      by : breach.NoScalarAt record_key es f ⊎ breach.WrongTextAt record_key (λ t. is_metric_name t ≡ true) BadName es f → RuleBreaks s es f
      by (inl n) = breach.rule_wants_a_scalar (any_out record_key scalar_keys refl) n
      by (inr w) = breach.record_is_no_metric w

  pub rule_out : (s : Span) (es : List Pairing) (f : Fault) → Contains (rule_faults s es) f → RuleBreaks s es f
  rule_out s es f c =
      let found : (part : List Fault) × Contains (rule_parts s es) part × Contains part f = of_flat_map (λ part. part) (rule_parts s es) f c in
      each_member (λ part. Contains part f → RuleBreaks s es f) (rule_parts s es) found.0 (
        (λ d. breach.rule_has_unknown_key (unknown_out rule_keys es f d)),
        ((
          kind_out s es f (given_entry record_key es) (given_entry alert_key es) (records_first es) refl refl refl,
          ((
            alert_out s es f (given_entry record_key es) (given_entry alert_key es) refl refl,
            ((
              record_out s es f,
              ((
                (λ d. breach.rule_wants_a_scalar (any_out alert_key scalar_keys refl) (scalar_out alert_key es (given alert_key es) f refl d)),
                ((
                  (λ d. let m : (given_entry (codes "expr") es ≡ None) × (f ≡ at_start MissingKey s) = missing_out s (given_entry (codes "expr") es) f d in subst (RuleBreaks s es) (sym m.1) (breach.rule_has_no_expression (not_given (codes "expr") es m.0))),
                  ((
                    (λ d. breach.rule_wants_a_scalar (any_out (codes "expr") scalar_keys refl) (scalar_out (codes "expr") es (given (codes "expr") es) f refl d)),
                    ((
                      time_out s es f (codes "for") (any_out (codes "for") time_keys refl) (any_out (codes "for") scalar_keys refl),
                      ((
                        time_out s es f (codes "keep_firing_for") (any_out (codes "keep_firing_for") time_keys refl) (any_out (codes "keep_firing_for") scalar_keys refl),
                        ((
                          labels_out s es f (given (codes "labels") es) refl,
                          ((
                            annotations_out s es f (given (codes "annotations") es) refl,
                            tt,
                          )),
                        )),
                      )),
                    )),
                  )),
                )),
              )),
            )),
          )),
        )),
      ) found.1 found.2

-- ---- from the definition to the list of faults

pub none_given : (found : Option Pairing) → option_map (λ x. x.1) found ≡ None → found ≡ None
none_given None e = refl
none_given (Some x) e = absurd (cc)

pub some_given : (found : Option Pairing) → (option_map (λ x. x.1) found ≢ None) → (e : Pairing) × (found ≡ Some e)
some_given None e = absurd (e refl)
some_given (Some x) e = (x, refl)

-- a fault of one part is one of the rule
of_part : (s : Span) (es : List Pairing) (f : Fault) (part : List Fault) → Contains (rule_parts s es) part → Contains part f → Contains (rule_faults s es) f
of_part s es f part m c = in_flat_map (λ p. p) (rule_parts s es) part f m c

scalar_place : (s : Span) (es : List Pairing) (key : Bytes) (f : Fault) → Contains scalar_keys key → breach.NoScalarAt key es f → Contains (rule_faults s es) f
scalar_place s es key f k n =
    each_member (λ wanted. breach.NoScalarAt wanted es f → Contains (rule_faults s es) f) scalar_keys key (
      (λ m. of_part s es f (text_faults is_metric_name BadName (given record_key es)) (3, omega arith, refl) (text_in_kind is_metric_name BadName record_key es f m)),
      ((
        (λ m. of_part s es f (scalar_faults (given alert_key es)) (4, omega arith, refl) (scalar_in alert_key es f m)),
        ((
          (λ m. of_part s es f (scalar_faults (given (codes "expr") es)) (6, omega arith, refl) (scalar_in (codes "expr") es f m)),
          ((
            (λ m. of_part s es f (text_faults is_time BadDuration (given (codes "for") es)) (7, omega arith, refl) (text_in_kind is_time BadDuration (codes "for") es f m)),
            ((
              (λ m. of_part s es f (text_faults is_time BadDuration (given (codes "keep_firing_for") es)) (8, omega arith, refl) (text_in_kind is_time BadDuration (codes "keep_firing_for") es f m)),
              tt,
            )),
          )),
        )),
      )),
    ) k n

both_told : (s : Span) (first way : Bool) (recorded alerted : Option Pairing) (e a : Pairing) → recorded ≡ Some e → alerted ≡ Some a → first ≡ way → Contains (kind_faults s first recorded alerted) (fault BothKinds (cond way a e).0.span)
both_told s first way recorded alerted e a g h r =
    subst (λ x. Contains (kind_faults s first x alerted) (fault BothKinds (cond way a e).0.span)) (sym g)
    (subst (λ y. Contains (kind_faults s first (Some e) y) (fault BothKinds (cond way a e).0.span)) (sym h)
    (subst (λ b. Contains (kind_faults s b (Some e) (Some a)) (fault BothKinds (cond way a e).0.span)) (sym r) (here (fault BothKinds (cond way a e).0.span) [])))

module _ (time : Decides is_time IsTime) where
  time_place : (s : Span) (es : List Pairing) (key : Bytes) (f : Fault) → Contains time_keys key → breach.WrongTextAt key IsTime BadDuration es f → Contains (rule_faults s es) f
  time_place s es key f k w =
      each_member (λ wanted. breach.WrongTextAt wanted IsTime BadDuration es f → Contains (rule_faults s es) f) time_keys key (
        (λ m. of_part s es f (text_faults is_time BadDuration (given (codes "for") es)) (7, omega arith, refl) (text_in_text is_time IsTime BadDuration (codes "for") es f time m)),
        ((
          (λ m. of_part s es f (text_faults is_time BadDuration (given (codes "keep_firing_for") es)) (8, omega arith, refl) (text_in_text is_time IsTime BadDuration (codes "keep_firing_for") es f time m)),
          tt,
        )),
      ) k w

  misplaced_in : (es : List Pairing) (key : Bytes) (e : Pairing) → given_entry key es ≡ Some e → Contains (misplaced (given_entry key es)) (fault NotForRecord e.0.span)
  misplaced_in es key e g = rw g (here (fault NotForRecord e.0.span) [])

  alert_key_place : (es : List Pairing) (f : Fault) (key : Bytes) → Contains alert_keys key → Contains (misplaced (given_entry key es)) f
      → Contains (misplaced (given_entry (codes "for") es) ++ (misplaced (given_entry (codes "keep_firing_for") es) ++ misplaced (given_entry (codes "annotations") es))) f
  alert_key_place es f key k c =
      each_member (λ wanted. Contains (misplaced (given_entry wanted es)) f → Contains (misplaced (given_entry (codes "for") es) ++ (misplaced (given_entry (codes "keep_firing_for") es) ++ misplaced (given_entry (codes "annotations") es))) f) alert_keys key (
        Contains-append_left (misplaced (given_entry (codes "for") es)) (misplaced (given_entry (codes "keep_firing_for") es) ++ misplaced (given_entry (codes "annotations") es)) f,
        (
          (λ m. Contains-append_right (misplaced (given_entry (codes "for") es)) (misplaced (given_entry (codes "keep_firing_for") es) ++ misplaced (given_entry (codes "annotations") es)) f (Contains-append_left (misplaced (given_entry (codes "keep_firing_for") es)) (misplaced (given_entry (codes "annotations") es)) f m)),
          (
            (λ m. Contains-append_right (misplaced (given_entry (codes "for") es)) (misplaced (given_entry (codes "keep_firing_for") es) ++ misplaced (given_entry (codes "annotations") es)) f (Contains-append_right (misplaced (given_entry (codes "keep_firing_for") es)) (misplaced (given_entry (codes "annotations") es)) f m)),
            tt,
          ),
        ),
      ) k c

  alert_keys_in : (es : List Pairing) (key : Bytes) (e : Pairing) → HasRecordAlone es → Contains alert_keys key → given_entry key es ≡ Some e → Contains (alert_faults (given_entry record_key es) (given_entry alert_key es) es) (fault NotForRecord e.0.span)
  alert_keys_in es key e r k g =
      let recorded : (x : Pairing) × (given_entry record_key es ≡ Some x) = some_given (given_entry record_key es) r.0 in
      rw (recorded.1, none_given (given_entry alert_key es) r.1) (alert_key_place es (fault NotForRecord e.0.span) key k (misplaced_in es key e g))

  settings_place : (is_labels : Bool) (key : Bytes) (es : List Pairing) (t : Tree) (f : Fault) → given key es ≡ Some t → breach.SettingsBreak is_labels t f → Contains (settings_faults is_labels (given key es)) f
  settings_place is_labels key es t f g b = subst (λ found. Contains (settings_faults is_labels found) f) (sym g) (settings_in is_labels t f b)

  pub rule_in : (s : Span) (es : List Pairing) (f : Fault) → RuleBreaks s es f → Contains (rule_faults s es) f
  rule_in s es f (breach.rule_has_unknown_key u) = of_part s es f (flat_map (unknown_faults rule_keys) es) (0, omega arith, refl) (unknown_in rule_keys es f u)
  rule_in s es f (breach.rule_has_no_name n m) =
      of_part s es (at_start MissingKey s) (kind_faults s (records_first es) (given_entry record_key es) (given_entry alert_key es)) (1, omega arith, refl)
      (rw (none_given (given_entry record_key es) n, none_given (given_entry alert_key es) m) (here (at_start MissingKey s) []))
  rule_in s es f (breach.rule_has_no_expression n) =
      of_part s es (at_start MissingKey s) (missing_faults s (given_entry (codes "expr") es)) (5, omega arith, refl) (rw (none_given (given_entry (codes "expr") es) n) (here (at_start MissingKey s) []))
  rule_in s es f (breach.alert_behind_record {alerted = a} g h b) =
      of_part s es (fault BothKinds a.0.span) (kind_faults s (records_first es) (given_entry record_key es) (given_entry alert_key es)) (1, omega arith, refl)
      (both_told s (records_first es) true (given_entry record_key es) (given_entry alert_key es) _ a g h (scan_first_record es b))
  rule_in s es f (breach.record_behind_alert {recorded = e} g h b) =
      of_part s es (fault BothKinds e.0.span) (kind_faults s (records_first es) (given_entry record_key es) (given_entry alert_key es)) (1, omega arith, refl)
      (both_told s (records_first es) false (given_entry record_key es) (given_entry alert_key es) e _ g h (scan_first_alert es b))
  rule_in s es f (breach.record_is_no_metric w) =
      of_part s es f (text_faults is_metric_name BadName (given record_key es)) (3, omega arith, refl) (text_in_text is_metric_name (λ t. is_metric_name t ≡ true) BadName record_key es f metric_decides w)
  rule_in s es f (breach.only_for_alerts {key = key} {e = e} r k g) =
      of_part s es (fault NotForRecord e.0.span) (alert_faults (given_entry record_key es) (given_entry alert_key es) es) (2, omega arith, refl) (alert_keys_in es key e r k g)
  rule_in s es f (breach.rule_wants_a_scalar {key = key} k n) = scalar_place s es key f k n
  rule_in s es f (breach.rule_wants_a_time {key = key} k w) = time_place s es key f k w
  rule_in s es f (breach.labels_break {t = t} g b) = of_part s es f (settings_faults true (given (codes "labels") es)) (9, omega arith, refl) (settings_place true (codes "labels") es t f g b)
  rule_in s es f (breach.annotations_break {t = t} g b) = of_part s es f (settings_faults false (given (codes "annotations") es)) (10, omega arith, refl) (settings_place false (codes "annotations") es t f g b)

  pub rule_tree_out : (t : Tree) (f : Fault) → Contains (rule_tree_faults t) f → RuleTreeBreaks t f
  rule_tree_out (leaf v) f c = subst (RuleTreeBreaks (leaf v)) (only_one (fault WrongKind v.span) f c) (breach.rule_is_no_mapping (scalar_is_no_mapping v))
  rule_tree_out (sequence items s) f c = subst (RuleTreeBreaks (sequence items s)) (only_one (fault WrongKind s) f c) (breach.rule_is_no_mapping (list_is_no_mapping items s))
  rule_tree_out (mapping es s) f c = breach.rule_breaks (rule_out time s (pairs es) f c)

  no_mapping_in : (t : Tree) → breach.IsNoMapping t → Contains (rule_tree_faults t) (fault WrongKind (place t))
  no_mapping_in (leaf v) bare = here (fault WrongKind v.span) []
  no_mapping_in (sequence items s) bare = here (fault WrongKind s) []
  no_mapping_in (mapping es s) bare = absurd (bare es s refl)

  pub rule_tree_in : (t : Tree) (f : Fault) → RuleTreeBreaks t f → Contains (rule_tree_faults t) f
  rule_tree_in t f (breach.rule_is_no_mapping bare) = no_mapping_in t bare
  rule_tree_in t f (breach.rule_breaks {es = es} {s = s} b) = rule_in s (pairs es) f b
