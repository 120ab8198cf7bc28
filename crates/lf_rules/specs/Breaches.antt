-- What breaks a rule file, and where. Nothing below an unknown key is judged, and nothing below a node of a wrong kind.
use Rattle.std.specs.Prelude.{◌≡◌, ◌≢◌, ℕ, Bool, true, false, ◌<◌, ◌+◌, min, List, [], ◌∷◌, ◌++◌, Some, None, codes, slice_get}
use Rattle.std.specs.List.{Contains}
use Rattle.lf_base.specs.declared.kind.Kind.{Kind}
use Rattle.lf_base.specs.declared.kind.Kind.TheVariants.{WrongKind, UnknownKey, MissingKey, BothKinds, BadName, BadLimit, DoubleGroup, NotForRecord, BadDuration}
use Rattle.lf_base.specs.declared.place.Span.{Span}
use Rattle.lf_scalar.specs.Cells.{Value}
use Rattle.lf_base.specs.declared.fault.Fault.{Fault}
use Rattle.lf_base.specs.Faults.{fault, span, IsTold}
use Rattle.lf_yaml.specs.Tree.{Tree, leaf, sequence, mapping, Items, Entries}
use Rattle.lf_rules.specs.Texts.{IsTime, IsLimit}
use Rattle.lf_base.specs.Names.{Bytes, is_label_name, is_metric_name, metric}
use Rattle.lf_rules.specs.Mappings.{Pairing, pairs, trees, entry_at, given_entry, given, place, is_empty}
use Rattle.lf_rules.specs.Rules.{rule_keys, alert_keys, group_keys, file_keys}

-- a fault at the first character of a mapping: a bracket, a quote, or the first letter of a key that is known. Before a key that isn't known stands nothing
-- else that is told, since that key is a fault at the same start and comes first. An offset is below 2 ^ 32
abbrev pub at_start : Kind → Span → Fault
at_start kind where_is = fault kind (span where_is.start (min (where_is.start + 1) 4294967295))

-- a node that is no scalar
abbrev pub IsNoScalar : Tree → Type 0
IsNoScalar t = (v : Value) → t ≢ leaf v

-- no list
abbrev pub IsNoList : Tree → Type 0
IsNoList t = (items : Items) (where_is : Span) → t ≢ sequence items where_is

-- no mapping
abbrev pub IsNoMapping : Tree → Type 0
IsNoMapping t = (es : Entries) (where_is : Span) → t ≢ mapping es where_is

-- a key stands before each entry with the other key
abbrev pub StandsBefore : Bytes → Bytes → List Pairing → Type 0
StandsBefore key other es =
    (front back : List Pairing) × (e : Pairing) × (es ≡ front ++ e ∷ back) × (e.0.text ≡ key) × ((before : Pairing) → Contains front before → before.0.text ≢ other)

-- what breaks a mapping of labels or annotations
pub data SettingsBreak : Bool → Tree → Fault → Type 0 where
  settings_are_no_mapping : {is_labels : Bool} {t : Tree} → IsNoMapping t → SettingsBreak is_labels t (fault WrongKind (place t))
  key_is_no_label : {is_labels : Bool} {es : Entries} {s : Span} {k : Value} {t : Tree} → Contains (pairs es) (k, t) → is_label_name k.text ≡ false → SettingsBreak is_labels (mapping es s) (fault BadName k.span)
  label_sets_the_name : {es : Entries} {s : Span} {k : Value} {t : Tree} → Contains (pairs es) (k, t) → k.text ≡ metric → SettingsBreak true (mapping es s) (fault BadName k.span)
  setting_is_no_scalar : {is_labels : Bool} {es : Entries} {s : Span} {k : Value} {t : Tree} → Contains (pairs es) (k, t) → IsNoScalar t → SettingsBreak is_labels (mapping es s) (fault WrongKind (place t))

-- what breaks the value of a key that takes a scalar
abbrev pub NoScalarAt : Bytes → List Pairing → Fault → Type 0
NoScalarAt key es f = (t : Tree) × (given key es ≡ Some t) × IsNoScalar t × (f ≡ fault WrongKind (place t))

-- what breaks the value of a key that takes such a text
abbrev pub WrongTextAt : Bytes → (Bytes → Type 0) → Kind → List Pairing → Fault → Type 0
WrongTextAt key is kind es f = (v : Value) × (given key es ≡ Some (leaf v)) × (is v.text → ⊥) × (f ≡ fault kind v.span)

abbrev pub UnknownIn : List Bytes → List Pairing → Fault → Type 0
UnknownIn keys es f = (k : Value) × (t : Tree) × Contains es (k, t) × (Contains keys k.text → ⊥) × (f ≡ fault UnknownKey k.span)

-- a rule that records, and isn't an alert too
abbrev pub HasRecordAlone : List Pairing → Type 0
HasRecordAlone es = (given (codes "record") es ≢ None) × (given (codes "alert") es ≡ None)

-- the keys of a rule that take a scalar, and those of them that take a length of time
abbrev pub scalar_keys : List Bytes
scalar_keys = codes "record" ∷ codes "alert" ∷ codes "expr" ∷ codes "for" ∷ codes "keep_firing_for" ∷ []

abbrev pub time_keys : List Bytes
time_keys = codes "for" ∷ codes "keep_firing_for" ∷ []

-- what breaks the entries of a rule
pub data RuleBreaks : Span → List Pairing → Fault → Type 0 where
  rule_has_unknown_key : {s : Span} {es : List Pairing} {f : Fault} → UnknownIn rule_keys es f → RuleBreaks s es f
  rule_has_no_name : {s : Span} {es : List Pairing} → given (codes "record") es ≡ None → given (codes "alert") es ≡ None → RuleBreaks s es (at_start MissingKey s)
  rule_has_no_expression : {s : Span} {es : List Pairing} → given (codes "expr") es ≡ None → RuleBreaks s es (at_start MissingKey s)
  alert_behind_record : {s : Span} {es : List Pairing} {recorded alerted : Pairing} → given_entry (codes "record") es ≡ Some recorded → given_entry (codes "alert") es ≡ Some alerted → StandsBefore (codes "record") (codes "alert") es → RuleBreaks s es (fault BothKinds alerted.0.span)
  record_behind_alert : {s : Span} {es : List Pairing} {recorded alerted : Pairing} → given_entry (codes "record") es ≡ Some recorded → given_entry (codes "alert") es ≡ Some alerted → StandsBefore (codes "alert") (codes "record") es → RuleBreaks s es (fault BothKinds recorded.0.span)
  record_is_no_metric : {s : Span} {es : List Pairing} {f : Fault} → WrongTextAt (codes "record") (λ t. is_metric_name t ≡ true) BadName es f → RuleBreaks s es f
  only_for_alerts : {s : Span} {es : List Pairing} {key : Bytes} {e : Pairing} → HasRecordAlone es → Contains alert_keys key → given_entry key es ≡ Some e → RuleBreaks s es (fault NotForRecord e.0.span)
  rule_wants_a_scalar : {s : Span} {es : List Pairing} {key : Bytes} {f : Fault} → Contains scalar_keys key → NoScalarAt key es f → RuleBreaks s es f
  rule_wants_a_time : {s : Span} {es : List Pairing} {key : Bytes} {f : Fault} → Contains time_keys key → WrongTextAt key IsTime BadDuration es f → RuleBreaks s es f
  labels_break : {s : Span} {es : List Pairing} {t : Tree} {f : Fault} → given (codes "labels") es ≡ Some t → SettingsBreak true t f → RuleBreaks s es f
  annotations_break : {s : Span} {es : List Pairing} {t : Tree} {f : Fault} → given (codes "annotations") es ≡ Some t → SettingsBreak false t f → RuleBreaks s es f

-- what breaks a rule of a group
pub data RuleTreeBreaks : Tree → Fault → Type 0 where
  rule_is_no_mapping : {t : Tree} → IsNoMapping t → RuleTreeBreaks t (fault WrongKind (place t))
  rule_breaks : {es : Entries} {s : Span} {f : Fault} → RuleBreaks s (pairs es) f → RuleTreeBreaks (mapping es s) f

-- the keys of a group that take a scalar, and those of them that take a length of time
abbrev pub group_scalar_keys : List Bytes
group_scalar_keys = codes "name" ∷ codes "interval" ∷ codes "limit" ∷ codes "query_offset" ∷ []

abbrev pub group_time_keys : List Bytes
group_time_keys = codes "interval" ∷ codes "query_offset" ∷ []

-- what breaks the entries of a group, whose rules are judged one by one
pub data GroupBreaks : Span → List Pairing → Fault → Type 0 where
  group_has_unknown_key : {s : Span} {es : List Pairing} {f : Fault} → UnknownIn group_keys es f → GroupBreaks s es f
  group_has_no_name : {s : Span} {es : List Pairing} → given (codes "name") es ≡ None → GroupBreaks s es (at_start MissingKey s)
  group_wants_a_scalar : {s : Span} {es : List Pairing} {key : Bytes} {f : Fault} → Contains group_scalar_keys key → NoScalarAt key es f → GroupBreaks s es f
  group_wants_a_time : {s : Span} {es : List Pairing} {key : Bytes} {f : Fault} → Contains group_time_keys key → WrongTextAt key IsTime BadDuration es f → GroupBreaks s es f
  group_wants_a_limit : {s : Span} {es : List Pairing} {f : Fault} → WrongTextAt (codes "limit") IsLimit BadLimit es f → GroupBreaks s es f
  rules_are_no_list : {s : Span} {es : List Pairing} {t : Tree} → given (codes "rules") es ≡ Some t → IsNoList t → GroupBreaks s es (fault WrongKind (place t))
  some_rule_breaks : {s : Span} {es : List Pairing} {items : Items} {p : Span} {t : Tree} {f : Fault} → given (codes "rules") es ≡ Some (sequence items p) → Contains (trees items) t → RuleTreeBreaks t f → GroupBreaks s es f

pub data GroupTreeBreaks : Tree → Fault → Type 0 where
  group_is_no_mapping : {t : Tree} → IsNoMapping t → GroupTreeBreaks t (fault WrongKind (place t))
  group_breaks : {es : Entries} {s : Span} {f : Fault} → GroupBreaks s (pairs es) f → GroupTreeBreaks (mapping es s) f

-- the name of a group, where it has one
abbrev pub GroupNamed : Tree → Value → Type 0
GroupNamed t v = (es : Entries) × (s : Span) × (t ≡ mapping es s) × (given (codes "name") (pairs es) ≡ Some (leaf v))

-- a group's name that a group before it has
abbrev pub SecondName : List Tree → Fault → Type 0
SecondName ts f =
    (i j : ℕ) × (i < j) × (t u : Tree) × (v w : Value)
    × (slice_get ts i ≡ Some t) × (slice_get ts j ≡ Some u) × GroupNamed t v × GroupNamed u w × (v.text ≡ w.text) × (f ≡ fault DoubleGroup w.span)

-- what breaks the rules of a file
pub data Breaks : Tree → Fault → Type 0 where
  file_is_no_mapping : {t : Tree} → IsNoMapping t → is_empty t ≡ false → Breaks t (fault WrongKind (place t))
  file_has_unknown_key : {es : Entries} {s : Span} {f : Fault} → UnknownIn file_keys (pairs es) f → Breaks (mapping es s) f
  file_has_no_groups : {es : Entries} {s : Span} → entry_at (codes "groups") (pairs es) ≡ None → Breaks (mapping es s) (at_start MissingKey s)
  groups_are_no_list : {es : Entries} {s : Span} {t : Tree} → given (codes "groups") (pairs es) ≡ Some t → IsNoList t → Breaks (mapping es s) (fault WrongKind (place t))
  some_group_breaks : {es : Entries} {s p : Span} {items : Items} {t : Tree} {f : Fault} → given (codes "groups") (pairs es) ≡ Some (sequence items p) → Contains (trees items) t → GroupTreeBreaks t f → Breaks (mapping es s) f
  second_name : {es : Entries} {s p : Span} {items : Items} {f : Fault} → given (codes "groups") (pairs es) ≡ Some (sequence items p) → SecondName (trees items) f → Breaks (mapping es s) f

-- the breach that is told of a tree
abbrev pub FirstBreak : Tree → Fault → Type 0
FirstBreak t = IsTold (Breaks t)
