-- A way of reading the tree of a rule file, for the code. It defines nothing: proofs/ show that `faults` has exactly the faults of Breaches, and that `sources` are
-- the rules of Rules where there is no fault.
use Rattle.std.specs.Prelude.{ℕ, suc, Bool, true, false, not, cond, ◌&&◌, ◌||◌, nat_le, List, [], ◌∷◌, ◌++◌, map, length, Option, Some, None, codes, Result, Ok, Err}
use Rattle.std.specs.List.{list_all, list_any, flat_map, AllByRecursion}
use Rattle.std.specs.Str.{bytes_eq}
use Rattle.lf_base.specs.declared.kind.Kind.{Kind}
use Rattle.lf_base.specs.declared.kind.Kind.TheVariants.{WrongKind, UnknownKey, MissingKey, BothKinds, BadName, BadLimit, DoubleGroup, NotForRecord, BadDuration}
use Rattle.lf_base.specs.declared.place.Span.{Span}
use Rattle.lf_scalar.specs.Cells.{Value}
use Rattle.lf_base.specs.declared.fault.Fault.{Fault}
use Rattle.lf_yaml.specs.Tree.{Tree, leaf, sequence, mapping}
use Rattle.lf_rules.specs.declared.judging.Level.{Level}
use Rattle.lf_rules.specs.declared.judging.Level.TheVariants.{File, Group, Rule}
use Rattle.lf_rules.specs.declared.judging.TextKind.{TextKind}
use Rattle.lf_rules.specs.declared.judging.TextKind.TheVariants.{Metric, Time, Limit}
use Rattle.lf_lex.specs.reading.Runs.{duration_order}
use Rattle.lf_base.specs.Names.{Bytes, is_digit, is_label_name, is_metric_name, metric}
use Rattle.lf_rules.specs.Mappings.{Pairing, pairs, trees, entry_at, given_entry, given}
use Rattle.lf_rules.specs.Rules.{rule_keys, group_keys, file_keys}
use Rattle.lf_rules.specs.Breaches.{at_start}
use Rattle.lf_base.specs.Faults.{fault, first as told}
use Rattle.lf_rules.specs.Sources.{Source, Setting}

abbrev pub is_in_order : Option Bool → Bool
is_in_order None = false
is_in_order (Some ordered) = ordered

-- at least one part of digits and a unit, the units in their order
abbrev pub is_duration : Bytes → Bool
is_duration [] = false
is_duration (b ∷ bs) = is_in_order (duration_order (b ∷ bs))

abbrev pub is_time : Bytes → Bool
is_time t = is_duration t || bytes_eq t (codes "0")

abbrev pub is_limit : Bytes → Bool
is_limit t = list_all is_digit t && (nat_le 1 (length t) && nat_le (length t) 9)

-- ---- faults

abbrev pub scalar_faults : Option Tree → List Fault
scalar_faults None = []
scalar_faults (Some (leaf v)) = []
scalar_faults (Some (sequence items s)) = fault WrongKind s ∷ []
scalar_faults (Some (mapping es s)) = fault WrongKind s ∷ []

abbrev pub text_faults : (Bytes → Bool) → Kind → Option Tree → List Fault
text_faults is kind None = []
text_faults is kind (Some (leaf v)) = cond (is v.text) [] (fault kind v.span ∷ [])
text_faults is kind (Some (sequence items s)) = fault WrongKind s ∷ []
text_faults is kind (Some (mapping es s)) = fault WrongKind s ∷ []

abbrev pub unknown_faults : List Bytes → Pairing → List Fault
unknown_faults keys e = cond (list_any (bytes_eq e.0.text) keys) [] (fault UnknownKey e.0.span ∷ [])

abbrev pub missing_faults : Span → Option Pairing → List Fault
missing_faults s None = at_start MissingKey s ∷ []
missing_faults s (Some e) = []

abbrev pub value_faults : Tree → List Fault
value_faults (leaf v) = []
value_faults (sequence items s) = fault WrongKind s ∷ []
value_faults (mapping es s) = fault WrongKind s ∷ []

abbrev pub is_setting_name : Bool → Bytes → Bool
is_setting_name is_labels key = is_label_name key && not (is_labels && bytes_eq key metric)

abbrev pub setting_faults : Bool → Pairing → List Fault
setting_faults is_labels e = cond (is_setting_name is_labels e.0.text) [] (fault BadName e.0.span ∷ []) ++ value_faults e.1

abbrev pub settings_faults : Bool → Option Tree → List Fault
settings_faults is_labels None = []
settings_faults is_labels (Some (leaf v)) = fault WrongKind v.span ∷ []
settings_faults is_labels (Some (sequence items s)) = fault WrongKind s ∷ []
settings_faults is_labels (Some (mapping es s)) = flat_map (setting_faults is_labels) (pairs es)

-- the texts that are tested, and the kinds of their faults
abbrev pub test_of : TextKind → Bytes → Bool
test_of Metric = is_metric_name
test_of Time = is_time
test_of Limit = is_limit

abbrev pub kind_of : TextKind → Kind
kind_of Metric = BadName
kind_of Time = BadDuration
kind_of Limit = BadLimit

-- the keys that a mapping may have
abbrev pub keys_of : Level → List Bytes
keys_of File = file_keys
keys_of Group = group_keys
keys_of Rule = rule_keys

-- ---- a rule

-- whether the first entry of the two kinds of name is `record`
unfoldable pub records_first : List Pairing → Bool
records_first [] = true
records_first (e ∷ es) = bytes_eq e.0.text (codes "record") || (not (bytes_eq e.0.text (codes "alert")) && records_first es)

-- by the entries of `record` and `alert`
abbrev pub kind_faults : Span → Bool → Option Pairing → Option Pairing → List Fault
kind_faults s first None None = at_start MissingKey s ∷ []
kind_faults s first None (Some alerted) = []
kind_faults s first (Some recorded) None = []
kind_faults s first (Some recorded) (Some alerted) = fault BothKinds (cond first alerted recorded).0.span ∷ []

abbrev pub misplaced : Option Pairing → List Fault
misplaced None = []
misplaced (Some e) = fault NotForRecord e.0.span ∷ []

-- what a rule that only records must not have
abbrev pub alert_faults : Option Pairing → Option Pairing → List Pairing → List Fault
alert_faults None alerted es = []
alert_faults (Some recorded) None es = misplaced (given_entry (codes "for") es) ++ (misplaced (given_entry (codes "keep_firing_for") es) ++ misplaced (given_entry (codes "annotations") es))
alert_faults (Some recorded) (Some alerted) es = []

-- the parts that are judged one after another
abbrev pub joined : List (List Fault) → List Fault
joined parts = flat_map (λ part. part) parts

abbrev pub rule_key_parts : Span → List Pairing → List (List Fault)
rule_key_parts s es =
    flat_map (unknown_faults rule_keys) es
    ∷ kind_faults s (records_first es) (given_entry (codes "record") es) (given_entry (codes "alert") es)
    ∷ alert_faults (given_entry (codes "record") es) (given_entry (codes "alert") es) es
    ∷ []

abbrev pub rule_text_parts : Span → List Pairing → List (List Fault)
rule_text_parts s es =
    text_faults is_metric_name BadName (given (codes "record") es)
    ∷ scalar_faults (given (codes "alert") es)
    ∷ missing_faults s (given_entry (codes "expr") es)
    ∷ scalar_faults (given (codes "expr") es)
    ∷ []

abbrev pub rule_setting_parts : List Pairing → List (List Fault)
rule_setting_parts es =
    text_faults is_time BadDuration (given (codes "for") es)
    ∷ text_faults is_time BadDuration (given (codes "keep_firing_for") es)
    ∷ settings_faults true (given (codes "labels") es)
    ∷ settings_faults false (given (codes "annotations") es)
    ∷ []

abbrev pub rule_parts : Span → List Pairing → List (List Fault)
rule_parts s es = rule_key_parts s es ++ (rule_text_parts s es ++ rule_setting_parts es)

abbrev pub rule_faults : Span → List Pairing → List Fault
rule_faults s es = joined (rule_parts s es)

abbrev pub rule_tree_faults : Tree → List Fault
rule_tree_faults (leaf v) = fault WrongKind v.span ∷ []
rule_tree_faults (sequence items s) = fault WrongKind s ∷ []
rule_tree_faults (mapping es s) = rule_faults s (pairs es)

-- ---- a group

abbrev pub rules_faults : Option Tree → List Fault
rules_faults None = []
rules_faults (Some (leaf v)) = fault WrongKind v.span ∷ []
rules_faults (Some (sequence items s)) = flat_map rule_tree_faults (trees items)
rules_faults (Some (mapping es s)) = fault WrongKind s ∷ []

abbrev pub group_name_parts : Span → List Pairing → List (List Fault)
group_name_parts s es =
    flat_map (unknown_faults group_keys) es
    ∷ missing_faults s (given_entry (codes "name") es)
    ∷ scalar_faults (given (codes "name") es)
    ∷ []

abbrev pub group_value_parts : List Pairing → List (List Fault)
group_value_parts es =
    text_faults is_time BadDuration (given (codes "interval") es)
    ∷ text_faults is_limit BadLimit (given (codes "limit") es)
    ∷ text_faults is_time BadDuration (given (codes "query_offset") es)
    ∷ rules_faults (given (codes "rules") es)
    ∷ []

abbrev pub group_parts : Span → List Pairing → List (List Fault)
group_parts s es = group_name_parts s es ++ group_value_parts es

abbrev pub group_faults : Span → List Pairing → List Fault
group_faults s es = joined (group_parts s es)

abbrev pub group_tree_faults : Tree → List Fault
group_tree_faults (leaf v) = fault WrongKind v.span ∷ []
group_tree_faults (sequence items s) = fault WrongKind s ∷ []
group_tree_faults (mapping es s) = group_faults s (pairs es)

-- ---- a file

-- the name of a group, where it has one
abbrev pub scalar_of : Option Tree → Option Value
scalar_of None = None
scalar_of (Some (leaf v)) = Some v
scalar_of (Some (sequence items s)) = None
scalar_of (Some (mapping es s)) = None

abbrev pub name_of : Tree → Option Value
name_of (leaf v) = None
name_of (sequence items s) = None
name_of (mapping es s) = scalar_of (given (codes "name") (pairs es))

-- by the texts of the names before
abbrev pub again_faults : List Bytes → Option Value → List Fault
again_faults names None = []
again_faults names (Some v) = cond (list_any (bytes_eq v.text) names) (fault DoubleGroup v.span ∷ []) []

abbrev pub with_name : List Bytes → Option Value → List Bytes
with_name names None = names
with_name names (Some v) = names ++ v.text ∷ []

unfoldable pub names_faults : List Bytes → List Tree → List Fault
names_faults names [] = []
names_faults names (t ∷ ts) = again_faults names (name_of t) ++ names_faults (with_name names (name_of t)) ts

abbrev pub groups_faults : Option Tree → List Fault
groups_faults None = []
groups_faults (Some (leaf v)) = fault WrongKind v.span ∷ []
groups_faults (Some (sequence items s)) = flat_map group_tree_faults (trees items) ++ names_faults [] (trees items)
groups_faults (Some (mapping es s)) = fault WrongKind s ∷ []

-- a scalar as a whole file
abbrev pub root_faults : Value → List Fault
root_faults v = cond (bytes_eq v.text []) [] (fault WrongKind v.span ∷ [])

abbrev pub file_parts : Span → List Pairing → List (List Fault)
file_parts s es = flat_map (unknown_faults file_keys) es ∷ missing_faults s (entry_at (codes "groups") es) ∷ groups_faults (given (codes "groups") es) ∷ []

abbrev pub file_faults : Span → List Pairing → List Fault
file_faults s es = joined (file_parts s es)

abbrev pub faults : Tree → List Fault
faults (leaf v) = root_faults v
faults (sequence items s) = fault WrongKind s ∷ []
faults (mapping es s) = file_faults s (pairs es)

-- ---- the fault that is told

-- the one that is told so far, and one more
abbrev pub lesser : Option Fault → Fault → Option Fault
lesser first f = told first (Some f)

unfoldable pub least_from : Option Fault → List Fault → Option Fault
least_from first [] = first
least_from first (f ∷ fs) = least_from (lesser first f) fs

-- the first of several parts, one after another
abbrev pub least_each : Option Fault → List (List Fault) → Option Fault
least_each first [] = first
least_each first (part ∷ parts) = least_each (least_from first part) parts

-- ---- the rules of a tree without faults

abbrev pub no_value : Value
no_value = record { text = []; from = []; span = record { start = 0; end = 0 } }

abbrev pub value_of : Option Value → Value
value_of None = no_value
value_of (Some v) = v

abbrev pub leaf_of : Tree → Value
leaf_of (leaf v) = v
leaf_of (sequence items s) = no_value
leaf_of (mapping es s) = no_value

abbrev pub setting_of : Pairing → Setting
setting_of e = (e.0, leaf_of e.1)

abbrev pub settings_of : Option Tree → List Setting
settings_of None = []
settings_of (Some (leaf v)) = []
settings_of (Some (sequence items s)) = []
settings_of (Some (mapping es s)) = map setting_of (pairs es)

abbrev pub text_of : Option Tree → Value
text_of g = value_of (scalar_of g)

abbrev pub name_text : Option Tree → Option Tree → Value
name_text None alerted = text_of alerted
name_text (Some t) alerted = leaf_of t

abbrev pub is_alert : Option Tree → Bool
is_alert None = true
is_alert (Some t) = false

abbrev pub rule_source : ℕ → List Pairing → Source
rule_source group es = record {
  alert = is_alert (given (codes "record") es);
  name = name_text (given (codes "record") es) (given (codes "alert") es);
  expr = text_of (given (codes "expr") es);
  labels = settings_of (given (codes "labels") es);
  annotations = settings_of (given (codes "annotations") es);
  group = group;
}

abbrev pub entries_of : Tree → List Pairing
entries_of (leaf v) = []
entries_of (sequence items s) = []
entries_of (mapping es s) = pairs es

abbrev pub items_of : Option Tree → List Tree
items_of None = []
items_of (Some (leaf v)) = []
items_of (Some (sequence items s)) = trees items
items_of (Some (mapping es s)) = []

abbrev pub tree_source : ℕ → Tree → Source
tree_source number r = rule_source number (entries_of r)

abbrev pub group_sources : ℕ → Tree → List Source
group_sources number t = map (tree_source number) (items_of (given (codes "rules") (entries_of t)))

unfoldable pub groups_sources : ℕ → List Tree → List Source
groups_sources number [] = []
groups_sources number (t ∷ ts) = group_sources number t ++ groups_sources (suc number) ts

abbrev pub sources : Tree → List Source
sources t = groups_sources 0 (items_of (given (codes "groups") (entries_of t)))

-- the rules of a tree, or its first fault
abbrev pub reading_from : Tree → Option Fault → Result (List Source) Fault
reading_from t None = Ok (sources t)
reading_from t (Some f) = Err f

abbrev pub reading : Tree → Result (List Source) Fault
reading t = reading_from t (least_from None (faults t))

-- ---- where the code finds a scalar

abbrev pub IsLeaf : Tree → Type 0
IsLeaf (leaf v) = Unit {0}
IsLeaf (sequence items s) = ⊥
IsLeaf (mapping es s) = ⊥

-- a value is there, and is a scalar
abbrev pub IsFilled : Option Tree → Type 0
IsFilled None = ⊥
IsFilled (Some t) = IsLeaf t

-- the values of `record` and `alert`
abbrev pub IsNamed : Option Tree → Option Tree → Type 0
IsNamed None alerted = IsFilled alerted
IsNamed (Some t) alerted = IsLeaf t

abbrev pub AreLeaves : List Pairing → Type 0
AreLeaves es = AllByRecursion (λ e. IsLeaf e.1) es

-- labels or annotations
abbrev pub SetsLeaves : Option Tree → Type 0
SetsLeaves None = Unit {0}
SetsLeaves (Some t) = AreLeaves (entries_of t)

pub record IsReadable (es : List Pairing) : Type 0 where
  pub named : IsNamed (given (codes "record") es) (given (codes "alert") es)
  pub expr : IsFilled (given (codes "expr") es)
  pub labels : SetsLeaves (given (codes "labels") es)
  pub annotations : SetsLeaves (given (codes "annotations") es)

-- the rules of a group
abbrev pub AreReadable : List Tree → Type 0
AreReadable ts = AllByRecursion (λ t. IsReadable (entries_of t)) ts

abbrev pub rules_of : Tree → List Tree
rules_of t = items_of (given (codes "rules") (entries_of t))

abbrev pub AreReadableGroups : List Tree → Type 0
AreReadableGroups ts = AllByRecursion (λ t. AreReadable (rules_of t)) ts
