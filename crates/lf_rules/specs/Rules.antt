-- Which rules a tree says.
use Rattle.std.specs.Prelude.{◌≡◌, ◌≢◌, ℕ, suc, true, false, List, [], ◌∷◌, ◌++◌, Option, Some, None, codes, ◌⊎◌}
use Rattle.std.specs.List.{Contains, AllZip, IsDistinct}
use Rattle.std.specs.Str.{bytes_eq}
use Rattle.lf_scalar.specs.Cells.{Value}
use Rattle.lf_yaml.specs.Tree.{Tree, leaf, sequence, mapping}
use Rattle.lf_rules.specs.Texts.{IsTime, IsLimit}
use Rattle.lf_base.specs.Names.{Bytes, is_label_name, is_metric_name, metric}
use Rattle.lf_rules.specs.Mappings.{Pairing, pairs, trees, entry_at, given}
use Rattle.lf_rules.specs.Sources.{Setting, Source}

-- the keys that a rule, a group and a file may have
abbrev pub rule_keys : List Bytes
rule_keys = codes "record" ∷ codes "alert" ∷ codes "expr" ∷ codes "for" ∷ codes "keep_firing_for" ∷ codes "labels" ∷ codes "annotations" ∷ []

-- those of these that a recording rule lacks
abbrev pub alert_keys : List Bytes
alert_keys = codes "for" ∷ codes "keep_firing_for" ∷ codes "annotations" ∷ []

abbrev pub group_keys : List Bytes
group_keys = codes "name" ∷ codes "rules" ∷ codes "interval" ∷ codes "limit" ∷ codes "query_offset" ∷ []

abbrev pub file_keys : List Bytes
file_keys = codes "groups" ∷ []

-- a mapping has no keys but these
abbrev pub HasOnly : List Bytes → List Pairing → Type 0
HasOnly keys es = (e : Pairing) → Contains es e → Contains keys e.0.text

-- a missing value, or a scalar whose text is such a one
abbrev pub IsText : (Bytes → Type 0) → Option Tree → Type 0
IsText is None = Unit {0}
IsText is (Some (leaf v)) = is v.text
IsText is (Some (sequence items span)) = ⊥
IsText is (Some (mapping es span)) = ⊥

-- an entry sets a label or an annotation to a text
abbrev pub SetsText : Pairing → Setting → Type 0
SetsText e s = (s.0 ≡ e.0) × (e.1 ≡ leaf s.1) × (is_label_name e.0.text ≡ true)

-- a missing value sets nothing; a mapping sets what its entries set, in their order
abbrev pub AreSettings : Option Tree → List Setting → Type 0
AreSettings None ss = ss ≡ []
AreSettings (Some (leaf v)) ss = ⊥
AreSettings (Some (sequence items span)) ss = ⊥
AreSettings (Some (mapping es span)) ss = AllZip SetsText (pairs es) ss

-- the labels of a rule don't set the metric name
abbrev pub NoneSetsName : List Setting → Type 0
NoneSetsName ss = (s : Setting) → Contains ss s → s.0.text ≢ metric

-- a recording rule has none of an alert's keys, and its name is a metric name
pub record IsRecord (es : List Pairing) (r : Source) : Type 0 where
  pub kind : r.alert ≡ false
  pub record_is : given (codes "record") es ≡ Some (leaf r.name)
  pub no_alert : given (codes "alert") es ≡ None
  pub no_for : given (codes "for") es ≡ None
  pub no_keep : given (codes "keep_firing_for") es ≡ None
  pub no_annotations : given (codes "annotations") es ≡ None
  pub name : is_metric_name r.name.text ≡ true

pub record IsAlert (es : List Pairing) (r : Source) : Type 0 where
  pub kind : r.alert ≡ true
  pub alert_is : given (codes "alert") es ≡ Some (leaf r.name)
  pub no_record : given (codes "record") es ≡ None

-- the entries of a rule in a group
pub record IsRule (group : ℕ) (es : List Pairing) (r : Source) : Type 0 where
  pub keys : HasOnly rule_keys es
  pub kind : IsRecord es r ⊎ IsAlert es r
  pub expr : given (codes "expr") es ≡ Some (leaf r.expr)
  pub for_is : IsText IsTime (given (codes "for") es)
  pub keep_is : IsText IsTime (given (codes "keep_firing_for") es)
  pub labels : AreSettings (given (codes "labels") es) r.labels
  pub no_name : NoneSetsName r.labels
  pub annotations : AreSettings (given (codes "annotations") es) r.annotations
  pub group_is : r.group ≡ group

-- a rule is a mapping
abbrev pub IsRuleTree : ℕ → Tree → Source → Type 0
IsRuleTree group (leaf v) r = ⊥
IsRuleTree group (sequence items span) r = ⊥
IsRuleTree group (mapping es span) r = IsRule group (pairs es) r

-- the rules of a group: none where they are missing
abbrev pub AreRules : ℕ → Option Tree → List Source → Type 0
AreRules group None rs = rs ≡ []
AreRules group (Some (leaf v)) rs = ⊥
AreRules group (Some (sequence items span)) rs = AllZip (IsRuleTree group) (trees items) rs
AreRules group (Some (mapping es span)) rs = ⊥

-- a group with this name and these rules
pub record IsGroup (number : ℕ) (es : List Pairing) (name : Bytes) (rs : List Source) : Type 0 where
  pub keys : HasOnly group_keys es
  pub named : (v : Value) × (given (codes "name") es ≡ Some (leaf v)) × (v.text ≡ name)
  pub interval : IsText IsTime (given (codes "interval") es)
  pub offset : IsText IsTime (given (codes "query_offset") es)
  pub limit : IsText IsLimit (given (codes "limit") es)
  pub rules : AreRules number (given (codes "rules") es) rs

abbrev pub IsGroupTree : ℕ → Tree → Bytes → List Source → Type 0
IsGroupTree number (leaf v) name rs = ⊥
IsGroupTree number (sequence items span) name rs = ⊥
IsGroupTree number (mapping es span) name rs = IsGroup number (pairs es) name rs

-- groups in their order, the first with this number, their names and the rules of all of them
abbrev pub AreGroups : ℕ → List Tree → List Bytes → List Source → Type 0
AreGroups number [] names rs = (names ≡ []) × (rs ≡ [])
AreGroups number (t ∷ ts) names rs =
    (name : Bytes) × (others : List Bytes) × (first : List Source) × (later : List Source)
    × (names ≡ name ∷ others) × (rs ≡ first ++ later) × IsGroupTree number t name first × AreGroups (suc number) ts others later

-- the value of `groups`: no text stands for no groups
abbrev pub AreFileGroups : Option Tree → List Source → Type 0
AreFileGroups None rs = rs ≡ []
AreFileGroups (Some (leaf v)) rs = ⊥
AreFileGroups (Some (sequence items span)) rs = (names : List Bytes) × AreGroups 0 (trees items) names rs × IsDistinct bytes_eq names
AreFileGroups (Some (mapping es span)) rs = ⊥

-- a tree says these rules: the empty text says none; else it is a mapping whose one key is `groups`
abbrev pub IsRules : Tree → List Source → Type 0
IsRules (leaf v) rs = (v.text ≡ []) × (rs ≡ [])
IsRules (sequence items span) rs = ⊥
IsRules (mapping es span) rs =
    HasOnly file_keys (pairs es) × (entry_at (codes "groups") (pairs es) ≢ None) × AreFileGroups (given (codes "groups") (pairs es)) rs
