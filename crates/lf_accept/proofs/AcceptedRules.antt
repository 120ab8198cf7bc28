-- What holds of each rule that is accepted: its expression has a type and breaks nothing, and its name and labels are such names.
use Rattle.std.proofs.Common.{◌≡◌, ◌≢◌, ◌⊎◌, inl, inr, ℕ, suc, true, false, List, [], ◌∷◌, map, Option, Some, None, codes, refl, sym, ◌∙◌, ap, subst}
use Rattle.std.proofs.lemmas.Bool.{false≢true}
use Rattle.std.specs.List.{AllByRecursion, AllZip, Contains, IsDistinct}
use Rattle.std.specs.Str.{bytes_eq}
use Rattle.lf_ast.specs.Labels.{Bytes}
use Rattle.lf_ast.specs.Rules.{RuleTree}
use Rattle.lf_ast.specs.declared.rule.RuleLabel.{RuleLabel}
use Rattle.lf_rules.specs.Mappings.{Pairing, pairs, trees}
use Rattle.lf_rules.specs.Rules.{AreFileGroups, AreGroups, AreRules, AreSettings, IsAlert, IsGroupTree, IsRecord, IsRule, IsRuleTree, IsRules, SetsText}
use Rattle.lf_rules.specs.Sources.{Setting, Source}
use Rattle.lf_base.specs.Names.{is_label_name, is_metric_name, metric}
use Rattle.lf_semantics.specs.Worlds.{SetsNoName}
use Rattle.lf_semantics.proofs.Members.{all_of, first_or_behind, none_in}
use Rattle.lf_yaml.specs.Tree.{Tree, leaf, sequence, mapping, Entries}
use Rattle.lf_accept.specs.Accepted.{IsAccepted, IsAcceptedRule, IsJudged, label_of}
use Rattle.lf_accept.proofs.DistinctKeys.{EntriesDiffer, GivenDiffers, KeysDiffer, given_differs, key_of, keys_differ, keys_distinct, trees_differ}
use Rattle.lf_laws.proofs.Members.{all_append}

-- ---- what the tree says of a rule

-- the label that is set
abbrev set_by : Setting → Bytes
set_by l = l.0.text

-- what is so of the name and the labels of a rule as it stands in a file
record IsNamed (s : Source) : Type 0 where
  name : s.alert ≡ false → is_metric_name s.name.text ≡ true
  labels : AllByRecursion (λ (l : Setting). is_label_name l.0.text ≡ true) s.labels
  no_name : AllByRecursion (λ (l : Setting). l.0.text ≢ metric) s.labels
  distinct : IsDistinct bytes_eq (map set_by s.labels)

name_of : (es : List Pairing) (s : Source) → IsRecord es s ⊎ IsAlert es s → s.alert ≡ false → is_metric_name s.name.text ≡ true
name_of es s (inl record_is) h = record_is.name
name_of es s (inr alert) h = absurd (false≢true (sym h ∙ alert.kind))

all_set : (es : List Pairing) (ss : List Setting) → AllZip SetsText es ss → AllByRecursion (λ (l : Setting). is_label_name l.0.text ≡ true) ss
all_set [] [] h = tt
all_set [] (s ∷ ss) h = absurd h
all_set (e ∷ es) [] h = absurd h
all_set (e ∷ es) (s ∷ ss) h =
    let same : e.0.text ≡ s.0.text = ap (λ v. v.text) (sym h.0.0) in
    (subst (λ t. is_label_name t ≡ true) same h.0.2, all_set es ss h.1)

labels_of : (given_as : Option Tree) (ss : List Setting) → AreSettings given_as ss → AllByRecursion (λ (l : Setting). is_label_name l.0.text ≡ true) ss
labels_of None ss h = let P : List Setting → Type 0 = AllByRecursion (λ (l : Setting). is_label_name l.0.text ≡ true) in subst P (sym h) tt
labels_of (Some (leaf v)) ss h = absurd h
labels_of (Some (sequence items span)) ss h = absurd h
labels_of (Some (mapping es span)) ss h = all_set (pairs es) ss h

same_keys : (es : List Pairing) (ss : List Setting) → AllZip SetsText es ss → map key_of es ≡ map set_by ss
same_keys [] [] h = refl
same_keys [] (s ∷ ss) h = absurd h
same_keys (e ∷ es) [] h = absurd h
same_keys (e ∷ es) (s ∷ ss) h = by (key_of e) (set_by s) (map key_of es) (map set_by ss) (ap (λ v. v.text) (sym h.0.0)) (same_keys es ss h.1)
  where
    by : (x y : Bytes) (xs ys : List Bytes) → x ≡ y → xs ≡ ys → (x ∷ xs) ≡ (y ∷ ys)
    by x y xs ys g k = cc

none_distinct : IsDistinct bytes_eq []
unfolding IsDistinct
none_distinct = tt

set_once : (given_as : Option Tree) (ss : List Setting) → GivenDiffers given_as → AreSettings given_as ss → IsDistinct bytes_eq (map set_by ss)
set_once None ss d h = let P : List Setting → Type 0 = λ xs. IsDistinct bytes_eq (map set_by xs) in subst P (sym h) none_distinct
set_once (Some (leaf v)) ss d h = absurd h
set_once (Some (sequence items span)) ss d h = absurd h
set_once (Some (mapping es span)) ss d h = subst (IsDistinct bytes_eq) (same_keys (pairs es) ss h) (keys_distinct es [] d)

is_named : (group : ℕ) (es : Entries) (s : Source) → EntriesDiffer es [] → IsRule group (pairs es) s → IsNamed s
is_named group es s d is = record {
  name = name_of (pairs es) s is.kind;
  labels = labels_of _ s.labels is.labels;
  no_name = all_of (λ (l : Setting). l.0.text ≢ metric) s.labels is.no_name;
  distinct = set_once _ s.labels (given_differs (codes "labels") es [] d) is.labels;
}

of_tree : (group : ℕ) (t : Tree) (s : Source) → KeysDiffer t → IsRuleTree group t s → IsNamed s
of_tree group (leaf v) s d h = absurd h
of_tree group (sequence items span) s d h = absurd h
of_tree group (mapping es span) s d h = is_named group es s d h

of_trees : (group : ℕ) (ts : List Tree) (ss : List Source) → AllByRecursion KeysDiffer ts → AllZip (IsRuleTree group) ts ss → AllByRecursion IsNamed ss
of_trees group [] [] d h = tt
of_trees group [] (s ∷ ss) d h = absurd h
of_trees group (t ∷ ts) [] d h = absurd h
of_trees group (t ∷ ts) (s ∷ ss) d h = (of_tree group t s d.0 h.0, of_trees group ts ss d.1 h.1)

none_named : (ss : List Source) → ss ≡ [] → AllByRecursion IsNamed ss
none_named ss e = subst (AllByRecursion IsNamed) (sym e) tt

of_rules : (group : ℕ) (given_as : Option Tree) (ss : List Source) → GivenDiffers given_as → AreRules group given_as ss → AllByRecursion IsNamed ss
of_rules group None ss d h = none_named ss h
of_rules group (Some (leaf v)) ss d h = absurd h
of_rules group (Some (sequence items span)) ss d h = of_trees group (trees items) ss (trees_differ items d) h
of_rules group (Some (mapping es span)) ss d h = absurd h

of_group : (number : ℕ) (t : Tree) (name : Bytes) (ss : List Source) → KeysDiffer t → IsGroupTree number t name ss → AllByRecursion IsNamed ss
of_group number (leaf v) name ss d h = absurd h
of_group number (sequence items span) name ss d h = absurd h
of_group number (mapping es span) name ss d h = of_rules number _ ss (given_differs (codes "rules") es [] d) h.rules

of_groups : (number : ℕ) (ts : List Tree) (names : List Bytes) (ss : List Source) → AllByRecursion KeysDiffer ts → AreGroups number ts names ss → AllByRecursion IsNamed ss
of_groups number [] names ss d h = none_named ss h.1
of_groups number (t ∷ ts) names ss d (name, others, front, later, names_are, are, here, behind) =
    subst (AllByRecursion IsNamed) (sym are) (all_append IsNamed front later (of_group number t name front d.0 here) (of_groups (suc number) ts others later d.1 behind))

of_file : (given_as : Option Tree) (ss : List Source) → GivenDiffers given_as → AreFileGroups given_as ss → AllByRecursion IsNamed ss
of_file None ss d h = none_named ss h
of_file (Some (leaf v)) ss d h = absurd h
of_file (Some (sequence items span)) ss d h = of_groups 0 (trees items) h.0 ss (trees_differ items d) h.1
of_file (Some (mapping es span)) ss d h = absurd h

all_named : (t : Tree) (ss : List Source) → KeysDiffer t → IsRules t ss → AllByRecursion IsNamed ss
all_named (leaf v) ss d h = none_named ss h.1
all_named (sequence items span) ss d h = absurd h
all_named (mapping es span) ss d h = of_file _ ss (given_differs (codes "groups") es [] d) h.2

-- ---- accepted rules

-- what holds of an accepted rule: its expression stands as judged, a recorded name is a metric name, and its labels are label names other than the metric's name, each once
pub record IsJudgedRule (r : RuleTree) : Type 0 where
  pub judged : IsJudged r.expr
  pub name : r.alert ≡ false → is_metric_name r.name ≡ true
  pub labels : AllByRecursion (λ l. is_label_name l.key ≡ true) r.labels
  pub no_name : SetsNoName r
  pub distinct : IsDistinct bytes_eq (map (λ l. l.key) r.labels)

all_labels : (P : Bytes → Type 0) (ss : List Setting) → AllByRecursion (λ (l : Setting). P l.0.text) ss → AllByRecursion (λ (l : RuleLabel). P l.key) (map label_of ss)
all_labels P [] h = tt
all_labels P (s ∷ ss) h = (h.0, all_labels P ss h.1)

same_set : (ss : List Setting) → map set_by ss ≡ map (λ (l : RuleLabel). l.key) (map label_of ss)
same_set [] = refl
same_set (s ∷ ss) = ap (λ xs. set_by s ∷ xs) (same_set ss)

module _ (file : ℕ) where
  judged_rule : (s : Source) (r : RuleTree) → IsNamed s → IsAcceptedRule file s r → IsJudgedRule r
  judged_rule s r named is =
      let labels : r.labels ≡ map label_of s.labels = ap (λ x. x.labels) is.1 in
      let alert : r.alert ≡ s.alert = ap (λ x. x.alert) is.1 in
      let name : r.name ≡ s.name.text = ap (λ x. x.name) is.1 in
      record {
        judged = is.0.judged;
        name = λ h. subst (λ t. is_metric_name t ≡ true) (sym name) (named.name (sym alert ∙ h));
        labels = subst (AllByRecursion (λ (l : RuleLabel). is_label_name l.key ≡ true)) (sym labels) (all_labels (λ t. is_label_name t ≡ true) s.labels named.labels);
        no_name = subst (AllByRecursion (λ (l : RuleLabel). l.key ≢ metric)) (sym labels) (all_labels (λ t. t ≢ metric) s.labels named.no_name);
        distinct = subst (λ (ls : List RuleLabel). IsDistinct bytes_eq (map (λ l. l.key) ls)) (sym labels) (subst (IsDistinct bytes_eq) (same_set s.labels) named.distinct);
      }

  judged_rules : (ss : List Source) (rs : List RuleTree) → AllByRecursion IsNamed ss → AllZip (IsAcceptedRule file) ss rs → (r : RuleTree) → Contains rs r → IsJudgedRule r
  judged_rules [] [] named are r c = absurd (none_in r c)
  judged_rules [] (x ∷ rs) named are r c = absurd are
  judged_rules (s ∷ ss) [] named are r c = absurd are
  judged_rules (s ∷ ss) (x ∷ rs) named are r c = elim (first_or_behind x rs r c) [
    | inl e ↦ subst IsJudgedRule e (judged_rule s x named.0 are.0)
    | inr d ↦ judged_rules ss rs named.1 are.1 r d
  ]

-- each accepted rule is so
pub accepted_rule : (bytes : Bytes) (file : ℕ) (rules : List RuleTree) → IsAccepted bytes file rules → (r : RuleTree) → Contains rules r → IsJudgedRule r
accepted_rule bytes file rules a = judged_rules file a.sources rules (all_named a.says.0 a.sources (keys_differ bytes a.says.0 a.says.1) a.says.2) a.are_rules

-- and so sets no metric name
pub sets_no_name : (bytes : Bytes) (file : ℕ) (rules : List RuleTree) → IsAccepted bytes file rules → (r : RuleTree) → Contains rules r → SetsNoName r
sets_no_name bytes file rules a r c = (accepted_rule bytes file rules a r c).no_name
