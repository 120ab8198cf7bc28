-- In a tree without faults the code finds a scalar wherever it takes one.
use Rattle.std.proofs.Common.{◌≡◌, ℕ, suc, List, [], ◌∷◌, Option, Some, None, ◌⊎◌, inl, inr, sym, subst, codes}
use Rattle.std.specs.List.{AllZip}
use Rattle.lf_scalar.specs.Cells.{Value}
use Rattle.lf_yaml.specs.Tree.{Tree, leaf, sequence, mapping}
use Rattle.lf_base.specs.Names.{Bytes}
use Rattle.lf_rules.specs.Mappings.{Pairing, pairs, trees, given, entry_at}
use Rattle.lf_rules.specs.Sources.{Source, Setting}
use Rattle.lf_rules.specs.Rules.{SetsText, AreSettings, IsRecord, IsAlert, IsRule, IsRuleTree, AreRules, IsGroupTree, AreGroups, AreFileGroups, IsRules}
use Rattle.lf_rules.specs.reading.Files.{faults, sources, entries_of, items_of, rules_of, IsLeaf, IsFilled, IsNamed, AreLeaves, SetsLeaves, IsReadable, AreReadable, AreReadableGroups}
use Rattle.lf_rules.proofs.FileReadings.{file_stands}
use Rattle.lf_rules.proofs.Times.{time_decides, limit_decides}

filled : (g : Option Tree) (v : Value) → g ≡ Some (leaf v) → IsFilled g
filled g v e = subst IsFilled (sym e) tt

zip_leaves : (es : List Pairing) (ss : List Setting) → AllZip SetsText es ss → AreLeaves es
zip_leaves [] ss z = tt
zip_leaves (e ∷ es) [] z = absurd z
zip_leaves (e ∷ es) (s ∷ ss) z = (subst IsLeaf (sym z.0.1) tt, zip_leaves es ss z.1)

settings_leaves : (g : Option Tree) (ss : List Setting) → AreSettings g ss → SetsLeaves g
settings_leaves None ss a = tt
settings_leaves (Some (leaf v)) ss a = absurd a
settings_leaves (Some (sequence items s)) ss a = absurd a
settings_leaves (Some (mapping es s)) ss a = zip_leaves (pairs es) ss a

rule_readable : (number : ℕ) (es : List Pairing) (r : Source) → IsRule number es r → IsReadable es
rule_readable number es r i = record {
  named = by i.kind;
  expr = filled (given (codes "expr") es) r.expr i.expr;
  labels = settings_leaves (given (codes "labels") es) r.labels i.labels;
  annotations = settings_leaves (given (codes "annotations") es) r.annotations i.annotations;
}
  where
    by : IsRecord es r ⊎ IsAlert es r → IsNamed (given (codes "record") es) (given (codes "alert") es)
    by (inl k) = subst (λ g. IsNamed g (given (codes "alert") es)) (sym k.record_is) tt
    by (inr k) = subst (λ g. IsNamed g (given (codes "alert") es)) (sym k.no_record) (filled (given (codes "alert") es) r.name k.alert_is)

tree_readable : (number : ℕ) (t : Tree) (r : Source) → IsRuleTree number t r → IsReadable (entries_of t)
tree_readable number (leaf v) r i = absurd i
tree_readable number (sequence items s) r i = absurd i
tree_readable number (mapping es s) r i = rule_readable number (pairs es) r i

list_readable : (number : ℕ) (ts : List Tree) (rs : List Source) → AllZip (IsRuleTree number) ts rs → AreReadable ts
list_readable number [] rs z = tt
list_readable number (t ∷ ts) [] z = absurd z
list_readable number (t ∷ ts) (r ∷ rs) z = (tree_readable number t r z.0, list_readable number ts rs z.1)

rules_readable : (number : ℕ) (g : Option Tree) (rs : List Source) → AreRules number g rs → AreReadable (items_of g)
rules_readable number None rs a = tt
rules_readable number (Some (leaf v)) rs a = absurd a
rules_readable number (Some (sequence items s)) rs a = list_readable number (trees items) rs a
rules_readable number (Some (mapping es s)) rs a = absurd a

group_readable : (number : ℕ) (t : Tree) (name : Bytes) (rs : List Source) → IsGroupTree number t name rs → AreReadable (rules_of t)
group_readable number (leaf v) name rs i = absurd i
group_readable number (sequence items s) name rs i = absurd i
group_readable number (mapping es s) name rs i = rules_readable number (given (codes "rules") (pairs es)) rs i.rules

groups_readable : (number : ℕ) (ts : List Tree) (names : List Bytes) (rs : List Source) → AreGroups number ts names rs → AreReadableGroups ts
groups_readable number [] names rs a = tt
groups_readable number (t ∷ ts) names rs a = (group_readable number t a.0 a.2 a.6, groups_readable (suc number) ts a.1 a.3 a.7)

file_readable : (g : Option Tree) (rs : List Source) → AreFileGroups g rs → AreReadableGroups (items_of g)
file_readable None rs a = tt
file_readable (Some (leaf v)) rs a = absurd a
file_readable (Some (sequence items s)) rs a = groups_readable 0 (trees items) a.0 rs a.1
file_readable (Some (mapping es s)) rs a = absurd a

pub readable : (t : Tree) → faults t ≡ [] → AreReadableGroups (items_of (given (codes "groups") (entries_of t)))
unfolding entry_at
readable t e = by t (sources t) (file_stands time_decides limit_decides t e)
  where
    by : (t : Tree) (rs : List Source) → IsRules t rs → AreReadableGroups (items_of (given (codes "groups") (entries_of t)))
    by (leaf v) rs i = tt
    by (sequence items s) rs i = tt
    by (mapping es s) rs i = file_readable (given (codes "groups") (pairs es)) rs i.2
