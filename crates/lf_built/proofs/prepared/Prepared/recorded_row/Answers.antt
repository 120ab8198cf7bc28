use Rattle.std.proofs.Common.{◌≡◌, false, true, [], Option, Some, sym, ◌∙◌, ap, subst, arith}
use Rattle.std.specs.Option.{IfSome, option_map_or}
use Rattle.std.proofs.lemmas.List.{length-map}
use Rattle.std.proofs.lemmas.Option.{slice_get_within}
use Rattle.lf_ast.specs.Rules.{RuleTree, rule_tree}
use Rattle.lf_deps.proofs.RuleTrees.{tree_at}
use Rattle.lf_semantics.specs.ClassRows.{Sets}
use Rattle.lf_semantics.specs.Environments.{recorded_row}
use Rattle.lf_semantics.specs.RowTable.{row_named}
use Rattle.lf_built.specs.views.Indexed.{env_of, trees_of, universe_of}
use Rattle.lf_built.specs.views.RuleRows.{IsStored}
use Rattle.lf_built.proofs.Fits.{recorded_there, stored_told}
use Rattle.lf_built.proofs.StoredRows.{found_same, found_some}
use Rattle.lf_built.proofs.prepared.Prepared.recorded_row.Goals as goal

alert_same : (a b : RuleTree) → Some a ≡ Some b → b.alert ≡ false → a.alert ≡ false
alert_same a b e records = ap (λ (o : Option RuleTree). option_map_or (λ (r : RuleTree). r.alert) o true) e ∙ records

name_same : (a b : RuleTree) → Some a ≡ Some b → a.name ≡ b.name
name_same a b e = ap (λ (o : Option RuleTree). option_map_or (λ (r : RuleTree). r.name) o []) e

pub index-requires : goal.index-requires
index-requires c =
    let p = c.args.self.now in
    let r = c.requires.rule in
    omega (arith, slice_get_within (trees_of p) c.args.rule r.0 r.1, recorded_there p c.requires.known)

pub get-requires : goal.get-requires
get-requires c =
    let p = c.args.self.now in
    let r = c.requires.rule in
    omega (arith, slice_get_within (trees_of p) c.args.rule r.0 r.1, length-map p.rules.now rule_tree)

pub unwrap-requires : goal.unwrap-requires
unwrap-requires c =
    let p = c.args.self.now in
    let r = c.requires.rule in
    let stored = recorded_row (universe_of p) (env_of p) r.0 in
    let name : c.as_str.result.now ≡ r.0.name = c.as_str.ensures ∙ name_same (rule_tree c.get.result.now) r.0 (sym (tree_at p.rules.now c.args.rule c.get.result.now c.get.ensures.value) ∙ r.1) in
    let kept : row_named (env_of p) r.0.name ≡ Some stored = subst (λ (o : Option Sets). IsStored (env_of p) r.0.name stored o) c.in-None.is (stored_told p c.requires.known c.args.rule r.0 c.index.result.now r.1 c.index.ensures r.2) in
    found_some c.row.result (env_of p) c.as_str.result.now stored c.row.ensures.none (ap (row_named (env_of p)) name ∙ kept)

pub returns-in-Some : goal.returns-in-Some
returns-in-Some c r is =
    let p = c.args.self.now in
    let records = alert_same r c.requires.rule.0 (sym is ∙ c.requires.rule.1) c.requires.rule.2 in
    subst (λ (o : Option Sets). IsStored (env_of p) r.name (recorded_row (universe_of p) (env_of p) r) o) c.in-Some.is (stored_told p c.requires.known c.args.rule r c.index.result.now is c.index.ensures records)

pub returns-in-None : goal.returns-in-None
returns-in-None c r is =
    let p = c.args.self.now in
    let stored = recorded_row (universe_of p) (env_of p) r in
    let records = alert_same r c.requires.rule.0 (sym is ∙ c.requires.rule.1) c.requires.rule.2 in
    let name : c.as_str.result.now ≡ r.name = c.as_str.ensures ∙ name_same (rule_tree c.get.result.now) r (sym (tree_at p.rules.now c.args.rule c.get.result.now c.get.ensures.value) ∙ is) in
    let kept : row_named (env_of p) r.name ≡ Some stored = subst (λ (o : Option Sets). IsStored (env_of p) r.name stored o) c.in-None.is (stored_told p c.requires.known c.args.rule r c.index.result.now is c.index.ensures records) in
    found_same (env_of p) c.as_str.result.now c.unwrap.result.now stored (subst (λ o. IfSome o (λ row. row_named (env_of p) c.as_str.result.now ≡ Some row.now)) c.unwrap.ensures c.row.ensures.some) (ap (row_named (env_of p)) name ∙ kept)
