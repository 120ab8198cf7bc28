use Rattle.std.proofs.Common.{◌≡◌, ◌∷◌, ◌++◌, ◌+◌, [], ℕ, List, Option, take, sym, ◌∙◌, ap}
use Rattle.std.proofs.lemmas.Grind.{flat_map-append}
use Rattle.std.proofs.lemmas.List.{append-nil, take_all, take_more}
use Rattle.lf_ast.specs.Labels.{Bytes}
use Rattle.lf_ast.specs.Rules.{rule_trees}
use Rattle.lf_uniform.specs.views.Naming.{said_by, said_one, with_each}
use Rattle.lf_uniform.specs.views.NamingVisits.{each_append}
use Rattle.lf_uniform.proofs.naming.NameCollector.say.Goals as goal

pub loop-name-preserved : goal.loop-name-preserved
loop-name-preserved c =
    let start : List Bytes = c.args.self.now.names in
    let rules = rule_trees c.args.self.now.setting.now.rules in
    let selected : List (Option Bytes) = c.args.selected.now in
    let k : ℕ = c.loop-name.name-index in
    let x : Option Bytes = c.name-item.result in
    let more : said_by rules (take k selected) ++ said_one rules x ≡ said_by rules (take (k + 1) selected) =
    ap (λ (l : List Bytes). said_by rules (take k selected) ++ l) (sym (append-nil (said_one rules x)))
    ∙ sym (flat_map-append (said_one rules) (take k selected) (x ∷ []))
    ∙ ap (λ (o : Option Bytes). said_by rules (take k selected ++ o ∷ [])) c.name-item.is
    ∙ ap (said_by rules) (sym (take_more selected k x c.loop-name-test.true)) in
    record {
      names = c.in_ok-say_one.ensures.names
          ∙ ap (λ s. with_each c.loop-name.self.names (said_one (rule_trees s.now.rules) x)) c.loop-name.invariant.setting
          ∙ ap (λ (ns : List Bytes). with_each ns (said_one rules x)) c.loop-name.invariant.names
          ∙ sym (each_append (said_by rules (take k selected)) start (said_one rules x))
          ∙ ap (with_each start) more;
      setting = c.in_ok-say_one.ensures.setting ∙ c.loop-name.invariant.setting;
    }

pub returns-clause-names : goal.returns-clause-names
returns-clause-names c =
    c.loop-name.invariant.names
    ∙ ap (λ (xs : List (Option Bytes)). with_each c.args.self.now.names (said_by (rule_trees c.args.self.now.setting.now.rules) xs)) (take_all c.loop-name.name-index c.args.selected.now c.loop-name-test.false)

pub returns-clause-setting : goal.returns-clause-setting
returns-clause-setting c = c.loop-name.invariant.setting
