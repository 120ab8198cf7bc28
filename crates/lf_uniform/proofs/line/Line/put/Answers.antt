use Rattle.std.proofs.Common.{◌≡◌, ℕ, true, List, [], ◌∷◌, sym, ◌∙◌, ap, subst, true≢false}
use Rattle.std.specs.Prelude.{slice_get, Some}
use Rattle.lf_ast.specs.Labels.{Bytes}
use Rattle.lf_ast.specs.Rules.{RuleTree, rule_tree, rule_trees}
use Rattle.lf_deps.specs.Reading.{selectors}
use Rattle.lf_deps.proofs.LookedUp.{selected_is}
use Rattle.lf_deps.proofs.RuleTrees.{tree_at}
use Rattle.lf_laws.proofs.Options.{same_option}
use Rattle.lf_uniform.specs.views.Lines.{IsRound, IsReady, Line, is_ready}
use Rattle.lf_uniform.proofs.FirstNumbers.{tells_recorded}
use Rattle.lf_uniform.proofs.Rounds.{added_round, means_ready, ready_means, waiting_round}
use Rattle.lf_uniform.proofs.line.Line.put.Goals as goal

pub returns-then-not-is_ready : goal.returns-then-not-is_ready
returns-then-not-is_ready c =
    let rules : List RuleTree = rule_trees c.args.rules.now in
    let line : Line = c.args.self.now in
    let k : ℕ = c.args.number in
    let recorded : List Bytes = c.args.sources.now.names in
    let r : RuleTree = rule_tree c.get.result.now in
    let at : slice_get rules k ≡ Some r = tree_at c.args.rules.now k c.get.result.now c.get.ensures.value in
    let told : c.is_ready.result ≡ is_ready recorded line.names (selectors r.expr) =
    c.is_ready.ensures ∙ ap (λ (xs : List Bytes). is_ready xs line.names c.selected_by.result.now) c.recorded.ensures
    ∙ ap (is_ready recorded line.names) (c.selected_by.ensures ∙ selected_is rules c.args.sources.now c.requires.sources k r at) in
    waiting_round rules line k
    (λ q at_q ready.
    let same : r ≡ q = same_option (slice_get rules k) r q at at_q in
    let holds : c.is_ready.result ≡ true = told ∙ means_ready rules recorded line.names r (tells_recorded rules recorded c.requires.sources.names) (subst (IsReady rules line.names) (sym same) ready) in
    true≢false (sym holds ∙ c.if-not-is_ready.true))

pub returns : goal.returns
returns c =
    let rules : List RuleTree = rule_trees c.args.rules.now in
    let line : Line = c.args.self.now in
    let k : ℕ = c.args.number in
    let recorded : List Bytes = c.args.sources.now.names in
    let r : RuleTree = rule_tree c.get.result.now in
    let at : slice_get rules k ≡ Some r = tree_at c.args.rules.now k c.get.result.now c.get.ensures.value in
    let told : c.is_ready.result ≡ is_ready recorded line.names (selectors r.expr) =
    c.is_ready.ensures ∙ ap (λ (xs : List Bytes). is_ready xs line.names c.selected_by.result.now) c.recorded.ensures
    ∙ ap (is_ready recorded line.names) (c.selected_by.ensures ∙ selected_is rules c.args.sources.now c.requires.sources k r at) in
    let ready = ready_means rules recorded line.names r (tells_recorded rules recorded c.requires.sources.names) (sym told ∙ c.if-not-is_ready.false) in
    let first = (c.is_first.ensures rules c.requires.sources r at (sym c.as_str.ensures)).0 c.if-not-is_first.false in
    subst (λ (l : Line). IsRound rules line (k ∷ []) l []) (sym c.in_ok-push.ensures) (added_round rules line k r at first ready)
