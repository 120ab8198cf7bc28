use Rattle.std.proofs.Common.{◌≡◌, ◌*◌, ℕ, List, length, ⊎_elim, ap, sym, ◌∙◌, subst, arith}
use Rattle.std.proofs.lemmas.List.{length-map}
use Rattle.std.specs.List.{sum}
use Rattle.lf_ast.specs.Labels.{Bytes}
use Rattle.lf_ast.specs.Rules.{rule_trees}
use Rattle.lf_classes.specs.RowWords.{word_count}
use Rattle.lf_fix.proofs.Rounds.{start_is}
use Rattle.lf_semantics.specs.ClassRows.{Sets}
use Rattle.lf_semantics.specs.Environments.{IsEnvironmentOf, IsLeast}
use Rattle.lf_semantics.specs.RowTable.{Environment}
use Rattle.lf_rounds.specs.Tasks.{HoldRules}
use Rattle.lf_rounds.specs.Words.{environment_of}
use Rattle.lf_rounds.proofs.Bits.{bits_more, bits_most}
use Rattle.lf_rounds.proofs.Standings.{least_at_end, none_due}
use Rattle.lf_rounds.proofs.SumLaws.{same_by_sum}
use Rattle.lf_rounds.proofs.solving.solve_in_rounds.Goals as goal

pub rounds-init : goal.rounds-init
rounds-init g c =
    let u = c.args.universe.now in
    let rules = rule_trees c.args.rules.now in
    let E : Environment → Type 0 = λ env. IsEnvironmentOf u rules env in
    record { standing = c.in_ok-standing.ensures; env = subst E (sym c.in_ok-env.ensures) (start_is u c.labels-labels.ensures.within.listing rules c.requires.covers) }

pub rounds-smaller : goal.rounds-smaller
rounds-smaller g c =
    let rises = c.in_ok-standing-2.ensures.rises in
    let next : List ℕ = c.in_ok-standing-2.standing.words in
    let old : List ℕ = c.rounds.standing.words in
    let len : length old ≡ length next = sym rises.wide in
    let more = bits_more old next len c.rounds.invariant.standing.fit c.in_ok-standing-2.ensures.standing.fit rises.above
    (λ (same : next ≡ old). c.is_last.ensures.more c.if-is_last.false (ap sum same ∙ sym c.total-before.ensures)) in
    omega (arith, more, bits_most next, len)

pub environment-requires-clause-words : goal.environment-requires-clause-words
environment-requires-clause-words g c =
    let is = c.in_ok-standing-2.ensures.standing in
    let named = c.in_ok-standing-2.ensures.env.names in
    let env = c.behind_round.new.env in
    is.long ∙ ap (λ (n : ℕ). n * word_count c.args.universe.now) (sym (ap length named) ∙ length-map env (λ (entry : Bytes × Sets). entry.0))

pub returns-then-is_last : goal.returns-then-is_last
returns-then-is_last g c =
    let u = c.args.universe.now in
    let rules = rule_trees c.args.rules.now in
    let is = c.in_ok-standing-2.ensures.standing in
    let rises = c.in_ok-standing-2.ensures.rises in
    let next = c.in_ok-standing-2.standing in
    let words : List ℕ = next.words in
    let old : List ℕ = c.rounds.standing.words in
    let H : List ℕ → Type 0 = λ over. HoldRules u rules words over in
    let held : HoldRules u rules words words = ⊎_elim
    (λ (none : length next.due ≡ 0). none_due u rules next.due words is.others none)
    (λ (same : sum words ≡ c.total-before.result). subst H (same_by_sum old words (sym rises.wide) rises.above (sym c.total-before.ensures ∙ sym same)) rises.held)
    (c.is_last.ensures.last c.if-is_last.true) in
    let least = least_at_end u rules next.known.reads next.due words c.labels-labels.ensures.within.listing c.requires.covers is.known.reads is.recording is.others is.long held is.below in
    let L : Environment → Type 0 = λ env. IsLeast u rules env in
    subst L (sym (c.in_ok-env-2.ensures ∙ ap (λ names. environment_of u names words) c.in_ok-standing-2.ensures.env.names)) least
