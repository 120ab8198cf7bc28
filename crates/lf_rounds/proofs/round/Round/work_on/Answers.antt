use Rattle.std.proofs.Common.{◌≡◌, ◌*◌, ℕ, List, [], ◌∷◌, ◌++◌, length, ap, sym, ◌∙◌, subst, arith}
use Rattle.lf_ast.specs.Labels.{Bytes}
use Rattle.lf_ast.specs.Rules.{rule_tree, rule_trees}
use Rattle.lf_semantics.proofs.NormalizedRows.{recorded_row_is}
use Rattle.lf_semantics.specs.ClassRows.{HasShape, Sets}
use Rattle.std.proofs.lemmas.List.{length-map}
use Rattle.lf_semantics.specs.Environments.{IsEnvironmentOf, IsRow, recorded_row}
use Rattle.lf_semantics.specs.RowTable.{Environment}
use Rattle.lf_semantics.specs.Listing.{IsListing, Listing, place}
use Rattle.lf_rounds.specs.Facts.{RoundFacts, task}
use Rattle.lf_rounds.specs.Sums.{sum_of_loads, sum_of_rows}
use Rattle.lf_rounds.specs.Tasks.{IsTask, names, read_by, width}
use Rattle.lf_rounds.specs.declared.rule.Done.{Done}
use Rattle.lf_rounds.proofs.Noting.{last_noted}
use Rattle.lf_rounds.specs.views.Working.{IsStored, seen}
use Rattle.lf_rounds.proofs.Reading.{environment_put}
use Rattle.lf_rounds.proofs.Working.{is_stored}
use Rattle.lf_rounds.proofs.round.Round.work_on.Goals as goal

pub recorded_row-requires-clause-listing : goal.recorded_row-requires-clause-listing
recorded_row-requires-clause-listing c =
    let round = c.args.self.now in
    let T : RoundFacts → Type 0 = λ f. IsTask (task f) in
    let is : IsTask (task round) = subst T c.self.view_is c.self.invariant.task in
    subst IsListing (sym c.requires.over.0) is.listing

pub raise_row-requires-clause-row : goal.raise_row-requires-clause-row
raise_row-requires-clause-row c =
    let round = c.args.self.now in
    let T : RoundFacts → Type 0 = λ f. IsTask (task f) in
    let is : IsTask (task round) = subst T c.self.view_is c.self.invariant.task in
    let S : Sets → Type 0 = λ row. HasShape round.universe row in
    let made : c.in_ok-row.row ≡ recorded_row round.universe c.load_read.new.env (rule_tree c.rule_of-rule.result.now) =
    c.in_ok-row.ensures ∙ ap (λ (u : Listing). recorded_row u c.load_read.new.env (rule_tree c.rule_of-rule.result.now)) c.requires.over.0 in
    subst S (sym made) (recorded_row_is round.universe is.listing c.load_read.new.env c.in_ok-sum.ensures.env.environment (rule_tree c.rule_of-rule.result.now)).0

pub raise_row-requires-clause-stored : goal.raise_row-requires-clause-stored
raise_row-requires-clause-stored c =
    let round = c.args.self.now in
    let t = task round in
    let r = rule_tree c.rule_of-rule.result.now in
    let made : c.in_ok-row.row ≡ recorded_row round.universe c.load_read.new.env r = c.in_ok-row.ensures ∙ ap (λ (u : Listing). recorded_row u c.load_read.new.env r) c.requires.over.0 in
    let named : c.recorded_by-name.result ≡ place (names t) r.name = c.recorded_by-name.ensures r c.rule_of-rule.ensures.rule in
    let words = seen round c.load_read.new.seat.me in
    let P : ℕ → Type 0 = λ p. IsStored t p words c.in_ok-row.row (c.recorded_by-name.result * width t) in
    subst P (sym (c.load_read.ensures.same.piece ∙ c.requires.begins.piece))
    (is_stored t c.args.piece r words c.in_ok-row.row c.recorded_by-name.result c.rule_of-rule.ensures.rule (made ∙ c.in_ok-sum.ensures.read) named)

pub load_read-requires-clause-piece : goal.load_read-requires-clause-piece
load_read-requires-clause-piece c = c.requires.piece

pub raise_row-requires-clause-summed : goal.raise_row-requires-clause-summed
raise_row-requires-clause-summed c =
    let round = c.args.self.now in
    let t = task round in
    let v = c.load_read.new.seat.me.0 in
    let piece : v.piece ≡ c.args.piece = c.load_read.ensures.same.piece ∙ c.requires.begins.piece in
    let none : sum_of_loads c.args.seat.now.me.0.loads ≡ 0 = ap sum_of_loads c.requires.begins.loads in
    let sums : sum_of_loads v.loads ≡ c.in_ok-sum.sum = omega (arith, c.in_ok-sum.ensures.loads, none) in
    sums ∙ c.in_ok-sum.ensures.rows ∙ ap (λ (p : ℕ). sum_of_rows (width t) (seen round c.load_read.new.seat.me) (read_by t p)) (sym piece)

pub returns-clause-did : goal.returns-clause-did
returns-clause-did c =
    let v = c.load_read.new.seat.me.0 in
    (record { piece = v.piece; loads = v.loads } ∷ [], c.raise_row.ensures.did ∙ ap (λ (done : List Done). done ++ record { piece = v.piece; loads = v.loads } ∷ []) c.load_read.ensures.same.done)

pub returns-clause-noted : goal.returns-clause-noted
returns-clause-noted c =
    let v = c.load_read.new.seat.me.0 in
    let none : sum_of_loads c.args.seat.now.me.0.loads ≡ 0 = ap sum_of_loads c.requires.begins.loads in
    last_noted v.done c.raise_row.new.seat.me.0.done v.piece v.loads _ c.raise_row.ensures.did (sym (c.load_read.ensures.same.piece ∙ c.requires.begins.piece)) (omega (arith, c.in_ok-sum.ensures.loads, none))

pub raise_row-requires-clause-name : goal.raise_row-requires-clause-name
raise_row-requires-clause-name c =
    let t = task c.args.self.now in
    let named : c.recorded_by-name.result ≡ place (names t) c.rule_of-rule.result.now.name = c.recorded_by-name.ensures (rule_tree c.rule_of-rule.result.now) c.rule_of-rule.ensures.rule in
    omega (arith, named, c.rule_of-rule.ensures.name)

pub put-requires : goal.put-requires
put-requires c =
    let t = task c.args.self.now in
    let env = c.load_read.new.env in
    let named : c.recorded_by-name.result ≡ place (names t) c.rule_of-rule.result.now.name = c.recorded_by-name.ensures (rule_tree c.rule_of-rule.result.now) c.rule_of-rule.ensures.rule in
    omega (arith, named, c.rule_of-rule.ensures.name, ap length c.in_ok-sum.ensures.env.names, length-map env (λ (entry : Bytes × Sets). entry.0))

pub returns-clause-env : goal.returns-clause-env
returns-clause-env c =
    let round = c.args.self.now in
    let t = task round in
    let T : RoundFacts → Type 0 = λ f. IsTask (task f) in
    let is : IsTask (task round) = subst T c.self.view_is c.self.invariant.task in
    let env = c.load_read.new.env in
    let r = rule_tree c.rule_of-rule.result.now in
    let of = c.in_ok-sum.ensures.env in
    let made : c.in_ok-row.row ≡ recorded_row round.universe env r = c.in_ok-row.ensures ∙ ap (λ (u : Listing). recorded_row u env r) c.requires.over.0 in
    let named : c.recorded_by-name.result ≡ place (names t) c.rule_of-rule.result.now.name = c.recorded_by-name.ensures r c.rule_of-rule.ensures.rule in
    let R : Sets → Type 0 = λ row. IsRow round.universe row in
    let E : Environment → Type 0 = λ x. IsEnvironmentOf round.universe (rule_trees round.rules) x in
    subst E (sym c.put.ensures)
    (environment_put env c.recorded_by-name.result c.in_ok-row.row (omega (arith, named, c.rule_of-rule.ensures.name, ap length of.names, length-map env (λ (entry : Bytes × Sets). entry.0))) round.universe (rule_trees round.rules) of
    (subst R (sym made) (recorded_row_is round.universe is.listing env of.environment r)))
