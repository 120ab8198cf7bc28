use Rattle.std.proofs.Common.{◌≡◌, ◌+◌, length, ◌∙◌, ap, arith}
use Rattle.lf_rounds.specs.declared.rule.About.{About}
use Rattle.lf_rounds.proofs.Making.{kept_over, opens_over}
use Rattle.lf_rounds.proofs.round.Round.of_due.Goals as goal

pub of_words-requires : goal.of_words-requires
of_words-requires c =
    let k : About = record { counts = record { pieces = c.in_ok-count.field-0; seats = c.args.seats }; universe = c.of.result; rules = c.of-2.result; reads = c.of-3.result; pieces = c.of-4.result; start = c.of-5.result } in
    opens_over k c.args.universe.now c.args.rules.now c.args.known.reads c.args.pieces c.args.start c.of.ensures c.of-2.ensures c.of-3.ensures c.of-4.ensures c.of-5.ensures
    c.for_table.result.now c.for_table.ensures c.requires.below

pub invariant_of-round : goal.invariant_of-round
invariant_of-round c =
    let k : About = c.in_ok-table.table.shared.key in
    let made = c.in_ok-table.ensures in
    let key = made.5 in
    let long : length c.for_table.result.now ≡ length c.args.start + 1 = omega (arith, ap length c.for_table.ensures) in
    kept_over k c.args.universe.now c.args.rules.now c.args.known.reads c.args.pieces c.args.start
    (ap (λ (a : About). a.universe.value) key ∙ c.of.ensures) (ap (λ (a : About). a.rules.value) key ∙ c.of-2.ensures) (ap (λ (a : About). a.reads.value) key ∙ c.of-3.ensures) (ap (λ (a : About). a.pieces.value) key ∙ c.of-4.ensures) (ap (λ (a : About). a.start.value) key ∙ c.of-5.ensures)
    c.in_ok-table.table.shared.table_id c.args.known.names c.total.result c.words.result
    c.labels-labels.ensures.within.listing c.requires.covers c.requires.known c.requires.recording c.requires.others c.requires.words
    (ap (λ (a : About). a.counts.pieces) key ∙ c.in_ok-count.ensures.0) (omega (arith, c.in_ok-count.ensures.0, c.in_ok-count.ensures.1)) (omega (arith, ap (λ (a : About). a.counts.seats) key, c.requires.seats.1))
    (made.0 ∙ long) (omega (arith, long)) made.1 c.total.ensures c.words.ensures
