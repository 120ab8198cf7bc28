use Rattle.std.proofs.Common.{ℕ, List, get_or, refl}
use Rattle.std.proofs.lemmas.List.Elements.{Contains-get_or}
use Rattle.lf_open.specs.views.Known.{rules_of}
use Rattle.lf_open.proofs.FirstOfEach.{first_more}
use Rattle.lf_open.proofs.firsts.first_of_others.Goals as goal

pub other_first-requires-clause-rule : goal.other_first-requires-clause-rule
other_first-requires-clause-rule c =
    let numbers : List ℕ = c.args.numbers.now in
    let k : ℕ = c.loop-number.number-index in
    c.requires.rules (get_or numbers k 0) (Contains-get_or numbers k 0 c.loop-number-test.true)

pub loop-number-preserved : goal.loop-number-preserved
loop-number-preserved c =
    let numbers : List ℕ = c.args.numbers.now in
    let k : ℕ = c.loop-number.number-index in
    record {
      first =
          first_more (rules_of c.args.known.now) c.args.i k 0 (get_or numbers k 0) numbers c.loop-number.first c.in_ok-other.other c.earlier-first.result c.loop-number-test.true refl c.loop-number.invariant.first c.in_ok-other.ensures.first
          c.earlier-first.ensures;
      kept = c.in_ok-other.ensures.kept;
    }
