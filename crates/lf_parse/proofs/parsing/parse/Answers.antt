use Rattle.lf_parse.proofs.Answering.{clauses_deep, clauses_read}
use Rattle.lf_parse.proofs.parsing.parse.Goals as goal

pub returns-in-Some : goal.returns-in-Some
returns-in-Some c =
    let y = clauses_deep c.args.tokens.now c.as_slice-tokens.result.now c.args.end c.as_slice-tokens.ensures c.in_ok-k.field-0 c.in-Some.k c.index-tokens-k.result c.in-Some.is c.in_ok-k.ensures in
    record { found = y.found; only = y.only; refused = y.refused; breach = y.breach; inside = y.inside; refused_inside = y.refused_inside }

pub returns : goal.returns
returns c =
    let y = clauses_read c.args.tokens.now c.as_slice-tokens.result.now c.args.end c.as_slice-tokens.ensures c.read.result c.in_ok-k.field-0 c.in_default.is c.in_ok-k.ensures c.read.ensures in
    record { found = y.found; only = y.only; refused = y.refused; breach = y.breach; inside = y.inside; refused_inside = y.refused_inside }
