use Rattle.std.proofs.Common.{◌+◌, get_or}
use Rattle.lf_scalar.specs.Cells.{cell}
use Rattle.lf_scalar.proofs.QuotedText.{told-open, told-lines, told-value, told-wrong}
use Rattle.lf_scalar.proofs.quoted_scalar.read_quoted.Goals as goal

pub returns-in_default : goal.returns-in_default
returns-in_default c = record { gives = told-open c.args.kind c.args.at c.args.rest.now c.past-inner.result.now c.requires.some c.past-inner.ensures c.open_quote.result c.open_quote.ensures c.in_default.ensures.value }

pub returns-in-Err : goal.returns-in-Err
returns-in-Err c =
    record {
      gives = told-lines c.args.kind c.args.at c.args.rest.now c.past-inner.result.now c.requires.some c.past-inner.ensures c.in-Some.closing c.in-Some.ensures.within c.in-Some.ensures.value c.before-2.result.now c.before-2.ensures c.in-Err.refusal c.in-Err.ensures;
    }

pub returns-in-Some-wrong_behind : goal.returns-in-Some-wrong_behind
returns-in-Some-wrong_behind c =
    let at = c.args.at + 1 + c.in-Some.closing + 1 in
    record {
      gives = told-wrong c.args.kind c.args.at c.args.rest.now c.past-inner.result.now c.requires.some c.past-inner.ensures c.in-Some.closing c.in-Some.ensures.within c.in-Some.ensures.value c.before-2.result.now c.before-2.ensures c.in_ok-builder.builder
          c.push_lines.new.builder c.past.result.now c.first_line-line.result.now c.in_ok-builder.ensures c.in-Ok.ensures c.past.ensures (c.first_line-line.ensures.value at) c.fault_at.result
          (cell (get_or c.first_line-line.result.now c.in-Some-wrong_behind.k 0) (at + c.in-Some-wrong_behind.k)) c.fault_at.ensures (c.in-Some-wrong_behind.ensures.value at);
    }

pub returns-in-None : goal.returns-in-None
returns-in-None c =
    let at = c.args.at + 1 + c.in-Some.closing + 1 in
    record {
      gives = told-value c.args.kind c.args.at c.args.rest.now c.past-inner.result.now c.requires.some c.past-inner.ensures c.in-Some.closing c.in-Some.ensures.within c.in-Some.ensures.value c.before-2.result.now c.before-2.ensures c.in_ok-builder.builder
          c.push_lines.new.builder c.past.result.now c.first_line-line.result.now c.in_ok-builder.ensures c.in-Ok.ensures c.past.ensures (c.first_line-line.ensures.value at) (c.in-None.ensures.value at);
    }
