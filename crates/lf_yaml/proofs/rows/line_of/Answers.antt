use Rattle.std.proofs.Common.{arith, ap, length, inl, inr, length-drop}
use Rattle.std.proofs.lemmas.Str.{IsUtf8-had}
use Rattle.lf_yaml.proofs.RowsAfter.{Behind, rows-of-line, behind-start}
use Rattle.lf_yaml.proofs.LinesOn.{line-rest, line-below}
use Rattle.lf_yaml.proofs.rows.line_of.Goals as goal
use Rattle.lf_yaml.proofs.rows.line_of.Goals.{then-end-rest, else-end-rest}

behind : (c : goal.After-before-2) → Behind c.args.source.bytes.now c.args.from c.past-rest.result.now c.line_end-end.result.feed c.if-end-rest.behind
behind c = elim c.if-end-rest.branch [
  | then-end-rest w ↦ inl (w.if-end-rest.true, w.behind-is)
  | else-end-rest w ↦ inr (w.if-end-rest.false, w.behind-is)
]

pub returns-clause-rows : goal.returns-clause-rows
returns-clause-rows c =
    rows-of-line c.args.source.bytes.now c.args.from c.line_end-end.result.text c.line_end-end.result.feed c.if-end-rest.behind c.past-rest.result.now c.before-2.result.now c.requires.within c.past-rest.ensures c.before-2.ensures (behind c)
    (c.line_end-end.ensures.first c.args.from (omega (arith, c.requires.within, ap length c.past-rest.ensures, length-drop c.args.from c.args.source.bytes.now)))

pub returns-clause-start : goal.returns-clause-start
returns-clause-start c = behind-start c.args.source.bytes.now c.args.from c.line_end-end.result.feed c.if-end-rest.behind c.past-rest.result.now (IsUtf8-had c.args.source.bytes.now c.args.source.utf8) c.past-rest.ensures (behind c) c.line_end-end.ensures.feed

pub returns-clause-rest : goal.returns-clause-rest
returns-clause-rest c =
    line-rest c.args.source.bytes.now c.args.from c.line_end-end.result.text c.line_end-end.result.feed c.before-2.result.now c.past-rest.result.now c.requires.within c.past-rest.ensures c.before-2.ensures
    (c.line_end-end.ensures.first c.args.from (omega (arith, c.requires.within, ap length c.past-rest.ensures, length-drop c.args.from c.args.source.bytes.now)))

pub returns-clause-below : goal.returns-clause-below
returns-clause-below c =
    line-below c.args.source.bytes.now c.args.from c.line_end-end.result.text c.line_end-end.result.feed c.if-end-rest.behind c.past-rest.result.now c.requires.within c.past-rest.ensures (behind c)
    (c.line_end-end.ensures.first c.args.from (omega (arith, c.requires.within, ap length c.past-rest.ensures, length-drop c.args.from c.args.source.bytes.now)))
