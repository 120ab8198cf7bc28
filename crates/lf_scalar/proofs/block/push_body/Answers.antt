use Rattle.std.proofs.Common.{◌≡◌, Bool, Some, None, length, ◌+◌, subst}
use Rattle.lf_base.specs.Answers.{IfAt}
use Rattle.lf_scalar.specs.Lines.{lines_at}
use Rattle.lf_scalar.specs.Block.{body_of, body_fault}
use Rattle.lf_scalar.specs.reading.Block.{block_text}
use Rattle.lf_scalar.specs.reading.Body.{joins_of}
use Rattle.lf_scalar.proofs.BlockRun.{body-sound, body-broken, none-asked}
use Rattle.lf_scalar.proofs.block.push_body.Goals as goal

pub returns-in-Ok-push_found : goal.returns-in-Ok-push_found
returns-in-Ok-push_found c = (
  block_text (joins_of c.args.joining) (c.args.at + length c.args.body.now) c.args.header.chomp (body_of c.content_indent-indent.result (lines_at c.args.at c.args.body.now)),
  body-sound (joins_of c.args.joining) c.args.above (c.args.at + length c.args.body.now) c.args.header.chomp c.args.header.digit (lines_at c.args.at c.args.body.now) c.content_indent-indent.result (c.content_indent-indent.ensures c.args.at)
      (subst (λ (leads : Bool). body_fault leads c.args.above c.content_indent-indent.result (lines_at c.args.at c.args.body.now) ≡ None) (none-asked c.args.header.digit c.is_none.result c.is_none.ensures) c.in-Ok.ensures.1),
  c.in-Ok-push_found.ensures,
)

pub returns-in-Err : goal.returns-in-Err
returns-in-Err c =
    body-broken (joins_of c.args.joining) c.args.above (c.args.at + length c.args.body.now) c.args.header.chomp c.args.header.digit (lines_at c.args.at c.args.body.now) c.content_indent-indent.result (c.content_indent-indent.ensures c.args.at)
    c.in-Err.refusal (subst (λ (leads : Bool). IfAt c.in-Err.refusal (λ f. body_fault leads c.args.above c.content_indent-indent.result (lines_at c.args.at c.args.body.now) ≡ Some f)) (none-asked c.args.header.digit c.is_none.result c.is_none.ensures) c.in-Err.ensures)
