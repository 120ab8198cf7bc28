use Rattle.std.proofs.Common.{length, sym, ◌∙◌}
use Rattle.lf_scalar.proofs.LinesBehind.{some-bytes, no-bytes}
use Rattle.lf_scalar.proofs.FirstByte.{of-nothing, of-feed, of-return, of-other}
use Rattle.lf_scalar.proofs.begins.first_byte.Goals as goal
use Rattle.lf_scalar.proofs.begins.first_byte.Goals.{else-rest-eq13-via-then-rest-eq13+else-is_feed_at, else-rest-eq13-via-else-rest-eq13}

pub returns-then-is_empty : goal.returns-then-is_empty
returns-then-is_empty c = λ at end. of-nothing at end c.args.rest.now (no-bytes c.is_empty.result (length c.args.rest.now) c.is_empty.ensures c.if-is_empty.true)

pub returns-then-rest-eq10 : goal.returns-then-rest-eq10
returns-then-rest-eq10 c = λ at end. of-feed at end c.args.rest.now (some-bytes c.is_empty.result (length c.args.rest.now) c.is_empty.ensures c.if-is_empty.false) c.if-rest-eq10.true

pub returns-then-is_feed_at : goal.returns-then-is_feed_at
returns-then-is_feed_at c = λ at end.
    of-return at end c.args.rest.now (some-bytes c.is_empty.result (length c.args.rest.now) c.is_empty.ensures c.if-is_empty.false) c.if-rest-eq13.true (sym c.is_feed_at.ensures ∙ c.if-is_feed_at.true)

pub returns : goal.returns
returns c = λ at end.
    let pos = some-bytes c.is_empty.result (length c.args.rest.now) c.is_empty.ensures c.if-is_empty.false in
    elim c.else-rest-eq13.branch [
      | else-rest-eq13-via-then-rest-eq13+else-is_feed_at w ↦ of-other at end c.args.rest.now pos c.if-rest-eq10.false (λ e. sym w.is_feed_at.ensures ∙ w.if-is_feed_at.false)
      | else-rest-eq13-via-else-rest-eq13 w ↦ of-other at end c.args.rest.now pos c.if-rest-eq10.false (λ e. absurd (w.if-rest-eq13.false e))
    ]
