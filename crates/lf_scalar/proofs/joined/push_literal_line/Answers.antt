use Rattle.std.proofs.Common.{false, refl}
use Rattle.lf_scalar.proofs.JoinedRun.{literal-first, literal-next}
use Rattle.lf_scalar.proofs.joined.push_literal_line.Goals as goal
use Rattle.lf_scalar.proofs.joined.push_literal_line.Goals.{in-Some+in_ok-push-in-Some, in-None}

pub returns-clause-value : goal.returns-clause-value
returns-clause-value c = λ ls.
    elim c.match-last.branch [
      | in-Some+in_ok-push-in-Some w ↦ rw w.in-Some.is (literal-next c.args.builder.now c.copy.new.self c.args.at c.args.feed c.args.text.now (record { feed = c.args.feed; blank = false; empty = 0 }) refl w.in-Some.last _ ls w.in_ok-push-in-Some.ensures.ok (rw w.builder-is at c.in_ok-copy.ensures.ok))
      | in-None w ↦ rw w.in-None.is (literal-first c.args.builder.now c.copy.new.self c.args.at c.args.feed c.args.text.now (record { feed = c.args.feed; blank = false; empty = 0 }) refl ls (rw w.builder-is at c.in_ok-copy.ensures.ok))
    ]
