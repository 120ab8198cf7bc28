use Rattle.std.proofs.Common.{eqb-true, sym, ◌∙◌, ◌<◌, length, arith}
use Rattle.std.proofs.lemmas.Bool.Decides.{nat_tests}
use Rattle.lf_scalar.proofs.FoldedRun.{empty-first, full-open, full-first}
use Rattle.lf_scalar.proofs.joined.push_folded_line.Goals as goal
use Rattle.lf_scalar.proofs.joined.push_folded_line.Goals.{in-Some-last+in_ok-push_between-in-Some-last, in-None-last}

pub returns-in_ok-push-in-None-clause-value : goal.returns-in_ok-push-in-None-clause-value
returns-in_ok-push-in-None-clause-value c = λ ls.
    rw c.in-None.is (empty-first c.args.builder.now c.push.new.self c.args.at c.args.feed c.args.text.now ls (eqb-true _ _ (sym c.is_empty.ensures ∙ c.if-is_empty.true)) c.in_ok-push-in-None.ensures.ok)

pub returns-clause-value : goal.returns-clause-value
returns-clause-value c = λ ls.
    let lt : 0 < length c.args.text.now = grind (arith, nat_tests) in
    elim c.match-last-2.branch [
      | in-Some-last+in_ok-push_between-in-Some-last w ↦ rw w.in-Some-last.is (full-open c.args.builder.now c.copy.new.self c.args.at c.args.feed c.args.text.now w.in-Some-last.last c.is_blank_byte-blank.result w.push_between.new.builder ls lt c.is_blank_byte-blank.ensures
          w.in_ok-push_between-in-Some-last.ensures (rw w.builder-is at c.in_ok-copy.ensures.ok))
      | in-None-last w ↦ rw w.in-None-last.is (full-first c.args.builder.now c.copy.new.self c.args.at c.args.feed c.args.text.now c.is_blank_byte-blank.result ls lt c.is_blank_byte-blank.ensures (rw w.builder-is at c.in_ok-copy.ensures.ok))
    ]
