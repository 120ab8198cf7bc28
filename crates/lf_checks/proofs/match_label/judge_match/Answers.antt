use Rattle.std.proofs.Common.{sym, ◌∙◌, true≢false}
use Rattle.std.proofs.lemmas.Result.{on_ok_weaker}
use Rattle.lf_checks.proofs.Added.{adds_as, adds_none}
use Rattle.lf_checks.proofs.match_label.judge_match.Goals as goal

pub returns-then-not-vectors : goal.returns-then-not-vectors
returns-then-not-vectors c = adds_none _ c.args.found.now.items (λ f h. true≢false (sym h.0 ∙ c.if-not-vectors.true))

pub returns : goal.returns
returns c =
    on_ok_weaker c.judge_sides.result
    (λ a. adds_as _ _ c.args.found.now.items c.judge_sides.new.found.items a (λ f h. (c.if-not-vectors.false, h)) (λ f h. h.1))
    c.judge_sides.ensures
