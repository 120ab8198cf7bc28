use Rattle.std.proofs.Common.{ℕ, List, ap, ◌∙◌}
use Rattle.std.proofs.lemmas.List.{take_all}
use Rattle.lf_open.specs.views.Told.{put_all}
use Rattle.lf_open.proofs.NumberSets.{put_next}
use Rattle.lf_open.proofs.number_set.put_all.Goals as goal

pub loop-number-preserved : goal.loop-number-preserved
loop-number-preserved c =
    put_next c.args.few.now c.args.many.now.keys c.loop-number.number-index 0 c.loop-number.many.keys c.insert.new.self.keys c.loop-number-test.true c.loop-number.invariant c.in_ok-insert.ensures.keys

pub returns : goal.returns
returns c = c.loop-number.invariant ∙ ap (λ (l : List ℕ). put_all l c.args.many.now.keys) (take_all c.loop-number.number-index c.args.few.now c.loop-number-test.false)
