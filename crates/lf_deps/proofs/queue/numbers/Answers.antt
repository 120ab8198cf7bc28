use Rattle.std.proofs.Common.{◌++◌, [], ◌∷◌, List, ℕ, ◌∙◌, ap, sym}
use Rattle.lf_deps.proofs.Ascending.{range_more}
use Rattle.lf_deps.proofs.queue.numbers.Goals as goal

pub loop-k-preserved : goal.loop-k-preserved
loop-k-preserved c = c.in_ok-push.ensures.ok ∙ ap (λ (l : List ℕ). l ++ c.loop-k.k ∷ []) c.loop-k.invariant ∙ sym (range_more c.loop-k.k)
