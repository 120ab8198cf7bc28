use Rattle.std.proofs.Common.{◌∷◌, ◌++◌, [], ℕ, List, ap, sym, ◌∙◌, append_assoc}
use Rattle.std.specs.List.{range_with_len}
use Rattle.lf_deps.proofs.Ascending.{range_more}
use Rattle.lf_flow.proofs.reading.add_below.Goals as goal

pub loop-k-preserved : goal.loop-k-preserved
loop-k-preserved c =
    let k : ℕ = c.loop-k.k in
    let old : List ℕ = c.args.numbers.now in
    c.in_ok-push.ensures.ok ∙ (λ i. c.loop-k.invariant i ++ c.in_ok-number.ensures i ∷ []) ∙ append_assoc old (range_with_len 0 k) (k ∷ []) ∙ ap (λ (l : List ℕ). old ++ l) (sym (range_more k))
