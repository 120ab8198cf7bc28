use Rattle.std.proofs.Common.{◌≡◌, ◌-◌, ℕ, List, length, take, drop, ap, ◌∙◌, arith}
use Rattle.std.proofs.lemmas.List.{length-drop, take_all}
use Rattle.lf_weights.proofs.Sums.{take_min}
use Rattle.lf_weights.proofs.weighing.block_of.Goals as goal

pub returns : goal.returns
returns g c =
    let list : List g.row.T.Denot = c.args.list.now in
    let rest : List g.row.T.Denot = drop c.args.first list in
    let long = length-drop c.args.first list in
    let whole : take (length list - c.args.first) rest ≡ rest = take_all (length list - c.args.first) rest (omega (arith, long)) in
    ap (λ (n : ℕ). take n (take (length list - c.args.first) rest)) c.min.ensures ∙ take_min 64 (take (length list - c.args.first) rest) ∙ ap (take 64) whole
