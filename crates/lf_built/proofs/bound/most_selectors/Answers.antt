use Rattle.std.proofs.Common.{◌≡◌, ◌<◌, ◌+◌, ◌*◌, ℕ, suc, cond, eqb, List, [], ◌∷◌, ◌++◌, length, take, get_or, sym, ◌∙◌, ap, arith}
use Rattle.std.proofs.Math.Seq.{take-suc}
use Rattle.std.proofs.lemmas.List.{take_all}
use Rattle.std.proofs.lemmas.Result.{IfOk-weaker}
use Rattle.lf_trials.specs.Built.{selector_count}
use Rattle.lf_trials.specs.Reached.{with_reach}
use Rattle.lf_built.specs.views.Counts.{others, selected}
use Rattle.lf_built.proofs.Bounds.{count_is, others_more}
use Rattle.lf_built.proofs.bound.most_selectors.Goals as goal

pub loop-k-preserved : goal.loop-k-preserved
loop-k-preserved c rules is =
    let i : ℕ = c.args.i in
    let reach : List ℕ = c.args.reach.now in
    let items : List ℕ = c.as_slice-k-items.result.now in
    let idx : ℕ = c.loop-k.k-index in
    let k : ℕ = get_or items idx 0 in
    let size : length items ≡ length reach = ap length c.as_slice-k-items.ensures in
    let less : idx < length reach = omega (arith, size, c.loop-k-test.true) in
    let next : idx + 1 ≡ suc idx = omega arith in
    let same : take (idx + 1) reach ≡ take idx reach ++ k ∷ [] =
    ap (λ n. take n reach) next ∙ take-suc reach idx 0 less ∙ ap (λ (l : List ℕ). take idx reach ++ get_or l idx 0 ∷ []) (sym c.as_slice-k-items.ensures) in
    let one : c.unless_same.result ≡ cond (eqb i k) 0 (selected rules k) = c.unless_same.ensures ∙ ap (λ n. cond (eqb i k) 0 n) (c.selected.ensures rules is) in
    let had : c.loop-k.count ≡ selected rules i + others rules i (take idx reach) = c.loop-k.invariant rules is in
    let more : others rules i (take (idx + 1) reach) ≡ others rules i (take idx reach) + cond (eqb i k) 0 (selected rules k) = ap (others rules i) same ∙ others_more rules i (take idx reach) k in
    omega (arith, c.in_ok-count.ensures, one, had, more)

pub returns : goal.returns
returns c rules is =
    let i : ℕ = c.args.i in
    let reach : List ℕ = c.args.reach.now in
    let size : length c.as_slice-k-items.result.now ≡ length reach = ap length c.as_slice-k-items.ensures in
    let all : take c.loop-k.k-index reach ≡ reach = take_all c.loop-k.k-index reach (omega (arith, size, c.loop-k-test.false)) in
    let count : c.loop-k.count ≡ selector_count rules (with_reach i reach) = c.loop-k.invariant rules is ∙ ap (λ (l : List ℕ). selected rules i + others rules i l) all ∙ sym (count_is rules i reach) in
    IfOk-weaker c.four_times.result (λ t. t ≡ 4 * c.loop-k.count) (λ t. t ≡ 4 * selector_count rules (with_reach i reach)) (λ t e. e ∙ ap (λ n. 4 * n) count) c.four_times.ensures
