use Rattle.std.proofs.Common.{◌≡◌, ◌<◌, ℕ, List, length, get_or, sym, subst, rules}
use Rattle.std.proofs.lemmas.Map.Keys.{below_from_sorted}
use Rattle.lf_deps.proofs.numbers.in_order.Goals as goal

pub returns-clause-ascending : goal.returns-clause-ascending
returns-clause-ascending c =
    let P : List ℕ → Type 0 = λ found. (k l : ℕ) → k < l → l < length found → get_or found k 0 < get_or found l 0 in
    let same : c.from_vec.result ≡ c.args.numbers.keys = search rules in
    subst P (sym same) (λ k l h b. below_from_sorted c.args.numbers.keys k l 0 c.into_iter.ensures.into_iter_gives.4 h b)
