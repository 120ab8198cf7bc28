use Rattle.std.proofs.Common.{◌≡◌, ◌+◌, ◌<◌, [], ◌∷◌, List, ℕ, get_or, length, take, inl, inr, sym, subst, arith, rules}
use Rattle.std.specs.Prelude.{slice_set}
use Rattle.std.proofs.lemmas.Bool.{cases_eq}
use Rattle.std.proofs.lemmas.List.{get_or-set_other, get_or-set_same}
use Rattle.std.proofs.lemmas.List.Elements.{Contains-get_or}
use Rattle.lf_deps.specs.views.Queue.{occurs}
use Rattle.lf_deps.proofs.Counting.{never, occurs_more, once}
use Rattle.lf_deps.proofs.queue.count_up_all.Goals as goal

up_more : (first counts xs : List ℕ) (i more : ℕ) → i < length xs → get_or xs i 0 < length counts → more ≡ get_or counts (get_or xs i 0) 0 + 1 → ((s : ℕ) → s < length first → get_or counts s 0 ≡ get_or first s 0 + occurs s (take i xs)) → (s : ℕ) → s < length first → get_or (slice_set counts (get_or xs i 0) more) s 0 ≡ get_or first s 0 + occurs s (take (i + 1) xs)
up_more first counts xs i more h within m before s b =
    let x : ℕ = get_or xs i 0 in
    let was = before s b in
    let on = occurs_more s xs i h in
    elim (cases_eq s x) [
      | inl e ↦
          let at = get_or-set_same counts x more 0 within in
          let P : ℕ → Type 0 = λ y. get_or (slice_set counts x more) y 0 ≡ get_or counts y 0 + occurs y (x ∷ []) in
          let o = once x in
          let it : P x = omega (arith, at, m, o) in
          let there = subst P (sym e) it in
          omega (arith, there, was, on)
      | inr n ↦ let at = get_or-set_other counts x s more 0 n in let o = never s x n in omega (arith, at, o, was, on)
    ]

pub bounds-counts-source : goal.bounds-counts-source
bounds-counts-source c =
    let b = c.requires (get_or c.args.sources.now c.loop-source.source-index 0) (Contains-get_or c.args.sources.now c.loop-source.source-index 0 c.loop-source-test.true) in
    omega (arith, b, c.loop-source.auto.counts)

pub offset_bounds-counts-source : goal.offset_bounds-counts-source
offset_bounds-counts-source c =
    let b : get_or c.args.sources.now c.loop-source.source-index 0 < length c.args.counts.now = c.requires (get_or c.args.sources.now c.loop-source.source-index 0) (Contains-get_or c.args.sources.now c.loop-source.source-index 0 c.loop-source-test.true) in
    search rules

pub bounds-counts-source-in-loop-source : goal.bounds-counts-source-in-loop-source
bounds-counts-source-in-loop-source c =
    let b = c.requires (get_or c.args.sources.now c.loop-source.source-index 0) (Contains-get_or c.args.sources.now c.loop-source.source-index 0 c.loop-source-test.true) in
    omega (arith, b, c.loop-source.auto.counts)

pub offset_bounds-counts-source-in-loop-source : goal.offset_bounds-counts-source-in-loop-source
offset_bounds-counts-source-in-loop-source c =
    let b : get_or c.args.sources.now c.loop-source.source-index 0 < length c.args.counts.now = c.requires (get_or c.args.sources.now c.loop-source.source-index 0) (Contains-get_or c.args.sources.now c.loop-source.source-index 0 c.loop-source-test.true) in
    search rules

pub loop-source-preserved : goal.loop-source-preserved
loop-source-preserved c =
    let b = c.requires (get_or c.args.sources.now c.loop-source.source-index 0) (Contains-get_or c.args.sources.now c.loop-source.source-index 0 c.loop-source-test.true) in
    up_more c.args.counts.now c.loop-source.counts c.args.sources.now c.loop-source.source-index c.in_ok-counts.field-0 c.loop-source-test.true (omega (arith, b, c.loop-source.auto.counts)) c.in_ok-counts.ensures c.loop-source.invariant
