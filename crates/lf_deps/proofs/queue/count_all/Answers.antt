use Rattle.std.proofs.Common.{◌≡◌, ◌+◌, ◌<◌, [], List, ℕ, get_or, length, take, drop, sym, subst, ◌∙◌, ap, arith}
use Rattle.std.specs.List.{Contains}
use Rattle.std.proofs.lemmas.List.{get_or_read, take_at}
use Rattle.lf_deps.specs.views.Queue.{occurs, occurs_in}
use Rattle.lf_deps.proofs.Counting.{occurs_in_more}
use Rattle.lf_deps.proofs.queue.count_all.Goals as goal

pub count_up_all-requires : goal.count_up_all-requires
count_up_all-requires c s there =
    let recorded : List (List ℕ) = c.args.links.now.recorded in
    let h : c.loop-k.k < length recorded = omega (arith, c.loop-k-test.true, c.len-k-end.ensures) in
    let at = get_or_read recorded c.loop-k.k c.get.result.now h c.get.ensures.read [] in
    let P : List ℕ → Type 0 = λ l. Contains l s in
    let b = c.requires.recorded c.loop-k.k s (subst P (c.as_slice.ensures ∙ at) there) in
    omega (arith, b, c.loop-k.invariant.0, c.deref_mut.ensures.len, c.loop-k.counts.ok.0)

pub loop-k-preserved : goal.loop-k-preserved
loop-k-preserved c =
    let recorded : List (List ℕ) = c.args.links.now.recorded in
    let k : ℕ = c.loop-k.k in
    let counts : List ℕ = c.loop-k.counts.items in
    let after : List ℕ = c.count_up_all.new.counts in
    let h : k < length recorded = omega (arith, c.loop-k-test.true, c.len-k-end.ensures) in
    let at = get_or_read recorded k c.get.result.now h c.get.ensures.read [] in
    let size : length after ≡ c.loop-k.counts.len = c.count_up_all.auto.counts ∙ c.deref_mut.ensures.len in
    let P : List ℕ → Type 0 = λ l. (length l ≡ c.args.links.now.sources) × ((s : ℕ) → s < c.args.links.now.sources → get_or l s 0 ≡ occurs_in s (take (k + 1) recorded)) in
    subst P (sym (take_at after (drop (length after) counts) c.loop-k.counts.len size)) (
      omega (arith, size, c.loop-k.invariant.0, c.loop-k.counts.ok.0),
      λ s b.
          let up = c.in_ok-count_up_all.ensures s (omega (arith, b, c.loop-k.invariant.0, c.deref_mut.ensures.len, c.loop-k.counts.ok.0)) in
          let was = ap (λ (l : List ℕ). get_or l s 0) c.deref_mut.ensures.value in
          let here = ap (occurs s) (c.as_slice.ensures ∙ at) in
          let before = c.loop-k.invariant.1 s b in
          let more = occurs_in_more s recorded k h in
          omega (arith, up, was, here, before, more),
    )
