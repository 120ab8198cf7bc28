use Rattle.std.proofs.Common.{◌≡◌, ◌<◌, ◌++◌, ℕ, true, List, [], ◌∷◌, length, get_or, refl, sym, ◌∙◌, ap, subst, arith}
use Rattle.std.specs.Prelude.{slice_set}
use Rattle.std.specs.List.{Contains}
use Rattle.std.proofs.lemmas.List.{get_or_read}
use Rattle.lf_deps.specs.views.Links.{waited_by}
use Rattle.lf_deps.specs.declared.queue.Queue.{Queue}
use Rattle.lf_deps.proofs.Settling.{freed_on, listed_on, same_none}
use Rattle.lf_deps.proofs.queue.Queue.settle.Goals as goal

pub first_recorded-place-requires : goal.first_recorded-place-requires
first_recorded-place-requires c s there =
    let k : ℕ = c.args.rule in
    let source = c.as_slice-sources.ensures ∙ get_or_read c.args.links.now.waited k c.get.result.now c.requires.rule c.get.ensures.read [] in
    let P : List ℕ → Type 0 = λ l. Contains l s in
    let b = c.requires.whole.waited k s (subst P source there) in
    let size = ap length c.as_slice.ensures.value in
    omega (arith, b, size, c.requires.queue.sizes.counts)

pub returns-then-place-sources-clause-settled : goal.returns-then-place-sources-clause-settled
returns-then-place-sources-clause-settled c =
    let k : ℕ = c.args.rule in
    let q : Queue = c.args.self.now in
    let at : ℕ = c.first_recorded-place.result in
    let waited : List ℕ = waited_by c.args.links.now k in
    let source : c.as_slice-sources.result.now ≡ waited = c.as_slice-sources.ensures ∙ get_or_read c.args.links.now.waited k c.get.result.now c.requires.rule c.get.ensures.read [] in
    let seen = get_or_read q.seen.items k c.index-2.result.now (omega (arith, c.requires.rule, c.requires.queue.sizes.seen)) c.index-2.ensures 0 in
    let taken = get_or_read q.taken.items k c.index.result.now (omega (arith, c.requires.rule, c.requires.queue.sizes.taken)) c.index.ensures true in
    let none = same_none c.as_slice.result.now c.as_slice-sources.result.now q.counts.items waited c.index-2.result.now (get_or q.seen.items k 0) at c.as_slice.ensures.value source seen c.first_recorded-place.ensures.none in
    let later : Queue = record q { seen = c.put.new.numbers; listed = c.push.new.self } in
    let A : List ℕ → Type 0 = λ l. 0 < get_or l (get_or c.as_slice-sources.result.now at 0) 0 in
    let B : List ℕ → Type 0 = λ l. 0 < get_or q.counts.items (get_or l at 0) 0 in
    let C : List ℕ → Type 0 = λ l. c.push.new.self ≡ slice_set q.listed (get_or l at 0) (get_or q.listed (get_or l at 0) [] ++ k ∷ []) in
    let L : List ℕ → Type 0 = λ l. at < length l in
    let h : at < length c.as_slice-sources.result.now = c.if-place-sources.true in
    listed_on c.args.links.now c.requires.whole q k c.requires.queue c.requires.rule (sym taken ∙ c.if-index.false) at none later c.put.ensures
    (subst L source h)
    (subst B source (subst A c.as_slice.ensures.value (c.first_recorded-place.ensures.some h)))
    (subst C source c.in_ok-push.ensures.ok)
    refl

pub returns-clause-settled : goal.returns-clause-settled
returns-clause-settled c =
    let k : ℕ = c.args.rule in
    let q : Queue = c.args.self.now in
    let at : ℕ = c.first_recorded-place.result in
    let waited : List ℕ = waited_by c.args.links.now k in
    let source : c.as_slice-sources.result.now ≡ waited = c.as_slice-sources.ensures ∙ get_or_read c.args.links.now.waited k c.get.result.now c.requires.rule c.get.ensures.read [] in
    let seen = get_or_read q.seen.items k c.index-2.result.now (omega (arith, c.requires.rule, c.requires.queue.sizes.seen)) c.index-2.ensures 0 in
    let taken = get_or_read q.taken.items k c.index.result.now (omega (arith, c.requires.rule, c.requires.queue.sizes.taken)) c.index.ensures true in
    let none = same_none c.as_slice.result.now c.as_slice-sources.result.now q.counts.items waited c.index-2.result.now (get_or q.seen.items k 0) at c.as_slice.ensures.value source seen c.first_recorded-place.ensures.none in
    let later : Queue = record q { seen = c.put.new.numbers; free = c.add.new.self } in
    let size = ap length source in
    freed_on c.args.links.now c.requires.whole q k c.requires.queue c.requires.rule (sym taken ∙ c.if-index.false) at none later c.put.ensures
    (omega (arith, c.if-place-sources.false, size))
    c.in_ok-add.ensures.kept
    c.in_ok-add.ensures.added
    c.in_ok-add.ensures.only
    refl
