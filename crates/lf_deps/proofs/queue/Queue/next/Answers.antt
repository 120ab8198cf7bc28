use Rattle.std.proofs.Common.{◌≡◌, ℕ, true, Bool, List, [], length, get_or, sym, ◌∙◌, ap, subst, arith}
use Rattle.std.specs.Prelude.{slice_set}
use Rattle.std.specs.List.{Contains}
use Rattle.std.specs.Vec.{with_items}
use Rattle.std.proofs.lemmas.List.{with_items_is}
use Rattle.lf_deps.specs.views.Links.{recorded_by}
use Rattle.lf_deps.specs.views.Queue.{AreCounts, CountsDown, IsQueue, occurs}
use Rattle.lf_deps.specs.declared.queue.Queue.{Queue}
use Rattle.lf_deps.proofs.Taking.{chosen_next, enough, left_within, read_at, same_down, taken_counts, taken_queue}
use Rattle.lf_deps.proofs.queue.Queue.next.Goals as goal
use Rattle.lf_deps.proofs.queue.Queue.next.Goals.{In_ok-count_down_all}

pub count_down_all-requires-clause-within : goal.count_down_all-requires-clause-within
count_down_all-requires-clause-within c s there =
    let within = left_within c.args.self.now.taken.items c.choose-rule.result c.choose-rule.ensures.left in
    let recorded =
    read_at c.args.links.now.recorded c.choose-rule.result c.get.result.now c.as_slice.result.now (omega (arith, within, c.requires.ready.queue.sizes.taken, c.requires.whole.rules)) c.get.ensures.read c.as_slice.ensures in
    let P : List ℕ → Type 0 = λ l. Contains l s in
    let b = c.requires.whole.recorded c.choose-rule.result s (subst P recorded there) in
    let size = ap length (c.deref_mut.ensures.value ∙ ap (λ (z : Queue). z.counts.items) c.choose-rule.ensures.same) in
    omega (arith, b, size, c.requires.ready.queue.sizes.counts)

pub count_down_all-requires-clause-enough : goal.count_down_all-requires-clause-enough
count_down_all-requires-clause-enough c s =
    let within = left_within c.args.self.now.taken.items c.choose-rule.result c.choose-rule.ensures.left in
    let recorded =
    read_at c.args.links.now.recorded c.choose-rule.result c.get.result.now c.as_slice.result.now (omega (arith, within, c.requires.ready.queue.sizes.taken, c.requires.whole.rules)) c.get.ensures.read c.as_slice.ensures in
    let e = enough c.args.links.now c.requires.whole c.args.self.now c.requires.ready c.choose-rule.result c.choose-rule.ensures.left s in
    let f = ap (occurs s) recorded in
    let g = ap (λ (l : List ℕ). get_or l s 0) (c.deref_mut.ensures.value ∙ ap (λ (z : Queue). z.counts.items) c.choose-rule.ensures.same) in
    omega (arith, e, f, g)

module _ (c : In_ok-count_down_all) where
  abbrev later : Queue
  later = record c.choose-rule.new.self { counts = with_items c.choose-rule.new.self.counts c.count_down_all.new.counts; due = c.count_down_all.new.due; taken = c.mark.new.marks }

  recorded : c.as_slice.result.now ≡ recorded_by c.args.links.now c.choose-rule.result
  recorded =
      let within = left_within c.args.self.now.taken.items c.choose-rule.result c.choose-rule.ensures.left in
      read_at c.args.links.now.recorded c.choose-rule.result c.get.result.now c.as_slice.result.now (omega (arith, within, c.requires.ready.queue.sizes.taken, c.requires.whole.rules)) c.get.ensures.read c.as_slice.ensures

  counted : c.deref_mut.result.now ≡ c.args.self.now.counts.items
  counted = c.deref_mut.ensures.value ∙ ap (λ (z : Queue). z.counts.items) c.choose-rule.ensures.same

  size : length c.count_down_all.new.counts ≡ c.choose-rule.new.self.counts.len
  size = c.count_down_all.auto.counts ∙ c.deref_mut.ensures.len

  items : later.counts.items ≡ c.count_down_all.new.counts
  items = with_items_is c.choose-rule.new.self.counts c.count_down_all.new.counts size

  marked : later.taken.items ≡ slice_set c.args.self.now.taken.items c.choose-rule.result true
  marked = c.mark.ensures ∙ ap (λ (z : Queue). slice_set z.taken.items c.choose-rule.result true) c.choose-rule.ensures.same

  down : CountsDown c.args.self.now.listed (recorded_by c.args.links.now c.choose-rule.result) c.args.self.now.counts.items later.counts.items c.args.self.now.due later.due
  down =
      same_down c.choose-rule.new.self.listed c.args.self.now.listed c.as_slice.result.now (recorded_by c.args.links.now c.choose-rule.result) c.deref_mut.result.now c.args.self.now.counts.items c.count_down_all.new.counts
      later.counts.items c.choose-rule.new.self.due c.args.self.now.due c.count_down_all.new.due
      (ap (λ (z : Queue). z.listed) c.choose-rule.ensures.same)
      recorded
      counted
      (sym items)
      (ap (λ (z : Queue). z.due) c.choose-rule.ensures.same)
      c.in_ok-count_down_all.ensures

  same : later ≡ record c.args.self.now { counts = later.counts; due = later.due; free = later.free; taken = later.taken; least = later.least }
  same = ap (λ (z : Queue). record z { counts = later.counts; due = later.due; taken = later.taken }) c.choose-rule.ensures.same

  kept_size : length later.counts.items ≡ length c.args.self.now.counts.items
  kept_size = ap length items ∙ c.count_down_all.auto.counts ∙ ap length counted

  queue : IsQueue c.args.links.now later []
  queue =
      taken_queue c.args.links.now c.requires.whole c.args.self.now c.requires.ready c.choose-rule.result c.choose-rule.ensures.left later c.choose-rule.ensures.chosen c.choose-rule.ensures.low marked down kept_size same

  counts : AreCounts c.args.links.now later.taken.items later.counts.items
  counts =
      taken_counts c.args.links.now c.requires.whole c.args.self.now c.requires.ready c.choose-rule.result c.choose-rule.ensures.left later c.choose-rule.ensures.chosen c.choose-rule.ensures.low marked down kept_size same

pub settle_due-requires-clause-queue : goal.settle_due-requires-clause-queue
settle_due-requires-clause-queue c = queue (goal.at.settle_due-requires-clause-queue c).In_ok-count_down_all

pub returns : goal.returns
returns c =
    let at = (goal.at.returns c).In_ok-count_down_all in
    let settled = c.in_ok-settle_due.ensures.settled in
    let A : List Bool → Type 0 = λ t. AreCounts c.args.links.now t (later at).counts.items in
    let B : List ℕ → Type 0 = λ l. AreCounts c.args.links.now c.settle_due.new.self.taken.items l in
    record {
      ready = record {
        queue = settled.queue;
        none_due = c.in_ok-settle_due.ensures.none_due;
        counts = subst B (sym (ap (λ v. v.items) settled.counts)) (subst A (sym (ap (λ v. v.items) settled.taken)) (counts at));
      };
      next = chosen_next c.args.links.now c.requires.whole c.args.self.now c.requires.ready c.choose-rule.result c.choose-rule.ensures.left (later at) c.choose-rule.ensures.chosen;
      taken = ap (λ v. v.items) settled.taken ∙ marked at;
    }
