use Rattle.std.proofs.Common.{ℕ, false, Bool, List, replicate, refl, sym, ◌∙◌, ap, subst}
use Rattle.std.specs.List.{range_with_len}
use Rattle.lf_deps.specs.views.Queue.{AreCounts}
use Rattle.lf_deps.specs.declared.queue.Queue.{Queue}
use Rattle.lf_deps.proofs.Taking.{start_counts, start_queue}
use Rattle.lf_deps.proofs.queue.Queue.of.Goals as goal

pub settle_due-requires-clause-queue : goal.settle_due-requires-clause-queue
settle_due-requires-clause-queue c =
    let q : Queue = record {
      counts = c.in_ok-count_all.field-0;
      listed = c.in_ok-empty.field-0;
      seen = c.in_ok-vec.field-0;
      due = c.in_ok-numbers.field-0;
      free = c.new.result;
      taken = c.in_ok-vec-2.field-0;
      least = 0;
    } in
    start_queue c.args.links.now q c.in_ok-count_all.ensures.count c.in_ok-empty.ensures
    (c.in_ok-vec.ensures.items_if_clones_equal (λ y e. e) ∙ ap (λ (n : ℕ). replicate n 0) c.len-rules.ensures)
    (c.in_ok-numbers.ensures ∙ ap (range_with_len 0) c.len-rules.ensures)
    c.new.ensures
    (c.in_ok-vec-2.ensures.items_if_clones_equal (λ y e. e) ∙ ap (λ (n : ℕ). replicate n false) c.len-rules.ensures)
    refl

pub returns : goal.returns
returns c =
    let links = c.args.links.now in
    let settled = c.in_ok-settle_due.ensures.settled in
    let taken = c.in_ok-vec-2.ensures.items_if_clones_equal (λ y e. e) ∙ ap (λ (n : ℕ). replicate n false) c.len-rules.ensures in
    let A : List Bool → Type 0 = λ t. AreCounts links t c.in_ok-count_all.field-0.items in
    let B : List ℕ → Type 0 = λ l. AreCounts links c.settle_due.new.self.taken.items l in
    record {
      ready = record {
        queue = settled.queue;
        none_due = c.in_ok-settle_due.ensures.none_due;
        counts = subst B (sym (ap (λ v. v.items) settled.counts)) (subst A (sym (ap (λ v. v.items) settled.taken)) (start_counts links c.in_ok-vec-2.field-0.items c.in_ok-count_all.field-0.items c.requires taken c.in_ok-count_all.ensures.counts));
      };
      taken = ap (λ v. v.items) settled.taken ∙ taken;
    }
