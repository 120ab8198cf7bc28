use Rattle.std.proofs.Common.{◌≡◌, ◌≢◌, ℕ, ◌+◌, ◌<◌, List, true, get_or, length, map, take, sym, ◌∙◌, ap, subst, arith}
use Rattle.std.proofs.Math.ListN.{set}
use Rattle.std.specs.Prelude.{replicate}
use Rattle.std.proofs.lemmas.List.{get_or_read, length-take-le, take_all}
use Rattle.std.proofs.lemmas.List.Sums.{count_by-le-length}
use Rattle.lf_ast.specs.declared.expr.Matcher.{Matcher}
use Rattle.lf_semantics.specs.ClassRows.{HasShape, kept}
use Rattle.lf_semantics.specs.Listing.{class_of, label_of}
use Rattle.lf_ast.specs.Selectors.{metric}
use Rattle.lf_flow.specs.views.Absence.{AreCounts, is_class_sought, is_on_label}
use Rattle.lf_flow.proofs.ClassSets.{row_length, set_length}
use Rattle.lf_flow.proofs.MadeRows.{made, made_kept, made_same, shape_made}
use Rattle.lf_flow.proofs.SoughtSets.{counts_more, counts_none, counts_passed, some_sought, sought_more, sought_none, sought_passed}
use Rattle.lf_flow.proofs.absence.put_texts.Goals as goal

pub loop-matcher-init : goal.loop-matcher-init
loop-matcher-init c = record {
  row = c.requires.bare ∙ sought_none c.args.universe.now;
  counts = counts_none c.args.universe.now c.in_ok-counts.counts.items (c.in_ok-counts.ensures.items_if_clones_equal (λ y e. e) ∙ ap (λ k. replicate k 0) c.labels.ensures.count);
}

pub loop-matcher-preserved-then-label-metric : goal.loop-matcher-preserved-then-label-metric
loop-matcher-preserved-then-label-metric c =
    let u = c.args.universe.now in
    let ms = c.args.matchers.now in
    let k = c.loop-matcher.matcher-index in
    let m = c.matcher-item.result in
    let label = c.label_of-label.result in
    let of : label ≡ label_of u m.label = c.label_of-label.ensures.number ∙ ap (label_of u) c.as_str.ensures in
    let here : label ≡ label_of u metric = c.if-label-metric.true ∙ c.label_of-metric.ensures.number in
    record {
      row = c.loop-matcher.invariant.row
          ∙ made_same u (λ l. is_class_sought u l true (take k ms)) (λ l. is_class_sought u l true (take (k + 1) ms))
          (λ l class h. sought_passed u label m of ms k c.loop-matcher-test.true c.matcher-item.is here l class);
      counts = counts_passed u label m of ms k c.loop-matcher-test.true c.matcher-item.is c.loop-matcher.counts.items here c.loop-matcher.invariant.counts;
    }

pub keep-requires-clause-label : goal.keep-requires-clause-label
keep-requires-clause-label c =
    let u = c.args.universe.now in
    let row = c.loop-matcher.row in
    let shape : HasShape u row = ap (λ r. map length r) c.loop-matcher.invariant.row ∙ shape_made u (λ l. is_class_sought u l true (take c.loop-matcher.matcher-index c.args.matchers.now)) in
    omega (arith, row_length u row shape, c.label_of-label.ensures.within)

pub keep-requires-clause-class : goal.keep-requires-clause-class
keep-requires-clause-class c =
    let u = c.args.universe.now in
    let row = c.loop-matcher.row in
    let shape : HasShape u row = ap (λ r. map length r) c.loop-matcher.invariant.row ∙ shape_made u (λ l. is_class_sought u l true (take c.loop-matcher.matcher-index c.args.matchers.now)) in
    omega (arith, set_length u row shape c.label_of-label.result c.label_of-label.ensures.within, c.class_of.ensures.within)

pub overflow_add-index_mut : goal.overflow_add-index_mut
overflow_add-index_mut c =
    let u = c.args.universe.now in
    let ms = c.args.matchers.now in
    let k = c.loop-matcher.matcher-index in
    let label = c.label_of-label.result in
    let counts = c.loop-matcher.counts.items in
    let within : label < length counts = omega (arith, c.label_of-label.ensures.within, c.loop-matcher.invariant.counts.count) in
    let value : c.index_mut.result.now ≡ get_or counts label 0 = get_or_read counts label c.index_mut.result.now within c.index_mut.ensures.value 0 in
    omega (
      arith,
      value,
      c.loop-matcher.invariant.counts.at label c.label_of-label.ensures.within,
      count_by-le-length (is_on_label u label) (take k ms),
      length-take-le k ms (omega (arith, c.loop-matcher-test.true)),
      c.loop-matcher-test.true,
    )

pub loop-matcher-preserved : goal.loop-matcher-preserved
loop-matcher-preserved c =
    let u = c.args.universe.now in
    let ms = c.args.matchers.now in
    let k = c.loop-matcher.matcher-index in
    let m = c.matcher-item.result in
    let label = c.label_of-label.result in
    let class = c.class_of.result in
    let of : label ≡ label_of u m.label = c.label_of-label.ensures.number ∙ ap (label_of u) c.as_str.ensures in
    let other : label ≢ label_of u metric = λ e. c.if-label-metric.false (e ∙ sym c.label_of-metric.ensures.number) in
    let counts = c.loop-matcher.counts.items in
    let within : label < length counts = omega (arith, c.label_of-label.ensures.within, c.loop-matcher.invariant.counts.count) in
    let value : c.index_mut.result.now ≡ get_or counts label 0 = get_or_read counts label c.index_mut.result.now within c.index_mut.ensures.value 0 in
    let P : ℕ → Type 0 = λ n. AreCounts u (take (k + 1) ms) (set counts label (n + 1)) in
    let is = c.class_of.ensures.number ∙ ap (class_of u label) c.sought_text.ensures in
    record {
      row = c.keep.ensures ∙ ap (kept label class true) c.loop-matcher.invariant.row
          ∙ made_kept u (λ l. is_class_sought u l true (take k ms)) (λ l h. some_sought u l true (take k ms)) (λ l. is_class_sought u l true (take (k + 1) ms)) label class true
          (λ l j h. sought_more u label m of ms k c.loop-matcher-test.true c.matcher-item.is class other is l j);
      counts = subst P (sym value) (counts_more u label m of ms k c.loop-matcher-test.true c.matcher-item.is counts other c.label_of-label.ensures.within c.loop-matcher.invariant.counts);
    }

pub returns-clause-row : goal.returns-clause-row
returns-clause-row c =
    let u = c.args.universe.now in
    c.loop-matcher.invariant.row
    ∙ ap (λ (xs : List Matcher). made u (λ label. is_class_sought u label true xs)) (take_all c.loop-matcher.matcher-index c.args.matchers.now c.loop-matcher-test.false)

pub returns-clause-counts : goal.returns-clause-counts
returns-clause-counts c =
    let P : List Matcher → Type 0 = λ xs. AreCounts c.args.universe.now xs c.loop-matcher.counts.items in
    subst P (take_all c.loop-matcher.matcher-index c.args.matchers.now c.loop-matcher-test.false) c.loop-matcher.invariant.counts
