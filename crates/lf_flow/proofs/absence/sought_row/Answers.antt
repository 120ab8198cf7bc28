use Rattle.std.proofs.Common.{◌≡◌, ◌<◌, ◌≤◌, ◌&&◌, ℕ, Bool, [], Some, false, true, eqb, not, get_or, length, map, sym, ◌∙◌, ap, arith}
use Rattle.std.specs.List.{count_by}
use Rattle.lf_semantics.specs.ClassRows.{HasShape, Sets, kept}
use Rattle.lf_semantics.specs.RowTable.{absent_row, has_class}
use Rattle.lf_flow.specs.views.Absence.{is_on_label}
use Rattle.lf_flow.proofs.ClassSets.{row_length, set_length}
use Rattle.lf_flow.proofs.MadeRows.{made, shape_made}
use Rattle.lf_flow.proofs.SoughtSets.{certain_all, certain_below, certain_first, certain_same, certain_taken, sought_row}
use Rattle.lf_flow.proofs.absence.sought_row.Goals as goal
use Rattle.lf_flow.proofs.absence.sought_row.Goals.{then-has_one_text, else-has_one_text}

pub returns-then-may_be_bare : goal.returns-then-may_be_bare
returns-then-may_be_bare c =
    let u = c.args.universe.now in
    let ms = c.args.matchers.now in
    c.in_ok-counts.ensures.row ∙ sought_row u true ms ∙ ap (λ (b : Bool). absent_row u (Some (record { matchers = ms; may_be_bare = b }))) (sym c.if-may_be_bare.true)

pub loop-label-init : goal.loop-label-init
loop-label-init c = c.in_ok-counts.ensures.row ∙ certain_first c.args.universe.now c.args.matchers.now

pub has_one_text-requires-clause-count : goal.has_one_text-requires-clause-count
has_one_text-requires-clause-count c =
    omega (arith, ap length c.deref.ensures.value, c.in_ok-counts.ensures.counts.count, c.loop-label-test.true, c.labels-label-end.ensures.count)

pub has_one_text-requires-clause-label : goal.has_one_text-requires-clause-label
has_one_text-requires-clause-label c =
    let u = c.args.universe.now in
    let row = c.loop-label.row in
    let shape : HasShape u row = ap (λ r. map length r) c.loop-label.invariant ∙ shape_made u (certain_below u c.args.matchers.now c.loop-label.label) in
    omega (arith, row_length u row shape, c.loop-label-test.true, c.labels-label-end.ensures.count)

pub keep-requires-clause-label : goal.keep-requires-clause-label
keep-requires-clause-label c =
    let u = c.args.universe.now in
    let row = c.loop-label.row in
    let shape : HasShape u row = ap (λ r. map length r) c.loop-label.invariant ∙ shape_made u (certain_below u c.args.matchers.now c.loop-label.label) in
    omega (arith, row_length u row shape, c.loop-label-test.true, c.labels-label-end.ensures.count)

pub keep-requires-clause-class : goal.keep-requires-clause-class
keep-requires-clause-class c =
    let u = c.args.universe.now in
    let row = c.loop-label.row in
    let shape : HasShape u row = ap (λ r. map length r) c.loop-label.invariant ∙ shape_made u (certain_below u c.args.matchers.now c.loop-label.label) in
    omega (arith, set_length u row shape c.loop-label.label (omega (arith, c.loop-label-test.true, c.labels-label-end.ensures.count)))

pub loop-label-preserved : goal.loop-label-preserved
loop-label-preserved c =
    let u = c.args.universe.now in
    let ms = c.args.matchers.now in
    let k = c.loop-label.label in
    let row = c.loop-label.row in
    let found = c.has_one_text.result in
    let h : k < length u.named = omega (arith, c.loop-label-test.true, c.labels-label-end.ensures.count) in
    let text : ℕ → Sets → Bool = λ count xs. eqb count 1 && has_class u (λ class. not (eqb class 0)) (get_or xs k []) in
    let told : found ≡ text (count_by (is_on_label u k) ms) (made u (certain_below u ms k)) =
    c.has_one_text.ensures u
    ∙ ap (λ n. text n row) (ap (λ xs. get_or xs k 0) c.deref.ensures.value ∙ c.in_ok-counts.ensures.counts.at k h)
    ∙ ap (text (count_by (is_on_label u k) ms)) c.loop-label.invariant in
    elim c.if-has_one_text.branch [
      | then-has_one_text w ↦ w.row-is ∙ w.keep.ensures ∙ ap (kept k 0 false) c.loop-label.invariant ∙ certain_taken u ms k h found w.if-has_one_text.true told
      | else-has_one_text w ↦ w.row-is ∙ c.loop-label.invariant ∙ certain_same u ms k h found w.if-has_one_text.false told
    ]

pub returns : goal.returns
returns c =
    let u = c.args.universe.now in
    let ms = c.args.matchers.now in
    let end : length u.named ≤ c.loop-label.label = omega (arith, c.loop-label-test.false, c.labels-label-end.ensures.count) in
    c.loop-label.invariant ∙ certain_all u ms c.loop-label.label end ∙ sought_row u false ms
    ∙ ap (λ (b : Bool). absent_row u (Some (record { matchers = ms; may_be_bare = b }))) (sym c.if-may_be_bare.false)
