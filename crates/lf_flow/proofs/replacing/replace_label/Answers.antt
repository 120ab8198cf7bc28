use Rattle.std.proofs.Common.{◌+◌, ◌&&◌, ◌||◌, ℕ, Bool, length, sym, ◌∙◌, ap}
use Rattle.lf_ast.specs.Labels.{Bytes}
use Rattle.lf_semantics.specs.ClassRows.{holds, replaced}
use Rattle.lf_semantics.specs.Listing.{label_of, named_at}
use Rattle.lf_ast.specs.Arguments.{text_at, texts_of}
use Rattle.lf_ast.specs.Tree.{trees}
use Rattle.lf_semantics.specs.RowTable.{has_class, is_expansion, is_label, may_fail, may_match, source_set}
use Rattle.lf_flow.proofs.ClassSets.{set_length, set_named}
use Rattle.lf_flow.proofs.replacing.replace_label.Goals as goal

pub set_classes-requires-clause-classes : goal.set_classes-requires-clause-classes
set_classes-requires-clause-classes c =
    ap length c.deref.ensures.value ∙ c.in_ok-on.ensures.count
    ∙ sym (set_length c.args.universe.now c.args.row.now c.requires.shape c.label_of-label.result c.label_of-label.ensures.within)

pub returns : goal.returns
returns c =
    let u = c.args.universe.now in
    let row = c.args.row.now in
    let texts = texts_of (trees c.args.args.now) in
    let target = text_at texts 1 in
    let test : Bool → Bool → Bytes → ℕ → ℕ → Bool = λ m f r label class. (m && is_expansion u r label class) || (f && holds row label class) in
    let matching : Bytes → Bytes → Bool = λ p s. has_class u (may_match u p (label_of u s)) (source_set u row s) in
    let failing : Bytes → Bytes → Bool = λ p s. has_class u (may_fail u p (label_of u s)) (source_set u row s) in
    let pattern = c.in_ok-pattern.ensures ∙ c.text_at.ensures in
    let m = c.in_ok-outcomes.ensures.matches ∙ ap (λ p. matching p c.text_at-2.result.now) pattern ∙ ap (matching (text_at texts 4)) c.text_at-2.ensures in
    let f = c.in_ok-outcomes.ensures.fails ∙ ap (λ p. failing p c.text_at-2.result.now) pattern ∙ ap (failing (text_at texts 4)) c.text_at-2.ensures in
    let o = c.in_ok-outcomes.outcomes in
    let size = set_length u row c.requires.shape c.label_of-label.result c.label_of-label.ensures.within in
    let label = c.label_of-label.ensures.number ∙ ap (label_of u) c.text_at-3.ensures in
    c.set_classes.ensures
    ∙ set_named u target c.label_of-label.result c.deref.result.now c.in_ok-on.on.items (length (named_at u c.label_of-label.result) + 2) (test o.may_match o.may_fail c.text_at-4.result.now) row
    label c.deref.ensures.value c.in_ok-on.ensures size
    ∙ ap (λ b. replaced (is_label u target) (test b o.may_fail c.text_at-4.result.now) row) m
    ∙ ap (λ b. replaced (is_label u target) (test (matching (text_at texts 4) (text_at texts 3)) b c.text_at-4.result.now) row) f
    ∙ ap (λ r. replaced (is_label u target) (test (matching (text_at texts 4) (text_at texts 3)) (failing (text_at texts 4) (text_at texts 3)) r) row) c.text_at-4.ensures
