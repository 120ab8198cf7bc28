use Rattle.std.proofs.Common.{◌<◌, ◌≡◌, List, length, Some, sym, ◌∙◌, ap, subst}
use Rattle.std.specs.Prelude.{slice_get}
use Rattle.std.specs.FinMap.{entries, len-entries}
use Rattle.std.proofs.lemmas.Option.{get_or_from_slice_get, slice_get_within}
use Rattle.lf_ast.specs.Labels.{Bytes}
use Rattle.lf_ast.proofs.LabelSets.{text_at_place}
use Rattle.lf_ast.proofs.label_set.LabelSet.pair.Goals as goal

pub both_of-requires : goal.both_of-requires
both_of-requires c = subst (λ n. c.args.k < n) (len-entries c.args.self.now ∙ ap length (sym c.entries.ensures.value)) c.requires

pub returns-clause-value : goal.returns-clause-value
returns-clause-value c = ap (λ (l : List (Bytes × Bytes)). slice_get l c.args.k) (sym c.entries.ensures.value) ∙ c.both_of.ensures

pub returns-clause-text : goal.returns-clause-text
returns-clause-text c =
    let es = entries c.args.self.now in
    let e : Bytes × Bytes = (c.both_of.result.0.now, c.both_of.result.1.now) in
    let there : slice_get es c.args.k ≡ Some e = ap (λ (l : List (Bytes × Bytes)). slice_get l c.args.k) (sym c.entries.ensures.value) ∙ c.both_of.ensures in
    text_at_place es c.args.k e c.entries.ensures.texts (slice_get_within es c.args.k e there) (sym (get_or_from_slice_get es c.args.k e e there))
