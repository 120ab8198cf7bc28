use Rattle.std.proofs.Common.{◌++◌, List, append-nil, append_assoc, refl, sym, ap, ◌∙◌}
use Rattle.lf_ast.specs.Labels.{Labels}
use Rattle.lf_strict.proofs.StoredSamples.{all_of, all_of_values}
use Rattle.lf_strict.proofs.named_samples.NamedSamples.push_to.Goals as goal

pub loop-samples-init : goal.loop-samples-init
loop-samples-init c = refl

pub loop-samples-preserved : goal.loop-samples-preserved
loop-samples-preserved c =
    let old : List Labels = c.loop-samples.all.items in
    let later = c.next.new.self in
    ap (λ (l : List Labels). l ++ all_of later) c.in_ok-push_to.ensures
    ∙ append_assoc old c.in-Some.samples.now (all_of later)
    ∙ ap (λ (l : List (List Labels)). old ++ all_of l) (sym c.in-Some.ensures.steps)
    ∙ c.loop-samples.invariant

pub returns : goal.returns
returns c =
    let es = c.self.inside.by_name.entries in
    let items : List Labels = c.loop-samples.all.items in
    let old : List Labels = c.args.all.now.items in
    sym (append-nil items) ∙ ap (λ (l : List (List Labels)). items ++ all_of l) (sym c.in-None.ensures.steps.0) ∙ c.loop-samples.invariant
    ∙ ap (λ (l : List Labels). old ++ l) (ap all_of (c.into_iter-samples-iterator.ensures.into_iter_gives ∙ c.values-samples-items.ensures.rest) ∙ all_of_values es ∙ c.self.view_is)
