use Rattle.std.proofs.Common.{◌∷◌, [], ◌++◌, ◌∙◌, ap}
use Rattle.std.specs.Prelude.{replicate}
use Rattle.lf_semantics.specs.ClassRows.{bottom}
use Rattle.lf_flow.proofs.Entries.{replicate_more}
use Rattle.lf_flow.proofs.env.empty_rows.Goals as goal

pub loop-preserved : goal.loop-preserved
loop-preserved c =
    let row = bottom c.args.universe.now in
    c.in_ok-push.ensures.items
    ∙ ap (λ rows. rows ++ c.in_ok-empty.field-0 ∷ []) c.loop.invariant
    ∙ ap (λ x. replicate c.loop.counter row ++ x ∷ []) c.in_ok-empty.ensures
    ∙ replicate_more c.loop.counter row
