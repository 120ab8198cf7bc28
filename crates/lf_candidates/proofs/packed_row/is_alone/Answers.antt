use Rattle.std.proofs.Common.{length, map, ◌∙◌, ap, subst}
use Rattle.lf_semantics.specs.ClassRows.{Sets, narrowed}
use Rattle.lf_semantics.specs.Environments.{Leq}
use Rattle.lf_semantics.proofs.RowLaws.{shape_narrowed}
use Rattle.lf_candidates.proofs.OnlyClass.{first_is, test}
use Rattle.lf_candidates.proofs.packed_row.is_alone.Goals as goal

pub covers-requires : goal.covers-requires
covers-requires c =
    ap (λ (r : Sets). map length r) (c.keep_class.ensures ∙ ap (narrowed (test c.args.row.now 0 c.args.class)) c.in_ok-only.ensures) ∙ shape_narrowed (test c.args.row.now 0 c.args.class) c.args.row.now

pub returns : goal.returns
returns c = λ alone.
    let row : Sets = c.args.row.now in
    let only = c.keep_class.ensures ∙ ap (narrowed (test row 0 c.args.class)) c.in_ok-only.ensures in
    first_is row 0 c.args.class (c.has_name.ensures.live c.if-not-has_name.false) (c.has_name.ensures.has c.if-not-has_name.false) (subst (Leq row) only (c.covers.ensures.under.0 alone))
