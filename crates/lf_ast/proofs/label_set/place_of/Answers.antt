use Rattle.std.proofs.Common.{sym, ◌∙◌, ap, arith}
use Rattle.std.specs.Ordering.{nat_cmp}
use Rattle.std.specs.Cmp.Lexicographic.{slice_cmp}
use Rattle.lf_ast.proofs.LabelSets.{put_at}
use Rattle.lf_ast.proofs.label_set.place_of.Goals as goal

pub returns-in-Equal-clause-stands : goal.returns-in-Equal-clause-stands
returns-in-Equal-clause-stands c =
    let equal = sym (c.cmp.ensures ∙ ap (slice_cmp nat_cmp c.args.name.now) c.as_str.ensures) ∙ c.in-Equal.is in
    (omega arith, put_at c.args.name.now c.args.entries.now c.loop-k.k c.index-entries-k.result (omega arith) c.index-entries-k.is equal c.loop-k.invariant)
