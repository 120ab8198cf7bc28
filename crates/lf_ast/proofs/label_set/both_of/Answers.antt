use Rattle.std.proofs.Common.{Some, sym, ◌∙◌, ap}
use Rattle.std.proofs.lemmas.Option.{slice_get-get_or}
use Rattle.lf_ast.proofs.label_set.both_of.Goals as goal

pub returns : goal.returns
returns c = slice_get-get_or c.args.entries.now c.args.k c.index-entries-k.result c.requires ∙ ap Some (sym c.index-entries-k.is)
