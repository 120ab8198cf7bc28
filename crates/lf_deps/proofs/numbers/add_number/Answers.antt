use Rattle.std.proofs.Common.{ℕ, List, ◌∙◌, ap}
use Rattle.std.specs.BTreeSet.{insert_key}
use Rattle.std.specs.Ordering.{nat_cmp}
use Rattle.lf_graph.proofs.Inserting.{adds_one}
use Rattle.lf_deps.proofs.numbers.add_number.Goals as goal

pub returns-clause-ok : goal.returns-clause-ok
returns-clause-ok c =
    let old : List ℕ = c.args.found.now.keys in
    adds_one old c.insert.new.self.keys c.args.number (c.in_ok-insert.ensures.keys ∙ ap (insert_key nat_cmp old) c.in-Ok.ensures.1)
