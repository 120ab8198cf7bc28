use Rattle.std.proofs.Common.{◌<◌, Option, length, sym, subst, rules}
use Rattle.lf_built.specs.declared.unsaid.SoughtName.{SoughtName}
use Rattle.lf_built.specs.views.Indexed.{trees_of, universe_of}
use Rattle.lf_built.specs.views.Spots.{tree_at}
use Rattle.lf_built.specs.views.Unsaid.{IsSought}
use Rattle.lf_built.proofs.StandingParts.{sought_there, sought_told}
use Rattle.lf_built.proofs.prepared.Prepared.sought_name.Goals as goal

pub index-requires : goal.index-requires
index-requires c = let there : c.args.spot.now.rule < length c.args.self.now.sought.items = sought_there c.args.self.now c.requires.known c.args.spot.now c.requires.spot in search rules

pub returns : goal.returns
returns c =
    let p = c.args.self.now in
    subst (λ (found : Option SoughtName). IsSought (universe_of p) (trees_of p) (tree_at c.args.spot.now) found) (sym c.at.ensures)
    (sought_told p c.requires.known c.args.spot.now c.requires.spot c.index.result.now c.index.ensures)
