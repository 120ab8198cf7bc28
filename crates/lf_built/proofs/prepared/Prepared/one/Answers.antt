use Rattle.lf_built.specs.views.Spots.{tree_at}
use Rattle.lf_built.proofs.PartSpots.{one_part}
use Rattle.lf_built.proofs.prepared.Prepared.one.Goals as goal

pub returns-in-Some : goal.returns-in-Some
returns-in-Some c D stands = one_part c.args.self.now (tree_at c.args.spot.now) c.args.at c.in-Some.spot c.args.texts D c.in-Some.ensures stands
