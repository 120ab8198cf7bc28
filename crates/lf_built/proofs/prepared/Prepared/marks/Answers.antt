use Rattle.lf_built.proofs.StandingParts.{marks_told, marks_within}
use Rattle.lf_built.proofs.prepared.Prepared.marks.Goals as goal

pub get-requires : goal.get-requires
get-requires c = marks_within c.args.self.now c.requires.known c.args.spot.now c.requires.spot c.index-marks.result.now c.index-marks.ensures

pub returns : goal.returns
returns c = marks_told c.args.self.now c.requires.known c.args.spot.now c.requires.spot c.index-marks.result.now c.index-marks.ensures c.get.result.now c.get.ensures.read
