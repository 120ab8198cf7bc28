use Rattle.std.proofs.Common.{map}
use Rattle.lf_base.proofs.Answering.{found, only, refused, breach}
use Rattle.lf_yaml.specs.Tree.{tree}
use Rattle.lf_rules.specs.Sources.{source}
use Rattle.lf_rules.specs.Rules.{IsRules}
use Rattle.lf_rules.specs.Breaches.{FirstBreak}
use Rattle.lf_rules.specs.reading.Files.{reading}
use Rattle.lf_rules.proofs.Answering.{decides, broken}
use Rattle.lf_rules.proofs.Spans.{found_inside, refused_inside}
use Rattle.lf_rules.proofs.reading.read_rules.Goals as goal

pub returns : goal.returns
returns c =
    let t = tree c.args.file.now in
    let answer = c.read.result in
    let g = c.read.ensures in
    let f = found (map source) (IsRules t) (FirstBreak t) (reading t) (decides t) answer g in
    let r = refused (map source) (IsRules t) (FirstBreak t) (reading t) (decides t) answer g in
    record {
      found = f;
      only = only (map source) (IsRules t) (FirstBreak t) (reading t) (decides t) answer g;
      refused = r;
      told = breach (map source) (IsRules t) (FirstBreak t) (reading t) (decides t) answer g;
      breach = broken (map source) t answer g;
      inside = found_inside (map source) t answer f;
      refused_inside = refused_inside (map source) t answer r;
    }
