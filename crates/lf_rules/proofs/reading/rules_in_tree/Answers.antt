use Rattle.std.proofs.Common.{map}
use Rattle.lf_base.proofs.Answering.{found, only, refused, breach}
use Rattle.lf_yaml.specs.Tree.{tree}
use Rattle.lf_rules.specs.Sources.{source_in}
use Rattle.lf_rules.specs.Rules.{IsRules}
use Rattle.lf_rules.specs.Breaches.{FirstBreak}
use Rattle.lf_rules.specs.reading.Files.{reading}
use Rattle.lf_rules.proofs.Answering.{decides}
use Rattle.lf_rules.proofs.Spans.{found_inside, refused_inside}
use Rattle.lf_rules.proofs.reading.rules_in_tree.Goals as goal

pub returns : goal.returns
returns c =
    let t = tree c.args.file.now in
    let answer = c.read_in_tree.result in
    let g = c.read_in_tree.ensures in
    let f = found (map source_in) (IsRules t) (FirstBreak t) (reading t) (decides t) answer g in
    let r = refused (map source_in) (IsRules t) (FirstBreak t) (reading t) (decides t) answer g in
    record {
      found = f;
      only = only (map source_in) (IsRules t) (FirstBreak t) (reading t) (decides t) answer g;
      refused = r;
      told = breach (map source_in) (IsRules t) (FirstBreak t) (reading t) (decides t) answer g;
      inside = found_inside (map source_in) t answer f;
      refused_inside = refused_inside (map source_in) t answer r;
    }
