use Rattle.std.proofs.Common.{codes, sym, ap, ◌∙◌, subst}
use Rattle.lf_yaml.specs.Tree.{tree}
use Rattle.lf_rules.specs.Mappings.{given}
use Rattle.lf_rules.specs.reading.Files.{AreReadableGroups, items_of}
use Rattle.lf_rules.proofs.Readable.{readable}
use Rattle.lf_rules.proofs.building.all_sources.Goals as goal

pub push_groups-requires : goal.push_groups-requires
push_groups-requires c =
    subst AreReadableGroups (sym (c.items_at.ensures ∙ ap (λ es. items_of (given (codes "groups") es)) c.entries_of.ensures)) (readable (tree c.args.file.now) c.requires)
