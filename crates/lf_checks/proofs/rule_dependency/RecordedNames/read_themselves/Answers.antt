use Rattle.lf_checks.proofs.rule_dependency.RecordedNames.read_themselves.Goals as goal

pub cyclic_of-requires : goal.cyclic_of-requires
cyclic_of-requires c = record { index = (c.requires.0, c.requires.1.sources); graph = c.requires.1.graph }

pub returns : goal.returns
returns c = λ rules are. c.cyclic_of.ensures rules are.sources
