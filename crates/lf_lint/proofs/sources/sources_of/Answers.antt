use Rattle.std.proofs.Common.{◌∙◌, ◌++◌, ◌∷◌, [], ap}
use Rattle.lf_lint.proofs.Gathered.{gen_gathered}
use Rattle.lf_lint.proofs.sources.sources_of.Goals as goal

pub returns-in_ok-push-in-Gen-clause-gathered : goal.returns-in_ok-push-in-Gen-clause-gathered
returns-in_ok-push-in-Gen-clause-gathered g c =
    gen_gathered (g.F.Files.held c.args.files.now) c.requires.asked.0 c.args.options.now _ c.in_ok-source-in-Gen.source c.push.new.self c.in-Gen.is c.requires.asked.1 c.in_ok-source-in-Gen.ensures.name
    c.in_ok-source-in-Gen.ensures.bytes (c.in_ok-push-in-Gen.ensures.ok ∙ ap (λ l. l ++ c.in_ok-source-in-Gen.source ∷ []) c.new-sources.ensures)
