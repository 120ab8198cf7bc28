use Rattle.std.proofs.Common.{◌∙◌, sym, ap, List, ℕ}
use Rattle.lf_pattern.specs.SampleScan.{both_added}
use Rattle.lf_pattern.proofs.SampleLaws.{samples_read, samples_none, samples_good}
use Rattle.lf_pattern.proofs.sampling.samples.Goals as goal

pub returns-in-None-clause-samples : goal.returns-in-None-clause-samples
returns-in-None-clause-samples c =
    samples_none c.args.text.now _ (sym c.in_ok-read_shape.ensures ∙ c.in-None.is) c.new-in-None.ensures

pub returns-clause-samples : goal.returns-clause-samples
returns-clause-samples c =
    samples_read c.args.text.now c.in-Some.both _ (sym c.in_ok-read_shape.ensures ∙ c.in-Some.is)
    (c.in_ok-kept-in-Some.ensures ∙ ap (λ (p : List ℕ). both_added p c.in-Some.both) c.in_ok-pattern.ensures.text)

pub returns-clause-each : goal.returns-clause-each
returns-clause-each c = samples_good c.args.text.now _ (returns-clause-samples c)
