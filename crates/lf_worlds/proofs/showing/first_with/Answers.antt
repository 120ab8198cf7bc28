use Rattle.std.proofs.Common.{List, sym, ◌∙◌, ap}
use Rattle.std.specs.Option.{option_or}
use Rattle.lf_ast.specs.Labels.{Labels}
use Rattle.lf_semantics.specs.Texts.{value_of}
use Rattle.lf_trials.specs.Candidates.{has_presence}
use Rattle.lf_worlds.specs.views.Tried.{first_with}
use Rattle.lf_worlds.proofs.FirstSamples.{first_so_far, none_before}
use Rattle.lf_worlds.proofs.showing.first_with.Goals as goal

pub loop-sample-init : goal.loop-sample-init
loop-sample-init c = none_before (first_with c.args.label.now c.args.presence c.args.samples)

pub loop-sample-preserved : goal.loop-sample-preserved
loop-sample-preserved c =
    c.loop-sample.invariant
    ∙ first_so_far (λ s. has_presence c.args.presence (value_of s c.args.label.now)) c.loop-sample.samples c.pop.new.self c.in-Some.sample c.loop-sample.first c.this_or-first.result c.in-Some.ensures.some c.this_or-first.ensures

pub returns : goal.returns
returns c = sym (c.loop-sample.invariant ∙ ap (λ (l : List Labels). option_or (first_with c.args.label.now c.args.presence l) c.loop-sample.first) c.in_default.ensures.none.0)
