use Rattle.std.proofs.Common.{length}
use Rattle.lf_base.proofs.Answering.{refused_in}
use Rattle.lf_scalar.specs.Scalars.{least_above, BreaksAt}
use Rattle.lf_scalar.proofs.Whole.{is-found, is-only, is-refused, is-breach, of-found, offsets-law}
use Rattle.lf_scalar.proofs.Within.{breach_lies}
use Rattle.lf_scalar.proofs.reader.read_scalar.Goals as goal

pub returns-clause-found : goal.returns-clause-found
returns-clause-found c = is-found c.args.bytes.now c.args.at c.args.indent c.args.style c.requires.begins c.spaces_above.result c.read_whole.result c.ranges.indent c.spaces_above.ensures.value c.read_whole.ensures

pub returns-clause-only : goal.returns-clause-only
returns-clause-only c = is-only c.args.bytes.now c.args.at c.args.indent c.args.style c.requires.begins c.spaces_above.result c.read_whole.result c.ranges.indent c.spaces_above.ensures.value c.read_whole.ensures

pub returns-clause-refused : goal.returns-clause-refused
returns-clause-refused c = is-refused c.args.bytes.now c.args.at c.args.indent c.args.style c.requires.begins c.spaces_above.result c.read_whole.result c.ranges.indent c.spaces_above.ensures.value c.read_whole.ensures

pub returns-clause-breach : goal.returns-clause-breach
returns-clause-breach c = is-breach c.args.bytes.now c.args.at c.args.indent c.args.style c.requires.begins c.spaces_above.result c.read_whole.result c.ranges.indent c.spaces_above.ensures.value c.read_whole.ensures

pub returns-clause-refused_inside : goal.returns-clause-refused_inside
returns-clause-refused_inside c =
    refused_in (length c.args.bytes.now) (BreaksAt c.args.bytes.now c.args.at c.args.indent c.args.style) (breach_lies c.args.bytes.now c.args.at c.args.indent c.args.style c.requires.text c.requires.begins) c.read_whole.result
    (returns-clause-refused c)

pub returns-clause-offsets : goal.returns-clause-offsets
returns-clause-offsets c =
    of-found (λ v h. offsets-law c.args.bytes.now c.args.at (least_above c.args.indent) c.args.style v c.requires.begins h) c.read_whole.result (returns-clause-found c)
