use Rattle.std.proofs.Common.{Err, length}
use Rattle.lf_base.proofs.Answering.{refused_in}
use Rattle.lf_yaml.specs.Document.{TreeBreaks}
use Rattle.lf_yaml.specs.declared.node.Node.{Node}
use Rattle.lf_yaml.proofs.InsideBreaches.{breach_inside}
use Rattle.lf_yaml.proofs.InsideTrees.{found_inside}
use Rattle.lf_yaml.proofs.Whole.{found-tree, told-breach, only-tree, only-breach, broken-told, never-tree, broken-only}
use Rattle.lf_yaml.proofs.document.read_tree.Goals as goal

pub returns-in-Ok-clause-found : goal.returns-in-Ok-clause-found
returns-in-Ok-clause-found c = found-tree c.args.bytes.now c.in-Ok.ensures.found.1 c.document.result c.document.ensures

pub returns-in-Ok-clause-only : goal.returns-in-Ok-clause-only
returns-in-Ok-clause-only c = only-tree c.args.bytes.now c.in-Ok.ensures.found.1 c.document.result c.document.ensures

pub returns-in-Ok-clause-refused : goal.returns-in-Ok-clause-refused
returns-in-Ok-clause-refused c = told-breach c.args.bytes.now c.in-Ok.ensures.found.1 c.document.result c.document.ensures

pub returns-in-Ok-clause-breach : goal.returns-in-Ok-clause-breach
returns-in-Ok-clause-breach c = only-breach c.args.bytes.now c.in-Ok.ensures.found.1 c.document.result c.document.ensures

pub returns-in-Err-clause-only : goal.returns-in-Err-clause-only
returns-in-Err-clause-only c = never-tree c.args.bytes.now c.in-Err.refusal c.in-Err.ensures.refused

pub returns-in-Err-clause-refused : goal.returns-in-Err-clause-refused
returns-in-Err-clause-refused c = broken-told c.args.bytes.now c.in-Err.refusal c.in-Err.ensures.refused

pub returns-in-Err-clause-breach : goal.returns-in-Err-clause-breach
returns-in-Err-clause-breach c = broken-only c.args.bytes.now c.in-Err.refusal c.in-Err.ensures.refused

pub returns-in-Ok-clause-refused_inside : goal.returns-in-Ok-clause-refused_inside
returns-in-Ok-clause-refused_inside c = refused_in (length c.args.bytes.now) (TreeBreaks c.args.bytes.now) (breach_inside c.args.bytes.now) c.document.result (returns-in-Ok-clause-refused c)

pub returns-in-Ok-clause-inside : goal.returns-in-Ok-clause-inside
returns-in-Ok-clause-inside c = found_inside c.args.bytes.now c.document.result (returns-in-Ok-clause-found c)

pub returns-in-Err-clause-refused_inside : goal.returns-in-Err-clause-refused_inside
returns-in-Err-clause-refused_inside c = refused_in {X = Node} (length c.args.bytes.now) (TreeBreaks c.args.bytes.now) (breach_inside c.args.bytes.now) (Err c.in-Err.refusal) (returns-in-Err-clause-refused c)
