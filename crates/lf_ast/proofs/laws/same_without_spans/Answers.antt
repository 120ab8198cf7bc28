use Rattle.lf_ast.proofs.UpToSpans.{tests_tree}
use Rattle.lf_ast.proofs.laws.same_without_spans.Goals as goal

pub returns : goal.returns
returns c = tests_tree
