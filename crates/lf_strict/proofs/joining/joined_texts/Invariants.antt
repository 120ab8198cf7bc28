use Rattle.std.proofs.Common.{◌≡◌, map, take}
use Rattle.lf_ast.specs.Arguments.{texts_of}
use Rattle.lf_ast.specs.Tree.{trees}
use Rattle.lf_semantics.specs.Strings.{joined_by}
use Rattle.lf_semantics.specs.Texts.{value_of}
use Rattle.lf_strict.proofs.joining.joined_texts.Given as goal

abbrev pub invariant-loop-k : goal.invariant-loop-k
invariant-loop-k l = l.text ≡ joined_by l.separator (map (λ source. value_of l.sample source) (texts_of (trees (take l.k l.sources))))
