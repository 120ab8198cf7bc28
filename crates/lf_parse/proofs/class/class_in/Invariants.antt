use Rattle.std.proofs.Common.{◌≡◌, drop, map}
use Rattle.std.specs.Char.{to_ascii_lowercase}
use Rattle.lf_parse.specs.Tokens.{class_in}
use Rattle.lf_parse.specs.views.Values.{entries}
use Rattle.lf_parse.proofs.class.class_in.Given as goal

abbrev pub invariant-loop-word : goal.invariant-loop-word
invariant-loop-word l = class_in (map to_ascii_lowercase l.text) (entries (drop l.word-index l.words)) ≡ class_in (map to_ascii_lowercase l.text) (entries l.words)
