-- Which functions give a sample by themselves, by whether they have no argument: how contracts see the code. It defines nothing.
use Rattle.std.specs.Prelude.{Bool, true, false}
use Rattle.lf_ast.specs.declared.functions.LabelEffect.{LabelEffect}
use Rattle.lf_ast.specs.declared.functions.LabelEffect.TheVariants.{Absent, Bare, Date}

abbrev pub gives_alone : LabelEffect → Bool → Bool
gives_alone Bare bare = true
gives_alone Date bare = bare
gives_alone Absent bare = true
gives_alone _ bare = false
