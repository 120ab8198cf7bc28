-- The commands that `clap` reads the words by.
use Rattle.std.specs.Prelude.{Bool, true, false, List, Option, Some, codes, String, string_bytes, map}
use Rattle.std.specs.Option.{option_map_or}
use Rattle.std.specs.Str.{bytes_eq}
use Rattle.clap.specs.Words.{App, Rule, Text, first_of, all_of, matches_of, new_app, new_rule, with_rule}
use Rattle.clap.specs.Simple.{on_top}
use Rattle.clap.specs.declared.builder.ArgAction.TheVariants.{Append, SetTrue}

-- An option that takes a value once.
abbrev pub valued_rule : Text → Rule
valued_rule name = record (new_rule name) { long = Some name }

-- A flag.
abbrev pub labels_rule : Rule
labels_rule = record (new_rule (codes "labels")) { long = Some (codes "labels"); action = Some SetTrue }

-- Positional words, at least one.
abbrev pub files_rule : Rule
files_rule = record (new_rule (codes "files")) { action = Some Append; required = true }

-- One positional word.
abbrev pub n_rule : Rule
n_rule = record (new_rule (codes "n")) { required = true }

abbrev pub without_help : App → App
without_help app = on_top (λ s. record s { disable_help_flag = true }) app

abbrev pub lint_app : App
lint_app = without_help
    (with_rule (with_rule (with_rule (with_rule (new_app (codes "lint")) (valued_rule (codes "workers"))) (valued_rule (codes "format"))) labels_rule) files_rule)

abbrev pub gen_app : App
gen_app = without_help (with_rule (new_app (codes "gen")) n_rule)

-- The words by their bytes.
abbrev pub texts_of : {Z : Type 0} → List (String Z) → List Text
texts_of = map string_bytes

-- The first value of an argument, by clap's definition.
abbrev pub first_value : App → Text → List Text → Option Text
first_value app id words = first_of id (matches_of app words)

-- All values of an argument, by clap's definition.
abbrev pub all_values : App → Text → List Text → Option (List Text)
all_values app id words = all_of id (matches_of app words)

-- The value that clap gives to a flag that was among the words.
abbrev pub says_true : Option Text → Bool
says_true value = option_map_or (λ t. bytes_eq t (codes "true")) value false
