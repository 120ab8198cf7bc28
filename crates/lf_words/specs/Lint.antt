-- The words after `lint`, from left to right.
use Rattle.std.specs.Prelude.{◌≡◌, ◌⊎◌, Bool, true, false, ℕ, List, [], ◌∷◌, ◌++◌, Option, Some, None, codes}
use Rattle.std.specs.Bool.{nat_eq}
use Rattle.std.specs.List.{starts_with}

-- A word is its bytes.
abbrev pub Word : Type 0
Word = List ℕ

-- What words gave: the value of each option that was among them, as it was written, whether `--labels` was, and the files in order.
pub record LintArguments : Type 0 where
  pub workers : Option Word
  pub format : Option Word
  pub labels : Bool
  pub files : List Word

-- What no word gives.
abbrev pub nothing : LintArguments
nothing = record { workers = None; format = None; labels = false; files = [] }

-- The options that take a value.
pub data Valued : Type 0 where
  Workers : Valued
  Format : Valued

-- Such an option as a word.
abbrev pub option_word : Valued → Word
option_word Workers = codes "--workers"
option_word Format = codes "--format"

-- The value of such an option, where it was given.
abbrev pub value_of : Valued → LintArguments → Option Word
value_of Workers given = given.workers
value_of Format given = given.format

-- What is given with such an option's value too.
abbrev pub with_value : Valued → Word → LintArguments → LintArguments
with_value Workers value given = record given { workers = Some value }
with_value Format value given = record given { format = Some value }

-- What is given with `--labels` too.
abbrev pub with_labels : LintArguments → LintArguments
with_labels given = record given { labels = true }

-- What is given with files too.
abbrev pub with_files : List Word → LintArguments → LintArguments
with_files files given = record given { files = given.files ++ files }

-- The word can be a file or a value: it doesn't begin with `-`, or it is `-` alone.
abbrev pub IsOperand : Word → Type 0
IsOperand word = (starts_with nat_eq word (codes "-") ≡ false) ⊎ (word ≡ codes "-")

-- The first words gave something; together with the words behind them they give this.
pub data GivesArguments : LintArguments → List Word → LintArguments → Type 0 where
  -- No word more: it stays.
  no_more : {given : LintArguments} → GivesArguments given [] given
  -- All words behind `--` are files.
  dashes : {given : LintArguments} {files : List Word} → GivesArguments given (codes "--" ∷ files) (with_files files given)
  -- `--labels`, where it wasn't given before.
  labels : {given last : LintArguments} {words : List Word} → given.labels ≡ false → GivesArguments (with_labels given) words last → GivesArguments given (codes "--labels" ∷ words) last
  -- An option and its value as the next word, where the option wasn't given before.
  value_next : {given last : LintArguments} {words : List Word} (option : Valued) {value : Word} → value_of option given ≡ None → IsOperand value →
      GivesArguments (with_value option value given) words last → GivesArguments given (option_word option ∷ value ∷ words) last
  -- An option, `=` and its value as one word, where the option wasn't given before.
  value_joined : {given last : LintArguments} {words : List Word} (option : Valued) (value : Word) → value_of option given ≡ None →
      GivesArguments (with_value option value given) words last → GivesArguments given ((option_word option ++ codes "=" ++ value) ∷ words) last
  -- A file.
  file : {given last : LintArguments} {file : Word} {words : List Word} → IsOperand file → GivesArguments (with_files (file ∷ []) given) words last → GivesArguments given (file ∷ words) last
