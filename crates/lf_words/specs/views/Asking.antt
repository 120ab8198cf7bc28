-- How contracts see words that are read one by one, without memory.
use Rattle.std.specs.Prelude.{◌≡◌, ◌≢◌, ◌↔◌, ℕ, Bool, List, [], ◌∷◌, ◌++◌, option_map, codes}
use Rattle.std.specs.Bool.{MatchBool}
use Rattle.lf_words.specs.Lint.{Word, LintArguments, GivesArguments, nothing, IsOperand, Workers, Format, option_word}
use Rattle.lf_words.specs.Lint as grammar
use Rattle.lf_words.specs.Grammar.{IsWorkers, IsFormat}
use Rattle.lf_words.specs.declared.word_kind.Valued.{Valued}
use Rattle.lf_words.specs.declared.word_kind.Valued.TheVariants as valued
use Rattle.lf_words.specs.declared.word_kind.WordKind.{WordKind}
use Rattle.lf_words.specs.declared.word_kind.WordKind.TheVariants as kind
use Rattle.lf_words.specs.declared.seen.Next.{Next}
use Rattle.lf_words.specs.declared.seen.Next.TheVariants as next
use Rattle.lf_words.specs.declared.seen.SeenWords.{SeenWords}

-- The option, as the grammar names it.
abbrev pub named : Valued → grammar.Valued
named valued.Workers = Workers
named valued.Format = Format

-- The word is nothing that can stand where an option or a file may.
pub record IsUnknown (word : Word) : Type 0 where
  pub dashes : word ≢ codes "--"
  pub labels : word ≢ codes "--labels"
  pub option : (option : grammar.Valued) → word ≢ option_word option
  pub joined : (option : grammar.Valued) (value : Word) → word ≢ option_word option ++ codes "=" ++ value
  pub operand : IsOperand word → ⊥

-- The word is of this kind.
abbrev pub IsOfKind : Word → WordKind → Type 0
IsOfKind word kind.Dashes = word ≡ codes "--"
IsOfKind word kind.Labels = word ≡ codes "--labels"
IsOfKind word (kind.Option option) = word ≡ option_word (named option)
IsOfKind word (kind.Joined option value) = word ≡ option_word (named option) ++ codes "=" ++ value.now
IsOfKind word kind.File = IsOperand word
IsOfKind word kind.Unknown = IsUnknown word

-- The words with the one before them that decides what the next one is: an option that waits for its value, or `--`.
abbrev pub begun : Next → List Word → List Word
begun next.Any words = words
begun (next.Value option) words = option_word (named option) ∷ words
begun next.File words = codes "--" ∷ words

-- What is kept of what was given: all of it but which files they were.
pub record Keeps (seen : SeenWords) (given : LintArguments) : Type 0 where
  pub workers : option_map (λ w. w.now) seen.workers ≡ given.workers
  pub format : option_map (λ w. w.now) seen.format ≡ given.format
  pub labels : seen.labels ≡ given.labels
  pub file : MatchBool seen.file (given.files ≢ []) (given.files ≡ [])

-- What was seen leads from words to what is seen later and to others, which then give the same.
abbrev pub Leads : SeenWords → List Word → SeenWords → List Word → Type 0
Leads seen words later others =
    (given : LintArguments) → Keeps seen given → (more : LintArguments) × Keeps later more × ((last : LintArguments) → GivesArguments given (begun seen.next words) last ↔ GivesArguments more (begun later.next others) last)

-- All words give what those that are left give behind what was seen.
abbrev pub Stands : List Word → SeenWords → List Word → Type 0
Stands words seen left = (given : LintArguments) × Keeps seen given × ((last : LintArguments) → GivesArguments nothing words last ↔ GivesArguments given (begun seen.next left) last)

-- Behind what was given the words ask for a report: together they give a file, and values that are a number of workers and a format.
pub record Lints (given : LintArguments) (words : List Word) : Type 0 where
  pub last : LintArguments
  pub gives : GivesArguments given words last
  pub some : last.files ≢ []
  pub workers : ℕ
  pub are_workers : IsWorkers last.workers workers
  pub json : Bool
  pub is_format : IsFormat last.format json
