-- What the words of a command line ask for.
use Rattle.std.specs.Prelude.{◌≡◌, ◌≢◌, ◌≤◌, Bool, false, ℕ, List, [], ◌∷◌, Option, Some, None, codes, decimal, if◌then◌else◌}
use Rattle.lf_words.specs.declared.options.Options.{Options}
use Rattle.lf_words.specs.declared.options.Options.TheVariants.{Lint, Gen}
use Rattle.lf_words.specs.Lint.{Word, LintArguments, nothing, GivesArguments}

-- The word is a number from 1 to `highest`, in decimal, without a sign or a leading zero.
pub record IsDecimal (highest : ℕ) (word : Word) (number : ℕ) : Type 0 where
  pub least : 1 ≤ number
  pub most : number ≤ highest
  pub written : word ≡ decimal number

-- The number of workers, from 1 to 64: 1 where it isn't given.
abbrev pub IsWorkers : Option Word → ℕ → Type 0
IsWorkers None workers = workers ≡ 1
IsWorkers (Some word) workers = IsDecimal 64 word workers

-- Whether the format is `json` or `text`: `text` where it isn't given.
abbrev pub IsFormat : Option Word → Bool → Type 0
IsFormat None json = json ≡ false
IsFormat (Some word) json = word ≡ (if json then codes "json" else codes "text")

-- The words ask for this.
pub data Asks : List Word → Options → Type 0 where
  -- `lint`, then words that give at least one file.
  lint : {words : List Word} {given : LintArguments} {workers : ℕ} {json : Bool} → GivesArguments nothing words given → given.files ≢ [] → IsWorkers given.workers workers →
      IsFormat given.format json → Asks (codes "lint" ∷ words) (Lint workers json given.labels given.files)
  -- `gen`, then a number from 1 to 4000 and nothing more.
  gen : {word : Word} {n : ℕ} → IsDecimal 4000 word n → Asks (codes "gen" ∷ word ∷ []) (Gen n)
