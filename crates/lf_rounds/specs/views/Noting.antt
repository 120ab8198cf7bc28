-- What is noted of the pieces that a seat did, and what the notes tell behind the round.
use Rattle.std.specs.Prelude.{◌≡◌, ℕ, false, List, [], ◌++◌, length, Option, Some, slice_get, slice_index, slice_index_or}
use Rattle.std.specs.List.{Contains}
use Rattle.lf_ast.specs.Labels.{Bytes}
use Rattle.lf_ast.specs.Rules.{RuleTree}
use Rattle.lf_classes.specs.RowWords.{WordsLeq, word_count}
use Rattle.lf_semantics.specs.Environments.{recorded_names}
use Rattle.lf_semantics.specs.Listing.{Listing, place}
use Rattle.lf_rounds.specs.Sums.{sum_of_loads, sum_of_rows}
use Rattle.lf_rounds.specs.Tasks.{AreReads, WordsHoldRule, Task, read_by, rule_of}
use Rattle.lf_rounds.specs.declared.rule.Done.{Done}
use Rattle.lf_rounds.specs.declared.rule.Loaded.{Loaded}
use Rattle.lf_rounds.specs.declared.rule.RoundView.{RoundView}

-- a note of a piece that is done: the sum of what was loaded for it
abbrev pub IsNoted : List Done → Loaded → Type 0
IsNoted done note = (d : Done) × Contains done d × (note.piece ≡ d.piece) × (note.sum ≡ sum_of_loads d.loads)

abbrev pub AreNoted : List Done → List Loaded → Type 0
AreNoted done notes = (note : Loaded) → Contains notes note → IsNoted done note

-- the seat did these pieces more
abbrev pub DidMore : RoundView → RoundView → Type 0
DidMore v w = (more : List Done) × (w.done ≡ v.done ++ more)

-- What a rule stores over some words lies in the words, which are no smaller, and the sum is that of the rows of these numbers in them.
pub record IsRemembered (u : Listing) (rules : List RuleTree) (words : List ℕ) (r : RuleTree) (numbers : List ℕ) (sum : ℕ) : Type 0 where
  pub seen : List ℕ
  pub wide : length seen ≡ length words
  pub leq : WordsLeq seen words
  pub held : WordsHoldRule u rules words seen r
  pub summed : sum ≡ sum_of_rows (word_count u) seen numbers

-- so it is with a piece of a round, and the sum that is noted of it
abbrev pub IsMadeBy : Task → List ℕ → Loaded → Type 0
IsMadeBy t words note = (r : RuleTree) → rule_of t note.piece ≡ Some r → IsRemembered t.universe t.rules words r (read_by t note.piece) note.sum

abbrev pub AreMadeBy : Task → List ℕ → List Loaded → Type 0
AreMadeBy t words notes = (note : Loaded) → Contains notes note → IsMadeBy t words note

-- and with each rule of which there is a sum
abbrev pub AreRemembered : Listing → List RuleTree → List (List ℕ) → List ℕ → List (Option ℕ) → Type 0
AreRemembered u rules reads words sums =
    (number : ℕ) (r : RuleTree) (sum : ℕ) → slice_get rules number ≡ Some r → slice_get sums number ≡ Some (Some sum)
    → IsRemembered u rules words r (slice_index_or reads number []) sum

-- of each recording rule the number of its name among these
pub record ArePlaced (recorded : List Bytes) (rules : List RuleTree) (numbers : List ℕ) : Type 0 where
  pub count : length numbers ≡ length rules
  pub each : (number : ℕ) (r : RuleTree) → slice_get rules number ≡ Some r → r.alert ≡ false → slice_index numbers number ≡ place recorded r.name

-- what rounds know of rules: of each the number of the name that it records, and the numbers of those that it reads
pub record IsKnown (rules : List RuleTree) (numbers : List ℕ) (read : List (List ℕ)) : Type 0 where
  pub names : ArePlaced (recorded_names rules) rules numbers
  pub reads : AreReads rules read
