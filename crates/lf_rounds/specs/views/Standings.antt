-- What stands between rounds.
use Rattle.std.specs.Prelude.{◌≡◌, ℕ, ◌*◌, ◌<◌, List, [], length, Option, Some, slice_get, slice_index, slice_index_or}
use Rattle.lf_ast.specs.Rules.{RuleTree}
use Rattle.lf_classes.specs.RowWords.{WordsLeq, word_count}
use Rattle.lf_semantics.specs.Environments.{recorded_names}
use Rattle.lf_semantics.specs.Listing.{Listing}
use Rattle.lf_rounds.specs.Sums.{sum_of_row, sum_of_rows}
use Rattle.lf_rounds.specs.Tasks.{AreRecording, HoldRules, IsBelowLeast, OthersHold, Task}
use Rattle.lf_rounds.specs.Words.{AreWords}
use Rattle.lf_rounds.specs.declared.between.Standing.{Standing}
use Rattle.lf_rounds.specs.declared.round.closing.Settled.{Settled}
use Rattle.lf_rounds.specs.views.Noting.{AreMadeBy, AreRemembered, IsKnown}

-- the sums of the first rows of words
abbrev pub AreRowSums : ℕ → List ℕ → List ℕ → Type 0
AreRowSums wide words sums = (number : ℕ) → number < length sums → slice_index sums number ≡ sum_of_row wide words number

-- the rows that the rule of a number reads have the sum that they had when it was computed last
abbrev pub IsCurrent : ℕ → List ℕ → List (List ℕ) → List (Option ℕ) → ℕ → Type 0
IsCurrent wide words reads last number = slice_get last number ≡ Some (Some (sum_of_rows wide words (slice_index_or reads number [])))

-- The words lie in the least environment and hold each recording rule that isn't due.
pub record IsStanding (u : Listing) (rules : List RuleTree) (s : Standing) : Type 0 where
  pub known : IsKnown rules s.known.names s.known.reads
  pub long : length s.words ≡ length (recorded_names rules) * word_count u
  pub fit : AreWords s.words
  pub below : IsBelowLeast u rules s.words
  pub sums : AreRemembered u rules s.known.reads s.words s.sums.items
  pub count : length s.sums.items ≡ length rules
  pub recording : AreRecording rules s.due
  pub others : OthersHold u rules s.due s.words

-- what a round of these rules leaves, and sums that there were before it
pub record IsSettledOf (u : Listing) (rules : List RuleTree) (last : List (Option ℕ)) (settled : Settled) : Type 0 where
  pub known : IsKnown rules settled.known.names settled.known.reads
  pub long : length settled.words ≡ length (recorded_names rules) * word_count u
  pub fit : AreWords settled.words
  pub below : IsBelowLeast u rules settled.words
  pub sums : AreRemembered u rules settled.known.reads settled.words last
  pub count : length last ≡ length rules
  pub made : (t : Task) → t.universe ≡ u → t.rules ≡ rules → t.reads ≡ settled.known.reads → t.pieces ≡ settled.pieces → AreMadeBy t settled.words settled.notes.items

-- what a round makes of words
pub record Rises (u : Listing) (rules : List RuleTree) (old new : List ℕ) : Type 0 where
  pub wide : length new ≡ length old
  pub above : WordsLeq old new
  pub held : HoldRules u rules new old
