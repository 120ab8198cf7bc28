-- What a round is over, and the words that it may raise.
use Rattle.std.specs.Prelude.{◌≡◌, ◌⊎◌, ℕ, ◌+◌, ◌*◌, ◌<◌, Bool, true, false, not, List, [], length, Option, Some, slice_get, slice_index, slice_index_or, option_and_then}
use Rattle.std.specs.List.{Contains, filter}
use Rattle.std.specs.Option.{option_map_or}
use Rattle.lf_ast.specs.Labels.{Bytes}
use Rattle.lf_ast.specs.Rules.{RuleTree}
use Rattle.lf_classes.specs.RowWords.{WordLeq, WordsLeq, row_word, word_count}
use Rattle.lf_deps.specs.Ordering.{IsOrder}
use Rattle.lf_laws.specs.Ascending.{AreAscending}
use Rattle.lf_flow.specs.Reads.{ReadsNumber, names_of}
use Rattle.lf_semantics.specs.Environments.{CoversRules, IsEnvironmentOf, IsPostFixedPoint, recorded_names, recorded_row}
use Rattle.lf_semantics.specs.Listing.{IsListing, Listing, place}
use Rattle.lf_semantics.specs.RowTable.{Environment}
use Rattle.lf_rounds.specs.Words.{environment_of, words_of}

-- a universe, rules, of each rule the numbers of the names whose rows it reads, the numbers of the rules that are its pieces, and the words at its start
pub record Task : Type 0 where
  pub universe : Listing
  pub rules : List RuleTree
  pub reads : List (List ℕ)
  pub pieces : List ℕ
  pub start : List ℕ

abbrev pub names : Task → List Bytes
names t = recorded_names t.rules

-- how many words a row has
abbrev pub width : Task → ℕ
width t = word_count t.universe

-- the environment for which words stand
abbrev pub stands_for : Task → List ℕ → Environment
stands_for t words = environment_of t.universe (names t) words

-- the rule of a piece
abbrev pub rule_of : Task → ℕ → Option RuleTree
rule_of t piece = option_and_then (λ number. slice_get t.rules number) (slice_get t.pieces piece)

-- the numbers of the names whose rows it reads
abbrev pub read_by : Task → ℕ → List ℕ
read_by t piece = slice_index_or t.reads (slice_index t.pieces piece) []

-- of the row of what the rule of a piece stores, over the environment for which words stand, the word with a number
abbrev pub stored_word : Task → ℕ → List ℕ → ℕ → ℕ
stored_word t piece words number = option_map_or (λ r. row_word (recorded_row t.universe (stands_for t words) r) number) (rule_of t piece) 0

-- and where it stands among the row words: in the row of the rule's name
abbrev pub place_of : Task → ℕ → ℕ → ℕ
place_of t piece number = option_map_or (λ r. place (names t) r.name * width t + number) (rule_of t piece) 0

-- the first words of the row that a piece stores, over what other words stand for, lie in the words
abbrev pub Raised : Task → List ℕ → ℕ → List ℕ → ℕ → Type 0
Raised t words piece over count = (number : ℕ) → number < count → WordLeq (stored_word t piece over number) (slice_index words (place_of t piece number))

-- each bit of the words is in the least environment: in each post-fixed point of the rules
abbrev pub IsBelowLeast : Listing → List RuleTree → List ℕ → Type 0
IsBelowLeast u rules words = (env : Environment) → IsEnvironmentOf u rules env → IsPostFixedPoint u rules env → WordsLeq words (words_of u env)

-- what each recording rule stores, over what other words stand for, lies in the words
abbrev pub HoldRules : Listing → List RuleTree → List ℕ → List ℕ → Type 0
HoldRules u rules words over =
    (r : RuleTree) → Contains rules r → r.alert ≡ false → (number : ℕ) → number < word_count u
    → WordLeq (row_word (recorded_row u (environment_of u (recorded_names rules) over) r) number) (slice_index words (place (recorded_names rules) r.name * word_count u + number))

-- the same of one rule
abbrev pub WordsHoldRule : Listing → List RuleTree → List ℕ → List ℕ → RuleTree → Type 0
WordsHoldRule u rules words over r =
    (number : ℕ) → number < word_count u
    → WordLeq (row_word (recorded_row u (environment_of u (recorded_names rules) over) r) number) (slice_index words (place (recorded_names rules) r.name * word_count u + number))

-- a rule is a recording rule
abbrev pub is_recording : List RuleTree → ℕ → Bool
is_recording rules number = option_map_or (λ r. not r.alert) (slice_get rules number) false

-- the recording rules, in the order of the rules
abbrev pub AreTaskPieces : List RuleTree → List ℕ → Type 0
AreTaskPieces rules pieces = (order : List ℕ) × IsOrder rules order × (pieces ≡ filter (is_recording rules) order)

-- These numbers of recorded names, in ascending order, are all whose rows the rule reads.
pub record AreReadBy (rules : List RuleTree) (r : RuleTree) (numbers : List ℕ) : Type 0 where
  pub ascend : AreAscending numbers
  pub within : (k : ℕ) → Contains numbers k → k < length (recorded_names rules)
  pub all : (env : Environment) → names_of env ≡ recorded_names rules → (k : ℕ) → ReadsNumber env r.expr k → Contains numbers k

-- So they are of each recording rule.
pub record AreReads (rules : List RuleTree) (reads : List (List ℕ)) : Type 0 where
  pub count : length reads ≡ length rules
  pub each : (number : ℕ) (r : RuleTree) → slice_get rules number ≡ Some r → r.alert ≡ false → AreReadBy rules r (slice_index_or reads number [])

-- only recording rules are among the pieces
abbrev pub AreRecording : List RuleTree → List ℕ → Type 0
AreRecording rules pieces = (number : ℕ) → Contains pieces number → is_recording rules number ≡ true

-- each other recording rule is held by the words as they are
abbrev pub OthersHold : Listing → List RuleTree → List ℕ → List ℕ → Type 0
OthersHold u rules pieces words = (number : ℕ) (r : RuleTree) → slice_get rules number ≡ Some r → r.alert ≡ false → Contains pieces number ⊎ WordsHoldRule u rules words words r

-- what rounds are over: the universe covers the rules, each recording rule is a piece or held by the words at the start, and there are words for each recorded name
pub record IsTask (t : Task) : Type 0 where
  pub listing : IsListing t.universe
  pub covers : CoversRules t.universe t.rules
  pub reads : AreReads t.rules t.reads
  pub recording : AreRecording t.rules t.pieces
  pub others : OthersHold t.universe t.rules t.pieces t.start
  pub words : length t.start ≡ length (names t) * width t
