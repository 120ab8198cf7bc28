-- The core of the rounds: the claim word, the row words and the views of all seats, the rule between them, and what the five kinds of step do: a split, a join, a claim, a
-- load and an or.
use Rattle.std.specs.Prelude.{◌≡◌, ◌≢◌, ℕ, ◌+◌, ◌-◌, ◌<◌, ◌≤◌, Bool, true, false, not, ◌||◌, ◌==◌, if◌then◌else◌, List, [], ◌∷◌, ◌++◌, map, length, slice_set, bit_or, sum_by}
use mathlib.Core.Option.{some}
use lib.ListN.{get_elem?}
use Rattle.atomic_table.specs.Table.{State, Me, Step}
use Rattle.lf_ast.specs.Rules.{rule_trees}
use Rattle.std.specs.List.{AllByRecursion}
use Rattle.lf_board.specs.declared.rule.View.{View}
use Rattle.lf_board.specs.Claims as board
use Rattle.lf_classes.specs.RowWords.{WordsLeq}
use Rattle.lf_rounds.specs.declared.rule.About.{About}
use Rattle.lf_rounds.specs.declared.rule.Done.{Done}
use Rattle.lf_rounds.specs.declared.rule.Load.{Load}
use Rattle.lf_rounds.specs.declared.rule.RoundView.{RoundView}
use Rattle.lf_rounds.specs.Sums.{sum_of_loads, sum_of_rows}
use Rattle.lf_rounds.specs.Tasks.{IsBelowLeast, Raised, Task, read_by, width}

-- what the round is over
abbrev pub task_of : About → Task
task_of k = record { universe = k.universe.value; rules = rule_trees k.rules.value; reads = k.reads.value; pieces = k.pieces.value; start = k.start.value }

-- the words at the start with each word that was noted in its place, the newest note last
abbrev pub noted : List ℕ → List Load → List ℕ
noted start [] = start
noted start (l ∷ loads) = slice_set (noted start loads) l.place l.word

-- The noted loads lie between the start and the words, and the first words of the row that the piece stores, over the noted ones, lie in the words.
abbrev pub Stands : Task → List ℕ → ℕ → List Load → ℕ → Type 0
Stands t words piece loads count = WordsLeq t.start (noted t.start loads) × WordsLeq (noted t.start loads) words × Raised t words piece (noted t.start loads) count

-- Of a piece that is done all words do.
abbrev pub AllDone : Task → List ℕ → List Done → Type 0
AllDone t words done = AllByRecursion (λ (d : Done). Stands t words d.piece d.loads (width t)) done

-- What was loaded for a piece that is done are the rows that its rule reads, each word once: so the loads have the sum of these rows, over the noted ones.
abbrev pub IsSummed : Task → Done → Type 0
IsSummed t d = sum_of_loads d.loads ≡ sum_of_rows (width t) (noted t.start d.loads) (read_by t d.piece)

abbrev pub in_work : RoundView → List ℕ
in_work v = if v.busy then v.piece ∷ [] else []

-- 1 for a seat an or of which changed a word
abbrev pub marks : RoundView → ℕ
marks v = if v.changed then 1 else 0

-- What holds of each seat: its claims are the pieces done and the one in work, its loads and words stand, its loads are summed, and one that was joined to another has no mark.
pub record Fits (t : Task) (words : List ℕ) (v : RoundView) : Type 0 where
  pub listed : v.board.claims ≡ map (λ (d : Done). d.piece) v.done ++ in_work v
  pub done : AllDone t words v.done
  pub summed : AllByRecursion (IsSummed t) v.done
  pub work : v.busy ≡ true → Stands t words v.piece v.loads v.raised
  pub spent : v.board.share ≡ 0 → v.changed ≡ false

abbrev pub board_of : RoundView → View
board_of v = v.board

-- The rule of the claim word, the row words and the views of all seats, which holds between any two steps of any seats.
pub record Holds (k : About) (claims : ℕ) (words : List ℕ) (views : List RoundView) : Type 0 where
  -- The claims are as on a board: each piece was given once, a claim that found nothing closed its seat, and the seats in use and their rooms make the number of seats.
  pub board : board.Holds k.counts claims (map board_of views)
  -- The row words lie between those at the start and the least environment.
  pub wide : length words ≡ length (task_of k).start
  pub above : WordsLeq (task_of k).start words
  pub under : IsBelowLeast (task_of k).universe (task_of k).rules words
  -- A row word differs from the start exactly where an or of some seat changed one.
  pub unmarked : sum_by marks views ≡ 0 → words ≡ (task_of k).start
  pub marked : 0 < sum_by marks views → words ≢ (task_of k).start
  -- The loads lie between the start and the words, and what was raised lies in the words.
  pub fits : (id : ℕ) (v : RoundView) → get_elem? views id ≡ some v → Fits (task_of k) words v

-- The first word of the table is the claim word, and the others are the row words.
abbrev pub HoldsWords : About → List ℕ → List RoundView → Type 0
HoldsWords k [] views = ⊥
HoldsWords k (claims ∷ words) views = Holds k claims words views

abbrev pub Kept : About → State (Unit {0}) RoundView → Type 0
Kept k s = HoldsWords k s.words s.views

-- The first seat may come to all seats, and has claimed nothing.
abbrev pub opening_view : About → RoundView
opening_view k = record { board = board.opening_view k.counts; done = []; busy = false; piece = 0; loads = []; raised = 0; changed = false }

-- the seat with a piece in work, of which nothing is noted or raised yet
abbrev pub claimed_view : RoundView → ℕ → RoundView
claimed_view v piece = record v { board = record v.board { claims = v.board.claims ++ piece ∷ [] }; busy = true; piece = piece; loads = []; raised = 0 }

-- the seat when one more claim found nothing
abbrev pub missed_view : RoundView → RoundView
missed_view v = record v { board = record v.board { missed = v.board.missed + 1 } }

-- A claim: the word that it found is the piece in work, if it is below the count. Else the claim found nothing.
abbrev pub claimed : Step (Unit {0}) → Me (Unit {0}) RoundView → ℕ → Me (Unit {0}) RoundView → Type 0
claimed step me found after =
    (after.1 ≡ me.1)
    × (found < me.0.board.pieces → (after.0 ≡ claimed_view me.0 found) × (length me.0.board.claims < me.0.board.pieces))
    × (me.0.board.pieces ≤ found → after.0 ≡ missed_view me.0)

-- the seat when one more load is noted
abbrev pub noted_view : RoundView → ℕ → ℕ → RoundView
noted_view v place word = record v { loads = record { place = place; word = word } ∷ v.loads }

-- A load: the word that was found is noted for the piece in work. The row words stand behind the claim word.
abbrev pub loaded : Step (Unit {0}) → Me (Unit {0}) RoundView → ℕ → Me (Unit {0}) RoundView → Type 0
loaded step me found after = (after.1 ≡ me.1) × (after.0 ≡ noted_view me.0 (step.word - 1) found)

-- An or adds a bit where it changes what was found.
abbrev pub adds : ℕ → ℕ → Bool
adds word found = not (bit_or found word == found)

-- the seat when one more word of the piece in work was raised
abbrev pub raised_view : RoundView → Bool → RoundView
raised_view v added = record v { raised = v.raised + 1; changed = v.changed || added }

-- the seat when the last word of the piece in work was raised
abbrev pub finished_view : RoundView → Bool → RoundView
finished_view v added = record v { done = v.done ++ record { piece = v.piece; loads = v.loads } ∷ []; busy = false; changed = v.changed || added }

-- An or: one word more of the row of the piece in work is raised.
abbrev pub raised : Step (Unit {0}) → Me (Unit {0}) RoundView → ℕ → Me (Unit {0}) RoundView → Type 0
raised step me found after = (after.1 ≡ me.1) × (after.0 ≡ raised_view me.0 (adds step.first found))

-- The last or of a piece: it is done.
abbrev pub finished : Step (Unit {0}) → Me (Unit {0}) RoundView → ℕ → Me (Unit {0}) RoundView → Type 0
finished step me found after = (after.1 ≡ me.1) × (after.0 ≡ finished_view me.0 (adds step.first found))

-- A split: what is left of the seat's share when a new seat with this room is taken out of it.
abbrev pub left_of : ℕ → RoundView → RoundView
left_of room v = record v { board = board.left_of room v.board }

-- The new seat, which has claimed nothing.
abbrev pub right_of : ℕ → RoundView → RoundView
right_of room v = record { board = board.right_of room v.board; done = []; busy = false; piece = 0; loads = []; raised = 0; changed = false }

-- A join: one seat takes all that the other has.
abbrev pub both_of : RoundView → RoundView → RoundView
both_of v w = record { board = board.both_of v.board w.board; done = v.done ++ w.done; busy = false; piece = 0; loads = []; raised = 0; changed = v.changed || w.changed }

-- The other has nothing left.
abbrev pub spent_view : RoundView
spent_view = record { board = board.spent_view; done = []; busy = false; piece = 0; loads = []; raised = 0; changed = false }
