-- A seat at work.
use Rattle.std.specs.Prelude.{◌≡◌, ℕ, suc, ◌+◌, ◌-◌, ◌⊎◌, ◌<◌, ◌≤◌, true, false, List, [], ◌++◌, Option, Some, None, length, slice_index, slice_index_or}
use Rattle.std.specs.List.{Contains}
use Rattle.atomic_table.specs.Seated.{TableId}
use Rattle.atomic_table.specs.Table.{Me}
use Rattle.lf_ast.specs.Labels.{Bytes}
use Rattle.lf_board.specs.declared.rule.View.{View}
use Rattle.lf_classes.specs.RowWords.{row_word}
use Rattle.lf_flow.specs.Reads.{names_of, rows_of}
use Rattle.lf_semantics.specs.ClassRows.{Sets}
use Rattle.lf_semantics.specs.Listing.{Listing}
use Rattle.lf_semantics.specs.RowTable.{Environment}
use Rattle.lf_rounds.specs.Facts.{RoundFacts}
use Rattle.lf_rounds.specs.Rounds.{noted}
use Rattle.lf_rounds.specs.Tasks.{Task, place_of, stands_for, stored_word}
use Rattle.lf_rounds.specs.Words.{environment_of}
use Rattle.lf_rounds.specs.declared.round.rows.RowRoom.{RowRoom}
use Rattle.lf_rounds.specs.declared.rule.RoundView.{RoundView}
use Rattle.lf_rounds.specs.views.Kept.{board_at}

abbrev pub Mine : Type 0
Mine = Me (Unit {0}) RoundView

-- a seat of the round that is in use
pub record IsUsed (round : RoundFacts) (table : TableId) (me : Mine) : Type 0 where
  pub own : board_at table me.0 ≡ round.board
  pub live : 0 < me.0.board.share
  pub bare : me.1 ≡ []

-- the words at the start with those that the seat noted
abbrev pub seen : RoundFacts → Mine → List ℕ
seen round me = noted round.start me.0.loads

-- the seat is at work on the same piece as before, and as many words are raised
pub record IsAsBefore (v w : RoundView) : Type 0 where
  pub board : w.board ≡ v.board
  pub busy : w.busy ≡ true
  pub piece : w.piece ≡ v.piece
  pub raised : w.raised ≡ v.raised
  pub done : w.done ≡ v.done

-- only words from a place on changed, so many of them
abbrev pub ChangedAt : ℕ → ℕ → List ℕ → List ℕ → Type 0
ChangedAt at count old new = (i : ℕ) → ((i < at) ⊎ (at + count ≤ i)) → slice_index new i ≡ slice_index old i

-- the rows of these numbers are those for which the words stand
abbrev pub HasRead : Task → List ℕ → List ℕ → Environment → Type 0
HasRead t words numbers env = (k : ℕ) → Contains numbers k → slice_index_or (rows_of env) k [] ≡ slice_index_or (rows_of (stands_for t words)) k []

-- the row of what the piece in work stores is this one, and stands from a place on
pub record IsStored (t : Task) (piece : ℕ) (words : List ℕ) (row : Sets) (at : ℕ) : Type 0 where
  pub word : (number : ℕ) → row_word row number ≡ stored_word t piece words number
  pub place : (number : ℕ) → at + number ≡ place_of t piece number

-- a piece was claimed, and nothing is noted or raised for it yet
pub record Begins (number : ℕ) (v : RoundView) : Type 0 where
  pub busy : v.busy ≡ true
  pub piece : v.piece ≡ number
  pub loads : v.loads ≡ []
  pub raised : v.raised ≡ 0
  pub missed : v.board.missed ≡ 0

-- the seat claimed these pieces more
abbrev pub claims_more : View → List ℕ → View
claims_more v claims = record v { claims = v.claims ++ claims }

-- and worked on all of them until a claim found nothing
abbrev pub HasWorked : RoundView → RoundView → Type 0
HasWorked v w = (claims : List ℕ) × (w.board ≡ record v.board { missed = v.board.missed + 1; claims = v.board.claims ++ claims }) × (w.busy ≡ false)

-- what the last claim got: a piece, or nothing
abbrev pub IsNext : ℕ → RoundView → Option ℕ → RoundView → Type 0
IsNext count v None w = HasWorked v w
IsNext count v (Some piece) w = (piece < count) × Begins piece w × (claims : List ℕ) × (w.board ≡ claims_more v.board claims)

-- the seat is at work on the same piece with the same loads, and so many words are raised
pub record IsRaising (v : RoundView) (count : ℕ) (w : RoundView) : Type 0 where
  pub board : w.board ≡ v.board
  pub busy : w.busy ≡ true
  pub piece : w.piece ≡ v.piece
  pub loads : w.loads ≡ v.loads
  pub raised : w.raised ≡ count
  pub done : w.done ≡ v.done

-- how many claims and pieces of work are left at most
abbrev pub left_of : ℕ → Option ℕ → RoundView → ℕ
left_of count None v = 0
left_of count (Some piece) v = suc (count - length v.board.claims)

-- an environment of these names, whose first rows are those for which words stand
pub record IsMade (u : Listing) (ns : List Bytes) (words : List ℕ) (count : ℕ) (env : Environment) : Type 0 where
  pub names : names_of env ≡ ns
  pub rows : (k : ℕ) → k < count → slice_index_or (rows_of env) k [] ≡ slice_index_or (rows_of (environment_of u ns words)) k []

-- there is room for so many words of a row that is loaded, and of one that is at hand
abbrev pub HasRoom : ℕ → RowRoom → Type 0
HasRoom wide room = (length room.loaded.items ≡ wide) × (length room.own.items ≡ wide)
