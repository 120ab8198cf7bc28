-- The claim word of a board and what its seats know, the rule between the two, and what the three kinds of step do: a claim, a split and a join.
use Rattle.std.specs.Prelude.{◌≡◌, ℕ, ◌+◌, ◌-◌, ◌<◌, ◌≤◌, min, if◌then◌else◌, ◌==◌, List, [], ◌∷◌, ◌++◌, length, slice_index, sum_by}
use mathlib.Core.Option.{some}
use lib.ListN.{get_elem?}
use Rattle.atomic_table.specs.Table.{State, Me, Step}
use Rattle.lf_board.specs.declared.rule.View.{View}
use Rattle.lf_board.specs.declared.rule.Counts.{Counts}
use Rattle.lf_board.specs.Numbers.{times, once_below}

-- What an open seat may come to: a seat is open while none of its claims found nothing.
abbrev pub open_share : View → ℕ
open_share v = if v.missed == 0 then v.share else 0

-- A seat in use knows how many pieces and seats there are. One that was joined to another has nothing left.
abbrev pub Fits : Counts → View → Type 0
Fits k v = (0 < v.share → (v.pieces ≡ k.pieces) × (v.seats ≡ k.seats)) × (v.share ≡ 0 → (v.missed ≡ 0) × (v.claims ≡ []))

-- The rule of the claim word and the views of all seats, which holds between any two steps of any seats.
pub record Holds (k : Counts) (word : ℕ) (views : List View) : Type 0 where
  -- The word is the number of all claims: those that got a piece, and those that found nothing.
  pub summed : sum_by (λ v. length v.claims) views + sum_by (λ v. v.missed) views ≡ word
  -- Each number below the word that is a piece was given once, to one seat, and no other number was given.
  pub each_once : (x : ℕ) → sum_by (λ v. times x v.claims) views ≡ once_below (min word k.pieces) x
  -- So many pieces were given.
  pub given : sum_by (λ v. length v.claims) views ≡ min word k.pieces
  -- Each claim that found nothing closed a seat for good: with what the open seats may come to they are at most the seats.
  pub bounded : sum_by (λ v. v.missed) views + sum_by open_share views ≤ k.seats
  -- The seats in use and their rooms make the number of seats.
  pub shared : sum_by (λ v. v.share) views ≡ k.seats
  pub fits : (id : ℕ) (v : View) → get_elem? views id ≡ some v → Fits k v

-- The rule of a board's table: it has one word.
abbrev pub Kept : Counts → State (Unit {0}) View → Type 0
Kept k s = (length s.words ≡ 1) × Holds k (slice_index s.words 0) s.views

-- The first seat may come to all seats, and has claimed nothing.
abbrev pub opening_view : Counts → View
opening_view k = record { pieces = k.pieces; seats = k.seats; share = k.seats; missed = 0; claims = [] }

-- A claim: the word that it found is the seat's new piece, if it is below the count. Else the claim found nothing.
abbrev pub claimed : Step (Unit {0}) → Me (Unit {0}) View → ℕ → Me (Unit {0}) View → Type 0
claimed step me found after =
    (after.1 ≡ me.1)
    × (found < me.0.pieces → (after.0 ≡ record me.0 { claims = me.0.claims ++ found ∷ [] }) × (length me.0.claims < me.0.pieces) × (times found me.0.claims ≡ 0))
    × (me.0.pieces ≤ found → after.0 ≡ record me.0 { missed = me.0.missed + 1 })

-- A split: what is left of the seat's share when a new seat with this room is taken out of it.
abbrev pub left_of : ℕ → View → View
left_of room v = record v { share = v.share - (room + 1) }

-- The new seat, which has claimed nothing.
abbrev pub right_of : ℕ → View → View
right_of room v = record v { share = room + 1; missed = 0; claims = [] }

-- A join: one seat takes all that the other has.
abbrev pub both_of : View → View → View
both_of v w = record v { share = v.share + w.share; missed = v.missed + w.missed; claims = v.claims ++ w.claims }

-- The other has nothing left.
abbrev pub spent_view : View
spent_view = record { pieces = 0; seats = 0; share = 0; missed = 0; claims = [] }
