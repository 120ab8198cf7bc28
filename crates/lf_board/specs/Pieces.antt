-- Pieces of work, their numbers and their values.
use Rattle.std.specs.Prelude.{◌≡◌, ℕ, ◌<◌, List, map, length, Some, Ok, Result, slice_get}
use denote.Param.Members.{Shared}
use Rattle.lf_base.specs.declared.memory.Memory.{Memory}
use Rattle.lf_board.specs.declared.pieces.Piece.{Piece}

-- The numbers of pieces, in their order.
abbrev pub numbers_of : {T : Type 0} → List (Piece T) → List ℕ
numbers_of pieces = map (λ p. p.number) pieces

-- The value of the piece stands at its number.
abbrev pub StandsAt : {T : Type 0} → List T → Piece T → Type 0
StandsAt values p = slice_get values p.number ≡ Some p.value

-- Work on pieces, which may fail for want of memory.
abbrev pub Work : Type 0 → Type 0 → Type 1
Work F T = Shared F (ℕ × Unit {0}) (Result T Memory)

-- The work may be done on each of n pieces.
abbrev pub MayWork : {F T : Type 0} → Work F T → F → ℕ → Type 0
MayWork g work n = (i : ℕ) → i < n → g.pre work (i, tt)

-- There are n values, and the work gives each at its place.
pub record IsMapOf {F T : Type 0} (g : Work F T) (work : F) (n : ℕ) (values : List T) : Type 0 where
  pub count : length values ≡ n
  pub each : (i : ℕ) → i < n → (x : T) × (slice_get values i ≡ Some x) × g.post work (i, tt) (Ok x)
