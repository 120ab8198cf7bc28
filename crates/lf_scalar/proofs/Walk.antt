-- Going over so many lines of a body, a place after the other.
use Rattle.std.proofs.Common.{◌≡◌, ℕ, suc, ◌+◌, ◌-◌, ◌<◌, ◌≤◌, List, [], ◌∷◌, length, take, drop, refl, ap, arith}
use Rattle.std.proofs.lemmas.List.{length-drop}
use Rattle.lf_scalar.specs.Lines.{Line, lines, lines_at}
use Rattle.lf_scalar.proofs.BodyRun.{line_there}

-- the lines that are left of so many, i of which were read
abbrev pub lines_left : ℕ → List ℕ → ℕ → ℕ → ℕ → List Line
lines_left at bytes count i place = take (count - i) (lines_at (at + place) (drop place bytes))

pub record Walk (at : ℕ) (bytes : List ℕ) (count i place : ℕ) : Type 0 where
  pub enough : count ≤ i + length (lines_at (at + place) (drop place bytes))
  pub within : place ≤ length bytes + 1
  pub slow : i ≤ place

some-bytes : (at : ℕ) (bytes : List ℕ) → 0 < length (lines_at at bytes) → 0 < length bytes
unfolding lines
some-bytes at [] h = h
some-bytes at (x ∷ xs) h = omega arith

pub walk-start : (at : ℕ) (bytes : List ℕ) (count : ℕ) → count ≤ length (lines_at at bytes) → Walk at bytes count 0 0
walk-start at bytes count h =
    let z : at + 0 ≡ at = omega arith in
    record { enough = rw z (omega (arith, h)); within = omega arith; slow = omega arith }

pub left-start : (at : ℕ) (bytes : List ℕ) (count : ℕ) → lines_left at bytes count 0 0 ≡ take count (lines_at at bytes)
left-start at bytes count =
    let z : at + 0 ≡ at = omega arith in
    let n : count - 0 ≡ count = omega arith in
    rw (z, n) refl

pub left-end : (at : ℕ) (bytes : List ℕ) (count i place : ℕ) → count ≤ i → lines_left at bytes count i place ≡ []
left-end at bytes count i place h =
    let n : count - i ≡ 0 = omega arith in
    rw n refl

module _ (at : ℕ) (bytes : List ℕ) (count i place : ℕ) (w : Walk at bytes count i place) (lt : i < count) where
  pub walk-inside : place < length bytes
  walk-inside =
      let h = some-bytes (at + place) (drop place bytes) (omega (arith, w.enough)) in
      omega (arith, length-drop place bytes)

  module _ (text feed : ℕ)
      (first : lines_at (at + place) (drop place bytes) ≡ line_there at bytes place text (place + feed) ∷ lines_at (at + (place + (feed + 1))) (drop (place + (feed + 1)) bytes)) where
    pub walk-on : place + feed ≤ length bytes → Walk at bytes count (i + 1) (place + (feed + 1))
    walk-on h = record { enough = omega (arith, w.enough, ap length first); within = omega arith; slow = omega (arith, w.slow) }

    pub left-next : lines_left at bytes count i place ≡ line_there at bytes place text (place + feed) ∷ lines_left at bytes count (i + 1) (place + (feed + 1))
    left-next =
        let n : count - i ≡ suc (count - (i + 1)) = omega arith in
        rw (n, first) refl
