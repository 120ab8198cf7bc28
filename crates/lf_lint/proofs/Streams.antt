-- Bytes that are written or read piece by piece.
use Rattle.std.proofs.Common.{◌≡◌, ℕ, ◌+◌, ◌-◌, ◌<◌, List, [], ◌++◌, take, drop, length, Option, Some, None, Ok, arith, append_assoc, append-nil, refl, length-append}
use Rattle.std.proofs.Math.Seq.{drop-append_seam, take-add}
use Rattle.std.proofs.lemmas.List.{take-append-drop}
use Rattle.std.proofs.lemmas.Grind.{common_steps}
use Rattle.lf_base.specs.declared.outside.Failed.{Failed}
use Rattle.lf_base.specs.Outside.{ReadsBytes, Takes}
use Rattle.lf_lint.specs.Ends.{Wrote}
use Rattle.lf_lint.specs.Read.{AreAsTold}

-- the rest of a list from a place on
pub rest_of : (xs : List ℕ) (k : ℕ) → take (length xs - k) (drop k xs) ≡ drop k xs
rest_of xs k = grind (arith, common_steps)

-- what was written grows by the bytes that a call takes
pub wrote_more : (before now later : Option (List ℕ)) (bytes : List ℕ) (written count : ℕ)
    → Wrote before now (take written bytes) → Takes {E = Failed} now later (take (length bytes - written) (drop written bytes)) (Ok count) → Wrote before later (take (written + count) bytes)
wrote_more None now later bytes written count w t = tt
wrote_more (Some old) None later bytes written count w t = cc
wrote_more (Some old) (Some mid) later bytes written count w t = rw (take-add, ← append_assoc) (let e = rw rest_of at t in cc)

-- the bytes that were read and those that are left are together those held, where the object tells them
abbrev pub IsReadSoFar : Option (List ℕ) → Option (List ℕ) → List ℕ → Type 0
IsReadSoFar None left bytes = Unit {0}
IsReadSoFar (Some held) None bytes = ⊥
IsReadSoFar (Some held) (Some left) bytes = held ≡ bytes ++ left

-- what was read grows by the bytes that a call gives
pub read_more : (held left later : Option (List ℕ)) (old new : List ℕ) (filled count : ℕ) → IsReadSoFar held left (take filled old) → take filled new ≡ take filled old
    → ReadsBytes left later (drop filled new) count → IsReadSoFar held later (take (filled + count) new)
read_more None left later old new filled count h e r = tt
read_more (Some held) None later old new filled count h e r = absurd h
read_more (Some held) (Some left) None old new filled count h e r = absurd (cc (r.1))
read_more (Some held) (Some left) (Some rest) old new filled count h e r =
    let f : rest ≡ drop count left = cc (r.1) in
    let g : take count left ++ drop count left ≡ left = take-append-drop count left in
    rw (take-add, append_assoc, e, r.0, f, g) h

-- a read of no bytes is the end of the file
pub read_all : (held left later : Option (List ℕ)) (bytes buffer : List ℕ) (count : ℕ) → IsReadSoFar held left bytes → ReadsBytes left later buffer count → count ≡ 0 → AreAsTold held bytes
read_all None left later bytes buffer count h r z = tt
read_all (Some held) None later bytes buffer count h r z = absurd h
read_all (Some held) (Some left) later bytes buffer count h r z =
    let e : left ≡ [] = r.2.0 z in
    cc (append-nil bytes)

-- a file of which more than so many bytes were read has more than so many, and what is left is what follows them
pub read_past : (held left : Option (List ℕ)) (bytes : List ℕ) (most : ℕ) → IsReadSoFar held left bytes → length bytes ≡ most + 1
    → (whole : List ℕ) × AreAsTold held whole × (most < length whole) × AreAsTold left (drop (most + 1) whole)
read_past None None bytes most h l = (bytes, tt, omega arith, tt)
read_past None (Some left) bytes most h l = (bytes ++ left, tt, omega (arith, length-append bytes left), rw (← l, drop-append_seam) refl)
read_past (Some held) None bytes most h l = absurd h
read_past (Some held) (Some left) bytes most h l = (held, refl, rw h (omega (arith, length-append bytes left)), rw (h, ← l, drop-append_seam) refl)
