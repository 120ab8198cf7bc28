-- A character of a source ends in it.
use Rattle.std.proofs.Common.{◌≡◌, ℕ, zero, suc, ◌+◌, ◌-◌, ◌*◌, ◌<◌, ◌≤◌, List, [], ◌∷◌, length, map, refl, arith, ◌∙◌, subst, inl, inr}
use Rattle.std.specs.Str.{IsUtf8, chars, chars_after, continuation_len}
use Rattle.std.proofs.Math.Utf8.{encodes}
use Rattle.std.proofs.lemmas.Bool.{cases_lt}
use Rattle.std.proofs.lemmas.Str.{chars_from_encodes}
use Rattle.lf_base.specs.declared.kind.Kind.{Kind}
use Rattle.lf_base.specs.declared.place.Span.{Span}
use Rattle.lf_base.specs.Faults.{span, LiesIn}
use Rattle.std.proofs.lemmas.List.{length-map}
use Rattle.lf_scalar.specs.Cells.{Cell, bytes_of, character_fault}
use Rattle.lf_scalar.proofs.Parts.{Utf8}
use Rattle.lf_scalar.proofs.Rising.{Rises}

-- too few bytes make no character
too_few : (n c : ℕ) (bs : List ℕ) → length bs < n → chars_after n c bs ≡ []
too_few zero c bs lt = absurd (omega (arith, lt))
too_few (suc n) c [] lt = refl
too_few (suc n) c (b ∷ bs) lt = too_few n (c * 64 + (b - 128)) bs (omega (arith, lt))

abbrev nothing : List ℕ
nothing = []

some_byte : (b : ℕ) (bs : List ℕ) → nothing ≡ b ∷ bs → ⊥
some_byte b bs e = cc

-- as many bytes as the first of a text asks for follow it
pub bytes_follow : (b : ℕ) (bs : List ℕ) → IsUtf8 (b ∷ bs) → continuation_len b ≤ length bs
unfolding chars
bytes_follow b bs u =
    elim (cases_lt (length bs) (continuation_len b)) [
      | inl lt ↦
          let none : u.0 ≡ nothing = chars_from_encodes u.0 (b ∷ bs) u u.1.1 ∙ too_few (continuation_len b) _ bs lt in
          let same : encodes nothing ≡ b ∷ bs = subst (λ (cs : List ℕ). encodes cs ≡ b ∷ bs) none u.1.1 in
          absurd (some_byte b bs same)
      | inr le ↦ le
    ]

rises_length : (lo : ℕ) (cs : List Cell) (hi : ℕ) → Rises lo cs hi → lo + length cs ≤ hi
rises_length lo [] hi h = omega (arith, h)
rises_length lo (c ∷ cs) hi h = let k = rises_length (suc c.at) cs hi h.1 in omega (arith, h.0, k)

bytes_length : (cs : List Cell) → length (map (λ (c : Cell). c.byte) cs) ≡ length cs
bytes_length cs = length-map cs (λ (c : Cell). c.byte)

-- the character that some cells begin with ends before the offset that they stand before
pub character_lies : (lo : ℕ) (c : Cell) (cs : List Cell) (hi : ℕ) → Utf8 (c ∷ cs) → Rises lo (c ∷ cs) hi → (kind : Kind) → LiesIn hi (character_fault kind c).span
character_lies lo c cs hi u r kind =
    let few : continuation_len c.byte ≤ length (bytes_of cs) = bytes_follow c.byte (bytes_of cs) u in
    let long : suc c.at + length cs ≤ hi = rises_length (suc c.at) cs hi r.1 in
    (omega arith, omega (arith, few, long, bytes_length cs))

-- so does its first byte
pub byte_lies : (at hi : ℕ) → suc at ≤ hi → LiesIn hi (span at (at + 1))
byte_lies at hi le = (omega arith, omega (arith, le))

pub lies_further : (n m : ℕ) (place : Span) → n ≤ m → LiesIn n place → LiesIn m place
lies_further n m place le h = (h.0, omega (arith, le, h.1))
