-- What a line is to a block scalar's body, by its spaces.
use Rattle.std.proofs.Common.{◌≡◌, ◌==◌, ℕ, suc, ◌+◌, ◌<◌, ◌≤◌, Bool, true, false, leb, nat_lt, ◌&&◌, List, [], ◌∷◌, Some, None, length, refl, arith, ◌∙◌, inl, inr}
use Rattle.lf_base.specs.declared.kind.Kind.TheVariants.{BadIndent}
use Rattle.lf_base.specs.Faults.{span, fault}
use Rattle.std.specs.List.{list_all}
use Rattle.std.proofs.lemmas.Bool.Decides.{eqb_tells, leb_tells}
use Rattle.lf_scalar.specs.Cells.{Cell, cells, end_of}
use Rattle.lf_scalar.specs.Lines.{Line, line, start_of, indent_of, is_spaces}
use Rattle.lf_scalar.specs.Plain.{has_tab}
use Rattle.lf_scalar.specs.Block.{in_body, body_fault}
use Rattle.lf_scalar.proofs.Tails.{true-false}
use Rattle.lf_scalar.proofs.Cells.{cells-length}

abbrev all_spaces : List Cell → Bool
all_spaces cs = list_all (λ c. c.byte == 32) cs

indent-all : (cs : List Cell) → length cs ≤ indent_of cs → all_spaces cs ≡ true
indent-all [] h = refl
indent-all (c ∷ cs) h =
    elim (eqb_tells c.byte 32) [
      | inl a ↦ rw a.0 (indent-all cs (let k = rw a.0 at h in omega arith))
      | inr a ↦ absurd (let k = rw a.0 at h in omega arith)
    ]

indent-some : (cs : List Cell) → indent_of cs < length cs → all_spaces cs ≡ false
indent-some [] h = absurd (omega arith)
indent-some (c ∷ cs) h =
    elim (eqb_tells c.byte 32) [
      | inl a ↦ rw a.0 (indent-some cs (let k = rw a.0 at h in omega arith))
      | inr a ↦ rw a.0 refl
    ]

module _ (at : ℕ) (bytes : List ℕ) (n feed : ℕ) (e : n ≡ indent_of (cells at bytes)) where
  high-is : (k : ℕ) → k ≤ n → leb k (indent_of (cells at bytes)) ≡ true
  high-is k h = elim (leb_tells k (indent_of (cells at bytes))) [ inl a ↦ a.0 | inr a ↦ absurd (omega (arith, a.1)) ]

  low-is : (k : ℕ) → n < k → leb k (indent_of (cells at bytes)) ≡ false
  low-is k h = elim (leb_tells k (indent_of (cells at bytes))) [ inl a ↦ absurd (omega (arith, a.1)) | inr a ↦ a.0 ]

  begun : (at : ℕ) (bytes : List ℕ) → n < length bytes → start_of (line (cells at bytes) feed) ≡ at
  begun at [] h = absurd (omega arith)
  begun at (x ∷ xs) h = refl

  pub are-spaces : length bytes ≤ n → is_spaces (line (cells at bytes) feed) ≡ true
  are-spaces h = indent-all (cells at bytes) (omega (arith, cells-length at bytes))

  pub have-text : n < length bytes → is_spaces (line (cells at bytes) feed) ≡ false
  have-text h = indent-some (cells at bytes) (omega (arith, cells-length at bytes))

  abbrev l : Line
  l = line (cells at bytes) feed

  module _ (leads : Bool) (above k : ℕ) where
    pub spaces-role : length bytes ≤ n → (leads && nat_lt k (length bytes)) ≡ false → (in_body k l ≡ true) × ((ls : List Line) → body_fault leads above k (l ∷ ls) ≡ body_fault leads above k ls)
    unfolding body_fault
    spaces-role h short = (rw (are-spaces h) refl, λ ls. rw (are-spaces h, cells-length at bytes, short) refl)

    pub spaces-long : length bytes ≤ n → (leads && nat_lt k (length bytes)) ≡ true → (ls : List Line) → body_fault leads above k (l ∷ ls) ≡ Some (fault BadIndent (span (at + length bytes) (at + length bytes)))
    unfolding body_fault
    spaces-long h long ls = rw (are-spaces h, cells-length at bytes, long, end-is at bytes (some leads long)) refl
      where
        some : (b : Bool) → (b && nat_lt k (length bytes)) ≡ true → 0 < length bytes
        some true e = elim (leb_tells (suc k) (length bytes)) [ inl a ↦ omega (arith, a.1) | inr a ↦ true-false (nat_lt k (length bytes)) e a.0 ]
        some false e = true-false false e refl

        end-is : (at : ℕ) (bytes : List ℕ) → 0 < length bytes → end_of feed (cells at bytes) ≡ at + length bytes
        end-is at [] h = absurd (omega arith)
        end-is at (x ∷ xs) h = behind at xs ∙ omega arith
          where
            behind : (at : ℕ) (xs : List ℕ) → end_of (suc at) (cells (suc at) xs) ≡ suc at + length xs
            behind at [] = omega arith
            behind at (x ∷ xs) = behind (suc at) xs ∙ omega arith

    pub text-role : n < length bytes → k ≤ n → (leads && has_tab l) ≡ false → (in_body k l ≡ true) × ((ls : List Line) → body_fault leads above k (l ∷ ls) ≡ body_fault false above k ls)
    unfolding body_fault
    text-role h high bare = let t = high-is k high in (rw (have-text h, t) refl, λ ls. rw (have-text h, t, bare) refl)

    pub text-tab : n < length bytes → k ≤ n → (leads && has_tab l) ≡ true → (ls : List Line) → body_fault leads above k (l ∷ ls) ≡ Some (fault BadIndent (span at (at + 1)))
    unfolding body_fault
    text-tab h high tab ls = let t = high-is k high in rw (have-text h, t, tab, begun at bytes h) refl

    pub behind-role : n < length bytes → n < k → (leb above n && has_tab l) ≡ false → (in_body k l ≡ false) × ((ls : List Line) → body_fault leads above k (l ∷ ls) ≡ None)
    unfolding body_fault
    behind-role h low bare = let t = low-is k low in (rw (have-text h, t) refl, λ ls. rw (have-text h, t, ← e, bare) refl)

    pub behind-tab : n < length bytes → n < k → (leb above n && has_tab l) ≡ true → (ls : List Line) → body_fault leads above k (l ∷ ls) ≡ Some (fault BadIndent (span at (at + 1)))
    unfolding body_fault
    behind-tab h low tab ls = let t = low-is k low in rw (have-text h, t, ← e, tab, begun at bytes h) refl
