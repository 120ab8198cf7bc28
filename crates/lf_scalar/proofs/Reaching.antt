-- Going over a line between quotes piece by piece.
use Rattle.std.proofs.Common.{◌≡◌, ℕ, zero, suc, ◌+◌, ◌≤◌, Bool, true, false, cond, List, [], ◌∷◌, ◌++◌, Option, Some, None, length, drop, refl, ap, arith, append_assoc, sym, ◌∙◌, inl, inr, ◌&&◌}
use Rattle.std.specs.Prelude.{option_map}
use Rattle.std.specs.List.{flat_map, list_all, AllByRecursion}
use Rattle.std.proofs.lemmas.List.{append-nil, length-append, drop_all, drop-drop}
use Rattle.std.proofs.lemmas.List.Concat.{flat_map-cons}
use Rattle.std.proofs.lemmas.Grind.{flat_map-append}
use Rattle.std.proofs.Math.Seq.{drop-append_seam}
use Rattle.std.proofs.Math.Bool.{and-false}
use Rattle.lf_scalar.specs.declared.escapes.PieceValue.{PieceValue}
use Rattle.lf_scalar.specs.declared.escapes.PieceValue.TheVariants as values
use Rattle.lf_scalar.specs.Cells.{Cell, cell, cells}
use Rattle.lf_scalar.specs.Folding.{trimmed}
use Rattle.lf_scalar.specs.Quoted.{Quotes, QuotedPiece, spelled, given, IsQuotedPiece, is_bare_blank}
use Rattle.lf_scalar.specs.reading.Quoted.{piece_of, piece_at, as_piece, as_value, is_blank_value, scan, Reaches}
use Rattle.lf_scalar.proofs.Pieces.{Starts, starts, head_of, tail_of, spelled-is, piece-one, NoPiece, scan-again}
use Rattle.lf_laws.proofs.Members.{all_append}

abbrev seen : List Cell × (Bool × ℕ) → Option (List Cell × (Bool × ℕ))
seen x = Some x

seen-is : (x y : List Cell × (Bool × ℕ)) → seen x ≡ seen y → x ≡ y
seen-is x y e = cc

none-seen : {X : Type 0} (x : List Cell × (Bool × ℕ)) → None ≡ seen x → X
none-seen x e = absurd cc

pub drop-cells : (n at : ℕ) (xs : List ℕ) → drop n (cells at xs) ≡ cells (at + n) (drop n xs)
drop-cells zero at xs = ap (λ (k : ℕ). cells k xs) (zero-more at)
  where
    zero-more : (k : ℕ) → k ≡ k + 0
    zero-more k = omega arith
drop-cells (suc n) at [] = refl
drop-cells (suc n) at (x ∷ xs) = drop-cells n (suc at) xs ∙ ap (λ (k : ℕ). cells k (drop n xs)) (suc-more at n)
  where
    suc-more : (k n : ℕ) → suc k + n ≡ k + suc n
    suc-more k n = omega arith

-- the piece that the code found at the front of some bytes
pub record Front (kind : Quotes) (at : ℕ) (rest : List ℕ) (g : PieceValue) (k : ℕ) : Type 0 where
  pub piece : QuotedPiece
  pub is_piece : IsQuotedPiece kind piece
  pub gives : given piece ≡ (as_value at (g, 0)).0
  pub blank : is_bare_blank piece ≡ is_blank_value g
  pub source : cells at rest ≡ spelled piece ++ cells (at + (1 + k)) (drop (1 + k) rest)

value-cells : (at : ℕ) (g : PieceValue) (k : ℕ) → ((as_value at (g, k)).0 ≡ (as_value at (g, 0)).0) × ((as_value at (g, k)).1.0 ≡ is_blank_value g) × ((as_value at (g, k)).1.1 ≡ k)
value-cells at (values.Byte b) k = (refl, refl, refl)
value-cells at (values.Char n) k = (refl, refl, refl)

pub front : (kind : Quotes) (at : ℕ) (rest : List ℕ) (g : PieceValue) (k : ℕ) → seen (as_value at (g, k)) ≡ option_map as_piece (piece_at kind at rest) → Front kind at rest g k
front kind at [] g k e = none-seen (as_value at (g, k)) (sym e)
front kind at (b ∷ bytes) g k e =
    elim (starts kind (cell b at) (cells (suc at) bytes)) [
      | inr n ↦ none-seen (as_value at (g, k)) (sym (e ∙ rw n refl))
      | inl s ↦ found s
    ]
  where
    found : Starts kind (cell b at ∷ cells (suc at) bytes) → Front kind at (b ∷ bytes) g k
    found s =
        let whole : cell b at ∷ cells (suc at) bytes ≡ head_of s.piece ∷ (tail_of s.piece ++ s.rest) = s.source ∙ spelled-is s.piece s.rest in
        let i : cell b at ≡ head_of s.piece = cc in
        let j : cells (suc at) bytes ≡ tail_of s.piece ++ s.rest = cc in
        let one : piece_of kind (cell b at) (cells (suc at) bytes) ≡ Some (s.piece, length (tail_of s.piece)) = rw (i, j) (piece-one kind s.piece s.rest s.is_piece) in
        let same : as_value at (g, k) ≡ (given s.piece, (is_bare_blank s.piece, length (tail_of s.piece))) = seen-is (as_value at (g, k)) (given s.piece, (is_bare_blank s.piece, length (tail_of s.piece))) (e ∙ rw one refl) in
        let parts = value-cells at g k in
        let size : length (tail_of s.piece) ≡ k = sym (ap (λ (x : List Cell × (Bool × ℕ)). x.1.1) same) ∙ parts.2 in
        let long : length (spelled s.piece ++ []) ≡ suc (length (tail_of s.piece ++ [])) = ap length (spelled-is s.piece []) in
        let n : length (spelled s.piece) ≡ 1 + k = omega (arith, long, ap length (append-nil (spelled s.piece)), ap length (append-nil (tail_of s.piece)), size) in
        let left : s.rest ≡ cells (at + (1 + k)) (drop (1 + k) (b ∷ bytes)) =
        sym (drop-append_seam (spelled s.piece) s.rest) ∙ ap (drop (length (spelled s.piece))) (sym s.source) ∙ ap (λ (m : ℕ). drop m (cells at (b ∷ bytes))) n ∙ drop-cells (1 + k) at (b ∷ bytes) in
        record {
          piece = s.piece;
          is_piece = s.is_piece;
          gives = sym (ap (λ (x : List Cell × (Bool × ℕ)). x.0) same) ∙ parts.0;
          blank = sym (ap (λ (x : List Cell × (Bool × ℕ)). x.1.0) same) ∙ parts.1;
          source = s.source ∙ ap (λ (cs : List Cell). spelled s.piece ++ cs) left;
        }

pub none-front : (kind : Quotes) (at : ℕ) (rest : List ℕ) → None ≡ option_map as_piece (piece_at kind at rest) → NoPiece kind (cells at rest)
none-front kind at [] e = tt
none-front kind at (b ∷ bytes) e = by (piece_of kind (cell b at) (cells (suc at) bytes)) e
  where
    by : (o : Option (QuotedPiece × ℕ)) → None ≡ option_map as_piece o → o ≡ None
    by None e = refl
    by (Some x) e = none-seen (as_piece x) e

-- ---- blanks at the end

all-blank : {X : Type 0} (t : X → Bool) (xs : List X) (x : X) → t x ≡ true → list_all t (xs ++ x ∷ []) ≡ list_all t xs
all-blank t [] x h = rw h refl
all-blank t (y ∷ ys) x h = ap (λ (b : Bool). t y && b) (all-blank t ys x h)

all-full : {X : Type 0} (t : X → Bool) (xs : List X) (x : X) → t x ≡ false → list_all t (xs ++ x ∷ []) ≡ false
all-full t [] x h = rw h refl
all-full t (y ∷ ys) x h = rw (all-full t ys x h) (and-false (t y))

trimmed-blank : {X : Type 0} (t : X → Bool) (xs : List X) (x : X) → t x ≡ true → trimmed t (xs ++ x ∷ []) ≡ trimmed t xs
trimmed-blank t [] x h = rw h refl
trimmed-blank t (y ∷ ys) x h = rw (all-blank t ys x h, trimmed-blank t ys x h) refl

trimmed-full : {X : Type 0} (t : X → Bool) (xs : List X) (x : X) → t x ≡ false → trimmed t (xs ++ x ∷ []) ≡ xs ++ x ∷ []
trimmed-full t [] x h = rw h refl
trimmed-full t (y ∷ ys) x h = rw (all-full t ys x h, trimmed-full t ys x h, and-false (t y)) refl

-- ---- so far

pub record SoFar (kind : Quotes) (at : ℕ) (line : List ℕ) (old now : List Cell) (kept stop : ℕ) : Type 0 where
  pub pieces : List QuotedPiece
  pub each : AllByRecursion (IsQuotedPiece kind) pieces
  pub source : cells at line ≡ flat_map spelled pieces ++ cells (at + stop) (drop stop line)
  pub text : now ≡ old ++ flat_map given pieces
  pub kept_is : kept ≡ length old + length (flat_map given (trimmed is_bare_blank pieces))

pub all-of : (kind : Quotes) (at : ℕ) (line : List ℕ) (old now : List Cell) (kept stop : ℕ) → SoFar kind at line old now kept stop → NoPiece kind (cells (at + stop) (drop stop line)) → Reaches kind (cells at line) old now kept (cells (at + stop) (drop stop line))
all-of kind at line old now kept stop r none =
    let s : scan kind 0 (cells at line) ≡ (r.pieces, cells (at + stop) (drop stop line)) = ap (scan kind 0) r.source ∙ scan-again kind r.pieces (cells (at + stop) (drop stop line)) r.each none in
    record { text = rw s r.text; left_is = rw s refl; kept_is = rw s r.kept_is }

pub nothing-left : (kind : Quotes) (at stop : ℕ) (line : List ℕ) → length line ≤ stop → NoPiece kind (cells (at + stop) (drop stop line))
nothing-left kind at stop line le = rw (drop_all stop line le) tt

flat-push : (f : QuotedPiece → List Cell) (ps : List QuotedPiece) (p : QuotedPiece) → flat_map f (ps ++ p ∷ []) ≡ flat_map f ps ++ f p
flat-push f ps p = flat_map-append f ps (p ∷ []) ∙ ap (λ (x : List Cell). flat_map f ps ++ x) (flat_map-cons f p [] ∙ append-nil (f p))

pub one-more : (kind : Quotes) (at : ℕ) (line : List ℕ) (old now after : List Cell) (kept new stop : ℕ) (g : PieceValue) (k : ℕ) → SoFar kind at line old now kept stop → Front kind (at + stop) (drop stop line) g k
    → after ≡ now ++ (as_value (at + stop) (g, 0)).0 → new ≡ cond (is_blank_value g) kept (length after) → SoFar kind at line old after new (stop + (1 + k))
one-more kind at line old now after kept new stop g k r f a n =
    let text : after ≡ old ++ flat_map given (r.pieces ++ f.piece ∷ []) =
    a ∙ ap (λ (x : List Cell). x ++ (as_value (at + stop) (g, 0)).0) r.text ∙ append_assoc old (flat_map given r.pieces) (as_value (at + stop) (g, 0)).0
    ∙ ap (λ (x : List Cell). old ++ (flat_map given r.pieces ++ x)) (sym f.gives) ∙ ap (λ (x : List Cell). old ++ x) (sym (flat-push given r.pieces f.piece)) in
    let p : at + stop + (1 + k) ≡ at + (stop + (1 + k)) = omega arith in
    let left : cells (at + stop + (1 + k)) (drop (1 + k) (drop stop line)) ≡ cells (at + (stop + (1 + k))) (drop (stop + (1 + k)) line) =
    ap (λ (m : ℕ). cells m (drop (1 + k) (drop stop line))) p ∙ ap (cells (at + (stop + (1 + k)))) (drop-drop (1 + k) stop line) in
    record {
      pieces = r.pieces ++ f.piece ∷ [];
      each = all_append (IsQuotedPiece kind) r.pieces (f.piece ∷ []) r.each (f.is_piece, tt);
      source = r.source ∙ ap (λ (x : List Cell). flat_map spelled r.pieces ++ x) (f.source ∙ ap (λ (x : List Cell). spelled f.piece ++ x) left)
          ∙ sym (append_assoc (flat_map spelled r.pieces) (spelled f.piece) (cells (at + (stop + (1 + k))) (drop (stop + (1 + k)) line)))
          ∙ ap (λ (x : List Cell). x ++ cells (at + (stop + (1 + k))) (drop (stop + (1 + k)) line)) (sym (flat-push spelled r.pieces f.piece));
      text = text;
      kept_is = n ∙ by (is_blank_value g) f.blank text;
    }
  where
    by : (b : Bool) → is_bare_blank f.piece ≡ b → after ≡ old ++ flat_map given (r.pieces ++ f.piece ∷ []) → cond b kept (length after) ≡ length old + length (flat_map given (trimmed is_bare_blank (r.pieces ++ f.piece ∷ [])))
    by true e t = rw (trimmed-blank is_bare_blank r.pieces f.piece e) r.kept_is
    by false e t = rw (trimmed-full is_bare_blank r.pieces f.piece e) (ap length t ∙ length-append old (flat_map given (r.pieces ++ f.piece ∷ [])))

pub none-given : (at : ℕ) (o : Option (PieceValue × ℕ)) → ((x : PieceValue × ℕ) → o ≡ Some x → ⊥) → None ≡ option_map (as_value at) o
none-given at None h = refl
none-given at (Some x) h = absurd (h x refl)
