-- The scalar that is a part of one line as it stands.
use Rattle.std.proofs.Common.{◌≡◌, ℕ, zero, suc, ◌+◌, ◌<◌, ◌≤◌, List, [], ◌∷◌, ◌++◌, length, get_or, take, length-take, Result, Ok, refl, ap, arith, sym, ◌∙◌}
use Rattle.std.proofs.lemmas.List.Sorted.{IsNonDecreasingBy-from_default}
use Rattle.lf_base.specs.declared.place.Span.{Span}
use Rattle.lf_base.specs.Faults.{span}
use Rattle.lf_scalar.specs.Cells.{Cell, cells, Value, made, bytes_of, offsets_of}
use Rattle.lf_scalar.specs.Offsets.{AreOffsets}
use Rattle.lf_base.specs.declared.fault.Fault.{Fault}
use Rattle.lf_scalar.specs.Cells.{end_of}
use Rattle.lf_scalar.proofs.Ascents.{offsets-push, cells-offsets, offsets-length}
use Rattle.lf_scalar.proofs.Cells.{cells-bytes}
use Rattle.lf_yaml.specs.Heads.{Bare}
use Rattle.lf_yaml.specs.reading.Trees.{key_of}
use Rattle.lf_scalar.specs.views.Ascending.{offsets_from}

pub offsets-get : (at n i : ℕ) → i < n → get_or (offsets_from at n) i 0 ≡ at + i
offsets-get at zero i lt = absurd (omega arith)
offsets-get at (suc n) zero lt = omega arith
offsets-get at (suc n) (suc i) lt = offsets-get (suc at) n i (omega arith) ∙ omega arith

-- what a scalar's text and offsets are that stands as it is
pub made-is : (at : ℕ) (xs : List ℕ) (place : Span) → record { text = xs; from = offsets_from at (length xs + 1); span = place } ≡ made (cells at xs) (at + length xs) place
made-is at xs place =
    let n : length xs + 1 ≡ suc (length xs) = omega arith in
    let text : xs ≡ bytes_of (cells at xs) = sym (cells-bytes at xs) in
    let from : offsets_from at (length xs + 1) ≡ offsets_of (cells at xs) ++ (at + length xs) ∷ [] =
    ap (offsets_from at) n ∙ sym (offsets-push at (length xs)) ∙ ap (λ (ys : List ℕ). ys ++ (at + length xs) ∷ []) (sym (cells-offsets at xs)) in
    value text from
  where
    value : {t u : List ℕ} {f g : List ℕ} → t ≡ u → f ≡ g → (let x : Value = record { text = t; from = f; span = place } in x) ≡ (let y : Value = record { text = u; from = g; span = place } in y)
    value {t = t} {u = u} {f = f} {g = g} e h = ap (λ (x : List ℕ). let v : Value = record { text = x; from = f; span = place } in v) e ∙ ap (λ (x : List ℕ). let v : Value = record { text = u; from = x; span = place } in v) h

-- such offsets never fall
pub ascending : (at : ℕ) (xs : List ℕ) (place : Span) → place.start ≤ at → at + length xs ≤ place.end → AreOffsets xs (offsets_from at (length xs + 1)) place
ascending at xs place start end = (
  offsets-length at (length xs + 1),
  IsNonDecreasingBy-from_default (λ x. x) (offsets_from at (length xs + 1)) 0 (λ i j le lt.
      let n : length (offsets_from at (length xs + 1)) ≡ length xs + 1 = offsets-length at (length xs + 1) in
      omega (arith, offsets-get at (length xs + 1) i (omega (arith, n, lt, le)), offsets-get at (length xs + 1) j (omega (arith, n, lt)), le)),
  omega (arith, start, offsets-get at (length xs + 1) 0 (omega arith)),
  omega (arith, end, offsets-get at (length xs + 1) (length xs) (omega arith)),
)

pub end-of-cells : (none at : ℕ) (xs : List ℕ) → none ≡ at → end_of none (cells at xs) ≡ at + length xs
end-of-cells none at [] e = omega (arith, e)
end-of-cells none at (x ∷ xs) e = end-of-cells (suc at) (suc at) xs refl ∙ omega arith

-- the scalar of a key without quotes
pub bare-key : (first : Cell) (rest : List Cell) (at len : ℕ) (part text : List ℕ) → first.at ≡ at → len ≤ length text → part ≡ take len text
    → Ok (made (cells at part) (at + length part) (span at (at + len))) ≡ key_of first rest (Bare (cells at (take len text)))
unfolding key_of
bare-key first rest at len part text e le h =
    let n : length (take len text) ≡ len = omega (arith, length-take len text) in
    let end : at + length (take len text) ≡ end_of first.at (cells at (take len text)) = sym (end-of-cells first.at at (take len text) e) in
    let whole : at + len ≡ end_of first.at (cells at (take len text)) = (omega (arith, n) ∙ end) in
    ap (λ (xs : List ℕ). Ok (made (cells at xs) (at + length xs) (span at (at + len)))) h
    ∙ ap (λ (m : ℕ). Ok (made (cells at (take len text)) m (span at (at + len)))) end
    ∙ ap (λ (m : ℕ). Ok (made (cells at (take len text)) (end_of first.at (cells at (take len text))) (span at m))) whole
    ∙ ap (λ (m : ℕ). Ok (made (cells at (take len text)) (end_of first.at (cells at (take len text))) (span m (end_of first.at (cells at (take len text)))))) (sym e)

-- plain scalars in flow collections
abbrev pub good : Value → Result Value Fault
good v = Ok v
