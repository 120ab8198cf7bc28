-- A block scalar as the code reads it.
use Rattle.std.proofs.Common.{◌≡◌, ℕ, ◌+◌, ◌<◌, ◌≤◌, true, false, List, [], ◌∷◌, ◌++◌, length, take, drop, get_or, Option, Some, None, Result, Ok, Err, refl, ap, arith, sym, ◌∙◌, append_assoc, add-one, min, inl, inr}
use Rattle.std.proofs.Math.Seq.{take-append_seam}
use Rattle.std.proofs.lemmas.List.{length-drop, drop_all}
use Rattle.std.proofs.lemmas.Bool.Decides.{leb_tells}
use Rattle.std.specs.Prelude.{OnOk, Bool, not, is_none, is_some}
use Rattle.lf_base.specs.declared.kind.Kind.TheVariants.{BadHeader}
use Rattle.lf_base.specs.declared.fault.Fault.{Fault}
use Rattle.lf_base.specs.declared.refusal.Refusal.{Refusal}
use Rattle.lf_base.specs.declared.refusal.Refusal.TheVariants as refusal_of
use Rattle.lf_base.specs.Answers.{IfAt}
use Rattle.lf_scalar.specs.declared.block.Chomp.{Chomp}
use Rattle.lf_scalar.specs.declared.block.Chomp.TheVariants.{Strip, Clip, Keep}
use Rattle.lf_scalar.specs.declared.joined.Joining.{Joining}
use Rattle.lf_scalar.specs.declared.joined.Joining.TheVariants as joining_of
use Rattle.lf_scalar.specs.declared.body.BlockBody.{BlockBody}
use Rattle.lf_scalar.specs.declared.header.Header.{Header}
use Rattle.lf_base.specs.Faults.{span}
use Rattle.lf_scalar.specs.Cells.{Cell, cell, cells, Value, Fails, made, end_of, character_fault, ◌>>=◌}
use Rattle.lf_scalar.specs.Lines.{Line, line, lines, lines_at, first_text}
use Rattle.lf_scalar.specs.Folding.{trimmed}
use Rattle.lf_scalar.specs.Block.{line_end, line_ends, last_end, content_indent, body_of, body_fault, chomped}
use Rattle.lf_scalar.specs.Scalars.{begins}
use Rattle.lf_scalar.specs.reading.Block.{is_empty, empties, block_text, body_read, block_value, block_read, block_lines, block_of, header_from}
use Rattle.lf_scalar.specs.reading.Body.{joins_of, style_of, contents, break_of, chomped_behind, header_told, IsBody}
use Rattle.lf_scalar.specs.views.Built.{refused}
use Rattle.lf_scalar.proofs.LineSteps.{lines-nil}
use Rattle.lf_scalar.proofs.Tails.{true-false}

-- ---- the text of a body

last-kept : (end k : ℕ) (ls : List Line) → last_end end (contents k ls) ≡ last_end end ls
last-kept end k [] = refl
last-kept end k (l ∷ []) = refl
last-kept end k (l ∷ m ∷ ls) = last-kept end k (m ∷ ls)

ends-kept : (end k : ℕ) (ls : List Line) → line_ends end (contents k ls) ≡ line_ends end ls
ends-kept end k [] = refl
ends-kept end k (l ∷ ls) = ap (λ (cs : List Cell). line_end end l ++ cs) (ends-kept end k ls)

no-lines : (xs ys : List Line) → [] ≡ xs ++ ys → xs ≡ []
no-lines [] ys e = refl
no-lines (x ∷ xs) ys e = absurd cc

module _ (k at : ℕ) (bytes : List ℕ) (b : BlockBody) (s : IsBody k at bytes b) where
  full-is : contents k (take b.full (lines_at at bytes)) ≡ trimmed is_empty (body_of k (lines_at at bytes))
  full-is = rw (s.source, s.full_is) (ap (contents k) (take-append_seam s.full (s.empty ++ s.left))) ∙ sym s.texts

  last-is : break_of b.last ≡ last_end (at + length bytes) (trimmed is_empty (body_of k (lines_at at bytes)))
  last-is = sym (ap (last_end (at + length bytes)) s.texts ∙ last-kept (at + length bytes) k s.full ∙ s.last_is)

  -- the lines behind end where the bytes do, if there are any
  same-end : line_ends ((at + b.behind) + length (drop b.behind bytes)) s.empty ≡ line_ends (at + length bytes) s.empty
  same-end =
      elim (leb_tells b.behind (length bytes)) [
        | inl a ↦ ap (λ (n : ℕ). line_ends n s.empty) (omega (arith, a.1, length-drop b.behind bytes))
        | inr a ↦
            let none : s.empty ≡ [] = no-lines s.empty s.left (sym (ap (λ (xs : List ℕ). lines_at (at + b.behind) xs) (drop_all b.behind bytes (omega (arith, a.1))) ∙ lines-nil ((at + b.behind) + 0)) ∙ s.behind) in
            rw none refl
      ]

  empty-is : line_ends ((at + b.behind) + length (drop b.behind bytes)) (take b.empty (lines_at (at + b.behind) (drop b.behind bytes))) ≡ line_ends (at + length bytes) (empties (body_of k (lines_at at bytes)))
  empty-is =
      rw (s.behind, s.empty_is) (ap (line_ends ((at + b.behind) + length (drop b.behind bytes))) (take-append_seam s.empty s.left)) ∙ same-end ∙ sym (ends-kept (at + length bytes) k s.empty)
      ∙ ap (line_ends (at + length bytes)) (sym s.empties_are)

  chomped-is : (chomp : Chomp) → chomped_behind chomp b (at + b.behind) (drop b.behind bytes) ≡ chomped (at + length bytes) chomp (trimmed is_empty (body_of k (lines_at at bytes))) (empties (body_of k (lines_at at bytes)))
  chomped-is Strip = refl
  chomped-is Clip = last-is
  chomped-is Keep =
      ap (λ (cs : List Cell). cs ++ line_ends ((at + b.behind) + length (drop b.behind bytes)) (take b.empty (lines_at (at + b.behind) (drop b.behind bytes)))) last-is
      ∙ ap (λ (cs : List Cell). last_end (at + length bytes) (trimmed is_empty (body_of k (lines_at at bytes))) ++ cs) empty-is

  pub body-text : (joins : List Line → List Cell) (chomp : Chomp) (old inner now : List Cell) → inner ≡ old ++ joins (contents k (take b.full (lines_at at bytes)))
      → now ≡ inner ++ chomped_behind chomp b (at + b.behind) (drop b.behind bytes) → now ≡ old ++ block_text joins (at + length bytes) chomp (body_of k (lines_at at bytes))
  body-text joins chomp old inner now i n =
      n ∙ ap (λ (cs : List Cell). cs ++ chomped_behind chomp b (at + b.behind) (drop b.behind bytes)) (i ∙ ap (λ (ls : List Line). old ++ joins ls) full-is)
      ∙ ap (λ (cs : List Cell). (old ++ joins (trimmed is_empty (body_of k (lines_at at bytes)))) ++ cs) (chomped-is chomp)
      ∙ append_assoc old (joins (trimmed is_empty (body_of k (lines_at at bytes)))) (chomped (at + length bytes) chomp (trimmed is_empty (body_of k (lines_at at bytes))) (empties (body_of k (lines_at at bytes))))

-- ---- what breaks a body, or its text

module _ (joins : List Line → List Cell) (above end : ℕ) (chomp : Chomp) (digit : Option ℕ) (ls : List Line) (k : ℕ) (is : k ≡ content_indent above digit ls) where
  pub body-sound : body_fault (is_none digit) above k ls ≡ None → body_read joins above end chomp digit ls ≡ Ok (block_text joins end chomp (body_of k ls))
  body-sound h = rw (is, rw is at h) refl

  pub body-broken : (e : Refusal) → IfAt e (λ f. body_fault (is_none digit) above k ls ≡ Some f) → Fails e (body_read joins above end chomp digit ls)
  body-broken refusal_of.Memory h = tt
  body-broken (refusal_of.At kind span) h = rw (rw is at h) refl

-- no lines have the same text wherever the source ends
read-nothing : (joins : List Line → List Cell) (above m n : ℕ) (chomp : Chomp) (digit : Option ℕ) → body_read joins above m chomp digit [] ≡ body_read joins above n chomp digit []
unfolding body_fault
read-nothing joins above m n Strip digit = refl
read-nothing joins above m n Clip digit = refl
read-nothing joins above m n Keep digit = refl

pub on-ok : {X E P Q : Type 0} (r : Result X E) → OnOk r P → (P → Q) → OnOk r Q
on-ok (Ok x) h f = f h
on-ok (Err e) h f = h

-- ---- the whole

no-text : (joining : Joining) → begins (style_of joining) [] ≡ false
no-text joining_of.Literal = refl
no-text joining_of.Folded = refl

pub some-rest : (joining : Joining) (at : ℕ) (rest : List ℕ) → begins (style_of joining) (first_text (lines_at at rest)) ≡ true → 0 < length rest
unfolding lines
some-rest joining at [] h = true-false (begins (style_of joining) []) h (no-text joining)
some-rest joining at (x ∷ xs) h = omega arith

some-text : (joining : Joining) (at : ℕ) (text : List ℕ) → begins (style_of joining) (cells at text) ≡ true → 0 < length text
some-text joining at [] h = true-false (begins (style_of joining) []) h (no-text joining)
some-text joining at (x ∷ xs) h = omega arith

begun-by : (joins : List Line → List Cell) (above end at break : ℕ) (text : List ℕ) (following : List Line) → 0 < length text
    → block_lines joins above end (line (cells at text) break ∷ following) ≡ block_read joins above end (cell (get_or text 0 0) at) following (header_from None None (cells (at + 1) (drop 1 text)))
begun-by joins above end at break [] following lt = absurd (omega arith)
begun-by joins above end at break (x ∷ xs) following lt = rw (add-one at) refl

module _ (joining : Joining) (above at : ℕ) (rest : List ℕ) (text feed : ℕ) (begun : begins (style_of joining) (first_text (lines_at at rest)) ≡ true)
    (first : lines_at at rest ≡ line (cells at (take text rest)) (at + feed) ∷ lines_at (at + (feed + 1)) (drop (feed + 1) rest)) where
  abbrev sign : Cell
  sign = cell (get_or (take text rest) 0 0) at

  block-is : block_of (joins_of joining) above (at + length rest) (cells at rest)
      ≡ block_read (joins_of joining) above (at + length rest) (cell (get_or (take text rest) 0 0) at) (lines_at (at + (feed + 1)) (drop (feed + 1) rest)) (header_from None None (cells (at + 1) (drop 1 (take text rest))))
  unfolding block_of
  block-is =
      ap (block_lines (joins_of joining) above (at + length rest)) first
      ∙ begun-by (joins_of joining) above (at + length rest) at (at + feed) (take text rest) (lines_at (at + (feed + 1)) (drop (feed + 1) rest)) (some-text joining at (take text rest) (rw first at begun))

  end-is : feed ≤ length rest → (chomp : Chomp) (digit : Option ℕ)
      → body_read (joins_of joining) above ((at + (feed + 1)) + length (drop (feed + 1) rest)) chomp digit (lines_at (at + (feed + 1)) (drop (feed + 1) rest)) ≡ body_read (joins_of joining) above (at + length rest) chomp digit (lines_at (at + (feed + 1)) (drop (feed + 1) rest))
  end-is le chomp digit =
      elim (leb_tells (feed + 1) (length rest)) [
        | inl a ↦ ap (λ (n : ℕ). body_read (joins_of joining) above n chomp digit (lines_at (at + (feed + 1)) (drop (feed + 1) rest))) (omega (arith, a.1, length-drop (feed + 1) rest))
        | inr a ↦
            let none : lines_at (at + (feed + 1)) (drop (feed + 1) rest) ≡ [] = ap (λ (xs : List ℕ). lines_at (at + (feed + 1)) xs) (drop_all (feed + 1) rest (omega (arith, a.1))) ∙ lines-nil ((at + (feed + 1)) + 0) in
            rw none (read-nothing (joins_of joining) above ((at + (feed + 1)) + length (drop (feed + 1) rest)) (at + length rest) chomp digit)
      ]

  pub block-wrong : (wrong : ℕ) (refusal : Refusal) → header_told (at + 1) (drop 1 (take text rest)) (Err wrong) ≡ header_from None None (cells (at + 1) (drop 1 (take text rest)))
      → refusal ≡ refused (character_fault BadHeader (cell (get_or (drop 1 (take text rest)) wrong 0) (at + 1 + wrong))) → Fails refusal (block_of (joins_of joining) above (at + length rest) (cells at rest))
  block-wrong wrong refusal told e =
      rw e (block-is ∙ ap (block_read (joins_of joining) above (at + length rest) (cell (get_or (take text rest) 0 0) at) (lines_at (at + (feed + 1)) (drop (feed + 1) rest))) (sym told))

  module _ (le : feed ≤ length rest) (h : Header) (told : header_told (at + 1) (drop 1 (take text rest)) (Ok h) ≡ header_from None None (cells (at + 1) (drop 1 (take text rest)))) where
    abbrev body : Result (List Cell) Fault
    body = body_read (joins_of joining) above ((at + (feed + 1)) + length (drop (feed + 1) rest)) h.chomp h.digit (lines_at (at + (feed + 1)) (drop (feed + 1) rest))

    body-is : block_of (joins_of joining) above (at + length rest) (cells at rest) ≡ body >>= λ text. Ok (block_value (at + length rest) sign text)
    body-is =
        block-is ∙ ap (block_read (joins_of joining) above (at + length rest) sign (lines_at (at + (feed + 1)) (drop (feed + 1) rest))) (sym told)
        ∙ ap (λ (r : Result (List Cell) Fault). r >>= λ text. Ok (block_value (at + length rest) sign text)) (sym (end-is le h.chomp h.digit))

    pub block-broken : (e : Refusal) → Fails e body → Fails e (block_of (joins_of joining) above (at + length rest) (cells at rest))
    block-broken refusal_of.Memory f = tt
    block-broken (refusal_of.At kind span) f = body-is ∙ ap (λ (r : Result (List Cell) Fault). r >>= λ text. Ok (block_value (at + length rest) sign text)) f

    pub block-right : (old builder : List Cell) (end : ℕ) → old ≡ [] → (part : List Cell) × (body ≡ Ok part) × (builder ≡ old ++ part) → end ≡ min (end_of (at + 1) builder) (at + length rest)
        → block_of (joins_of joining) above (at + length rest) (cells at rest) ≡ Ok (made builder end (span at end))
    block-right old builder end empty (part, d, g) e =
        let same : part ≡ builder = sym (g ∙ ap (λ (cs : List Cell). cs ++ part) empty) in
        body-is ∙ ap (λ (r : Result (List Cell) Fault). r >>= λ text. Ok (block_value (at + length rest) sign text)) (d ∙ ap (λ (cs : List Cell). Ok cs) same)
        ∙ ap (λ (v : Value). Ok v) (ap (λ (n : ℕ). made builder (min (end_of n builder) (at + length rest)) (span at (min (end_of n builder) (at + length rest)))) (sym (add-one at))
        ∙ ap (λ (n : ℕ). made builder n (span at n)) (sym e))

-- as the code asks whether there is a digit
pub none-asked : (digit : Option ℕ) (asked : Bool) → is_some digit ≡ not asked → asked ≡ is_none digit
none-asked None true e = refl
none-asked None false e = absurd cc
none-asked (Some d) true e = absurd cc
none-asked (Some d) false e = refl
