-- Keys of flow mappings, as the code reads them.
use Rattle.std.proofs.Common.{◌≡◌, ℕ, zero, suc, ◌+◌, ◌≤◌, Bool, true, false, cond, eqb, List, [], ◌∷◌, Option, Some, None, Result, Ok, Err, length, get_or, take, drop, length-take, eq-eqb, refl, ap, arith, sym, ◌∙◌}
use Rattle.std.proofs.lemmas.List.{drop-drop, take-take}
use Rattle.lf_base.specs.declared.fault.Fault.{Fault}
use Rattle.lf_base.specs.declared.kind.Kind.TheVariants.{LeftOut}
use Rattle.lf_scalar.specs.Plain.{before_blank}
use Rattle.lf_scalar.specs.Cells.{Cell, cell, cells, Value, character_fault}
use Rattle.lf_scalar.specs.Lines.{is_blank, after_blanks}
use Rattle.lf_scalar.specs.Folding.{trimmed}
use Rattle.lf_scalar.specs.declared.quotes.Quotes.{Quotes}
use Rattle.lf_scalar.specs.reading.Quoted.{closing_of}
use Rattle.lf_scalar.specs.Splits.{Split, split_of}
use Rattle.lf_yaml.specs.Heads.{key_in}
use Rattle.lf_yaml.specs.Keys.{is_key_left_out}
use Rattle.lf_yaml.specs.Flow.{line_on, left_on, next_on, begins_flow, is_flow_sign}
use Rattle.lf_yaml.specs.views.Signs.{stops_of}
use Rattle.lf_yaml.specs.reading.Trees.{FlowPart, after_closing, with_after, quoted_part, between_of, behind_closing, sign_if, sign_behind, Signed, signed, signed_behind, far_sign, no_sign, plain_key, bare_key, flow_key_by}

-- ---- between quotes

with-ok : (after : ℕ) (read : Result Value Fault) (x : FlowPart) → with_after after read ≡ Ok x → (read ≡ Ok x.0) × (after ≡ x.1)
with-ok after (Ok v) x e = let h : (v ≡ x.0) × (after ≡ x.1) = ok-pair e in (ap (λ (w : Value). Ok w) h.0, h.1)
  where
    ok-pair : (let y : Result FlowPart Fault = Ok (v, after) in y) ≡ Ok x → (v ≡ x.0) × (after ≡ x.1)
    ok-pair h = (ap (λ (r : Result FlowPart Fault). fst-of r) h, ap (λ (r : Result FlowPart Fault). snd-of r) h)
      where
        fst-of : Result FlowPart Fault → Value
        fst-of (Ok y) = y.0
        fst-of (Err f) = v

        snd-of : Result FlowPart Fault → ℕ
        snd-of (Ok y) = y.1
        snd-of (Err f) = after
with-ok after (Err f) x e = absurd cc

-- whether the `:` behind it stands too far
abbrev pub is_far : Quotes → Cell → List Cell → Bool
is_far kind c cs = far_sign (c ∷ cs) (sign_behind (behind_closing (closing_of kind 0 cs)))

by-far : (bytes : List ℕ) (kind : Quotes) (c : Cell) (cs : List Cell) (b : Bool) → is_far kind c cs ≡ b
    → flow_key_by bytes c cs (Some kind)
    ≡ cond b (Err (character_fault LeftOut c)) (signed_behind bytes (after_closing (closing_of kind 0 cs)) (behind_closing (closing_of kind 0 cs)) (between_of kind c (closing_of kind 0 cs)))
by-far bytes kind c cs b e =
    ap (λ (q : Bool). cond q (Err (character_fault LeftOut c)) (signed_behind bytes (after_closing (closing_of kind 0 cs)) (behind_closing (closing_of kind 0 cs)) (between_of kind c (closing_of kind 0 cs)))) e

pub quoted-near : (bytes : List ℕ) (kind : Quotes) (c : Cell) (cs : List Cell) → is_far kind c cs ≡ false
    → flow_key_by bytes c cs (Some kind) ≡ signed_behind bytes (after_closing (closing_of kind 0 cs)) (behind_closing (closing_of kind 0 cs)) (between_of kind c (closing_of kind 0 cs))
quoted-near bytes kind c cs e = by-far bytes kind c cs false e

-- what stands behind a quoted scalar
pub quoted-by : (bytes : List ℕ) (kind : Quotes) (c : Cell) (cs : List Cell) (v : Value) (after : ℕ) (behind : List Cell) → is_far kind c cs ≡ false
    → quoted_part kind c (closing_of kind 0 cs) ≡ Ok (v, after) → behind_closing (closing_of kind 0 cs) ≡ behind → flow_key_by bytes c cs (Some kind) ≡ signed bytes v after (sign_behind behind)
quoted-by bytes kind c cs v after behind near e b =
    let h = with-ok (after_closing (closing_of kind 0 cs)) (between_of kind c (closing_of kind 0 cs)) (v, after) e in
    quoted-near bytes kind c cs near ∙ ap (λ (n : ℕ). signed_behind bytes n (behind_closing (closing_of kind 0 cs)) (between_of kind c (closing_of kind 0 cs))) h.1
    ∙ ap (λ (xs : List Cell). signed_behind bytes after xs (between_of kind c (closing_of kind 0 cs))) b ∙ ap (signed_behind bytes after behind) h.0

pub sign-found : (n p : ℕ) (text : List ℕ) → get_or text p 0 ≡ 58 → sign_if (cells n (drop p text)) ≡ Some (cell 58 n, cells (suc n) (drop (p + 1) text))
sign-found n zero [] e = absurd (omega (arith, e))
sign-found n (suc p) [] e = absurd (omega (arith, e))
sign-found n zero (x ∷ xs) e = rw (eq-eqb x 58 e) (ap (λ (b : ℕ). Some (cell b n, cells (suc n) xs)) e)
sign-found n (suc p) (x ∷ xs) e = let z : suc p + 1 ≡ suc (p + 1) = omega arith in sign-found n p xs e ∙ ap (λ (m : ℕ). Some (cell 58 n, cells (suc n) (drop m (x ∷ xs)))) (sym z)

pub sign-missing : (n p : ℕ) (text : List ℕ) → eqb (get_or text p 0) 58 ≡ false → sign_if (cells n (drop p text)) ≡ None
sign-missing n zero [] e = refl
sign-missing n (suc p) [] e = refl
sign-missing n zero (x ∷ xs) e = rw e refl
sign-missing n (suc p) (x ∷ xs) e = sign-missing n p xs e

module _ (at len k : ℕ) (text : List ℕ) (after : after_blanks (cells (at + len) (drop len text)) ≡ cells (at + len + k) (drop k (drop len text))) where
  sign-at : sign_behind (cells (at + len) (drop len text)) ≡ sign_if (cells (at + (len + k)) (drop (len + k) text))
  sign-at =
      let z : at + len + k ≡ at + (len + k) = omega arith in
      ap sign_if after ∙ ap (λ (xs : List ℕ). sign_if (cells (at + len + k) xs)) (drop-drop k len text) ∙ ap (λ (n : ℕ). sign_if (cells n (drop (len + k) text))) z

  pub quoted-found : (bytes : List ℕ) (kind : Quotes) (c : Cell) (cs : List Cell) (v : Value) → is_far kind c cs ≡ false
      → quoted_part kind c (closing_of kind 0 cs) ≡ Ok (v, at + len) → behind_closing (closing_of kind 0 cs) ≡ cells (at + len) (drop len text) → get_or text (len + k) 0 ≡ 58
      → flow_key_by bytes c cs (Some kind) ≡ Ok (v, cell 58 (at + (len + k)))
  quoted-found bytes kind c cs v near e b sign =
      quoted-by bytes kind c cs v (at + len) (cells (at + len) (drop len text)) near e b ∙ ap (signed bytes v (at + len)) (sign-at ∙ sign-found (at + (len + k)) (len + k) text sign)

  pub quoted-missing : (bytes : List ℕ) (kind : Quotes) (c : Cell) (cs : List Cell) (v : Value) → is_far kind c cs ≡ false
      → quoted_part kind c (closing_of kind 0 cs) ≡ Ok (v, at + len) → behind_closing (closing_of kind 0 cs) ≡ cells (at + len) (drop len text) → eqb (get_or text (len + k) 0) 58 ≡ false
      → flow_key_by bytes c cs (Some kind) ≡ no_sign (next_on bytes (at + len))
  quoted-missing bytes kind c cs v near e b sign =
      quoted-by bytes kind c cs v (at + len) (cells (at + len) (drop len text)) near e b ∙ ap (signed bytes v (at + len)) (sign-at ∙ sign-missing (at + (len + k)) (len + k) text sign)

-- ---- without quotes

module _ (bytes : List ℕ) (c : Cell) (cs : List Cell) (at : ℕ) (text : List ℕ) (is : c ∷ cs ≡ cells at text) (begins : begins_flow c cs ≡ true) where
  bare-by : (o : Option Split) → o ≡ key_in (stops_of true) before_blank (cells at text) → flow_key_by bytes c cs None ≡ plain_key bytes c cs o
  bare-by o e = rw begins (ap (plain_key bytes c cs) (ap (λ (xs : List Cell). key_in is_flow_sign before_blank xs) is ∙ sym e))

  pub bare-left-out : (k : ℕ) → Some (split_of at text k) ≡ key_in (stops_of true) before_blank (cells at text) → is_key_left_out (cells at (take k text)) ≡ true → flow_key_by bytes c cs None ≡ Err (character_fault LeftOut c)
  bare-left-out k e n = bare-by (Some (split_of at text k)) e ∙ rw n refl

  pub bare-found : (k : ℕ) → Some (split_of at text k) ≡ key_in (stops_of true) before_blank (cells at text) → is_key_left_out (cells at (take k text)) ≡ false → get_or text k 0 ≡ 58
      → flow_key_by bytes c cs None ≡ Ok (bare_key c (trimmed is_blank (cells at (take k text))), cell 58 (at + k))
  bare-found k e n sign =
      bare-by (Some (split_of at text k)) e
      ∙ rw n (ap (λ (b : ℕ). let x : Signed = (bare_key c (trimmed is_blank (cells at (take k text))), cell b (at + k)) in Ok x) sign)

  pub bare-missing : None ≡ key_in (stops_of true) before_blank (cells at text) → flow_key_by bytes c cs None ≡ no_sign (next_on bytes (left_on (line_on bytes c.at)))
  bare-missing e = bare-by None e

-- the text of a key without the blanks before its `:`
pub trimmed-key : (at k len : ℕ) (text front : List ℕ) → front ≡ take k text → len ≤ length front → trimmed is_blank (cells at front) ≡ cells at (take len front) → trimmed is_blank (cells at (take k text)) ≡ cells at (take len text)
trimmed-key at k len text front e le t =
    let n : len ≤ k = omega (arith, ap length e, length-take k text) in
    ap (λ (xs : List ℕ). trimmed is_blank (cells at xs)) (sym e) ∙ t ∙ ap (λ (xs : List ℕ). cells at (take len xs)) e ∙ ap (cells at) (take-take len k text n)
