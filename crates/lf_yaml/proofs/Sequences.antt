-- Flow sequences are read: what stands is read, a breach is answered, and what is answered is one of both.
use Rattle.std.proofs.Common.{◌≡◌, ◌≢◌, ℕ, zero, suc, ◌+◌, ◌<◌, ◌≤◌, Bool, true, false, cond, eqb, List, Result, Ok, Err, length, eq-eqb, refl, ap, arith, ◌∙◌}
use Rattle.std.proofs.lemmas.Bool.{ne_eqb, eqb-true}
use Rattle.lf_base.specs.declared.fault.Fault.{Fault}
use Rattle.lf_scalar.specs.Cells.{Cell, Value}
use Rattle.lf_scalar.proofs.Tails.{true-false}
use Rattle.lf_yaml.specs.Tree.{leaf, Items, no_items, item}
use Rattle.lf_yaml.specs.Flow.{Next, at_part, broken, next_on, FlowScalar, sign_fault, SequenceIn, closes, last, more, SequenceBreaks, no_part, scalar, no_sign, sign, later}
use Rattle.lf_yaml.specs.reading.Trees.{FlowPart, flow_scalar, FlowRead, with_item, sequence_sign, sequence_behind, sequence_part, sequence_in}
use Rattle.lf_yaml.proofs.FlowParts.{part-within, part-is, part-breaks, PartTold, part-tells, part-begins, part-no-sign, scalar-within}

pub differs : (x y : ℕ) → eqb x y ≡ false → x ≢ y
differs x y e h = true-false (eqb x y) (eq-eqb x y h) e

pub no-44 : (x y : ℕ) → eqb y 44 ≡ false → x ≡ y → eqb x 44 ≡ false
no-44 x y e h = ap (λ (b : ℕ). eqb b 44) h ∙ e

-- so many turns are enough from an offset of a file of some bytes on
abbrev pub Enough : ℕ → ℕ → ℕ → Type 0
Enough end n at = (0 < n) × (end < n + at)

-- behind a part and a sign one turn less is enough
pub falls : (end n at c d : ℕ) → Enough end (suc n) at → at ≤ c → c ≤ d → suc d ≤ end → Enough end n (suc d)
falls end n at c d h low on within = let lt = h.1 in (omega (arith, lt, low, on, within), omega (arith, lt, low, on))

module _ (bytes : List ℕ) where
  abbrev enough : ℕ → ℕ → Type 0
  enough n at = Enough (length bytes) n at

  goes-on : (n at after : ℕ) (c d : Cell) (cs ds : List Cell) (v : Value) → enough (suc n) at → next_on bytes at ≡ at_part c cs → FlowScalar bytes c cs v after → next_on bytes after ≡ at_part d ds → enough n (suc d.at)
  goes-on n at after c d cs ds v h e s g =
      let a = part-within bytes at c cs e in
      let b = scalar-within bytes c cs v after a.1 s in
      let k = part-within bytes after d ds g in
      falls (length bytes) n at c.at d.at h a.0 (let low = b.0 in omega (arith, low, k.0)) k.1

  not-closing : (c : Cell) (cs : List Cell) (v : Value) (after : ℕ) → FlowScalar bytes c cs v after → eqb c.byte 93 ≡ false
  not-closing c cs v after h = part-no-sign 93 c cs refl (part-begins bytes c cs v after h)

  -- up to the sign behind the first scalar
  begun : (n at after : ℕ) (c : Cell) (cs : List Cell) (v : Value) (x : Next) → next_on bytes at ≡ at_part c cs → FlowScalar bytes c cs v after → next_on bytes after ≡ x
      → sequence_in bytes (suc n) at ≡ sequence_sign (λ next. sequence_in bytes n next) v x
  unfolding sequence_in
  begun n at after c cs v x e h g =
      ap (sequence_part bytes (λ next. sequence_in bytes n next)) e
      ∙ rw (not-closing c cs v after h) (ap (sequence_behind bytes (λ next. sequence_in bytes n next)) (part-is bytes c cs v after h) ∙ ap (sequence_sign (λ next. sequence_in bytes n next) v) g)

  pub sequence-is : (n at : ℕ) (is : Items) (closing : Cell) → enough n at → SequenceIn bytes at is closing → sequence_in bytes n at ≡ Ok (is, closing)
  unfolding sequence_in
  sequence-is zero at is closing enough h = let lt = enough.0 in absurd (omega (arith, lt))
  sequence-is (suc n) at _ closing enough (closes e b) = ap (sequence_part bytes (λ next. sequence_in bytes n next)) e ∙ rw (eq-eqb closing.byte 93 b) refl
  sequence-is (suc n) at _ closing enough (last {after = after} {c = c} {cs = cs} {v = v} e h g b) =
      begun n at after c cs v _ e h g ∙ rw (no-44 closing.byte 93 refl b, eq-eqb closing.byte 93 b) refl
  sequence-is (suc n) at _ closing enough (more {after = after} {c = c} {comma = comma} {cs = cs} {ds = ds} {v = v} {is = is} e h g b h2) =
      begun n at after c cs v _ e h g ∙ rw (eq-eqb comma.byte 44 b) (ap (with_item (leaf v)) (sequence-is n (suc comma.at) is closing (goes-on n at after c comma cs ds v enough e h g) h2))

  pub sequence-breaks : (n at : ℕ) (f : Fault) → enough n at → SequenceBreaks bytes at f → sequence_in bytes n at ≡ Err f
  unfolding sequence_in
  sequence-breaks zero at f enough h = let lt = enough.0 in absurd (omega (arith, lt))
  sequence-breaks (suc n) at f enough (no_part e) = ap (sequence_part bytes (λ next. sequence_in bytes n next)) e
  sequence-breaks (suc n) at f enough (scalar {c = c} {cs = cs} e ne h) =
      ap (sequence_part bytes (λ next. sequence_in bytes n next)) e ∙ rw (ne_eqb c.byte 93 ne) (ap (sequence_behind bytes (λ next. sequence_in bytes n next)) (part-breaks bytes c cs f h))
  sequence-breaks (suc n) at f enough (no_sign {after = after} {c = c} {cs = cs} {v = v} e h g) = begun n at after c cs v _ e h g
  sequence-breaks (suc n) at _ enough (sign {after = after} {c = c} {wrong = wrong} {cs = cs} {v = v} e h g a b) =
      begun n at after c cs v _ e h g ∙ rw (ne_eqb wrong.byte 44 a, ne_eqb wrong.byte 93 b) refl
  sequence-breaks (suc n) at f enough (later {after = after} {c = c} {comma = comma} {cs = cs} {ds = ds} {v = v} e h g b h2) =
      begun n at after c cs v _ e h g ∙ rw (eq-eqb comma.byte 44 b) (ap (with_item (leaf v)) (sequence-breaks n (suc comma.at) f (goes-on n at after c comma cs ds v enough e h g) h2))

  abbrev pub SequenceTold : ℕ → FlowRead Items → Type 0
  SequenceTold at (Ok x) = SequenceIn bytes at x.0 x.1
  SequenceTold at (Err f) = SequenceBreaks bytes at f

  abbrev Rest : Type 0
  Rest = ℕ → FlowRead Items

  -- a reader of fewer turns
  abbrev Tells : ℕ → Rest → Type 0
  Tells n read = (at : ℕ) → enough n at → SequenceTold at (read at)

  item-told : (at after : ℕ) (c comma : Cell) (cs ds : List Cell) (v : Value) → next_on bytes at ≡ at_part c cs → FlowScalar bytes c cs v after → next_on bytes after ≡ at_part comma ds → comma.byte ≡ 44
      → (r : FlowRead Items) → SequenceTold (suc comma.at) r → SequenceTold at (with_item (leaf v) r)
  item-told at after c comma cs ds v e h g b (Ok x) t = more e h g b t
  item-told at after c comma cs ds v e h g b (Err f) t = later e h g b t

  sign-told : (n : ℕ) (read : Rest) (at after : ℕ) (c : Cell) (cs : List Cell) (v : Value) → Tells n read → enough (suc n) at → next_on bytes at ≡ at_part c cs → FlowScalar bytes c cs v after → (x : Next) → next_on bytes after ≡ x
      → SequenceTold at (sequence_sign read v x)
  sign-told n read at after c cs v told le e h (broken f) g = no_sign e h g
  sign-told n read at after c cs v told le e h (at_part d ds) g = by (eqb d.byte 44) (eqb d.byte 93) refl refl
    where
      by : (a b : Bool) → eqb d.byte 44 ≡ a → eqb d.byte 93 ≡ b → SequenceTold at (cond a (with_item (leaf v) (read (suc d.at))) (cond b (Ok (item (leaf v) no_items, d)) (Err (sign_fault d))))
      by true b p q = item-told at after c d cs ds v e h g (eqb-true d.byte 44 p) (read (suc d.at)) (told (suc d.at) (goes-on n at after c d cs ds v le e h g))
      by false true p q = last e h g (eqb-true d.byte 93 q)
      by false false p q = sign e h g (differs d.byte 44 p) (differs d.byte 93 q)

  scalar-told : (n : ℕ) (read : Rest) (at : ℕ) (c : Cell) (cs : List Cell) → Tells n read → enough (suc n) at → next_on bytes at ≡ at_part c cs → c.byte ≢ 93 → (r : Result FlowPart Fault) → PartTold bytes c cs r
      → SequenceTold at (sequence_behind bytes read r)
  scalar-told n read at c cs told le e ne (Ok x) h = sign-told n read at x.1 c cs x.0 told le e h (next_on bytes x.1) refl
  scalar-told n read at c cs told le e ne (Err f) h = scalar e ne h

  part-told : (n : ℕ) (read : Rest) (at : ℕ) → Tells n read → enough (suc n) at → (x : Next) → next_on bytes at ≡ x → SequenceTold at (sequence_part bytes read x)
  part-told n read at told le (broken f) e = no_part e
  part-told n read at told le (at_part c cs) e = by (eqb c.byte 93) refl
    where
      by : (a : Bool) → eqb c.byte 93 ≡ a → SequenceTold at (cond a (Ok (no_items, c)) (sequence_behind bytes read (flow_scalar bytes c cs)))
      by true p = closes e (eqb-true c.byte 93 p)
      by false p = scalar-told n read at c cs told le e (differs c.byte 93 p) (flow_scalar bytes c cs) (part-tells bytes c cs)

  pub sequence-tells : (n at : ℕ) → enough n at → SequenceTold at (sequence_in bytes n at)
  unfolding sequence_in
  sequence-tells zero at h = let lt = h.0 in absurd (omega (arith, lt))
  sequence-tells (suc n) at h = part-told n (λ next. sequence_in bytes n next) at (λ next less. sequence-tells n next less) h (next_on bytes at) refl

-- the bytes of the file and one are always enough
pub always-enough : (end at : ℕ) → Enough end (suc end) at
always-enough end at = (omega arith, omega arith)
