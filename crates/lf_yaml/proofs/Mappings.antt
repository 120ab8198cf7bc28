-- Flow mappings are read: what stands is read, a breach is answered, and what is answered is one of both.
use Rattle.std.proofs.Common.{◌≡◌, ◌≢◌, ℕ, zero, suc, ◌≤◌, Bool, true, false, cond, eqb, List, [], ◌∷◌, ◌++◌, Result, Ok, Err, length, eq-eqb, refl, ap, arith, ◌∙◌, inl, inr}
use Rattle.std.specs.Prelude.{Contains}
use Rattle.std.proofs.lemmas.Bool.{ne_eqb, eqb-true}
use Rattle.lf_base.specs.declared.kind.Kind.TheVariants.{DoubleKey}
use Rattle.lf_base.specs.declared.fault.Fault.{Fault}
use Rattle.lf_scalar.specs.Cells.{Cell, Value}
use Rattle.lf_yaml.specs.Heads.{Key, IsKey}
use Rattle.lf_yaml.specs.Tree.{Tree, Entries, no_entries, entry}
use Rattle.lf_yaml.specs.Flow.{Next, at_part, broken, next_on, sign_fault, FlowKey, FlowEntry, MappingIn, MappingBreaks}
use Rattle.lf_yaml.specs.Flow as flow
use Rattle.lf_yaml.specs.reading.Trees.{Signed, flow_key, Valued, flow_value, FlowRead, with_entry, mapping_sign, value_behind, Later, new_entry, key_behind, mapping_part, mapping_in, Keys}
use Rattle.lf_yaml.proofs.HeadLaws.{has-tells}
use Rattle.lf_yaml.proofs.FlowParts.{part-bounds, part-within, part-no-sign}
use Rattle.lf_yaml.proofs.FlowKeys.{flow-key-is, flow-key-breaks, FlowKeyTold, flow-key-tells, flow-value-is, flow-value-breaks, FlowValueTold, flow-value-tells, key-within, key-begins, value-within}
use Rattle.lf_yaml.proofs.Sequences.{differs, no-44, Enough, falls}

module _ (bytes : List ℕ) where
  abbrev part_is : ℕ → Next → Type 0
  part_is at x = next_on bytes at ≡ x

  abbrev enough : ℕ → ℕ → Type 0
  enough n at = Enough (length bytes) n at

  not-closing : (c : Cell) (cs : List Cell) (k : Key) (colon : Cell) → FlowKey c cs k colon → eqb c.byte 125 ≡ false
  not-closing c cs k colon h = part-no-sign 125 c cs refl (key-begins c cs k colon h)

  -- an entry ends behind its first character
  pub entry-within : (keys : Keys) (at : ℕ) (v : Value) (t : Tree) (after : ℕ) (h : FlowEntry bytes keys at v t after) → (at ≤ h.first.at) × (h.first.at ≤ after)
  entry-within keys at v t after h =
      let a = part-bounds bytes at h.first h.more h.part in
      let k = key-within (length bytes) h.first h.more h.key h.colon h.is_key a.1 in
      let l = value-within bytes h.colon t after h.value k.1 in
      let low = l.0 in
      (a.0, omega (arith, k.0, low))

  goes-on : (n : ℕ) (keys : Keys) (at after : ℕ) (v : Value) (t : Tree) (d : Cell) (ds : List Cell) → enough (suc n) at → FlowEntry bytes keys at v t after → part_is after (at_part d ds) → enough n (suc d.at)
  goes-on n keys at after v t d ds h e g =
      let a = entry-within keys at v t after e in
      let k = part-within bytes after d ds g in
      let low = k.0 in
      falls (length bytes) n at e.first.at d.at h a.0 (omega (arith, a.1, low)) k.1

  abbrev later_on : ℕ → Later
  later_on n = λ ks next. mapping_in bytes n ks next

  -- up to the key and its sign
  keyed : (n : ℕ) (keys : Keys) (at : ℕ) (c colon : Cell) (cs : List Cell) (k : Key) (v : Value) → part_is at (at_part c cs) → FlowKey c cs k colon → IsKey c cs k v → mapping_in bytes (suc n) keys at ≡ new_entry bytes (later_on n) keys (v, colon)
  unfolding mapping_in
  keyed n keys at c colon cs k v e h i =
      ap (mapping_part bytes (later_on n) keys) e ∙ rw (not-closing c cs k colon h) (ap (key_behind bytes (later_on n) keys) (flow-key-is bytes c cs k colon v h i))

  new : (n : ℕ) (keys : Keys) (v : Value) (colon : Cell) → (Contains keys v.text → ⊥) → new_entry bytes (later_on n) keys (v, colon) ≡ value_behind bytes (λ next. later_on n (keys ++ v.text ∷ []) next) v (flow_value bytes colon)
  new n keys v colon is_new =
      elim (has-tells keys v.text) [
        | inl h ↦ absurd (is_new h.1)
        | inr h ↦ rw h.0 refl
      ]

  -- up to the sign behind the first entry
  begun : (n : ℕ) (keys : Keys) (at after : ℕ) (v : Value) (t : Tree) (x : Next) → FlowEntry bytes keys at v t after → part_is after x
      → mapping_in bytes (suc n) keys at ≡ mapping_sign (λ next. later_on n (keys ++ v.text ∷ []) next) v t x
  begun n keys at after v t x h g =
      keyed n keys at h.first h.colon h.more h.key v h.part h.is_key h.key_value ∙ new n keys v h.colon h.is_new
      ∙ ap (value_behind bytes (λ next. later_on n (keys ++ v.text ∷ []) next) v) (flow-value-is bytes h.colon t after h.value)
      ∙ ap (mapping_sign (λ next. later_on n (keys ++ v.text ∷ []) next) v t) g

  pub mapping-is : (n : ℕ) (keys : Keys) (at : ℕ) (es : Entries) (closing : Cell) → enough n at → MappingIn bytes keys at es closing → mapping_in bytes n keys at ≡ Ok (es, closing)
  unfolding mapping_in
  mapping-is zero keys at es closing le h = let lt = le.0 in absurd (omega (arith, lt))
  mapping-is (suc n) keys at _ closing le (flow.MappingIn.closes ks e b) = ap (mapping_part bytes (later_on n) keys) e ∙ rw (eq-eqb closing.byte 125 b) refl
  mapping-is (suc n) keys at _ closing le (flow.MappingIn.last {after = after} {v = v} {t = t} h g b) =
      begun n keys at after v t _ h g ∙ rw (no-44 closing.byte 125 refl b, eq-eqb closing.byte 125 b) refl
  mapping-is (suc n) keys at _ closing le (flow.MappingIn.more {after = after} {comma = comma} {cs = cs} {v = v} {t = t} {es = es} h g b h2) =
      begun n keys at after v t _ h g
      ∙ rw (eq-eqb comma.byte 44 b) (ap (with_entry v t) (mapping-is n (keys ++ v.text ∷ []) (suc comma.at) es closing (goes-on n keys at after v t comma cs le h g) h2))

  twice : (n : ℕ) (keys : Keys) (v : Value) (colon : Cell) → Contains keys v.text → new_entry bytes (later_on n) keys (v, colon) ≡ Err (record { kind = DoubleKey; span = v.span })
  twice n keys v colon old =
      elim (has-tells keys v.text) [
        | inl h ↦ rw h.0 refl
        | inr h ↦ absurd (h.1 old)
      ]

  pub mapping-breaks : (n : ℕ) (keys : Keys) (at : ℕ) (f : Fault) → enough n at → MappingBreaks bytes keys at f → mapping_in bytes n keys at ≡ Err f
  unfolding mapping_in
  mapping-breaks zero keys at f le h = let lt = le.0 in absurd (omega (arith, lt))
  mapping-breaks (suc n) keys at f le (flow.MappingBreaks.no_part ks e) = ap (mapping_part bytes (later_on n) keys) e
  mapping-breaks (suc n) keys at f le (flow.MappingBreaks.key {c = c} {cs = cs} ks e ne h) =
      ap (mapping_part bytes (later_on n) keys) e ∙ rw (ne_eqb c.byte 125 ne) (ap (key_behind bytes (later_on n) keys) (flow-key-breaks bytes c cs f h))
  mapping-breaks (suc n) keys at _ le (flow.MappingBreaks.twice {c = c} {colon = colon} {cs = cs} {k = k} v e h i old) = keyed n keys at c colon cs k v e h i ∙ twice n keys v colon old
  mapping-breaks (suc n) keys at f le (flow.MappingBreaks.value {c = c} {colon = colon} {cs = cs} {k = k} v e h i is_new b) =
      keyed n keys at c colon cs k v e h i ∙ new n keys v colon is_new
      ∙ ap (value_behind bytes (λ next. later_on n (keys ++ v.text ∷ []) next) v) (flow-value-breaks bytes colon f b)
  mapping-breaks (suc n) keys at f le (flow.MappingBreaks.no_sign {after = after} {v = v} {t = t} h g) = begun n keys at after v t _ h g
  mapping-breaks (suc n) keys at _ le (flow.MappingBreaks.sign {after = after} {wrong = wrong} {v = v} {t = t} h g a b) =
      begun n keys at after v t _ h g ∙ rw (ne_eqb wrong.byte 44 a, ne_eqb wrong.byte 125 b) refl
  mapping-breaks (suc n) keys at f le (flow.MappingBreaks.later {after = after} {comma = comma} {cs = cs} {v = v} {t = t} h g b h2) =
      begun n keys at after v t _ h g
      ∙ rw (eq-eqb comma.byte 44 b) (ap (with_entry v t) (mapping-breaks n (keys ++ v.text ∷ []) (suc comma.at) f (goes-on n keys at after v t comma cs le h g) h2))

  abbrev pub MappingTold : Keys → ℕ → FlowRead Entries → Type 0
  MappingTold keys at (Ok x) = MappingIn bytes keys at x.0 x.1
  MappingTold keys at (Err f) = MappingBreaks bytes keys at f

  -- a reader of fewer turns
  abbrev Tells : ℕ → Later → Type 0
  Tells n read = (ks : Keys) (at : ℕ) → enough n at → MappingTold ks at (read ks at)

  entry-told : (keys : Keys) (at after : ℕ) (comma : Cell) (cs : List Cell) (v : Value) (t : Tree) → FlowEntry bytes keys at v t after → part_is after (at_part comma cs) → comma.byte ≡ 44
      → (r : FlowRead Entries) → MappingTold (keys ++ v.text ∷ []) (suc comma.at) r → MappingTold keys at (with_entry v t r)
  entry-told keys at after comma cs v t h g b (Ok x) told = flow.MappingIn.more h g b told
  entry-told keys at after comma cs v t h g b (Err f) told = flow.MappingBreaks.later h g b told

  sign-told : (n : ℕ) (read : Later) (keys : Keys) (at after : ℕ) (v : Value) (t : Tree) → Tells n read → enough (suc n) at → FlowEntry bytes keys at v t after → (x : Next) → part_is after x
      → MappingTold keys at (mapping_sign (λ next. read (keys ++ v.text ∷ []) next) v t x)
  sign-told n read keys at after v t told le h (broken f) g = flow.MappingBreaks.no_sign h g
  sign-told n read keys at after v t told le h (at_part d ds) g = by (eqb d.byte 44) (eqb d.byte 125) refl refl
    where
      by : (a b : Bool) → eqb d.byte 44 ≡ a → eqb d.byte 125 ≡ b → MappingTold keys at (cond a (with_entry v t (read (keys ++ v.text ∷ []) (suc d.at))) (cond b (Ok (entry v t no_entries, d)) (Err (sign_fault d))))
      by true b p q = entry-told keys at after d ds v t h g (eqb-true d.byte 44 p) (read (keys ++ v.text ∷ []) (suc d.at)) (told (keys ++ v.text ∷ []) (suc d.at) (goes-on n keys at after v t d ds le h g))
      by false true p q = flow.MappingIn.last h g (eqb-true d.byte 125 q)
      by false false p q = flow.MappingBreaks.sign h g (differs d.byte 44 p) (differs d.byte 125 q)

  value-told : (n : ℕ) (read : Later) (keys : Keys) (at : ℕ) (c colon : Cell) (cs : List Cell) (k : Key) (v : Value) → Tells n read → enough (suc n) at → part_is at (at_part c cs) → FlowKey c cs k colon → IsKey c cs k v → (Contains keys v.text → ⊥)
      → (r : Result Valued Fault) → FlowValueTold bytes colon r → MappingTold keys at (value_behind bytes (λ next. read (keys ++ v.text ∷ []) next) v r)
  value-told n read keys at c colon cs k v told le e h i is_new (Ok x) w =
      sign-told n read keys at x.1 v x.0 told le (record { first = c; more = cs; part = e; key = k; colon = colon; is_key = h; key_value = i; is_new = is_new; value = w }) (next_on bytes x.1) refl
  value-told n read keys at c colon cs k v told le e h i is_new (Err f) w = flow.MappingBreaks.value v e h i is_new w

  key-told : (n : ℕ) (read : Later) (keys : Keys) (at : ℕ) (c : Cell) (cs : List Cell) → Tells n read → enough (suc n) at → part_is at (at_part c cs) → c.byte ≢ 125 → (r : Result Signed Fault) → FlowKeyTold bytes c cs r
      → MappingTold keys at (key_behind bytes read keys r)
  key-told n read keys at c cs told le e ne (Ok x) (k, h, i) =
      elim (has-tells keys x.0.text) [
        | inl a ↦ rw a.0 (flow.MappingBreaks.twice x.0 e h i a.1)
        | inr a ↦ rw a.0 (value-told n read keys at c x.1 cs k x.0 told le e h i a.1 (flow_value bytes x.1) (flow-value-tells bytes x.1))
      ]
  key-told n read keys at c cs told le e ne (Err f) h = flow.MappingBreaks.key keys e ne h

  part-told : (n : ℕ) (read : Later) (keys : Keys) (at : ℕ) → Tells n read → enough (suc n) at → (x : Next) → part_is at x → MappingTold keys at (mapping_part bytes read keys x)
  part-told n read keys at told le (broken f) e = flow.MappingBreaks.no_part keys e
  part-told n read keys at told le (at_part c cs) e = by (eqb c.byte 125) refl
    where
      by : (a : Bool) → eqb c.byte 125 ≡ a → MappingTold keys at (cond a (Ok (no_entries, c)) (key_behind bytes read keys (flow_key bytes c cs)))
      by true p = flow.MappingIn.closes keys e (eqb-true c.byte 125 p)
      by false p = key-told n read keys at c cs told le e (differs c.byte 125 p) (flow_key bytes c cs) (flow-key-tells bytes c cs)

  pub mapping-tells : (n : ℕ) (keys : Keys) (at : ℕ) → enough n at → MappingTold keys at (mapping_in bytes n keys at)
  unfolding mapping_in
  mapping-tells zero keys at h = let lt = h.0 in absurd (omega (arith, lt))
  mapping-tells (suc n) keys at h = part-told n (later_on n) keys at (λ ks next less. mapping-tells n ks next less) h (next_on bytes at) refl
