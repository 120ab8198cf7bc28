-- Keys and values of flow mappings are read.
use Rattle.std.proofs.Common.{◌≡◌, ℕ, suc, ◌≤◌, Bool, true, false, cond, eqb, List, [], ◌∷◌, ◌++◌, append_assoc, Option, Some, None, Result, Ok, Err, length, eq-eqb, refl, ap, arith, sym, ◌∙◌, subst, inl, inr, ◌&&◌, ◌||◌}
use Rattle.std.proofs.lemmas.Bool.{eqb-true, cases_Bool}
use Rattle.lf_base.specs.declared.kind.Kind.TheVariants.{OpenQuote, LeftOut}
use Rattle.lf_scalar.specs.declared.quotes.Quotes.{Quotes}
use Rattle.lf_base.specs.declared.fault.Fault.{Fault}
use Rattle.lf_scalar.specs.Plain.{before_blank}
use Rattle.std.specs.List.{flat_map}
use Rattle.std.proofs.lemmas.Option.{same_Some}
use Rattle.std.proofs.Math.Bool.{or-true}
use Rattle.lf_scalar.specs.Cells.{Cell, cell, Value, byte_fault, character_fault}
use Rattle.lf_scalar.specs.Lines.{is_blank, after_blanks, begins_with}
use Rattle.lf_scalar.specs.Folding.{trimmed}
use Rattle.lf_scalar.specs.Quoted.{quote_of, raw, Closes}
use Rattle.lf_scalar.proofs.Closing.{closes-again}
use Rattle.lf_scalar.proofs.Parts.{after-blanks-part}
use Rattle.lf_scalar.proofs.Rising.{Rises, rises-le, rises-back, rises-part, rises-before, rises-behind}
use Rattle.lf_scalar.proofs.Tails.{true-false}
use Rattle.lf_yaml.specs.Keys.{is_too_far, before_offset, is_key_left_out}
use Rattle.lf_scalar.specs.Splits.{Split, behind_cell}
use Rattle.lf_yaml.specs.Heads.{key_in, Key, Bare, Between, IsKey, IsSignBehind, OpensQuote}
use Rattle.lf_yaml.specs.Tree.{Tree}
use Rattle.lf_yaml.specs.Spans.{empty_at}
use Rattle.lf_yaml.specs.Flow.{Next, at_part, broken, next_on, is_flow_sign, begins_flow, line_on, left_on, FlowScalar, begins_part, part_fault, FlowKey, NoSign, FlowKeyBreaks, EndsValue, FlowValue, FlowValueBreaks}
use Rattle.lf_yaml.specs.Flow as flow
use Rattle.lf_yaml.specs.reading.Trees.{sign_behind, behind_closing, FlowPart, flow_scalar, Signed, no_sign, signed, signed_behind, far_sign, bare_key, plain_key, quoted_key as key_between, flow_key_by, flow_key, Valued, scalar_part, value_part, flow_value}
use Rattle.lf_yaml.proofs.HeadLaws.{quotes-is, quotes-view, between-view, single_line, BetweenTold, between-tells, between-is, between-breaks, sign-is, sign-view}
use Rattle.lf_yaml.proofs.FlowParts.{part-within, part-is, part-breaks, PartTold, part-tells, part-begins, quote-begins, flow-begins, part-no-sign, flow-quotes, no-part-quotes, no-part-flow, part-flow, scalar-within}

-- ---- the text before a `:`

-- no key begins with a `:`
no-colon : (c : Cell) (cs : List Cell) → begins_flow c cs ≡ true → eqb c.byte 58 ≡ false
no-colon c cs p =
    elim (cases_Bool (eqb c.byte 58)) [
      | inl a ↦ true-false (begins_flow c cs) p (ap (λ (b : ℕ). begins_flow (cell b c.at) cs) (eqb-true c.byte 58 a))
      | inr a ↦ a
    ]

-- so it begins with its first cell
key-front : (c : Cell) (cs : List Cell) (x : Split) → begins_flow c cs ≡ true → key_in is_flow_sign before_blank (c ∷ cs) ≡ Some x → (front : List Cell) × (x.0 ≡ c ∷ front)
unfolding key_in
key-front c cs x p e = by (is_flow_sign c) (is_blank c && begins_with 35 cs) (key_in is_flow_sign before_blank cs) (rw (no-colon c cs p) at e)
  where
    by : (a b : Bool) (o : Option Split) → cond a None (cond b None (behind_cell c o)) ≡ Some x → (front : List Cell) × (x.0 ≡ c ∷ front)
    by true b o h = absurd cc
    by false true o h = absurd cc
    by false false None h = absurd cc
    by false false (Some y) h = (y.0, ap (λ (z : Split). z.0) (sym (same_Some (c ∷ y.0, y.1) x h)))

-- what stands behind a key's sign ends its line
abbrev joined : Option Split → List Cell
joined None = []
joined (Some y) = y.0 ++ y.1.0 ∷ y.1.1

split-step : (c : Cell) (cs : List Cell) (x : Split) (a b d : Bool) (o : Option Split) → ((y : Split) → o ≡ Some y → cs ≡ y.0 ++ y.1.0 ∷ y.1.1) → cond a (Some ([], (c, cs))) (cond b None (cond d None (behind_cell c o))) ≡ Some x
    → c ∷ cs ≡ x.0 ++ x.1.0 ∷ x.1.1
split-step c cs x true b d o source h = ap joined h
split-step c cs x false true d o source h = absurd cc
split-step c cs x false false true o source h = absurd cc
split-step c cs x false false false None source h = absurd cc
split-step c cs x false false false (Some y) source h = ap (λ (xs : List Cell). c ∷ xs) (source y refl) ∙ ap joined h

pub split-source : (stops : Cell → Bool) (ends : List Cell → Bool) (cs : List Cell) (x : Split) → key_in stops ends cs ≡ Some x → cs ≡ x.0 ++ x.1.0 ∷ x.1.1
unfolding key_in
split-source stops ends [] x e = absurd cc
split-source stops ends (c ∷ cs) x e =
    split-step c cs x (eqb c.byte 58 && ends cs) (stops c) (is_blank c && begins_with 35 cs) (key_in stops ends cs) (λ y h. split-source stops ends cs y h) e

-- ---- keys

module _ (bytes : List ℕ) where
  between-key : (kind : Quotes) (c : Cell) (cs : List Cell) (between : Closes kind cs) → c.byte ≡ quote_of kind
      → flow_key bytes c cs ≡ cond (far_sign (c ∷ cs) (sign_behind between.rest)) (Err (character_fault LeftOut c)) (signed_behind bytes (suc between.closing.at) between.rest (single_line kind c between))
  unfolding flow_key
  between-key kind c cs between e = ap (flow_key_by bytes c cs) (quotes-is c kind e) ∙ ap (key_between bytes kind c cs) (closes-again kind cs between)

  quoted-key : (kind : Quotes) (c : Cell) (cs : List Cell) (between : Closes kind cs) → c.byte ≡ quote_of kind → far_sign (c ∷ cs) (sign_behind between.rest) ≡ false
      → flow_key bytes c cs ≡ signed_behind bytes (suc between.closing.at) between.rest (single_line kind c between)
  quoted-key kind c cs between e near =
      between-key kind c cs between e ∙ ap (λ (b : Bool). cond b (Err (character_fault LeftOut c)) (signed_behind bytes (suc between.closing.at) between.rest (single_line kind c between))) near

  far-key : (kind : Quotes) (c : Cell) (cs : List Cell) (between : Closes kind cs) → c.byte ≡ quote_of kind → far_sign (c ∷ cs) (sign_behind between.rest) ≡ true → flow_key bytes c cs ≡ Err (character_fault LeftOut c)
  far-key kind c cs between e far =
      between-key kind c cs between e ∙ ap (λ (b : Bool). cond b (Err (character_fault LeftOut c)) (signed_behind bytes (suc between.closing.at) between.rest (single_line kind c between))) far

  plain-key : (c : Cell) (cs : List Cell) (o : Option Split) → begins_flow c cs ≡ true → key_in is_flow_sign before_blank (c ∷ cs) ≡ o → flow_key bytes c cs ≡ plain_key bytes c cs o
  unfolding flow_key
  plain-key c cs o p e = ap (flow_key_by bytes c cs) (flow-quotes c cs p) ∙ rw p (ap (plain_key bytes c cs) e)

  same-rest : (kind : Quotes) (cs : List Cell) (a b : Closes kind cs) → a.rest ≡ b.rest
  same-rest kind cs a b = ap behind_closing (sym (closes-again kind cs a) ∙ closes-again kind cs b)

  -- whether a sign stands too far
  sign-far : (c : Cell) (cs : List Cell) (kind : Quotes) (between : Closes kind cs) (colon : Cell) (rest : List Cell) → IsSignBehind between.rest colon rest → far_sign (c ∷ cs) (sign_behind between.rest) ≡ is_too_far (before_offset colon.at (c ∷ cs))
  sign-far c cs kind between colon rest s = ap (far_sign (c ∷ cs)) (sign-is between.rest colon rest s)

  none-far : (c : Cell) (cs : List Cell) (kind : Quotes) (between : Closes kind cs) → flow.NoneFar c cs between → far_sign (c ∷ cs) (sign_behind between.rest) ≡ false
  none-far c cs kind between near =
      elim (sign-view between.rest) [
        | inl (colon, rest, s, t) ↦ sign-far c cs kind between colon rest s ∙ near colon rest s
        | inr (n, s) ↦ ap (far_sign (c ∷ cs)) n
      ]

  pub flow-key-is : (c : Cell) (cs : List Cell) (k : Key) (colon : Cell) (v : Value) → FlowKey c cs k colon → IsKey c cs k v → flow_key bytes c cs ≡ Ok (v, colon)
  flow-key-is c cs _ _ v (flow.FlowKey.quoted {rest = rest} {colon = colon} kind between e s near) (other, h) =
      let s2 : IsSignBehind other.rest colon rest = subst (λ (xs : List Cell). IsSignBehind xs colon rest) (same-rest kind cs between other) s in
      quoted-key kind c cs other e (sign-far c cs kind other colon rest s2 ∙ near) ∙ ap (signed_behind bytes (suc other.closing.at) other.rest) (between-is kind c cs other v h) ∙ ap (signed bytes v (suc other.closing.at)) (sign-is other.rest colon rest s2)
  flow-key-is c cs _ _ v (flow.FlowKey.bare {front = front} {rest = rest} {colon = colon} p e n) h =
      plain-key c cs _ p e ∙ rw n (ap (λ (x : Value). Ok (x, colon)) (sym h))

  -- a text without a sign
  nosign-is : (c : Cell) (cs : List Cell) (after : ℕ) → NoSign bytes c cs after → flow_key bytes c cs ≡ no_sign (next_on bytes after)
  nosign-is c cs _ (flow.NoSign.quoted kind between v e h none) =
      quoted-key kind c cs between e (ap (far_sign (c ∷ cs)) nothing) ∙ ap (signed_behind bytes (suc between.closing.at) between.rest) (between-is kind c cs between v h)
      ∙ ap (signed bytes v (suc between.closing.at)) nothing
    where
      nothing : sign_behind between.rest ≡ None
      nothing = elim (sign-view between.rest) [
        | inl (colon, rest, s, t) ↦ absurd (none colon rest s)
        | inr (n, s) ↦ n
      ]
  nosign-is c cs _ (flow.NoSign.bare p e) = plain-key c cs None p e

  open-key : (c : Cell) (cs : List Cell) (h : OpensQuote c cs) → flow_key bytes c cs ≡ Err (byte_fault OpenQuote c.at)
  unfolding flow_key
  open-key c cs h =
      elim (between-view h.kind cs) [
        | inl (between, e) ↦ absurd (h.unclosed between)
        | inr (n, e) ↦ ap (flow_key_by bytes c cs) (quotes-is c h.kind h.is_quote) ∙ ap (key_between bytes h.kind c cs) n
      ]

  no-key : (c : Cell) (cs : List Cell) → begins_part c cs ≡ false → flow_key bytes c cs ≡ Err (part_fault c cs)
  unfolding flow_key
  no-key c cs p = ap (flow_key_by bytes c cs) (no-part-quotes c cs p) ∙ rw (no-part-flow c cs p) refl

  pub flow-key-breaks : (c : Cell) (cs : List Cell) (f : Fault) → FlowKeyBreaks bytes c cs f → flow_key bytes c cs ≡ Err f
  flow-key-breaks c cs _ (flow.FlowKeyBreaks.no_key p) = no-key c cs p
  flow-key-breaks c cs _ (flow.FlowKeyBreaks.key_left_out p e n) = plain-key c cs _ p e ∙ rw n refl
  flow-key-breaks c cs _ (flow.FlowKeyBreaks.open_quote h) = open-key c cs h
  flow-key-breaks c cs _ (flow.FlowKeyBreaks.quoted_left_out {rest = rest} {colon = colon} kind between e s far) = far-key kind c cs between e (sign-far c cs kind between colon rest s ∙ far)
  flow-key-breaks c cs f (flow.FlowKeyBreaks.escape kind e h near) = quoted-key kind c cs h.0 e (none-far c cs kind h.0 near) ∙ ap (signed_behind bytes (suc h.0.closing.at) h.0.rest) (between-breaks kind c cs f h)
  flow-key-breaks c cs f (flow.FlowKeyBreaks.no_part {after = after} n e) = nosign-is c cs after n ∙ ap no_sign e
  flow-key-breaks c cs _ (flow.FlowKeyBreaks.no_sign {after = after} n e) = nosign-is c cs after n ∙ ap no_sign e

  abbrev pub FlowKeyTold : Cell → List Cell → Result Signed Fault → Type 0
  FlowKeyTold c cs (Ok x) = (k : Key) × FlowKey c cs k x.1 × IsKey c cs k x.0
  FlowKeyTold c cs (Err f) = FlowKeyBreaks bytes c cs f

  nosign-told : (c : Cell) (cs : List Cell) (after : ℕ) → NoSign bytes c cs after → (x : Next) → next_on bytes after ≡ x → FlowKeyTold c cs (no_sign x)
  nosign-told c cs after n (broken f) e = flow.FlowKeyBreaks.no_part n e
  nosign-told c cs after n (at_part d ds) e = flow.FlowKeyBreaks.no_sign n e

  far-told : (kind : Quotes) (c : Cell) (cs : List Cell) (between : Closes kind cs) → c.byte ≡ quote_of kind → far_sign (c ∷ cs) (sign_behind between.rest) ≡ true → FlowKeyBreaks bytes c cs (character_fault LeftOut c)
  far-told kind c cs between e far =
      elim (sign-view between.rest) [
        | inl (colon, rest, s, t) ↦ flow.FlowKeyBreaks.quoted_left_out kind between e s (sym (sign-far c cs kind between colon rest s) ∙ far)
        | inr (n, s) ↦ true-false (far_sign (c ∷ cs) (sign_behind between.rest)) far (ap (far_sign (c ∷ cs)) n)
      ]

  -- each proof of what closes tells the same
  still-near : (kind : Quotes) (c : Cell) (cs : List Cell) (a b : Closes kind cs) → far_sign (c ∷ cs) (sign_behind a.rest) ≡ false → flow.NoneFar c cs b
  still-near kind c cs a b near colon rest s = sym (ap (λ (xs : List Cell). far_sign (c ∷ cs) (sign_behind xs)) (same-rest kind cs a b) ∙ sign-far c cs kind b colon rest s) ∙ near

  between-told : (kind : Quotes) (c : Cell) (cs : List Cell) (between : Closes kind cs) → c.byte ≡ quote_of kind → far_sign (c ∷ cs) (sign_behind between.rest) ≡ false
      → (r : Result Value Fault) → BetweenTold kind c cs between r → FlowKeyTold c cs (signed_behind bytes (suc between.closing.at) between.rest r)
  between-told kind c cs between e near (Ok v) h =
      elim (sign-view between.rest) [
        | inl (colon, rest, s, t) ↦ subst (λ (o : Option (Cell × List Cell)). FlowKeyTold c cs (signed bytes v (suc between.closing.at) o)) (sym t) (Between kind, flow.FlowKey.quoted kind between e s (sym (sign-far c cs kind between colon rest s) ∙ near), (between, h))
        | inr (n, s) ↦
            subst (λ (o : Option (Cell × List Cell)). FlowKeyTold c cs (signed bytes v (suc between.closing.at) o)) (sym n)
            (nosign-told c cs (suc between.closing.at) (flow.NoSign.quoted kind between v e h s) (next_on bytes (suc between.closing.at)) refl)
      ]
  between-told kind c cs between e near (Err f) h = flow.FlowKeyBreaks.escape kind e h (still-near kind c cs between h.0 near)

  closed-told : (kind : Quotes) (c : Cell) (cs : List Cell) (between : Closes kind cs) → c.byte ≡ quote_of kind → FlowKeyTold c cs (flow_key bytes c cs)
  closed-told kind c cs between e =
      elim (cases_Bool (far_sign (c ∷ cs) (sign_behind between.rest))) [
        | inl far ↦ subst (FlowKeyTold c cs) (sym (far-key kind c cs between e far)) (far-told kind c cs between e far)
        | inr near ↦ subst (FlowKeyTold c cs) (sym (quoted-key kind c cs between e near)) (between-told kind c cs between e near (single_line kind c between) (between-tells kind c cs between))
      ]

  plain-told : (c : Cell) (cs : List Cell) → begins_flow c cs ≡ true → (o : Option Split) → key_in is_flow_sign before_blank (c ∷ cs) ≡ o → FlowKeyTold c cs (plain_key bytes c cs o)
  plain-told c cs p None e = nosign-told c cs (left_on (line_on bytes c.at)) (flow.NoSign.bare p e) (next_on bytes (left_on (line_on bytes c.at))) refl
  plain-told c cs p (Some x) e =
      let f = key-front c cs x p e in
      let again : key_in is_flow_sign before_blank (c ∷ cs) ≡ Some (c ∷ f.0, (x.1.0, x.1.1)) = e ∙ ap (λ (front : List Cell). Some (front, x.1)) f.1 in
      rw f.1 (by f.0 again (is_key_left_out (c ∷ f.0)) refl)
    where
      by : (front : List Cell) → key_in is_flow_sign before_blank (c ∷ cs) ≡ Some (c ∷ front, (x.1.0, x.1.1)) → (b : Bool) → is_key_left_out (c ∷ front) ≡ b
          → FlowKeyTold c cs (cond b (Err (character_fault LeftOut c)) (Ok (bare_key c (trimmed is_blank (c ∷ front)), x.1.0)))
      by front again true n = flow.FlowKeyBreaks.key_left_out p again n
      by front again false n = (Bare (trimmed is_blank (c ∷ front)), flow.FlowKey.bare p again n, refl)

  pub flow-key-tells : (c : Cell) (cs : List Cell) → FlowKeyTold c cs (flow_key bytes c cs)
  flow-key-tells c cs =
      elim (quotes-view c) [
        | inl (kind, q, s) ↦ elim (between-view kind cs) [
          | inl (between, e) ↦ closed-told kind c cs between q
          | inr (n, e) ↦ let h : OpensQuote c cs = record { kind = kind; is_quote = q; unclosed = e } in subst (FlowKeyTold c cs) (sym (open-key c cs h)) (flow.FlowKeyBreaks.open_quote h)
        ]
        | inr (q, n) ↦ elim (cases_Bool (begins_flow c cs)) [
          | inl p ↦ subst (FlowKeyTold c cs) (sym (plain-key c cs (key_in is_flow_sign before_blank (c ∷ cs)) p refl)) (plain-told c cs p (key_in is_flow_sign before_blank (c ∷ cs)) refl)
          | inr p ↦ subst (FlowKeyTold c cs) (sym (no-key c cs (part-flow c cs n p))) (flow.FlowKeyBreaks.no_key (part-flow c cs n p))
        ]
      ]

  -- ---- values

  ends-value : (c : Cell) → EndsValue c → (eqb c.byte 44 || eqb c.byte 125) ≡ true
  ends-value c (inl h) = rw (eq-eqb c.byte 44 h) refl
  ends-value c (inr h) = rw (eq-eqb c.byte 125 h) (or-true (eqb c.byte 44))

  ends-told : (c : Cell) → (eqb c.byte 44 || eqb c.byte 125) ≡ true → EndsValue c
  ends-told c h = by (eqb c.byte 44) (eqb c.byte 125) refl refl h
    where
      by : (a b : Bool) → eqb c.byte 44 ≡ a → eqb c.byte 125 ≡ b → (a || b) ≡ true → EndsValue c
      by true b p q h = inl (eqb-true c.byte 44 p)
      by false true p q h = inr (eqb-true c.byte 125 q)
      by false false p q h = true-false false h refl

  part-not-ends : (c : Cell) (cs : List Cell) (v : Value) (after : ℕ) → FlowScalar bytes c cs v after → (eqb c.byte 44 || eqb c.byte 125) ≡ false
  part-not-ends c cs v after h = rw (part-no-sign 44 c cs refl (part-begins bytes c cs v after h), part-no-sign 125 c cs refl (part-begins bytes c cs v after h)) refl

  not-ends : (c : Cell) → (EndsValue c → ⊥) → (eqb c.byte 44 || eqb c.byte 125) ≡ false
  not-ends c n =
      elim (cases_Bool (eqb c.byte 44 || eqb c.byte 125)) [
        | inl h ↦ absurd (n (ends-told c h))
        | inr h ↦ h
      ]

  pub flow-value-is : (colon : Cell) (t : Tree) (after : ℕ) → FlowValue bytes colon t after → flow_value bytes colon ≡ Ok (t, after)
  unfolding flow_value
  flow-value-is colon _ _ (flow.FlowValue.missing {c = c} e h) = ap (value_part bytes colon) e ∙ rw (ends-value c h) refl
  flow-value-is colon _ after (flow.FlowValue.scalar {c = c} {cs = cs} {v = v} e h) =
      ap (value_part bytes colon) e ∙ rw (part-not-ends c cs v after h) (ap scalar_part (part-is bytes c cs v after h))

  pub flow-value-breaks : (colon : Cell) (f : Fault) → FlowValueBreaks bytes colon f → flow_value bytes colon ≡ Err f
  unfolding flow_value
  flow-value-breaks colon f (flow.FlowValueBreaks.no_part e) = ap (value_part bytes colon) e
  flow-value-breaks colon f (flow.FlowValueBreaks.scalar {c = c} {cs = cs} e n h) =
      ap (value_part bytes colon) e ∙ rw (not-ends c n) (ap scalar_part (part-breaks bytes c cs f h))

  abbrev pub FlowValueTold : Cell → Result Valued Fault → Type 0
  FlowValueTold colon (Ok x) = FlowValue bytes colon x.0 x.1
  FlowValueTold colon (Err f) = FlowValueBreaks bytes colon f

  scalar-told : (colon c : Cell) (cs : List Cell) → next_on bytes (suc colon.at) ≡ at_part c cs → (EndsValue c → ⊥) → (r : Result FlowPart Fault) → PartTold bytes c cs r → FlowValueTold colon (scalar_part r)
  scalar-told colon c cs e n (Ok x) h = flow.FlowValue.scalar e h
  scalar-told colon c cs e n (Err f) h = flow.FlowValueBreaks.scalar e n h

  value-told : (colon : Cell) (x : Next) → next_on bytes (suc colon.at) ≡ x → FlowValueTold colon (value_part bytes colon x)
  value-told colon (broken f) e = flow.FlowValueBreaks.no_part e
  value-told colon (at_part c cs) e = by (eqb c.byte 44 || eqb c.byte 125) refl
    where
      by : (b : Bool) → (eqb c.byte 44 || eqb c.byte 125) ≡ b → FlowValueTold colon (cond b (Ok (empty_at (suc colon.at), suc colon.at)) (scalar_part (flow_scalar bytes c cs)))
      by true h = flow.FlowValue.missing e (ends-told c h)
      by false h = scalar-told colon c cs e (λ x. true-false (eqb c.byte 44 || eqb c.byte 125) (ends-value c x) h) (flow_scalar bytes c cs) (part-tells bytes c cs)

  pub flow-value-tells : (colon : Cell) → FlowValueTold colon (flow_value bytes colon)
  unfolding flow_value
  flow-value-tells colon = value-told colon (next_on bytes (suc colon.at)) refl

-- ---- where a key's sign stands, and where the mapping is read on behind the value

pub key-within : (hi : ℕ) (c : Cell) (cs : List Cell) (k : Key) (colon : Cell) → FlowKey c cs k colon → Rises c.at (c ∷ cs) hi → (c.at ≤ colon.at) × (suc colon.at ≤ hi)
key-within hi c cs _ _ (flow.FlowKey.quoted {rest = rest} {colon = colon} kind between e s near) r =
    let inner : Rises (suc c.at) (flat_map raw between.raws ++ between.closing ∷ between.rest) hi = subst (λ (xs : List Cell). Rises (suc c.at) xs hi) between.source r.1 in
    let behind : Rises (suc c.at) between.rest hi = rises-back (suc c.at) (flat_map raw between.raws ++ between.closing ∷ []) between.rest hi (subst (λ (xs : List Cell). Rises (suc c.at) xs hi) (sym (append_assoc (flat_map raw between.raws) (between.closing ∷ []) between.rest)) inner) in
    let sign : Rises (suc c.at) (colon ∷ rest) hi = subst (λ (xs : List Cell). Rises (suc c.at) xs hi) s.0 (rises-part (suc c.at) between.rest (after_blanks between.rest) hi (after-blanks-part between.rest) behind) in
    let low = sign.0 in
    (omega (arith, low), rises-le (suc colon.at) rest hi sign.1)
key-within hi c cs _ _ (flow.FlowKey.bare {front = front} {rest = rest} {colon = colon} p e n) r =
    let s : Rises c.at ((c ∷ front) ++ colon ∷ rest) hi = subst (λ (xs : List Cell). Rises c.at xs hi) (split-source is_flow_sign before_blank (c ∷ cs) (c ∷ front, (colon, rest)) e) r in
    (rises-le c.at (c ∷ front) colon.at (rises-before c.at (c ∷ front) colon rest hi s), rises-le (suc colon.at) rest hi (rises-behind c.at (c ∷ front) colon rest hi s))

pub key-begins : (c : Cell) (cs : List Cell) (k : Key) (colon : Cell) → FlowKey c cs k colon → begins_part c cs ≡ true
key-begins c cs _ _ (flow.FlowKey.quoted kind between e s near) = quote-begins c cs kind e
key-begins c cs _ _ (flow.FlowKey.bare p e n) = flow-begins c cs p

pub value-within : (bytes : List ℕ) (colon : Cell) (t : Tree) (after : ℕ) → FlowValue bytes colon t after → suc colon.at ≤ length bytes → (suc colon.at ≤ after) × (after ≤ length bytes)
value-within bytes colon _ _ (flow.FlowValue.missing e h) le = (omega arith, le)
value-within bytes colon _ after (flow.FlowValue.scalar {c = c} {cs = cs} {v = v} e h) le =
    let a = part-within bytes (suc colon.at) c cs e in
    let b = scalar-within bytes c cs v after a.1 h in
    let low = a.0 in
    (omega (arith, low, b.0), b.1)
