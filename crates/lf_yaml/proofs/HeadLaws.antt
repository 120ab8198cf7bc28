-- How a row begins is read: keys and their signs, scalars between quotes, keys that stand before.
use Rattle.std.proofs.Common.{◌≡◌, ◌≢◌, ℕ, suc, ◌+◌, Bool, true, false, cond, eqb, List, [], ◌∷◌, Option, Some, None, Result, Ok, Err, length, eq-eqb, refl, ap, arith, sym, ◌∙◌, subst, ◌⊎◌, inl, inr}
use Rattle.std.specs.Prelude.{Contains, bytes_eq}
use Rattle.std.specs.List.{flat_map}
use Rattle.std.proofs.lemmas.Bool.Decides.{eqb_tells}
use Rattle.std.proofs.lemmas.Slice.Eq.{bytes_eq-Decides}
use Rattle.std.proofs.lemmas.List.Elements.{Contains-append_left, Contains-append_right, Contains-append_cases}
use Rattle.std.proofs.lemmas.Bool.{cases_Bool}
use Rattle.std.proofs.lemmas.Option.{none-some}
use Rattle.std.proofs.Math.Bool.{and-false, or-true}
use Rattle.lf_scalar.specs.declared.quotes.Quotes.{Quotes}
use Rattle.lf_scalar.specs.declared.quotes.Quotes.TheVariants.{Single, Double}
use Rattle.lf_base.specs.declared.fault.Fault.{Fault}
use Rattle.lf_laws.proofs.Members.{only_one}
use Rattle.lf_scalar.specs.Cells.{Cell, cell, Value}
use Rattle.lf_scalar.specs.Lines.{is_blank, after_blanks}
use Rattle.lf_scalar.specs.Folding.{trimmed}
use Rattle.lf_scalar.specs.Plain.{before_blank, begins_plain}
use Rattle.lf_scalar.specs.Quoted.{quote_of, raw, Closes}
use Rattle.lf_scalar.specs.reading.Quoted.{closing_of, quoted_of}
use Rattle.lf_scalar.specs.Splits.{Split}
use Rattle.lf_scalar.proofs.Closing.{closes-again, closes-or-none}
use Rattle.lf_scalar.proofs.QuotedWhole as whole
use Rattle.lf_scalar.proofs.Tails.{true-false}
use Rattle.lf_yaml.specs.Rows.{ContentRow, text_of, is_left_out}
use Rattle.lf_yaml.specs.Heads.{is_item, key_in, never, Key, Bare, Between, up_to, IsBetween, BetweenBreaks, IsKey, KeyBreaks, IsSignBehind, BeginsEntry, bare, quoted, NoEntry, BeginsBlock, BeginsNoBlock, OpensQuote}
use Rattle.lf_yaml.specs.reading.Trees.{quotes_of, EntryHead, sign_if, sign_behind, quoted_sign, quoted_head, bare_head, entry_by, entry_of, between_of, key_of, opens_by, opens_quote, has, begins_block}

-- ---- quotes

no-39 : (b : ℕ) → b ≡ 34 → eqb b 39 ≡ false
no-39 b h = rw h refl

pub quotes-is : (c : Cell) (kind : Quotes) → c.byte ≡ quote_of kind → quotes_of c ≡ Some kind
quotes-is c Single e = rw (eq-eqb c.byte 39 e) refl
quotes-is c Double e = rw (no-39 c.byte e, eq-eqb c.byte 34 e) refl

abbrev pub NoQuote : Cell → Type 0
NoQuote c = (kind : Quotes) → c.byte ≡ quote_of kind → ⊥

abbrev pub QuotesView : Cell → Type 0
QuotesView c = ((kind : Quotes) × (c.byte ≡ quote_of kind) × (quotes_of c ≡ Some kind)) ⊎ ((quotes_of c ≡ None) × NoQuote c)

no-quote : (c : Cell) → c.byte ≢ 39 → c.byte ≢ 34 → NoQuote c
no-quote c a b Single e = a e
no-quote c a b Double e = b e

pub quotes-view : (c : Cell) → QuotesView c
quotes-view c =
    elim (eqb_tells c.byte 39) [
      | inl a ↦ inl (Single, a.1, quotes-is c Single a.1)
      | inr a ↦ elim (eqb_tells c.byte 34) [
        | inl b ↦ inl (Double, b.1, quotes-is c Double b.1)
        | inr b ↦ inr (rw (a.0, b.0) refl, no-quote c a.1 b.1)
      ]
    ]

-- what is false of each quote is false of a cell that is one
pub not-quote : (P : ℕ → Bool) (c : Cell) → P 39 ≡ false → P 34 ≡ false → P c.byte ≡ true → quotes_of c ≡ None
not-quote P c a b h =
    elim (eqb_tells c.byte 39) [
      | inl x ↦ true-false (P c.byte) h (ap P x.1 ∙ a)
      | inr x ↦ elim (eqb_tells c.byte 34) [
        | inl y ↦ true-false (P c.byte) h (ap P y.1 ∙ b)
        | inr y ↦ rw (x.0, y.0) refl
      ]
    ]

plain-quotes : (c : Cell) (cs : List Cell) → begins_plain (c ∷ cs) ≡ true → quotes_of c ≡ None
plain-quotes c cs h = not-quote (λ b. begins_plain (cell b c.at ∷ cs)) c refl refl h

-- ---- scalars between quotes on one line

abbrev pub BetweenView : Quotes → List Cell → Type 0
BetweenView kind cs = ((between : Closes kind cs) × (closing_of kind 0 cs ≡ Some (flat_map raw between.raws, (between.closing, between.rest)))) ⊎ ((closing_of kind 0 cs ≡ None) × (Closes kind cs → ⊥))

abbrev pub found : {kind : Quotes} {cs : List Cell} → Closes kind cs → Split
found between = (flat_map raw between.raws, (between.closing, between.rest))

pub between-view : (kind : Quotes) (cs : List Cell) → BetweenView kind cs
between-view kind cs =
    elim (closes-or-none kind (suc (length cs)) cs (omega arith)) [
      | inl between ↦ inl (between, closes-again kind cs between)
      | inr n ↦ inr (n, λ between. none-some (found between) (sym n ∙ closes-again kind cs between))
    ]

-- what a reader of such a scalar gives
abbrev pub single_line : (kind : Quotes) → Cell → {cs : List Cell} → Closes kind cs → Result Value Fault
single_line kind c between = quoted_of kind (between.closing.at + 1) c (up_to between)

abbrev pub BetweenTold : (kind : Quotes) → Cell → (cs : List Cell) → Closes kind cs → Result Value Fault → Type 0
BetweenTold kind c cs between (Ok v) = IsBetween kind c cs between v
BetweenTold kind c cs between (Err f) = BetweenBreaks kind c cs f

pub between-tells : (kind : Quotes) (c : Cell) (cs : List Cell) (between : Closes kind cs) → BetweenTold kind c cs between (single_line kind c between)
between-tells kind c cs between = by (single_line kind c between) (whole.quoted-tells kind (between.closing.at + 1) c (up_to between))
  where
    by : (r : Result Value Fault) → whole.Told kind (between.closing.at + 1) c (up_to between) r → BetweenTold kind c cs between r
    by (Ok v) h = h
    by (Err f) h = (between, h)

pub between-is : (kind : Quotes) (c : Cell) (cs : List Cell) (between : Closes kind cs) (v : Value) → IsBetween kind c cs between v → single_line kind c between ≡ Ok v
between-is kind c cs between v h = whole.quoted-again kind (between.closing.at + 1) c (up_to between) v h

pub between-breaks : (kind : Quotes) (c : Cell) (cs : List Cell) (f : Fault) (h : BetweenBreaks kind c cs f) → single_line kind c h.0 ≡ Err f
between-breaks kind c cs f h = whole.quoted-breaks kind (h.0.closing.at + 1) c (up_to h.0) f h.1

-- ---- the sign behind a key

pub sign-is : (cs : List Cell) (colon : Cell) (rest : List Cell) → IsSignBehind cs colon rest → sign_behind cs ≡ Some (colon, rest)
sign-is cs colon rest h = ap sign_if h.0 ∙ rw (eq-eqb colon.byte 58 h.1) refl

abbrev pub SignView : List Cell → Type 0
SignView cs = ((colon : Cell) × (rest : List Cell) × IsSignBehind cs colon rest × (sign_behind cs ≡ Some (colon, rest))) ⊎ ((sign_behind cs ≡ None) × ((colon : Cell) (rest : List Cell) → IsSignBehind cs colon rest → ⊥))

no-sign : (cs : List Cell) → sign_behind cs ≡ None → (colon : Cell) (rest : List Cell) → IsSignBehind cs colon rest → ⊥
no-sign cs n colon rest h = let x : Cell × List Cell = (colon, rest) in none-some x (sym n ∙ sign-is cs colon rest h)

pub sign-view : (cs : List Cell) → SignView cs
sign-view cs = by (after_blanks cs) refl
  where
    none : sign_behind cs ≡ None → SignView cs
    none e = inr (e, no-sign cs e)

    by : (after : List Cell) → after_blanks cs ≡ after → SignView cs
    by [] e = none (ap sign_if e)
    by (c ∷ rest) e =
        elim (eqb_tells c.byte 58) [
          | inl a ↦ inl (c, rest, (e, a.1), sign-is cs c rest (e, a.1))
          | inr a ↦ none (ap sign_if e ∙ rw a.0 refl)
        ]

-- ---- entries

-- a row that is left out begins no entry, and else its first cell decides
pub left-out : (r : ContentRow) → is_left_out r ≡ true → entry_of r ≡ None
unfolding entry_of
left-out r l = ap (λ (b : Bool). cond b None (entry_by r (quotes_of r.first))) l

pub kept : (r : ContentRow) → is_left_out r ≡ false → entry_of r ≡ entry_by r (quotes_of r.first)
unfolding entry_of
kept r l = ap (λ (b : Bool). cond b None (entry_by r (quotes_of r.first))) l

pub entry-is : (r : ContentRow) (k : Key) (colon : Cell) (rest : List Cell) → BeginsEntry r k colon rest → entry_of r ≡ Some (k, colon, rest)
entry-is r _ _ _ (bare {front = front} {rest = rest} {colon = colon} p l e) =
    kept r l ∙ ap (entry_by r) (plain-quotes r.first r.rest p) ∙ rw p (ap bare_head e)
entry-is r _ _ _ (quoted {rest = rest} {colon = colon} kind c e l s b) =
    kept r l ∙ ap (entry_by r) (quotes-is r.first kind e) ∙ ap (quoted_head kind) (closes-again kind r.rest c) ∙ ap (quoted_sign kind) (sign-is c.rest colon rest s) ∙ rw b refl

pub no-entry : (r : ContentRow) → entry_of r ≡ None → NoEntry r
no-entry r n k colon rest h = let x : EntryHead = (k, colon, rest) in none-some x (sym n ∙ entry-is r k colon rest h)

abbrev pub EntryView : ContentRow → Type 0
EntryView r = ((k : Key) × (colon : Cell) × (rest : List Cell) × BeginsEntry r k colon rest × (entry_of r ≡ Some (k, colon, rest))) ⊎ ((entry_of r ≡ None) × NoEntry r)

there : (r : ContentRow) (k : Key) (colon : Cell) (rest : List Cell) → BeginsEntry r k colon rest → EntryView r
there r k colon rest h = inl (k, colon, rest, h, entry-is r k colon rest h)

missing : (r : ContentRow) → entry_of r ≡ None → EntryView r
missing r e = inr (e, no-entry r e)

bare-view : (r : ContentRow) → quotes_of r.first ≡ None → is_left_out r ≡ false → EntryView r
bare-view r q l =
    elim (cases_Bool (begins_plain (text_of r))) [
      | inl p ↦ by p (key_in never before_blank (text_of r)) refl
      | inr p ↦ missing r (kept r l ∙ ap (entry_by r) q ∙ rw p refl)
    ]
  where
    by : begins_plain (text_of r) ≡ true → (o : Option Split) → key_in never before_blank (text_of r) ≡ o → EntryView r
    by p None e = missing r (kept r l ∙ ap (entry_by r) q ∙ rw p (ap bare_head e))
    by p (Some x) e = there r (Bare (trimmed is_blank x.0)) x.1.0 x.1.1 (bare p l e)

quoted-view : (r : ContentRow) (kind : Quotes) → r.first.byte ≡ quote_of kind → is_left_out r ≡ false → EntryView r
quoted-view r kind q l =
    elim (between-view kind r.rest) [
      | inl (c, h) ↦ elim (sign-view c.rest) [
        | inl (colon, rest, s, t) ↦ elim (cases_Bool (before_blank rest)) [
          | inl b ↦ there r (Between kind) colon rest (quoted kind c q l s b)
          | inr b ↦ missing r (kept r l ∙ ap (entry_by r) (quotes-is r.first kind q) ∙ ap (quoted_head kind) h ∙ ap (quoted_sign kind) t ∙ rw b refl)
        ]
        | inr (n, s) ↦ missing r (kept r l ∙ ap (entry_by r) (quotes-is r.first kind q) ∙ ap (quoted_head kind) h ∙ ap (quoted_sign kind) n)
      ]
      | inr (n, c) ↦ missing r (kept r l ∙ ap (entry_by r) (quotes-is r.first kind q) ∙ ap (quoted_head kind) n)
    ]

pub entry-view : (r : ContentRow) → EntryView r
entry-view r =
    elim (cases_Bool (is_left_out r)) [
      | inl l ↦ missing r (left-out r l)
      | inr l ↦ elim (quotes-view r.first) [
        | inl (kind, q, s) ↦ quoted-view r kind q l
        | inr (q, n) ↦ bare-view r q l
      ]
    ]

-- ---- block or not

abbrev pub BlockView : ContentRow → Type 0
BlockView r = (BeginsBlock r × (begins_block r ≡ true)) ⊎ (BeginsNoBlock r × (begins_block r ≡ false))

pub begins-block : (r : ContentRow) → BeginsBlock r → begins_block r ≡ true
begins-block r (inl h) = rw h refl
begins-block r (inr (k, colon, rest, h)) = rw (entry-is r k colon rest h) (or-true (is_item r))

pub begins-no-block : (r : ContentRow) → BeginsNoBlock r → begins_block r ≡ false
begins-no-block r h =
    elim (entry-view r) [
      | inl (k, colon, rest, b, e) ↦ absurd (h.1 k colon rest b)
      | inr (e, n) ↦ rw (h.0, e) refl
    ]

pub block-view : (r : ContentRow) → BlockView r
block-view r =
    elim (cases_Bool (is_item r)) [
      | inl i ↦ inl (inl i, begins-block r (inl i))
      | inr i ↦ elim (entry-view r) [
        | inl (k, colon, rest, b, e) ↦ inl (inr (k, colon, rest, b), begins-block r (inr (k, colon, rest, b)))
        | inr (e, n) ↦ inr ((i, n), begins-no-block r (i, n))
      ]
    ]

-- an entry is no item
no-item : (r : ContentRow) (b : ℕ) → r.first.byte ≡ b → eqb b 45 ≡ false → is_item r ≡ false
no-item r b e h = rw (ap (λ (x : ℕ). eqb x 45) e ∙ h) refl

bare-item : (r : ContentRow) (b : Bool) → before_blank r.rest ≡ b → begins_plain (text_of r) ≡ true → is_item r ≡ false
bare-item r false e p = rw e (and-false (eqb r.first.byte 45))
bare-item r true e p =
    elim (eqb_tells r.first.byte 45) [
      | inl a ↦ true-false (begins_plain (text_of r)) p (ap (λ (b : ℕ). begins_plain (cell b r.first.at ∷ r.rest)) a.1 ∙ rw e refl)
      | inr a ↦ rw a.0 refl
    ]

pub entry-no-item : (r : ContentRow) (k : Key) (colon : Cell) (rest : List Cell) → BeginsEntry r k colon rest → is_item r ≡ false
entry-no-item r _ _ _ (bare p l e) = bare-item r (before_blank r.rest) refl p
entry-no-item r _ _ _ (quoted kind c e l s b) = no-item r (quote_of kind) e (by kind)
  where
    by : (kind : Quotes) → eqb (quote_of kind) 45 ≡ false
    by Single = refl
    by Double = refl

-- ---- keys

pub key-is : (c : Cell) (cs : List Cell) (k : Key) (v : Value) → IsKey c cs k v → key_of c cs k ≡ Ok v
unfolding key_of
key-is c cs (Bare text) v h = ap (λ (x : Value). Ok x) (sym h)
key-is c cs (Between kind) v h = ap (between_of kind c) (closes-again kind cs h.0) ∙ between-is kind c cs h.0 v h.1

pub key-breaks : (c : Cell) (cs : List Cell) (k : Key) (f : Fault) → KeyBreaks c cs k f → key_of c cs k ≡ Err f
unfolding key_of
key-breaks c cs (Bare text) f h = absurd h
key-breaks c cs (Between kind) f h = ap (between_of kind c) (closes-again kind cs h.0) ∙ between-breaks kind c cs f h

abbrev pub KeyTold : Cell → List Cell → Key → Result Value Fault → Type 0
KeyTold c cs k (Ok v) = IsKey c cs k v
KeyTold c cs k (Err f) = KeyBreaks c cs k f

pub key-tells : (r : ContentRow) (k : Key) (colon : Cell) (rest : List Cell) → BeginsEntry r k colon rest → KeyTold r.first r.rest k (key_of r.first r.rest k)
unfolding key_of
key-tells r _ _ _ (bare p l e) = refl
key-tells r _ _ _ (quoted kind c e l s b) =
    subst (KeyTold r.first r.rest (Between kind)) (sym (ap (between_of kind r.first) (closes-again kind r.rest c))) (by (single_line kind r.first c) (between-tells kind r.first r.rest c))
  where
    by : (x : Result Value Fault) → BetweenTold kind r.first r.rest c x → KeyTold r.first r.rest (Between kind) x
    by (Ok v) h = (c, h)
    by (Err f) h = h

-- ---- a quote that nothing on its line closes

pub opens-is : (c : Cell) (cs : List Cell) → OpensQuote c cs → opens_quote c cs ≡ true
unfolding opens_quote
opens-is c cs h =
    elim (between-view h.kind cs) [
      | inl (between, e) ↦ absurd (h.unclosed between)
      | inr (n, e) ↦ ap (opens_by cs) (quotes-is c h.kind h.is_quote) ∙ rw n refl
    ]

abbrev pub OpensView : Cell → List Cell → Type 0
OpensView c cs = (OpensQuote c cs × (opens_quote c cs ≡ true)) ⊎ ((OpensQuote c cs → ⊥) × (opens_quote c cs ≡ false))

no-opening : (c : Cell) (cs : List Cell) → opens_quote c cs ≡ false → OpensView c cs
no-opening c cs e = inr (λ h. true-false (opens_quote c cs) (opens-is c cs h) e, e)

pub opens-view : (c : Cell) (cs : List Cell) → OpensView c cs
unfolding opens_quote
opens-view c cs =
    elim (quotes-view c) [
      | inl (kind, q, s) ↦ elim (between-view kind cs) [
        | inl (between, e) ↦ no-opening c cs (ap (opens_by cs) s ∙ rw e refl)
        | inr (n, e) ↦ let h : OpensQuote c cs = record { kind = kind; is_quote = q; unclosed = e } in inl (h, opens-is c cs h)
      ]
      | inr (q, n) ↦ no-opening c cs (ap (opens_by cs) q)
    ]

-- ---- texts before

pub has-tells : (xs : List (List ℕ)) (k : List ℕ) → ((has xs k ≡ true) × Contains xs k) ⊎ ((has xs k ≡ false) × (Contains xs k → ⊥))
has-tells [] k = inr (refl, λ c. let h = c.1 in absurd (omega arith))
has-tells (x ∷ xs) k =
    elim (cases_Bool (bytes_eq x k)) [
      | inl a ↦ inl (rw a refl, Contains-append_left (x ∷ []) xs k (0, omega arith, (bytes_eq-Decides x k).0 a))
      | inr a ↦ elim (has-tells xs k) [
        | inl b ↦ inl (rw (a, b.0) refl, Contains-append_right (x ∷ []) xs k b.1)
        | inr b ↦ inr (rw (a, b.0) refl, λ c. elim (Contains-append_cases (x ∷ []) xs k c) [ inl h ↦ true-false (bytes_eq x k) ((bytes_eq-Decides x k).1 (only_one x k h)) a | inr h ↦ b.1 h ])
      ]
    ]
