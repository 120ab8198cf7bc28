-- What one more text changes of the slots of texts.
use Rattle.std.proofs.Common.{◌≡◌, ◌<◌, ◌^◌, ℕ, Bool, true, false, cond, List, [], ◌∷◌, ◌++◌, length, get_or, set, Option, Some, None, inl, inr, refl, sym, ap, ◌∙◌, subst, arith, length-append, get_or-set_same, get_or-set_other}
use Rattle.std.specs.BTreeMap.{BTreeMap, get_by_text}
use Rattle.std.specs.Prelude.{is_some, position}
use Rattle.std.specs.Str.{bytes_eq}
use Rattle.std.specs.declared.string.String.{String}
use Rattle.std.proofs.lemmas.Bool.{cases_eq}
use Rattle.std.proofs.lemmas.List.{get_or_default, get_or_push, length-set}
use Rattle.std.proofs.lemmas.Option.{same_Some}
use Rattle.std.proofs.lemmas.Slice.Eq.{bytes_eq-Decides}
use lib.ListN.{get_or-append}
use mathlib.Core.Logic.{◌⊎◌, ◌≢◌}
use Rattle.lf_ast.specs.Labels.{Bytes}
use Rattle.lf_classes.specs.views.TextSets.{HasSlots, in_slot, seen, slot_of}
use Rattle.lf_classes.proofs.Keys.{or_last, or_none, position_pushed}

-- where a text stands
abbrev at : List Bytes → Bytes → Option ℕ
at texts text = position (λ other. bytes_eq other text) texts

-- what a slot has, read off the list
pub slot_is : (slots : List (Option ℕ)) (s : ℕ) (held : Option ℕ) → s < length slots → held ≡ get_or slots s held → in_slot slots s ≡ held
slot_is slots s held h e = get_or_default slots s None held h ∙ sym e

pub none_held : (held : Option ℕ) → is_some held ≡ false → held ≡ None
none_held None e = refl
none_held (Some k) e = absurd (cc)

pub some_held : (held : Option ℕ) → is_some held ≡ true → (k : ℕ) × (held ≡ Some k)
some_held None e = absurd (cc)
some_held (Some k) e = (k, refl)

-- what is seen by a slot stays, where the map says the same
seen_more : {A : Type 0} (others new : BTreeMap (String A) ℕ) (texts : List Bytes) (t q : Bytes) (slot : Option ℕ) → ((k : ℕ) → slot ≡ Some k → k < length texts) → get_by_text new q ≡ get_by_text others q
    → seen new (texts ++ t ∷ []) q slot ≡ seen others texts q slot
seen_more others new texts t q None within e = refl
seen_more others new texts t q (Some k) within e =
    ap (λ x. cond (bytes_eq x q) (Some k) (get_by_text new q)) (get_or-append texts (t ∷ []) [] k (within k refl)) ∙ ap (λ found. cond (bytes_eq (get_or texts k []) q) (Some k) found) e

-- what is seen by the slot of the last text
seen_last : {A : Type 0} (others : BTreeMap (String A) ℕ) (texts : List Bytes) (t q : Bytes) → seen others (texts ++ t ∷ []) q (Some (length texts)) ≡ cond (bytes_eq t q) (Some (length texts)) (get_by_text others q)
seen_last others texts t q = ap (λ x. cond (bytes_eq x q) (Some (length texts)) (get_by_text others q)) (get_or_push texts t [] (length texts) refl)

itself : (t : Bytes) → bytes_eq t t ≡ true
itself t = (bytes_eq-Decides t t).1 refl

-- a place that is that of each text, with the new one behind the others
each_by : (b : Bool) (texts : List Bytes) (t q : Bytes) (found : Option ℕ) → bytes_eq t q ≡ b → at texts t ≡ None → (t ≡ q → found ≡ Some (length texts)) → (bytes_eq t q ≡ false → found ≡ at texts q) → found ≡ at (texts ++ t ∷ []) q
each_by true texts t q found e absent same other =
    let is : t ≡ q = (bytes_eq-Decides t q).0 e in
    same is
    ∙ ap (λ before. or_last before (Some (length texts))) (sym (subst (λ r. at texts r ≡ None) is absent))
    ∙ ap (λ b. or_last (at texts q) (cond b (Some (length texts)) None)) (sym e)
    ∙ position_pushed texts t q
each_by false texts t q found e absent same other =
    other e ∙ or_none (at texts q) ∙ ap (λ b. or_last (at texts q) (cond b (Some (length texts)) None)) (sym e) ∙ position_pushed texts t q

-- the slots once one is set
in_set : (slots : List (Option ℕ)) (s slot : ℕ) (v : Option ℕ) → s < length slots → ((slot ≡ s) × (in_slot (set slots s v) slot ≡ v)) ⊎ ((slot ≢ s) × (in_slot (set slots s v) slot ≡ in_slot slots slot))
in_set slots s slot v h = by (cases_eq slot s)
  where
    by : (slot ≡ s) ⊎ (slot ≢ s) → ((slot ≡ s) × (in_slot (set slots s v) slot ≡ v)) ⊎ ((slot ≢ s) × (in_slot (set slots s v) slot ≡ in_slot slots slot))
    by (inl e) = inl (e, ap (in_slot (set slots s v)) e ∙ get_or-set_same slots s v None h)
    by (inr d) = inr (d, get_or-set_other slots s slot v None d)

-- a text that goes into its slot
pub put_free : {A : Type 0} (slots : List (Option ℕ)) (others : BTreeMap (String A) ℕ) (texts : List Bytes) (t : Bytes) (s : ℕ) → HasSlots slots others texts → length texts < 2 ^ 32 → at texts t ≡ None
    → s ≡ slot_of t (length slots) → s < length slots → in_slot slots s ≡ None → HasSlots (set slots s (Some (length texts))) others (texts ++ t ∷ [])
put_free slots others texts t s h few absent is inside free = record {
  few = omega (arith, length-append texts (t ∷ []), few);
  within = λ slot k e. within_by slot k (in_set slots s slot v inside) e;
  free = λ q e. free_by q (in_set slots s (own q) v inside) (ap (in_slot new) (sym (same_slot q)) ∙ e);
  each = λ q. each_by (bytes_eq t q) texts t q _ refl absent (λ e. here q e) (λ e. there q e (in_set slots s (own q) v inside));
}
  where
    v : Option ℕ
    v = Some (length texts)

    new : List (Option ℕ)
    new = set slots s v

    own : Bytes → ℕ
    own q = slot_of q (length slots)

    same_slot : (q : Bytes) → slot_of q (length new) ≡ own q
    same_slot q = ap (slot_of q) (length-set slots s v)

    within_by : (slot k : ℕ) → ((slot ≡ s) × (in_slot new slot ≡ v)) ⊎ ((slot ≢ s) × (in_slot new slot ≡ in_slot slots slot)) → in_slot new slot ≡ Some k → k < length (texts ++ t ∷ [])
    within_by slot k (inl p) e = let same : length texts ≡ k = same_Some (length texts) k (sym p.1 ∙ e) in omega (arith, same, length-append texts (t ∷ []))
    within_by slot k (inr p) e = let before = h.within slot k (sym p.1 ∙ e) in omega (arith, before, length-append texts (t ∷ []))

    free_by : (q : Bytes) → ((own q ≡ s) × (in_slot new (own q) ≡ v)) ⊎ ((own q ≢ s) × (in_slot new (own q) ≡ in_slot slots (own q))) → in_slot new (own q) ≡ None → get_by_text others q ≡ None
    free_by q (inl p) e = let both : v ≡ None = sym p.1 ∙ e in absurd (cc)
    free_by q (inr p) e = h.free q (sym p.1 ∙ e)

    here : (q : Bytes) → t ≡ q → seen others (texts ++ t ∷ []) q (in_slot new (slot_of q (length new))) ≡ v
    here q e =
        ap (λ slot. seen others (texts ++ t ∷ []) q (in_slot new slot)) (same_slot q ∙ ap own (sym e) ∙ sym is)
        ∙ ap (seen others (texts ++ t ∷ []) q) (get_or-set_same slots s v None inside)
        ∙ seen_last others texts t q
        ∙ ap (λ b. cond b v (get_by_text others q)) (subst (λ r. bytes_eq t r ≡ true) e (itself t))

    there : (q : Bytes) → bytes_eq t q ≡ false → ((own q ≡ s) × (in_slot new (own q) ≡ v)) ⊎ ((own q ≢ s) × (in_slot new (own q) ≡ in_slot slots (own q)))
        → seen others (texts ++ t ∷ []) q (in_slot new (slot_of q (length new))) ≡ at texts q
    there q e (inl p) =
        let was : in_slot slots (own q) ≡ None = ap (in_slot slots) p.0 ∙ free in
        ap (λ slot. seen others (texts ++ t ∷ []) q (in_slot new slot)) (same_slot q)
        ∙ ap (seen others (texts ++ t ∷ []) q) p.1
        ∙ seen_last others texts t q
        ∙ ap (λ b. cond b v (get_by_text others q)) e
        ∙ h.free q was
        ∙ ap (seen others texts q) (sym was)
        ∙ h.each q
    there q e (inr p) =
        ap (λ slot. seen others (texts ++ t ∷ []) q (in_slot new slot)) (same_slot q)
        ∙ ap (seen others (texts ++ t ∷ []) q) p.1
        ∙ seen_more others others texts t q (in_slot slots (own q)) (h.within (own q)) refl
        ∙ h.each q

-- a text whose slot is free is none of the texts
pub free_absent : {A : Type 0} (slots : List (Option ℕ)) (others : BTreeMap (String A) ℕ) (texts : List Bytes) (t : Bytes) → HasSlots slots others texts → in_slot slots (slot_of t (length slots)) ≡ None → at texts t ≡ None
free_absent slots others texts t h free = sym (h.each t) ∙ ap (seen others texts t) free

-- a text whose slot another has
pub put_other : {A : Type 0} (slots : List (Option ℕ)) (others new : BTreeMap (String A) ℕ) (texts : List Bytes) (t : Bytes) (k : ℕ) → HasSlots slots others texts → length texts < 2 ^ 32 → at texts t ≡ None
    → in_slot slots (slot_of t (length slots)) ≡ Some k → ((q : Bytes) → get_by_text new q ≡ cond (bytes_eq t q) (Some (length texts)) (get_by_text others q)) → HasSlots slots new (texts ++ t ∷ [])
put_other slots others new texts t k h few absent taken puts = record {
  few = omega (arith, length-append texts (t ∷ []), few);
  within = λ slot j e. let before = h.within slot j e in omega (arith, before, length-append texts (t ∷ []));
  free = λ q e. free_by q (bytes_eq t q) refl e;
  each = λ q. each_by (bytes_eq t q) texts t q _ refl absent (λ e. subst (λ r. seen new (texts ++ t ∷ []) r (in_slot slots (slot_of r (length slots))) ≡ Some (length texts)) e here) (λ e. there q e);
}
  where
    free_by : (q : Bytes) (b : Bool) → bytes_eq t q ≡ b → in_slot slots (slot_of q (length slots)) ≡ None → get_by_text new q ≡ None
    free_by q true e none =
        let both : Some k ≡ None = sym taken ∙ ap (λ r. in_slot slots (slot_of r (length slots))) ((bytes_eq-Decides t q).0 e) ∙ none in
        absurd (cc)
    free_by q false e none = puts q ∙ ap (λ b. cond b (Some (length texts)) (get_by_text others q)) e ∙ h.free q none

    -- the text of the slot is another one
    differs : (b : Bool) → bytes_eq (get_or texts k []) t ≡ b → b ≡ false
    differs true e = let both : Some k ≡ None = ap (λ b. cond b (Some k) (get_by_text others t)) (sym e) ∙ ap (seen others texts t) (sym taken) ∙ h.each t ∙ absent in absurd (cc)
    differs false e = refl

    here : seen new (texts ++ t ∷ []) t (in_slot slots (slot_of t (length slots))) ≡ Some (length texts)
    here =
        ap (seen new (texts ++ t ∷ []) t) taken
        ∙ ap (λ x. cond (bytes_eq x t) (Some k) (get_by_text new t)) (get_or-append texts (t ∷ []) [] k (h.within (slot_of t (length slots)) k taken))
        ∙ ap (λ b. cond b (Some k) (get_by_text new t)) (differs (bytes_eq (get_or texts k []) t) refl)
        ∙ puts t
        ∙ ap (λ b. cond b (Some (length texts)) (get_by_text others t)) (itself t)

    there : (q : Bytes) → bytes_eq t q ≡ false → seen new (texts ++ t ∷ []) q (in_slot slots (slot_of q (length slots))) ≡ at texts q
    there q e =
        seen_more others new texts t q (in_slot slots (slot_of q (length slots))) (h.within (slot_of q (length slots))) (puts q ∙ ap (λ b. cond b (Some (length texts)) (get_by_text others q)) e)
        ∙ h.each q

-- a text that stands there already changes nothing
pub put_again : {A : Type 0} (slots : List (Option ℕ)) (others : BTreeMap (String A) ℕ) (texts : List Bytes) (t : Bytes) (k : ℕ) → HasSlots slots others texts → length texts < 2 ^ 32 → at texts t ≡ Some k
    → HasSlots slots others (texts ++ t ∷ [])
put_again slots others texts t k h few found = record {
  few = omega (arith, length-append texts (t ∷ []), few);
  within = λ slot j e. let before = h.within slot j e in omega (arith, before, length-append texts (t ∷ []));
  free = h.free;
  each = λ q.
      seen_more others others texts t q (in_slot slots (slot_of q (length slots))) (h.within (slot_of q (length slots))) refl
      ∙ h.each q
      ∙ stays q (bytes_eq t q) refl
      ∙ position_pushed texts t q;
}
  where
    stays : (q : Bytes) (b : Bool) → bytes_eq t q ≡ b → at texts q ≡ or_last (at texts q) (cond (bytes_eq t q) (Some (length texts)) None)
    stays q true e =
        let there : at texts q ≡ Some k = subst (λ r. at texts r ≡ Some k) ((bytes_eq-Decides t q).0 e) found in
        there ∙ ap (λ o. or_last o (cond (bytes_eq t q) (Some (length texts)) None)) (sym there)
    stays q false e = or_none (at texts q) ∙ ap (λ b. or_last (at texts q) (cond b (Some (length texts)) None)) (sym e)
