-- Strings in quotes at the front of a text.
use Rattle.std.proofs.Common.{◌≡◌, ◌≢◌, ℕ, suc, ◌+◌, ◌-◌, ◌<◌, Bool, true, false, List, [], ◌∷◌, ◌++◌, map, length, get_or, take, drop, Option, Some, None, refl, ap, arith, append_assoc, append-nil, sym, ◌∙◌, subst, ◌⊎◌, inl, inr, length-append, length-take-le, take-append-drop}
use Rattle.std.proofs.lemmas.List.{take_at}
use Rattle.std.specs.Prelude.{option_map}
use Rattle.std.proofs.lemmas.Bool.{ne_eqb, eq-eqb}
use Rattle.std.specs.List.{flat_map, AllByRecursion}
use Rattle.std.specs.Str.{IsUtf8}
use Rattle.std.specs.Str.Lossy.{utf8_valid_len}
use Rattle.std.proofs.lemmas.List.Concat.{flat_map-append}
use Rattle.lf_base.specs.declared.kind.Kind.TheVariants.{OpenString, BadEscape}
use Rattle.lf_base.specs.reading.Closing.{closing}
use Rattle.lf_lex.specs.declared.token.TokenKind.TheVariants as kinds
use Rattle.lf_lex.specs.Strings.{IsQuote, StringRaw, raw, IsStringRaw, IsStringInner, IsEscape, StringPiece, Bare, Escape, piece_text, meant, IsStringPiece, HasValue}
use Rattle.lf_lex.specs.Lexemes.{IsLongest, EndsLine}
use Rattle.lf_lex.specs.Breaches.{StopsString, line_ends, backslash_first, BeginsNoEscape, ReadsUpTo, IsWrongAt, no_escape, no_utf8}
use Rattle.lf_lex.specs.reading.Strings.{escape, PlacedByte, placed, piece, gives, bytes_of, places_of}
use Rattle.lf_lex.specs.reading.Steps.{Front, token, breach, value_front, quoted_front, next_token}
use Rattle.lf_lex.proofs.Quotes.{ahead, closing_one, closes_found}
use Rattle.lf_lex.proofs.ValueLaws.{IsRead, escape_kept, piece_bare, piece_escape}
use Rattle.lf_lex.proofs.PieceLaws.{escape_cut, IsReadWrong, value_of, wrong_value, nil_value, pieces_value}
use Rattle.lf_lex.proofs.Utf8Fronts.{Tail, no_tail, wrong_tail, valid_len_is, not_utf8}
use Rattle.lf_lex.proofs.EscapeLaws.{escape_read, escape_is}
use Rattle.lf_lex.proofs.PlacedBytes.{places-past, places-here}
use Rattle.lf_lex.proofs.Fronts.{value_utf8, value_wrong}
use Rattle.lf_lex.proofs.Dispatch.{front_quoted}
use Rattle.lf_lex.proofs.Options.{none_some}
use Rattle.lf_laws.proofs.Members.{all_front, all_back}

pub quote_no_slash : (q : ℕ) → IsQuote q → q ≢ 92
quote_no_slash q (inl e) f = absurd (omega (arith, e, f))
quote_no_slash q (inr e) f = absurd (omega (arith, e, f))

quote_no_feed : (q : ℕ) → IsQuote q → q ≢ 10
quote_no_feed q (inl e) f = absurd (omega (arith, e, f))
quote_no_feed q (inr e) f = absurd (omega (arith, e, f))

-- ---- pieces are what is read

module _ (quote : ℕ) (q : IsQuote quote) where
  piece_read : (p : StringPiece) → IsStringPiece quote p → IsRead quote p
  piece_read (Bare b) h = h
  piece_read (Escape tail bytes) h = escape_read quote q tail bytes h

  read_piece : (p : StringPiece) → IsRead quote p → IsStringPiece quote p
  read_piece (Bare b) h = h
  read_piece (Escape tail bytes) h = escape_is quote q bytes tail h

  all_read : (ps : List StringPiece) → AllByRecursion (IsStringPiece quote) ps → AllByRecursion (IsRead quote) ps
  all_read [] h = tt
  all_read (p ∷ ps) h = (piece_read p h.0, all_read ps h.1)

  pub read_all : (ps : List StringPiece) → AllByRecursion (IsRead quote) ps → AllByRecursion (IsStringPiece quote) ps
  read_all [] h = tt
  read_all (p ∷ ps) h = (read_piece p h.0, read_all ps h.1)

  no_escape_read : (src : List ℕ) → ((tail bytes rest : List ℕ) → src ≡ tail ++ rest → IsEscape quote tail bytes → ⊥) → escape quote src ≡ None
  no_escape_read src none = by (escape quote src) refl
    where
      by : (o : Option (List ℕ × ℕ)) → escape quote src ≡ o → escape quote src ≡ None
      by None e = e
      by (Some r) e =
          let c = escape_cut quote src r e in
          let l : length (take r.1 src) ≡ r.1 = length-take-le r.1 src c.0 in
          let is : escape quote (take r.1 src) ≡ Some (r.0, length (take r.1 src)) = c.1 ∙ ap (λ (k : ℕ). Some (r.0, k)) (sym l) in
          absurd (none (take r.1 src) r.0 (drop r.1 src) (sym (take-append-drop r.1 src)) (escape_is quote q r.0 (take r.1 src) is))

  wrong_read : (rest : List ℕ) → BeginsNoEscape quote rest → IsReadWrong quote rest
  wrong_read [] h = absurd h
  wrong_read (b ∷ src) h = (src, ap (λ (x : ℕ). x ∷ src) h.0, no_escape_read src h.1)

  pub read_wrong : (rest : List ℕ) → IsReadWrong quote rest → BeginsNoEscape quote rest
  read_wrong rest h = subst (BeginsNoEscape quote) (sym h.1) (refl, λ tail bytes left e g. none_some (bytes, length tail) (escape quote (tail ++ left)) (ap (escape quote) (sym e) ∙ h.2) (escape_kept left quote tail (bytes, length tail) (escape_read quote q tail bytes g)))

  tail_is : (rest : List ℕ) → (rest ≡ []) ⊎ BeginsNoEscape quote rest → Tail (value_of quote rest)
  tail_is rest (inl e) = no_tail (ap (value_of quote) e ∙ nil_value quote)
  tail_is rest (inr h) = let w = wrong_read rest h in wrong_tail (bytes_of (gives quote 1 0 w.0)) (ap (value_of quote) w.1 ∙ wrong_value quote w.0 w.2)

  -- ---- the value

  value_is_of : (inner value : List ℕ) → HasValue quote inner value → value ≡ value_of quote inner
  value_is_of inner value h =
      let split : inner ≡ flat_map piece_text h.pieces ++ [] = h.source ∙ sym (append-nil (flat_map piece_text h.pieces)) in
      let v = pieces_value quote h.pieces [] (all_read h.pieces h.each) in
      h.value_is ∙ sym (append-nil (flat_map meant h.pieces)) ∙ ap (λ (x : List ℕ). flat_map meant h.pieces ++ x) (sym (nil_value quote)) ∙ sym v ∙ ap (value_of quote) (sym split)

  module _ (from : List ℕ) (inside : Bool) (at : ℕ) (inner rest : List ℕ) (is_inner : IsStringInner quote inner) where
    closes_there : closing (Some 10) quote false (inner ++ quote ∷ rest) ≡ Some (length inner)
    closes_there = closes_found quote (quote_no_slash quote q) (inner ++ quote ∷ rest) inner (record { raws = is_inner.raws; each = is_inner.each; rest = rest; inner_is = is_inner.source; source = refl })

    front_value : next_token from inside at (quote ∷ (inner ++ quote ∷ rest)) ≡ value_front from at quote inner
    unfolding quoted_front
    front_value = front_quoted from inside at (inner ++ quote ∷ rest) quote q ∙ rw (closes_there, take_at inner (quote ∷ rest) (length inner) refl) refl

    pub string_reads : (value : List ℕ) → HasValue quote inner value → IsUtf8 value → next_token from inside at (quote ∷ (inner ++ quote ∷ rest)) ≡ token (kinds.Str value) (length inner + 2)
    string_reads value h u = front_value ∙ value_utf8 from at quote inner value (value_is_of inner value h) u

  -- ---- the place of what gave a byte

  gives_place : (p : StringPiece) (place : ℕ) (src : List ℕ) → IsRead quote p → gives quote place 0 (piece_text p ++ src) ≡ map (placed place) (meant p) ++ gives quote (place + length (piece_text p)) 0 src
  unfolding gives
  gives_place (Bare b) place src h =
      let e : suc place ≡ place + 1 = omega arith in
      rw (piece_bare quote b src h) (ap (λ (k : ℕ). map (placed place) (b ∷ []) ++ gives quote k 0 src) e)
  gives_place (Escape tail bytes) place src h =
      rw (piece_escape quote (tail ++ src) (bytes, length tail) (escape_kept src quote tail (bytes, length tail) h)) (ap (λ (x : List PlacedByte). map (placed place) bytes ++ x) (past (suc place) tail ∙ ap (λ (k : ℕ). gives quote k 0 src) (omega arith)))
    where
      past : (p : ℕ) (xs : List ℕ) → gives quote p (length xs) (xs ++ src) ≡ gives quote (p + length xs) 0 src
      past p [] = let e : p ≡ p + 0 = omega arith in ap (λ (k : ℕ). gives quote k 0 src) e
      past p (x ∷ xs) = past (suc p) xs ∙ ap (λ (k : ℕ). gives quote k 0 src) (omega arith)

  place_there : (ps : List StringPiece) (src : List ℕ) (place k : ℕ) → AllByRecursion (IsRead quote) ps
      → get_or (places_of (gives quote place 0 (flat_map piece_text ps ++ src))) (length (flat_map meant ps) + k) 0 ≡ get_or (places_of (gives quote (place + length (flat_map piece_text ps)) 0 src)) k 0
  place_there [] src place k each =
      let e : place ≡ place + 0 = omega arith in
      let f : 0 + k ≡ k = omega arith in
      ap (λ (n : ℕ). get_or (places_of (gives quote place 0 src)) n 0) f ∙ ap (λ (n : ℕ). get_or (places_of (gives quote n 0 src)) k 0) e
  place_there (p ∷ ps) src place k each =
      let all = flat_map piece_text ps in
      let m = flat_map meant ps in
      let text : (piece_text p ++ all) ++ src ≡ piece_text p ++ (all ++ src) = append_assoc (piece_text p) all src in
      let here : gives quote place 0 ((piece_text p ++ all) ++ src) ≡ map (placed place) (meant p) ++ gives quote (place + length (piece_text p)) 0 (all ++ src) = ap (gives quote place 0) text ∙ gives_place p place (all ++ src) each.0 in
      let l = length-append (meant p) m in
      let ls = length-append (piece_text p) all in
      let n_is : length (meant p ++ m) + k ≡ length (meant p) + (length m + k) = omega arith in
      let back : length (meant p) + (length m + k) - length (meant p) ≡ length m + k = omega arith in
      let end : place + length (piece_text p) + length all ≡ place + length (piece_text p ++ all) = omega arith in
      ap (λ (x : List PlacedByte). get_or (places_of x) (length (meant p ++ m) + k) 0) here
      ∙ ap (λ (n : ℕ). get_or (places_of (map (placed place) (meant p) ++ gives quote (place + length (piece_text p)) 0 (all ++ src))) n 0) n_is
      ∙ places-past place (meant p) (gives quote (place + length (piece_text p)) 0 (all ++ src)) (length (meant p) + (length m + k)) (omega arith)
      ∙ ap (λ (n : ℕ). get_or (places_of (gives quote (place + length (piece_text p)) 0 (all ++ src))) n 0) back
      ∙ place_there ps src (place + length (piece_text p)) k each.1
      ∙ ap (λ (n : ℕ). get_or (places_of (gives quote n 0 src)) k 0) end

  place_in : (ps : List StringPiece) (p : StringPiece) (src : List ℕ) (k : ℕ) → AllByRecursion (IsRead quote) ps → IsRead quote p → k < length (meant p)
      → get_or (places_of (gives quote 0 0 (flat_map piece_text ps ++ (piece_text p ++ src)))) (length (flat_map meant ps) + k) 0 ≡ length (flat_map piece_text ps)
  place_in ps p src k each h lt =
      let start = length (flat_map piece_text ps) in
      let e : 0 + start ≡ start = omega arith in
      place_there ps (piece_text p ++ src) 0 k each
      ∙ ap (λ (x : List PlacedByte). get_or (places_of x) k 0) (gives_place p (0 + start) src h)
      ∙ places-here (0 + start) (meant p) _ k lt ∙ e

  first_wrong : (src : List ℕ) (place : ℕ) → escape quote src ≡ None → get_or (places_of (gives quote place 0 (92 ∷ src))) 0 0 ≡ place
  unfolding gives piece
  first_wrong src place e = rw e refl

  place_wrong : (ps : List StringPiece) (src : List ℕ) → AllByRecursion (IsRead quote) ps → escape quote src ≡ None
      → get_or (places_of (gives quote 0 0 (flat_map piece_text ps ++ 92 ∷ src))) (length (flat_map meant ps) + 0) 0 ≡ length (flat_map piece_text ps)
  place_wrong ps src each e =
      let start = length (flat_map piece_text ps) in
      let z : 0 + start ≡ start = omega arith in
      place_there ps (92 ∷ src) 0 0 each ∙ first_wrong src (0 + start) e ∙ z

  -- ---- an escape that is wrong

  -- the value is no UTF-8, and the byte with which it ceases to be that has this place
  pub record WrongValue (inner : List ℕ) (place : ℕ) : Type 0 where
    pub not_utf : IsUtf8 (value_of quote inner) → ⊥
    pub place_is : place ≡ get_or (places_of (gives quote 0 0 inner)) (utf8_valid_len (value_of quote inner)) 0

  wrong_value_by : (inner : List ℕ) (place n : ℕ) (good rest tail : List ℕ) → value_of quote inner ≡ good ++ (rest ++ tail) → IsLongest IsUtf8 good rest → Tail tail → 0 < length rest + length tail → n ≡ length good → place ≡ get_or (places_of (gives quote 0 0 inner)) n 0 → WrongValue inner place
  wrong_value_by inner place n good rest tail e longest is_tail some n_is place_is = record {
    not_utf = λ u. not_utf8 good rest tail longest is_tail some (subst IsUtf8 e u);
    place_is = place_is ∙ ap (λ (k : ℕ). get_or (places_of (gives quote 0 0 inner)) k 0) (n_is ∙ sym (ap utf8_valid_len e ∙ valid_len_is good rest tail longest is_tail some));
  }

  wrong_escape : (inner : List ℕ) (pieces : List StringPiece) (rest : List ℕ) → ReadsUpTo quote inner pieces rest → BeginsNoEscape quote rest → IsUtf8 (flat_map meant pieces) → WrongValue inner (length (flat_map piece_text pieces))
  wrong_escape inner pieces rest r wrong u =
      let w = wrong_read rest wrong in
      let each = all_read pieces r.each in
      let good = flat_map meant pieces in
      let source : inner ≡ flat_map piece_text pieces ++ 92 ∷ w.0 = r.source ∙ ap (λ (x : List ℕ). flat_map piece_text pieces ++ x) w.1 in
      let tail = bytes_of (gives quote 1 0 w.0) in
      let value : value_of quote inner ≡ good ++ ([] ++ 255 ∷ tail) = ap (value_of quote) source ∙ pieces_value quote pieces (92 ∷ w.0) each ∙ ap (λ (x : List ℕ). good ++ x) (wrong_value quote w.0 w.2) in
      let longest : IsLongest IsUtf8 good [] = (u, λ more left e lt h. nothing_more more left e lt) in
      let z : length good + 0 ≡ length good = omega arith in
      wrong_value_by inner (length (flat_map piece_text pieces)) (length good + 0) good [] (255 ∷ tail) value longest (wrong_tail tail refl) (omega arith) z
      (sym (place_wrong pieces w.0 each w.2) ∙ ap (λ (x : List ℕ). get_or (places_of (gives quote 0 0 x)) (length good + 0) 0) (sym source))
    where
      nothing_more : (more left : List ℕ) → [] ≡ more ++ left → 0 < length more → ⊥
      nothing_more more left e lt = let l = ap length e in let m = length-append more left in omega arith

  wrong_byte : (inner : List ℕ) (before : List StringPiece) (p : StringPiece) (later : List StringPiece) (rest front : List ℕ) (byte : ℕ) (back : List ℕ) →
      ReadsUpTo quote inner (before ++ p ∷ later) rest → meant p ≡ front ++ byte ∷ back →
      IsLongest IsUtf8 (flat_map meant before ++ front) (byte ∷ (back ++ flat_map meant later)) → WrongValue inner (length (flat_map piece_text before))
  wrong_byte inner before p later rest front byte back r m longest =
      let each = all_read (before ++ p ∷ later) r.each in
      let tail = value_of quote rest in
      let good = flat_map meant before ++ front in
      let more = byte ∷ (back ++ flat_map meant later) in
      let all : flat_map meant (before ++ p ∷ later) ≡ good ++ more =
      flat_map-append meant before (p ∷ later) ∙ ap (λ (x : List ℕ). flat_map meant before ++ (x ++ flat_map meant later)) m ∙ ap (λ (x : List ℕ). flat_map meant before ++ x) (append_assoc front (byte ∷ back) (flat_map meant later)) ∙ sym (append_assoc (flat_map meant before) front more) in
      let value : value_of quote inner ≡ good ++ (more ++ tail) =
      ap (value_of quote) r.source ∙ pieces_value quote (before ++ p ∷ later) rest each ∙ ap (λ (x : List ℕ). x ++ tail) all ∙ append_assoc good more tail in
      let text : inner ≡ flat_map piece_text before ++ (piece_text p ++ (flat_map piece_text later ++ rest)) =
      r.source ∙ ap (λ (x : List ℕ). x ++ rest) (flat_map-append piece_text before (p ∷ later)) ∙ append_assoc (flat_map piece_text before) (piece_text p ++ flat_map piece_text later) rest
      ∙ ap (λ (x : List ℕ). flat_map piece_text before ++ x) (append_assoc (piece_text p) (flat_map piece_text later) rest) in
      let n_is : length (flat_map meant before) + length front ≡ length good = sym (length-append (flat_map meant before) front) in
      let lm = ap length m ∙ length-append front (byte ∷ back) in
      let h = all_back (IsRead quote) before (p ∷ later) each in
      wrong_value_by inner (length (flat_map piece_text before)) (length (flat_map meant before) + length front) good more tail value longest (tail_is rest r.stops) (omega arith) n_is
      (sym (place_in before p (flat_map piece_text later ++ rest) (length front) (all_front (IsRead quote) before (p ∷ later) each) h.0 (omega arith)) ∙ ap (λ (x : List ℕ). get_or (places_of (gives quote 0 0 x)) (length (flat_map meant before) + length front) 0) (sym text))

  wrong_at : (inner : List ℕ) (place : ℕ) → IsWrongAt quote inner place → WrongValue inner place
  wrong_at inner place (no_escape pieces rest r w u e) = subst (WrongValue inner) (sym e) (wrong_escape inner pieces rest r w u)
  wrong_at inner place (no_utf8 before p later rest front byte back r m longest e) = subst (WrongValue inner) (sym e) (wrong_byte inner before p later rest front byte back r m longest)

  module _ (from : List ℕ) (inside : Bool) (at : ℕ) where
    pub wrong_reads : (inner rest : List ℕ) (place : ℕ) → IsStringInner quote inner → IsWrongAt quote inner place → next_token from inside at (quote ∷ (inner ++ quote ∷ rest)) ≡ breach {X = Front} from BadEscape (at + 1 + place) (at + 1 + place + 1)
    wrong_reads inner rest place is_inner w =
        let v = wrong_at inner place w in
        front_value from inside at inner rest is_inner ∙ value_wrong from at quote inner (value_of quote inner) place refl v.not_utf v.place_is

    -- ---- a string that stays open

    stops_there : (rest : List ℕ) → StopsString rest → closing (Some 10) quote false rest ≡ None
    unfolding closing
    stops_there [] (line_ends h) = refl
    stops_there (b ∷ rest) (line_ends h) = rw (ne_eqb b quote (λ e. quote_no_feed quote q (sym e ∙ h)), eq-eqb b 10 h) refl
    stops_there rest (backslash_first more e h) = ap (closing (Some 10) quote false) e ∙ rw (ne_eqb 92 quote (λ f. quote_no_slash quote q (sym f))) (behind more h)
      where
        behind : (more : List ℕ) → EndsLine more → option_map suc (closing (Some 10) quote true more) ≡ None
        behind [] h = refl
        behind (b ∷ more) h = rw (eq-eqb b 10 h) refl

    raws_open : (rs : List StringRaw) (rest : List ℕ) → AllByRecursion (IsStringRaw quote) rs → closing (Some 10) quote false rest ≡ None → closing (Some 10) quote false (flat_map raw rs ++ rest) ≡ None
    raws_open [] rest each h = h
    raws_open (r ∷ rs) rest each h =
        ap (closing (Some 10) quote false) (append_assoc (raw r) (flat_map raw rs) rest) ∙ closing_one quote (quote_no_slash quote q) r (flat_map raw rs ++ rest) each.0 ∙ ap (ahead (length (raw r))) (raws_open rs rest each.1 h)

    pub open_reads : (raws : List StringRaw) (rest : List ℕ) → AllByRecursion (IsStringRaw quote) raws → StopsString rest → next_token from inside at (quote ∷ (flat_map raw raws ++ rest)) ≡ breach {X = Front} from OpenString at (at + 1)
    unfolding quoted_front
    open_reads raws rest each stops = front_quoted from inside at (flat_map raw raws ++ rest) quote q ∙ rw (raws_open raws rest each (stops_there rest stops)) refl
