-- Behind a quote stands a string, or a breach.
use Rattle.std.proofs.Common.{◌≡◌, ◌≢◌, ℕ, zero, suc, ◌+◌, ◌-◌, ◌<◌, ◌≤◌, Bool, true, false, eqb, List, [], ◌∷◌, ◌++◌, length, get_or, take, drop, Option, Some, None, refl, ap, arith, append_assoc, append-nil, sym, ◌∙◌, subst, ◌⊎◌, inl, inr, length-append, length-take-le, take-append-drop}
use Rattle.std.specs.Prelude.{option_map}
use Rattle.std.proofs.lemmas.Bool.{cases_lt}
use Rattle.std.proofs.lemmas.Bool.Decides.{eqb_tells}
use Rattle.std.proofs.lemmas.List.{drop_more, take_at, drop_at}
use Rattle.std.specs.List.{flat_map, AllByRecursion}
use Rattle.std.specs.Str.{IsUtf8}
use Rattle.std.specs.Str.Lossy.{utf8_valid_len}
use Rattle.std.proofs.lemmas.List.Concat.{flat_map-append}
use Rattle.lf_base.specs.declared.kind.Kind.TheVariants.{OpenString, BadEscape}
use Rattle.lf_lex.specs.declared.token.TokenKind.TheVariants as kinds
use Rattle.lf_lex.specs.Strings.{IsQuote, StringRaw, One, Pair, raw, IsStringRaw, IsStringInner, StringPiece, piece_text, meant, in_quotes}
use Rattle.lf_lex.specs.Lexemes.{IsLongest, Written}
use Rattle.lf_lex.specs.Breaches.{StopsString, line_ends, backslash_first, in_quotes as open_quotes, BeginsNoEscape, ReadsUpTo, IsWrongAt, no_escape, no_utf8}
use Rattle.lf_base.specs.reading.Closing.{closing}
use Rattle.lf_lex.proofs.Longest.{greatest_longest}
use Rattle.lf_lex.proofs.Quotes.{closes_told}
use Rattle.lf_lex.proofs.PieceLaws.{IsReadWrong, ReadTo, read_to}
use Rattle.lf_lex.proofs.Utf8Fronts.{utf8_greatest}
use Rattle.lf_lex.proofs.StringFronts.{quote_no_slash, read_all, read_wrong}
use Rattle.lf_lex.proofs.Standing.{Standing, stands, fails}
use Rattle.lf_lex.proofs.Options.{none_some}

-- ---- a string that stays open

pub record Open (quote : ℕ) (src : List ℕ) : Type 0 where
  pub raws : List StringRaw
  pub rest : List ℕ
  pub each : AllByRecursion (IsStringRaw quote) raws
  pub source : src ≡ flat_map raw raws ++ rest
  pub stops : StopsString rest

more_open : (quote : ℕ) (r : StringRaw) (src rest : List ℕ) → IsStringRaw quote r → src ≡ raw r ++ rest → Open quote rest → Open quote src
more_open quote r src rest h e o = record {
  raws = r ∷ o.raws;
  rest = o.rest;
  each = (h, o.each);
  source = e ∙ ap (λ (x : List ℕ). raw r ++ x) o.source ∙ sym (append_assoc (raw r) (flat_map raw o.raws) o.rest);
  stops = o.stops;
}

open_here : (quote : ℕ) (src : List ℕ) → StopsString src → Open quote src
open_here quote src s = record { raws = []; rest = src; each = tt; source = refl; stops = s }

none_behind : (o : Option ℕ) → option_map suc o ≡ None → o ≡ None
none_behind None h = refl
none_behind (Some n) h = none_some (suc n) (option_map suc (Some n)) h refl

module _ (quote : ℕ) (q : IsQuote quote) where
  open_is : (fuel : ℕ) (src : List ℕ) → length src < fuel → closing (Some 10) quote false src ≡ None → Open quote src
  unfolding closing
  open_is zero src lt h = absurd (omega arith)
  open_is (suc fuel) [] lt h = open_here quote [] (line_ends tt)
  open_is (suc fuel) (b ∷ []) lt h =
      elim (eqb_tells b 92) [
        | inl s ↦ open_here quote (b ∷ []) (backslash_first [] (ap (λ (x : ℕ). x ∷ []) s.1) tt)
        | inr s ↦ by (eqb_tells b quote) (eqb_tells b 10) s
      ]
    where
      by : ((eqb b quote ≡ true) × (b ≡ quote)) ⊎ ((eqb b quote ≡ false) × (b ≢ quote)) → ((eqb b 10 ≡ true) × (b ≡ 10)) ⊎ ((eqb b 10 ≡ false) × (b ≢ 10)) → (eqb b 92 ≡ false) × (b ≢ 92) → Open quote (b ∷ [])
      by (inl y) t s = none_some 0 (closing (Some 10) quote false (b ∷ [])) h (rw y.0 refl)
      by (inr n) (inl y) s = open_here quote (b ∷ []) (line_ends y.1)
      by (inr n) (inr m) s = more_open quote (One b) (b ∷ []) [] (n.1, m.1, s.1) refl (open_here quote [] (line_ends tt))
  open_is (suc fuel) (b ∷ c ∷ src) lt h = by (λ rest l e. open_is fuel rest l e) (eqb_tells b quote) (eqb_tells b 10) (eqb_tells b 92) (eqb_tells c 10)
    where
      Again : Type 0
      Again = (rest : List ℕ) → length rest < fuel → closing (Some 10) quote false rest ≡ None → Open quote rest

      by : Again → ((eqb b quote ≡ true) × (b ≡ quote)) ⊎ ((eqb b quote ≡ false) × (b ≢ quote)) → ((eqb b 10 ≡ true) × (b ≡ 10)) ⊎ ((eqb b 10 ≡ false) × (b ≢ 10)) → ((eqb b 92 ≡ true) × (b ≡ 92)) ⊎ ((eqb b 92 ≡ false) × (b ≢ 92)) → ((eqb c 10 ≡ true) × (c ≡ 10)) ⊎ ((eqb c 10 ≡ false) × (c ≢ 10)) → Open quote (b ∷ c ∷ src)
      by again (inl y) t s f = none_some 0 (closing (Some 10) quote false (b ∷ c ∷ src)) h (rw y.0 refl)
      by again (inr n) (inl y) s f = open_here quote (b ∷ c ∷ src) (line_ends y.1)
      by again (inr n) (inr m) (inl y) (inl z) = open_here quote (b ∷ c ∷ src) (backslash_first (c ∷ src) (ap (λ (x : ℕ). x ∷ c ∷ src) y.1) z.1)
      by again (inr n) (inr m) (inl y) (inr z) =
          let e : closing (Some 10) quote false (b ∷ c ∷ src) ≡ option_map suc (option_map suc (closing (Some 10) quote false src)) = rw (n.0, m.0, y.0, z.0) refl in
          more_open quote (Pair c) (b ∷ c ∷ src) src z.1 (ap (λ (x : ℕ). x ∷ c ∷ src) y.1) (again src (omega arith) (none_behind (closing (Some 10) quote false src) (none_behind (option_map suc (closing (Some 10) quote false src)) (sym e ∙ h))))
      by again (inr n) (inr m) (inr s) f =
          let e : closing (Some 10) quote false (b ∷ c ∷ src) ≡ option_map suc (closing (Some 10) quote false (c ∷ src)) = rw (n.0, m.0, s.0) refl in
          more_open quote (One b) (b ∷ c ∷ src) (c ∷ src) (n.1, m.1, s.1) refl (again (c ∷ src) (omega arith) (none_behind (closing (Some 10) quote false (c ∷ src)) (sym e ∙ h)))

-- ---- the piece that gave a byte

pub record Found (pieces : List StringPiece) (n : ℕ) : Type 0 where
  pub before : List StringPiece
  pub piece : StringPiece
  pub later : List StringPiece
  pub front : List ℕ
  pub byte : ℕ
  pub back : List ℕ
  pub split : pieces ≡ before ++ piece ∷ later
  pub gave : meant piece ≡ front ++ byte ∷ back
  pub n_is : n ≡ length (flat_map meant before) + length front

find : (pieces : List StringPiece) (n : ℕ) → n < length (flat_map meant pieces) → Found pieces n
find [] n lt = absurd (omega arith)
find (p ∷ ps) n lt = by (λ k l. find ps k l) (cases_lt n (length (meant p)))
  where
    by : ((k : ℕ) → k < length (flat_map meant ps) → Found ps k) → (n < length (meant p)) ⊎ (length (meant p) ≤ n) → Found (p ∷ ps) n
    by again (inl l) =
        let t : length (take n (meant p)) ≡ n = length-take-le n (meant p) (omega arith) in
        record {
          before = [];
          piece = p;
          later = ps;
          front = take n (meant p);
          byte = get_or (meant p) n 0;
          back = drop (n + 1) (meant p);
          split = refl;
          gave = sym (take-append-drop n (meant p)) ∙ ap (λ (x : List ℕ). take n (meant p) ++ x) (drop_more (meant p) n 0 l);
          n_is = omega arith;
        }
    by again (inr ge) =
        let m = length-append (meant p) (flat_map meant ps) in
        let f = again (n - length (meant p)) (omega arith) in
        let k = f.n_is in
        let j = length-append (meant p) (flat_map meant f.before) in
        record {
          before = p ∷ f.before;
          piece = f.piece;
          later = f.later;
          front = f.front;
          byte = f.byte;
          back = f.back;
          split = ap (λ (x : List StringPiece). p ∷ x) f.split;
          gave = f.gave;
          n_is = omega arith;
        }

-- ---- a string that closes

module _ (quote : ℕ) (q : IsQuote quote) (inside : Bool) (src inner rest : List ℕ) (source : src ≡ inner ++ quote ∷ rest) (is_inner : IsStringInner quote inner) where
  whole : quote ∷ src ≡ (quote ∷ (inner ++ quote ∷ [])) ++ rest
  whole = ap (λ (x : List ℕ). quote ∷ x) (source ∙ sym (append_assoc inner (quote ∷ []) rest))

  bad_at : (place : ℕ) → IsWrongAt quote inner place → Standing inside (quote ∷ src)
  bad_at place w = fails BadEscape (1 + place) (1 + place + 1) (
    refl,
    record {
      quote = quote;
      inner = inner;
      rest = rest;
      is_quote = q;
      source = ap (λ (x : List ℕ). quote ∷ x) source;
      closes = is_inner;
      between = place;
      wrong = w;
      place_is = refl;
    },
  )

  module _ (r : ReadTo quote inner) where
    value : List ℕ
    value = flat_map meant r.pieces

    up_to : ReadsUpTo quote inner r.pieces r.rest
    up_to = record { each = read_all quote q r.pieces r.each; source = r.source; stops = stop r.stops }
      where
        stop : (r.rest ≡ []) ⊎ IsReadWrong quote r.rest → (r.rest ≡ []) ⊎ BeginsNoEscape quote r.rest
        stop (inl e) = inl e
        stop (inr w) = inr (read_wrong quote q r.rest w)

    utf8_stands : IsUtf8 (flat_map meant r.pieces) → (r.rest ≡ []) ⊎ IsReadWrong quote r.rest → Standing inside (quote ∷ src)
    utf8_stands u (inl e) =
        let text : inner ≡ flat_map piece_text r.pieces = r.source ∙ ap (λ (x : List ℕ). flat_map piece_text r.pieces ++ x) e ∙ append-nil (flat_map piece_text r.pieces) in
        stands (Written (kinds.Str (flat_map meant r.pieces)) (quote ∷ (inner ++ quote ∷ []))) rest whole
        (in_quotes quote inner q refl is_inner (record { pieces = r.pieces; each = read_all quote q r.pieces r.each; source = text; value_is = refl }) u)
    utf8_stands u (inr w) = bad_at (length (flat_map piece_text r.pieces)) (no_escape r.pieces r.rest up_to (read_wrong quote q r.rest w) u refl)

    byte_stands : Found r.pieces (utf8_valid_len (flat_map meant r.pieces)) → Standing inside (quote ∷ src)
    byte_stands f =
        let v = flat_map meant r.pieces in
        let n = utf8_valid_len v in
        let good = flat_map meant f.before ++ f.front in
        let more = f.byte ∷ (f.back ++ flat_map meant f.later) in
        let all : v ≡ good ++ more =
        ap (flat_map meant) f.split ∙ flat_map-append meant f.before (f.piece ∷ f.later) ∙ ap (λ (x : List ℕ). flat_map meant f.before ++ (x ++ flat_map meant f.later)) f.gave
        ∙ ap (λ (x : List ℕ). flat_map meant f.before ++ x) (append_assoc f.front (f.byte ∷ f.back) (flat_map meant f.later)) ∙ sym (append_assoc (flat_map meant f.before) f.front more) in
        let len : length good ≡ n = length-append (flat_map meant f.before) f.front ∙ sym f.n_is in
        let front : take n v ≡ good = ap (take n) all ∙ take_at good more n len in
        let back : drop n v ≡ more = ap (drop n) all ∙ drop_at good more n len in
        let longest : IsLongest IsUtf8 good more = subst (λ (x : List ℕ). IsLongest IsUtf8 good x) back (subst (λ (x : List ℕ). IsLongest IsUtf8 x (drop n v)) front (greatest_longest IsUtf8 v n (utf8_greatest v))) in
        bad_at (length (flat_map piece_text f.before)) (no_utf8 f.before f.piece f.later r.rest f.front f.byte f.back (subst (λ (x : List StringPiece). ReadsUpTo quote inner x r.rest) f.split up_to) f.gave longest refl)

    value_stands : Standing inside (quote ∷ src)
    value_stands = by (cases_lt (utf8_valid_len (flat_map meant r.pieces)) (length (flat_map meant r.pieces)))
      where
        v : List ℕ
        v = flat_map meant r.pieces

        by : (utf8_valid_len (flat_map meant r.pieces) < length (flat_map meant r.pieces)) ⊎ (length (flat_map meant r.pieces) ≤ utf8_valid_len (flat_map meant r.pieces)) → Standing inside (quote ∷ src)
        by (inl lt) = byte_stands (find r.pieces (utf8_valid_len (flat_map meant r.pieces)) lt)
        by (inr ge) =
            let g = utf8_greatest (flat_map meant r.pieces) in
            utf8_stands (subst IsUtf8 (take_whole (utf8_valid_len (flat_map meant r.pieces)) (flat_map meant r.pieces) ge) g.is) r.stops
          where
            take_whole : (n : ℕ) (xs : List ℕ) → length xs ≤ n → take n xs ≡ xs
            take_whole zero [] le = refl
            take_whole zero (x ∷ xs) le = absurd (omega arith)
            take_whole (suc n) [] le = refl
            take_whole (suc n) (x ∷ xs) le = ap (λ (ys : List ℕ). x ∷ ys) (take_whole n xs (omega arith))

module _ (quote : ℕ) (q : IsQuote quote) (inside : Bool) (src : List ℕ) where
  pub quoted_stands : Standing inside (quote ∷ src)
  quoted_stands = by (closing (Some 10) quote false src) refl
    where
      by : (o : Option ℕ) → closing (Some 10) quote false src ≡ o → Standing inside (quote ∷ src)
      by None e =
          let o = open_is quote q (suc (length src)) src (omega arith) e in
          fails OpenString 0 1 (refl, refl, open_quotes quote o.raws o.rest q (ap (λ (x : List ℕ). quote ∷ x) o.source) o.each o.stops)
      by (Some n) e =
          let c = closes_told quote (quote_no_slash quote q) src n e in
          value_stands quote q inside src c.inner c.is.rest c.is.source (record { raws = c.is.raws; each = c.is.each; source = c.is.inner_is }) (read_to quote (suc (length c.inner)) c.inner (omega arith))
