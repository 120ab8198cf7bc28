-- A wrong escape is told of its backslash.
use Rattle.std.proofs.Common.{◌≡◌, ℕ, zero, suc, ◌+◌, ◌<◌, false, List, [], ◌∷◌, ◌++◌, length, get_or, refl, ap, arith, append_assoc, append-nil, sym, ◌∙◌, subst, length-append}
use Rattle.std.proofs.lemmas.List.{take_at, drop_at}
use Rattle.std.proofs.lemmas.Str.{IsUtf8-drop, IsUtf8-take, IsCharBoundary-before_ascii, IsCharBoundary-after_ascii}
use Rattle.std.specs.List.{flat_map}
use Rattle.std.specs.Str.{IsUtf8}
use Rattle.std.proofs.lemmas.List.Concat.{flat_map-append}
use Rattle.lf_base.specs.declared.kind.Kind.{Kind}
use Rattle.lf_base.specs.declared.kind.Kind.TheVariants.{BadEscape}
use Rattle.lf_lex.specs.Strings.{IsQuote, StringPiece, Bare, Escape, piece_text, meant}
use Rattle.lf_lex.specs.Lexemes.{IsLongest, lexeme_text, behind_lexemes}
use Rattle.lf_lex.specs.Breaches.{BeginsNoEscape, ReadsUpTo, IsWrongAt, no_escape, no_utf8, IsBreach}
use Rattle.lf_lex.specs.Tokens.{in_source, Breaks}
use Rattle.lf_base.specs.declared.fault.Fault.{Fault}
use Rattle.lf_lex.proofs.Backslashes.{quote_low, no_bare}
use Rattle.lf_lex.proofs.Heads.{first, tail_of}

get_behind : (xs ys : List ℕ) (k : ℕ) → get_or (xs ++ ys) (length xs + k) 0 ≡ get_or ys k 0
get_behind [] ys k = let e : 0 + k ≡ k = omega arith in ap (λ (n : ℕ). get_or ys n 0) e
get_behind (x ∷ xs) ys k = let e : length (x ∷ xs) + k ≡ suc (length xs + k) = omega arith in ap (λ (n : ℕ). get_or (x ∷ (xs ++ ys)) n 0) e ∙ get_behind xs ys k

get_before : (xs ys : List ℕ) (k : ℕ) → k < length xs → get_or (xs ++ ys) k 0 ≡ get_or xs k 0
get_before [] ys k lt = absurd (omega arith)
get_before (x ∷ xs) ys zero lt = refl
get_before (x ∷ xs) ys (suc k) lt = get_before xs ys k (omega arith)

-- a backslash stands there
abbrev IsSlash : List ℕ → ℕ → Type 0
IsSlash inner place = (get_or inner place 0 ≡ 92) × (place < length inner)

slash_behind : (inner xs ys : List ℕ) → inner ≡ xs ++ 92 ∷ ys → IsSlash inner (length xs)
slash_behind inner xs ys e =
    let z : length xs ≡ length xs + 0 = omega arith in
    let l = ap length e in
    let m = length-append xs (92 ∷ ys) in
    (ap (λ (x : List ℕ). get_or x (length xs) 0) e ∙ ap (λ (n : ℕ). get_or (xs ++ 92 ∷ ys) n 0) z ∙ get_behind xs (92 ∷ ys) 0, omega arith)

wrong_slash : (quote : ℕ) (inner xs rest : List ℕ) → inner ≡ xs ++ rest → BeginsNoEscape quote rest → IsSlash inner (length xs)
wrong_slash quote inner xs [] e w = absurd w
wrong_slash quote inner xs (b ∷ rest) e w = slash_behind inner xs rest (e ∙ ap (λ (x : ℕ). xs ++ x ∷ rest) w.0)

module _ (quote : ℕ) (q : IsQuote quote) (inner : List ℕ) (u : IsUtf8 inner) where
  piece_slash : (before : List StringPiece) (p : StringPiece) (later : List StringPiece) (rest front : List ℕ) (byte : ℕ) (back : List ℕ) →
      ReadsUpTo quote inner (before ++ p ∷ later) rest → meant p ≡ front ++ byte ∷ back →
      IsLongest IsUtf8 (flat_map meant before ++ front) (byte ∷ (back ++ flat_map meant later)) → IsSlash inner (length (flat_map piece_text before))
  piece_slash before (Escape tail bytes) later rest front byte back r m longest =
      slash_behind inner (flat_map piece_text before) ((tail ++ flat_map piece_text later) ++ rest)
      (r.source ∙ ap (λ (x : List ℕ). x ++ rest) (flat_map-append piece_text before (Escape tail bytes ∷ later)) ∙ append_assoc (flat_map piece_text before) (92 ∷ (tail ++ flat_map piece_text later)) rest)
  piece_slash before (Bare b) later rest [] byte back r m longest =
      let byte_is : byte ≡ b = sym (ap first m) in
      let none : back ≡ [] = sym (ap tail_of m) in
      let more : byte ∷ (back ++ flat_map meant later) ≡ b ∷ flat_map meant later = ap (λ (x : ℕ). x ∷ (back ++ flat_map meant later)) byte_is ∙ ap (λ (x : List ℕ). b ∷ (x ++ flat_map meant later)) none in
      let ends : IsLongest IsUtf8 (flat_map meant before) (b ∷ flat_map meant later) = subst (IsLongest IsUtf8 (flat_map meant before)) more (subst (λ (x : List ℕ). IsLongest IsUtf8 x (byte ∷ (back ++ flat_map meant later))) (append-nil (flat_map meant before)) longest) in
      absurd (no_bare quote q b later rest r.stops inner before r.each u r.source ends)
  piece_slash before (Bare b) later rest (f ∷ front) byte back r m longest = let l = ap length m in let k = length-append front (byte ∷ back) in absurd (omega arith)

  slash_there : (place : ℕ) → IsWrongAt quote inner place → IsSlash inner place
  slash_there place (no_escape pieces rest r w v e) = subst (IsSlash inner) (sym e) (wrong_slash quote inner (flat_map piece_text pieces) rest r.source w)
  slash_there place (no_utf8 before p later rest front byte back r m longest e) = subst (IsSlash inner) (sym e) (piece_slash before p later rest front byte back r m longest)

-- what follows an ASCII byte, and what stands before one, is UTF-8
utf8_from : (xs : List ℕ) (b : ℕ) (ys : List ℕ) → b < 128 → IsUtf8 (xs ++ b ∷ ys) → IsUtf8 (b ∷ ys)
utf8_from xs b ys low u =
    let z : length xs ≡ length xs + 0 = omega arith in
    let here : get_or (xs ++ b ∷ ys) (length xs) 0 ≡ b = ap (λ (n : ℕ). get_or (xs ++ b ∷ ys) n 0) z ∙ get_behind xs (b ∷ ys) 0 in
    let l = length-append xs (b ∷ ys) in
    subst IsUtf8 (drop_at xs (b ∷ ys) (length xs) refl) (IsUtf8-drop (xs ++ b ∷ ys) (length xs) u (IsCharBoundary-before_ascii (xs ++ b ∷ ys) (length xs) (omega arith) (omega arith)))

utf8_past : (b : ℕ) (ys : List ℕ) → b < 128 → IsUtf8 (b ∷ ys) → IsUtf8 ys
utf8_past b ys low u = IsUtf8-drop (b ∷ ys) 1 u (IsCharBoundary-after_ascii (b ∷ ys) 0 u (omega arith) low)

utf8_up_to : (xs : List ℕ) (b : ℕ) (ys : List ℕ) → b < 128 → IsUtf8 (xs ++ b ∷ ys) → IsUtf8 xs
utf8_up_to xs b ys low u =
    let z : length xs ≡ length xs + 0 = omega arith in
    let here : get_or (xs ++ b ∷ ys) (length xs) 0 ≡ b = ap (λ (n : ℕ). get_or (xs ++ b ∷ ys) n 0) z ∙ get_behind xs (b ∷ ys) 0 in
    let l = length-append xs (b ∷ ys) in
    subst IsUtf8 (take_at xs (b ∷ ys) (length xs) refl) (IsUtf8-take (xs ++ b ∷ ys) (length xs) u (IsCharBoundary-before_ascii (xs ++ b ∷ ys) (length xs) (omega arith) (omega arith)))

pub backslash : (from text : List ℕ) (fault : Fault) → IsUtf8 text → Breaks from text fault → fault.kind ≡ BadEscape → (place : ℕ) × (get_or text place 0 ≡ 92) × (fault.span ≡ in_source from place (place + 1))
backslash from text fault u b k =
    let written = flat_map lexeme_text b.lexemes in
    let at = length written in
    let breach : IsBreach (behind_lexemes b.lexemes false) b.rest BadEscape b.start b.end = subst (λ (x : Kind). IsBreach (behind_lexemes b.lexemes false) b.rest x b.start b.end) k b.breach in
    let w = breach.1 in
    let low = quote_low w.quote w.is_quote in
    let source : text ≡ written ++ w.quote ∷ (w.inner ++ w.quote ∷ w.rest) = b.source ∙ ap (λ (x : List ℕ). written ++ x) w.source in
    let after : IsUtf8 (w.inner ++ w.quote ∷ w.rest) = utf8_past w.quote (w.inner ++ w.quote ∷ w.rest) low (utf8_from written w.quote (w.inner ++ w.quote ∷ w.rest) low (subst IsUtf8 source u)) in
    let slash = slash_there w.quote w.is_quote w.inner (utf8_up_to w.inner w.quote w.rest low after) w.between w.wrong in
    let place : at + b.start ≡ at + suc w.between = let e = w.place_is in omega arith in
    let there : get_or text (at + b.start) 0 ≡ 92 =
    ap (λ (x : List ℕ). get_or x (at + b.start) 0) source ∙ ap (λ (n : ℕ). get_or (written ++ w.quote ∷ (w.inner ++ w.quote ∷ w.rest)) n 0) place ∙ get_behind written (w.quote ∷ (w.inner ++ w.quote ∷ w.rest)) (suc w.between)
    ∙ get_before w.inner (w.quote ∷ w.rest) w.between slash.1 ∙ slash.0 in
    let end : at + b.end ≡ at + b.start + 1 = let e = breach.0 in omega arith in
    (at + b.start, there, b.span_is ∙ ap (in_source from (at + b.start)) end)
