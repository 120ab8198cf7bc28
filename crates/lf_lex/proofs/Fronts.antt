-- What stands at the front, by what was found there.
use Rattle.std.proofs.Common.{◌≡◌, ℕ, ◌+◌, ◌<◌, Bool, true, false, not, eqb, List, length, get_or, take, drop, Some, None, Ok, refl, ap, arith, sym, ◌∙◌, lt-ltb, length-drop}
use Rattle.std.proofs.lemmas.List.{drop-drop}
use Rattle.std.specs.List.{prefix_len}
use Rattle.std.specs.Str.{IsUtf8, is_utf8}
use Rattle.std.specs.Str.Lossy.{utf8_valid_len}
use Rattle.std.proofs.lemmas.Str.{is_utf8-from_IsUtf8, IsUtf8-from_is_utf8}
use Rattle.lf_base.specs.declared.kind.Kind.TheVariants.{BadByte, BadEscape}
use Rattle.lf_lex.specs.declared.token.TokenKind.TheVariants as kinds
use Rattle.lf_lex.specs.Bytes.{is_continuation, is_line_break}
use Rattle.lf_lex.specs.reading.Signs.{sign_at}
use Rattle.lf_lex.specs.reading.Strings.{gives, bytes_of, places_of}
use Rattle.lf_lex.specs.reading.Steps.{Front, breach, token, value_front, raw_front, sign_front}
use Rattle.lf_lex.proofs.Ascii.{some_pass, first_drop}

pub value_utf8 : (from : List ℕ) (at quote : ℕ) (inner text : List ℕ) → text ≡ bytes_of (gives quote 0 0 inner) → IsUtf8 text → value_front from at quote inner ≡ Ok (Some (kinds.Str text), length inner + 2)
unfolding value_front
value_utf8 from at quote inner text e u = let t : is_utf8 (bytes_of (gives quote 0 0 inner)) ≡ true = rw e at (is_utf8-from_IsUtf8 text u) in rw (t, e) refl

pub value_wrong : (from : List ℕ) (at quote : ℕ) (inner bytes : List ℕ) (place : ℕ) → bytes ≡ bytes_of (gives quote 0 0 inner) → (IsUtf8 bytes → ⊥) → place ≡ get_or (places_of (gives quote 0 0 inner)) (utf8_valid_len bytes) 0
    → value_front from at quote inner ≡ breach {X = Front} from BadEscape (at + 1 + place) (at + 1 + place + 1)
unfolding value_front
value_wrong from at quote inner bytes place e n p = by (is_utf8 (bytes_of (gives quote 0 0 inner))) refl
  where
    by : (t : Bool) → is_utf8 (bytes_of (gives quote 0 0 inner)) ≡ t → value_front from at quote inner ≡ breach {X = Front} from BadEscape (at + 1 + place) (at + 1 + place + 1)
    by true t = absurd (n (rw e (IsUtf8-from_is_utf8 _ t)))
    by false t = rw (t, p, e) refl

pub raw_closed : (from : List ℕ) (at n : ℕ) (bs text : List ℕ) → n ≡ prefix_len (λ b. not (eqb b 96)) (drop 1 (drop at bs)) → n < length (drop 1 (drop at bs)) → text ≡ take n (drop (at + 1) bs) → raw_front from at (drop at bs) ≡ Ok (Some (kinds.Str text), n + 2)
unfolding raw_front
raw_closed from at n bs text e lt t =
    let q : drop 1 (drop at bs) ≡ drop (at + 1) bs = drop-drop 1 at bs in
    let w : take n (drop 1 (drop at bs)) ≡ text = ap (take n) q ∙ sym t in
    rw (← e, lt-ltb n (length (drop 1 (drop at bs))) lt) (ap (λ (x : List ℕ). token (kinds.Str x) (n + 2)) w)

pub no_sign : (from : List ℕ) (at more : ℕ) (src : List ℕ) → sign_at src ≡ None → more ≡ prefix_len is_continuation (drop 1 src) → sign_front from at src ≡ breach {X = Front} from BadByte at (at + 1 + more)
unfolding sign_front
no_sign from at more src e m = rw (e, m) refl

pub comment_some : (bs : List ℕ) (at : ℕ) → at < length bs → get_or bs at 0 ≡ 35 → 0 < prefix_len (λ b. not (is_line_break b)) (drop at bs)
unfolding is_line_break
comment_some bs at lt e = some_pass (λ b. not (is_line_break b)) (drop at bs) (omega (arith, length-drop at bs)) (ap (λ (b : ℕ). not (is_line_break b)) (first_drop bs at ∙ e))
