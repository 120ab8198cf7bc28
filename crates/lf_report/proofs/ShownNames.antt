-- How the shown form of a name goes with its characters.
use Rattle.std.proofs.Common.{◌≡◌, ℕ, ◌+◌, ◌/◌, ◌%◌, ◌≤◌, Bool, true, false, true≢false, cond, not, nat_lt, ◌&&◌, ◌||◌, ◌==◌, List, [], ◌∷◌, ◌++◌, codes, map, refl, sym, ap, ◌∙◌, arith, append-nil}
use Rattle.std.specs.Fmt.{digit_glyph}
use Rattle.std.specs.List.{list_all}
use Rattle.std.proofs.lemmas.Bool.Decides.{nat_tests}
use Rattle.std.proofs.lemmas.List.Concat.{flat_map-append}
use Rattle.std.proofs.lemmas.Str.{encodes-append, encodes-chars}
use Rattle.std.specs.Char.{IsNotAsciiControl}
use Rattle.std.specs.Str.{IsUtf8, chars}
use lib.Utf8.{encode, encodes}
use Rattle.lf_ast.specs.Labels.{Bytes}
use Rattle.lf_report.specs.Shown.{shown, shown_byte}
use Rattle.lf_report.specs.views.PlainNames.{is_plain}

-- a byte of a character that isn't a control character
pub shown_byte-other : (b : ℕ) → IsNotAsciiControl b → shown_byte b ≡ b ∷ []
shown_byte-other b h = grind (arith, nat_tests)

-- a byte of a character that isn't ASCII
pub shown_byte-high : (b : ℕ) → 128 ≤ b → shown_byte b ≡ b ∷ []
shown_byte-high b h = grind (arith, nat_tests)

-- one more byte that is shown as it is
plain_more : (b : ℕ) (bs : Bytes) → shown_byte b ≡ b ∷ [] → shown bs ≡ bs → shown (b ∷ bs) ≡ b ∷ bs
plain_more b bs e h = ap (λ l. l ++ shown bs) e ∙ ap (λ l. b ∷ l) h

-- a byte of a character that isn't ASCII, and then others
high_more : (b : ℕ) (bs : Bytes) → 128 ≤ b → shown bs ≡ bs → shown (b ∷ bs) ≡ b ∷ bs
high_more b bs le e = plain_more b bs (shown_byte-high b le) e

-- one more of the bytes behind the first
next_more : (bits : ℕ) (bs : Bytes) → shown bs ≡ bs → shown ((128 + bits % 64) ∷ bs) ≡ (128 + bits % 64) ∷ bs
next_more bits bs e = high_more (128 + bits % 64) bs (omega arith) e

-- the bytes of a character, by how many there are
shown_bytes : (c : ℕ) → IsNotAsciiControl c → (one two three : Bool)
    → let bytes : Bytes = cond one (c ∷ []) (cond two ((192 + c / 64) ∷ (128 + c % 64) ∷ []) (cond three ((224 + c / 4096) ∷ (128 + c / 64 % 64) ∷ (128 + c % 64) ∷ [])
    ((240 + c / 262144) ∷ (128 + c / 4096 % 64) ∷ (128 + c / 64 % 64) ∷ (128 + c % 64) ∷ []))) in shown bytes ≡ bytes
shown_bytes c h true two three = plain_more c [] (shown_byte-other c h) refl
shown_bytes c h false true three = high_more (192 + c / 64) _ (omega arith) (next_more c [] refl)
shown_bytes c h false false true = high_more (224 + c / 4096) _ (omega arith) (next_more (c / 64) _ (next_more c [] refl))
shown_bytes c h false false false = high_more (240 + c / 262144) _ (omega arith) (next_more (c / 4096) _ (next_more (c / 64) _ (next_more c [] refl)))

-- any other character
pub shown-other : (c : ℕ) → IsNotAsciiControl c → shown (encode c) ≡ encode c
unfolding encode
shown-other c h = shown_bytes c h (nat_lt c 128) (nat_lt c 2048) (nat_lt c 65536)

-- one more character
pub shown_more : (cs : List ℕ) (c : ℕ) → shown (encodes (cs ++ c ∷ [])) ≡ shown (encodes cs) ++ shown (encode c)
shown_more cs c = ap shown (encodes-append cs (c ∷ []) ∙ ap (λ l. encodes cs ++ l) (append-nil (encode c))) ∙ flat_map-append shown_byte (encodes cs) (encode c)

map_same : (cs : List ℕ) → map (λ c. c) cs ≡ cs
map_same [] = refl
map_same (c ∷ cs) = ap (λ l. c ∷ l) (map_same cs)

-- all characters of a name
pub shown_all : (name cs : List ℕ) → IsUtf8 name → map (λ c. c) cs ≡ chars name → shown (encodes cs) ≡ shown name
shown_all name cs text all = ap (λ l. shown (encodes l)) (sym (map_same cs) ∙ all) ∙ ap shown (encodes-chars name text)

-- a name without a control character
pub shown_plain : (name : Bytes) → list_all is_plain name ≡ true → shown name ≡ name
shown_plain [] e = refl
shown_plain (b ∷ bs) e = by (nat_lt b 32 || b == 127) e (shown_plain bs)
  where
    by : (c : Bool) → (not c && list_all is_plain bs) ≡ true → (list_all is_plain bs ≡ true → shown bs ≡ bs) → cond c (codes "\\x" ++ digit_glyph false (b / 16) ∷ digit_glyph false (b % 16) ∷ []) (b ∷ []) ++ shown bs ≡ b ∷ bs
    by true absurd_is _ = absurd (true≢false (sym absurd_is))
    by false rest more = ap (λ l. b ∷ l) (more rest)
