-- The reading of an escape is the grammar of escapes.
use Rattle.std.proofs.Common.{◌≡◌, ◌≢◌, ℕ, ◌+◌, ◌*◌, ◌-◌, ◌<◌, ◌≤◌, Bool, true, false, ◌&&◌, ◌||◌, cond, eqb, leb, ltb, List, [], ◌∷◌, length, Option, Some, None, refl, ap, arith, sym, ◌∙◌, subst, ◌⊎◌, inl, inr, encode_utf8}
use Rattle.std.proofs.lemmas.Option.{same_Some}
use Rattle.std.proofs.lemmas.Bool.{false≢true, ne_eqb, eq-eqb, ltb-true, lt-ltb}
use Rattle.std.proofs.lemmas.Bool.Decides.{eqb_tells, nat_tests}
use Rattle.std.specs.Char.{IsScalar}
use Rattle.lf_lex.specs.Bytes.{is_octal}
use Rattle.lf_base.specs.Names.{is_digit, hexadecimal_value}
use Rattle.lf_lex.specs.Strings.{IsQuote, byte_of_letter, octal_value, Tell, IsEscape, a_letter, the_quote, octal_byte as octal_escape, hexadecimal_byte, short_character, long_character}
use Rattle.lf_lex.specs.reading.Strings.{both, two_digits, four_digits, eight_digits, octal_byte, is_scalar, as_byte, as_character, escape}
use Rattle.lf_lex.proofs.Options.{none_some}

pub no_quote : (q k : ℕ) → IsQuote q → k ≢ 34 → k ≢ 39 → eqb k q ≡ false
no_quote q k (inl e) a b = ne_eqb k q (λ f. a (f ∙ e))
no_quote q k (inr e) a b = ne_eqb k q (λ f. b (f ∙ e))

-- ---- hexadecimal digits

abbrev Hex : ℕ → List ℕ → ℕ → Type 0
Hex before digits n = Tell 16 hexadecimal_value before digits n

-- two digits, and what follows them
pub record Two (a b before : ℕ) (rest : List ℕ) (n : ℕ) : Type 0 where
  pub m : ℕ
  pub is : both 16 (hexadecimal_value a) (hexadecimal_value b) ≡ Some m
  pub left : Hex (256 * before + m) rest n

two_told : (a b before : ℕ) (rest : List ℕ) (n : ℕ) → Hex before (a ∷ b ∷ rest) n → Two a b before rest n
two_told a b before rest n t =
    let x = t.0 in
    let y = t.2.0 in
    let e : 16 * (16 * before + x) + y ≡ 256 * before + (16 * x + y) = omega arith in
    record { m = 16 * x + y; is = rw (t.1, t.2.1) refl; left = subst (λ (k : ℕ). Hex k rest n) e t.2.2 }

two_tell : (a b before m : ℕ) (rest : List ℕ) (n : ℕ) → both 16 (hexadecimal_value a) (hexadecimal_value b) ≡ Some m → Hex (256 * before + m) rest n → Hex before (a ∷ b ∷ rest) n
two_tell a b before m rest n h t = by (hexadecimal_value a) (hexadecimal_value b) refl refl h
  where
    by : (o p : Option ℕ) → hexadecimal_value a ≡ o → hexadecimal_value b ≡ p → both 16 o p ≡ Some m → Hex before (a ∷ b ∷ rest) n
    by None p e f h = none_some m None refl h
    by (Some x) None e f h = none_some m None refl h
    by (Some x) (Some y) e f h =
        let k : 256 * before + m ≡ 16 * (16 * before + x) + y = let j : 16 * x + y ≡ m = same_Some (16 * x + y) m h in omega arith in
        (x, e, (y, f, subst (λ (z : ℕ). Hex z rest n) k t))

pub record Four (a b c d before : ℕ) (rest : List ℕ) (n : ℕ) : Type 0 where
  pub m : ℕ
  pub is : both 256 (both 16 (hexadecimal_value a) (hexadecimal_value b)) (both 16 (hexadecimal_value c) (hexadecimal_value d)) ≡ Some m
  pub left : Hex (65536 * before + m) rest n

four_told : (a b c d before : ℕ) (rest : List ℕ) (n : ℕ) → Hex before (a ∷ b ∷ c ∷ d ∷ rest) n → Four a b c d before rest n
four_told a b c d before rest n t =
    let u = two_told a b before (c ∷ d ∷ rest) n t in
    let v = two_told c d (256 * before + u.m) rest n u.left in
    let x = u.m in
    let y = v.m in
    let e : 256 * (256 * before + x) + y ≡ 65536 * before + (256 * x + y) = omega arith in
    record { m = 256 * u.m + v.m; is = rw (u.is, v.is) refl; left = subst (λ (k : ℕ). Hex k rest n) e v.left }

four_tell : (a b c d before m : ℕ) (rest : List ℕ) (n : ℕ) → both 256 (both 16 (hexadecimal_value a) (hexadecimal_value b)) (both 16 (hexadecimal_value c) (hexadecimal_value d)) ≡ Some m → Hex (65536 * before + m) rest n → Hex before (a ∷ b ∷ c ∷ d ∷ rest) n
four_tell a b c d before m rest n h t = by (both 16 (hexadecimal_value a) (hexadecimal_value b)) (both 16 (hexadecimal_value c) (hexadecimal_value d)) refl refl h
  where
    by : (o p : Option ℕ) → both 16 (hexadecimal_value a) (hexadecimal_value b) ≡ o → both 16 (hexadecimal_value c) (hexadecimal_value d) ≡ p → both 256 o p ≡ Some m → Hex before (a ∷ b ∷ c ∷ d ∷ rest) n
    by None p e f h = none_some m None refl h
    by (Some x) None e f h = none_some m None refl h
    by (Some x) (Some y) e f h =
        let k : 65536 * before + m ≡ 256 * (256 * before + x) + y = let j : 256 * x + y ≡ m = same_Some (256 * x + y) m h in omega arith in
        two_tell a b before x (c ∷ d ∷ rest) n e (two_tell c d (256 * before + x) y rest n f (subst (λ (z : ℕ). Hex z rest n) k t))

eight_told : (a b c d e f g h n : ℕ) → Hex 0 (a ∷ b ∷ c ∷ d ∷ e ∷ f ∷ g ∷ h ∷ []) n → eight_digits (a ∷ b ∷ c ∷ d ∷ e ∷ f ∷ g ∷ h ∷ []) ≡ Some n
unfolding eight_digits four_digits two_digits
eight_told a b c d e f g h n t =
    let u = four_told a b c d 0 (e ∷ f ∷ g ∷ h ∷ []) n t in
    let v = four_told e f g h (65536 * 0 + u.m) [] n u.left in
    let x = u.m in
    let y = v.m in
    let k : 65536 * x + y ≡ n = let l : n ≡ 65536 * (65536 * 0 + x) + y = v.left in omega arith in
    rw (u.is, v.is) (ap (λ (z : ℕ). Some z) k)

eight_tell : (a b c d e f g h n : ℕ) → eight_digits (a ∷ b ∷ c ∷ d ∷ e ∷ f ∷ g ∷ h ∷ []) ≡ Some n → Hex 0 (a ∷ b ∷ c ∷ d ∷ e ∷ f ∷ g ∷ h ∷ []) n
unfolding eight_digits four_digits two_digits
eight_tell a b c d e f g h n t = by (both 256 (both 16 (hexadecimal_value a) (hexadecimal_value b)) (both 16 (hexadecimal_value c) (hexadecimal_value d))) (both 256 (both 16 (hexadecimal_value e) (hexadecimal_value f)) (both 16 (hexadecimal_value g) (hexadecimal_value h))) refl refl t
  where
    by : (o p : Option ℕ) → both 256 (both 16 (hexadecimal_value a) (hexadecimal_value b)) (both 16 (hexadecimal_value c) (hexadecimal_value d)) ≡ o → both 256 (both 16 (hexadecimal_value e) (hexadecimal_value f)) (both 16 (hexadecimal_value g) (hexadecimal_value h)) ≡ p → both 65536 o p ≡ Some n → Hex 0 (a ∷ b ∷ c ∷ d ∷ e ∷ f ∷ g ∷ h ∷ []) n
    by None p i j k = none_some n None refl k
    by (Some x) None i j k = none_some n None refl k
    by (Some x) (Some y) i j k =
        let l : n ≡ 65536 * (65536 * 0 + x) + y = let z : 65536 * x + y ≡ n = same_Some (65536 * x + y) n k in omega arith in
        four_tell a b c d 0 x (e ∷ f ∷ g ∷ h ∷ []) n i (four_tell e f g h (65536 * 0 + x) y [] n j l)

-- ---- scalars

scalar_is : (c : ℕ) → IsScalar c → is_scalar c ≡ true
unfolding is_scalar
scalar_is c h = grind (arith, nat_tests)

is_a_scalar : (c : ℕ) → is_scalar c ≡ true → IsScalar c
unfolding is_scalar
is_a_scalar c h = grind (arith, nat_tests)

character_is : (count c : ℕ) → IsScalar c → as_character count (Some c) ≡ Some (encode_utf8 c, count)
character_is count c h = rw (scalar_is c h) refl

-- ---- what the grammar has is read

-- a byte that begins no other escape
abbrev is_other : ℕ → Bool
is_other e = eqb e 34 || (eqb e 39 || (eqb e 120 || (eqb e 117 || (eqb e 85 || is_digit e))))

abbrev IsLettered : ℕ → Option ℕ → Type 0
IsLettered e o = (b : ℕ) → o ≡ Some b → is_other e ≡ false

pick : (e k b : ℕ) (o : Option ℕ) → is_other k ≡ false → IsLettered e o → IsLettered e (cond (eqb e k) (Some b) o)
pick e k b o other more c h = by (eqb_tells e k)
  where
    by : ((eqb e k ≡ true) × (e ≡ k)) ⊎ ((eqb e k ≡ false) × (e ≢ k)) → is_other e ≡ false
    by (inl y) = ap is_other y.1 ∙ other
    by (inr n) = more c (sym (rw n.0 refl) ∙ h)

letter_other : (e : ℕ) → IsLettered e (byte_of_letter e)
unfolding byte_of_letter is_digit
letter_other e = pick e 97 7 _ refl (pick e 98 8 _ refl (pick e 102 12 _ refl (pick e 110 10 _ refl (pick e 114 13 _ refl (pick e 116 9 _ refl (pick e 118 11 _ refl (pick e 92 92 _ refl (λ b h. none_some b None refl h))))))))

octal_is : (a v : ℕ) → octal_value a ≡ Some v → (is_octal a ≡ true) × (v ≡ a - 48)
unfolding octal_value is_octal
octal_is a v h = by (leb 48 a && leb a 55) h
  where
    by : (t : Bool) → cond t (Some (a - 48)) None ≡ Some v → (t ≡ true) × (v ≡ a - 48)
    by true h = (refl, sym (same_Some (a - 48) v h))
    by false h = none_some v None refl h

octal_other : (a : ℕ) → is_octal a ≡ true → (a ≢ 34) × (a ≢ 39) × (a ≢ 120) × (a ≢ 117) × (a ≢ 85) × (is_digit a ≡ true)
unfolding is_octal is_digit
octal_other a h = (λ e. grind (arith, nat_tests), λ e. grind (arith, nat_tests), λ e. grind (arith, nat_tests), λ e. grind (arith, nat_tests), λ e. grind (arith, nat_tests), grind (arith, nat_tests))

octal_told : (a b c n : ℕ) → Tell 8 octal_value 0 (a ∷ b ∷ c ∷ []) n → n < 256 → octal_byte (a ∷ b ∷ c ∷ []) ≡ Some n
unfolding octal_byte
octal_told a b c n t lt =
    let p = octal_is a t.0 t.1 in
    let q = octal_is b t.2.0 t.2.1 in
    let r = octal_is c t.2.2.0 t.2.2.1 in
    let x = t.0 in
    let y = t.2.0 in
    let z = t.2.2.0 in
    let n_is : n ≡ 8 * (8 * (8 * 0 + x) + y) + z = t.2.2.2 in
    let xa : x ≡ a - 48 = p.1 in
    let yb : y ≡ b - 48 = q.1 in
    let zc : z ≡ c - 48 = r.1 in
    let low : ltb a 52 ≡ true = lt-ltb a 52 (omega arith) in
    let value : 64 * (a - 48) + 8 * (b - 48) + (c - 48) ≡ n = omega arith in
    rw (p.0, q.0, r.0, low) (ap (λ (k : ℕ). Some k) value)

module _ (quote : ℕ) (q : IsQuote quote) where
  other_no_quote : (e : ℕ) → is_other e ≡ false → eqb e quote ≡ false
  other_no_quote e h = no_quote quote e q (λ f. let k : is_other e ≡ true = rw f refl in false≢true (sym h ∙ k)) (λ f. let k : is_other e ≡ true = rw f refl in false≢true (sym h ∙ k))

  letter_read : (e b : ℕ) → is_other e ≡ false → byte_of_letter e ≡ Some b → escape quote (e ∷ []) ≡ Some (b ∷ [], 1)
  unfolding escape
  letter_read e b h f =
      let x : eqb e 120 ≡ false = ne_eqb e 120 (λ g. let k : is_other e ≡ true = rw g refl in false≢true (sym h ∙ k)) in
      let u : eqb e 117 ≡ false = ne_eqb e 117 (λ g. let k : is_other e ≡ true = rw g refl in false≢true (sym h ∙ k)) in
      let w : eqb e 85 ≡ false = ne_eqb e 85 (λ g. let k : is_other e ≡ true = rw g refl in false≢true (sym h ∙ k)) in
      let d : is_digit e ≡ false = last (eqb e 34) (eqb e 39) (eqb e 120) (eqb e 117) (eqb e 85) (is_digit e) h in
      rw (other_no_quote e h, x, u, w, d, f) refl
    where
      last : (a b c d e f : Bool) → (a || (b || (c || (d || (e || f))))) ≡ false → f ≡ false
      last false false false false false f h = h
      last true b c d e f h = absurd (false≢true (sym h))
      last false true c d e f h = absurd (false≢true (sym h))
      last false false true d e f h = absurd (false≢true (sym h))
      last false false false true e f h = absurd (false≢true (sym h))
      last false false false false true f h = absurd (false≢true (sym h))

  quote_read : escape quote (quote ∷ []) ≡ Some (quote ∷ [], 1)
  unfolding escape
  quote_read = rw (eq-eqb quote quote refl) refl

  octal_read : (tail : List ℕ) (n : ℕ) → length tail ≡ 3 → Tell 8 octal_value 0 tail n → n < 256 → escape quote tail ≡ Some (n ∷ [], 3)
  unfolding escape
  octal_read [] n l t lt = absurd (omega arith)
  octal_read (a ∷ []) n l t lt = absurd (omega arith)
  octal_read (a ∷ b ∷ []) n l t lt = absurd (omega arith)
  octal_read (a ∷ b ∷ c ∷ []) n l t lt =
      let o = octal_other a (octal_is a t.0 t.1).0 in
      rw (no_quote quote a q o.0 o.1, ne_eqb a 120 o.2, ne_eqb a 117 o.3, ne_eqb a 85 o.4, o.5, octal_told a b c n t lt) refl
  octal_read (a ∷ b ∷ c ∷ d ∷ tail) n l t lt = absurd (omega arith)

  x_no_quote : eqb 120 quote ≡ false
  x_no_quote = no_quote quote 120 q (λ e. absurd (omega arith)) (λ e. absurd (omega arith))

  u_no_quote : eqb 117 quote ≡ false
  u_no_quote = no_quote quote 117 q (λ e. absurd (omega arith)) (λ e. absurd (omega arith))

  upper_no_quote : eqb 85 quote ≡ false
  upper_no_quote = no_quote quote 85 q (λ e. absurd (omega arith)) (λ e. absurd (omega arith))

  byte_read : (digits : List ℕ) (n : ℕ) → length digits ≡ 2 → Hex 0 digits n → escape quote (120 ∷ digits) ≡ Some (n ∷ [], 3)
  unfolding escape two_digits
  byte_read [] n l t = absurd (omega arith)
  byte_read (a ∷ []) n l t = absurd (omega arith)
  byte_read (a ∷ b ∷ []) n l t =
      let u = two_told a b 0 [] n t in
      let n_is : n ≡ 256 * 0 + u.m = u.left in
      let e : u.m ≡ n = omega arith in
      rw (x_no_quote, u.is, e) refl
  byte_read (a ∷ b ∷ c ∷ digits) n l t = absurd (omega arith)

  short_read : (digits : List ℕ) (c : ℕ) → length digits ≡ 4 → Hex 0 digits c → IsScalar c → escape quote (117 ∷ digits) ≡ Some (encode_utf8 c, 5)
  unfolding escape four_digits two_digits
  short_read [] n l t s = absurd (omega arith)
  short_read (a ∷ []) n l t s = absurd (omega arith)
  short_read (a ∷ b ∷ []) n l t s = absurd (omega arith)
  short_read (a ∷ b ∷ c ∷ []) n l t s = absurd (omega arith)
  short_read (a ∷ b ∷ c ∷ d ∷ []) n l t s =
      let u = four_told a b c d 0 [] n t in
      let n_is : n ≡ 65536 * 0 + u.m = u.left in
      let e : u.m ≡ n = omega arith in
      rw (u_no_quote, u.is, e) (character_is 5 n s)
  short_read (a ∷ b ∷ c ∷ d ∷ e ∷ digits) n l t s = absurd (omega arith)

  long_read : (digits : List ℕ) (c : ℕ) → length digits ≡ 8 → Hex 0 digits c → IsScalar c → escape quote (85 ∷ digits) ≡ Some (encode_utf8 c, 9)
  unfolding escape
  long_read [] n l t s = absurd (omega arith)
  long_read (a ∷ []) n l t s = absurd (omega arith)
  long_read (a ∷ b ∷ []) n l t s = absurd (omega arith)
  long_read (a ∷ b ∷ c ∷ []) n l t s = absurd (omega arith)
  long_read (a ∷ b ∷ c ∷ d ∷ []) n l t s = absurd (omega arith)
  long_read (a ∷ b ∷ c ∷ d ∷ e ∷ []) n l t s = absurd (omega arith)
  long_read (a ∷ b ∷ c ∷ d ∷ e ∷ f ∷ []) n l t s = absurd (omega arith)
  long_read (a ∷ b ∷ c ∷ d ∷ e ∷ f ∷ g ∷ []) n l t s = absurd (omega arith)
  long_read (a ∷ b ∷ c ∷ d ∷ e ∷ f ∷ g ∷ h ∷ []) n l t s = rw (upper_no_quote, eight_told a b c d e f g h n t) (character_is 9 n s)
  long_read (a ∷ b ∷ c ∷ d ∷ e ∷ f ∷ g ∷ h ∷ i ∷ digits) n l t s = absurd (omega arith)

  abbrev Told : List ℕ → List ℕ → Type 0
  Told tail bytes = escape quote tail ≡ Some (bytes, length tail)

  told_by : (tail bytes : List ℕ) (n : ℕ) → n ≡ length tail → escape quote tail ≡ Some (bytes, n) → Told tail bytes
  told_by tail bytes n e h = h ∙ ap (λ (k : ℕ). Some (bytes, k)) e

  pub escape_read : (tail bytes : List ℕ) → IsEscape quote tail bytes → Told tail bytes
  escape_read tail bytes (a_letter e b t f g) = told_by tail bytes 1 (let l = ap length t in omega arith) (rw (t, g) (letter_read e b (letter_other e b f) f))
  escape_read tail bytes (the_quote t g) = told_by tail bytes 1 (let l = ap length t in omega arith) (rw (t, g) quote_read)
  escape_read tail bytes (octal_escape n l t lt g) = told_by tail bytes 3 (sym l) (rw g (octal_read tail n l t lt))
  escape_read tail bytes (hexadecimal_byte digits n t l h g) = told_by tail bytes 3 (let k = ap length t in omega arith) (rw (t, g) (byte_read digits n l h))
  escape_read tail bytes (short_character digits c t l h s g) = told_by tail bytes 5 (let k = ap length t in omega arith) (rw (t, g) (short_read digits c l h s))
  escape_read tail bytes (long_character digits c t l h s g) = told_by tail bytes 9 (let k = ap length t in omega arith) (rw (t, g) (long_read digits c l h s))

-- ---- what is read is in the grammar

abbrev told : List ℕ → ℕ → Option (List ℕ × ℕ)
told bs n = Some (bs, n)

bytes_same : (bs cs : List ℕ) (m n : ℕ) → told bs m ≡ told cs n → (bs ≡ cs) × (m ≡ n)
bytes_same bs cs m n e = (ap (λ (x : List ℕ × ℕ). x.0) (same_Some (bs, m) (cs, n) e), ap (λ (x : List ℕ × ℕ). x.1) (same_Some (bs, m) (cs, n) e))

octal_value_is : (a : ℕ) → is_octal a ≡ true → octal_value a ≡ Some (a - 48)
unfolding octal_value is_octal
octal_value_is a h = rw h refl

low_octal : (a : ℕ) → is_octal a ≡ true → (48 ≤ a) × (a ≤ 55)
unfolding is_octal
low_octal a h = (grind (arith, nat_tests), grind (arith, nat_tests))

octal_tell : (a b c n : ℕ) → octal_byte (a ∷ b ∷ c ∷ []) ≡ Some n → Tell 8 octal_value 0 (a ∷ b ∷ c ∷ []) n × (n < 256)
unfolding octal_byte
octal_tell a b c n h = by (is_octal a) (is_octal b) (is_octal c) (ltb a 52) refl refl refl refl h
  where
    by : (s t u w : Bool) → is_octal a ≡ s → is_octal b ≡ t → is_octal c ≡ u → ltb a 52 ≡ w → cond (s && t && u && w) (Some (64 * (a - 48) + 8 * (b - 48) + (c - 48))) None ≡ Some n → Tell 8 octal_value 0 (a ∷ b ∷ c ∷ []) n × (n < 256)
    by true true true true i j k l h =
        let e : 64 * (a - 48) + 8 * (b - 48) + (c - 48) ≡ n = same_Some _ n h in
        let la = low_octal a i in
        let lb = low_octal b j in
        let lc = low_octal c k in
        let lt : a < 52 = ltb-true a 52 l in
        let la0 = la.0 in
        let lb0 = lb.0 in
        let lc0 = lc.0 in
        let lb1 = lb.1 in
        let lc1 = lc.1 in
        let n_is : n ≡ 8 * (8 * (8 * 0 + (a - 48)) + (b - 48)) + (c - 48) = omega arith in
        ((a - 48, octal_value_is a i, (b - 48, octal_value_is b j, (c - 48, octal_value_is c k, n_is))), omega arith)
    by false t u w i j k l h = none_some n None refl h
    by true false u w i j k l h = none_some n None refl h
    by true true false w i j k l h = none_some n None refl h
    by true true true false i j k l h = none_some n None refl h

module _ (quote : ℕ) (q : IsQuote quote) (bytes : List ℕ) where
  octal_is_escape : (e : ℕ) (src : List ℕ) (o : Option ℕ) → octal_byte (e ∷ src) ≡ o → as_byte 3 o ≡ Some (bytes, length (e ∷ src)) → IsEscape quote (e ∷ src) bytes
  octal_is_escape e src None f h = none_some (bytes, length (e ∷ src)) None refl h
  octal_is_escape e src (Some n) f h = by src (sym p.1) f
    where
      p : (n ∷ [] ≡ bytes) × (3 ≡ length (e ∷ src))
      p = bytes_same (n ∷ []) bytes 3 (length (e ∷ src)) h

      by : (src : List ℕ) → length (e ∷ src) ≡ 3 → octal_byte (e ∷ src) ≡ Some n → IsEscape quote (e ∷ src) bytes
      by [] l f = absurd (omega arith)
      by (b ∷ []) l f = absurd (omega arith)
      by (b ∷ c ∷ []) l f = let t = octal_tell e b c n f in octal_escape n refl t.0 t.1 (sym p.0)
      by (b ∷ c ∷ d ∷ src) l f = absurd (omega arith)

  letter_is_escape : (e : ℕ) (src : List ℕ) (o : Option ℕ) → byte_of_letter e ≡ o → as_byte 1 o ≡ Some (bytes, length (e ∷ src)) → IsEscape quote (e ∷ src) bytes
  letter_is_escape e src None f h = none_some (bytes, length (e ∷ src)) None refl h
  letter_is_escape e src (Some n) f h = by src (sym p.1)
    where
      p : (n ∷ [] ≡ bytes) × (1 ≡ length (e ∷ src))
      p = bytes_same (n ∷ []) bytes 1 (length (e ∷ src)) h

      by : (src : List ℕ) → length (e ∷ src) ≡ 1 → IsEscape quote (e ∷ src) bytes
      by [] l = a_letter e n refl f (sym p.0)
      by (b ∷ src) l = absurd (omega arith)

  quote_is_escape : (e : ℕ) (src : List ℕ) → e ≡ quote → told (quote ∷ []) 1 ≡ told bytes (length (e ∷ src)) → IsEscape quote (e ∷ src) bytes
  quote_is_escape e src f h = by src (sym p.1)
    where
      p : (quote ∷ [] ≡ bytes) × (1 ≡ length (e ∷ src))
      p = bytes_same (quote ∷ []) bytes 1 (length (e ∷ src)) h

      by : (src : List ℕ) → length (e ∷ src) ≡ 1 → IsEscape quote (e ∷ src) bytes
      by [] l = the_quote (ap (λ (x : ℕ). x ∷ []) f) (sym p.0)
      by (b ∷ src) l = absurd (omega arith)

  byte_is_escape : (e : ℕ) (src : List ℕ) (o : Option ℕ) → e ≡ 120 → two_digits src ≡ o → as_byte 3 o ≡ Some (bytes, length (e ∷ src)) → IsEscape quote (e ∷ src) bytes
  unfolding two_digits
  byte_is_escape e src None x f h = none_some (bytes, length (e ∷ src)) None refl h
  byte_is_escape e src (Some n) x f h = by src (sym p.1) f
    where
      p : (n ∷ [] ≡ bytes) × (3 ≡ length (e ∷ src))
      p = bytes_same (n ∷ []) bytes 3 (length (e ∷ src)) h

      by : (src : List ℕ) → length (e ∷ src) ≡ 3 → two_digits src ≡ Some n → IsEscape quote (e ∷ src) bytes
      by [] l f = absurd (omega arith)
      by (a ∷ []) l f = absurd (omega arith)
      by (a ∷ b ∷ []) l f = hexadecimal_byte (a ∷ b ∷ []) n (ap (λ (z : ℕ). z ∷ a ∷ b ∷ []) x) refl (two_tell a b 0 n [] n f (omega arith)) (sym p.0)
      by (a ∷ b ∷ c ∷ src) l f = absurd (omega arith)

  chosen : (n count len : ℕ) (t : Bool) → is_scalar n ≡ t → cond t (told (encode_utf8 n) count) None ≡ told bytes len → IsScalar n × (encode_utf8 n ≡ bytes) × (count ≡ len)
  chosen n count len true s h = let p = bytes_same (encode_utf8 n) bytes count len h in (is_a_scalar n s, p.0, p.1)
  chosen n count len false s h = none_some (bytes, len) None refl h

  short_is_escape : (e : ℕ) (src : List ℕ) (o : Option ℕ) → e ≡ 117 → four_digits src ≡ o → as_character 5 o ≡ Some (bytes, length (e ∷ src)) → IsEscape quote (e ∷ src) bytes
  unfolding four_digits two_digits
  short_is_escape e src None x f h = none_some (bytes, length (e ∷ src)) None refl h
  short_is_escape e src (Some n) x f h = by src (sym p.2) f
    where
      p : IsScalar n × (encode_utf8 n ≡ bytes) × (5 ≡ length (e ∷ src))
      p = chosen n 5 (length (e ∷ src)) (is_scalar n) refl h

      by : (src : List ℕ) → length (e ∷ src) ≡ 5 → four_digits src ≡ Some n → IsEscape quote (e ∷ src) bytes
      by [] l f = absurd (omega arith)
      by (a ∷ []) l f = absurd (omega arith)
      by (a ∷ b ∷ []) l f = absurd (omega arith)
      by (a ∷ b ∷ c ∷ []) l f = absurd (omega arith)
      by (a ∷ b ∷ c ∷ d ∷ []) l f = short_character (a ∷ b ∷ c ∷ d ∷ []) n (ap (λ (z : ℕ). z ∷ a ∷ b ∷ c ∷ d ∷ []) x) refl (four_tell a b c d 0 n [] n f (omega arith)) p.0 (sym p.1)
      by (a ∷ b ∷ c ∷ d ∷ g ∷ src) l f = absurd (omega arith)

  long_is_escape : (e : ℕ) (src : List ℕ) (o : Option ℕ) → e ≡ 85 → eight_digits src ≡ o → as_character 9 o ≡ Some (bytes, length (e ∷ src)) → IsEscape quote (e ∷ src) bytes
  long_is_escape e src None x f h = none_some (bytes, length (e ∷ src)) None refl h
  long_is_escape e src (Some n) x f h = by src (sym p.2) f
    where
      p : IsScalar n × (encode_utf8 n ≡ bytes) × (9 ≡ length (e ∷ src))
      p = chosen n 9 (length (e ∷ src)) (is_scalar n) refl h

      by : (src : List ℕ) → length (e ∷ src) ≡ 9 → eight_digits src ≡ Some n → IsEscape quote (e ∷ src) bytes
      by [] l f = absurd (omega arith)
      by (a ∷ []) l f = absurd (omega arith)
      by (a ∷ b ∷ []) l f = absurd (omega arith)
      by (a ∷ b ∷ c ∷ []) l f = absurd (omega arith)
      by (a ∷ b ∷ c ∷ d ∷ []) l f = absurd (omega arith)
      by (a ∷ b ∷ c ∷ d ∷ g ∷ []) l f = absurd (omega arith)
      by (a ∷ b ∷ c ∷ d ∷ g ∷ i ∷ []) l f = absurd (omega arith)
      by (a ∷ b ∷ c ∷ d ∷ g ∷ i ∷ j ∷ []) l f = absurd (omega arith)
      by (a ∷ b ∷ c ∷ d ∷ g ∷ i ∷ j ∷ k ∷ []) l f = long_character (a ∷ b ∷ c ∷ d ∷ g ∷ i ∷ j ∷ k ∷ []) n (ap (λ (z : ℕ). z ∷ a ∷ b ∷ c ∷ d ∷ g ∷ i ∷ j ∷ k ∷ []) x) refl (eight_tell a b c d g i j k n f) p.0 (sym p.1)
      by (a ∷ b ∷ c ∷ d ∷ g ∷ i ∷ j ∷ k ∷ m ∷ src) l f = absurd (omega arith)

  pub escape_is : (tail : List ℕ) → escape quote tail ≡ Some (bytes, length tail) → IsEscape quote tail bytes
  unfolding escape
  escape_is [] h = none_some (bytes, 0) None refl h
  escape_is (e ∷ src) h = by (eqb_tells e quote) (eqb_tells e 120) (eqb_tells e 117) (eqb_tells e 85) (is_digit e) refl
    where
      by : ((eqb e quote ≡ true) × (e ≡ quote)) ⊎ ((eqb e quote ≡ false) × (e ≢ quote)) → ((eqb e 120 ≡ true) × (e ≡ 120)) ⊎ ((eqb e 120 ≡ false) × (e ≢ 120)) → ((eqb e 117 ≡ true) × (e ≡ 117)) ⊎ ((eqb e 117 ≡ false) × (e ≢ 117)) → ((eqb e 85 ≡ true) × (e ≡ 85)) ⊎ ((eqb e 85 ≡ false) × (e ≢ 85)) → (t : Bool) → is_digit e ≡ t → IsEscape quote (e ∷ src) bytes
      by (inl y) x u w t d = quote_is_escape e src y.1 (sym (rw y.0 refl) ∙ h)
      by (inr n) (inl y) u w t d = byte_is_escape e src (two_digits src) y.1 refl (sym (rw (n.0, y.0) refl) ∙ h)
      by (inr n) (inr x) (inl y) w t d = short_is_escape e src (four_digits src) y.1 refl (sym (rw (n.0, x.0, y.0) refl) ∙ h)
      by (inr n) (inr x) (inr u) (inl y) t d = long_is_escape e src (eight_digits src) y.1 refl (sym (rw (n.0, x.0, u.0, y.0) refl) ∙ h)
      by (inr n) (inr x) (inr u) (inr w) true d = octal_is_escape e src (octal_byte (e ∷ src)) refl (sym (rw (n.0, x.0, u.0, w.0, d) refl) ∙ h)
      by (inr n) (inr x) (inr u) (inr w) false d = letter_is_escape e src (byte_of_letter e) refl (sym (rw (n.0, x.0, u.0, w.0, d) refl) ∙ h)
