-- What words ask for, by what clap finds in them.
use Rattle.std.proofs.Common.{◌≡◌, ◌≢◌, ℕ, Bool, true, false, List, [], ◌∷◌, Option, None, Some, length, get_or, unwrap_or, slice_get, drop, map, String, string_bytes, codes, refl, ◌∙◌, ap, sym, subst, arith}
use Rattle.std.proofs.lemmas.Option.{same_Some}
use Rattle.std.proofs.lemmas.Str.{IsUtf8-had}
use Rattle.clap.specs.Words.{fault_of}
use Rattle.lf_words.specs.Lint.{Word, LintArguments}
use Rattle.lf_words.specs.Grammar.{IsDecimal, IsWorkers, IsFormat, Asks, lint, gen}
use Rattle.lf_words.specs.declared.options.Options.{Options}
use Rattle.lf_words.specs.declared.options.Options.TheVariants.{Lint, Gen}
use Rattle.lf_words.specs.views.Commands.{lint_app, gen_app, first_value, all_values, says_true, texts_of}
use Rattle.lf_words.proofs.Forms.{plain_of}
use Rattle.lf_words.proofs.Theorem.{Whole, means, taken, taken_gives}
use Rattle.lf_words.proofs.GenWords.{operand_taken, operand_found, taken_operand}
use Rattle.lf_words.proofs.Numbers.{number_operand, one_number}

-- ---- lint

abbrev pub FirstIs : Word → List Word → Type 0
FirstIs first words = slice_get words 0 ≡ Some first

whole_list : (words : List Word) (first : Word) → FirstIs first words → words ≡ first ∷ drop 1 words
whole_list [] first e = absurd cc
whole_list (w ∷ ws) first e = ap (λ (x : Word). x ∷ ws) (same_Some _ _ e)

pub first_is : {Z : Type 0} (ss : List (String Z)) (s : String Z) (word : Word) → Some s ≡ slice_get ss 0 → string_bytes s ≡ word → FirstIs word (map string_bytes ss)
first_is [] s word e is = absurd cc
first_is (t ∷ ss) s word e is = ap Some (ap string_bytes (sym (same_Some _ _ e)) ∙ is)

-- what clap finds in words that ask for something
pub record FoundLint (words : List Word) : Type 0 where
  pub taken : fault_of lint_app words ≡ []
  pub workers : ℕ
  pub are_workers : IsWorkers (first_value lint_app (codes "workers") words) workers
  pub json : Bool
  pub is_format : IsFormat (first_value lint_app (codes "format") words) json

pub found_lint : {words : List Word} {options : Options} → Asks words options → FirstIs (codes "lint") words → FoundLint words
found_lint (lint {words} {given} {workers} {json} gives some are is) first =
    let m = means (codes "lint" ∷ words) given (gives, some) in
    let P : Option Word → Type 0 = λ o. IsWorkers o workers in
    let Q : Option Word → Type 0 = λ o. IsFormat o json in
    record { taken = taken (codes "lint") words given (gives, some); workers = workers; are_workers = subst P (sym m.workers) are; json = json; is_format = subst Q (sym m.format) is }
found_lint (gen i) first = absurd cc

-- words that clap takes, with values that are a number and a format
pub made_lint : {Z : Type 0} (ss : List (String Z)) → FirstIs (codes "lint") (texts_of ss) → fault_of lint_app (texts_of ss) ≡ [] → (given : LintArguments) →
    given.workers ≡ first_value lint_app (codes "workers") (texts_of ss) → given.format ≡ first_value lint_app (codes "format") (texts_of ss) →
    given.labels ≡ says_true (first_value lint_app (codes "labels") (texts_of ss)) → given.files ≡ unwrap_or (all_values lint_app (codes "files") (texts_of ss)) [] →
    {workers : ℕ} {json : Bool} → IsWorkers given.workers workers → IsFormat given.format json → Asks (texts_of ss) (Lint workers json given.labels given.files)
made_lint ss first e given w f l fs {workers} {json} are is =
    let rest = drop 1 (texts_of ss) in
    let (c, whole, m) = taken_gives ss e in
    let P : Option Word → Type 0 = λ x. Whole rest (record { workers = x; format = c.format; labels = c.labels; files = c.files }) in
    let Q : Option Word → Type 0 = λ x. Whole rest (record { workers = given.workers; format = x; labels = c.labels; files = c.files }) in
    let S : Bool → Type 0 = λ x. Whole rest (record { workers = given.workers; format = given.format; labels = x; files = c.files }) in
    let T : List Word → Type 0 = λ x. Whole rest (record { workers = given.workers; format = given.format; labels = given.labels; files = x }) in
    let all : Whole rest given = subst T (sym (fs ∙ ap (λ (o : Option (List Word)). unwrap_or o []) m.files)) (subst S (sym (l ∙ m.labels)) (subst Q (sym (f ∙ m.format)) (subst P (sym (w ∙ m.workers)) whole))) in
    let A : List Word → Type 0 = λ ws. Asks ws (Lint workers json given.labels given.files) in
    subst A (sym (whole_list (texts_of ss) (codes "lint") first)) (lint all.0 all.1 are is)

-- ---- gen

-- what clap finds in words that ask for something
pub record FoundGen (words : List Word) : Type 0 where
  pub two : length words ≡ 2
  pub taken : fault_of gen_app words ≡ []
  pub word : Word
  pub found : first_value gen_app (codes "n") words ≡ Some word
  pub n : ℕ
  pub is_number : IsDecimal 4000 word n

pub found_gen : {words : List Word} {options : Options} → Asks words options → FirstIs (codes "gen") words → FoundGen words
found_gen (lint gives some are is) first = absurd cc
found_gen (gen {word} {n} i) first =
    let plain = plain_of word (number_operand (omega arith) i) in
    record { two = refl; taken = operand_taken (codes "gen") word plain; word = word; found = operand_found (codes "gen") word plain; n = n; is_number = i }

-- two words that clap takes, of which the value is a number
pub made_gen : {Z : Type 0} (ss : List (String Z)) → FirstIs (codes "gen") (texts_of ss) → length ss ≡ 2 → fault_of gen_app (texts_of ss) ≡ [] →
    {word : Word} {n : ℕ} → Some word ≡ first_value gen_app (codes "n") (texts_of ss) → IsDecimal 4000 word n → Asks (texts_of ss) (Gen n)
made_gen [] first two e found i = absurd (omega (arith, two))
made_gen (s ∷ []) first two e found i = absurd (omega (arith, two))
made_gen (s ∷ t ∷ []) first two e {word} {n} found i =
    let plain = plain_of (string_bytes t) (taken_operand (string_bytes s) (string_bytes t) (IsUtf8-had _ t.ok) e) in
    let is : word ≡ string_bytes t = same_Some _ _ (found ∙ operand_found (string_bytes s) (string_bytes t) plain) in
    let A : Word → Type 0 = λ w. Asks (w ∷ string_bytes t ∷ []) (Gen n) in
    let B : Word → Type 0 = λ w. IsDecimal 4000 w n in
    subst A (sym (same_Some _ _ first)) (gen (subst B is i))
made_gen (s ∷ t ∷ v ∷ more) first two e found i = absurd (omega (arith, two))

-- ---- one reading

one_workers : (o : Option Word) {m n : ℕ} → IsWorkers o m → IsWorkers o n → m ≡ n
one_workers None i j = i ∙ sym j
one_workers (Some w) i j = one_number (omega arith) i j

json_text : codes "json" ≢ codes "text"
json_text e = let bad : 106 ≡ 116 = ap (λ (w : Word). get_or w 0 0) e in absurd (omega (arith, bad))

one_format : (o : Option Word) (a b : Bool) → IsFormat o a → IsFormat o b → a ≡ b
one_format None a b i j = i ∙ sym j
one_format (Some w) true b i j = go b j
  where
    go : (b : Bool) → IsFormat (Some w) b → true ≡ b
    go true j = refl
    go false j = absurd (json_text (sym i ∙ j))
one_format (Some w) false b i j = go b j
  where
    go : (b : Bool) → IsFormat (Some w) b → false ≡ b
    go true j = absurd (json_text (sym j ∙ i))
    go false j = refl

same_lint : {m n : ℕ} {a b c d : Bool} {fs gs : List Word} → m ≡ n → a ≡ b → c ≡ d → fs ≡ gs → Lint m a c fs ≡ Lint n b d gs
same_lint p q r s = rw (p, q, r, s) refl

pub one_reading : {words others : List Word} {a b : Options} → Asks words a → Asks others b → words ≡ others → a ≡ b
one_reading (lint {words} {given} {workers} {json} gives some are is) (lint {words = words'} {given = given'} {workers = workers'} {json = json'} gives' some' are' is') e =
    let m = means (codes "lint" ∷ words) given (gives, some) in
    let A : List Word → Type 0 = λ ws. Whole ws given' in
    let m' = means (codes "lint" ∷ words) given' (subst A (sym (ap (drop 1) e)) (gives', some')) in
    let P : Option Word → Type 0 = λ o. IsWorkers o workers' in
    let Q : Option Word → Type 0 = λ o. IsFormat o json' in
    same_lint (one_workers given.workers are (subst P (sym m'.workers ∙ m.workers) are')) (one_format given.format json json' is (subst Q (sym m'.format ∙ m.format) is'))
    (sym m.labels ∙ m'.labels) (same_Some _ _ (sym m.files ∙ m'.files))
one_reading (lint gives some are is) (gen i) e = absurd cc
one_reading (gen i) (lint gives some are is) e = absurd cc
one_reading (gen {word} {n} i) (gen {word = word'} {n = n'} i') e =
    let same : word ≡ word' = same_Some _ _ (ap (λ (ws : List Word). slice_get ws 1) e) in
    let B : Word → Type 0 = λ w. IsDecimal 4000 w n' in
    ap Gen (one_number (omega arith) i (subst B (sym same) i'))
