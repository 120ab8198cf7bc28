-- Worked words: what they ask for, and which ask for nothing.
use Rattle.std.proofs.Common.{◌≡◌, ◌≢◌, ◌≤◌, ◌<◌, ◌^◌, ◌==◌, ℕ, Bool, true, false, List, [], ◌∷◌, Option, Some, length, slice_get, codes, refl, ap, ◌∙◌, sym, subst, inl, inr, arith, true≢false}
use Rattle.std.specs.Prelude.{decimal}
use Rattle.std.specs.Fmt.{digits}
use Rattle.std.specs.Bool.{nat_eq}
use Rattle.std.specs.List.{starts_with}
use Rattle.std.proofs.lemmas.Option.{same_Some}
use Rattle.std.proofs.lemmas.Fmt.{decimal_injective}
use Rattle.clap.specs.Words.{fault_of}
use Rattle.clap.proofs.OnLiterals.{clap_on_literals}
use Rattle.lf_words.specs.Lint.{Word, Workers, Format, no_more, dashes, labels, value_next, value_joined, file}
use Rattle.lf_words.specs.Grammar.{IsDecimal, IsWorkers, Asks, lint, gen}
use Rattle.lf_words.specs.declared.options.Options.{Options}
use Rattle.lf_words.specs.declared.options.Options.TheVariants.{Lint, Gen}
use Rattle.lf_words.specs.views.Commands.{lint_app, first_value}
use Rattle.lf_words.proofs.Asked.{found_lint, found_gen}
use Rattle.lf_words.proofs.Numbers.{number_begins}

-- ---- words that ask for something

some : {x : Word} {xs : List Word} → x ∷ xs ≢ []
some e = absurd cc

written_4000 : codes "4000" ≡ decimal 4000
unfolding digits
written_4000 = refl

written_64 : codes "64" ≡ decimal 64
unfolding digits
written_64 = refl

-- lint f
one_file : Asks (codes "lint" ∷ codes "f" ∷ []) (Lint 1 false false (codes "f" ∷ []))
one_file = lint (file (inl refl) no_more) some refl refl

-- lint f --format=json -- -x
behind_dashes : Asks (codes "lint" ∷ codes "f" ∷ codes "--format=json" ∷ codes "--" ∷ codes "-x" ∷ []) (Lint 1 true false (codes "f" ∷ codes "-x" ∷ []))
behind_dashes = lint (file (inl refl) (value_joined Format (codes "json") refl dashes)) some refl refl

-- lint f --labels
labels_behind_a_file : Asks (codes "lint" ∷ codes "f" ∷ codes "--labels" ∷ []) (Lint 1 false true (codes "f" ∷ []))
labels_behind_a_file = lint (file (inl refl) (labels refl no_more)) some refl refl

-- lint -
dash_is_a_file : Asks (codes "lint" ∷ codes "-" ∷ []) (Lint 1 false false (codes "-" ∷ []))
dash_is_a_file = lint (file (inr refl) no_more) some refl refl

-- lint --workers 64 --format text f g
all_given : Asks (codes "lint" ∷ codes "--workers" ∷ codes "64" ∷ codes "--format" ∷ codes "text" ∷ codes "f" ∷ codes "g" ∷ []) (Lint 64 false false (codes "f" ∷ codes "g" ∷ []))
all_given = lint (value_next Workers refl (inl refl) (value_next Format refl (inl refl) (file (inl refl) (file (inl refl) no_more)))) some
    (record { least = omega arith; most = omega arith; written = written_64 }) refl

-- lint -- -- --labels
dashes_are_files_behind_dashes : Asks (codes "lint" ∷ codes "--" ∷ codes "--" ∷ codes "--labels" ∷ []) (Lint 1 false false (codes "--" ∷ codes "--labels" ∷ []))
dashes_are_files_behind_dashes = lint dashes some refl refl

-- gen 4000
most_generated : Asks (codes "gen" ∷ codes "4000" ∷ []) (Gen 4000)
most_generated = gen (record { least = omega arith; most = omega arith; written = written_4000 })

-- ---- words that ask for nothing

abbrev Nothing : List Word → Type 0
Nothing words = (options : Options) → Asks words options → ⊥

no_word : Nothing []
no_word options asks = go asks refl
  where
    go : {words : List Word} {any : Options} → Asks words any → words ≡ [] → ⊥
    go (lint gives some are is) e = absurd cc
    go (gen i) e = absurd cc

abbrev passes : List Word → Bool
passes words = length (fault_of lint_app (codes "lint" ∷ words)) == 0

outside : (words : List Word) → passes words ≡ false → Nothing (codes "lint" ∷ words)
outside words f options asks =
    let taken = (found_lint asks refl).taken in
    let P : List _ → Type 0 = λ l. (length l == 0) ≡ false in let bad : true ≡ false = subst P taken f in absurd (true≢false bad)

no_file : Nothing (codes "lint" ∷ [])
unfolding clap_on_literals
no_file = outside [] refl

labels_twice : Nothing (codes "lint" ∷ codes "--labels" ∷ codes "--labels" ∷ codes "f" ∷ [])
unfolding clap_on_literals
labels_twice = outside (codes "--labels" ∷ codes "--labels" ∷ codes "f" ∷ []) refl

format_twice : Nothing (codes "lint" ∷ codes "--format=text" ∷ codes "f" ∷ codes "--format" ∷ codes "text" ∷ [])
unfolding clap_on_literals
format_twice = outside (codes "--format=text" ∷ codes "f" ∷ codes "--format" ∷ codes "text" ∷ []) refl

cut_short : Nothing (codes "lint" ∷ codes "--label" ∷ codes "f" ∷ [])
unfolding clap_on_literals
cut_short = outside (codes "--label" ∷ codes "f" ∷ []) refl

labels_with_a_value : Nothing (codes "lint" ∷ codes "--labels=yes" ∷ codes "f" ∷ [])
unfolding clap_on_literals
labels_with_a_value = outside (codes "--labels=yes" ∷ codes "f" ∷ []) refl

help : Nothing (codes "lint" ∷ codes "--help" ∷ codes "f" ∷ [])
unfolding clap_on_literals
help = outside (codes "--help" ∷ codes "f" ∷ []) refl

option_for_a_value : Nothing (codes "lint" ∷ codes "--workers" ∷ codes "--labels" ∷ codes "f" ∷ [])
unfolding clap_on_literals
option_for_a_value = outside (codes "--workers" ∷ codes "--labels" ∷ codes "f" ∷ []) refl

dashes_for_a_value : Nothing (codes "lint" ∷ codes "--workers" ∷ codes "--" ∷ codes "f" ∷ [])
unfolding clap_on_literals
dashes_for_a_value = outside (codes "--workers" ∷ codes "--" ∷ codes "f" ∷ []) refl

no_value : Nothing (codes "lint" ∷ codes "f" ∷ codes "--workers" ∷ [])
unfolding clap_on_literals
no_value = outside (codes "f" ∷ codes "--workers" ∷ []) refl

-- a number doesn't begin with a sign or with 0
begins : (byte : ℕ) → byte ≤ 48 → {highest : ℕ} → highest < 2 ^ 32 → (word : Word) → starts_with nat_eq word (byte ∷ []) ≡ true → (n : ℕ) → IsDecimal highest word n → ⊥
begins byte low fits word t n i = absurd (true≢false (sym t ∙ number_begins fits i byte low))

no_workers : (words : List Word) (word : Word) → first_value lint_app (codes "workers") (codes "lint" ∷ words) ≡ Some word → ((n : ℕ) → IsDecimal 64 word n → ⊥) → Nothing (codes "lint" ∷ words)
no_workers words word is none options asks =
    let found = found_lint asks refl in
    let P : Option Word → Type 0 = λ o. IsWorkers o found.workers in none found.workers (subst P is found.are_workers)

workers_0 : Nothing (codes "lint" ∷ codes "--workers" ∷ codes "0" ∷ codes "f" ∷ [])
unfolding clap_on_literals
workers_0 = no_workers (codes "--workers" ∷ codes "0" ∷ codes "f" ∷ []) (codes "0") refl (begins 48 (omega arith) (omega arith) (codes "0") refl)

workers_05 : Nothing (codes "lint" ∷ codes "--workers=05" ∷ codes "f" ∷ [])
unfolding clap_on_literals
workers_05 = no_workers (codes "--workers=05" ∷ codes "f" ∷ []) (codes "05") refl (begins 48 (omega arith) (omega arith) (codes "05") refl)

workers_with_a_sign : Nothing (codes "lint" ∷ codes "--workers=+5" ∷ codes "f" ∷ [])
unfolding clap_on_literals
workers_with_a_sign = no_workers (codes "--workers=+5" ∷ codes "f" ∷ []) (codes "+5") refl (begins 43 (omega arith) (omega arith) (codes "+5") refl)

workers_below_0 : Nothing (codes "lint" ∷ codes "--workers=-3" ∷ codes "f" ∷ [])
unfolding clap_on_literals
workers_below_0 = no_workers (codes "--workers=-3" ∷ codes "f" ∷ []) (codes "-3") refl (begins 45 (omega arith) (omega arith) (codes "-3") refl)

dash_is_no_number : Nothing (codes "lint" ∷ codes "--workers" ∷ codes "-" ∷ codes "f" ∷ [])
unfolding clap_on_literals
dash_is_no_number = no_workers (codes "--workers" ∷ codes "-" ∷ codes "f" ∷ []) (codes "-") refl (begins 45 (omega arith) (omega arith) (codes "-") refl)

-- the word is this number, which is too high
too_high : {highest number : ℕ} → highest < number → number < 2 ^ 64 → (word : Word) → word ≡ decimal number → (n : ℕ) → IsDecimal highest word n → ⊥
too_high {highest} {number} above fits word is n i =
    let same : number ≡ n = decimal_injective number n fits (omega (arith, i.most)) (sym is ∙ i.written) in absurd (omega (arith, same, i.most))

written_65 : codes "65" ≡ decimal 65
unfolding digits
written_65 = refl

workers_65 : Nothing (codes "lint" ∷ codes "--workers=65" ∷ codes "f" ∷ [])
unfolding clap_on_literals
workers_65 = no_workers (codes "--workers=65" ∷ codes "f" ∷ []) (codes "65") refl (too_high (omega arith) (omega arith) (codes "65") written_65)

written_4001 : codes "4001" ≡ decimal 4001
unfolding digits
written_4001 = refl

no_size : (word : Word) → ((n : ℕ) → IsDecimal 4000 word n → ⊥) → Nothing (codes "gen" ∷ word ∷ [])
no_size word none options asks = go asks refl
  where
    go : {words : List Word} {any : Options} → Asks words any → words ≡ codes "gen" ∷ word ∷ [] → ⊥
    go (lint gives some are is) e = absurd cc
    go (gen {word = w} {n} i) e =
        let same : w ≡ word = same_Some _ _ (ap (λ (ws : List Word). slice_get ws 1) e) in
        let P : Word → Type 0 = λ x. IsDecimal 4000 x n in none n (subst P same i)

gen_0 : Nothing (codes "gen" ∷ codes "0" ∷ [])
gen_0 = no_size (codes "0") (begins 48 (omega arith) (omega arith) (codes "0") refl)

gen_07 : Nothing (codes "gen" ∷ codes "07" ∷ [])
gen_07 = no_size (codes "07") (begins 48 (omega arith) (omega arith) (codes "07") refl)

gen_4001 : Nothing (codes "gen" ∷ codes "4001" ∷ [])
gen_4001 = no_size (codes "4001") (too_high (omega arith) (omega arith) (codes "4001") written_4001)

gen_behind_dashes : Nothing (codes "gen" ∷ codes "--" ∷ codes "5" ∷ [])
gen_behind_dashes options asks = absurd (omega (arith, (found_gen asks refl).two))
