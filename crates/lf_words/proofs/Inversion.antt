-- What words give, by their first word.
use Rattle.std.proofs.Common.{◌≡◌, ℕ, Bool, true, false, List, [], ◌∷◌, ◌++◌, None, codes, refl, sym, subst, inl, inr, ◌==◌, length, drop, true≢false}
use Rattle.std.specs.Bool.{nat_eq, MatchBool}
use Rattle.std.specs.Str.{bytes_eq}
use Rattle.std.specs.List.{starts_with}
use Rattle.std.proofs.lemmas.Bool.{cases_Bool, eqb-true}
use Rattle.lf_words.specs.Lint.{Word, LintArguments, GivesArguments, Valued, Workers, Format, option_word, value_of, with_value, with_labels, with_files, IsOperand, no_more, dashes, file, value_next, value_joined}
use Rattle.lf_words.specs.Lint as grammar

abbrev pub After : Valued → LintArguments → List Word → LintArguments → Type 0
After option given [] last = ⊥
After option given (value ∷ words) last = (value_of option given ≡ None) × IsOperand value × GivesArguments (with_value option value given) words last

abbrev pub Joined : Valued → LintArguments → Word → List Word → LintArguments → Type 0
Joined option given value words last = (value_of option given ≡ None) × GivesArguments (with_value option value given) words last

abbrev pub joins : Valued → Word → Bool
joins option word = starts_with nat_eq word (option_word option ++ codes "=")

abbrev pub joined : Valued → Word → Word
joined option word = drop (length (option_word option ++ codes "=")) word

abbrev pub ByFirst : LintArguments → Word → List Word → LintArguments → Type 0
ByFirst given word words last =
    MatchBool (bytes_eq word (codes "--")) (last ≡ with_files words given)
    (MatchBool (bytes_eq word (codes "--labels")) ((given.labels ≡ false) × GivesArguments (with_labels given) words last)
    (MatchBool (bytes_eq word (codes "--workers")) (After Workers given words last)
    (MatchBool (bytes_eq word (codes "--format")) (After Format given words last)
    (MatchBool (joins Workers word) (Joined Workers given (joined Workers word) words last)
    (MatchBool (joins Format word) (Joined Format given (joined Format word) words last)
    (IsOperand word × GivesArguments (with_files (word ∷ []) given) words last))))))

abbrev pub Split : LintArguments → List Word → LintArguments → Type 0
Split given [] last = last ≡ given
Split given (word ∷ words) last = ByFirst given word words last

operand_first : (given last : LintArguments) (word : Word) (words : List Word) → IsOperand word → GivesArguments (with_files (word ∷ []) given) words last → ByFirst given word words last
operand_first given last word words (inr e) d =
    let P : Word → Type 0 = λ w. GivesArguments (with_files (w ∷ []) given) words last in
    let Q : Word → Type 0 = λ w. ByFirst given w words last in
    subst Q (sym e) (inr refl, subst P e d)
operand_first given last [] words (inl e) d = (inl refl, d)
operand_first given last (x ∷ xs) words (inl e) d = elim (cases_Bool (45 == x)) [
  | inl t ↦ let P : ℕ → Type 0 = λ c. starts_with nat_eq (c ∷ xs) (codes "-") ≡ false in let bad : true ≡ false = subst P (sym (eqb-true 45 x t)) e in absurd (true≢false bad)
  | inr f ↦ let g : (x == 45) ≡ false = other f in rw (f, g) (inl refl, d)
]
  where
    other : (45 == x) ≡ false → (x == 45) ≡ false
    other f = elim (cases_Bool (x == 45)) [
      | inl t ↦ let P : ℕ → Type 0 = λ c. (45 == c) ≡ false in let bad : true ≡ false = subst P (eqb-true x 45 t) f in absurd (true≢false bad)
      | inr g ↦ g
    ]

pub split : {given last : LintArguments} {words : List Word} → GivesArguments given words last → Split given words last
split no_more = refl
split dashes = refl
split (grammar.labels n d) = (n, d)
split (value_next Workers n o d) = (n, o, d)
split (value_next Format n o d) = (n, o, d)
split (value_joined Workers v n d) = (n, d)
split (value_joined Format v n d) = (n, d)
split (file {given} {last} {file = word} {words} o d) = operand_first given last word words o d
