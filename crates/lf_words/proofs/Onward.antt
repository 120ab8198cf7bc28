-- What words give, word by word.
use Rattle.std.proofs.Common.{◌≡◌, ◌≢◌, ◌↔◌, ℕ, Bool, true, false, List, [], ◌∷◌, ◌++◌, Option, None, Some, is_some, length, get_or, drop, String, string_bytes, codes, IfSome, refl, sym, ◌∙◌, ap, subst, inl, inr, arith, true≢false}
use Rattle.lf_words.specs.Lint.{Word, LintArguments, GivesArguments, Workers, Format, Valued, nothing, option_word, value_of, with_value, with_labels, with_files, IsOperand, no_more, dashes, file, value_next, value_joined}
use Rattle.lf_words.specs.Lint as grammar
use Rattle.lf_words.specs.views.Asking.{begun, Keeps, Leads, Stands, Lints}
use Rattle.lf_words.specs.declared.seen.SeenWords.{SeenWords}
use Rattle.lf_words.specs.declared.seen.Next.{Next}
use Rattle.lf_words.specs.declared.seen.Next.TheVariants.{Any, Value, File}
use Rattle.lf_words.specs.declared.word_kind.Valued.{Valued as Awaited}
use Rattle.lf_words.specs.declared.word_kind.Valued.TheVariants as awaited
use Rattle.lf_words.specs.Grammar.{IsDecimal, IsWorkers, IsFormat, Asks, lint, gen}
use Rattle.lf_words.specs.views.Commands.{texts_of}
use Rattle.lf_words.specs.declared.options.Options.{Options}
use Rattle.lf_words.specs.declared.options.Options.TheVariants.{Lint, Gen}
use Rattle.lf_words.proofs.Inversion.{split}

-- two lists of words give the same
abbrev pub Same : LintArguments → List Word → LintArguments → List Word → Type 0
Same given words more others = (last : LintArguments) → GivesArguments given words last ↔ GivesArguments more others last

pub same_labels : (given : LintArguments) (word : Word) (words : List Word) → word ≡ codes "--labels" → given.labels ≡ false → Same given (word ∷ words) (with_labels given) words
same_labels given word words e n = let P : Word → Type 0 = λ w. Same given (w ∷ words) (with_labels given) words in
    subst P (sym e) (λ last. ((λ d. (split d).1), (λ d. grammar.labels n d)))

pub same_joined : (option : Valued) (given : LintArguments) (word value : Word) (words : List Word) → word ≡ option_word option ++ codes "=" ++ value → value_of option given ≡ None →
    Same given (word ∷ words) (with_value option value given) words
same_joined option given word value words e n = let P : Word → Type 0 = λ w. Same given (w ∷ words) (with_value option value given) words in subst P (sym e) (go option n)
  where
    go : (k : Valued) → value_of k given ≡ None → Same given ((option_word k ++ codes "=" ++ value) ∷ words) (with_value k value given) words
    go Workers n = λ last. ((λ d. (split d).1), (λ d. value_joined Workers value n d))
    go Format n = λ last. ((λ d. (split d).1), (λ d. value_joined Format value n d))

pub same_next : (option : Valued) (given : LintArguments) (value : Word) (words : List Word) → IsOperand value → value_of option given ≡ None →
    Same given (option_word option ∷ value ∷ words) (with_value option value given) words
same_next Workers given value words o n = λ last. ((λ d. (split d).2), (λ d. value_next Workers n o d))
same_next Format given value words o n = λ last. ((λ d. (split d).2), (λ d. value_next Format n o d))

hyphens : {word : Word} → IsOperand (45 ∷ 45 ∷ word) → ⊥
hyphens (inl e) = absurd (true≢false e)
hyphens (inr e) = absurd cc

given_file : {given last : LintArguments} {word : Word} {words : List Word} → IsOperand word → GivesArguments given (word ∷ words) last → GivesArguments (with_files (word ∷ []) given) words last
given_file o dashes = absurd (hyphens o)
given_file o (grammar.labels n d) = absurd (hyphens o)
given_file o (value_next Workers n v d) = absurd (hyphens o)
given_file o (value_next Format n v d) = absurd (hyphens o)
given_file o (value_joined Workers v n d) = absurd (hyphens o)
given_file o (value_joined Format v n d) = absurd (hyphens o)
given_file o (file also d) = d

pub same_file : (given : LintArguments) (word : Word) (words : List Word) → IsOperand word → Same given (word ∷ words) (with_files (word ∷ []) given) words
same_file given word words o = λ last. ((λ d. given_file o d), (λ d. file o d))

append_more : (files : List Word) (word : Word) (words : List Word) → files ++ word ∷ words ≡ (files ++ word ∷ []) ++ words
append_more [] word words = refl
append_more (f ∷ files) word words = ap (λ (l : List Word). f ∷ l) (append_more files word words)

pub same_dashes : (given : LintArguments) (word : Word) (words : List Word) → Same given (codes "--" ∷ word ∷ words) (with_files (word ∷ []) given) (codes "--" ∷ words)
same_dashes given word words =
    let e : with_files (word ∷ words) given ≡ with_files words (with_files (word ∷ []) given) = ap (λ (l : List Word). record given { files = l }) (append_more given.files word words) in
    let P : LintArguments → Type 0 = λ l. GivesArguments (with_files (word ∷ []) given) (codes "--" ∷ words) l in
    let Q : LintArguments → Type 0 = λ l. GivesArguments given (codes "--" ∷ word ∷ words) l in
    λ last. ((λ d. subst P (sym (split d ∙ e)) dashes), (λ d. subst Q (sym (split d ∙ sym e)) dashes))

nil_append : (files : List Word) → files ++ [] ≡ [] → files ≡ []
nil_append [] e = refl
nil_append (f ∷ files) e = absurd cc

-- what is kept
pub keeps_file : {seen : SeenWords} {given : LintArguments} (word : Word) → Keeps seen given → Keeps (record seen { file = true }) (with_files (word ∷ []) given)
keeps_file {given} word k = record { workers = k.workers; format = k.format; labels = k.labels; file = some given.files }
  where
    some : (files : List Word) → files ++ word ∷ [] ≢ []
    some [] e = absurd cc
    some (f ∷ files) e = absurd cc

pub keeps_labels : {seen : SeenWords} {given : LintArguments} → Keeps seen given → Keeps (record seen { labels = true }) (with_labels given)
keeps_labels k = record { workers = k.workers; format = k.format; labels = refl; file = k.file }

-- a value that is kept, if it is given once
pub value_leads : (seen : SeenWords) (option : Valued) (value word : Word) (r : Option SeenWords) → IfSome r (λ later. (given : LintArguments) → Keeps seen given → value_of option given ≡ None) →
    IfSome r (λ later. (given : LintArguments) → Keeps seen given → Keeps later (with_value option value given)) → IfSome r (λ later. later.next ≡ Any) →
    ((given : LintArguments) (words : List Word) → value_of option given ≡ None → Same given (begun seen.next (word ∷ words)) (with_value option value given) words) →
    IfSome r (λ later. (words : List Word) → Leads seen (word ∷ words) later words)
value_leads seen option value word None once kept next same = once
value_leads seen option value word (Some later) once kept next same = λ words given k.
    let more = with_value option value given in
    let P : Next → Type 0 = λ n. Same given (begun seen.next (word ∷ words)) more (begun n words) in
    (more, kept given k, subst P (sym next) (same given words (once given k)))

-- one word more
pub stands_on : {words left others : List Word} {seen later : SeenWords} {word : Word} → left ≡ word ∷ others → Stands words seen left → Leads seen (word ∷ others) later others → Stands words later others
stands_on {words} {seen} e (given, k, same) lead =
    let P : List Word → Type 0 = λ ws. Same nothing words given (begun seen.next ws) in
    let (more, kept, next) = lead given k in
    let now = subst P e same in
    (more, kept, λ last. ((λ d. (next last).0 ((now last).0 d)), (λ d. (now last).1 ((next last).1 d))))

pub stops : {words left others : List Word} {seen : SeenWords} {word : Word} → left ≡ word ∷ others → Stands words seen left →
    ((given last : LintArguments) → Keeps seen given → GivesArguments given (begun seen.next (word ∷ others)) last → ⊥) → (last : LintArguments) → GivesArguments nothing words last → ⊥
stops {words} {seen} e (given, k, same) none last d =
    let P : List Word → Type 0 = λ ws. Same nothing words given (begun seen.next ws) in
    none given last k ((subst P e same last).0 d)

-- ---- the end

-- where no value is awaited, what was given asks for a report
pub whole : {seen : SeenWords} {given : LintArguments} (workers : ℕ) (json : Bool) → ((option : Awaited) → seen.next ≢ Value option) → Keeps seen given → given.files ≢ [] → IsWorkers given.workers workers →
    IsFormat given.format json → Lints given (begun seen.next [])
whole {seen} {given} workers json ends k some are is = go seen.next ends
  where
    go : (next : Next) → ((option : Awaited) → next ≢ Value option) → Lints given (begun next [])
    go Any ends = record { last = given; gives = no_more; some = some; workers = workers; are_workers = are; json = json; is_format = is }
    go (Value option) ends = absurd (ends option refl)
    go File ends = record { last = with_files [] given; gives = dashes; some = λ e. some (nil_append given.files e); workers = workers; are_workers = are; json = json; is_format = is }

-- without a file nothing is asked for
pub no_file : (seen : SeenWords) {given : LintArguments} → given.files ≡ [] → Lints given (begun seen.next []) → ⊥
no_file seen {given} none = go seen.next
  where
    go : (next : Next) → Lints given (begun next []) → ⊥
    go Any l = l.some (ap (λ (g : LintArguments). g.files) (split l.gives) ∙ none)
    go (Value awaited.Workers) l = split l.gives
    go (Value awaited.Format) l = split l.gives
    go File l = l.some (ap (λ (g : LintArguments). g.files) (split l.gives) ∙ ap (λ (fs : List Word). fs ++ []) none)

-- ---- what is asked for

pub asks_lint : {words : List Word} {seen : SeenWords} → Stands words seen [] → ((given : LintArguments) → Keeps seen given → Lints given (begun seen.next [])) →
    (options : Options) × Asks (codes "lint" ∷ words) options
asks_lint (given, k, same) asks =
    let l = asks given k in
    (Lint l.workers l.json l.last.labels l.last.files, lint ((same l.last).1 l.gives) l.some l.are_workers l.is_format)

of_lint : {words all : List Word} {options : Options} → all ≡ codes "lint" ∷ words → Asks all options → Lints nothing words
of_lint {words} e (lint {given} {workers} {json} gives some are is) =
    let P : List Word → Type 0 = λ ws. GivesArguments nothing ws given in
    record { last = given; gives = subst P (ap (drop 1) e) gives; some = some; workers = workers; are_workers = are; json = json; is_format = is }
of_lint e (gen i) = absurd cc

pub not_lint : {words : List Word} {seen : SeenWords} → Stands words seen [] → ((given : LintArguments) → Keeps seen given → Lints given (begun seen.next []) → ⊥) →
    (options : Options) → Asks (codes "lint" ∷ words) options → ⊥
not_lint (given, k, same) none options asks =
    let l = of_lint refl asks in
    none given k (record { last = l.last; gives = (same l.last).0 l.gives; some = l.some; workers = l.workers; are_workers = l.are_workers; json = l.json; is_format = l.is_format })

pub asks_gen : {Z : Type 0} (words : List (String Z)) (size : String Z) (r : Option ℕ) → length words ≡ 1 → get_or words 0 size ≡ size → IfSome r (IsDecimal 4000 (string_bytes size)) → is_some r ≡ true →
    (options : Options) × Asks (codes "gen" ∷ texts_of words) options
asks_gen [] size r one is number some = absurd cc
asks_gen (s ∷ []) size None one is number some = absurd cc
asks_gen (s ∷ []) size (Some n) one is number some =
    let P : Word → Type 0 = λ w. IsDecimal 4000 w n in
    (Gen n, gen (subst P (ap string_bytes (sym is)) number))
asks_gen (s ∷ t ∷ more) size r one is number some = absurd (omega (arith, one))
