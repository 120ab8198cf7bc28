-- The generated file is short.
use Rattle.std.proofs.Common.{◌≡◌, ◌≤◌, ◌<◌, ℕ, zero, suc, ◌+◌, ◌*◌, ◌/◌, ◌%◌, ◌==◌, Bool, true, false, List, [], ◌∷◌, ◌++◌, length, if◌then◌else◌, refl, subst, sym, ◌∙◌, ap, arith, decimal, codes, length-append, ◌-◌}
use Rattle.std.proofs.lemmas.Fmt.{length-decimal-le}
use Rattle.std.proofs.lemmas.List.Sums.{sum_by-cons}
use Rattle.lf_checks.specs.Files.{File}
use Rattle.lf_words.specs.Grammar.{Asks, gen, lint}
use Rattle.lf_words.specs.declared.options.Options.{Options}
use Rattle.lf_words.specs.declared.options.Options.TheVariants.{Gen}
use Rattle.lf_lint.specs.Read.{AreShort}
use Rattle.lf_gen.specs.Generated.{first_lines, generated, group_lines, head_lines, kind_lines, second_lines, third_lines}
use Rattle.lf_base.specs.Lines.{lines_text}
use Rattle.lf_base.specs.Names.{Bytes}
use Rattle.lf_gen.proofs.RuleLaws.{generated_more}

few_digits : (n : ℕ) → n < 4000 → length (decimal n) ≤ 4
few_digits n less = length-decimal-le 4 n (omega arith) (omega (arith, less)) (omega (arith, less))

one_line : (line : Bytes) (lines : List Bytes) → length (lines_text (line ∷ lines)) ≡ length line + (1 + length (lines_text lines))
one_line line lines = length-append (line ++ 10 ∷ []) (lines_text lines) ∙ omega (arith, length-append line (10 ∷ []))

-- a line with a number in it
with_number : (front digits back : Bytes) → length digits ≤ 4 → length front + length back ≤ 76 → length (front ++ digits ++ back) ≤ 80
with_number front digits back few fits = omega (arith, few, fits, length-append (front ++ digits) back, length-append front digits)

-- and with one at its end
behind : (front digits : Bytes) → length digits ≤ 4 → length front ≤ 76 → length (front ++ digits) ≤ 80
behind front digits few fits = omega (arith, few, fits, length-append front digits)

-- and with two
with_two : (front digits middle other : Bytes) → length digits ≤ 4 → length other ≤ 4 → length front + length middle ≤ 72 → length (front ++ digits ++ middle ++ other) ≤ 80
with_two front digits middle other few least fits = omega (arith, few, least, fits, length-append (front ++ digits ++ middle) other, length-append (front ++ digits) middle, length-append front digits)

two_lines : (a b : Bytes) → length a ≤ 80 → length b ≤ 80 → length (lines_text (a ∷ b ∷ [])) ≤ 170
two_lines a b h k = omega (arith, h, k, one_line a (b ∷ []), one_line b [])

four_lines : (a b c d : Bytes) → length a ≤ 80 → length b ≤ 80 → length c ≤ 80 → length d ≤ 80 → length (lines_text (a ∷ b ∷ c ∷ d ∷ [])) ≤ 340
four_lines a b c d h k l m = omega (arith, h, k, one_line a (b ∷ c ∷ d ∷ []), one_line b (c ∷ d ∷ []), two_lines c d l m)

kind_size : (k r : ℕ) → r < 4000 → length (lines_text (kind_lines k r)) ≤ 340
kind_size zero r less =
    let d = few_digits r less in
    let both : length (lines_text (first_lines r)) ≤ 170 = two_lines (codes "  - record: gen:" ++ decimal r ++ codes ":a") (codes "    expr: sum by (job, shard) (m_" ++ decimal r ++ codes "{env=\"p\"})") (with_number (codes "  - record: gen:") (decimal r) (codes ":a") d (omega arith)) (with_number (codes "    expr: sum by (job, shard) (m_") (decimal r) (codes "{env=\"p\"})") d (omega arith)) in
    omega (arith, both)
kind_size (suc zero) r less =
    let d = few_digits r less in
    let e = few_digits (r - 1) (omega (arith, less)) in
    let both : length (lines_text (second_lines r)) ≤ 170 = two_lines (codes "  - record: gen:" ++ decimal r ++ codes ":b") (codes "    expr: sum without (shard) (gen:" ++ decimal (r - 1) ++ codes ":a)") (with_number (codes "  - record: gen:") (decimal r) (codes ":b") d (omega arith)) (with_number (codes "    expr: sum without (shard) (gen:") (decimal (r - 1)) (codes ":a)") e (omega arith)) in
    omega (arith, both)
kind_size (suc (suc zero)) r less =
    let d = few_digits r less in
    let e = few_digits (r - 1) (omega (arith, less)) in
    let both : length (lines_text (third_lines r)) ≤ 170 = two_lines (codes "  - record: gen:" ++ decimal r ++ codes ":c") (codes "    expr: gen:" ++ decimal (r - 1) ++ codes ":b / on (job) m_" ++ decimal r) (with_number (codes "  - record: gen:") (decimal r) (codes ":c") d (omega arith)) (with_two (codes "    expr: gen:") (decimal (r - 1)) (codes ":b / on (job) m_") (decimal r) e d (omega arith)) in
    omega (arith, both)
kind_size (suc (suc (suc k))) r less =
    let d = few_digits r less in
    let e = few_digits (r - 1) (omega (arith, less)) in
    let line : length (codes "    annotations:") ≤ 80 = omega arith in
    let last : length (codes "      summary: \"{{ $labels.job }} of {{ $labels.shard }}\"") ≤ 80 = omega arith in
    four_lines (codes "  - alert: Gen" ++ decimal r) (codes "    expr: gen:" ++ decimal (r - 1) ++ codes ":c > 0.5") (codes "    annotations:") (codes "      summary: \"{{ $labels.job }} of {{ $labels.shard }}\"") (behind (codes "  - alert: Gen") (decimal r) d (omega arith)) (with_number (codes "    expr: gen:") (decimal (r - 1)) (codes ":c > 0.5") e (omega arith)) line last

head_size : (r : ℕ) → r < 4000 → length (lines_text (head_lines r)) ≤ 60
head_size r less = by (r % 100 == 0)
  where
    by : (b : Bool) → length (lines_text (if b then group_lines (r / 100) else [])) ≤ 60
    by false = omega arith
    by true =
        let d = few_digits (r / 100) (omega (arith, less)) in
        let first = length-append (codes "- name: g") (decimal (r / 100)) in
        omega (arith, d, first, one_line (codes "- name: g" ++ decimal (r / 100)) (codes "  rules:" ∷ []), one_line (codes "  rules:") [])

pub few_bytes : (n : ℕ) → n ≤ 4000 → length (generated n) ≤ 400 * n + 8
few_bytes zero most = omega arith
few_bytes (suc n) most =
    let before = few_bytes n (omega (arith, most)) in
    let on : n + 1 ≡ suc n = omega arith in
    let whole = sym (ap length (generated_more n)) ∙ length-append (generated n ++ lines_text (head_lines n)) (lines_text (kind_lines (n % 4) n)) in
    let parts = length-append (generated n) (lines_text (head_lines n)) in
    let same = ap (λ k. length (generated k)) on in
    omega (arith, before, whole, parts, same, head_size n (omega (arith, most)), kind_size (n % 4) n (omega (arith, most)))

-- only so many rules are generated
asked_within : {words : List Bytes} {options : Options} → Asks words options → (n : ℕ) → options ≡ Gen n → (1 ≤ n) × (n ≤ 4000)
asked_within (lint gives some are is) n e = absurd cc
asked_within (gen {n = m} is) n e = (let same : m ≡ n = cc in (omega (arith, same, is.least), omega (arith, same, is.most)))

pub gen_within : (words : List Bytes) (n : ℕ) → Asks words (Gen n) → (1 ≤ n) × (n ≤ 4000)
gen_within words n asks = asked_within asks n refl

-- the generated file passes no limit
pub gen_short : (n : ℕ) (file : File) → n ≤ 4000 → file.bytes ≡ generated n → AreShort (file ∷ [])
gen_short n file most is =
    let few : length file.bytes ≤ 400 * n + 8 = subst (λ (b : Bytes). length b ≤ 400 * n + 8) (sym is) (few_bytes n most) in
    record { each = (omega (arith, few, most), tt); together = omega (arith, few, most, sum_by-cons (λ (f : File). length f.bytes) file []) }
