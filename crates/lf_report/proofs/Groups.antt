-- The numbers of the rules of each file, as a report's rules are gone through.
use Rattle.std.proofs.Common.{◌≡◌, ◌⊎◌, inl, inr, ℕ, zero, suc, ◌+◌, ◌<◌, ◌≤◌, ◌==◌, true, false, cond, List, [], ◌∷◌, ◌++◌, length, map, take, get_or, set, Some, refl, ap, sym, subst, ◌∙◌, arith, append-nil, length-append}
use Rattle.std.specs.Prelude.{slice_get, slice_index_or, slice_set}
use Rattle.std.proofs.lemmas.Bool.Decides.{nat_tests}
use Rattle.std.proofs.lemmas.List.{length-map, map-append, length-set, take_all, take_more}
use Rattle.std.proofs.lemmas.List.Elements.{filter_more}
use Rattle.std.proofs.lemmas.Option.{get_or_from_slice_get, slice_get-get_or, slice_get_within}
use Rattle.lf_report.specs.declared.report.FileReport.{FileReport}
use Rattle.lf_report.specs.declared.report.RuleReport.{RuleReport}
use Rattle.lf_report.specs.views.Lookups.{AreGroups, rules_among}
use Rattle.lf_report.proofs.Zips.{at_push}

eq_true : (a b : ℕ) → a ≡ b → a == b ≡ true
eq_true a b h = grind (arith, nat_tests)

eq_false : (a b : ℕ) → (a ≡ b → ⊥) → a == b ≡ false
eq_false a b h = grind (arith, nat_tests)

-- what stands in a list in which one element is replaced
set_at : {A : Type 0} (xs : List A) (i : ℕ) (y : A) (j : ℕ) (z : A) → i < length xs → slice_get (set xs i y) j ≡ Some z → ((j ≡ i) × (z ≡ y)) ⊎ ((j ≡ i → ⊥) × (slice_get xs j ≡ Some z))
set_at [] i y j z h e = absurd (omega arith)
set_at (x ∷ xs) zero y zero z h e = inl (refl, cc)
set_at (x ∷ xs) zero y (suc j) z h e = inr (λ q. omega (arith, q), e)
set_at (x ∷ xs) (suc i) y zero z h e = inr (λ q. omega (arith, q), e)
set_at (x ∷ xs) (suc i) y (suc j) z h e = elim (set_at xs i y j z (omega arith) e) [
  | inl here ↦ inl (ap (λ n. suc n) here.0, here.1)
  | inr there ↦ inr (λ q. there.0 (omega (arith, q)), there.1)
]

module _ (rules : List RuleReport) (k : ℕ) (rule : RuleReport) (inside : k < length rules) (is : rule ≡ get_or rules k rule) (file : ℕ) where
  among_step : (b : _) → rule.file == file ≡ b → rules_among (take (k + 1) rules) file ≡ rules_among (take k rules) file ++ cond b (rule ∷ []) []
  among_step b e =
      filter_more (λ (r : RuleReport). r.file == file) rules k rule inside
      ∙ ap (λ (r : RuleReport). rules_among (take k rules) file ++ cond (r.file == file) (r ∷ []) []) (sym is)
      ∙ ap (λ c. rules_among (take k rules) file ++ cond c (rule ∷ []) []) e

  numbers_more : (numbers : List ℕ) → rule.file ≡ file → map (slice_get rules) numbers ≡ map Some (rules_among (take k rules) file)
      → map (slice_get rules) (numbers ++ k ∷ []) ≡ map Some (rules_among (take (k + 1) rules) file)
  numbers_more numbers same before =
      map-append (slice_get rules) numbers (k ∷ []) ∙ ap (λ l. l ++ slice_get rules k ∷ []) before
      ∙ ap (λ o. map Some (rules_among (take k rules) file) ++ o ∷ []) (slice_get-get_or rules k rule inside ∙ ap Some (sym is))
      ∙ sym (ap (map Some) (among_step true (eq_true rule.file file same)) ∙ map-append Some (rules_among (take k rules) file) (rule ∷ []))

  numbers_same : (rule.file ≡ file → ⊥) → rules_among (take k rules) file ≡ rules_among (take (k + 1) rules) file
  numbers_same other = sym (among_step false (eq_false rule.file file other) ∙ append-nil (rules_among (take k rules) file))

pub groups_more : (files : List FileReport) (rules : List RuleReport) (k : ℕ) (rule : RuleReport) (old new : List (List ℕ)) → k < length rules → rule ≡ get_or rules k rule → rule.file < length old
    → AreGroups files rules (take k rules) old → new ≡ slice_set old rule.file (slice_index_or old rule.file [] ++ k ∷ []) → AreGroups files rules (take (k + 1) rules) new
groups_more files rules k rule old new inside is within before pushed =
    let here = get_or old rule.file [] in
    record {
      each_file = ap length pushed ∙ length-set old rule.file (here ++ k ∷ []) ∙ before.each_file;
      each_rule = λ file numbers e.
          elim (set_at old rule.file (here ++ k ∷ []) file numbers within (ap (λ l. slice_get l file) (sym pushed) ∙ e)) [
            | inl found ↦
                let at : slice_get old file ≡ Some here = ap (slice_get old) found.0 ∙ slice_get-get_or old rule.file [] within in
                ap (map (slice_get rules)) found.1 ∙ numbers_more rules k rule inside is file here (sym found.0) (before.each_rule file here at)
            | inr there ↦ before.each_rule file numbers there.1 ∙ ap (map Some) (numbers_same rules k rule inside is file (λ q. there.0 (sym q)))
          ];
    }

pub groups_push : (files : List FileReport) (file : FileReport) (rules : List RuleReport) (old new : List (List ℕ)) → AreGroups files rules [] old → new ≡ old ++ [] ∷ [] → AreGroups (files ++ file ∷ []) rules [] new
groups_push files file rules old new before pushed = record {
  each_file = ap length pushed ∙ length-append old ([] ∷ []) ∙ ap (λ n. n + 1) before.each_file ∙ sym (length-append files (file ∷ []));
  each_rule = λ f numbers e. elim (at_push old [] f numbers (ap (λ l. slice_get l f) (sym pushed) ∙ e)) [
    | inl there ↦ before.each_rule f numbers there
    | inr last ↦ ap (map (slice_get rules)) last.1
  ];
}

-- what stands at the number at a place
pub number_at : (rules some : List RuleReport) (numbers : List ℕ) (k n : ℕ) → map (slice_get rules) numbers ≡ map Some some → k < length numbers → n ≡ get_or numbers k n
    → (rule : RuleReport) × (slice_get rules n ≡ Some rule) × (slice_get some k ≡ Some rule)
number_at rules some [] k n e h is = absurd (omega arith)
number_at rules [] (m ∷ ms) k n e h is = cc
number_at rules (s ∷ ss) (m ∷ ms) zero n e h is = let at : slice_get rules m ≡ Some s = cc in (s, ap (slice_get rules) is ∙ at, refl)
number_at rules (s ∷ ss) (m ∷ ms) (suc k) n e h is = let rest : map (slice_get rules) ms ≡ map Some ss = cc in number_at rules ss ms k n rest (omega arith) is

pub numbers_length : (rules some : List RuleReport) (numbers : List ℕ) → map (slice_get rules) numbers ≡ map Some some → length numbers ≡ length some
numbers_length rules some numbers e = sym (length-map numbers (slice_get rules)) ∙ ap length e ∙ length-map some Some

-- one file more
pub groups_next : (files : List FileReport) (k : ℕ) (file : FileReport) (rules : List RuleReport) (old new : List (List ℕ)) (none : List ℕ) → k < length files → file ≡ get_or files k file
    → AreGroups (take k files) rules [] old → none ≡ [] → new ≡ old ++ none ∷ [] → AreGroups (take (k + 1) files) rules [] new
groups_next files k file rules old new none inside is before empty pushed =
    let P : List FileReport → Type 0 = λ fs. AreGroups fs rules [] new in
    subst P (ap (λ (f : FileReport). take k files ++ f ∷ []) is ∙ sym (take_more files k file inside))
    (groups_push (take k files) file rules old new before (pushed ∙ ap (λ l. old ++ l ∷ []) empty))

-- the numbers at a file's number are those of its rules
pub numbers_here : (files : List FileReport) (rules : List RuleReport) (groups : List (List ℕ)) (file : ℕ) (numbers : List ℕ) → AreGroups files rules rules groups → file < length files
    → numbers ≡ get_or groups file numbers → map (slice_get rules) numbers ≡ map Some (rules_among rules file)
numbers_here files rules groups file numbers are inside is =
    let within : file < length groups = omega (arith, inside, are.each_file) in
    are.each_rule file numbers (slice_get-get_or groups file numbers within ∙ ap Some (sym is))

module _ (rules some : List RuleReport) (numbers : List ℕ) (e : map (slice_get rules) numbers ≡ map Some some) (k n : ℕ) (inside : k < length numbers) (is : n ≡ get_or numbers k n) where
  pub number_within : n < length rules
  number_within = let found = number_at rules some numbers k n e inside is in slice_get_within rules n found.0 found.1

  pub rule_at : (rule : RuleReport) → slice_get rules n ≡ Some rule → (k < length some) × (rule ≡ get_or some k rule)
  rule_at rule at =
      let found = number_at rules some numbers k n e inside is in
      let there : slice_get some k ≡ Some rule = found.2 ∙ sym found.1 ∙ at in
      (slice_get_within some k rule there, sym (get_or_from_slice_get some k rule rule there))

pub all_taken : (rules some : List RuleReport) (numbers : List ℕ) (k : ℕ) → map (slice_get rules) numbers ≡ map Some some → length numbers ≤ k → take k some ≡ some
all_taken rules some numbers k e h = take_all k some (omega (arith, h, numbers_length rules some numbers e))
