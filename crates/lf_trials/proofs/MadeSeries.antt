-- The series of trials are scraped ones: their texts aren't empty, and their names are neither empty nor recorded.
use Rattle.std.proofs.Common.{◌≡◌, ◌≢◌, ◌<◌, inl, inr, ℕ, Bool, true, false, not, ◌&&◌, ◌||◌, cond, List, [], ◌∷◌, ◌++◌, length, Option, Some, None, is_some, option_and_then, refl, sym, ap, ◌∙◌, subst, true≢false, arith}
use Rattle.std.specs.Prelude.{slice_index_or}
use Rattle.std.specs.List.{Contains, find}
use Rattle.std.specs.Option.{option_map_or, option_or}
use Rattle.std.specs.Str.{bytes_eq}
use Rattle.std.proofs.lemmas.Option.{same_Some}
use Rattle.lf_laws.proofs.Booleans.{and_left, clash}
use Rattle.lf_laws.proofs.Members.{any_has, behind, first_or_behind, here, none_in, same_true, true_same}
use Rattle.lf_ast.specs.Labels.{Bytes, Labels}
use Rattle.lf_ast.specs.Rules.{RuleTree}
use Rattle.lf_ast.specs.Selectors.{metric}
use Rattle.lf_ast.specs.declared.expr.Matcher.{Matcher}
use Rattle.lf_semantics.specs.Listing.{IsListing, Listing}
use Rattle.lf_semantics.specs.Texts.{HasTexts, value_of}
use Rattle.lf_semantics.proofs.GivenTexts.{bare_has_texts}
use Rattle.lf_semantics.proofs.Kept.{with_label_has_texts}
use Rattle.lf_semantics.proofs.LabelTexts.{value-with_label}
use Rattle.lf_trials.specs.Candidates.{candidates, labels_in, other_name}
use Rattle.lf_trials.specs.Given.{Given, giving, label_set, with_text}
use Rattle.lf_trials.specs.Names.{is_scraped_name, name_for, passes_as_name}
use Rattle.lf_semantics.specs.Environments.{records}
use Rattle.lf_trials.specs.Reached.{is_recorded}

-- what is found is there, and passes
abbrev pub IsIn : {X : Type 0} → (X → Bool) → List X → X → Type 0
IsIn test xs x = Contains xs x × (test x ≡ true)

pub found_in : {X : Type 0} (test : X → Bool) (xs : List X) (x : X) → find test xs ≡ Some x → IsIn test xs x
found_in test [] x e = absurd (true≢false (sym (ap is_some e)))
found_in {X = X} test (y ∷ xs) x e = by (test y) refl (found_in test xs x) e
  where
    by : (b : Bool) → test y ≡ b → (find test xs ≡ Some x → IsIn test xs x) → cond b (Some y) (find test xs) ≡ Some x → IsIn test (y ∷ xs) x
    by true is later same = (subst (Contains (y ∷ xs)) (same_Some y x same) (here y xs), ap test (sym (same_Some y x same)) ∙ is)
    by false is later same = let rest = later same in (behind y xs x rest.0, rest.1)

-- label sets by texts

pub full_set : (names : List Bytes) (D : Given) → HasTexts (label_set names D)
full_set [] D = bare_has_texts
full_set (n ∷ names) D = by (D n) (full_set names D)
  where
    by : (o : Option Bytes) → HasTexts (label_set names D) → HasTexts (option_map_or (λ text. with_text n text (label_set names D)) o (label_set names D))
    by None full = full
    by (Some []) full = full
    by (Some (c ∷ text)) full = with_label_has_texts n (c ∷ text) (label_set names D) full

-- a label of which a text is said has it
set_has : (names : List Bytes) (D : Given) (label : Bytes) (c : ℕ) (text : Bytes) → D label ≡ Some (c ∷ text) → Contains names label → value_of (label_set names D) label ≡ c ∷ text
set_has [] D label c text is there = absurd (none_in label there)
set_has (n ∷ names) D label c text is there = by (bytes_eq n label) refl (set_has names D label c text is)
  where
    other : (o : Option Bytes) → bytes_eq n label ≡ false → value_of (label_set names D) label ≡ c ∷ text → value_of (option_map_or (λ t. with_text n t (label_set names D)) o (label_set names D)) label ≡ c ∷ text
    other None differs later = later
    other (Some []) differs later = later
    other (Some (d ∷ t)) differs later = value-with_label n (d ∷ t) (label_set names D) label ∙ ap (λ (b : Bool). cond b (d ∷ t) (value_of (label_set names D) label)) differs ∙ later

    same : D n ≡ Some (c ∷ text) → bytes_eq n label ≡ true → value_of (label_set (n ∷ names) D) label ≡ c ∷ text
    same at equal =
        ap (λ (o : Option Bytes). value_of (option_map_or (λ t. with_text n t (label_set names D)) o (label_set names D)) label) at
        ∙ value-with_label n (c ∷ text) (label_set names D) label ∙ ap (λ (b : Bool). cond b (c ∷ text) (value_of (label_set names D) label)) equal

    behind : bytes_eq n label ≡ false → Contains names label
    behind differs = elim (first_or_behind n names label there) [ inl e ↦ absurd (clash (bytes_eq n label) (same_true n label e) differs) | inr later ↦ later ]

    by : (b : Bool) → bytes_eq n label ≡ b → (Contains names label → value_of (label_set names D) label ≡ c ∷ text) → value_of (label_set (n ∷ names) D) label ≡ c ∷ text
    by true equal later = same (ap D (true_same n label equal) ∙ is) equal
    by false differs later = other (D n) differs (later (behind differs))

-- names

-- a name that scraped series may have
pub record IsScrapedName (rules : List RuleTree) (name : Bytes) : Type 0 where
  pub some : name ≢ []
  pub unrecorded : (r : RuleTree) → Contains rules r → r.alert ≡ false → name ≢ r.name

not_recorded : (rules : List RuleTree) (name : Bytes) → is_recorded rules name ≡ false → (r : RuleTree) → Contains rules r → r.alert ≡ false → name ≢ r.name
not_recorded rules name none r there recording e =
    clash (is_recorded rules name) (any_has (records name) rules r there (ap (λ (b : Bool). not b && bytes_eq r.name name) recording ∙ same_true r.name name (sym e))) none

pub scraped_name : (rules : List RuleTree) (name : Bytes) → bytes_eq name [] ≡ false → is_recorded rules name ≡ false → IsScrapedName rules name
scraped_name rules name some none = record { some = λ e. clash (bytes_eq name []) (same_true name [] e) some; unrecorded = not_recorded rules name none }

pub scraped_by_test : (rules : List RuleTree) (name : Bytes) → is_scraped_name rules name ≡ true → IsScrapedName rules name
scraped_by_test rules name passes = by (bytes_eq name []) (is_recorded rules name) refl refl passes
  where
    by : (a b : Bool) → bytes_eq name [] ≡ a → is_recorded rules name ≡ b → not (a || b) ≡ true → IsScrapedName rules name
    by true b of_a of_b e = absurd (true≢false (sym e))
    by false true of_a of_b e = absurd (true≢false (sym e))
    by false false of_a of_b e = scraped_name rules name of_a of_b

-- the name that is said, where scraped series may have it
pub said_is_scraped : (rules : List RuleTree) (said : Option Bytes) (name : Bytes) → option_and_then (λ n. cond (is_scraped_name rules n) (Some n) None) said ≡ Some name → IsScrapedName rules name
said_is_scraped rules None name e = absurd (true≢false (sym (ap is_some e)))
said_is_scraped rules (Some n) name e = by (is_scraped_name rules n) refl e
  where
    by : (b : Bool) → is_scraped_name rules n ≡ b → cond b (Some n) None ≡ Some name → IsScrapedName rules name
    by true is same = subst (IsScrapedName rules) (same_Some n name same) (scraped_by_test rules n is)
    by false is same = absurd (true≢false (sym (ap is_some same)))

-- the name for a selector that says none
pub named_for : (u : Listing) (rules : List RuleTree) (matchers : List Matcher) (name : Bytes) → name_for u rules matchers ≡ Some name → IsScrapedName rules name
named_for u rules matchers name found = scraped_by_test rules name (and_left (is_scraped_name rules name) (passes_as_name matchers name) (found_in (λ text. is_scraped_name rules text && passes_as_name matchers text) (candidates u metric) name found).1)

-- and the one that is taken of the two
pub taken_name : (u : Listing) (rules : List RuleTree) (matchers : List Matcher) (said : Option Bytes) (name : Bytes) → option_or (option_and_then (λ n. cond (is_scraped_name rules n) (Some n) None) said) (name_for u rules matchers) ≡ Some name → IsScrapedName rules name
taken_name u rules matchers said name = by (option_and_then (λ n. cond (is_scraped_name rules n) (Some n) None) said) refl
  where
    by : (o : Option Bytes) → option_and_then (λ n. cond (is_scraped_name rules n) (Some n) None) said ≡ o → option_or o (name_for u rules matchers) ≡ Some name → IsScrapedName rules name
    by None is same = named_for u rules matchers name same
    by (Some n) is same = said_is_scraped rules said name (is ∙ same)

-- series

-- the series of a world of these rules
abbrev pub IsScraped : List RuleTree → Labels → Type 0
IsScraped rules s = HasTexts s × (value_of s metric ≢ []) × ((r : RuleTree) → Contains rules r → r.alert ≡ false → value_of s metric ≢ r.name)

metric_is_named : (u : Listing) → IsListing u → Contains (labels_in u) metric
metric_is_named u listing = by u.names listing.some listing.first
  where
    by : (names : List Bytes) → 0 < length names → slice_index_or names 0 [] ≡ metric → Contains (names ++ (other_name u ∷ [])) metric
    by [] some first = absurd (omega (arith, some))
    by (n ∷ names) some first = subst (λ z. Contains ((z ∷ names) ++ (other_name u ∷ [])) metric) (sym first) (here metric (names ++ other_name u ∷ []))

pub made_is_scraped : (u : Listing) (rules : List RuleTree) → IsListing u → (name : Bytes) (D : Given) → IsScrapedName rules name → IsScraped rules (label_set (labels_in u) (giving metric name D))
made_is_scraped u rules listing [] D is = absurd (is.some refl)
made_is_scraped u rules listing (c ∷ name) D is =
    let named : value_of (label_set (labels_in u) (giving metric (c ∷ name) D)) metric ≡ c ∷ name = set_has (labels_in u) (giving metric (c ∷ name) D) metric c name refl (metric_is_named u listing) in
    (full_set (labels_in u) (giving metric (c ∷ name) D), (λ e. is.some (sym named ∙ e)), λ r there recording e. is.unrecorded r there recording (sym named ∙ e))
