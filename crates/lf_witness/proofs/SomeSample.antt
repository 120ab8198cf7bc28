-- What a sample becomes exists: by a plain replacement, and the sample of `absent` where it is not open.
use Rattle.std.proofs.Common.{◌≡◌, inl, inr, ◌<◌, Bool, true, false, ◌||◌, List, [], ◌∷◌, length, Option, Some, None, cond, refl, sym, ap, ◌∙◌, subst, true≢false, arith}
use Rattle.std.specs.List.{Contains, filter, flat_map}
use Rattle.std.specs.Str.{bytes_eq, chars}
use Rattle.lf_laws.proofs.Members.{here}
use Rattle.lf_ast.specs.Labels.{Bytes, Labels}
use Rattle.lf_ast.specs.declared.expr.Matcher.{Matcher}
use Rattle.lf_ast.specs.Arguments.{has_dollar}
use Rattle.lf_ast.specs.Selectors.{is_equal}
use Rattle.lf_pattern.specs.Matching.{matches}
use Rattle.lf_pattern.specs.Replacement.{IsPlainReplacement}
use Rattle.lf_pattern.specs.reading.Expansion.{group_text, piece_text}
use Rattle.lf_pattern.proofs.GroupLaws.{text_is}
use Rattle.lf_pattern.proofs.MatchLaws.{matches_is}
use Rattle.lf_pattern.proofs.PlainnessLaws.{passes-plain, plain-passes}
use Rattle.lf_semantics.specs.Evaluation.{IsAbsent, IsReplaced, bare, source_value}
use Rattle.lf_semantics.specs.Grouped.{is_metric}
use Rattle.lf_semantics.specs.Parts.{Sought}
use Rattle.lf_semantics.specs.Strings.{Expands, Replacing, absent_texts}
use Rattle.lf_semantics.specs.Texts.{HasTexts, value_of, with_label}
use Rattle.lf_semantics.proofs.GivenTexts.{bare_has_texts}
use Rattle.lf_semantics.proofs.Kept.{with_label_has_texts}
use Rattle.lf_semantics.proofs.LabelTexts.{value-bare, value-with_label}
use Rattle.lf_semantics.proofs.Members.{other_false, true_same}
use Rattle.lf_witness.specs.Strict.{IsOpenAbsent}
use Rattle.lf_witness.specs.views.Absence.{has_two}
use Rattle.lf_witness.proofs.Decided.{Decided, by_test}
use Rattle.lf_witness.proofs.OpenAbsences.{opens}

-- replacements

pub plain_decided : (replacement : Bytes) → Decided (IsPlainReplacement replacement)
plain_decided replacement = by_test (IsPlainReplacement replacement) _ (passes-plain (chars replacement)) (λ plain. plain-passes plain.1)

expansion : (p : Replacing) (value : Bytes) → IsPlainReplacement p.replacement → (text : Bytes) × Expands p value text
expansion p value plain = by (has_dollar p.replacement) refl
  where
    by : (b : Bool) → has_dollar p.replacement ≡ b → (text : Bytes) × Expands p value text
    by false e = (p.replacement, inl (e, refl))
    by true e =
        let text = flat_map (piece_text (group_text p.pattern value)) plain.0 in
        (text, inr (e, inl (plain.0, plain.1, (text_is p.pattern value plain.0 text).0 refl)))

pub replaced_some : (p : Replacing) → IsPlainReplacement p.replacement → (s : Labels) → (r : Labels) × IsReplaced p s r
replaced_some p plain s = by (matches p.pattern (source_value p s)) refl
  where
    by : (b : Bool) → matches p.pattern (source_value p s) ≡ b → (r : Labels) × IsReplaced p s r
    by false e = (s, inl ((λ m. true≢false (sym ((matches_is p.pattern (source_value p s)).1 m) ∙ e)), refl))
    by true e =
        let text = expansion p (source_value p s) plain in
        (with_label p.target text.0 s, inr ((matches_is p.pattern (source_value p s)).0 e, text.0, text.1, refl))

-- `absent`

-- the sample that an `absent` of these matchers gives
abbrev pub sought_labels : List Matcher → Labels
sought_labels [] = bare
sought_labels (m ∷ matchers) = cond (is_metric m.label) (sought_labels matchers) (with_label m.label (cond (is_equal m.op) m.value []) (sought_labels matchers))

full_sought : (matchers : List Matcher) → HasTexts (sought_labels matchers)
full_sought [] = bare_has_texts
full_sought (m ∷ matchers) = by (is_metric m.label) (full_sought matchers)
  where
    by : (b : Bool) → HasTexts (sought_labels matchers) → HasTexts (cond b (sought_labels matchers) (with_label m.label (cond (is_equal m.op) m.value []) (sought_labels matchers)))
    by true full = full
    by false full = with_label_has_texts m.label (cond (is_equal m.op) m.value []) (sought_labels matchers) full

no_name : (matchers : List Matcher) (label : Bytes) → is_metric label ≡ true → value_of (sought_labels matchers) label ≡ []
no_name [] label e = value-bare label
no_name (m ∷ matchers) label e = by (is_metric m.label) refl (no_name matchers label e)
  where
    apart : is_metric m.label ≡ false → bytes_eq m.label label ≡ false
    apart not = other_false m.label label (λ same. true≢false (sym e ∙ sym (ap is_metric same) ∙ not))

    by : (b : Bool) → is_metric m.label ≡ b → value_of (sought_labels matchers) label ≡ [] → value_of (cond b (sought_labels matchers) (with_label m.label (cond (is_equal m.op) m.value []) (sought_labels matchers))) label ≡ []
    by true _ rest = rest
    by false not rest =
        let text = cond (is_equal m.op) m.value [] in
        value-with_label m.label text (sought_labels matchers) label ∙ ap (λ b. cond b text (value_of (sought_labels matchers) label)) (apart not) ∙ rest

-- each other label has a text that the matchers on it let it take, of which there is one at most
sought_text : (matchers : List Matcher) (label : Bytes) → is_metric label ≡ false → (1 < length (filter (λ m. bytes_eq m.label label) matchers) → ⊥)
    → Contains (absent_texts (filter (λ m. bytes_eq m.label label) matchers)) (value_of (sought_labels matchers) label)
sought_text [] label e few = subst (Contains ([] ∷ [])) (sym (value-bare label)) (here [] [])
sought_text (m ∷ matchers) label e few = by (bytes_eq m.label label) refl few (sought_text matchers label e)
  where
    -- what the label has by this matcher, or by the others
    value : (b : Bool) → bytes_eq m.label label ≡ b → (c : Bool) → is_metric m.label ≡ c
        → value_of (cond c (sought_labels matchers) (with_label m.label (cond (is_equal m.op) m.value []) (sought_labels matchers))) label ≡ cond b (cond (is_equal m.op) m.value []) (value_of (sought_labels matchers) label)
    value true same true named = absurd (true≢false (sym named ∙ ap is_metric (true_same m.label label same) ∙ e))
    value false other true named = refl
    value b same false named = value-with_label m.label (cond (is_equal m.op) m.value []) (sought_labels matchers) label ∙ ap (λ b. cond b (cond (is_equal m.op) m.value []) (value_of (sought_labels matchers) label)) same

    alone : (rest : List Matcher) → (1 < length (m ∷ rest) → ⊥) → Contains (absent_texts (m ∷ rest)) (cond (is_equal m.op) m.value [])
    alone [] few = here (cond (is_equal m.op) m.value []) []
    alone (n ∷ rest) few = absurd (few (omega arith))

    by : (b : Bool) → bytes_eq m.label label ≡ b
        → (1 < length (cond b (m ∷ filter (λ m. bytes_eq m.label label) matchers) (filter (λ m. bytes_eq m.label label) matchers)) → ⊥)
        → ((1 < length (filter (λ m. bytes_eq m.label label) matchers) → ⊥) → Contains (absent_texts (filter (λ m. bytes_eq m.label label) matchers)) (value_of (sought_labels matchers) label))
        → Contains (absent_texts (cond b (m ∷ filter (λ m. bytes_eq m.label label) matchers) (filter (λ m. bytes_eq m.label label) matchers))) (value_of (sought_labels (m ∷ matchers)) label)
    by true same few rest = subst (Contains (absent_texts (m ∷ filter (λ m. bytes_eq m.label label) matchers))) (sym (value true same (is_metric m.label) refl)) (alone (filter (λ m. bytes_eq m.label label) matchers) few)
    by false other few rest = subst (Contains (absent_texts (filter (λ m. bytes_eq m.label label) matchers))) (sym (value false other (is_metric m.label) refl)) (rest few)

pub sought_sample : (sought : Sought) → (IsOpenAbsent (Some sought) → ⊥) → IsAbsent (Some sought) (sought_labels sought.matchers)
sought_sample sought shut = inl (full_sought sought.matchers, no_name sought.matchers, λ label e. sought_text sought.matchers label e (λ two. shut (inr (label, e, two))))

pub absent_some : (sought : Option Sought) → (IsOpenAbsent sought → ⊥) → (r : Labels) × IsAbsent sought r
absent_some None shut = (bare, refl)
absent_some (Some sought) shut = (sought_labels sought.matchers, sought_sample sought shut)

-- whether an `absent` is open

pub open_decided : (sought : Option Sought) → Decided (IsOpenAbsent sought)
open_decided None = inr (λ no. no)
open_decided (Some sought) =
    let law = opens sought.matchers sought.may_be_bare in
    by_test (IsOpenAbsent (Some sought)) (sought.may_be_bare || has_two sought.matchers) law.0 law.1
