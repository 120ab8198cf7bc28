-- What a sample becomes is one sample, and so is the sample of `absent` where it is not open.
use Rattle.std.proofs.Common.{◌≡◌, ◌≢◌, ◌⊎◌, inl, inr, ◌<◌, Bool, true, false, List, [], ◌∷◌, length, Option, Some, None, refl, sym, ap, ◌∙◌, subst, arith}
use Rattle.std.specs.List.{Contains, filter}
use Rattle.std.specs.Option.{unwrap_or}
use Rattle.std.specs.Str.{bytes_eq}
use Rattle.std.specs.Cmp.Lexicographic.{nat_list_cmp_total}
use Rattle.std.specs.FinMap.{get, same_map, nat_cmp-IsAntisymmetric, slice_cmp-IsAntisymmetric}
use Rattle.lf_laws.proofs.Members.{only_one}
use Rattle.lf_ast.specs.Labels.{Bytes, Labels}
use Rattle.lf_ast.specs.declared.expr.Matcher.{Matcher}
use Rattle.lf_pattern.specs.declared.replacement.ReplacementPiece.{ReplacementPiece}
use Rattle.lf_pattern.specs.Replacement.{HasPieces, IsPlainReplacement, IsTextOf}
use Rattle.lf_pattern.proofs.GroupLaws.{text_is}
use Rattle.lf_semantics.specs.Evaluation.{HasSoughtTexts, IsAbsent, IsReplaced, source_value}
use Rattle.lf_semantics.specs.Grouped.{is_metric}
use Rattle.lf_semantics.specs.Parts.{Sought}
use Rattle.lf_semantics.specs.Strings.{Expands, Replacing, absent_texts}
use Rattle.lf_semantics.specs.Texts.{HasTexts, value_of, with_label}
use Rattle.lf_witness.specs.Strict.{IsOpenAbsent}
use Rattle.lf_witness.proofs.OnePieces.{one_list_of_pieces}

-- a sample becomes one sample at most
abbrev pub BecomesOne : (Labels → Labels → Type 0) → Type 0
BecomesOne becomes = (s r t : Labels) → becomes s r → becomes s t → r ≡ t

-- replacements

pieces_stand_for : (pattern value : Bytes) (ps qs : List ReplacementPiece) (x y : Bytes) → ps ≡ qs → IsTextOf pattern value ps x → IsTextOf pattern value qs y → x ≡ y
pieces_stand_for pattern value ps qs x y same one another =
    (text_is pattern value qs x).1 (subst (λ (l : List ReplacementPiece). IsTextOf pattern value l x) same one) ∙ sym ((text_is pattern value qs y).1 another)

-- what a plain replacement with a `$` stands for
abbrev StandsFor : Replacing → Bytes → Bytes → Type 0
StandsFor p value text = ((pieces : List ReplacementPiece) × HasPieces p.replacement pieces × IsTextOf p.pattern value pieces text) ⊎ (IsPlainReplacement p.replacement → ⊥)

pieces_one : (p : Replacing) (value x y : Bytes) → IsPlainReplacement p.replacement → StandsFor p value x → StandsFor p value y → x ≡ y
pieces_one p value x y plain (inl one) (inl another) = pieces_stand_for p.pattern value one.0 another.0 x y (one_list_of_pieces p.replacement one.0 another.0 one.1 another.1) one.2 another.2
pieces_one p value x y plain (inl one) (inr unread) = absurd (unread plain)
pieces_one p value x y plain (inr unread) another = absurd (unread plain)

one_expansion : (p : Replacing) (value x y : Bytes) → IsPlainReplacement p.replacement → Expands p value x → Expands p value y → x ≡ y
one_expansion p value x y plain (inl one) (inl another) = one.1 ∙ sym another.1
one_expansion p value x y plain (inl one) (inr another) = absurd (let clash : false ≡ true = sym one.0 ∙ another.0 in cc)
one_expansion p value x y plain (inr one) (inl another) = absurd (let clash : false ≡ true = sym another.0 ∙ one.0 in cc)
one_expansion p value x y plain (inr one) (inr another) = pieces_one p value x y plain one.1 another.1

pub replaced_one : (p : Replacing) → IsPlainReplacement p.replacement → BecomesOne (IsReplaced p)
replaced_one p plain s r t (inl one) (inl another) = one.1 ∙ sym another.1
replaced_one p plain s r t (inl one) (inr another) = absurd (one.0 another.0)
replaced_one p plain s r t (inr one) (inl another) = absurd (another.0 one.0)
replaced_one p plain s r t (inr one) (inr another) =
    one.3 ∙ ap (λ text. with_label p.target text s) (one_expansion p (source_value p s) one.1 another.1 plain one.2 another.2) ∙ sym another.3

-- label sets without an empty text that have the same text of each label are one

pub same_text : (o p : Option Bytes) → ((text : Bytes) → o ≡ Some text → text ≢ []) → ((text : Bytes) → p ≡ Some text → text ≢ []) → unwrap_or o [] ≡ unwrap_or p [] → o ≡ p
same_text None None full too e = refl
same_text None (Some y) full too e = absurd (too y refl (sym e))
same_text (Some x) None full too e = absurd (full x refl e)
same_text (Some x) (Some y) full too e = ap Some e

pub same_texts : (r t : Labels) → HasTexts r → HasTexts t → ((label : Bytes) → value_of r label ≡ value_of t label) → r ≡ t
same_texts r t full too same =
    same_map nat_list_cmp_total (slice_cmp-IsAntisymmetric nat_cmp-IsAntisymmetric) r t (λ label. same_text (get r label) (get t label) (full label) (too label) (same label))

-- `absent`

pub one_text : (matchers : List Matcher) (x y : Bytes) → (1 < length matchers → ⊥) → Contains (absent_texts matchers) x → Contains (absent_texts matchers) y → x ≡ y
one_text [] x y few one another = sym (only_one [] x one) ∙ only_one [] y another
one_text (m ∷ []) x y few one another = sym (only_one _ x one) ∙ only_one _ y another
one_text (m ∷ n ∷ matchers) x y few one another = absurd (few (omega arith))

sought_one : (matchers : List Matcher) → ((label : Bytes) → is_metric label ≡ false → 1 < length (filter (λ m. bytes_eq m.label label) matchers) → ⊥) → (r t : Labels) → HasSoughtTexts matchers r → HasSoughtTexts matchers t → r ≡ t
sought_one matchers few r t one another = same_texts r t one.0 another.0 (λ label. by label (is_metric label) refl)
  where
    by : (label : Bytes) (b : Bool) → is_metric label ≡ b → value_of r label ≡ value_of t label
    by label true e = one.1 label e ∙ sym (another.1 label e)
    by label false e = one_text (filter (λ m. bytes_eq m.label label) matchers) (value_of r label) (value_of t label) (few label e) (one.2 label e) (another.2 label e)

pub absent_one : (sought : Option Sought) → (IsOpenAbsent sought → ⊥) → (r t : Labels) → IsAbsent sought r → IsAbsent sought t → r ≡ t
absent_one None shut r t one another = one ∙ sym another
absent_one (Some sought) shut r t (inl one) (inl another) = sought_one sought.matchers (λ label e two. shut (inr (label, e, two))) r t one another
absent_one (Some sought) shut r t (inr one) another = absurd (shut (inl one.0))
absent_one (Some sought) shut r t (inl one) (inr another) = absurd (shut (inl another.0))
