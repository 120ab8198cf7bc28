-- What the functions of patterns give is what their relations say: when a matcher passes a text, which patterns are plain, and which texts are named with a pattern.
use Rattle.std.proofs.Common.{◌≡◌, ◌↔◌, true, not, List, [], Option, Some, None, inl, inr, refl, ap, sym, ◌∙◌}
use Rattle.std.specs.Prelude.{is_some}
use Rattle.std.proofs.lemmas.Bool.{and_from, and_parts, false_from_ne_true, not-true}
use Rattle.std.specs.Option.{option_map_or}
use Rattle.std.specs.Str.{chars}
use Rattle.lf_ast.specs.Labels.{Bytes}
use Rattle.lf_ast.specs.declared.expr.MatchOp.{MatchOp}
use Rattle.lf_ast.specs.declared.expr.MatchOp.TheVariants.{Equal, NotEqual, Matches, NotMatches}
use Rattle.lf_pattern.specs.Plain.{HasAlternatives, IsPlainPattern}
use Rattle.lf_pattern.specs.SampleScan.{both_added}
use Rattle.lf_pattern.specs.Samples.{AreSamples}
use Rattle.lf_pattern.specs.Scan.{alternatives_of}
use Rattle.lf_pattern.specs.ShapeScan.{read_from, start}
use Rattle.lf_pattern.specs.declared.sample.Both.{Both}
use Rattle.lf_pattern.proofs.GroupLaws.{read_is}
use Rattle.lf_pattern.proofs.MatchLaws.{matches_is}
use Rattle.lf_pattern.proofs.PlainLaws.{found, is_found}
use Rattle.lf_pattern.proofs.SampleLaws.{samples_none, samples_only, samples_read}
use Rattle.lf_semantics.specs.Mentions.{AreTextsOf, alternatives_or_samples, pattern_texts, samples_of}
use Rattle.lf_semantics.specs.Passing.{Passes, is_plain, passes}
use Rattle.lf_laws.proofs.Booleans.{clash}
use Rattle.lf_semantics.proofs.Members.{other_false, same_true, true_same}

-- a matcher passes a text where the function says so
pub passes_is : (op : MatchOp) (value text : Bytes) → (passes op value text ≡ true) ↔ Passes op value text
passes_is Equal value text = (true_same text value, same_true text value)
passes_is NotEqual value text = (λ e same. clash _ (same_true text value same) (not-true _ e), λ h. ap not (other_false text value h))
passes_is Matches value text = matches_is value text
passes_is NotMatches value text = (
  λ e. let both = and_parts _ _ e in ((read_is value).0 both.0, λ m. clash _ ((matches_is value text).1 m) (not-true _ both.1)),
  λ h. and_from _ _ ((read_is value).1 h.0) (ap not (false_from_ne_true _ (λ e. h.1 ((matches_is value text).0 e)))),
)

-- plain patterns

pub plain_is : (pattern : Bytes) → (is_plain pattern ≡ true) ↔ IsPlainPattern pattern
plain_is pattern = (λ e. by (alternatives_of pattern) refl e, λ plain. ap is_some (found pattern plain.0 plain.1))
  where
    by : (o : Option (List Bytes)) → alternatives_of pattern ≡ o → is_some o ≡ true → IsPlainPattern pattern
    by (Some alternatives) e h = (alternatives, is_found pattern alternatives e)
    by None e h = absurd (clash _ h refl)

-- samples

-- the samples of a pattern are these
pub samples_are : (pattern : Bytes) → AreSamples pattern (samples_of pattern)
samples_are pattern = by (read_from start (chars pattern)) refl
  where
    by : (o : Option Both) → read_from start (chars pattern) ≡ o → AreSamples pattern (option_map_or (both_added pattern) o [])
    by (Some b) e = samples_read pattern b (both_added pattern b) e refl
    by None e = samples_none pattern [] e refl

-- and no others
pub samples_are_only : (pattern : Bytes) (samples : List Bytes) → AreSamples pattern samples → samples ≡ samples_of pattern
samples_are_only pattern samples are = samples_only pattern samples are

pub plain_texts : (pattern : Bytes) (alternatives : List Bytes) → HasAlternatives pattern alternatives → pattern_texts pattern ≡ alternatives
plain_texts pattern alternatives has = ap (λ (o : Option (List Bytes)). alternatives_or_samples o pattern) (found pattern alternatives has)

none_some : (alternatives : List Bytes) → None ≡ Some alternatives → ⊥
none_some alternatives e = cc

pub other_texts : (pattern : Bytes) → ((alternatives : List Bytes) → HasAlternatives pattern alternatives → ⊥) → pattern_texts pattern ≡ samples_of pattern
other_texts pattern none = by (alternatives_of pattern) refl
  where
    by : (o : Option (List Bytes)) → alternatives_of pattern ≡ o → alternatives_or_samples o pattern ≡ samples_of pattern
    by None e = refl
    by (Some alternatives) e = absurd (none alternatives (is_found pattern alternatives e))

-- the texts of a pattern are these
pub texts_are : (pattern : Bytes) → AreTextsOf pattern (pattern_texts pattern)
texts_are pattern = by (alternatives_of pattern) refl
  where
    by : (o : Option (List Bytes)) → alternatives_of pattern ≡ o → AreTextsOf pattern (alternatives_or_samples o pattern)
    by (Some alternatives) e = inl (is_found pattern alternatives e)
    by None e = inr (λ plain. none_some plain.0 (sym e ∙ found pattern plain.0 plain.1), samples_are pattern)

-- and no others
pub texts_are_only : (pattern : Bytes) (texts : List Bytes) → AreTextsOf pattern texts → texts ≡ pattern_texts pattern
texts_are_only pattern texts (inl has) = sym (plain_texts pattern texts has)
texts_are_only pattern texts (inr are) = samples_are_only pattern texts are.1 ∙ sym (other_texts pattern (λ alternatives has. are.0 (alternatives, has)))
