-- What plain replacements make of samples.
use Rattle.std.proofs.Common.{◌≡◌, inl, inr, Bool, true, false, List, Option, Some, None, Result, Ok, Err, refl, sym, ap, ◌∙◌, subst, true≢false}
use Rattle.std.specs.Prelude.{IfOk, is_some}
use Rattle.std.specs.Option.{option_map_or}
use Rattle.std.specs.List.{AllZip}
use Rattle.lf_ast.specs.Labels.{Bytes, Labels}
use Rattle.lf_ast.specs.Arguments.{has_dollar}
use Rattle.lf_pattern.specs.declared.replacement.ReplacementPiece.{ReplacementPiece}
use Rattle.lf_pattern.specs.Matching.{IsRead, Matches}
use Rattle.lf_pattern.specs.Read.{reading}
use Rattle.lf_pattern.specs.Replacement.{HasPieces, IsExpansion, IsPlainReplacement}
use Rattle.lf_semantics.specs.Evaluation.{IsReplaced, source_value}
use Rattle.lf_semantics.specs.Strings.{Replacing}
use Rattle.lf_semantics.specs.Texts.{with_label}
use Rattle.lf_witness.specs.Ascending.{IsAscending}
use Rattle.lf_witness.specs.Strict.{From, MadeApart, Outcomes, Replaced}
use Rattle.lf_witness.specs.StrictRuns.{InOrder}
use Rattle.lf_witness.proofs.OneSample.{replaced_one}
use Rattle.lf_strict.specs.views.Apart.{AreApart}
use Rattle.lf_strict.specs.views.Replaced.{IsExpanded}
use Rattle.lf_strict.proofs.Answered.{from_some}
use Rattle.lf_strict.proofs.MadeApart.{made_apart}

-- what is no pattern matches nothing

found_read : {X : Type 0} (o : Option X) (f : X → Bool) → option_map_or f o false ≡ true → is_some o ≡ true
found_read None f e = absurd (true≢false (sym e))
found_read (Some x) f e = refl

pub unread_fails : (p : Bytes) → (IsRead p → ⊥) → (value : Bytes) → Matches p value → ⊥
unread_fails p unread value (inl plain) = unread (inl (plain.0, plain.1))
unread_fails p unread value (inr found) = unread (inr (found_read (reading p) _ found.1))

-- with a `$` a plain replacement stands for what its pieces stand for
pub expanded : (p : Replacing) (value : Bytes) (plain : IsPlainReplacement p.replacement) → has_dollar p.replacement ≡ true → (o : Option Bytes) → IsExpansion p.pattern value plain.0 o → IsExpanded p value o
expanded p value plain dollar None fails = fails
expanded p value plain dollar (Some text) is = (is.0, inr (dollar, inl (plain.0, plain.1, is.1)))

-- what a sample becomes by the text that the replacement stands for
pub replaced_with : (p : Replacing) (s : Labels) (text : Bytes) → IsExpanded p (source_value p s) (Some text) → IsReplaced p s (with_label p.target text s)
replaced_with p s text is = inr (is.0, text, is.1, refl)

pub stays : (p : Replacing) (s : Labels) → IsExpanded p (source_value p s) None → IsReplaced p s s
stays p s fails = inl (fails, refl)

pub replaced_apart : (p : Replacing) → IsPlainReplacement p.replacement → (P M : List Labels) → IsAscending P → AllZip (IsReplaced p) P M → (o : Option (List Labels)) → AreApart M o
    → InOrder (MadeApart (IsReplaced p) P) o
replaced_apart p plain P M ascends z o are = made_apart (IsReplaced p) (λ s t u a b. replaced_one p plain s t u a b) P M ascends z o are

-- where the pattern matches nothing, each sample stays
pub stay_apart : (p : Replacing) → ((value : Bytes) → Matches p.pattern value → ⊥) → (P : List Labels) → IsAscending P → InOrder (MadeApart (IsReplaced p) P) (Some P)
stay_apart p none P ascends = (
  (
    (
      λ s c. (s, inl (none (source_value p s), refl), c),
      λ r c. (r, c, inl (none (source_value p r), refl)),
    ),
    λ two. two.5 (sym (same two.0 two.2 two.6) ∙ same two.1 two.2 two.7),
  ),
  ascends,
)
  where
    same : (s r : Labels) → IsReplaced p s r → r ≡ s
    same s r (inl kept) = kept.1
    same s r (inr matched) = absurd (none (source_value p s) matched.0)

-- the same by the strings that a call has

pub expanded_by : {E : Type 0} (p : Replacing) (value pattern replacement : Bytes) (r : Result (Option Bytes) E) → pattern ≡ p.pattern → replacement ≡ p.replacement → IsPlainReplacement p.replacement → has_dollar replacement ≡ true
    → ((pieces : List ReplacementPiece) → HasPieces replacement pieces → IfOk r (IsExpansion pattern value pieces)) → IfOk r (IsExpanded p value)
expanded_by p value pattern replacement r same is plain dollar gives =
    when r (gives plain.0 (subst (λ x. HasPieces x plain.0) (sym is) plain.1)) (λ o found.
    expanded p value plain (sym (ap has_dollar is) ∙ dollar) o (subst (λ x. IsExpansion x value plain.0 o) same found))
  where
    when : {X E : Type 0} {P Q : X → Type 0} (r : Result X E) → IfOk r P → ((x : X) → P x → Q x) → IfOk r Q
    when (Ok x) h f = f x h
    when (Err e) h f = tt

pub stands_for_itself : (p : Replacing) (value pattern replacement text : Bytes) → pattern ≡ p.pattern → replacement ≡ p.replacement → Matches pattern value → has_dollar replacement ≡ false → text ≡ replacement
    → IsExpanded p value (Some text)
stands_for_itself p value pattern replacement text same is matched none e =
    (subst (λ x. Matches x value) same matched, inl (sym (ap has_dollar is) ∙ none, e ∙ is))

pub fails : (p : Replacing) (value pattern : Bytes) → pattern ≡ p.pattern → (Matches pattern value → ⊥) → IsExpanded p value None
fails p value pattern same none matched = none (subst (λ x. Matches x value) (sym same) matched)

pub set_replaced : (p : Replacing) (s made new : Labels) (value target text : Bytes) (o : Option Bytes) → made ≡ s → value ≡ source_value p s → target ≡ p.target → o ≡ Some text → IsExpanded p value o → new ≡ with_label target text made
    → IsReplaced p s new
set_replaced p s made new value target text o copied same aimed some is e =
    subst (IsReplaced p s) (sym (e ∙ ap (with_label target text) copied ∙ ap (λ x. with_label x text s) aimed))
    (replaced_with p s text (subst (λ x. IsExpanded p x (Some text)) same (subst (IsExpanded p value) some is)))

-- what a plain replacement gives of an operand

pub plain_answer : {E : Type 0} (p : Replacing) (operand : Outcomes) (P : List Labels) (r : Result (Option (List Labels)) E) → IsPlainReplacement p.replacement → InOrder operand (Some P) → IfOk r (InOrder (MadeApart (IsReplaced p) P))
    → IfOk r (InOrder (Replaced p operand))
plain_answer p operand P (Err e) plain some made = tt
plain_answer p operand P (Ok o) plain some made = by o (from_some operand (MadeApart (IsReplaced p)) P some o made)
  where
    by : (o : Option (List Labels)) → InOrder (From operand (MadeApart (IsReplaced p))) o → InOrder (Replaced p operand) o
    by None given = inr (plain, given)
    by (Some R) given = (inr (plain, given.0), given.1)
