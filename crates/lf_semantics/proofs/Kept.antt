-- What keeps the texts of a label set from being empty.
use Rattle.std.proofs.Common.{◌≡◌, ◌≢◌, Bool, true, false, cond, [], Option, Some, None, refl, sym, ◌∙◌, ap, subst}
use Rattle.std.specs.Str.{bytes_eq}
use Rattle.std.specs.Ordering.{nat_cmp, eq_by_cmp}
use Rattle.std.specs.Cmp.Lexicographic.{slice_cmp, nat_list_cmp_total}
use Rattle.std.specs.FinMap.{get, insert, remove, get-insert, get-remove, get-retain_keys, slice_cmp-IsAntisymmetric, nat_cmp-IsAntisymmetric}
use Rattle.lf_ast.specs.Labels.{Bytes, Labels}
use Rattle.lf_semantics.specs.Texts.{HasTexts, restricted, with_label}

-- an answer that isn't an empty text
abbrev IsNoEmptyText : Option Bytes → Type 0
IsNoEmptyText o = (text : Bytes) → o ≡ Some text → text ≢ []

none_is : IsNoEmptyText None
none_is text e = cc

some_is : (set : Bytes) → set ≢ [] → IsNoEmptyText (Some set)
some_is set h text e = λ none. h (let same : set ≡ text = cc in same ∙ none)

cond_is : (b : Bool) (o p : Option Bytes) → IsNoEmptyText o → IsNoEmptyText p → IsNoEmptyText (cond b o p)
cond_is true o p h k = h
cond_is false o p h k = k

-- a label set of which some labels are kept has no empty text if it had none before
pub restricted_has_texts : (keeps : Bytes → Bool) (s : Labels) → HasTexts s → HasTexts (restricted keeps s)
restricted_has_texts keeps s h name text e =
    let found = get-retain_keys s keeps name (λ x same. ap keeps (sym (slice_cmp-IsAntisymmetric nat_cmp-IsAntisymmetric name x same))) in
    cond_is (keeps name) (get s name) None (h name) none_is text (sym found ∙ e)

removed_has_texts : (name : Bytes) (s : Labels) → HasTexts s → HasTexts (remove s name)
removed_has_texts name s h asked text e = cond_is (eq_by_cmp (slice_cmp nat_cmp) asked name) None (get s asked) none_is (h asked) text (sym (get-remove nat_list_cmp_total s name asked) ∙ e)

inserted_has_texts : (name set : Bytes) (s : Labels) → set ≢ [] → HasTexts s → HasTexts (insert s name set)
inserted_has_texts name set s some h asked text e = cond_is (eq_by_cmp (slice_cmp nat_cmp) asked name) (Some set) (get s asked) (some_is set some) (h asked) text (sym (get-insert nat_list_cmp_total s name set asked) ∙ e)

either_has_texts : (b : Bool) (m n : Labels) → (b ≡ true → HasTexts m) → (b ≡ false → HasTexts n) → HasTexts (cond b m n)
either_has_texts true m n h k = h refl
either_has_texts false m n h k = k refl

-- so has it with a text of a label, which removes the label where the text is empty
pub with_label_has_texts : (name text : Bytes) (s : Labels) → HasTexts s → HasTexts (with_label name text s)
with_label_has_texts name text s h = either_has_texts (bytes_eq text []) (remove s name) (insert s name text)
    (λ e. removed_has_texts name s h)
    (λ e. inserted_has_texts name text s (λ none. let P : Bytes → Type 0 = λ t. bytes_eq t [] ≡ false in let f : true ≡ false = subst P none e in cc) h)
