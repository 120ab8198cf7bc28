-- What the clauses of `regex` say of `reading`.
use Rattle.std.proofs.Common.{ne_eqb, cond, ◌==◌, ◌*◌, ◌+◌, zero, suc, ap₂, option_map, ◌≡◌, ℕ, length, ◌<◌, ◌≤◌, true, false, List, [], Option, None, Some, is_some, IsSomeAnd, IfSome, refl, sym, ap, ◌∙◌, inl, inr, arith, get_or, nat_le}
use Rattle.std.specs.Str.{chars}
use Rattle.std.proofs.lemmas.Option.{same_Some}
use Rattle.std.specs.Prelude.{option_and_then}
use Rattle.std.specs.Option.{option_map_or}
use Rattle.std.proofs.lemmas.Bool.{cond-true, cond-false}
use Rattle.std.proofs.lemmas.Bool.Decides.{nat_tests}
use Rattle.regex.specs.Patterns.{Re, Match, find_str, slot_of, span, default_config, SameCaptures}
use Rattle.regex.specs.Replace.{bytes_of, group_bytes}
use Rattle.regex.specs.Search.{group_span}
use Rattle.regex.specs.Writes.{group_of, both}
use Rattle.regex.specs.Strings.{captures_span, IsCapturesOf}
use Rattle.regex.specs.declared.string.captures.Captures.{Captures}
use Rattle.regex.specs.Sources.{IsRefusal}
use Rattle.regex.specs.Failures.{IsRightKind}
use Rattle.regex.specs.Strings.{regex_source, regex_config, regex_pattern, IsReadFromSource}
use Rattle.regex.specs.declared.string.regex.Regex.{Regex}
use Rattle.regex.specs.declared.error.Error.TheVariants.{Syntax}
use Rattle.regex.proofs.ForCallers.{is_match_alike, span_alike, found_alike}
use Rattle.regex_hir.specs.declared.hir.Hir.{Hir}
use Rattle.regex_hir.specs.Meaning.{meaning}
use Rattle.regex_syntax.specs.Grammar.{read, Names, group_count}
use Rattle.regex_syntax.specs.Brackets.{Nested}
use Rattle.regex_syntax.specs.Verdict.{Reads, Refuses}
use Rattle.regex_syntax.specs.declared.Config.{Config}
use Rattle.regex_syntax.specs.declared.error.Error as parser
use Rattle.lf_pattern.specs.Read.{anchored, reading, finds, found_group, within_limit}
use Rattle.lf_pattern.specs.views.Groups.{captured_text, group_of_match}

-- the pattern that was read, and m means the same
abbrev IsReadLike : Option (Nested Re × Names) → Re → Type 0
IsReadLike o m = (re : Re) × (option_and_then within_limit o ≡ Some re) × SameCaptures m re

read_like : (o : Option (Nested Re × Names)) (m : Re) (names : Names) (n : ℕ) →
    IsSomeAnd o (λ (re, found). (re.depth ≤ 250) × SameCaptures m re.value × (names ≡ found) × (n ≤ length names)) → IsReadLike o m
read_like None m names n h = absurd h
read_like (Some r) m names n h = let le : r.0.depth ≤ 250 = h.0 in (r.0.value, cond-true (nat_le r.0.depth 250) _ _ (grind (arith, nat_tests)), h.1)

reads_like : (p : List ℕ) (config : Config) (hir : Hir) (names : Names) → config ≡ default_config → Reads config (anchored p) hir names →
    (re : Re) × (reading p ≡ Some re) × SameCaptures (meaning hir) re
unfolding reading Reads
reads_like p config hir names c h = read_like (read default_config (chars (anchored p))) (meaning hir) names (group_count (meaning hir)) (rw c at h)

pub reads_reading : (r : Regex) (p : List ℕ) → regex_source r ≡ anchored p → regex_config r ≡ default_config → IsReadFromSource r →
    (re : Re) × (reading p ≡ Some re) × SameCaptures (regex_pattern r) re
reads_reading r p s c h = reads_like p r.pattern.config _ _ c (rw s at h)

too_deep : (o : Option (Nested Re × Names)) → IfSome o (λ r. 250 < r.0.depth) → option_and_then within_limit o ≡ None
too_deep None h = refl
too_deep (Some r) h = let lt : 250 < r.0.depth = h in cond-false (nat_le r.0.depth 250) _ _ (grind (arith, nat_tests))

pub refused_reading : (p : List ℕ) (config : Config) (source : List ℕ) (e : parser.Error) → config ≡ default_config → source ≡ anchored p →
    IsRefusal config source (Syntax e) → IsRightKind config source (Syntax e) → reading p ≡ None
unfolding reading Refuses
refused_reading p config source e k s refusal right = elim (let h = refusal e refl in rw (k, s) at h) [
  | inl memory ↦ absurd (right memory)
  | inr w ↦ elim w [ inl none ↦ ap (option_and_then within_limit) none | inr deep ↦ too_deep _ deep.1 ]
]

pub is_some_of : (o : Option Re) (re : Re) → o ≡ Some re → is_some o ≡ true
is_some_of o re h = ap is_some h

-- what `is_match` gives
pub found_by : (r : Regex) (p value : List ℕ) → regex_source r ≡ anchored p → regex_config r ≡ default_config → IsReadFromSource r →
    ((k : ℕ) → get_or value k 0 < 256) → is_some (find_str (regex_pattern r) value 0) ≡ finds p value
found_by r p value s c h bytes =
    let (re, e, same) = reads_reading r p s c h in
    is_match_alike same value bytes true 0 ∙ sym (ap (λ (o : Option Re). option_map_or (λ re. is_some (find_str re value 0)) o false) e)

-- ---- groups

same_group : (hay : List ℕ) (m k : Match) (n : ℕ) → span k ≡ span m → slot_of k ≡ slot_of m → group_bytes hay k n ≡ group_bytes hay m n
same_group hay m k n s e =
    ap₂ (λ (a b : Option (ℕ × ℕ)). bytes_of hay (cond (n == 0) a b)) (ap Some s) (ap (λ (f : ℕ → Option ℕ). both (f (2 * n)) (f (2 * n + 1))) e)

module _ (r : Regex) (p value : List ℕ) (s : regex_source r ≡ anchored p) (c : regex_config r ≡ default_config) (h : IsReadFromSource r)
    (bytes : (k : ℕ) → get_or value k 0 < 256) where
  pub found_none : find_str (regex_pattern r) value 0 ≡ None → finds p value ≡ false
  found_none e = sym (found_by r p value s c h bytes) ∙ ap is_some e

  pub found_some : (m : Match) → find_str (regex_pattern r) value 0 ≡ Some m → finds p value ≡ true
  found_some m e = sym (found_by r p value s c h bytes) ∙ ap is_some e

  -- any group but the whole value
  pub group_some : (m : Match) (n : ℕ) → find_str (regex_pattern r) value 0 ≡ Some m → found_group p value (suc n) ≡ group_bytes value m (suc n)
  group_some m n e =
      let (re, is, same) = reads_reading r p s c h in
      let (k, found, slots) = found_alike same value bytes true 0 m e in
      let spans : span k ≡ span m = same_Some _ _ (sym (ap (option_map span) found) ∙ sym (span_alike same value bytes true 0) ∙ ap (option_map span) e) in
      cond-false (suc n == 0) value _ (ne_eqb (suc n) 0 (omega arith))
      ∙ ap (λ (o : Option Re). option_map_or (λ m. group_bytes value m (suc n)) (option_and_then (λ re. find_str re value 0) o) []) is
      ∙ ap (λ (o : Option Match). option_map_or (λ m. group_bytes value m (suc n)) o []) found
      ∙ same_group value m k (suc n) spans slots

-- what `get` gives of captures
pub captured : (caps : Captures) (hay : List ℕ) (m : Match) (n : ℕ) → IsCapturesOf hay m caps → bytes_of hay (captures_span caps n) ≡ group_bytes hay m n
unfolding group_span
captured caps hay m zero q = ap (λ (x : ℕ × ℕ). bytes_of hay (Some x)) q.1.whole_is
captured caps hay m (suc n) q = ap (bytes_of hay) (q.2 (suc n) (omega arith) ∙ sym (cond-false (suc n == 0) (Some (span m)) (group_of m (suc n)) (ne_eqb (suc n) 0 (omega arith))))

pub captured-text : (caps : Captures) (hay : List ℕ) (m : Match) (n : ℕ) → IsCapturesOf hay m caps → captured_text caps n ≡ group_bytes hay m n
captured-text caps hay m n q = ap (λ (h : List ℕ). bytes_of h (captures_span caps n)) q.0 ∙ captured caps hay m n q

-- every group but the whole value is that of the captures
pub group_later : (value : List ℕ) (caps : Captures) (n : ℕ) → group_of_match value caps (suc n) ≡ captured_text caps (suc n)
group_later value caps n = cond-false (suc n == 0) value _ (ne_eqb (suc n) 0 (omega arith))
