-- The generated rule file grows rule by rule.
use Rattle.std.proofs.Common.{◌≡◌, ℕ, ◌+◌, List, [], ◌∷◌, ◌++◌, map, codes, sym, ap, ◌∙◌, append_assoc, append-nil, arith}
use Rattle.std.proofs.lemmas.List.Concat.{flat_map-append}
use Rattle.std.proofs.lemmas.List.Folds.{flat_map-map}
use Rattle.std.proofs.lemmas.List.FromFn.{map-range_with_len_more}
use Rattle.std.specs.List.{flat_map, range_with_len}
use Rattle.lf_gen.specs.Generated.{generated, head_lines, kind_lines, lines_of_rule}
use Rattle.lf_base.specs.Lines.{lines_text}
use Rattle.lf_base.specs.Names.{Bytes}
use Prim.Native.Nat.{◌%◌}

pub lines_text-append : (lines more : List Bytes) → lines_text (lines ++ more) ≡ lines_text lines ++ lines_text more
lines_text-append lines more = flat_map-append (λ line. line ++ 10 ∷ []) lines more

abbrev same : List Bytes → List Bytes
same lines = lines

rules_more : (n : ℕ) → flat_map lines_of_rule (range_with_len 0 (n + 1)) ≡ flat_map lines_of_rule (range_with_len 0 n) ++ lines_of_rule n
rules_more n =
    sym (flat_map-map same lines_of_rule (range_with_len 0 (n + 1)))
    ∙ ap (flat_map same) (map-range_with_len_more lines_of_rule 0 n n (omega arith))
    ∙ flat_map-append same (map lines_of_rule (range_with_len 0 n)) (lines_of_rule n ∷ [])
    ∙ ap (λ l. l ++ (lines_of_rule n ++ [])) (flat_map-map same lines_of_rule (range_with_len 0 n))
    ∙ ap (λ l. flat_map lines_of_rule (range_with_len 0 n) ++ l) (append-nil (lines_of_rule n))

-- one more rule
pub generated_more : (n : ℕ) → (generated n ++ lines_text (head_lines n)) ++ lines_text (kind_lines (n % 4) n) ≡ generated (n + 1)
generated_more n =
    append_assoc (generated n) (lines_text (head_lines n)) (lines_text (kind_lines (n % 4) n))
    ∙ ap (λ l. generated n ++ l) (sym (lines_text-append (head_lines n) (kind_lines (n % 4) n)))
    ∙ sym (lines_text-append (codes "groups:" ∷ flat_map lines_of_rule (range_with_len 0 n)) (lines_of_rule n))
    ∙ ap (λ l. lines_text (codes "groups:" ∷ l)) (sym (rules_more n))
