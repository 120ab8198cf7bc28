-- Groups and expansions as functions, by the scan of plain patterns. They define nothing: laws in proofs/GroupLaws.antt say that they give exactly the answers of
-- `IsGroupText` and `IsExpansion`.
use Rattle.std.specs.Prelude.{ℕ, Bool, not, ◌&&◌, ◌||◌, ◌==◌, List, [], Option, Some, None, encode_utf8, if◌then◌else◌}
use Rattle.std.specs.List.{flat_map}
use Rattle.std.specs.Option.{option_map_or}
use Rattle.std.specs.Str.{chars}
use Rattle.lf_pattern.specs.Matching.{matches}
use Rattle.lf_pattern.specs.Read.{found_group}
use Rattle.lf_pattern.specs.Scan.{alternatives_of, has_pair, is_quiet}
use Rattle.lf_pattern.specs.declared.replacement.ReplacementPiece.{ReplacementPiece}
use Rattle.lf_pattern.specs.declared.replacement.ReplacementPiece.TheVariants.{Char, Group}

-- whether a plain pattern stands in a pair `( )`, which is a group; of any other pattern it says nothing
abbrev pub is_capture : List ℕ → Bool
is_capture cs = has_pair cs && not (is_quiet cs)

-- the same of its text
abbrev pub captures : List ℕ → Bool
captures text = is_capture (chars text)

-- the text of a group of a plain pattern, which stands in a pair of parentheses or doesn't
abbrev pub plain_group : Bool → List ℕ → ℕ → List ℕ
plain_group pair value n = if (n == 0) || (pair && (n == 1)) then value else []

-- the text of a group of a pattern that matches the value
abbrev pub group_text : List ℕ → List ℕ → ℕ → List ℕ
group_text p value n =
    option_map_or (λ _. plain_group (captures p) value n) (alternatives_of p) (found_group p value n)

-- what a piece stands for, by the texts of the groups
abbrev pub piece_text : (ℕ → List ℕ) → ReplacementPiece → List ℕ
piece_text group (Char c) = encode_utf8 c
piece_text group (Group n) = group n

-- what pieces stand for where there is a match
abbrev pub expanded : Bool → (ℕ → List ℕ) → List ReplacementPiece → Option (List ℕ)
expanded matched group ps = if matched then Some (flat_map (piece_text group) ps) else None

-- the expansion of a replacement's pieces
abbrev pub expansion : List ℕ → List ℕ → List ReplacementPiece → Option (List ℕ)
expansion p value ps = expanded (matches p value) (group_text p value) ps
