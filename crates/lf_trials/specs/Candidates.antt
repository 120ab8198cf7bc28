-- Candidates: for each class of a label the text that stands for it, and the name of the label that stands for `*`.
use Rattle.std.specs.Prelude.{ℕ, suc, ◌+◌, Bool, true, false, not, ◌&&◌, cond, List, [], ◌∷◌, ◌++◌, map, length, Option, Some, None, codes, decimal, unwrap_or}
use Rattle.std.specs.List.{find, list_any, range_with_len}
use Rattle.std.specs.Str.{bytes_eq}
use Rattle.lf_ast.specs.Labels.{Bytes}
use Rattle.lf_semantics.specs.ClassRows.{Sets, holds}
use Rattle.lf_semantics.specs.Listing.{Listing, class_texts, label_of, named_at}

-- the text is one of these
abbrev pub is_one_of : List Bytes → Bytes → Bool
is_one_of texts text = list_any (bytes_eq text) texts

-- so many of `v1`, `v2`, .. (for the letter `v`)
abbrev pub numbered : Bytes → ℕ → List Bytes
numbered letter count = map (λ k. letter ++ decimal (k + 1)) (range_with_len 0 count)

-- the first of `v1`, `v2`, .. that isn't taken: of one more than there are taken ones, one is free
abbrev pub first_free : Bytes → List Bytes → Bytes
first_free letter taken = unwrap_or (find (λ text. not (is_one_of taken text)) (numbered letter (length taken + 1))) []

-- the name that stands for `*`: the first of `x1`, `x2`, .. that isn't in the universe
abbrev pub other_name : Listing → Bytes
other_name u = first_free (codes "x") u.names

-- the labels of the universe by their names, and last the one that stands for `*`
abbrev pub labels_in : Listing → List Bytes
labels_in u = u.names ++ other_name u ∷ []

-- the candidates of a label: the texts of its classes in their order, and last, for 'any other text', the first of `v1`, `v2`, .. that is no class
abbrev pub candidates : Listing → Bytes → List Bytes
candidates u name = class_texts u (label_of u name) ++ first_free (codes "v") (named_at u (label_of u name)) ∷ []

-- the texts of the classes that are chosen, beginning with class k
abbrev pub chosen_from : (ℕ → Bool) → ℕ → List Bytes → List Bytes
chosen_from chosen k [] = []
chosen_from chosen k (text ∷ texts) = cond (chosen k) (text ∷ chosen_from chosen (suc k) texts) (chosen_from chosen (suc k) texts)

-- the candidates of a label whose classes are chosen
abbrev pub candidates_of : Listing → Bytes → (ℕ → Bool) → List Bytes
candidates_of u name chosen = chosen_from chosen 0 (candidates u name)

-- the class is in the label's set of a row
abbrev pub in_row : Listing → Sets → Bytes → ℕ → Bool
in_row u row name class = holds row (label_of u name) class

-- the candidates of a label that lie in its set of a row: those whose classes do
abbrev pub candidates_in : Listing → Sets → Bytes → List Bytes
candidates_in u row name = candidates_of u name (in_row u row name)

-- those that lie in the sets of both rows
abbrev pub candidates_in_both : Listing → Sets → Sets → Bytes → List Bytes
candidates_in_both u row other name = candidates_of u name (λ class. in_row u row name class && in_row u other name class)

abbrev pub first : List Bytes → Option Bytes
first [] = None
first (text ∷ texts) = Some text

-- whether the text says that the label is present, or that it is absent
abbrev pub has_presence : Bool → Bytes → Bool
has_presence true text = not (bytes_eq text [])
has_presence false text = bytes_eq text []
