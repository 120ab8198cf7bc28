-- Rows: for each label of a universe, which of its classes are in its set.
use Rattle.std.specs.Prelude.{◌≡◌, ℕ, suc, Bool, true, false, ◌&&◌, ◌||◌, cond, eqb, List, [], ◌∷◌, map, length, replicate, slice_index_or}
use Rattle.std.specs.List.{list_any, list_all}
use Rattle.lf_ast.specs.Labels.{Bytes, Labels}
use Rattle.lf_semantics.specs.Listing.{Listing, class_counts, class_of, label_of}
use Rattle.lf_semantics.specs.Texts.{value_of}

abbrev pub Sets : Type 0
Sets = List (List Bool)

-- a class is in the set of a label
abbrev pub holds : Sets → ℕ → ℕ → Bool
holds row label class = slice_index_or (slice_index_or row label []) class false

-- each label has a class. A row in which some label has none is the empty row
abbrev pub is_live : Sets → Bool
is_live row = list_all (λ set. list_any (λ on. on) set) row

-- each element made anew, from its place and itself
abbrev pub indexed_from : {A B : Type 0} → (ℕ → A → B) → ℕ → List A → List B
indexed_from f k [] = []
indexed_from f k (x ∷ xs) = f k x ∷ indexed_from f (suc k) xs

-- each class made anew: from its label, from itself, and from whether it is in the set
abbrev pub remade : (ℕ → ℕ → Bool → Bool) → Sets → Sets
remade f row = indexed_from (λ label set. indexed_from (λ class on. f label class on) 0 set) 0 row

-- no class of any label
abbrev pub emptied : Sets → Sets
emptied row = map (λ set. map (λ on. false) set) row

-- the empty row where some label has no class
abbrev pub normalized : Sets → Sets
normalized row = cond (is_live row) row (emptied row)

-- the greatest row of a universe: every class of each label
abbrev pub top : Listing → Sets
top u = map (λ count. replicate count true) (class_counts u)

-- the least row of a universe: the empty one
abbrev pub bottom : Listing → Sets
bottom u = emptied (top u)

-- Changes of a row. The empty row stays empty.

-- the classes that pass
abbrev pub narrowed : (ℕ → ℕ → Bool) → Sets → Sets
narrowed test row = normalized (remade (λ label class on. on && test label class) row)

-- at the labels that are chosen, the classes that pass and no others
abbrev pub replaced : (ℕ → Bool) → (ℕ → ℕ → Bool) → Sets → Sets
replaced chosen test row = cond (is_live row) (normalized (remade (λ label class on. cond (chosen label) (test label class) on) row)) row

-- at the labels that are chosen, only the empty text
abbrev pub only_empty : (ℕ → Bool) → Sets → Sets
only_empty chosen row = replaced chosen (λ label class. eqb class 0) row

-- at one label, only one class
abbrev pub set_to : ℕ → ℕ → Sets → Sets
set_to label class row = replaced (λ l. eqb label l) (λ l c. eqb c class) row

-- with a class put into the set of a label, or taken out of it
abbrev pub kept : ℕ → ℕ → Bool → Sets → Sets
kept label class on row = cond (is_live row) (normalized (remade (λ l c before. cond (eqb l label && eqb c class) on before) row)) row

-- the least upper bound of two rows: the classes that one of them has; an empty row adds nothing
abbrev pub join : Sets → Sets → Sets
join row other = cond (is_live row) (cond (is_live other) (remade (λ label class on. on || holds other label class) row) row) other

-- the greatest lower bound of two rows: the classes that both have
abbrev pub meet : Sets → Sets → Sets
meet row other = narrowed (holds other) row

-- a set for each label, with a place for each class
abbrev pub HasShape : Listing → Sets → Type 0
HasShape u row = map length row ≡ class_counts u

-- the class of a text is in the set of its label; a name outside the universe has the label `*`
abbrev pub HoldsText : Listing → Sets → Bytes → Bytes → Type 0
HoldsText u row name text = holds row (label_of u name) (class_of u (label_of u name) text) ≡ true

-- A row represents a label set, which is a member of its concretization: the row isn't empty, and holds the label set's text of every name.
abbrev pub Represents : Listing → Sets → Labels → Type 0
Represents u row s = (is_live row ≡ true) × ((name : Bytes) → HoldsText u row name (value_of s name))
