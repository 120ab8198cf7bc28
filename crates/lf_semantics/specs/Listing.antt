-- The universe: the labels that the rules name, and the classes of each.
use Rattle.std.specs.Prelude.{◌≡◌, ◌≢◌, ℕ, ◌+◌, ◌<◌, not, List, [], ◌∷◌, ◌++◌, map, length, codes, decimal, slice_index_or}
use Rattle.std.specs.List.{Contains, filter, flat_map, position_or_len, sum}
use Rattle.std.specs.Str.{bytes_eq}
use Rattle.lf_ast.specs.Labels.{Bytes}
use Rattle.lf_ast.specs.Rules.{RuleTree}
use Rattle.lf_ast.specs.Selectors.{metric}
use Rattle.lf_semantics.specs.Mentions.{Mention, rules_mentions}

-- the names of the labels but `*`, and for each of them, and behind these for `*`, the texts that are classes of their own. `*` has none
pub record Listing : Type 0 where
  pub names : List Bytes
  pub named : List (List Bytes)

-- each text once, in the order in which they come first
abbrev pub first_seen : List Bytes → List Bytes
first_seen [] = []
first_seen (x ∷ xs) = x ∷ filter (λ y. not (bytes_eq y x)) (first_seen xs)

-- `__name__`, and then the labels that are named
abbrev pub labels_mentioned : List Mention → List Bytes
labels_mentioned items = first_seen (metric ∷ map (λ m. m.label) items)

-- the texts that are named with a label, but for the empty one
abbrev pub texts_mentioned : List Mention → Bytes → List Bytes
texts_mentioned items label = first_seen (filter (λ t. not (bytes_eq t [])) (flat_map (λ m. m.texts) (filter (λ m. bytes_eq m.label label) items)))

-- `*` has no text that is a class of its own
abbrev pub listing_of : List Mention → Listing
listing_of items = record { names = labels_mentioned items; named = map (texts_mentioned items) (labels_mentioned items) ++ [] ∷ [] }

-- the universe of rules
abbrev pub universe_of : List RuleTree → Listing
universe_of rules = listing_of (rules_mentions rules)

-- labels and classes by their numbers

-- the first place of a text, or the length
abbrev pub place : List Bytes → Bytes → ℕ
place xs t = position_or_len (λ x. bytes_eq x t) xs

-- the number of a label: its place among the names, or that of `*`, which comes behind them
abbrev pub label_of : Listing → Bytes → ℕ
label_of u name = place u.names name

-- the texts of a label that are classes of their own
abbrev pub named_at : Listing → ℕ → List Bytes
named_at u label = slice_index_or u.named label []

-- the texts of the classes of a label, but for 'any other text': first the empty one
abbrev pub class_texts : Listing → ℕ → List Bytes
class_texts u label = [] ∷ named_at u label

-- the class of a text of a label, which is the last one where no class is its own
abbrev pub class_of : Listing → ℕ → Bytes → ℕ
class_of u label text = place (class_texts u label) text

-- the class of 'any other text'
abbrev pub other_class : Listing → ℕ → ℕ
other_class u label = length (named_at u label) + 1

-- how many classes each label has
abbrev pub class_counts : Listing → List ℕ
class_counts u = map (λ named. length named + 2) u.named

-- what the limits are on: the labels without `*`, and the classes of all labels together
abbrev pub label_count : Listing → ℕ
label_count u = length u.names

abbrev pub class_count : Listing → ℕ
class_count u = sum (class_counts u)

-- no member stands twice: none of a list stands again behind itself
abbrev pub AreDistinct : {X : Type 0} → List X → Type 0
AreDistinct [] = Unit {0}
AreDistinct (x ∷ xs) = (Contains xs x → ⊥) × AreDistinct xs

-- no text stands twice, by the places of the texts
abbrev pub StandOnce : List Bytes → Type 0
StandOnce xs = (k l : ℕ) → k < l → l < length xs → slice_index_or xs k [] ≢ slice_index_or xs l []

-- `__name__` comes first and no name stands twice. There are texts for each name and for `*`: those of a label stand once, and none is empty; `*` has none
pub record IsListing (u : Listing) : Type 0 where
  pub some : 0 < length u.names
  pub first : slice_index_or u.names 0 [] ≡ metric
  pub distinct : StandOnce u.names
  pub count : length u.named ≡ length u.names + 1
  pub texts_distinct : (label : ℕ) → StandOnce (named_at u label)
  pub texts_some : (label : ℕ) (text : Bytes) → Contains (named_at u label) text → text ≢ []
  pub other_none : named_at u (length u.names) ≡ []

-- texts that stand for others

-- the first of `v1`, `v2`, .. (for the letter `v`) that isn't taken
abbrev pub IsFirstFree : Bytes → List Bytes → Bytes → Type 0
IsFirstFree letter taken text =
    (k : ℕ) × (text ≡ letter ++ decimal (k + 1)) × (Contains taken text → ⊥) × ((j : ℕ) → j < k → Contains taken (letter ++ decimal (j + 1)))

-- the text that stands for a class: its own, and for 'any other text' the first of `v1`, `v2`, .. that is no class
pub record IsCandidate (u : Listing) (label class : ℕ) (text : Bytes) : Type 0 where
  pub own : class < other_class u label → text ≡ slice_index_or (class_texts u label) class []
  pub other : class ≡ other_class u label → IsFirstFree (codes "v") (named_at u label) text

-- the name that stands for `*`: the first of `x1`, `x2`, .. that isn't in the universe
abbrev pub IsOtherName : Listing → Bytes → Type 0
IsOtherName u name = IsFirstFree (codes "x") u.names name
