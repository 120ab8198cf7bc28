-- The rules left to be ordered, and which of them wait: how contracts see the code. It defines nothing.
use Rattle.std.specs.Prelude.{◌≡◌, ◌⊎◌, ◌<◌, ◌≤◌, ◌+◌, ℕ, Bool, true, false, cond, eqb, List, [], ◌∷◌, length, replicate, slice_index_or, slice_set}
use Rattle.std.specs.List.{Contains}
use Rattle.lf_deps.specs.views.Links.{recorded_by, waited_by}
use Rattle.lf_deps.specs.declared.links.Links.{Links}
use Rattle.lf_deps.specs.declared.queue.Queue.{Queue}

-- the rule isn't taken yet
abbrev pub IsLeft : List Bool → ℕ → Type 0
IsLeft taken k = slice_index_or taken k true ≡ false

-- a rule left records a source that the rule waits for
abbrev pub IsHeld : Links → List Bool → ℕ → Type 0
IsHeld links taken k = (s : ℕ) × Contains (waited_by links k) s × (j : ℕ) × IsLeft taken j × Contains (recorded_by links j) s

-- the least of the rules left that aren't held, and the least of all where each is
abbrev pub IsNextOf : Links → List Bool → ℕ → Type 0
IsNextOf links taken k =
    IsLeft taken k
    × (((IsHeld links taken k → ⊥) × ((j : ℕ) → IsLeft taken j → (IsHeld links taken j → ⊥) → k ≤ j))
    ⊎ (((j : ℕ) → IsLeft taken j → IsHeld links taken j) × ((j : ℕ) → IsLeft taken j → k ≤ j)))

-- how often a source is in a list, in all lists, and in those of the rules left
abbrev pub occurs : ℕ → List ℕ → ℕ
occurs s [] = 0
occurs s (x ∷ xs) = cond (eqb x s) 1 0 + occurs s xs

abbrev pub occurs_in : ℕ → List (List ℕ) → ℕ
occurs_in s [] = 0
occurs_in s (xs ∷ lists) = occurs s xs + occurs_in s lists

abbrev pub count_left : ℕ → List Bool → List (List ℕ) → ℕ
count_left s [] lists = 0
count_left s (t ∷ taken) [] = 0
count_left s (t ∷ taken) (xs ∷ lists) = cond t 0 (occurs s xs) + count_left s taken lists

-- there are the same rules in both parts, and each source is one of those counted
pub record IsWhole (links : Links) : Type 0 where
  pub rules : length links.recorded ≡ length links.waited
  pub waited : (k s : ℕ) → Contains (waited_by links k) s → s < links.sources
  pub recorded : (k s : ℕ) → Contains (recorded_by links k) s → s < links.sources

-- each source is counted
abbrev pub AreCounts : Links → List Bool → List ℕ → Type 0
AreCounts links taken counts = (s : ℕ) → s < links.sources → slice_index_or counts s 0 ≡ count_left s taken links.recorded

pub record HasSizes (links : Links) (q : Queue) : Type 0 where
  pub counts : length q.counts.items ≡ links.sources
  pub listed : length q.listed ≡ links.sources
  pub seen : length q.seen.items ≡ length links.waited
  pub taken : length q.taken.items ≡ length links.waited
  pub listed_rules : (s k : ℕ) → Contains (slice_index_or q.listed s []) k → k < length links.waited
  pub due_rules : (k : ℕ) → Contains q.due k → k < length links.waited

-- no source of the rule has a rule left
abbrev pub IsFree : Links → List ℕ → ℕ → Type 0
IsFree links counts k = (s : ℕ) → Contains (waited_by links k) s → slice_index_or counts s 0 ≡ 0

-- the rule is listed at a source of its own that has a rule left
abbrev pub IsListed : Links → Queue → ℕ → Type 0
IsListed links q k = (s : ℕ) × Contains (waited_by links k) s × (0 < slice_index_or q.counts.items s 0) × Contains (slice_index_or q.listed s []) k

-- Each rule left is due to be looked at, or free, or listed, but for those set aside.
pub record IsQueue (links : Links) (q : Queue) (aside : List ℕ) : Type 0 where
  pub sizes : HasSizes links q
  pub seen : (k i : ℕ) → i < slice_index_or q.seen.items k 0 → i < length (waited_by links k) → slice_index_or q.counts.items (slice_index_or (waited_by links k) i 0) 0 ≡ 0
  pub free : (k : ℕ) → Contains q.free k → IsLeft q.taken.items k × IsFree links q.counts.items k
  pub settled : (k : ℕ) → IsLeft q.taken.items k → Contains aside k ⊎ (Contains q.due k ⊎ (Contains q.free k ⊎ IsListed links q k))
  pub low : (j : ℕ) → j < q.least → slice_index_or q.taken.items j true ≡ true

-- and none is due
pub record IsReady (links : Links) (q : Queue) : Type 0 where
  pub queue : IsQueue links q []
  pub none_due : q.due ≡ []
  pub counts : AreCounts links q.taken.items q.counts.items

-- at first no rule is taken
pub record IsStart (links : Links) (q : Queue) : Type 0 where
  pub ready : IsReady links q
  pub taken : q.taken.items ≡ replicate (length links.waited) false

-- The next rule is taken.
pub record TakesNext (links : Links) (q later : Queue) (k : ℕ) : Type 0 where
  pub ready : IsReady links later
  pub next : IsNextOf links q.taken.items k
  pub taken : later.taken.items ≡ slice_set q.taken.items k true

-- Rules that are due are looked at, and nothing else is changed.
pub record Settles (links : Links) (q later : Queue) : Type 0 where
  pub queue : IsQueue links later []
  pub counts : later.counts ≡ q.counts
  pub taken : later.taken ≡ q.taken

-- A rule left is chosen: the least of those that are free, and where none is, the least of all.
pub record Chooses (q later : Queue) (k : ℕ) : Type 0 where
  pub same : later ≡ record q { free = later.free; least = later.least }
  pub left : IsLeft q.taken.items k
  pub chosen : ((q.free ≡ k ∷ later.free) × ((j : ℕ) → Contains later.free j → k < j))
      ⊎ ((q.free ≡ []) × (later.free ≡ []) × ((j : ℕ) → IsLeft q.taken.items j → k ≤ j))
  pub low : (j : ℕ) → j < later.least → slice_index_or q.taken.items j true ≡ true

-- Sources are counted down, and what is listed at those that come to none is due.
pub record CountsDown (listed : List (List ℕ)) (sources counts after due later : List ℕ) : Type 0 where
  pub counted : (s : ℕ) → slice_index_or after s 0 + occurs s sources ≡ slice_index_or counts s 0
  pub kept : (k : ℕ) → Contains due k → Contains later k
  pub moved : (s k : ℕ) → 0 < slice_index_or counts s 0 → slice_index_or after s 0 ≡ 0 → Contains (slice_index_or listed s []) k → Contains later k
  pub only : (k : ℕ) → Contains later k → Contains due k ⊎ ((s : ℕ) × Contains (slice_index_or listed s []) k)
