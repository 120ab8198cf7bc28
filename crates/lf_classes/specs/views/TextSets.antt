-- Sets of texts, as the code keeps them: each text once, in the order in which they came first.
use Rattle.std.specs.Prelude.{◌≡◌, ◌<◌, ◌≤◌, ◌^◌, ◌%◌, ℕ, List, Option, None, Some, [], ◌∷◌, ◌++◌, cond, length, nat_lt, position, slice_index_or}
use Rattle.std.specs.BTreeMap.{BTreeMap, get_by_text}
use Rattle.std.specs.Hash.FoldHasher.{finish, initial, write}
use Rattle.std.specs.Str.{bytes_eq}
use Rattle.std.specs.declared.string.String.{String}
use Rattle.lf_ast.specs.Labels.{Bytes}
use Rattle.lf_semantics.specs.Listing.{place}
use Rattle.lf_classes.specs.declared.text_places.TextPlaces.{TextPlaces}

-- the slot of a text, of so many
unfoldable pub slot_of : Bytes → ℕ → ℕ
slot_of text count = finish (write initial text) % count

-- the place in a slot
abbrev pub in_slot : List (Option ℕ) → ℕ → Option ℕ
in_slot slots slot = slice_index_or slots slot None

-- where a text stands, by the place in its slot: there, or where the map says
abbrev pub seen : {A : Type 0} → BTreeMap (String A) ℕ → List Bytes → Bytes → Option ℕ → Option ℕ
seen others texts text None = None
seen others texts text (Some place) = cond (bytes_eq (slice_index_or texts place []) text) (Some place) (get_by_text others text)

-- each text is found where it stands first, others are found nowhere, and a text of a free slot isn't in the map
pub record HasSlots {A : Type 0} (slots : List (Option ℕ)) (others : BTreeMap (String A) ℕ) (texts : List Bytes) : Type 0 where
  pub few : length texts ≤ 2 ^ 32
  pub within : (slot at : ℕ) → in_slot slots slot ≡ Some at → at < length texts
  pub free : (text : Bytes) → in_slot slots (slot_of text (length slots)) ≡ None → get_by_text others text ≡ None
  pub each : (text : Bytes) → seen others texts text (in_slot slots (slot_of text (length slots))) ≡ position (λ other. bytes_eq other text) texts

abbrev pub HasPlaces : TextPlaces → List Bytes → Type 0
HasPlaces places texts = HasSlots places.slots.items places.others texts

-- a text goes behind the others, unless it is there
abbrev pub with_text : List Bytes → Bytes → List Bytes
with_text texts text = cond (nat_lt (place texts text) (length texts)) texts (texts ++ text ∷ [])
