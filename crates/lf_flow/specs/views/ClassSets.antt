-- The set of the classes of a label that pass a test, as a list of whether each does.
use Rattle.std.specs.Prelude.{◌≡◌, ◌<◌, ◌&&◌, ℕ, Bool, false, List, length, nat_lt, slice_index_or}
use Rattle.std.specs.List.{list_any}
use Rattle.std.specs.Str.{bytes_eq}
use Rattle.lf_ast.specs.Labels.{Bytes}
use Rattle.lf_semantics.specs.Listing.{Listing, other_class}
use Rattle.lf_semantics.specs.RowTable.{text_of}

pub record IsSet (n : ℕ) (test : ℕ → Bool) (on : List Bool) : Type 0 where
  pub count : length on ≡ n
  pub each : (class : ℕ) → class < n → slice_index_or on class false ≡ test class

-- the text of a class is among some; 'any other text' never is
abbrev pub is_listed : Listing → ℕ → List Bytes → ℕ → Bool
is_listed u label texts class = nat_lt class (other_class u label) && list_any (λ text. bytes_eq text (text_of u label class)) texts
