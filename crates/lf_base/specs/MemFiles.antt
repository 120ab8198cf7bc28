-- What contracts see of files in memory.
use Rattle.std.specs.Prelude.{ℕ, ◌+◌, List, [], Option, Some, None, drop, unwrap_or, refl}
use Rattle.std.specs.FinMap as map
use Rattle.std.specs.Ordering.{nat_cmp}
use Rattle.std.specs.Cmp.Lexicographic.{slice_cmp}
use Rattle.std.specs.Coded.{Coded, code_by, coded×, coded_ℕ, coded_list, coded_option}
use Rattle.lf_base.specs.Calls.{Calls, calls_code, answered, failed}

-- bytes by name
abbrev pub ByName : Type 0
ByName = map.FinMap {K = List ℕ} (slice_cmp nat_cmp) (List ℕ)

-- the files, the bytes left to read of the one that is open, how many calls of `open` there were, and the calls of `open` and `read`
pub record FilesState : Type 0 where
  pub files : ByName
  pub left : Option (List ℕ)
  pub opens : ℕ
  pub calls : Calls

-- a state is stored as the tuple of its fields
abbrev pub state_code : Coded FilesState
state_code =
    code_by (ByName × (Option (List ℕ) × (ℕ × Calls))) (coded× (map.code (coded_list coded_ℕ) (coded_list coded_ℕ)) (coded× (coded_option (coded_list coded_ℕ)) (coded× coded_ℕ calls_code)))
    (λ s. (s.files, (s.left, (s.opens, s.calls)))) (λ p. record { files = p.0; left = p.1.0; opens = p.1.1.0; calls = p.1.1.1 }) (λ _. refl)

-- the bytes held under a name
abbrev pub held : FilesState → List ℕ → Option (List ℕ)
held state name = map.get state.files name

-- the file of this name has these bytes, and no file is open
abbrev pub with_file : FilesState → List ℕ → List ℕ → FilesState
with_file state name bytes = record state { files = map.insert state.files name bytes; left = None }

-- an `open` that is answered: the bytes left are those held under the name
abbrev pub opened : FilesState → List ℕ → FilesState
opened state name = record state { left = held state name; opens = state.opens + 1; calls = answered state.calls }

-- an `open` that fails: only the counts rise
abbrev pub not_opened : FilesState → FilesState
not_opened state = record state { opens = state.opens + 1; calls = failed state.calls }

-- the bytes left to read, none where no file is open
abbrev pub rest : FilesState → List ℕ
rest state = unwrap_or state.left []

-- a `read` that is answered with n bytes: they are no longer left
abbrev pub read_on : FilesState → ℕ → FilesState
read_on state n = record state { left = Some (drop n (rest state)); calls = answered state.calls }
