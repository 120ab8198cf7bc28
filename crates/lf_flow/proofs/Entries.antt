-- Names and their rows.
use Rattle.std.proofs.Common.{◌≡◌, ◌≢◌, ℕ, zero, suc, ◌+◌, ◌<◌, ◌≤◌, Bool, true, false, not, cond, List, [], ◌∷◌, ◌++◌, length, map, get_or, Option, Some, None, inl, inr, refl, sym, ◌∙◌, ap, arith}
use Rattle.std.proofs.Math.ListN.{set}
use Rattle.std.specs.Prelude.{replicate}
use Rattle.std.proofs.lemmas.Bool.{cases_lt}
use Rattle.std.specs.Str.{bytes_eq}
use Rattle.lf_ast.specs.Labels.{Bytes}
use Rattle.lf_semantics.specs.ClassRows.{Sets, join}
use Rattle.lf_semantics.specs.Listing.{StandOnce, place}
use Rattle.lf_semantics.specs.RowTable.{Environment, row_named}
use Rattle.lf_laws.proofs.Members.{other_false, true_same}
use Rattle.lf_semantics.proofs.Places.{first_is, later_is}
use Rattle.lf_flow.specs.Raising.{entries, joined}

-- where a name stands

named_at : (names : List Bytes) (rows : List Sets) (name : Bytes) (k : ℕ) (d : Sets) → length names ≡ length rows → k ≡ place names name → k < length rows → row_named (entries names rows) name ≡ Some (get_or rows k d)
named_at names [] name k d n e h = absurd (omega arith)
named_at [] (row ∷ rows) name k d n e h = absurd (omega arith)
named_at (x ∷ names) (row ∷ rows) name zero d n e h = ap (λ b. cond b (Some row) (row_named (entries names rows) name)) (first_is (bytes_eq x name) (place names name) e)
named_at (x ∷ names) (row ∷ rows) name (suc k) d n e h =
    let l = later_is (bytes_eq x name) (place names name) k e in
    ap (λ b. cond b (Some row) (row_named (entries names rows) name)) l.0 ∙ named_at names rows name k d (omega (arith, n)) l.1 (omega (arith, h))

-- the row of a name
pub named_row : (names : List Bytes) (rows : List Sets) (name : Bytes) (d : Sets) → length names ≡ length rows → place names name < length rows → row_named (entries names rows) name ≡ Some (get_or rows (place names name) d)
named_row names rows name d n h = named_at names rows name (place names name) d n refl h

none_by : (b : Bool) (p n : ℕ) (row : Sets) (o : Option Sets) → suc n ≤ cond (not b) (1 + p) 0 → (n ≤ p → o ≡ None) → cond b (Some row) o ≡ None
none_by true p n row o h rest = absurd (omega (arith, h))
none_by false p n row o h rest = rest (omega (arith, h))

-- what isn't there has none
pub none_named : (names : List Bytes) (rows : List Sets) (name : Bytes) → length names ≡ length rows → length rows ≤ place names name → row_named (entries names rows) name ≡ None
none_named [] rows name n h = refl
none_named (x ∷ names) [] name n h = refl
none_named (x ∷ names) (row ∷ rows) name n h =
    none_by (bytes_eq x name) (place names name) (length rows) row (row_named (entries names rows) name) h (λ l. none_named names rows name (omega (arith, n)) l)

-- a row that is joined

others_stay : (names : List Bytes) (rows : List Sets) (name : Bytes) (row : Sets) → ((k : ℕ) → k < length names → get_or names k [] ≢ name) → entries names rows ≡ joined name row (entries names rows)
others_stay [] rows name row h = refl
others_stay (x ∷ names) [] name row h = refl
others_stay (x ∷ names) (r ∷ rows) name row h =
    ap (λ (b : Bool). (x, cond b (join r row) r) ∷ entries names rows) (sym (other_false x name (h 0 (omega arith))))
    ∙ ap (λ (env : Environment). (x, cond (bytes_eq x name) (join r row) r) ∷ env) (others_stay names rows name row (λ k l. h (suc k) (omega arith)))

joined_at : (names : List Bytes) (rows : List Sets) (name : Bytes) (row : Sets) (k : ℕ) (d : Sets) → StandOnce names → length names ≡ length rows → k ≡ place names name → k < length rows
    → entries names (set rows k (join (get_or rows k d) row)) ≡ joined name row (entries names rows)
joined_at names [] name row k d once n e h = absurd (omega arith)
joined_at [] (r ∷ rows) name row k d once n e h = absurd (omega arith)
joined_at (x ∷ names) (r ∷ rows) name row zero d once n e h =
    let f : bytes_eq x name ≡ true = first_is (bytes_eq x name) (place names name) e in
    let same : x ≡ name = true_same x name f in
    ap (λ (b : Bool). (x, cond b (join r row) r) ∷ entries names rows) (sym f)
    ∙ ap (λ (env : Environment). (x, cond (bytes_eq x name) (join r row) r) ∷ env) (others_stay names rows name row (λ k l q. once 0 (suc k) (omega arith) (omega arith) (same ∙ sym q)))
joined_at (x ∷ names) (r ∷ rows) name row (suc k) d once n e h =
    let l = later_is (bytes_eq x name) (place names name) k e in
    ap (λ (b : Bool). (x, cond b (join r row) r) ∷ entries names (set rows k (join (get_or rows k d) row))) (sym l.0)
    ∙ ap (λ (env : Environment). (x, cond (bytes_eq x name) (join r row) r) ∷ env)
    (joined_at names rows name row k d (λ i j a b. once (suc i) (suc j) (omega arith) (omega arith)) (omega (arith, n)) l.1 (omega (arith, h)))

pub joined_row : (names : List Bytes) (rows : List Sets) (name : Bytes) (row d : Sets) → StandOnce names → length names ≡ length rows → place names name < length rows
    → entries names (set rows (place names name) (join (get_or rows (place names name) d) row)) ≡ joined name row (entries names rows)
joined_row names rows name row d once n h = joined_at names rows name row (place names name) d once n refl h

-- rows that are all the same
pub entries_same : (names : List Bytes) (n : ℕ) (row : Sets) → n ≡ length names → entries names (replicate n row) ≡ map (λ (name : Bytes). (name, row)) names
entries_same [] n row e = refl
entries_same (x ∷ names) zero row e = absurd (omega (arith, e))
entries_same (x ∷ names) (suc n) row e = ap (λ (env : Environment). (x, row) ∷ env) (entries_same names n row (omega (arith, e)))

-- recorded names

pub recorded_within : (names : List Bytes) (rows : List Sets) (name : Bytes) → length names ≡ length rows → row_named (entries names rows) name ≢ None → place names name < length rows
recorded_within names rows name n h = elim (cases_lt (place names name) (length rows)) [
  | inl b ↦ b
  | inr b ↦ absurd (h (none_named names rows name n b))
]

replicate_suc : (n : ℕ) (row : Sets) → replicate n row ++ row ∷ [] ≡ replicate (suc n) row
replicate_suc zero row = refl
replicate_suc (suc n) row = ap (λ (rows : List Sets). row ∷ rows) (replicate_suc n row)

pub replicate_more : (n : ℕ) (row : Sets) → replicate n row ++ row ∷ [] ≡ replicate (n + 1) row
replicate_more n row = replicate_suc n row ∙ (let e : suc n ≡ n + 1 = omega arith in ap (λ k. replicate k row) e)

-- names and rows apart

pub each_name : (names : List Bytes) (rows : List Sets) → length names ≡ length rows → map (λ (entry : Bytes × Sets). entry.0) (entries names rows) ≡ names
each_name [] rows n = refl
each_name (x ∷ names) [] n = absurd (omega (arith, n))
each_name (x ∷ names) (row ∷ rows) n = ap (λ (xs : List Bytes). x ∷ xs) (each_name names rows (omega (arith, n)))

pub each_row : (names : List Bytes) (rows : List Sets) → length names ≡ length rows → map (λ (entry : Bytes × Sets). entry.1) (entries names rows) ≡ rows
each_row [] [] n = refl
each_row [] (row ∷ rows) n = absurd (omega (arith, n))
each_row (x ∷ names) [] n = absurd (omega (arith, n))
each_row (x ∷ names) (row ∷ rows) n = ap (λ (xs : List Sets). row ∷ xs) (each_row names rows (omega (arith, n)))
