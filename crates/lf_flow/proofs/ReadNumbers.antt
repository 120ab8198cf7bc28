-- The numbers of the names that an expression reads, and environments that are equal there.
use Rattle.std.proofs.Common.{◌≡◌, ℕ, zero, suc, ◌<◌, ◌≤◌, Bool, true, false, cond, nat_lt, List, [], ◌∷◌, length, get_or, Option, Some, None, inl, inr, refl, sym, ◌∙◌, ap, subst, arith}
use Rattle.std.proofs.Math.ListN.{set}
use Rattle.std.proofs.lemmas.Bool.{cases_lt, lt-ltb, ltb-true}
use Rattle.std.proofs.lemmas.List.{ext_get_or, length-map}
use Rattle.std.specs.List.{Contains, flat_map}
use Rattle.lf_ast.specs.Labels.{Bytes}
use Rattle.lf_ast.specs.Tree.{Tree}
use Rattle.lf_deps.proofs.Ascending.{in_range, of_range}
use Rattle.lf_deps.specs.Reading.{selectors}
use Rattle.lf_laws.proofs.Members.{here, in_flat_map, none_in, of_flat_map, only_one}
use Rattle.lf_semantics.proofs.Members.{all_of}
use Rattle.lf_semantics.specs.ClassRows.{Sets}
use Rattle.lf_semantics.specs.Listing.{Listing, place}
use Rattle.lf_semantics.specs.RowTable.{Environment, row_named, row_of}
use Rattle.lf_flow.specs.Raising.{entries}
use Rattle.lf_flow.specs.Reads.{AreEqualAt, ReadsNumber, names_of, number_of, rows_of}
use Rattle.lf_flow.specs.views.Reading.{AreSelected, numbers_selected}
use Rattle.lf_flow.proofs.Entries.{each_name, named_row, none_named}
use Rattle.lf_flow.proofs.SameRows.{SameAt, row_same}

-- an environment of its names and rows
pub entries_back : (env : Environment) → entries (names_of env) (rows_of env) ≡ env
entries_back [] = refl
entries_back (entry ∷ env) = ap (λ (rest : Environment). entry ∷ rest) (entries_back env)

length-names : (env : Environment) → length (names_of env) ≡ length env
length-names env = length-map env (λ (entry : Bytes × Sets). entry.0)

length-rows : (env : Environment) → length (rows_of env) ≡ length env
length-rows env = length-map env (λ (entry : Bytes × Sets). entry.1)

-- the row of a name, by its number

pub row_at_number : (env : Environment) (name : Bytes) (d : Sets) → number_of env name < length env → row_named env name ≡ Some (get_or (rows_of env) (number_of env name) d)
row_at_number env name d h =
    ap (λ (e : Environment). row_named e name) (sym (entries_back env))
    ∙ named_row (names_of env) (rows_of env) name d (length-names env ∙ sym (length-rows env)) (omega (arith, h, length-rows env))

pub none_at_number : (env : Environment) (name : Bytes) → length env ≤ number_of env name → row_named env name ≡ None
none_at_number env name h =
    ap (λ (e : Environment). row_named e name) (sym (entries_back env))
    ∙ none_named (names_of env) (rows_of env) name (length-names env ∙ sym (length-rows env)) (omega (arith, h, length-rows env))

-- what selectors select, by numbers

within : (n k : ℕ) (b : Bool) → nat_lt k n ≡ b → (j : ℕ) → Contains (cond b (k ∷ []) []) j → (k < n) × (k ≡ j)
within n k true e j c = (ltb-true k n e, only_one k j c)
within n k false e j c = absurd (none_in j c)

put_within : (n k : ℕ) → k < n → Contains (cond (nat_lt k n) (k ∷ []) []) k
put_within n k h = let P : Bool → Type 0 = λ b. Contains (cond b (k ∷ []) []) k in subst P (sym (lt-ltb k n h)) (here k [])

pub one_number : (names : List Bytes) (name : Bytes) (n : ℕ) → n ≡ place names name → place names name < length names → n ∷ [] ≡ numbers_selected names (Some name)
one_number names name n e h = ap (λ k. k ∷ []) e ∙ ap (λ b. cond b (place names name ∷ []) []) (sym (lt-ltb (place names name) (length names) h))

pub no_number : (names : List Bytes) (name : Bytes) → length names ≤ place names name → [] ≡ numbers_selected names (Some name)
no_number names name h = none (nat_lt (place names name) (length names)) refl
  where
    none : (b : Bool) → nat_lt (place names name) (length names) ≡ b → [] ≡ cond b (place names name ∷ []) []
    none true e = absurd (omega (arith, h, ltb-true (place names name) (length names) e))
    none false e = refl

pub selected_within : (names : List Bytes) (o : Option Bytes) (k : ℕ) → Contains (numbers_selected names o) k → k < length names
selected_within names None k c = of_range (length names) k c
selected_within names (Some name) k c = let w = within (length names) (place names name) (nat_lt (place names name) (length names)) refl k c in omega (arith, w.0, w.1)

pub read_numbers : (env : Environment) (e : Tree) (numbers : List ℕ) → AreSelected (names_of env) (selectors e) numbers → (k : ℕ) → (Contains numbers k → ReadsNumber env e k) × (ReadsNumber env e k → Contains numbers k)
read_numbers env e numbers is k = (λ c. out (of_flat_map (numbers_selected (names_of env)) (selectors e) k ((is.same k).0 c)), λ r. (is.same k).1 (back r))
  where
    found : (o : Option Bytes) → Contains (selectors e) o → Contains (numbers_selected (names_of env) o) k → ReadsNumber env e k
    found None s c = (omega (arith, of_range (length (names_of env)) k c, length-names env), inr s)
    found (Some name) s c =
        let w = within (length (names_of env)) (number_of env name) (nat_lt (number_of env name) (length (names_of env))) refl k c in (omega (arith, w.0, w.1, length-names env), inl (name, s, w.1))

    out : (o : Option Bytes) × Contains (selectors e) o × Contains (numbers_selected (names_of env) o) k → ReadsNumber env e k
    out r = found r.0 r.1 r.2

    of_name : k < length env → (name : Bytes) × Contains (selectors e) (Some name) × (number_of env name ≡ k) → Contains (flat_map (numbers_selected (names_of env)) (selectors e)) k
    of_name h r =
        let P : ℕ → Type 0 = λ j. Contains (numbers_selected (names_of env) (Some r.0)) j in
        in_flat_map (numbers_selected (names_of env)) (selectors e) (Some r.0) k r.1 (subst P r.2 (put_within (length (names_of env)) (number_of env r.0) (omega (arith, h, r.2, length-names env))))

    back : ReadsNumber env e k → Contains (flat_map (numbers_selected (names_of env)) (selectors e)) k
    back r = elim r.1 [
      | inl n ↦ of_name r.0 n
      | inr n ↦ in_flat_map (numbers_selected (names_of env)) (selectors e) None k n (in_range (length (names_of env)) k (omega (arith, r.0, length-names env)))
    ]

-- environments that are equal at numbers

module _ (env other : Environment) (numbers : List ℕ) (same : AreEqualAt numbers env other) where
  as_long : length env ≡ length other
  as_long = sym (length-names env) ∙ ap length same.0 ∙ length-names other

  pub equal_named : (name : Bytes) → (number_of env name < length env → Contains numbers (number_of env name)) → row_named env name ≡ row_named other name
  equal_named name listed = elim (cases_lt (number_of env name) (length env)) [
    | inl h ↦ (let k : number_of env name ≡ number_of other name = ap (λ names. place names name) same.0 in
        row_at_number env name [] h ∙ ap Some (same.1 (number_of env name) (listed h)) ∙ ap (λ j. Some (get_or (rows_of other) j [])) k
        ∙ sym (row_at_number other name [] (omega (arith, h, k, as_long))))
    | inr h ↦ (let k : number_of env name ≡ number_of other name = ap (λ names. place names name) same.0 in
        none_at_number env name h ∙ sym (none_at_number other name (omega (arith, h, k, as_long))))
  ]

  pub equal_all : ((k : ℕ) → k < length env → Contains numbers k) → env ≡ other
  equal_all listed =
      let rows : rows_of env ≡ rows_of other = ext_get_or [] (rows_of env) (rows_of other) (length-rows env ∙ as_long ∙ sym (length-rows other)) (λ k h. same.1 k (listed k (omega (arith, h, length-rows env)))) in
      sym (entries_back env) ∙ ap (λ names. entries names (rows_of env)) same.0 ∙ ap (λ xs. entries (names_of other) xs) rows ∙ entries_back other

pub equal_rows : (env : Environment) (e : Tree) (numbers : List ℕ) → ((k : ℕ) → ReadsNumber env e k → Contains numbers k) → (u : Listing) (other : Environment) → AreEqualAt numbers env other → row_of u env e ≡ row_of u other e
equal_rows env e numbers listed u other same = row_same u env other e (all_of (SameAt u env other) (selectors e) at)
  where
    at : (o : Option Bytes) → Contains (selectors e) o → SameAt u env other o
    at None c = equal_all env other numbers same (λ k h. listed k (h, inr c))
    at (Some name) c = equal_named env other numbers same name (λ h. listed (number_of env name) (h, inl (name, c, refl)))

-- an environment as it is kept

module _ (names : List Bytes) (rows : List Sets) (env : Environment) (is : entries names rows ≡ env) (count : length names ≡ length rows) where
  pub kept_names : names ≡ names_of env
  kept_names = sym (each_name names rows count) ∙ ap names_of is

  pub kept_count : length names ≡ length env
  kept_count = ap length kept_names ∙ length-names env

pub put_entry : (names : List Bytes) (rows : List Sets) (k : ℕ) (row : Sets) → length names ≡ length rows → k < length rows → entries names (set rows k row) ≡ set (entries names rows) k (get_or names k [], row)
put_entry [] rows k row n h = absurd (omega (arith, n, h))
put_entry (name ∷ names) [] k row n h = absurd (omega arith)
put_entry (name ∷ names) (r ∷ rows) zero row n h = refl
put_entry (name ∷ names) (r ∷ rows) (suc k) row n h = ap (λ (env : Environment). (name, r) ∷ env) (put_entry names rows k row (omega (arith, n)) (omega arith))
