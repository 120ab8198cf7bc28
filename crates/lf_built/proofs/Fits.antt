-- Which numbers of rules fit, by what was prepared.
use Rattle.std.proofs.Common.{◌≡◌, ◌<◌, ◌+◌, ℕ, Bool, true, false, not, ◌&&◌, List, [], ◌∷◌, map, length, reverse, get_or, Option, Some, None, sym, ◌∙◌, ap, subst, arith}
use Rattle.std.specs.Prelude.{slice_get}
use Rattle.std.specs.List.{Contains, find, flat_map}
use Rattle.std.specs.Option.{option_map_or}
use Rattle.std.specs.Str.{bytes_eq}
use Rattle.std.proofs.lemmas.Bool.{and_parts, not-true}
use Rattle.std.proofs.lemmas.List.{get_or-map}
use Rattle.std.proofs.lemmas.Option.{get_or_from_slice_get, slice_get_within}
use Rattle.lf_ast.specs.Labels.{Bytes}
use Rattle.lf_ast.specs.Rules.{RuleTree}
use Rattle.lf_ast.specs.Tree.{parts_of, nodes}
use Rattle.lf_deps.specs.views.Search.{numbers_of}
use Rattle.lf_deps.proofs.Numbered.{of_numbers}
use Rattle.lf_semantics.specs.ClassRows.{Sets}
use Rattle.lf_semantics.specs.Environments.{records, recorded_row, rule_row}
use Rattle.lf_semantics.specs.RowTable.{row_of}
use Rattle.lf_trials.specs.Built.{fits}
use Rattle.lf_trials.specs.Candidates.{labels_in}
use Rattle.lf_trials.specs.Given.{Given, holds_texts}
use Rattle.lf_trials.specs.Reached.{first_rule, is_marked}
use Rattle.lf_candidates.specs.views.Packed.{PackedRow, no_row}
use Rattle.lf_built.specs.declared.prepared.Prepared.{Prepared}
use Rattle.lf_built.specs.views.Fitting.{IsFirstRule}
use Rattle.lf_built.specs.views.Indexed.{IsPrepared, env_of, forks_of, trees_of, universe_of}
use Rattle.lf_built.specs.views.Marking.{set_by}
use Rattle.lf_built.specs.views.PartRows.{PartRows, packed_row, part_rows}
use Rattle.lf_built.specs.views.RuleRows.{IsStored, own_or}
use Rattle.lf_built.proofs.OwnRows.{as_many, begins, side_by_side}
use Rattle.lf_built.proofs.FirstRules.{first_is, found_at, none_at}

-- the row of what the rule with a number stores
abbrev pub stored_at : Prepared → ℕ → Sets
stored_at p k = option_map_or (recorded_row (universe_of p) (env_of p)) (slice_get (trees_of p) k) []

-- the rule isn't marked, and its row, as it is recorded, holds the texts
abbrev pub fits_by : Prepared → List ℕ → Given → ℕ → Bool
fits_by p marked D k = not (is_marked (reverse marked) k) && holds_texts (universe_of p) (stored_at p k) D

module _ (p : Prepared) (known : IsPrepared p) where
  pub recorded_at : (k : ℕ) (r : RuleTree) → slice_get (trees_of p) k ≡ Some r → stored_at p k ≡ recorded_row (universe_of p) (env_of p) r
  recorded_at k r is = ap (λ (o : Option RuleTree). option_map_or (recorded_row (universe_of p) (env_of p)) o []) is

  -- what is told of the row of what a rule stores
  abbrev Stored : RuleTree → Option Sets → Type 0
  Stored r kept = r.alert ≡ false → IsStored (env_of p) r.name (recorded_row (universe_of p) (env_of p) r) kept

  pub recorded_there : length p.recorded.items ≡ length (trees_of p)
  recorded_there = as_many Stored (trees_of p) p.recorded.items known.recorded

  pub stored_told : (k : ℕ) (r : RuleTree) (kept : Option Sets) → slice_get (trees_of p) k ≡ Some r → kept ≡ get_or p.recorded.items k kept → Stored r kept
  stored_told k r kept is there = side_by_side Stored (trees_of p) p.recorded.items k r kept known.recorded is there

  told_at : (k : ℕ) (r : RuleTree) (x : PartRows) → slice_get (trees_of p) k ≡ Some r → x ≡ get_or p.parts.items k x → x.rows ≡ packed_row (universe_of p) (env_of p) r.expr ∷ map (packed_row (universe_of p) (env_of p)) (flat_map nodes (parts_of r.expr))
  told_at k r x is e =
      let Told : RuleTree → PartRows = λ (t : RuleTree). part_rows (universe_of p) (env_of p) (forks_of p) (nodes t.expr) in
      let told : x ≡ Told r =
      e ∙ ap (λ (xs : List PartRows). get_or xs k x) known.parts ∙ get_or-map Told (trees_of p) k r x (slice_get_within (trees_of p) k r is) ∙ ap Told (get_or_from_slice_get (trees_of p) k r r is) in
      begins (packed_row (universe_of p) (env_of p)) r.expr x.rows (ap (λ (y : PartRows). y.rows) told)

  pub row_within : (k : ℕ) (r : RuleTree) (x : PartRows) → slice_get (trees_of p) k ≡ Some r → x ≡ get_or p.parts.items k x → 0 < length x.rows
  row_within k r x is e = omega (arith, ap length (told_at k r x is e))

  -- what is told of the row of a rule beside that of its expression
  abbrev IsOwn : RuleTree → Option Sets → Type 0
  IsOwn r own = own_or own (row_of (universe_of p) (env_of p) r.expr) ≡ rule_row (universe_of p) (env_of p) r

  pub own_there : length p.rows.items ≡ length (trees_of p)
  own_there = as_many IsOwn (trees_of p) p.rows.items known.rows

  pub first_row : (k : ℕ) (r : RuleTree) (x : PartRows) → slice_get (trees_of p) k ≡ Some r → x ≡ get_or p.parts.items k x → get_or x.rows 0 no_row ≡ packed_row (universe_of p) (env_of p) r.expr
  first_row k r x is e = ap (λ (rows : List PackedRow). get_or rows 0 no_row) (told_at k r x is e)

  pub own_at : (k : ℕ) (r : RuleTree) (own : Option Sets) → slice_get (trees_of p) k ≡ Some r → own ≡ get_or p.rows.items k own → IsOwn r own
  own_at k r own is there = side_by_side IsOwn (trees_of p) p.rows.items k r own known.rows is there

  pub set_at : (k : ℕ) (r : RuleTree) (d : List Bool) → slice_get (trees_of p) k ≡ Some r → get_or p.set.items k d ≡ set_by (labels_in (universe_of p)) r
  set_at k r d is =
      ap (λ (xs : List (List Bool)). get_or xs k d) known.set
      ∙ get_or-map (set_by (labels_in (universe_of p))) (trees_of p) k r d (slice_get_within (trees_of p) k r is)
      ∙ ap (set_by (labels_in (universe_of p))) (get_or_from_slice_get (trees_of p) k r r is)

  -- a number of a name is one of a rule
  pub number_within : (name : Bytes) (k : ℕ) → Contains (numbers_of (records name) 0 (trees_of p)) k → (r : RuleTree) × (slice_get (trees_of p) k ≡ Some r) × (r.alert ≡ false)
  number_within name k c =
      let f = of_numbers (records name) (trees_of p) 0 k c in
      let e : f.0 ≡ k = omega (arith, f.1) in
      (f.2, subst (λ (n : ℕ). slice_get (trees_of p) n ≡ Some f.2) e f.3, not-true f.2.alert (and_parts (not f.2.alert) (bytes_eq f.2.name name) f.4).0)

  module _ (marked : List ℕ) (name : Bytes) (D : Given) where
    abbrev numbers : List ℕ
    numbers = numbers_of (records name) 0 (trees_of p)

    abbrev first : Option (ℕ × RuleTree)
    first = first_rule (fits (universe_of p) (env_of p) (trees_of p) (forks_of p) (reverse marked) name D) 0 (trees_of p)

    told : (o : Option ℕ) → find (fits_by p marked D) numbers ≡ o → IsFirstRule (trees_of p) first o
    told o e = by o (subst (λ (x : Option ℕ). Found x) e found)
      where
        rest : ℕ → RuleTree → Bool
        rest k r = not (is_marked (reverse marked) k) && holds_texts (universe_of p) (recorded_row (universe_of p) (env_of p) r) D

        agree : (i j : ℕ) (r : RuleTree) → j ≡ i → slice_get (trees_of p) i ≡ Some r → rest j r ≡ fits_by p marked D j
        agree i j r e is = ap (λ (row : Sets). not (is_marked (reverse marked) j) && holds_texts (universe_of p) row D) (sym (recorded_at j r (ap (slice_get (trees_of p)) e ∙ is)))

        Found : Option ℕ → Type 0
        Found x = Rattle.lf_built.proofs.FirstRules.FirstOf (fits_by p marked D) name rest 0 (trees_of p) x first

        found : Found (find (fits_by p marked D) numbers)
        found = first_is (fits_by p marked D) name rest (trees_of p) 0 (λ i r is. agree i (0 + i) r (let z : 0 + i ≡ i = omega arith in z) is)

        by : (o : Option ℕ) → Found o → IsFirstRule (trees_of p) first o
        by None is = is
        by (Some k) (i, r, at, there, is) = let e : i ≡ k = omega (arith, at) in (r, is, subst (λ (n : ℕ). slice_get (trees_of p) n ≡ Some r) e there)

    pub some_fits : (i : ℕ) → i < length numbers → ((k : ℕ) → k < i → fits_by p marked D (get_or numbers k 0) ≡ false) → fits_by p marked D (get_or numbers i 0) ≡ true → IsFirstRule (trees_of p) first (Some (get_or numbers i 0))
    some_fits i less before here = told (Some (get_or numbers i 0)) (found_at (fits_by p marked D) numbers i less before here)

    pub none_fit : ((k : ℕ) → k < length numbers → fits_by p marked D (get_or numbers k 0) ≡ false) → IsFirstRule (trees_of p) first None
    none_fit before = told None (none_at (fits_by p marked D) numbers before)
