-- The join of rows: the least row that is at least each of them.
use Rattle.std.proofs.Common.{◌≡◌, ℕ, zero, suc, ◌<◌, Bool, true, false, cond, List, [], ◌∷◌, map, length, get_or, Option, Some, None, IfSome, refl, sym, ◌∙◌, ap, arith}
use Rattle.std.proofs.Math.ListN.{set}
use Rattle.std.specs.List.{AllByRecursion}
use Rattle.std.specs.Option.{option_map}
use Rattle.std.specs.Prelude.{replicate}
use Rattle.std.proofs.lemmas.List.{length-map}
use Rattle.std.proofs.lemmas.List.Elements.{Contains-get_or}
use Rattle.lf_ast.specs.Labels.{Bytes}
use Rattle.lf_laws.proofs.Booleans.{clash}
use Rattle.lf_laws.proofs.Members.{each_member}
use Rattle.lf_semantics.specs.ClassRows.{HasShape, Sets, bottom, emptied, holds, is_live, join, normalized}
use Rattle.lf_semantics.specs.Environments.{IsEnvironment, IsRow, Leq}
use Rattle.lf_semantics.specs.Listing.{IsListing, Listing}
use Rattle.lf_semantics.specs.RowTable.{Environment}
use Rattle.lf_semantics.proofs.LeqLaws.{bottom_dead, join_least, leq_dead, leq_join_left, leq_join_right, leq_refl, leq_trans}
use Rattle.lf_semantics.proofs.NormalizedRows.{normalized_bottom, normalized_join}
use Rattle.lf_semantics.proofs.RowLaws.{shape_bottom, shape_join}
use Rattle.lf_semantics.proofs.RowSets.{emptied_same, same_sets}
use Rattle.lf_flow.specs.Raising.{IsJoinOf, joined_each}

-- two rows that are at most each other

same_bit : (a b : Bool) → (a ≡ true → b ≡ true) → (b ≡ true → a ≡ true) → a ≡ b
same_bit true b h k = sym (h refl)
same_bit false true h k = k refl
same_bit false false h k = refl

-- the empty row has no class
is_emptied : (row : Sets) → normalized row ≡ row → is_live row ≡ false → row ≡ emptied row
is_emptied row settles dead = sym settles ∙ ap (λ b. cond b row (emptied row)) dead

pub same_row : (u : Listing) (row other : Sets) → IsRow u row → IsRow u other → Leq row other → Leq other row → row ≡ other
same_row u row other p q h k = by (is_live row) refl
  where
    shape : map length row ≡ map length other
    shape = p.0 ∙ sym q.0

    by : (b : Bool) → is_live row ≡ b → row ≡ other
    by true e =
        let there = h e in
        let back = k there.0 in
        same_sets row other shape (λ l c b k. same_bit (holds row l c) (holds other l c) (there.1 l c) (back.1 l c))
    by false e = is_emptied row p.1 e ∙ emptied_same row other shape ∙ sym (is_emptied other q.1 (other_dead (is_live other) refl))
      where
        other_dead : (b : Bool) → is_live other ≡ b → is_live other ≡ false
        other_dead true f = absurd (clash _ (k f).0 e)
        other_dead false f = f

-- lists of which all have something

all_more : {X : Type 0} (P Q : X → Type 0) (xs : List X) → ((x : X) → P x → Q x) → AllByRecursion P xs → AllByRecursion Q xs
all_more P Q [] h all = tt
all_more P Q (x ∷ xs) h all = (h x all.0, all_more P Q xs h all.1)

pub all_set : {X : Type 0} (P : X → Type 0) (xs : List X) (k : ℕ) (x : X) → AllByRecursion P xs → P x → AllByRecursion P (set xs k x)
all_set P [] k x all h = tt
all_set P (y ∷ xs) zero x all h = (h, all.1)
all_set P (y ∷ xs) (suc k) x all h = (all.0, all_set P xs k x all.1 h)

-- what was set has it too, and what stood there has it if so
all_unset : {X : Type 0} (P : X → Type 0) (xs : List X) (k : ℕ) (x d : X) → k < length xs → (P x → P (get_or xs k d)) → AllByRecursion P (set xs k x) → P x × AllByRecursion P xs
all_unset P [] k x d b h all = absurd (omega arith)
all_unset P (y ∷ xs) zero x d b h all = (all.0, (h all.0, all.1))
all_unset P (y ∷ xs) (suc k) x d b h all = let rest = all_unset P xs k x d (omega arith) h all.1 in (rest.0, (all.0, rest.1))

all_same : {X : Type 0} (P : X → Type 0) (n : ℕ) (x : X) → P x → AllByRecursion P (replicate n x)
all_same P zero x h = tt
all_same P (suc n) x h = (h, all_same P n x h)

-- joins

module _ (u : Listing) (row other : Sets) (is : IsRow u row) (is' : IsRow u other) where
  union_is : IsRow u (join row other)
  union_is = (shape_join u row other is.0 is'.0, normalized_join u row other is.0 is'.0 is'.1)

  left_below : Leq row (join row other)
  left_below = leq_join_left u row other is.0 is'.0

  right_below : Leq other (join row other)
  right_below = leq_join_right u row other is.0 is'.0

module _ (u : Listing) (row : Sets) (is : IsRow u row) where
  each_is_row : (rows : List Sets) → AllByRecursion (IsRow u) rows → IsRow u (joined_each rows row)
  each_is_row [] all = is
  each_is_row (first ∷ rows) all = union_is u (joined_each rows row) first (each_is_row rows all.1) all.0

  first_below : (rows : List Sets) → AllByRecursion (IsRow u) rows → Leq row (joined_each rows row)
  first_below [] all = leq_refl row
  first_below (first ∷ rows) all =
      let rest = joined_each rows row in
      leq_trans row rest (join rest first) (first_below rows all.1) (left_below u rest first (each_is_row rows all.1) all.0)

  each_below : (rows : List Sets) → AllByRecursion (IsRow u) rows → AllByRecursion (λ x. Leq x (joined_each rows row)) rows
  each_below [] all = tt
  each_below (first ∷ rows) all =
      let rest = joined_each rows row in
      let is_rest = each_is_row rows all.1 in
      (right_below u rest first is_rest all.0, all_more (λ x. Leq x rest) (λ x. Leq x (join rest first)) rows (λ x h. leq_trans x rest (join rest first) h (left_below u rest first is_rest all.0)) (each_below rows all.1))

each_least : (row top : Sets) (rows : List Sets) → AllByRecursion (λ x. Leq x top) rows → Leq row top → Leq (joined_each rows row) top
each_least row top [] all h = h
each_least row top (first ∷ rows) all h = join_least (joined_each rows row) first top (each_least row top rows all.1 h) all.0

-- the join of some rows is a row of each universe of which they are rows
is_row_too : (u : Listing) (rows : List Sets) (all : Sets) → IsJoinOf rows all → 0 < length rows → AllByRecursion (IsRow u) rows → IsRow u all
is_row_too u [] all j some are = absurd (omega arith)
is_row_too u (first ∷ rows) all j some are = (j.is_row.0 ∙ sym j.are_rows.0.0 ∙ are.0.0, j.is_row.1)

-- joined to a row it adds what each of them adds
pub joined_at_once : (u : Listing) (rows : List Sets) (all row : Sets) → IsJoinOf rows all → 0 < length rows → AllByRecursion (IsRow u) rows → IsRow u row
    → HasShape u all × (join row all ≡ joined_each rows row)
joined_at_once u rows all row j some are is =
    let own = is_row_too u rows all j some are in
    let one = join row all in
    let many = joined_each rows row in (
      own.0,
      same_row u one many (union_is u row all is own) (each_is_row u row is rows are)
          (join_least row all many (first_below u row is rows are) (j.least many (each_below u row is rows are)))
          (each_least row one rows (all_more (λ x. Leq x all) (λ x. Leq x one) rows (λ x h. leq_trans x all one h (right_below u row all is own)) j.above) (left_below u row all is own)),
    )

rows_are : (u : Listing) (env : Environment) → AllByRecursion (λ entry. IsRow u entry.1) env → AllByRecursion (IsRow u) (map (λ (entry : Bytes × Sets). entry.1) env)
rows_are u [] all = tt
rows_are u (entry ∷ env) all = (all.0, rows_are u env all.1)

pub all_joins : (u : Listing) (env : Environment) (all row : Sets) → IsEnvironment u env → IsRow u row → IsJoinOf (map (λ (entry : Bytes × Sets). entry.1) env) all × (0 < length env)
    → HasShape u all × (join row all ≡ joined_each (map (λ (entry : Bytes × Sets). entry.1) env) row)
all_joins u env all row ok is j =
    joined_at_once u (map (λ (entry : Bytes × Sets). entry.1) env) all row j.0 (omega (arith, j.1, length-map env (λ (entry : Bytes × Sets). entry.1))) (rows_are u env ok.rows) is

-- at first no row has a class
pub join_of_none : (u : Listing) (n : ℕ) → IsListing u → IsJoinOf (replicate n (bottom u)) (bottom u)
join_of_none u n p = record {
  universe = u;
  is_row = (shape_bottom u, normalized_bottom u);
  are_rows = all_same (IsRow u) n (bottom u) (shape_bottom u, normalized_bottom u);
  above = all_same (λ row. Leq row (bottom u)) n (bottom u) (leq_refl (bottom u));
  least = λ other h. leq_dead (bottom u) other (bottom_dead u p);
}

-- a row is joined to one of them, and to the join
pub join_raised : (rows : List Sets) (all row d : Sets) (k : ℕ) → IsJoinOf rows all → k < length rows → map length (get_or rows k d) ≡ map length row → normalized row ≡ row
    → IsJoinOf (set rows k (join (get_or rows k d) row)) (join all row)
join_raised rows all row d k j b same settled =
    let u = j.universe in
    let own = get_or rows k d in
    let at = Contains-get_or rows k d b in
    let is_own : IsRow u own = each_member (IsRow u) rows own j.are_rows at in
    let is : IsRow u row = (sym same ∙ is_own.0, settled) in
    let new = join own row in
    let more = join all row in
    let grown = left_below u all row j.is_row is in
    record {
      universe = u;
      is_row = union_is u all row j.is_row is;
      are_rows = all_set (IsRow u) rows k new j.are_rows (union_is u own row is_own is);
      above =
          all_set (λ x. Leq x more) rows k new (all_more (λ x. Leq x all) (λ x. Leq x more) rows (λ x h. leq_trans x all more h grown) j.above)
          (join_least own row more (leq_trans own all more (each_member (λ x. Leq x all) rows own j.above at) grown) (right_below u all row j.is_row is));
      least = λ other h.
          let back = all_unset (λ x. Leq x other) rows k new d b (leq_trans own new other (left_below u own row is_own is)) h in
          join_least all row other (j.least other back.1) (leq_trans row new other (right_below u own row is_own is) back.0);
    }

-- the same, if the join is kept

pub kept_fits : (rows : List Sets) (o : Option Sets) (row d : Sets) (k : ℕ) → IfSome o (IsJoinOf rows) → k < length rows → map length (get_or rows k d) ≡ map length row → IfSome o (λ all. map length all ≡ map length row)
kept_fits rows None row d k j b same = tt
kept_fits rows (Some all) row d k j b same = j.is_row.0 ∙ sym (each_member (IsRow j.universe) rows (get_or rows k d) j.are_rows (Contains-get_or rows k d b)).0 ∙ same

pub kept_raised : (rows : List Sets) (o : Option Sets) (row d : Sets) (k : ℕ) → IfSome o (IsJoinOf rows) → k < length rows → map length (get_or rows k d) ≡ map length row → normalized row ≡ row
    → IfSome (option_map (λ all. join all row) o) (IsJoinOf (set rows k (join (get_or rows k d) row)))
kept_raised rows None row d k j b same settled = tt
kept_raised rows (Some all) row d k j b same settled = join_raised rows all row d k j b same settled
