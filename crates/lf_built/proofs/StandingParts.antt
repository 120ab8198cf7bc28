-- What is told of an expression is looked up where it stands.
use Rattle.std.proofs.Common.{◌≡◌, ◌<◌, ◌≤◌, ◌+◌, ℕ, suc, List, false, map, length, take, get_or, Option, None, Some, sym, ◌∙◌, ap, subst, arith}
use Rattle.std.specs.Prelude.{slice_get}
use Rattle.std.specs.List.{Contains}
use Rattle.std.specs.List.{sum_by}
use Rattle.std.proofs.Math.Seq.{take-suc}
use Rattle.std.proofs.lemmas.List.{get_or-map, length-map}
use Rattle.std.proofs.lemmas.List.Sums.{sum_by_push}
use Rattle.std.proofs.lemmas.Option.{get_or_from_slice_get, slice_get-get_or, slice_get_within}
use Rattle.lf_ast.specs.Rules.{RuleTree}
use Rattle.lf_ast.specs.Tree.{Tree, parts_of, nodes}
use Rattle.lf_semantics.specs.ClassRows.{HasShape, Sets}
use Rattle.lf_semantics.specs.Environments.{Covers, IsRow, recorded_row}
use Rattle.lf_semantics.specs.Parts.{is_scalar_part}
use Rattle.lf_semantics.specs.RowTable.{row_of}
use Rattle.lf_semantics.proofs.NormalizedRows.{recorded_row_is, row_is}
use Rattle.lf_trials.specs.Candidates.{labels_in}
use Rattle.lf_candidates.specs.views.Packed.{no_row}
use Rattle.lf_built.specs.declared.marking.NodeMarks.{NodeMarks}
use Rattle.lf_built.specs.declared.prepared.Prepared.{Prepared}
use Rattle.lf_built.specs.declared.spots.Spot.{Spot}
use Rattle.lf_built.specs.views.Indexed.{IsPrepared, env_of, forks_of, trees_of, universe_of}
use Rattle.lf_built.specs.views.Marking.{marks_at}
use Rattle.lf_built.specs.views.PartRows.{PartRows, packed_row, part_rows}
use Rattle.lf_built.specs.views.Places.{StandsFrom, size}
use Rattle.lf_built.specs.views.Spots.{IsSpot, tree_at}
use Rattle.lf_built.specs.declared.unsaid.SoughtName.{SoughtName}
use Rattle.lf_built.specs.views.Unsaid.{AreSought, IsSought}
use Rattle.lf_semantics.proofs.PartsCovered.{part_covered, rule_covered}
use Rattle.lf_built.proofs.OwnRows.{as_many, side_by_side}
use Rattle.lf_built.proofs.Places.{part_stands, stands_at, stands_within}

module _ (p : Prepared) (known : IsPrepared p) where
  abbrev Told : RuleTree → PartRows
  Told r = part_rows (universe_of p) (env_of p) (forks_of p) (nodes r.expr)

  module _ (spot : Spot) (is : IsSpot (trees_of p) spot) where
    abbrev All : List Tree
    All = nodes is.0.expr

    in_trees : spot.rule < length (trees_of p)
    in_trees = slice_get_within (trees_of p) spot.rule is.0 is.1

    pub rule_there : spot.rule < length p.parts.items
    rule_there = subst (λ (n : ℕ). spot.rule < n) (sym (ap length known.parts ∙ length-map (trees_of p) Told)) in_trees

    -- what is told of its rule
    pub told : (x : PartRows) → x ≡ get_or p.parts.items spot.rule x → x ≡ Told is.0
    told x e = e ∙ ap (λ (xs : List PartRows). get_or xs spot.rule x) known.parts ∙ get_or-map Told (trees_of p) spot.rule is.0 x in_trees ∙ ap Told (get_or_from_slice_get (trees_of p) spot.rule is.0 is.0 is.1)

    place_there : spot.place < length All
    place_there = (stands_at All spot.place (tree_at spot) is.2).0

    -- what is told of the expression at its place
    looked_up : {X : Type 0} (f : Tree → X) (d : X) → get_or (map f All) spot.place d ≡ f (tree_at spot)
    looked_up f d = get_or-map f All spot.place (tree_at spot) d place_there ∙ ap f ((stands_at All spot.place (tree_at spot) is.2).1 (tree_at spot))

    within_map : {X : Type 0} (f : Tree → X) → spot.place < length (map f All)
    within_map f = subst (λ (n : ℕ). spot.place < n) (sym (length-map All f)) place_there

    module _ (x : PartRows) (e : x ≡ get_or p.parts.items spot.rule x) where
      pub row_within : spot.place < length x.rows
      row_within = subst (λ (y : PartRows). spot.place < length y.rows) (sym (told x e)) (within_map (packed_row (universe_of p) (env_of p)))

      pub row_told : get_or x.rows spot.place no_row ≡ packed_row (universe_of p) (env_of p) (tree_at spot)
      row_told = ap (λ (y : PartRows). get_or y.rows spot.place no_row) (told x e) ∙ looked_up (packed_row (universe_of p) (env_of p)) no_row

      pub size_within : spot.place < length x.sizes
      size_within = subst (λ (y : PartRows). spot.place < length y.sizes) (sym (told x e)) (within_map size)

      pub size_told : get_or x.sizes spot.place 0 ≡ size (tree_at spot)
      size_told = ap (λ (y : PartRows). get_or y.sizes spot.place 0) (told x e) ∙ looked_up size 0

      pub size_ends : spot.place + size (tree_at spot) ≤ length x.sizes
      size_ends = subst (λ (y : PartRows). spot.place + size (tree_at spot) ≤ length y.sizes) (sym (told x e)) (subst (λ (n : ℕ). spot.place + size (tree_at spot) ≤ n) (sym (length-map All size)) (stands_within All spot.place (tree_at spot) is.2))

      pub scalar_within : spot.place < length x.scalars
      scalar_within = subst (λ (y : PartRows). spot.place < length y.scalars) (sym (told x e)) (within_map is_scalar_part)

      pub scalar_told : get_or x.scalars spot.place false ≡ is_scalar_part (tree_at spot)
      scalar_told = ap (λ (y : PartRows). get_or y.scalars spot.place false) (told x e) ∙ looked_up is_scalar_part false

      pub fork_within : spot.place < length x.forks
      fork_within = subst (λ (y : PartRows). spot.place < length y.forks) (sym (told x e)) (within_map (forks_of p))

      pub fork_told : get_or x.forks spot.place false ≡ forks_of p (tree_at spot)
      fork_told = ap (λ (y : PartRows). get_or y.forks spot.place false) (told x e) ∙ looked_up (forks_of p) false

    -- what is marked for it
    abbrev Marked : RuleTree → List NodeMarks
    Marked r = map (marks_at (labels_in (universe_of p))) (nodes r.expr)

    pub marked_there : spot.rule < length p.marks.items
    marked_there = subst (λ (n : ℕ). spot.rule < n) (sym (ap length known.marks ∙ length-map (trees_of p) Marked)) in_trees

    module _ (x : List NodeMarks) (e : x ≡ get_or p.marks.items spot.rule x) where
      marked : x ≡ Marked is.0
      marked = e ∙ ap (λ (xs : List (List NodeMarks)). get_or xs spot.rule x) known.marks ∙ get_or-map Marked (trees_of p) spot.rule is.0 x in_trees ∙ ap Marked (get_or_from_slice_get (trees_of p) spot.rule is.0 is.0 is.1)

      pub marks_within : spot.place < length x
      marks_within = subst (λ (y : List NodeMarks). spot.place < length y) (sym marked) (within_map (marks_at (labels_in (universe_of p))))

      pub marks_told : (marks : NodeMarks) → marks ≡ get_or x spot.place marks → marks ≡ marks_at (labels_in (universe_of p)) (tree_at spot)
      marks_told marks read = read ∙ ap (λ (y : List NodeMarks). get_or y spot.place marks) marked ∙ looked_up (marks_at (labels_in (universe_of p))) marks

    -- the name that was sought for it
    abbrev Found : RuleTree → List (Option SoughtName) → Type 0
    Found r found = AreSought (universe_of p) (trees_of p) (nodes r.expr) found

    pub sought_there : spot.rule < length p.sought.items
    sought_there = subst (λ (n : ℕ). spot.rule < n) (sym (as_many Found (trees_of p) p.sought.items known.sought)) in_trees

    pub sought_told : (x : List (Option SoughtName)) → x ≡ get_or p.sought.items spot.rule x → IsSought (universe_of p) (trees_of p) (tree_at spot) (get_or x spot.place None)
    sought_told x e =
        side_by_side Found (trees_of p) p.sought.items spot.rule is.0 x known.sought is.1 e spot.place (tree_at spot)
        (slice_get-get_or All spot.place (tree_at spot) place_there ∙ ap Some ((stands_at All spot.place (tree_at spot) is.2).1 (tree_at spot)))

    -- the universe covers it
    pub covered : Covers (universe_of p) (tree_at spot)
    covered =
        let at : Contains (trees_of p) is.0 = (spot.rule, in_trees, get_or_from_slice_get (trees_of p) spot.rule is.0 is.0 is.1) in
        let here : Contains All (tree_at spot) = (spot.place, place_there, (stands_at All spot.place (tree_at spot) is.2).1 (tree_at spot)) in
        part_covered (universe_of p) is.0.expr (tree_at spot) (rule_covered (universe_of p) (trees_of p) known.covers is.0 at) here

    -- so do the parts before one of its parts
    module _ (x : PartRows) (e : x ≡ get_or p.parts.items spot.rule x) (k at : ℕ) (z : Tree) (there : slice_get (parts_of (tree_at spot)) at ≡ Some z) (less : k < at) (place : ℕ)
        (is_place : place ≡ (spot.place + 1) + sum_by size (take k (parts_of (tree_at spot)))) where
      k_within : k < length (parts_of (tree_at spot))
      k_within = let w = slice_get_within (parts_of (tree_at spot)) at z there in omega (arith, less, w)

      abbrev kth : Tree
      kth = get_or (parts_of (tree_at spot)) k z

      stands : StandsFrom All place kth
      stands = subst (λ (n : ℕ). StandsFrom All n kth) (sym is_place) (part_stands All spot.place (tree_at spot) k kth is.2 (slice_get-get_or (parts_of (tree_at spot)) k z k_within))

      kth_within : place < length All
      kth_within = (stands_at All place kth stands).0

      pub before_within : place < length x.sizes
      before_within = subst (λ (y : PartRows). place < length y.sizes) (sym (told x e)) (subst (λ (n : ℕ). place < n) (sym (length-map All size)) kth_within)

      kth_size : get_or x.sizes place 0 ≡ size kth
      kth_size = ap (λ (y : PartRows). get_or y.sizes place 0) (told x e) ∙ get_or-map size All place kth 0 kth_within ∙ ap size ((stands_at All place kth stands).1 kth)

      pub before_ends : place + get_or x.sizes place 0 ≤ length x.sizes
      before_ends =
          let a : place + size kth ≤ length (map size All) = subst (λ (n : ℕ). place + size kth ≤ n) (sym (length-map All size)) (stands_within All place kth stands) in
          let b : length x.sizes ≡ length (map size All) = ap (λ (y : PartRows). length y.sizes) (told x e) in
          omega (arith, a, b, kth_size)

      pub next_place : place + get_or x.sizes place 0 ≡ (spot.place + 1) + sum_by size (take (k + 1) (parts_of (tree_at spot)))
      next_place =
          let next : k + 1 ≡ suc k = omega arith in
          let more : sum_by size (take (k + 1) (parts_of (tree_at spot))) ≡ sum_by size (take k (parts_of (tree_at spot))) + size kth =
          ap (λ n. sum_by size (take n (parts_of (tree_at spot)))) next ∙ ap (sum_by size) (take-suc (parts_of (tree_at spot)) k z k_within) ∙ sum_by_push size (take k (parts_of (tree_at spot))) kth in
          omega (arith, more, kth_size, is_place)

  -- rows are those of the universe
  pub is_row : (e : Tree) → IsRow (universe_of p) (row_of (universe_of p) (env_of p) e)
  is_row e = row_is (universe_of p) known.within.listing (env_of p) known.environment e

  pub shape_of : (e : Tree) (row : Sets) → row ≡ row_of (universe_of p) (env_of p) e → HasShape (universe_of p) row
  shape_of e row is = subst (λ (r : Sets). HasShape (universe_of p) r) (sym is) (is_row e).0

  pub recorded_shape : (r : RuleTree) (row : Sets) → row ≡ recorded_row (universe_of p) (env_of p) r → HasShape (universe_of p) row
  recorded_shape r row is = subst (λ (x : Sets). HasShape (universe_of p) x) (sym is) (recorded_row_is (universe_of p) known.within.listing (env_of p) known.environment r).0
