-- In the graph of rules a rule leads to itself and to those of its reach.
use Rattle.std.proofs.Common.{◌≡◌, ◌⊎◌, ℕ, ◌+◌, ◌<◌, ◌-◌, false, Bool, true, cond, nat_lt, List, [], ◌∷◌, ◌++◌, length, map, get_or, Option, Some, None, inl, inr, refl, sym, ◌∙◌, ap, subst, arith, length-append, slice_get}
use Rattle.std.specs.List.{Contains, range_with_len}
use Rattle.std.proofs.lemmas.Bool.{cases_lt, lt-ltb, ltb-true}
use Rattle.std.proofs.lemmas.List.{get_or-append-add, get_or-map, get_or_append_left, get_or_default, get_or_past, length-map}
use Rattle.std.proofs.lemmas.Option.{slice_get_within}
use Rattle.std.proofs.Math.Seq.{get_or-append_seam}
use Rattle.lf_laws.proofs.Members.{here, in_flat_map, in_map, map_member, none_in, of_flat_map, only_one}
use Rattle.lf_laws.proofs.Slices.{member_at, number_of, one_at, some_at}
use Rattle.lf_ast.specs.Labels.{Bytes}
use Rattle.lf_ast.specs.Rules.{RuleTree}
use Rattle.lf_ast.specs.Tree.{Tree}
use Rattle.lf_graph.specs.Paths.{IsGraph, Leads, after}
use Rattle.lf_graph.specs.Paths.Leads.{along, nowhere}
use Rattle.lf_graph.proofs.Paths.{onwards}
use Rattle.lf_semantics.specs.Environments.{names_recorded, recorded_names}
use Rattle.lf_semantics.specs.Listing.{place}
use Rattle.lf_semantics.proofs.ListingLaws.{in_first_seen, of_first_seen, place_within}
use Rattle.lf_semantics.proofs.Places.{at_place}
use Rattle.lf_semantics.proofs.Recorded.{recorded}
use Rattle.lf_deps.specs.Reading.{Reaches, Reads, Selects, SelectsBy, selectors}
use Rattle.lf_deps.specs.Reading.Reads.{selected, through}
use Rattle.lf_deps.specs.views.Index.{makers_of}
use Rattle.lf_deps.specs.views.Sources.{IsSourcesOf, Sources}
use Rattle.lf_deps.proofs.Ascending.{in_range, of_range}
use Rattle.lf_deps.proofs.LookedUp.{recorded_from, recorded_to, selected_count, selected_is}
use Rattle.lf_worlds.specs.views.RuleGraph.{name_nodes, node_of, nodes_selected, rule_edges}

-- the node of a selector

named_node : (first : ℕ) (names : List Bytes) (name : Bytes) (v : ℕ) → Contains (node_of first names (Some name)) v → (place names name < length names) × (v ≡ first + place names name)
named_node first names name v c = by (nat_lt (place names name) (length names)) refl c
  where
    by : (b : Bool) → nat_lt (place names name) (length names) ≡ b → Contains (cond b ((first + place names name) ∷ []) []) v → (place names name < length names) × (v ≡ first + place names name)
    by true e d = (ltb-true (place names name) (length names) e, sym (only_one (first + place names name) v d))
    by false e d = absurd (none_in v d)

node_named : (first : ℕ) (names : List Bytes) (name : Bytes) → place names name < length names → Contains (node_of first names (Some name)) (first + place names name)
node_named first names name h =
    let P : Bool → Type 0 = λ b. Contains (cond b ((first + place names name) ∷ []) []) (first + place names name) in
    subst P (sym (lt-ltb (place names name) (length names) h)) (here (first + place names name) [])

module _ (rules : List RuleTree) (s : Sources) (is : IsSourcesOf rules s) where
  abbrev count : ℕ
  count = length s.selected

  abbrev edges : List (List ℕ)
  edges = rule_edges s

  -- the recorded names

  placed : (r : RuleTree) (k : ℕ) → slice_get rules k ≡ Some r → r.alert ≡ false → place s.names r.name < length s.names
  placed r k at a =
      let P : List Bytes → Type 0 = λ l. place l r.name < length l in
      subst P (sym is.names) (place_within (recorded_names rules) r.name (in_first_seen (names_recorded rules) r.name (recorded rules r (member_at rules k r at) a)))

  known : (p : ℕ) → p < length s.names → Contains (names_recorded rules) (get_or s.names p [])
  known p h =
      let name : Bytes = get_or s.names p [] in
      let P : List Bytes → Type 0 = λ l. Contains l name in
      of_first_seen (names_recorded rules) name (subst P is.names (p, h, get_or_default s.names p name [] h))

  -- the edges from each node

  rows_long : length (map (nodes_selected count s.names) s.selected) ≡ count
  rows_long = length-map s.selected (nodes_selected count s.names)

  makers_long : length (map (makers_of s) s.names) ≡ length s.names
  makers_long = length-map s.names (makers_of s)

  front_long : length (map (nodes_selected count s.names) s.selected ++ map (makers_of s) s.names) ≡ count + length s.names
  front_long = let all = length-append (map (nodes_selected count s.names) s.selected) (map (makers_of s) s.names) in omega (arith, all, rows_long, makers_long)

  pub edges_long : length edges ≡ count + length s.names + 1
  edges_long =
      let all = length-append (map (nodes_selected count s.names) s.selected ++ map (makers_of s) s.names) (name_nodes count (length s.names) ∷ []) in
      omega (arith, all, front_long)

  after_rule : (k : ℕ) (r : RuleTree) → slice_get rules k ≡ Some r → after edges k ≡ nodes_selected count s.names (selectors r.expr)
  after_rule k r at =
      let less : k < count = let within = slice_get_within rules k r at in omega (arith, within, selected_count rules s is) in
      get_or_append_left (map (nodes_selected count s.names) s.selected ++ map (makers_of s) s.names) (name_nodes count (length s.names) ∷ []) [] k (omega (arith, less, front_long))
      ∙ get_or_append_left (map (nodes_selected count s.names) s.selected) (map (makers_of s) s.names) [] k (omega (arith, less, rows_long))
      ∙ get_or-map (nodes_selected count s.names) s.selected k [] [] less
      ∙ ap (nodes_selected count s.names) (selected_is rules s is k r at)

  after_name : (p : ℕ) → p < length s.names → after edges (count + p) ≡ makers_of s (get_or s.names p [])
  after_name p h =
      get_or_append_left (map (nodes_selected count s.names) s.selected ++ map (makers_of s) s.names) (name_nodes count (length s.names) ∷ []) [] (count + p) (omega (arith, h, front_long))
      ∙ ap (λ (n : ℕ). get_or (map (nodes_selected count s.names) s.selected ++ map (makers_of s) s.names) (n + p) []) (sym rows_long)
      ∙ get_or-append-add (map (nodes_selected count s.names) s.selected) (map (makers_of s) s.names) p []
      ∙ get_or-map (makers_of s) s.names p [] [] h

  after_all : after edges (count + length s.names) ≡ name_nodes count (length s.names)
  after_all =
      ap (λ k. after edges k) (sym front_long)
      ∙ get_or-append_seam (map (nodes_selected count s.names) s.selected ++ map (makers_of s) s.names) (name_nodes count (length s.names)) [] []

  -- an edge leads from a rule, a name, or all names
  data IsEdge : ℕ → ℕ → Type 0 where
    of_rule : {u v : ℕ} (r : RuleTree) → slice_get rules u ≡ Some r → (o : Option Bytes) → Contains (selectors r.expr) o → Contains (node_of count s.names o) v → IsEdge u v
    of_name : {u v : ℕ} (p : ℕ) → p < length s.names → u ≡ count + p → Contains (makers_of s (get_or s.names p [])) v → IsEdge u v
    of_all : {u v : ℕ} (p : ℕ) → p < length s.names → u ≡ count + length s.names → v ≡ count + p → IsEdge u v

  edge_is : (u v : ℕ) → Contains (after edges u) v → IsEdge u v
  edge_is u v c = elim (cases_lt u count) [
    | inl h ↦
        let r = some_at rules u (omega (arith, h, selected_count rules s is)) in
        let P : List ℕ → Type 0 = λ l. Contains l v in
        let o = of_flat_map (node_of count s.names) (selectors r.0.expr) v (subst P (after_rule u r.0 r.1) c) in
        of_rule r.0 r.1 o.0 o.1 o.2
    | inr h ↦
        let p : ℕ = u - count in
        let at : u ≡ count + p = omega (arith, h) in
        let here_too : Contains (after edges (count + p)) v = let Q : ℕ → Type 0 = λ k. Contains (after edges k) v in subst Q at c in
        elim (cases_lt p (length s.names)) [
          | inl less ↦ let P : List ℕ → Type 0 = λ l. Contains l v in of_name p less at (subst P (after_name p less) here_too)
          | inr more ↦ elim (cases_lt (length s.names) p) [
            | inl past ↦
                let P : List ℕ → Type 0 = λ l. Contains l v in
                absurd (none_in v (subst P (get_or_past edges u [] (omega (arith, at, past, edges_long))) c))
            | inr most ↦
                let all : u ≡ count + length s.names = omega (arith, at, more, most) in
                let P : List ℕ → Type 0 = λ l. Contains l v in
                let Q : ℕ → Type 0 = λ k. Contains (after edges k) v in
                let q = map_member (λ j. count + j) (range_with_len 0 (length s.names)) v (subst P after_all (subst Q all c)) in
                of_all q.0 (of_range (length s.names) q.0 q.1) all q.2
          ]
        ]
  ]

  maker_is : (p k : ℕ) → Contains (makers_of s (get_or s.names p [])) k → (r : RuleTree) × (slice_get rules k ≡ Some r) × (r.alert ≡ false) × (r.name ≡ get_or s.names p [])
  maker_is p k c = recorded_to rules s is (get_or s.names p []) k c

  is_rule : (k : ℕ) (r : RuleTree) → slice_get rules k ≡ Some r → k < count
  is_rule k r at = let within = slice_get_within rules k r at in omega (arith, within, selected_count rules s is)

  pub graph_is : IsGraph edges
  graph_is u v c = by (edge_is u v c)
    where
      selected_below : (o : Option Bytes) → Contains (node_of count s.names o) v → v < length edges
      selected_below None d = let e = only_one (count + length s.names) v d in omega (arith, e, edges_long)
      selected_below (Some name) d = let e = named_node count s.names name v d in omega (arith, e.0, e.1, edges_long)

      by : IsEdge u v → v < length edges
      by (of_rule r at o d e) = selected_below o e
      by (of_name p h at d) = let r = maker_is p v d in let less = is_rule v r.0 r.1 in omega (arith, less, edges_long)
      by (of_all p h at e) = omega (arith, h, e, edges_long)

  -- ---- what a node selects: a rule what its selectors do, a name itself, and the node of all names each name

  data Opens : ℕ → Bytes → Type 0 where
    by_rule : {u : ℕ} {name : Bytes} (r : RuleTree) → slice_get rules u ≡ Some r → Selects rules r.expr name → Opens u name
    by_name : {u : ℕ} {name : Bytes} (p : ℕ) → p < length s.names → u ≡ count + p → get_or s.names p [] ≡ name → Opens u name
    by_all : {u : ℕ} {name : Bytes} → u ≡ count + length s.names → Contains (names_recorded rules) name → Opens u name

  -- the rule of a number records the name, or a rule that records it reads what that one records
  abbrev Follows : Bytes → ℕ → Type 0
  Follows name v = (q : RuleTree) × (slice_get rules v ≡ Some q) × (q.alert ≡ false)
      × ((q.name ≡ name) ⊎ ((r : RuleTree) × Contains rules r × (r.alert ≡ false) × (r.name ≡ name) × Reads rules r.expr q.name))

  reads_on : (e : Tree) (name : Bytes) (v : ℕ) → Selects rules e name → (f : Follows name v) → Reads rules e f.0.name
  reads_on e name v sel f =
      let S : Bytes → Type 0 = λ n. Selects rules e n in
      elim f.3 [
        | inl same ↦ selected (subst S (sym same) sel)
        | inr q ↦ through q.0 q.1 q.2 (subst S (sym q.3) sel) q.4
      ]

  abbrev Goes : ℕ → ℕ → Type 0
  Goes u v = (u ≡ v) ⊎ ((name : Bytes) × Opens u name × Follows name v)

  -- behind a rule
  module _ (u w v : ℕ) (r : RuleTree) (at : slice_get rules u ≡ Some r) where
    by_all_names : {name : Bytes} → Contains (selectors r.expr) None → w ≡ count + length s.names → Opens w name → Opens u name
    by_all_names d e (by_rule q there sel) = let less = is_rule w q there in absurd (omega (arith, less, e))
    by_all_names d e (by_name p h there same) = absurd (omega (arith, h, there, e))
    by_all_names d e (by_all there known_it) = by_rule r at (inr (d, known_it))

    by_own_name : {name : Bytes} (x : Bytes) → Contains (selectors r.expr) (Some x) → (place s.names x < length s.names) × (w ≡ count + place s.names x) → Opens w name → Opens u name
    by_own_name x d e (by_rule q there sel) = let less = is_rule w q there in let to = e.1 in absurd (omega (arith, less, to))
    by_own_name {name} x d e (by_name p h there same) =
        let to = e.1 in
        let places : place s.names x ≡ p = omega (arith, to, there) in
        let named : x ≡ name = sym (at_place s.names x e.0) ∙ ap (λ (k : ℕ). get_or s.names k []) places ∙ same in
        let S : Bytes → Type 0 = λ n. Contains (selectors r.expr) (Some n) in
        by_rule r at (inl (subst S named d))
    by_own_name x d e (by_all there known_it) = let to = e.1 in let inside = e.0 in absurd (omega (arith, to, inside, there))

    of_rule_on : (o : Option Bytes) → v < count → Contains (selectors r.expr) o → Contains (node_of count s.names o) w → Goes w v → Goes u v
    of_rule_on None less d c goes =
        let e : w ≡ count + length s.names = sym (only_one (count + length s.names) w c) in
        elim goes [ inl same ↦ absurd (omega (arith, same, e, less)) | inr g ↦ inr (g.0, by_all_names d e g.1, g.2) ]
    of_rule_on (Some x) less d c goes =
        let e = named_node count s.names x w c in
        let to = e.1 in
        elim goes [ inl same ↦ absurd (omega (arith, same, to, less)) | inr g ↦ inr (g.0, by_own_name x d e g.1, g.2) ]

  -- behind a name
  module _ (u w v p : ℕ) (h : p < length s.names) (at : u ≡ count + p) (made : Contains (makers_of s (get_or s.names p [])) w) where
    maker : (r : RuleTree) × (slice_get rules w ≡ Some r) × (r.alert ≡ false) × (r.name ≡ get_or s.names p [])
    maker = maker_is p w made

    follows : {name : Bytes} → Opens w name → Follows name v → Follows (get_or s.names p []) v
    follows {name} (by_rule q there sel) f =
        let same : q ≡ maker.0 = one_at rules w q maker.0 there maker.1 in
        let S : RuleTree → Type 0 = λ r. Selects rules r.expr name in
        (f.0, f.1, f.2, inr (maker.0, member_at rules w maker.0 maker.1, maker.2, maker.3, reads_on maker.0.expr name v (subst S same sel) f))
    follows (by_name j k there same) f = let less = is_rule w maker.0 maker.1 in absurd (omega (arith, less, there))
    follows (by_all there known_it) f = let less = is_rule w maker.0 maker.1 in absurd (omega (arith, less, there))

    of_name_on : Goes w v → Goes u v
    of_name_on goes = elim goes [
      | inl same ↦
          let S : ℕ → Type 0 = λ k. slice_get rules k ≡ Some maker.0 in
          inr (get_or s.names p [], by_name p h at refl, (maker.0, subst S same maker.1, maker.2, inl maker.3))
      | inr g ↦ inr (get_or s.names p [], by_name p h at refl, follows g.1 g.2)
    ]

  -- behind the node of all names
  module _ (u w v p : ℕ) (h : p < length s.names) (at : u ≡ count + length s.names) (to : w ≡ count + p) where
    opened : {name : Bytes} → Opens w name → Opens u name
    opened (by_rule q there sel) = let less = is_rule w q there in absurd (omega (arith, less, to))
    opened (by_name j k there same) = let S : Bytes → Type 0 = λ n. Contains (names_recorded rules) n in by_all at (subst S same (known j k))
    opened (by_all there known_it) = absurd (omega (arith, h, to, there))

    of_all_on : v < count → Goes w v → Goes u v
    of_all_on less goes = elim goes [ inl same ↦ absurd (omega (arith, same, to, less)) | inr g ↦ inr (g.0, opened g.1, g.2) ]

  step : (u w v : ℕ) → v < count → IsEdge u w → Goes w v → Goes u v
  step u w v less (of_rule r at o d c) goes = of_rule_on u w v r at o less d c goes
  step u w v less (of_name p h at made) goes = of_name_on u w v p h at made goes
  step u w v less (of_all p h at to) goes = of_all_on u w v p h at to less goes

  goes : (u v : ℕ) → v < count → Leads edges u v → Goes u v
  goes u v less nowhere = inl refl
  goes u v less (along w c p) = step u w v less (edge_is u w c) (goes w v less p)

  -- ---- and a rule leads to what it reads

  to_all : (k p : ℕ) (r : RuleTree) → slice_get rules k ≡ Some r → Contains (selectors r.expr) None → p < length s.names → Leads edges k (count + p)
  to_all k p r at none h =
      let P : List ℕ → Type 0 = λ l. Contains l (count + length s.names) in
      let Q : List ℕ → Type 0 = λ l. Contains l (count + p) in
      let first : Contains (after edges k) (count + length s.names) =
      subst P (sym (after_rule k r at)) (in_flat_map (node_of count s.names) (selectors r.expr) None (count + length s.names) none (here (count + length s.names) [])) in
      let next : Contains (after edges (count + length s.names)) (count + p) = subst Q (sym after_all) (in_map (λ j. count + j) (range_with_len 0 (length s.names)) p (in_range (length s.names) p h)) in
      along (count + length s.names) first (along (count + p) next nowhere)

  to_named : (k p : ℕ) (r : RuleTree) (name : Bytes) → slice_get rules k ≡ Some r → Contains (selectors r.expr) (Some name) → place s.names name < length s.names → Leads edges k (count + place s.names name)
  to_named k p r name at there h =
      let P : List ℕ → Type 0 = λ l. Contains l (count + place s.names name) in
      along (count + place s.names name) (subst P (sym (after_rule k r at)) (in_flat_map (node_of count s.names) (selectors r.expr) (Some name) (count + place s.names name) there (node_named count s.names name h))) nowhere

  hop : (k l : ℕ) (r q : RuleTree) → slice_get rules k ≡ Some r → slice_get rules l ≡ Some q → q.alert ≡ false → SelectsBy rules (selectors r.expr) q.name → Leads edges k l
  hop k l r q at there a sel =
      let p : ℕ = place s.names q.name in
      let h : p < length s.names = placed q l there a in
      let P : List ℕ → Type 0 = λ m. Contains m l in
      let N : Bytes → Type 0 = λ n. Contains (makers_of s n) l in
      let made : Contains (after edges (count + p)) l = subst P (sym (after_name p h)) (subst N (sym (at_place s.names q.name h)) (recorded_from rules s is q l there a)) in
      let last : Leads edges (count + p) l = along l made nowhere in
      elim sel [
        | inl named ↦ onwards edges k (count + p) l (to_named k p r q.name at named h) last
        | inr all ↦ onwards edges k (count + p) l (to_all k p r at all.0 h) last
      ]

  pub led : (e : Tree) (name : Bytes) → Reads rules e name → (k l : ℕ) (r q : RuleTree) → slice_get rules k ≡ Some r → r.expr ≡ e → slice_get rules l ≡ Some q → q.alert ≡ false → q.name ≡ name → Leads edges k l
  led e name (selected sel) k l r q at same there a named =
      let S : Tree → Type 0 = λ f. Selects rules f q.name in
      let T : Bytes → Type 0 = λ n. Selects rules e n in
      hop k l r q at there a (subst S (sym same) (subst T (sym named) sel))
  led e name (through o c b sel rest) k l r q at same there a named =
      let j = number_of rules o c in
      let S : Tree → Type 0 = λ f. Selects rules f o.name in
      onwards edges k j.0 l (hop k j.0 r o at j.2 b (subst S (sym same) sel)) (led o.expr name rest j.0 l o q j.2 refl there a named)

  -- a rule leads to itself, and to those that it reads
  pub leads_to : (k l : ℕ) (r : RuleTree) → slice_get rules k ≡ Some r → l < count → Leads edges k l → (k ≡ l) ⊎ ((q : RuleTree) × (slice_get rules l ≡ Some q) × Reaches rules r.expr q)
  leads_to k l r at less path = elim (goes k l less path) [ inl same ↦ inl same | inr g ↦ inr (reached g.0 g.1 g.2) ]
    where
      reached : (name : Bytes) → Opens k name → Follows name l → (q : RuleTree) × (slice_get rules l ≡ Some q) × Reaches rules r.expr q
      reached name (by_rule o there sel) f =
          let S : RuleTree → Type 0 = λ x. Selects rules x.expr name in
          (f.0, f.1, (f.2, reads_on r.expr name l (subst S (one_at rules k o r there at) sel) f))
      reached name (by_name p h there same) f = let inside = is_rule k r at in absurd (omega (arith, inside, there))
      reached name (by_all there known_it) f = let inside = is_rule k r at in absurd (omega (arith, inside, there))

  pub leads_from : (k l : ℕ) (r q : RuleTree) → slice_get rules k ≡ Some r → slice_get rules l ≡ Some q → Reaches rules r.expr q → Leads edges k l
  leads_from k l r q at there reach = led r.expr q.name reach.1 k l r q at refl there reach.0 refl
