-- What is read is where the graph of names leads.
use Rattle.std.proofs.Common.{◌≡◌, ℕ, ◌+◌, ◌<◌, ◌≤◌, ◌⊎◌, ◌↔◌, false, List, [], ◌∷◌, map, nat_lt, length, get_or, Option, Some, None, inl, inr, refl, sym, ◌∙◌, ap, subst, arith, length-append}
use Rattle.std.specs.Prelude.{slice_get}
use Rattle.std.specs.List.{Contains, filter, flat_map, range_with_len}
use Rattle.std.proofs.lemmas.Bool.{cases_lt, lt-ltb, ltb-true}
use Rattle.std.proofs.lemmas.List.{append-nil, get_or_append_left, length-map, get_or_past}
use Rattle.std.proofs.lemmas.List.FromFn.{get_or-map-range_with_len, length-range_with_len}
use Rattle.std.proofs.lemmas.Option.{slice_get_within}
use Rattle.std.proofs.Math.Seq.{get_or-append_seam}
use Rattle.lf_ast.specs.Labels.{Bytes}
use Rattle.lf_ast.specs.Tree.{Tree}
use Rattle.lf_ast.specs.Rules.{RuleTree}
use Rattle.lf_graph.specs.Components.{AreComponents, Components}
use Rattle.lf_graph.specs.Paths.{IsGraph, IsOnCircle, IsReached, Leads, after}
use Rattle.lf_graph.specs.Paths.Leads.{along, nowhere}
use Rattle.lf_graph.proofs.Paths.{onwards}
use Rattle.lf_semantics.specs.Environments.{names_recorded, recorded_names}
use Rattle.lf_semantics.specs.Listing.{StandOnce, place}
use Rattle.lf_semantics.proofs.ListingLaws.{apart, first_seen_distinct, in_first_seen, of_first_seen, place_within}
use Rattle.lf_semantics.proofs.Members.{in_filter, of_filter}
use Rattle.lf_laws.proofs.Members.{in_flat_map, here, none_in, of_flat_map, only_one}
use Rattle.lf_laws.proofs.Slices.{member_at, number_of}
use Rattle.lf_semantics.proofs.Places.{place_at, placed_there, same_text}
use Rattle.lf_semantics.proofs.Recorded.{recorded}
use Rattle.lf_deps.specs.views.Index.{IsIndex, makers_at, makers_of}
use Rattle.lf_deps.specs.views.Links.{source_of}
use Rattle.lf_deps.specs.views.Names.{AreNumbersBy, BeginWith, IsNumberBy, IsPlaced, edges_of, nodes_by, nodes_of}
use Rattle.lf_deps.specs.Reading.{IsCyclic, Reaches, Reads, SelectsBy, selectors}
use Rattle.lf_deps.specs.Reading.Reads.{selected, through}
use Rattle.lf_deps.specs.views.Search.{ReadsBy}
use Rattle.lf_deps.specs.views.Sources.{IsSourcesOf, Sources}
use Rattle.lf_deps.proofs.Ascending.{in_range, of_range}
use Rattle.lf_deps.proofs.Followed.{reads_on}
use Rattle.lf_deps.proofs.Indexed.{sources_full}
use Rattle.lf_deps.proofs.LookedUp.{recorded_from, recorded_to, selected_count, selected_is}
use Rattle.lf_deps.proofs.Ordered.{named_source, source_below, source_named}
use Rattle.lf_deps.proofs.Placed.{in_front, place_behind, place_front}
use Rattle.lf_deps.proofs.Reached.{reads_to}

-- the nodes of what selectors select
abbrev pub nodes : List Bytes → List (Option Bytes) → List ℕ
nodes names found = flat_map (source_of names) found

-- the recorded names begin with themselves
pub all_recorded : (names : List Bytes) → BeginWith names names
all_recorded names = ([], sym (append-nil names))

module _ (rules : List RuleTree) (s : Sources) (is : IsSourcesOf rules s) (names : List Bytes) (begin : BeginWith names s.names) where
  abbrev IsRecorded : Bytes → Type 0
  IsRecorded n = Contains (names_recorded rules) n

  -- a node stands for a name: its own, or that of all recorded names
  abbrev Means : ℕ → Bytes → Type 0
  Means u n = ((u ≡ place names n) × IsPlaced names n) ⊎ ((u ≡ length names) × IsRecorded n)

  abbrev IsLedTo : List (Option Bytes) → ℕ → Type 0
  IsLedTo found v = IsReached (edges_of names s) (nodes names found) v

  -- recorded names and their places

  first_placed : (n : Bytes) → IsRecorded n → IsPlaced s.names n
  first_placed n c = let P : List Bytes → Type 0 = λ l. IsPlaced l n in subst P (sym is.names) (place_within (recorded_names rules) n (in_first_seen (names_recorded rules) n c))

  first_place : (n : Bytes) → IsPlaced s.names n → place names n ≡ place s.names n
  first_place n h = ap (λ (l : List Bytes). place l n) begin.1 ∙ place_front s.names begin.0 n h

  named : (n : Bytes) → IsRecorded n → IsPlaced names n
  named n c = let P : List Bytes → Type 0 = λ l. IsPlaced l n in subst P (sym begin.1) (in_front s.names begin.0 n (first_placed n c))

  placed : (r : RuleTree) → Contains rules r → r.alert ≡ false → IsPlaced names r.name
  placed r c a = named r.name (recorded rules r c a)

  known : (n : Bytes) → place names n < length s.names → IsRecorded n
  known n h = elim (cases_lt (place s.names n) (length s.names)) [
    | inl f ↦ let P : List Bytes → Type 0 = λ l. Contains l n in of_first_seen (names_recorded rules) n (subst P is.names (placed_there s.names n f))
    | inr f ↦ let e = ap (λ (l : List Bytes). place l n) begin.1 in let b = place_behind s.names begin.0 n f in absurd (omega (arith, h, e, b))
  ]

  counts : length s.names ≤ length names
  counts = let size = length-append s.names begin.0 in omega (arith, ap length begin.1, size)

  own_place : (u : ℕ) → u < length s.names → place s.names (get_or s.names u []) ≡ u
  own_place u h = place_at s.names u h (λ k b. once k u b h)
    where
      once : StandOnce s.names
      once = let P : List Bytes → Type 0 = λ l. StandOnce l in subst P (sym is.names) (apart (recorded_names rules) (first_seen_distinct (names_recorded rules)))

  -- selectors and their nodes

  selects_node : (found : List (Option Bytes)) (n : Bytes) → IsPlaced names n → SelectsBy rules found n → (u : ℕ) × Contains (nodes names found) u × Means u n
  selects_node found n h (inl c) = (place names n, in_flat_map (source_of names) found (Some n) (place names n) c (named_source names n h), inl (refl, h))
  selects_node found n h (inr c) = (length names, in_flat_map (source_of names) found None (length names) c.0 (here (length names) []), inr (refl, c.1))

  node_selects : (found : List (Option Bytes)) (u : ℕ) (n : Bytes) → Contains (nodes names found) u → Means u n → SelectsBy rules found n
  node_selects found u n c m = let o = of_flat_map (source_of names) found u c in by o.0 o.1 o.2 m
    where
      by : (o : Option Bytes) → Contains found o → Contains (source_of names o) u → Means u n → SelectsBy rules found n
      by None d g (inl (e, h)) = let f = only_one (length names) u g in absurd (omega (arith, e, h, f))
      by None d g (inr (e, c)) = inr (d, c)
      by (Some name) d g (inl (e, h)) =
          let f = source_named names name u g in
          let P : Bytes → Type 0 = λ z. Contains found (Some z) in
          inl (subst P (same_text names name n f.0 (f.1 ∙ e)) d)
      by (Some name) d g (inr (e, c)) = let f = source_named names name u g in absurd (omega (arith, f.0, f.1, e))

  -- the edges from a node

  -- those of the rules of the name at a place
  abbrev by_makers : ℕ → List ℕ
  by_makers at = nodes_by names s (makers_at s at)

  abbrev front : List (List ℕ)
  front = map by_makers (range_with_len 0 (length names))

  front_size : length front ≡ length names
  front_size = length-map (range_with_len 0 (length names)) by_makers ∙ length-range_with_len 0 (length names)

  pub edges_size : length (edges_of names s) ≡ length names + 1
  edges_size = length-append front (range_with_len 0 (length s.names) ∷ []) ∙ ap (λ (n : ℕ). n + 1) front_size

  after_name : (u : ℕ) → u < length names → after (edges_of names s) u ≡ by_makers u
  after_name u h =
      get_or_append_left front (range_with_len 0 (length s.names) ∷ []) [] u (omega (arith, h, front_size))
      ∙ get_or-map-range_with_len by_makers 0 (length names) u u [] h (omega arith)

  after_all : after (edges_of names s) (length names) ≡ range_with_len 0 (length s.names)
  after_all = ap (λ k. after (edges_of names s) k) (sym front_size) ∙ get_or-append_seam front (range_with_len 0 (length s.names)) [] []

  makers_is : (u : ℕ) → u < length s.names → makers_at s u ≡ makers_of s (get_or s.names u [])
  makers_is u h = ap (makers_at s) (sym (own_place u h))

  -- a rule that records the name at a place
  abbrev IsMakerAt : ℕ → RuleTree → Type 0
  IsMakerAt u r = Contains rules r × (r.alert ≡ false) × (place names r.name ≡ u)

  maker_at : (u k : ℕ) → Contains (makers_at s u) k → (r : RuleTree) × (slice_get rules k ≡ Some r) × IsMakerAt u r
  maker_at u k c = elim (cases_lt u (length s.names)) [
    | inl h ↦
        let P : List ℕ → Type 0 = λ l. Contains l k in
        let r = recorded_to rules s is (get_or s.names u []) k (subst P (makers_is u h) c) in
        let there = member_at rules k r.0 r.1 in
        (r.0, r.1, (there, r.2, first_place r.0.name (first_placed r.0.name (recorded rules r.0 there r.2)) ∙ ap (place s.names) r.3 ∙ own_place u h))
    | inr h ↦
        let P : List ℕ → Type 0 = λ l. Contains l k in
        let full = sources_full rules s is in
        absurd (none_in k (subst P (get_or_past s.makers u [] (omega (arith, h, full))) c))
  ]

  maker_within : (u k : ℕ) → Contains (makers_at s u) k → k < length s.selected
  maker_within u k c =
      let r = maker_at u k c in
      let w = slice_get_within rules k r.0 r.1 in
      omega (arith, w, selected_count rules s is)

  maker_from : (r : RuleTree) (k : ℕ) → slice_get rules k ≡ Some r → r.alert ≡ false → Contains (makers_at s (place names r.name)) k
  maker_from r k at a =
      let P : ℕ → Type 0 = λ u. Contains (makers_at s u) k in
      subst P (sym (first_place r.name (first_placed r.name (recorded rules r (member_at rules k r at) a)))) (recorded_from rules s is r k at a)

  abbrev IsEdge : ℕ → ℕ → Type 0
  IsEdge u v = ((r : RuleTree) × IsMakerAt u r × Contains (nodes names (selectors r.expr)) v) ⊎ ((u ≡ length names) × (v < length s.names))

  edge_is : (u v : ℕ) → Contains (after (edges_of names s) u) v → IsEdge u v
  edge_is u v c = elim (cases_lt u (length names)) [
    | inl h ↦
        let P : List ℕ → Type 0 = λ l. Contains l v in
        let Q : List (Option Bytes) → Type 0 = λ l. Contains (nodes names l) v in
        let k = of_flat_map (nodes_of names s) (makers_at s u) v (subst P (after_name u h) c) in
        let r = maker_at u k.0 k.1 in
        inl (r.0, r.2, subst Q (selected_is rules s is k.0 r.0 r.1) k.2)
    | inr h ↦ elim (cases_lt (length names) u) [
      | inl b ↦
          let P : List ℕ → Type 0 = λ l. Contains l v in
          absurd (none_in v (subst P (get_or_past (edges_of names s) u [] (omega (arith, b, edges_size))) c))
      | inr b ↦
          let e : u ≡ length names = omega (arith, h, b) in
          let P : List ℕ → Type 0 = λ l. Contains l v in
          inr (e, of_range (length s.names) v (subst P (ap (after (edges_of names s)) e ∙ after_all) c))
    ]
  ]

  edge_from : (r : RuleTree) → Contains rules r → r.alert ≡ false → (v : ℕ) → Contains (nodes names (selectors r.expr)) v → Contains (after (edges_of names s) (place names r.name)) v
  edge_from r c a v d =
      let k = number_of rules r c in
      let P : List ℕ → Type 0 = λ l. Contains l v in
      let Q : List (Option Bytes) → Type 0 = λ l. Contains (nodes names l) v in
      let led : Contains (by_makers (place names r.name)) v =
      in_flat_map (nodes_of names s) (makers_at s (place names r.name)) k.0 v (maker_from r k.0 k.2 a) (subst Q (sym (selected_is rules s is k.0 r k.2)) d) in
      subst P (sym (after_name (place names r.name) (placed r c a))) led

  edge_all : (n : Bytes) → IsRecorded n → Contains (after (edges_of names s) (length names)) (place names n)
  edge_all n c =
      let P : List ℕ → Type 0 = λ l. Contains l (place names n) in
      let h = first_placed n c in
      let e = first_place n h in
      subst P (sym after_all) (in_range (length s.names) (place names n) (omega (arith, e, h)))

  pub nodes_below : (found : List (Option Bytes)) (v : ℕ) → Contains (nodes names found) v → v < length (edges_of names s)
  nodes_below found v c =
      let o = of_flat_map (source_of names) found v c in
      let b = source_below names o.0 v o.2 in
      omega (arith, b, edges_size)

  graph_is : IsGraph (edges_of names s)
  graph_is u v c = elim (edge_is u v c) [ inl e ↦ nodes_below (selectors e.0.expr) v e.2 | inr e ↦ omega (arith, e.1, counts, edges_size) ]

  -- what is read is led to

  means_leads : (u : ℕ) (n : Bytes) → Means u n → Leads (edges_of names s) u (place names n)
  means_leads u n m =
      let P : ℕ → Type 0 = λ k. Leads (edges_of names s) k (place names n) in
      elim m [ inl e ↦ subst P (sym e.0) nowhere | inr e ↦ subst P (sym e.0) (along (place names n) (edge_all n e.1) nowhere) ]

  selects_led : (found : List (Option Bytes)) (n : Bytes) → IsPlaced names n → SelectsBy rules found n → IsLedTo found (place names n)
  selects_led found n h sel = let u = selects_node found n h sel in (u.0, u.1, means_leads u.0 n u.2)

  led_on : (found : List (Option Bytes)) (r : RuleTree) → Contains rules r → r.alert ≡ false → SelectsBy rules found r.name → (v : ℕ) → IsLedTo (selectors r.expr) v → IsLedTo found v
  led_on found r c a sel v q =
      let p = selects_led found r.name (placed r c a) sel in
      (p.0, p.1, onwards (edges_of names s) p.0 (place names r.name) v p.2 (along q.0 (edge_from r c a q.0 q.1) q.2))

  reads_led : (e : Tree) (n : Bytes) → IsPlaced names n → Reads rules e n → IsLedTo (selectors e) (place names n)
  reads_led e n h (selected sel) = selects_led (selectors e) n h sel
  reads_led e n h (through r c a sel rest) = led_on (selectors e) r c a sel (place names n) (reads_led r.expr n h rest)

  by_led : (found : List (Option Bytes)) (n : Bytes) → IsPlaced names n → ReadsBy rules found n → IsLedTo found (place names n)
  by_led found n h (inl sel) = selects_led found n h sel
  by_led found n h (inr (r, c, a, sel, rest)) = led_on found r c a sel (place names n) (reads_led r.expr n h rest)

  -- and what is led to is read

  abbrev IsRead : List (Option Bytes) → ℕ → Type 0
  IsRead start u = (n : Bytes) → Means u n → ReadsBy rules start n

  maker_read : (start : List (Option Bytes)) (u : ℕ) (r : RuleTree) → IsMakerAt u r → IsRead start u → ReadsBy rules start r.name
  maker_read start u r at read = read r.name (inl (sym at.2, placed r at.0 at.1))

  read_on : (start : List (Option Bytes)) (u v : ℕ) → IsEdge u v → IsRead start u → IsRead start v
  read_on start u v (inl e) read n m = let r : RuleTree = e.0 in reads_on rules start r.name (maker_read start u r e.1 read) r e.1.0 e.1.1 refl n (node_selects (selectors r.expr) v n e.2 m)
  read_on start u v (inr e) read n (inl m) = read n (inr (e.0, known n (omega (arith, e.1, m.0))))
  read_on start u v (inr e) read n (inr m) = absurd (omega (arith, e.1, m.0, counts))

  read_along : (start : List (Option Bytes)) (u v : ℕ) → Leads (edges_of names s) u v → IsRead start u → IsRead start v
  read_along start u v nowhere read = read
  read_along start u v (along w c rest) read = read_along start w v rest (read_on start u w (edge_is u w c) read)

  led_read : (start : List (Option Bytes)) (v : ℕ) → IsLedTo start v → IsRead start v
  led_read start v q = read_along start q.0 v q.2 (λ n m. inl (node_selects start q.0 n q.1 m))

  -- it is a name or the node of all recorded names

  abbrev IsNode : ℕ → Type 0
  IsNode u = ((n : Bytes) × (u ≡ place names n) × IsPlaced names n) ⊎ (u ≡ length names)

  node_is : (found : List (Option Bytes)) (u : ℕ) → Contains (nodes names found) u → IsNode u
  node_is found u c = let o = of_flat_map (source_of names) found u c in by o.0 o.2
    where
      by : (o : Option Bytes) → Contains (source_of names o) u → IsNode u
      by None g = inr (sym (only_one (length names) u g))
      by (Some name) g = let f = source_named names name u g in inl (name, sym f.1, f.0)

  node_on : (u v : ℕ) → IsEdge u v → IsNode v
  node_on u v (inl e) = node_is (selectors e.0.expr) v e.2
  node_on u v (inr e) =
      let n : Bytes = get_or s.names v [] in
      let at = own_place v e.1 in
      let same = first_place n (omega (arith, at, e.1)) in
      inl (n, sym (same ∙ at), omega (arith, same, at, e.1, counts))

  node_along : (u v : ℕ) → Leads (edges_of names s) u v → IsNode u → IsNode v
  node_along u v nowhere node = node
  node_along u v (along w c rest) node = node_along w v rest (node_on u w (edge_is u w c))

  -- so the names that a selector reads are those to which its node leads
  pub numbers_are : (o : Option Bytes) (found all start : List ℕ) → start ≡ source_of names o → ((k : ℕ) → Contains all k ↔ IsReached (edges_of names s) start k) → found ≡ filter (λ k. nat_lt k (length names)) all → AreNumbersBy rules names o found
  numbers_are o found all start begun led below k = (
    λ c. let P : List ℕ → Type 0 = λ l. Contains l k in let w = of_filter (λ n. nat_lt n (length names)) all k (subst P below c) in to (ltb-true k (length names) w.1) (subst Q (begun ∙ own) ((led k).0 w.0)),
    λ h.
        let P : List ℕ → Type 0 = λ l. Contains l k in
        let R : ℕ → Type 0 = λ z. IsLedTo (o ∷ []) z in
        let at = subst R h.1.2 (by_led (o ∷ []) h.1.0 (omega (arith, h.0, h.1.2)) h.1.1) in
        subst P (sym below) (in_filter (λ n. nat_lt n (length names)) all k ((led k).1 (subst Q (sym (begun ∙ own)) at)) (lt-ltb k (length names) h.0)),
  )
    where
      own : source_of names o ≡ nodes names (o ∷ [])
      own = sym (append-nil (source_of names o))

      Q : List ℕ → Type 0
      Q l = IsReached (edges_of names s) l k

      to : k < length names → IsLedTo (o ∷ []) k → IsNumberBy rules names o k
      to lt q = elim (node_along q.0 k q.2 (node_is (o ∷ []) q.0 q.1)) [
        | inl n ↦ (lt, (n.0, led_read (o ∷ []) k q n.0 (inl (n.1, n.2)), sym n.1))
        | inr e ↦ absurd (omega (arith, e, lt))
      ]

  -- a name is read in its own making if it is on a circle

  pub cyclic_circle : (name : Bytes) → IsCyclic rules name → IsPlaced names name × IsOnCircle (edges_of names s) (place names name)
  cyclic_circle name y =
      let P : Bytes → Type 0 = λ n. IsPlaced names n in
      let h : IsPlaced names name = subst P y.2.1 (placed y.0 y.1 y.2.0) in
      let q = reads_led y.0.expr name h y.3 in
      let Q : Bytes → Type 0 = λ n. Contains (after (edges_of names s) (place names n)) q.0 in
      (h, (q.0, subst Q y.2.1 (edge_from y.0 y.1 y.2.0 q.0 q.1), q.2))

  pub circle_cyclic : (name : Bytes) → IsPlaced names name → IsOnCircle (edges_of names s) (place names name) → IsCyclic rules name
  circle_cyclic name h o = elim (edge_is (place names name) o.0 o.1) [
    | inl e ↦
        let same : e.0.name ≡ name = sym (same_text names name e.0.name h (sym e.1.2)) in
        (e.0, e.1.0, (e.1.1, same), reads_to rules e.0.expr name (led_read (selectors e.0.expr) (place names name) (o.0, e.2, o.2) name (inl (refl, h))))
    | inr e ↦ absurd (omega (arith, h, e.0))
  ]

  -- the rules that record what an expression reads
  module _ (e : Tree) (met : List ℕ) (led : (v : ℕ) → Contains met v ↔ IsLedTo (selectors e) v) where
    abbrev pub IsMaker : ℕ → Type 0
    IsMaker k = (u : ℕ) × Contains met u × Contains (makers_at s u) k

    abbrev pub IsRule : ℕ → Type 0
    IsRule k = (r : RuleTree) × (slice_get rules k ≡ Some r) × Reaches rules e r

    pub reached_to : (k : ℕ) → IsMaker k → IsRule k
    reached_to k m =
        let r = maker_at m.0 k m.2 in
        (r.0, r.1, (r.2.1, reads_to rules e r.0.name (maker_read (selectors e) m.0 r.0 r.2 (led_read (selectors e) m.0 ((led m.0).0 m.1)))))

    pub reached_from : (k : ℕ) → IsRule k → IsMaker k
    reached_from k h =
        let u : ℕ = place names h.0.name in
        (u, (led u).1 (reads_led e h.0.name (placed h.0 (member_at rules k h.0 h.1) h.2.0) h.2.1), maker_from h.0 k h.1 h.2.0)

-- the graph of an index
module _ (s : Sources) (index : IsIndex s) (names : List Bytes) (begin : BeginWith names s.names) where
  pub is_graph : IsGraph (edges_of names s)
  is_graph = graph_is index.0 s index.1 names begin

  pub makers_are_rules : (u k : ℕ) → Contains (makers_at s u) k → k < length s.selected
  makers_are_rules = maker_within index.0 s index.1 names begin

  module _ (c : Components) (graph : AreComponents (edges_of names s) c) where
    numbers_size : length c.numbers ≡ length names + 1
    numbers_size = graph.numbered.nodes ∙ edges_size index.0 s index.1 names begin

    pub nodes_numbered : (found : List (Option Bytes)) (u : ℕ) → Contains (nodes names found) u → u < length c.numbers
    nodes_numbered found u there = let b = nodes_below index.0 s index.1 names begin found u there in omega (arith, b, graph.numbered.nodes)

    pub names_numbered : (u : ℕ) → u < length names → u < length c.numbers
    names_numbered u h = omega (arith, h, numbers_size)
