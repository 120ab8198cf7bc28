-- What one more rule puts into the index.
use Rattle.std.proofs.Common.{◌≡◌, ◌≢◌, ℕ, zero, suc, ◌+◌, ◌<◌, ◌≤◌, Bool, true, false, not, ◌&&◌, cond, nat_lt, List, [], ◌∷◌, ◌++◌, map, length, get_or, Option, inl, inr, refl, sym, ◌∙◌, ap, subst, arith, length-append}
use Rattle.std.specs.Prelude.{slice_set}
use Rattle.std.specs.List.{Contains}
use Rattle.std.specs.Str.{bytes_eq}
use Rattle.std.proofs.lemmas.Bool.{cases_lt}
use Rattle.std.proofs.lemmas.Bool.Decides.{nat_tests}
use Rattle.std.proofs.lemmas.List.{append-nil, get_or-map, length-map, map-append}
use Rattle.lf_ast.specs.Labels.{Bytes}
use Rattle.lf_ast.specs.Rules.{RuleTree}
use Rattle.lf_classes.specs.views.TextSets.{with_text}
use Rattle.lf_classes.proofs.RecordedNames.{recorded_more}
use Rattle.lf_semantics.specs.Environments.{records, names_recorded, recorded_names}
use Rattle.lf_semantics.specs.Listing.{AreDistinct, place}
use Rattle.lf_semantics.proofs.ListingLaws.{first_seen_distinct, in_first_seen, place_within}
use Rattle.lf_laws.proofs.Members.{behind, here, other_false, same_true, true_same}
use Rattle.lf_semantics.proofs.Places.{at_place, first_is, later_is, place_last, place_le}
use Rattle.lf_graph.specs.views.Buckets.{put_at}
use Rattle.lf_deps.specs.views.Makers.{with_maker, with_room}
use Rattle.lf_deps.specs.Reading.{selectors}
use Rattle.lf_deps.specs.views.Search.{numbers_of}
use Rattle.lf_deps.specs.views.Sources.{IsSourcesOf, Sources}

-- numbers of rules

numbers_more : (test : RuleTree → Bool) (rules : List RuleTree) (j k : ℕ) (r : RuleTree) → k ≡ j + length rules → numbers_of test j (rules ++ r ∷ []) ≡ numbers_of test j rules ++ cond (test r) (k ∷ []) []
numbers_more test [] j k r e = let f : j ≡ k = omega (arith, e) in ap (λ i. cond (test r) (i ∷ []) []) f
numbers_more test (x ∷ rules) j k r e = by (test x) (numbers_more test rules (j + 1) k r (omega (arith, e)))
  where
    by : (b : Bool) → numbers_of test (j + 1) (rules ++ r ∷ []) ≡ numbers_of test (j + 1) rules ++ cond (test r) (k ∷ []) []
        → cond b (j ∷ numbers_of test (j + 1) (rules ++ r ∷ [])) (numbers_of test (j + 1) (rules ++ r ∷ [])) ≡ cond b (j ∷ numbers_of test (j + 1) rules) (numbers_of test (j + 1) rules) ++ cond (test r) (k ∷ []) []
    by true h = ap (λ (l : List ℕ). j ∷ l) h
    by false h = h

-- a rule that doesn't pass adds no number
numbers_same : (test : RuleTree → Bool) (rules : List RuleTree) (r : RuleTree) → test r ≡ false → numbers_of test 0 (rules ++ r ∷ []) ≡ numbers_of test 0 rules
numbers_same test rules r f =
    numbers_more test rules 0 (length rules) r (omega arith) ∙ ap (λ b. numbers_of test 0 rules ++ cond b (length rules ∷ []) []) f ∙ append-nil (numbers_of test 0 rules)

-- a rule that passes adds its own
numbers_own : (test : RuleTree → Bool) (rules : List RuleTree) (r : RuleTree) → test r ≡ true → numbers_of test 0 (rules ++ r ∷ []) ≡ numbers_of test 0 rules ++ length rules ∷ []
numbers_own test rules r f = numbers_more test rules 0 (length rules) r (omega arith) ∙ ap (λ b. numbers_of test 0 rules ++ cond b (length rules ∷ []) []) f

-- no rule records a name that isn't recorded
pub none_record : (name : Bytes) (rules : List RuleTree) (j : ℕ) → (Contains (names_recorded rules) name → ⊥) → numbers_of (records name) j rules ≡ []
none_record name [] j h = refl
none_record name (x ∷ rules) j h = by x.alert h (none_record name rules (j + 1))
  where
    by : (a : Bool) → (Contains (cond a (names_recorded rules) (x.name ∷ names_recorded rules)) name → ⊥) → ((Contains (names_recorded rules) name → ⊥) → numbers_of (records name) (j + 1) rules ≡ [])
        → cond (not a && bytes_eq x.name name) (j ∷ numbers_of (records name) (j + 1) rules) (numbers_of (records name) (j + 1) rules) ≡ []
    by true g rest = rest g
    by false g rest =
        let P : Bytes → Type 0 = λ n. Contains (x.name ∷ names_recorded rules) n in
        let f : bytes_eq x.name name ≡ false = other_false x.name name (λ e. g (subst P e (here x.name (names_recorded rules)))) in
        ap (λ b. cond b (j ∷ numbers_of (records name) (j + 1) rules) (numbers_of (records name) (j + 1) rules)) f ∙ rest (λ c. g (behind x.name (names_recorded rules) name c))

records_alert : (name : Bytes) (r : RuleTree) → r.alert ≡ true → records name r ≡ false
records_alert name r a = ap (λ b. not b && bytes_eq r.name name) a

pub records_own : (r : RuleTree) → r.alert ≡ false → records r.name r ≡ true
records_own r a = ap (λ b. not b && bytes_eq r.name r.name) a ∙ same_true r.name r.name refl

records_other : (name : Bytes) (r : RuleTree) → r.alert ≡ false → name ≢ r.name → records name r ≡ false
records_other name r a h = ap (λ b. not b && bytes_eq r.name name) a ∙ other_false r.name name (λ e. h (sym e))

-- lists that stand beside names

map_same : (f g : Bytes → List ℕ) (names : List Bytes) → ((x : Bytes) → Contains names x → f x ≡ g x) → map f names ≡ map g names
map_same f g [] h = refl
map_same f g (x ∷ names) h = ap (λ (l : List ℕ). l ∷ map f names) (h x (here x names)) ∙ ap (λ (l : List (List ℕ)). g x ∷ l) (map_same f g names (λ y c. h y (behind x names y c)))

-- only the list of one name changes
set_one : (f g : Bytes → List ℕ) (names : List Bytes) (name : Bytes) (v : List ℕ) (k : ℕ) → k ≡ place names name → k < length names → AreDistinct names → v ≡ g name → ((x : Bytes) → x ≢ name → f x ≡ g x)
    → slice_set (map f names) k v ≡ map g names
set_one f g [] name v k e h d is other = absurd (omega arith)
set_one f g (x ∷ names) name v zero e h d is other =
    let same : x ≡ name = true_same x name (first_is (bytes_eq x name) (place names name) e) in
    let P : Bytes → Type 0 = λ z. Contains names z in
    ap (λ (l : List ℕ). l ∷ map f names) (is ∙ ap g (sym same))
    ∙ ap (λ (l : List (List ℕ)). g x ∷ l) (map_same f g names (λ y c. other y (λ q. d.0 (subst P (q ∙ sym same) c))))
set_one f g (x ∷ names) name v (suc k) e h d is other =
    let l = later_is (bytes_eq x name) (place names name) k e in
    ap (λ (y : List ℕ). y ∷ slice_set (map f names) k v) (other x (λ q. let t : true ≡ false = sym (same_true x name q) ∙ l.0 in absurd (cc)))
    ∙ ap (λ (l : List (List ℕ)). g x ∷ l) (set_one f g names name v k l.1 (omega arith) d.1 is other)

at_one : (f : Bytes → List ℕ) (names : List Bytes) (name : Bytes) (k : ℕ) → k ≡ place names name → k < length names → get_or (map f names) k [] ≡ f name
at_one f names name k e h =
    let P : ℕ → Type 0 = λ i. i < length names in
    get_or-map f names k [] [] h ∙ ap (λ i. f (get_or names i [])) e ∙ ap f (at_place names name (subst P e h))

-- the numbers of a name that has a place
pub numbers_at : (f : Bytes → List ℕ) (names : List Bytes) (name : Bytes) → place names name < length names → get_or (map f names) (place names name) [] ≡ f name
numbers_at f names name h = at_one f names name (place names name) refl h

-- a name that is there, or goes behind the others, has a place
module _ (names : List Bytes) (name : Bytes) where
  abbrev IsPlaced : List Bytes → Type 0
  IsPlaced after = (place names name ≡ place after name) × (place names name < length after)

  placed : IsPlaced (with_text names name)
  placed = elim (cases_lt (place names name) (length names)) [
    | inl h ↦
        let e : nat_lt (place names name) (length names) ≡ true = grind (arith, nat_tests) in
        let P : Bool → Type 0 = λ b. IsPlaced (cond b names (names ++ name ∷ [])) in
        subst P (sym e) (refl, h)
    | inr h ↦
        let e : nat_lt (place names name) (length names) ≡ false = grind (arith, nat_tests) in
        let P : Bool → Type 0 = λ b. IsPlaced (cond b names (names ++ name ∷ [])) in
        let end : place names name ≡ length names = let r = place_le names name in omega (arith, h, r) in
        subst P (sym e) (end ∙ sym (place_last names name h), omega (arith, end, length-append names (name ∷ [])))
  ]

  -- there is room for it
  room_is : (f : Bytes → List ℕ) → (length names ≤ place names name → f name ≡ []) → with_room names (map f names) name ≡ map f (with_text names name)
  room_is f new = elim (cases_lt (place names name) (length names)) [
    | inl h ↦
        let e : nat_lt (place names name) (length names) ≡ true = grind (arith, nat_tests) in
        let P : Bool → Type 0 = λ b. cond b (map f names) (map f names ++ [] ∷ []) ≡ map f (cond b names (names ++ name ∷ [])) in
        subst P (sym e) refl
    | inr h ↦
        let e : nat_lt (place names name) (length names) ≡ false = grind (arith, nat_tests) in
        let P : Bool → Type 0 = λ b. cond b (map f names) (map f names ++ [] ∷ []) ≡ map f (cond b names (names ++ name ∷ [])) in
        subst P (sym e) (ap (λ (l : List ℕ). map f names ++ l ∷ []) (sym (new h)) ∙ sym (map-append f names (name ∷ [])))
  ]

-- the index of one more rule
module _ (rules : List RuleTree) (s : Sources) (is : IsSourcesOf rules s) (r : RuleTree) where
  abbrev Old : Bytes → List ℕ
  Old name = numbers_of (records name) 0 rules

  abbrev New : Bytes → List ℕ
  New name = numbers_of (records name) 0 (rules ++ r ∷ [])

  selected_more : s.selected ++ selectors r.expr ∷ [] ≡ map (λ (x : RuleTree). selectors x.expr) (rules ++ r ∷ [])
  selected_more = ap (λ (l : List (List (Option Bytes))). l ++ selectors r.expr ∷ []) is.selected ∙ sym (map-append (λ (x : RuleTree). selectors x.expr) rules (r ∷ []))

  distinct : AreDistinct (recorded_names (rules ++ r ∷ []))
  distinct = first_seen_distinct (names_recorded (rules ++ r ∷ []))

  unrecorded : length s.names ≤ place s.names r.name → Old r.name ≡ []
  unrecorded h = none_record r.name rules 0 (λ c.
      let P : List Bytes → Type 0 = λ l. place l r.name < length l in
      let w : place s.names r.name < length s.names = subst P (sym is.names) (place_within (recorded_names rules) r.name (in_first_seen (names_recorded rules) r.name c)) in
      omega (arith, w, h))

  module _ (a : r.alert ≡ true) where
    names_still : s.names ≡ recorded_names (rules ++ r ∷ [])
    names_still = is.names ∙ sym (recorded_more rules r ∙ ap (λ b. cond b (recorded_names rules) (with_text (recorded_names rules) r.name)) a)

    makers_still : s.makers ≡ map New s.names
    makers_still = is.makers ∙ map_same Old New s.names (λ name c. sym (numbers_same (records name) rules r (records_alert name r a)))

  module _ (a : r.alert ≡ false) where
    names_with : with_text s.names r.name ≡ recorded_names (rules ++ r ∷ [])
    names_with = ap (λ l. with_text l r.name) is.names ∙ sym (recorded_more rules r ∙ ap (λ b. cond b (recorded_names rules) (with_text (recorded_names rules) r.name)) a)

    makers_with : with_maker s.names s.makers r.name (length rules) ≡ map New (with_text s.names r.name)
    makers_with =
        let after : List Bytes = with_text s.names r.name in
        let k : ℕ = place s.names r.name in
        let at = placed s.names r.name in
        let D : List Bytes → Type 0 = λ l. AreDistinct l in
        let old : List ℕ = get_or (map Old after) k [] in
        let own : old ++ length rules ∷ [] ≡ New r.name =
        ap (λ (l : List ℕ). l ++ length rules ∷ []) (at_one Old after r.name k at.0 at.1) ∙ sym (numbers_own (records r.name) rules r (records_own r a)) in
        ap (λ l. put_at (with_room s.names l r.name) k (length rules)) is.makers
        ∙ ap (λ l. put_at l k (length rules)) (room_is s.names r.name Old unrecorded)
        ∙ set_one Old New after r.name (old ++ length rules ∷ []) k at.0 at.1 (subst D (sym names_with) distinct) own (λ x h. sym (numbers_same (records x) rules r (records_other x r a h)))

  abbrev names_after : Bool → List Bytes
  names_after alert = cond alert s.names (with_text s.names r.name)

  abbrev makers_after : Bool → List (List ℕ)
  makers_after alert = cond alert s.makers (with_maker s.names s.makers r.name (length rules))

  pub sources_more : IsSourcesOf (rules ++ r ∷ []) (record { selected = s.selected ++ selectors r.expr ∷ []; names = names_after r.alert; makers = makers_after r.alert })
  sources_more = by r.alert refl
    where
      by : (alert : Bool) → r.alert ≡ alert → IsSourcesOf (rules ++ r ∷ []) (record { selected = s.selected ++ selectors r.expr ∷ []; names = names_after alert; makers = makers_after alert })
      by true a = record { selected = selected_more; names = names_still a; makers = makers_still a }
      by false a = record { selected = selected_more; names = names_with a; makers = makers_with a }

pub no_sources : (selected : List (List (Option Bytes))) (names : List Bytes) (makers : List (List ℕ)) → selected ≡ [] → names ≡ [] → makers ≡ [] → IsSourcesOf [] (record { selected = selected; names = names; makers = makers })
no_sources selected names makers e f g = record { selected = e; names = f; makers = g ∙ sym (ap (map (λ name. numbers_of (records name) 0 [])) f) }

-- there are numbers for each name
pub sources_full : (rules : List RuleTree) (s : Sources) → IsSourcesOf rules s → length s.makers ≡ length s.names
sources_full rules s is = ap length is.makers ∙ length-map s.names (λ name. numbers_of (records name) 0 rules)
