-- What a search from selectors meets is what they read.
use Rattle.std.proofs.Common.{◌≡◌, ℕ, ◌+◌, ◌<◌, ◌≤◌, Bool, true, false, not, ◌&&◌, cond, nat_lt, List, [], ◌∷◌, ◌++◌, take, length, get_or, Option, Some, None, inl, inr, refl, sym, ◌∙◌, ap, subst, arith}
use Rattle.std.specs.List.{Contains, flat_map}
use Rattle.std.specs.Str.{bytes_eq}
use Rattle.std.proofs.lemmas.Bool.{cases_lt}
use Rattle.std.proofs.lemmas.Bool.Decides.{nat_tests}
use Rattle.std.proofs.lemmas.List.{append-nil, append_assoc, take-append-le, take_all, take_more}
use Rattle.std.proofs.lemmas.List.Elements.{Contains-append_left, Contains-append_right, Contains-append_cases, Contains-get_or}
use Rattle.lf_ast.specs.Labels.{Bytes}
use Rattle.lf_ast.specs.Tree.{Tree}
use Rattle.lf_ast.specs.Rules.{RuleTree}
use Rattle.lf_classes.specs.views.TextSets.{with_text}
use Rattle.lf_semantics.specs.Listing.{place}
use Rattle.lf_laws.proofs.Members.{in_flat_map, none_in, same_true, true_same, of_flat_map, only_one}
use Rattle.lf_laws.proofs.Slices.{take_none}
use Rattle.lf_semantics.proofs.Places.{at_place}
use Rattle.lf_graph.proofs.Prefixes.{flat_map_next, prefix_next}
use Rattle.lf_deps.specs.Reading.{Reads, Selects, SelectsBy, selectors}
use Rattle.lf_deps.specs.Reading.Reads.{selected, through}
use Rattle.lf_deps.specs.views.Search.{AreRead, Grows, IsSearch, ReadsBy, made_by, making}

-- lists

take_next : (xs more : List Bytes) (k : ℕ) → k < length xs → take (k + 1) (xs ++ more) ≡ take k xs ++ get_or xs k [] ∷ []
take_next xs more k h = take-append-le (k + 1) xs more (omega arith) ∙ take_more xs k [] h

-- lists of names that go on

pub grows_old : (added xs : List Bytes) → ((n : Bytes) → Contains added n → Contains xs n) → Grows added xs xs
grows_old added xs h = ([], sym (append-nil xs), λ n c. absurd (none_in n c), h)

pub grows_none : (xs : List Bytes) → Grows [] xs xs
grows_none xs = grows_old [] xs (λ n c. absurd (none_in n c))

pub kept_in : (added old new : List Bytes) → Grows added old new → (n : Bytes) → Contains old n → Contains new n
kept_in added old new g n c = let P : List Bytes → Type 0 = λ l. Contains l n in subst P (sym g.1) (Contains-append_left old g.0 n c)

pub grows_then : (a b x y z : List Bytes) → Grows a x y → Grows b y z → Grows (a ++ b) x z
grows_then a b x y z g h = (
  g.0 ++ h.0,
  h.1 ∙ ap (λ (l : List Bytes). l ++ h.0) g.1 ∙ append_assoc x g.0 h.0,
  λ n c. elim (Contains-append_cases g.0 h.0 n c) [ inl d ↦ Contains-append_left a b n (g.2 n d) | inr d ↦ Contains-append_right a b n (h.2 n d) ],
  λ n c. elim (Contains-append_cases a b n c) [ inl d ↦ kept_in b y z h n (g.3 n d) | inr d ↦ h.3 n d ],
)

pub grows_text : (xs : List Bytes) (t : Bytes) → Grows (t ∷ []) xs (with_text xs t)
grows_text xs t = elim (cases_lt (place xs t) (length xs)) [
  | inl h ↦
      let e : nat_lt (place xs t) (length xs) ≡ true = grind (arith, nat_tests) in
      let P : Bool → Type 0 = λ b. Grows (t ∷ []) xs (cond b xs (xs ++ t ∷ [])) in
      subst P (sym e) (grows_old (t ∷ []) xs (λ n c.
      let Q : Bytes → Type 0 = λ z. Contains xs z in
      subst Q (at_place xs t h ∙ only_one t n c) (Contains-get_or xs (place xs t) [] h)))
  | inr h ↦
      let e : nat_lt (place xs t) (length xs) ≡ false = grind (arith, nat_tests) in
      let P : Bool → Type 0 = λ b. Grows (t ∷ []) xs (cond b xs (xs ++ t ∷ [])) in
      subst P (sym e) (t ∷ [], refl, λ n c. c, λ n c. Contains-append_right xs (t ∷ []) n c)
]

pub grows_next : (names : List Bytes) (k : ℕ) (x : Bytes) (a b c : List Bytes) → k < length names → x ≡ get_or names k [] → Grows (take k names) a b → Grows (x ∷ []) b c → Grows (take (k + 1) names) a c
grows_next names k x a b c h is g s =
    let P : List Bytes → Type 0 = λ l. Grows l a c in
    subst P (sym (prefix_next names k [] x h is)) (grows_then (take k names) (x ∷ []) a b c g s)

-- one more element's names
pub grows_more : {X : Type 0} (f : X → List Bytes) (xs : List X) (k : ℕ) (d x : X) (a b c : List Bytes) → k < length xs → x ≡ get_or xs k d → Grows (flat_map f (take k xs)) a b → Grows (f x) b c
    → Grows (flat_map f (take (k + 1) xs)) a c
grows_more f xs k d x a b c h is g s =
    let P : List Bytes → Type 0 = λ l. Grows l a c in
    subst P (sym (flat_map_next f xs k d x h is)) (grows_then (flat_map f (take k xs)) (f x) a b c g s)

pub grows_whole : {X : Type 0} (f : X → List Bytes) (xs : List X) (k : ℕ) (a b : List Bytes) → length xs ≤ k → Grows (flat_map f (take k xs)) a b → Grows (flat_map f xs) a b
grows_whole f xs k a b h g = let P : List Bytes → Type 0 = λ l. Grows l a b in subst P (ap (flat_map f) (take_all k xs h)) g

-- what is selected in the making of a name

made_in : (name : Bytes) (r : RuleTree) (s : Option Bytes) → Contains (made_by name r) s → (r.alert ≡ false) × (r.name ≡ name) × Contains (selectors r.expr) s
made_in name r s c = by r.alert refl (bytes_eq r.name name) refl c
  where
    by : (a : Bool) → r.alert ≡ a → (b : Bool) → bytes_eq r.name name ≡ b → Contains (cond (not a && b) (selectors r.expr) []) s → (r.alert ≡ false) × (r.name ≡ name) × Contains (selectors r.expr) s
    by true f b e d = absurd (none_in s d)
    by false f true e d = (f, true_same r.name name e, d)
    by false f false e d = absurd (none_in s d)

made_of : (name : Bytes) (r : RuleTree) (s : Option Bytes) → r.alert ≡ false → r.name ≡ name → Contains (selectors r.expr) s → Contains (made_by name r) s
made_of name r s a e c =
    let P : Bool → Type 0 = λ b. Contains (cond (not b && bytes_eq r.name name) (selectors r.expr) []) s in
    let Q : Bool → Type 0 = λ b. Contains (cond b (selectors r.expr) []) s in
    subst P (sym a) (subst Q (sym (same_true r.name name e)) c)

pub making_to : (rules : List RuleTree) (name n : Bytes) → SelectsBy rules (making rules name) n → (r : RuleTree) × Contains rules r × (r.alert ≡ false) × (r.name ≡ name) × Selects rules r.expr n
making_to rules name n (inl c) = let f = of_flat_map (made_by name) rules (Some n) c in let m = made_in name f.0 (Some n) f.2 in (f.0, f.1, m.0, m.1, inl m.2)
making_to rules name n (inr c) = let f = of_flat_map (made_by name) rules None c.0 in let m = made_in name f.0 None f.2 in (f.0, f.1, m.0, m.1, inr (m.2, c.1))

pub making_from : (rules : List RuleTree) (name n : Bytes) (r : RuleTree) → Contains rules r → r.alert ≡ false → r.name ≡ name → Selects rules r.expr n → SelectsBy rules (making rules name) n
making_from rules name n r c a e (inl d) = inl (in_flat_map (made_by name) rules r (Some n) c (made_of name r (Some n) a e d))
making_from rules name n r c a e (inr d) = inr (in_flat_map (made_by name) rules r None c (made_of name r None a e d.0), d.1)

-- what is read

pub reads_more : (rules : List RuleTree) (e : Tree) (m : Bytes) → Reads rules e m → (r : RuleTree) → Contains rules r → r.alert ≡ false → r.name ≡ m → (n : Bytes) → Selects rules r.expr n → Reads rules e n
reads_more rules e m (selected s) r c a is n sel = through r c a (let P : Bytes → Type 0 = λ z. Selects rules e z in subst P (sym is) s) (selected sel)
reads_more rules e m (through q d b t rest) r c a is n sel = through q d b t (reads_more rules q.expr m rest r c a is n sel)

pub reads_on : (rules : List RuleTree) (start : List (Option Bytes)) (m : Bytes) → ReadsBy rules start m → (r : RuleTree) → Contains rules r → r.alert ≡ false → r.name ≡ m → (n : Bytes) → Selects rules r.expr n → ReadsBy rules start n
reads_on rules start m (inl s) r c a is n sel = inr (r, c, a, let P : Bytes → Type 0 = λ z. SelectsBy rules start z in subst P (sym is) s, selected sel)
reads_on rules start m (inr q) r c a is n sel = inr (q.0, q.1, q.2, q.3, reads_more rules q.0.expr m q.4 r c a is n sel)

-- a list that has what is selected in the making of each of its names has what is read by an expression of which it has what is selected
module _ (rules : List RuleTree) (texts : List Bytes) (closed : (name : Bytes) → Contains texts name → (n : Bytes) → SelectsBy rules (making rules name) n → Contains texts n) where
  of_rule : (r : RuleTree) → Contains rules r → r.alert ≡ false → Contains texts r.name → (n : Bytes) → Selects rules r.expr n → Contains texts n
  of_rule r c a there n sel = closed r.name there n (making_from rules r.name n r c a refl sel)

  pub covered : (e : Tree) → ((n : Bytes) → Selects rules e n → Contains texts n) → (name : Bytes) → Reads rules e name → Contains texts name
  covered e h name (selected s) = h name s
  covered e h name (through r c a s rest) = covered r.expr (of_rule r c a (h r.name s)) name rest

  pub covered_by : (start : List (Option Bytes)) → ((n : Bytes) → SelectsBy rules start n → Contains texts n) → (name : Bytes) → ReadsBy rules start name → Contains texts name
  covered_by start h name (inl s) = h name s
  covered_by start h name (inr q) = covered q.0.expr (of_rule q.0 q.1 q.2 (h q.0.name q.3)) name q.4

-- the search

pub search_begins : (rules : List RuleTree) (start : List (Option Bytes)) (added texts : List Bytes) → Grows added [] texts
    → ((n : Bytes) → Contains added n → SelectsBy rules start n) → ((n : Bytes) → SelectsBy rules start n → Contains added n) → IsSearch rules start texts 0
search_begins rules start added texts g to from = record {
  read = λ n c. let P : List Bytes → Type 0 = λ l. Contains l n in inl (to n (g.2 n (subst P g.1 c)));
  begun = λ n d. g.3 n (from n d);
  followed = λ name c n d. let P : List Bytes → Type 0 = λ l. Contains l name in absurd (none_in name (subst P (take_none texts) c));
}

module _ (rules : List RuleTree) (start : List (Option Bytes)) (texts : List Bytes) (next : ℕ) (s : IsSearch rules start texts next) where
  pub search_ends : length texts ≤ next → AreRead rules start texts
  search_ends h name = (s.read name, covered_by rules texts closed start s.begun name)
    where
      closed : (m : Bytes) → Contains texts m → (n : Bytes) → SelectsBy rules (making rules m) n → Contains texts n
      closed m c = let P : List Bytes → Type 0 = λ l. Contains l m in s.followed m (subst P (sym (take_all next texts h)) c)

  module _ (within : next < length texts) (added new : List Bytes) (g : Grows added texts new) (to : (n : Bytes) → Contains added n → SelectsBy rules (making rules (get_or texts next [])) n) (from : (n : Bytes) → SelectsBy rules (making rules (get_or texts next [])) n → Contains added n) where
    read_still : (n : Bytes) → Contains new n → ReadsBy rules start n
    read_still n c = let P : List Bytes → Type 0 = λ l. Contains l n in elim (Contains-append_cases texts g.0 n (subst P g.1 c)) [
      | inl d ↦ s.read n d
      | inr d ↦
          let name : Bytes = get_or texts next [] in
          let m = making_to rules name n (to n (g.2 n d)) in
          reads_on rules start name (s.read name (Contains-get_or texts next [] within)) m.0 m.1 m.2 m.3 n m.4
    ]

    followed_still : (name : Bytes) → Contains (take (next + 1) new) name → (n : Bytes) → SelectsBy rules (making rules name) n → Contains new n
    followed_still name c n d =
        let P : List Bytes → Type 0 = λ l. Contains (take (next + 1) l) name in
        let Q : List Bytes → Type 0 = λ l. Contains l name in
        elim (Contains-append_cases (take next texts) (get_or texts next [] ∷ []) name (subst Q (take_next texts g.0 next within) (subst P g.1 c))) [
          | inl b ↦ kept_in added texts new g n (s.followed name b n d)
          | inr b ↦ let R : Bytes → Type 0 = λ z. SelectsBy rules (making rules z) n in g.3 n (from n (subst R (sym (only_one (get_or texts next []) name b)) d))
        ]

    pub search_goes_on : IsSearch rules start new (next + 1)
    search_goes_on = record {
      read = read_still;
      begun = λ n c. kept_in added texts new g n (s.begun n c);
      followed = followed_still;
    }
