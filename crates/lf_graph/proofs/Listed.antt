-- What one more node adds to the lists of components.
use Rattle.std.proofs.Common.{◌≡◌, ℕ, zero, suc, ◌+◌, ◌<◌, ◌⊎◌, List, [], ◌∷◌, ◌++◌, length, get_or, set, replicate, inl, inr, refl, sym, ◌∙◌, ap, subst, arith}
use Rattle.std.specs.List.{Contains}
use Rattle.std.proofs.lemmas.Bool.{cases_eq, cases_lt}
use Rattle.std.proofs.lemmas.List.{get_or-set_other, get_or-set_same, length-replicate, length-set}
use Rattle.std.proofs.lemmas.List.Elements.{Contains-append_left, Contains-push, Contains-push_cases}
use Rattle.lf_graph.specs.Components.{AreComponents, AreNumbers, Components, number_of}
use Rattle.lf_graph.specs.views.Listing.{Adds, AreMembers, AreNexts, IsMember, IsNext, numbers_of}
use Rattle.lf_graph.specs.Paths.{IsGraph, after}
use Rattle.lf_laws.proofs.Members.{in_map, map_member, none_in}

-- an empty bucket has no element, and where there is no bucket there is none
pub none_in_empty : (n k u : ℕ) → Contains (get_or (replicate n []) k []) u → ⊥
none_in_empty zero k u c = none_in u c
none_in_empty (suc n) zero u c = none_in u c
none_in_empty (suc n) (suc k) u c = none_in_empty n k u c

pub no_members : (numbers : List ℕ) (count : ℕ) → AreMembers numbers 0 count (replicate count [])
no_members numbers count = record {
  size = length-replicate count [];
  members = λ k u. (λ c. absurd (none_in_empty count k u c), λ m. absurd (omega (arith, m.0)));
}

member_to : (numbers : List ℕ) (n k u : ℕ) → IsMember numbers n k u → IsMember numbers (n + 1) k u
member_to numbers n k u m = (omega (arith, m.0), m.1)

-- a node is one of the nodes before it, or the last
member_from : (numbers : List ℕ) (n k u : ℕ) → IsMember numbers (n + 1) k u → IsMember numbers n k u ⊎ ((n ≡ u) × (number_of numbers n ≡ k))
member_from numbers n k u m = elim (cases_lt u n) [
  | inl h ↦ inl (h, m.1)
  | inr h ↦ let e : n ≡ u = omega (arith, h, m.0) in inr (e, ap (number_of numbers) e ∙ m.1)
]

pub one_more_member : (numbers : List ℕ) (n count : ℕ) (lists later : List (List ℕ)) → number_of numbers n < count → AreMembers numbers n count lists
    → later ≡ set lists (number_of numbers n) (get_or lists (number_of numbers n) [] ++ n ∷ []) → AreMembers numbers (n + 1) count later
one_more_member numbers n count lists later h are e =
    let number : ℕ = number_of numbers n in
    let added : List ℕ = get_or lists number [] ++ n ∷ [] in
    let within : number < length lists = omega (arith, h, are.size) in
    let P : List (List ℕ) → Type 0 = λ l. AreMembers numbers (n + 1) count l in
    subst P (sym e) record {
      size = length-set lists number added ∙ are.size;
      members = λ k u. elim (cases_eq k number) [
        | inl same ↦
            let C : List ℕ → Type 0 = λ l. Contains l u in
            let is : get_or (set lists number added) k [] ≡ added = ap (λ (i : ℕ). get_or (set lists number added) i []) same ∙ get_or-set_same lists number added [] within in
            let was : get_or lists number [] ≡ get_or lists k [] = ap (λ (i : ℕ). get_or lists i []) (sym same) in (
              λ c. elim (Contains-push_cases (get_or lists number []) n u (subst C is c)) [
                | inl d ↦ member_to numbers n k u ((are.members k u).0 (subst C was d))
                | inr f ↦ (omega (arith, f), ap (number_of numbers) (sym f) ∙ sym same)
              ],
              λ m. subst C (sym is) (elim (member_from numbers n k u m) [
                | inl d ↦ Contains-append_left (get_or lists number []) (n ∷ []) u (subst C (sym was) ((are.members k u).1 d))
                | inr f ↦ let Q : ℕ → Type 0 = λ z. Contains added z in subst Q f.0 (Contains-push (get_or lists number []) n)
              ]),
            )
        | inr other ↦
            let C : List ℕ → Type 0 = λ l. Contains l u in
            let is : get_or (set lists number added) k [] ≡ get_or lists k [] = get_or-set_other lists number k added [] other in (
              λ c. member_to numbers n k u ((are.members k u).0 (subst C is c)),
              λ m. subst C (sym is) (elim (member_from numbers n k u m) [
                | inl d ↦ (are.members k u).1 d
                | inr f ↦ absurd (other (sym f.1))
              ]),
            )
      ];
    }

pub no_nexts : (edges : List (List ℕ)) (numbers : List ℕ) (count : ℕ) → AreNexts edges numbers 0 count (replicate count [])
no_nexts edges numbers count = record {
  size = length-replicate count [];
  nexts = λ k l. (λ c. absurd (none_in_empty count k l c), λ m. absurd (omega (arith, m.2)));
}

next_to : (edges : List (List ℕ)) (numbers : List ℕ) (n k l : ℕ) → IsNext edges numbers n k l → IsNext edges numbers (n + 1) k l
next_to edges numbers n k l m = (m.0, m.1, omega (arith, m.2), m.3, m.4, m.5)

next_by_last : (edges : List (List ℕ)) (numbers : List ℕ) (n l : ℕ) → Contains (numbers_of numbers (after edges n)) l → IsNext edges numbers (n + 1) (number_of numbers n) l
next_by_last edges numbers n l c =
    let v = map_member (number_of numbers) (after edges n) l c in
    (n, v.0, omega arith, refl, v.1, sym v.2)

-- an edge leads from one of the nodes before a node, or from the last
next_from : (edges : List (List ℕ)) (numbers : List ℕ) (n k l : ℕ) → IsNext edges numbers (n + 1) k l
    → IsNext edges numbers n k l ⊎ ((number_of numbers n ≡ k) × Contains (numbers_of numbers (after edges n)) l)
next_from edges numbers n k l m = elim (cases_lt m.0 n) [
  | inl h ↦ inl (m.0, m.1, h, m.3, m.4, m.5)
  | inr h ↦
      let e : m.0 ≡ n = omega (arith, h, m.2) in
      let P : ℕ → Type 0 = λ z. Contains (numbers_of numbers (after edges n)) z in
      let Q : ℕ → Type 0 = λ z. Contains (after edges z) m.1 in
      inr (ap (number_of numbers) (sym e) ∙ m.3, subst P m.5 (in_map (number_of numbers) (after edges n) m.1 (subst Q e m.4)))
]

pub one_more_next : (edges : List (List ℕ)) (numbers : List ℕ) (n count : ℕ) (lists later : List (List ℕ)) (list : List ℕ) → number_of numbers n < count → AreNexts edges numbers n count lists
    → Adds (numbers_of numbers (after edges n)) (get_or lists (number_of numbers n) []) list → later ≡ set lists (number_of numbers n) list → AreNexts edges numbers (n + 1) count later
one_more_next edges numbers n count lists later list h are adds e =
    let number : ℕ = number_of numbers n in
    let within : number < length lists = omega (arith, h, are.size) in
    let P : List (List ℕ) → Type 0 = λ l. AreNexts edges numbers (n + 1) count l in
    subst P (sym e) record {
      size = length-set lists number list ∙ are.size;
      nexts = λ k l. elim (cases_eq k number) [
        | inl same ↦
            let C : List ℕ → Type 0 = λ xs. Contains xs l in
            let N : ℕ → Type 0 = λ i. IsNext edges numbers (n + 1) i l in
            let is : get_or (set lists number list) k [] ≡ list = ap (λ (i : ℕ). get_or (set lists number list) i []) same ∙ get_or-set_same lists number list [] within in
            let was : get_or lists number [] ≡ get_or lists k [] = ap (λ (i : ℕ). get_or lists i []) (sym same) in (
              λ c. elim (adds.only l (subst C is c)) [
                | inl d ↦ next_to edges numbers n k l ((are.nexts k l).0 (subst C was d))
                | inr d ↦ subst N (sym same) (next_by_last edges numbers n l d)
              ],
              λ m. subst C (sym is) (elim (next_from edges numbers n k l m) [
                | inl d ↦ adds.kept l (subst C (sym was) ((are.nexts k l).1 d))
                | inr f ↦ adds.all l f.1
              ]),
            )
        | inr other ↦
            let C : List ℕ → Type 0 = λ xs. Contains xs l in
            let is : get_or (set lists number list) k [] ≡ get_or lists k [] = get_or-set_other lists number k list [] other in (
              λ c. next_to edges numbers n k l ((are.nexts k l).0 (subst C is c)),
              λ m. subst C (sym is) (elim (next_from edges numbers n k l m) [
                | inl d ↦ (are.nexts k l).1 d
                | inr f ↦ absurd (other (sym f.0))
              ]),
            )
      ];
    }

-- the lists for all nodes
pub all_listed : (edges : List (List ℕ)) (c : Components) (count : ℕ) → IsGraph edges → AreNumbers edges c.numbers count → AreMembers c.numbers (length c.numbers) count c.members → AreNexts edges c.numbers (length edges) count c.nexts
    → AreComponents edges c
all_listed edges c count graph numbered members nexts = record {
  graph = graph;
  numbered = let P : ℕ → Type 0 = λ n. AreNumbers edges c.numbers n in subst P (sym members.size) numbered;
  count = nexts.size ∙ sym members.size;
  members = λ k u. (
    λ d. let m = (members.members k u).0 d in (omega (arith, m.0, numbered.nodes), m.1),
    λ m. (members.members k u).1 (omega (arith, m.0, numbered.nodes), m.1),
  );
  nexts = nexts.nexts;
}
