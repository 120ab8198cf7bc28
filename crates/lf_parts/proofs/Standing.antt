-- What stands of an expression behind some of its parts, which were gone by from the first on.
use Rattle.std.proofs.Common.{◌≡◌, ◌≤◌, ℕ, zero, suc, List, [], ◌∷◌, ◌++◌, length, map, Option, Some, None, IfNone, rules, reverse, take, drop, refl, ap, sym, ◌∙◌, append-nil, arith}
use Rattle.std.specs.Option.{IsSome}
use Rattle.std.proofs.lemmas.List.{append_assoc, drop_at, length-append, length-map, length-reverse, map-append, reverse-append, reverse-reverse, take_at}
use Rattle.lf_ast.specs.Tree.{Tree, parts_of, nodes}
use Rattle.lf_ast.proofs.Listing.{nodes_all, nodes_parts}

-- in place of the first of some expressions its parts
abbrev pub onward : List Tree → List Tree
onward [] = []
onward (x ∷ xs) = parts_of x ++ xs

-- what stands of some expressions behind so many of all parts in them
abbrev pub standing : ℕ → List Tree → List Tree
standing zero xs = xs
standing (suc n) xs = standing n (onward xs)

standing_next : (n : ℕ) (xs : List Tree) → standing (suc n) xs ≡ onward (standing n xs)
standing_next zero xs = refl
standing_next (suc n) xs = standing_next n (onward xs)

nodes_both : (xs ys : List Tree) → nodes_all (xs ++ ys) ≡ nodes_all xs ++ nodes_all ys
nodes_both [] ys = refl
nodes_both (x ∷ xs) ys = ap (λ l. nodes x ++ l) (nodes_both xs ys) ∙ sym (append_assoc (nodes x) (nodes_all xs) (nodes_all ys))

nodes_first : (x : Tree) (xs : List Tree) → nodes_all (x ∷ xs) ≡ x ∷ nodes_all (parts_of x ++ xs)
nodes_first x xs = ap (λ l. l ++ nodes_all xs) (nodes_parts x) ∙ ap (λ l. x ∷ l) (sym (nodes_both (parts_of x) xs))

abbrev tail_of : List Tree → List Tree
tail_of [] = []
tail_of (x ∷ xs) = xs

not_none : (y : Tree) (ys : List Tree) → y ∷ ys ≡ [] → ⊥
not_none y ys e = let n : suc (length ys) ≡ 0 = ap length e in omega (arith, n)

-- all in what stands is what lies behind
nodes_standing : (front behind xs : List Tree) → nodes_all xs ≡ front ++ behind → nodes_all (standing (length front) xs) ≡ behind
nodes_standing [] behind xs e = e
nodes_standing (y ∷ ys) behind [] e = absurd (not_none y (ys ++ behind) (sym e))
nodes_standing (y ∷ ys) behind (x ∷ xs) e = nodes_standing ys behind (parts_of x ++ xs) (ap tail_of (sym (nodes_first x xs) ∙ e))

-- where something lies behind, its first is the first that stands
standing_first : (y : Tree) (behind xs : List Tree) → nodes_all xs ≡ y ∷ behind → xs ≡ y ∷ tail_of xs
standing_first y behind [] e = absurd (not_none y behind (sym e))
standing_first y behind (x ∷ xs) e = let f : x ∷ nodes_all (parts_of x ++ xs) ≡ y ∷ behind = sym (nodes_first x xs) ∙ e in cc

none_standing : (xs : List Tree) → nodes_all xs ≡ [] → xs ≡ []
none_standing [] e = refl
none_standing (x ∷ xs) e = absurd (not_none x (nodes_all (parts_of x ++ xs)) (sym (nodes_first x xs) ∙ e))

-- the parts up to a place are to be gone by, from the last on, and something is made of those behind it; on a stack, whose top is its last, are the values of what stands
pub record IsFolded {V W : Type 0} (value : Tree → V) (made_of : Tree → W) (e : Tree) (left : List Tree) (stack : List V) (values : List W) : Type 0 where
  pub behind : List Tree
  pub all : left ++ behind ≡ nodes e
  pub stacked : reverse stack ≡ map value (standing (length left) (e ∷ []))
  pub made : reverse values ≡ map made_of behind

module _ {V W : Type 0} (value : Tree → V) (made_of : Tree → W) (e : Tree) where
  -- where none is to be gone by, something is made of all
  pub all_made : (stack : List V) (values : List W) (left : List Tree) → IsFolded value made_of e left stack values → left ≡ [] → reverse values ≡ map made_of (nodes e)
  all_made stack values left f none = f.made ∙ ap (map made_of) (ap (λ l. l ++ f.behind) (sym none) ∙ f.all)

  whole : nodes_all (e ∷ []) ≡ nodes e
  whole = append-nil (nodes e)

  pub begun : (left : List Tree) (stack : List V) (values : List W) → left ≡ nodes e → stack ≡ [] → values ≡ [] → IsFolded value made_of e left stack values
  begun left stack values is none empty = record {
    behind = [];
    all = append-nil left ∙ is;
    stacked = ap reverse none ∙ ap (map value) (sym (none_standing (standing (length left) (e ∷ [])) (nodes_standing left [] (e ∷ []) (whole ∙ sym is ∙ sym (append-nil left)))));
    made = ap reverse empty;
  }

  -- one more
  module _ (old front : List Tree) (x : Tree) (stack : List V) (values : List W) (taken : old ≡ front ++ x ∷ []) (f : IsFolded value made_of e old stack values) where
    all_now : front ++ x ∷ f.behind ≡ nodes e
    all_now = sym (append_assoc front (x ∷ []) f.behind) ∙ ap (λ l. l ++ f.behind) (sym taken) ∙ f.all

    abbrev others : List Tree
    others = tail_of (standing (length front) (e ∷ []))

    stands : standing (length front) (e ∷ []) ≡ x ∷ others
    stands = standing_first x f.behind (standing (length front) (e ∷ [])) (nodes_standing front (x ∷ f.behind) (e ∷ []) (whole ∙ sym all_now))

    stood : standing (length old) (e ∷ []) ≡ parts_of x ++ others
    stood =
        let n : length old ≡ suc (length front) = ap length taken ∙ length-append front (x ∷ []) ∙ (omega arith) in
        ap (λ k. standing k (e ∷ [])) n ∙ standing_next (length front) (e ∷ []) ∙ ap onward stands

    stack_is : reverse stack ≡ map value (parts_of x) ++ map value others
    stack_is = f.stacked ∙ ap (map value) stood ∙ map-append value (parts_of x) others

    pub enough : length (parts_of x) ≤ length stack
    enough =
        let a = sym (length-reverse stack) ∙ ap length stack_is ∙ length-append (map value (parts_of x)) (map value others) in
        let b = length-map (parts_of x) value in
        omega (arith, a, b)

    module _ (parts below : List V) (off : stack ≡ below ++ reverse parts) (count : length parts ≡ length (parts_of x)) where
      both : parts ++ reverse below ≡ map value (parts_of x) ++ map value others
      both = ap (λ l. l ++ reverse below) (sym (reverse-reverse parts)) ∙ sym (reverse-append below (reverse parts)) ∙ ap reverse (sym off) ∙ stack_is

      same : length (map value (parts_of x)) ≡ length parts
      same = length-map (parts_of x) value ∙ sym count

      pub parts_are : parts ≡ map value (parts_of x)
      parts_are = sym (take_at parts (reverse below) (length parts) refl) ∙ ap (take (length parts)) both ∙ take_at (map value (parts_of x)) (map value others) (length parts) same

      below_is : reverse below ≡ map value others
      below_is = sym (drop_at parts (reverse below) (length parts) refl) ∙ ap (drop (length parts)) both ∙ drop_at (map value (parts_of x)) (map value others) (length parts) same

      pub goes_on : (v : V) (w : W) (stack_after : List V) (values_after : List W) → v ≡ value x → w ≡ made_of x → values_after ≡ values ++ w ∷ [] → stack_after ≡ below ++ v ∷ []
          → IsFolded value made_of e front stack_after values_after
      goes_on v w stack_after values_after is is_made more again = record {
        behind = x ∷ f.behind;
        all = all_now;
        stacked = ap reverse again ∙ reverse-append below (v ∷ []) ∙ ap (λ l. v ∷ l) below_is ∙ ap (λ z. z ∷ map value others) is ∙ ap (map value) (sym stands);
        made = ap reverse more ∙ reverse-append values (w ∷ []) ∙ ap (λ l. w ∷ l) f.made ∙ ap (λ z. z ∷ map made_of f.behind) is_made;
      }

-- the parts up to a place are to be gone by, and their values are left; those behind it have the values of their own parts
pub record IsGrouped {V : Type 0} (value : Tree → V) (e : Tree) (left : List Tree) (stack values : List V) (groups : List (List V)) : Type 0 where
  pub folded : IsFolded value (λ x. map value (parts_of x)) e left stack groups
  pub unmoved : values ≡ map value left

module _ {V : Type 0} (value : Tree → V) (front : List Tree) (x : Tree) (old : List Tree) (taken : old ≡ front ++ x ∷ []) (values : List V) (unmoved : values ≡ map value old) where
  -- there is a value where there is a part
  pub some_left : values ≡ [] → ⊥
  some_left none =
      let a = length-append front (x ∷ []) in
      let b : length values ≡ length old = ap length unmoved ∙ length-map old value in
      let c : length old ≡ length (front ++ x ∷ []) = ap length taken in
      let d : length values ≡ 0 = ap length none in
      omega (arith, a, b, c, d)

  pub value_there : (o : Option V) (rest : List V) → IfNone o ((values ≡ []) × (rest ≡ [])) → IsSome o
  value_there None rest none = absurd (some_left none.0)
  value_there (Some v) rest none = search rules

  -- and the last is that of the last
  pub last_value : (rest : List V) (v : V) → values ≡ rest ++ v ∷ [] → (rest ≡ map value front) × (v ≡ value x)
  last_value rest v split =
      let both : map value front ++ value x ∷ [] ≡ rest ++ v ∷ [] = sym (map-append value front (x ∷ [])) ∙ sym (ap (map value) taken) ∙ sym unmoved ∙ split in
      let turned : value x ∷ reverse (map value front) ≡ v ∷ reverse rest = sym (reverse-append (map value front) (value x ∷ [])) ∙ ap reverse both ∙ reverse-append rest (v ∷ []) in
      let heads : value x ≡ v = cc in
      let tails : reverse (map value front) ≡ reverse rest = cc in
      (sym (reverse-reverse rest) ∙ ap reverse (sym tails) ∙ reverse-reverse (map value front), sym heads)
