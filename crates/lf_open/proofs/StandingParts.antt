-- The selectors, calls and aggregations that stand in an expression: itself, if it is one, and those in its parts. And how much is left to be looked at.
use Rattle.std.proofs.Common.{◌≡◌, ◌+◌, ◌<◌, ◌⊎◌, ◌↔◌, inl, inr, ℕ, Bool, true, false, true≢false, ◌&&◌, cond, List, [], ◌∷◌, ◌++◌, length, Option, Some, None, refl, sym, ap, ◌∙◌, subst, arith}
use Rattle.std.proofs.lemmas.List.{append-nil, length-append, map-append}
use Rattle.std.proofs.lemmas.List.Elements.{Contains-append_cases, Contains-append_left, Contains-append_right, filter-append}
use Rattle.std.proofs.lemmas.List.Sums.{sum_by-append, sum_by-cons, sum_by_push}
use Rattle.std.specs.Borrow.{Bor}
use Rattle.std.specs.List.{Contains, filter, flat_map, sum_by}
use Rattle.std.proofs.lemmas.Grind.{flat_map-append}
use Rattle.lf_ast.specs.Labels.{Bytes}
use Rattle.lf_ast.specs.Tree.{Tree, Trees, Number, Str, Selector, Subquery, Paren, Unary, Binary, Call, Aggregate, Nil, Next, list, parts_of, tree, nodes, nodes_in}
use Rattle.lf_ast.specs.Types.{is_scalar, selected}
use Rattle.lf_ast.specs.declared.expr.Expr.{Expr}
use Rattle.lf_ast.specs.declared.expr.ExprType.TheVariants.{Scalar, Vector}
use Rattle.lf_ast.specs.views.Walks.{trees_at}
use Rattle.lf_deps.specs.views.Selecting.{is_scalar_call}
use Rattle.lf_laws.proofs.Members.{none_in}
use Rattle.lf_semantics.proofs.Members.{in_filter, of_filter}
use Rattle.lf_semantics.specs.Parts.{is_scalar_part}
use Rattle.lf_semantics.specs.Standing.{arguments_standing, standing, standing_in}
use Rattle.lf_open.specs.views.Speaking.{AreSpeaking, own_speaking, speaks}

-- what stands in an expression

of_arguments : (args : Trees) → arguments_standing args ≡ flat_map standing (list args)
of_arguments Nil = refl
of_arguments (Next x xs) = ap (λ (l : List Tree). standing x ++ l) (of_arguments xs)

of_one : (e : Tree) → standing e ≡ flat_map standing (e ∷ [])
of_one e = sym (append-nil (standing e))

within : (e : Tree) → standing_in e ≡ e ∷ flat_map standing (parts_of e)
within (Number text span) = refl
within (Str text span) = refl
within (Selector name matchers sight span) = refl
within (Subquery of sight span) = ap (λ (l : List Tree). Subquery of sight span ∷ l) (of_one of)
within (Paren of span) = ap (λ (l : List Tree). Paren of span ∷ l) (of_one of)
within (Unary minus of span) = ap (λ (l : List Tree). Unary minus of span ∷ l) (of_one of)
within (Binary op m left right span) = ap (λ (l : List Tree). Binary op m left right span ∷ (standing left ++ l)) (of_one right)
within (Call name args span) = ap (λ (l : List Tree). Call name args span ∷ l) (of_arguments args)
within (Aggregate op grouping args span) = ap (λ (l : List Tree). Aggregate op grouping args span ∷ l) (of_arguments args)

pub of_scalar : (e : Tree) → is_scalar_part e ≡ true → standing e ≡ []
of_scalar e is = ap (λ (b : Bool). cond b [] (standing_in e)) is

pub of_other : (e : Tree) → is_scalar_part e ≡ false → standing e ≡ e ∷ flat_map standing (parts_of e)
of_other e is = ap (λ (b : Bool). cond b [] (standing_in e)) is ∙ within e

-- what speaks in it

abbrev pub speaking : Tree → List Tree
speaking e = filter speaks (standing e)

speak_arguments : (args : Trees) → filter speaks (arguments_standing args) ≡ flat_map speaking (list args)
speak_arguments Nil = refl
speak_arguments (Next x xs) = filter-append speaks (standing x) (arguments_standing xs) ∙ ap (λ (l : List Tree). speaking x ++ l) (speak_arguments xs)

of_only : (e : Tree) → speaking e ≡ flat_map speaking (e ∷ [])
of_only e = sym (append-nil (speaking e))

of_call : (e : Tree) → is_scalar_call e ≡ true → speaking e ≡ []
of_call (Call name args span) is = ap (λ (b : Bool). filter speaks (cond b [] (standing_in (Call name args span)))) is
of_call (Number text span) is = absurd (true≢false (sym is))
of_call (Str text span) is = absurd (true≢false (sym is))
of_call (Selector name matchers sight span) is = absurd (true≢false (sym is))
of_call (Subquery of sight span) is = absurd (true≢false (sym is))
of_call (Paren of span) is = absurd (true≢false (sym is))
of_call (Unary minus of span) is = absurd (true≢false (sym is))
of_call (Binary op m left right span) is = absurd (true≢false (sym is))
of_call (Aggregate op grouping args span) is = absurd (true≢false (sym is))

of_same : (b : Bool) (x : Tree) (X : List Tree) → speaks x ≡ false → filter speaks (cond b [] (x ∷ cond b [] X)) ≡ filter speaks (cond b [] X)
of_same true x X is = refl
of_same false x X is = ap (λ (s : Bool). cond s (x ∷ filter speaks X) (filter speaks X)) is

of_sides : (p q : Bool) (x : Tree) (X Y : List Tree) → speaks x ≡ false → filter speaks (cond (is_scalar (cond (p && q) Scalar Vector)) [] (x ∷ (cond p [] X ++ cond q [] Y))) ≡ filter speaks (cond p [] X ++ cond q [] Y)
of_sides true true x X Y is = refl
of_sides true false x X Y is = ap (λ (s : Bool). cond s (x ∷ filter speaks Y) (filter speaks Y)) is
of_sides false true x X Y is = ap (λ (s : Bool). cond s (x ∷ filter speaks (X ++ [])) (filter speaks (X ++ []))) is
of_sides false false x X Y is = ap (λ (s : Bool). cond s (x ∷ filter speaks (X ++ Y)) (filter speaks (X ++ Y))) is

of_range : (x : Tree) (range : Option Bytes) → filter speaks (cond (is_scalar (selected range)) [] (x ∷ [])) ≡ filter speaks (x ∷ [])
of_range x None = refl
of_range x (Some duration) = refl

of_parts : (e : Tree) → is_scalar_call e ≡ false → speaking e ≡ own_speaking e ++ flat_map speaking (parts_of e)
of_parts (Number text span) is = refl
of_parts (Str text span) is = refl
of_parts (Selector name matchers sight span) is = of_range (Selector name matchers sight span) sight.range
of_parts (Subquery of sight span) is = of_only of
of_parts (Paren of span) is = of_same (is_scalar_part of) (Paren of span) (standing_in of) refl ∙ of_only of
of_parts (Unary minus of span) is = of_same (is_scalar_part of) (Unary minus of span) (standing_in of) refl ∙ of_only of
of_parts (Binary op m left right span) is =
    of_sides (is_scalar_part left) (is_scalar_part right) (Binary op m left right span) (standing_in left) (standing_in right) refl ∙ filter-append speaks (standing left) (standing right)
    ∙ ap (λ (l : List Tree). speaking left ++ l) (of_only right)
of_parts (Call name args span) is = ap (λ (b : Bool). filter speaks (cond b [] (standing_in (Call name args span)))) is ∙ ap (λ (l : List Tree). Call name args span ∷ l) (speak_arguments args)
of_parts (Aggregate op grouping args span) is = ap (λ (l : List Tree). Aggregate op grouping args span ∷ l) (speak_arguments args)

-- how much it is

abbrev pub size : Tree → ℕ
size e = length (nodes e)

of_row : (args : Trees) → length (nodes_in args) ≡ sum_by size (list args)
of_row Nil = refl
of_row (Next x xs) = length-append (nodes x) (nodes_in xs) ∙ ap (λ (n : ℕ). size x + n) (of_row xs) ∙ sym (sum_by-cons size x (list xs))

one_more : (e : Tree) → size e ≡ sum_by size (parts_of e) + 1
one_more (Number text span) = refl
one_more (Str text span) = refl
one_more (Selector name matchers sight span) = refl
one_more (Subquery of sight span) = omega (arith, sum_by-cons size of [])
one_more (Paren of span) = omega (arith, sum_by-cons size of [])
one_more (Unary minus of span) = omega (arith, sum_by-cons size of [])
one_more (Binary op m left right span) = omega (arith, length-append (nodes left) (nodes right), sum_by-cons size left (right ∷ []), sum_by-cons size right [])
one_more (Call name args span) = omega (arith, of_row args)
one_more (Aggregate op grouping args span) = omega (arith, of_row args)

-- the walk: what speaks in the expression was found, or speaks in what is left to be looked at

abbrev pub Walked : Tree → List Tree → List Tree → Type 0
Walked e found left = (x : Tree) → Contains (speaking e) x ↔ (Contains found x ⊎ Contains (flat_map speaking left) x)

pub begins : (e : Tree) → Walked e [] (e ∷ [])
begins e x = (λ c. inr (subst (λ (l : List Tree). Contains l x) (of_only e) c), from)
  where
    from : Contains [] x ⊎ Contains (flat_map speaking (e ∷ [])) x → Contains (speaking e) x
    from (inl c) = absurd (none_in x c)
    from (inr c) = subst (λ (l : List Tree). Contains l x) (sym (of_only e)) c

flat_push : (left : List Tree) (p : Tree) → flat_map speaking (left ++ p ∷ []) ≡ flat_map speaking left ++ speaking p
flat_push left p = flat_map-append speaking left (p ∷ []) ∙ ap (λ (l : List Tree). flat_map speaking left ++ l) (append-nil (speaking p))

module _ (e : Tree) (found left : List Tree) (p : Tree) (walked : Walked e found (left ++ p ∷ [])) where
  -- a scalar call is passed over
  pub passes : is_scalar_call p ≡ true → Walked e found left
  passes is x = (to, from)
    where
      same : flat_map speaking (left ++ p ∷ []) ≡ flat_map speaking left
      same = flat_push left p ∙ ap (λ (l : List Tree). flat_map speaking left ++ l) (of_call p is) ∙ append-nil (flat_map speaking left)

      to : Contains (speaking e) x → Contains found x ⊎ Contains (flat_map speaking left) x
      to c = subst (λ (l : List Tree). Contains found x ⊎ Contains l x) same ((walked x).0 c)

      from : Contains found x ⊎ Contains (flat_map speaking left) x → Contains (speaking e) x
      from c = (walked x).1 (subst (λ (l : List Tree). Contains found x ⊎ Contains l x) (sym same) c)

  -- of any other the expression itself is found, and its parts are left
  pub finds : is_scalar_call p ≡ false → Walked e (found ++ own_speaking p) (left ++ parts_of p)
  finds is x = (to, from)
    where
      same : flat_map speaking (left ++ p ∷ []) ≡ (flat_map speaking left) ++ (own_speaking p ++ (flat_map speaking (parts_of p)))
      same = flat_push left p ∙ ap (λ (l : List Tree). (flat_map speaking left) ++ l) (of_parts p is)

      now : flat_map speaking (left ++ parts_of p) ≡ (flat_map speaking left) ++ (flat_map speaking (parts_of p))
      now = flat_map-append speaking left (parts_of p)

      split : Contains (flat_map speaking left) x ⊎ Contains (own_speaking p ++ (flat_map speaking (parts_of p))) x → Contains (found ++ own_speaking p) x ⊎ Contains ((flat_map speaking left) ++ (flat_map speaking (parts_of p))) x
      split (inl c) = inr (Contains-append_left (flat_map speaking left) (flat_map speaking (parts_of p)) x c)
      split (inr c) = elim (Contains-append_cases (own_speaking p) (flat_map speaking (parts_of p)) x c) [ inl d ↦ inl (Contains-append_right found (own_speaking p) x d) | inr d ↦ inr (Contains-append_right (flat_map speaking left) (flat_map speaking (parts_of p)) x d) ]

      forth : Contains found x ⊎ Contains (flat_map speaking (left ++ p ∷ [])) x → Contains (found ++ own_speaking p) x ⊎ Contains ((flat_map speaking left) ++ (flat_map speaking (parts_of p))) x
      forth (inl c) = inl (Contains-append_left found (own_speaking p) x c)
      forth (inr c) = split (Contains-append_cases (flat_map speaking left) (own_speaking p ++ (flat_map speaking (parts_of p))) x (subst (λ (l : List Tree). Contains l x) same c))

      to : Contains (speaking e) x → Contains (found ++ own_speaking p) x ⊎ Contains (flat_map speaking (left ++ parts_of p)) x
      to c = subst (λ (l : List Tree). Contains (found ++ own_speaking p) x ⊎ Contains l x) (sym now) (forth ((walked x).0 c))

      whole : Contains ((flat_map speaking left) ++ (own_speaking p ++ (flat_map speaking (parts_of p)))) x → Contains (speaking e) x
      whole c = (walked x).1 (inr (subst (λ (l : List Tree). Contains l x) (sym same) c))

      from : Contains (found ++ own_speaking p) x ⊎ Contains (flat_map speaking (left ++ parts_of p)) x → Contains (speaking e) x
      from (inl c) = elim (Contains-append_cases found (own_speaking p) x c) [
        | inl d ↦ (walked x).1 (inl d)
        | inr d ↦ whole (Contains-append_right (flat_map speaking left) (own_speaking p ++ (flat_map speaking (parts_of p))) x (Contains-append_left (own_speaking p) (flat_map speaking (parts_of p)) x d))
      ]
      from (inr c) = elim (Contains-append_cases (flat_map speaking left) (flat_map speaking (parts_of p)) x (subst (λ (l : List Tree). Contains l x) now c)) [
        | inl d ↦ whole (Contains-append_left (flat_map speaking left) (own_speaking p ++ (flat_map speaking (parts_of p))) x d)
        | inr d ↦ whole (Contains-append_right (flat_map speaking left) (own_speaking p ++ (flat_map speaking (parts_of p))) x (Contains-append_right (own_speaking p) (flat_map speaking (parts_of p)) x d))
      ]

pub ends : (e : Tree) (found : List Tree) → Walked e found [] → AreSpeaking e found
ends e found walked x = (
  λ c. of_filter speaks (standing e) x ((walked x).1 (inl c)),
  λ h. elim ((walked x).0 (in_filter speaks (standing e) x h.0 h.1)) [ inl d ↦ d | inr d ↦ absurd (none_in x d) ],
)

-- and less is left
falls : (old left new : List Tree) (p : Tree) → old ≡ left ++ p ∷ [] → new ≡ left ++ parts_of p → sum_by size new < sum_by size old
falls old left new p was is =
    let a = ap (sum_by size) was ∙ sum_by_push size left p in
    let b = ap (sum_by size) is ∙ sum_by-append size left (parts_of p) in
    let d = one_more p in
    omega arith

-- the same of borrowed expressions

module _ (e : Tree) (found left rest : List (Bor Expr)) (p : Bor Expr) (was : left ≡ rest ++ p ∷ []) where
  were : trees_at left ≡ trees_at rest ++ tree p.now ∷ []
  were = ap (λ (l : List (Bor Expr)). trees_at l) was ∙ map-append (λ (b : Bor Expr). tree b.now) rest (p ∷ [])

  pub passed : (b : Bool) → b ≡ is_scalar_call (tree p.now) → b ≡ true → Walked e (trees_at found) (trees_at left) → Walked e (trees_at found) (trees_at rest)
  passed b told is walked = passes e (trees_at found) (trees_at rest) (tree p.now) (subst (Walked e (trees_at found)) were walked) (sym told ∙ is)

  pub less_passed : sum_by size (trees_at rest) < sum_by size (trees_at left)
  less_passed =
      let a = ap (sum_by size) were ∙ sum_by_push size (trees_at rest) (tree p.now) in
      let d = one_more (tree p.now) in
      omega arith

  module _ (later next : List (Bor Expr)) (now : trees_at later ≡ trees_at found ++ own_speaking (tree p.now)) (parts : trees_at next ≡ trees_at rest ++ parts_of (tree p.now)) where
    pub found_more : (b : Bool) → b ≡ is_scalar_call (tree p.now) → b ≡ false → Walked e (trees_at found) (trees_at left) → Walked e (trees_at later) (trees_at next)
    found_more b told is walked =
        subst (λ (l : List Tree). Walked e l (trees_at next)) (sym now)
        (subst (Walked e (trees_at found ++ own_speaking (tree p.now))) (sym parts) (finds e (trees_at found) (trees_at rest) (tree p.now) (subst (Walked e (trees_at found)) were walked) (sym told ∙ is)))

    pub less_found : sum_by size (trees_at next) < sum_by size (trees_at left)
    less_found = falls (trees_at left) (trees_at rest) (trees_at next) (tree p.now) were parts
