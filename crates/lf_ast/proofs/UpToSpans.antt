-- Two expressions are the same exactly where they are equal with their spans left out.
use Rattle.std.proofs.Common.{◌≡◌, Bool, true, false, ◌&&◌, List, [], ◌∷◌, map, Option, Some, None, refl, ◌∙◌, ap, subst}
use Rattle.std.specs.Bool.{Decides, beq}
use Rattle.std.specs.Cmp.{booleans_Decides}
use Rattle.std.specs.Cmp.Lexicographic.{pointwise}
use Rattle.std.specs.Option.{option_eq, option_map}
use Rattle.std.specs.Str.{bytes_eq}
use Rattle.std.proofs.lemmas.Slice.Eq.{bytes_eq-Decides}
use Rattle.lf_ast.specs.Labels.{Bytes}
use Rattle.lf_ast.specs.Spanless.{nowhere, same, same_agg, same_each, same_group, same_grouping, same_match_op, same_matcher, same_matching, same_names, same_op, same_sight, same_text, spanless, spanless_each, spanless_grouping, spanless_matcher, spanless_matching, spanless_name, spanless_names, spanless_sight}
use Rattle.lf_ast.specs.Tree.{Tree, Trees, Number, Str, Selector, Subquery, Paren, Unary, Binary, Call, Aggregate, Nil, Next}
use Rattle.lf_ast.specs.declared.expr.Agg.{Agg}
use Rattle.lf_ast.specs.declared.expr.Agg.TheVariants as A
use Rattle.lf_ast.specs.declared.expr.Group.{Group}
use Rattle.lf_ast.specs.declared.expr.Group.TheVariants.{One, Left, Right}
use Rattle.lf_ast.specs.declared.expr.Grouping.TheVariants.{None as Ungrouped, By, Without}
use Rattle.lf_ast.specs.declared.expr.Matcher.{Matcher}
use Rattle.lf_ast.specs.declared.expr.Matching.{Matching}
use Rattle.lf_ast.specs.declared.expr.MatchOp.{MatchOp}
use Rattle.lf_ast.specs.declared.expr.MatchOp.TheVariants as M
use Rattle.lf_ast.specs.declared.expr.Name.{Name}
use Rattle.lf_ast.specs.declared.expr.Op.{Op}
use Rattle.lf_ast.specs.declared.expr.Op.TheVariants as O
use Rattle.lf_ast.specs.declared.expr.Sight.{Sight}

-- tests of two things

both : {P Q : Type 0} (a b : Bool) → Decides a P → Decides b Q → Decides (a && b) (P × Q)
both true b p q = (λ e. (p.0 refl, q.0 e), λ h. q.1 h.1)
both false b p q = (λ e. absurd (cc), λ h. p.1 h.0)

meaning : {P Q : Type 0} (a : Bool) → Decides a P → (P → Q) → (Q → P) → Decides a Q
meaning a d to back = (λ e. to (d.0 e), λ h. d.1 (back h))

-- a test of each of some things decides whether what each is made into is equal
abbrev Tests : {X Y : Type 0} → (X → X → Bool) → (X → Y) → Type 0
Tests test f = (x y : _) → Decides (test x y) (f x ≡ f y)

cons_same : {Y : Type 0} (x y : Y) (xs ys : List Y) → (x ∷ xs) ≡ (y ∷ ys) → (x ≡ y) × (xs ≡ ys)
cons_same x y xs ys e = (cc, cc)

tests_list : {X Y : Type 0} (test : X → X → Bool) (f : X → Y) → Tests test f → Tests (pointwise test) (map f)
tests_list test f each [] [] = (λ e. refl, λ e. refl)
tests_list test f each [] (y ∷ ys) = (λ e. absurd (cc), λ e. absurd (cc))
tests_list test f each (x ∷ xs) [] = (λ e. absurd (cc), λ e. absurd (cc))
tests_list test f each (x ∷ xs) (y ∷ ys) =
    meaning (test x y && pointwise test xs ys) (both (test x y) (pointwise test xs ys) (each x y) (tests_list test f each xs ys))
    (λ h. ap (λ z. z ∷ map f xs) h.0 ∙ ap (λ zs. f y ∷ zs) h.1)
    (cons_same (f x) (f y) (map f xs) (map f ys))

tests_option : {X Y : Type 0} (test : X → X → Bool) (f : X → Y) → Tests test f → Tests (option_eq test) (option_map f)
tests_option test f each None None = (λ e. refl, λ e. refl)
tests_option test f each None (Some y) = (λ e. absurd (cc), λ e. absurd (cc))
tests_option test f each (Some x) None = (λ e. absurd (cc), λ e. absurd (cc))
tests_option test f each (Some x) (Some y) = meaning (test x y) (each x y) (λ e. ap (λ z. Some z) e) (λ e. cc)

-- parts

op_itself : (op : Op) → same_op op op ≡ true
op_itself O.Add = refl
op_itself O.Subtract = refl
op_itself O.Multiply = refl
op_itself O.Divide = refl
op_itself O.Modulo = refl
op_itself O.Power = refl
op_itself O.Atan2 = refl
op_itself O.Equal = refl
op_itself O.NotEqual = refl
op_itself O.LessOrEqual = refl
op_itself O.Less = refl
op_itself O.GreaterOrEqual = refl
op_itself O.Greater = refl
op_itself O.And = refl
op_itself O.Or = refl
op_itself O.Unless = refl

op_alone : (op other : Op) → same_op op other ≡ true → op ≡ other
op_alone O.Add O.Add e = refl
op_alone O.Subtract O.Subtract e = refl
op_alone O.Multiply O.Multiply e = refl
op_alone O.Divide O.Divide e = refl
op_alone O.Modulo O.Modulo e = refl
op_alone O.Power O.Power e = refl
op_alone O.Atan2 O.Atan2 e = refl
op_alone O.Equal O.Equal e = refl
op_alone O.NotEqual O.NotEqual e = refl
op_alone O.LessOrEqual O.LessOrEqual e = refl
op_alone O.Less O.Less e = refl
op_alone O.GreaterOrEqual O.GreaterOrEqual e = refl
op_alone O.Greater O.Greater e = refl
op_alone O.And O.And e = refl
op_alone O.Or O.Or e = refl
op_alone O.Unless O.Unless e = refl
op_alone _ _ e = absurd (cc)

agg_itself : (op : Agg) → same_agg op op ≡ true
agg_itself A.Sum = refl
agg_itself A.Min = refl
agg_itself A.Max = refl
agg_itself A.Avg = refl
agg_itself A.Group = refl
agg_itself A.Stddev = refl
agg_itself A.Stdvar = refl
agg_itself A.Count = refl
agg_itself A.Quantile = refl
agg_itself A.CountValues = refl
agg_itself A.Topk = refl
agg_itself A.Bottomk = refl

agg_alone : (op other : Agg) → same_agg op other ≡ true → op ≡ other
agg_alone A.Sum A.Sum e = refl
agg_alone A.Min A.Min e = refl
agg_alone A.Max A.Max e = refl
agg_alone A.Avg A.Avg e = refl
agg_alone A.Group A.Group e = refl
agg_alone A.Stddev A.Stddev e = refl
agg_alone A.Stdvar A.Stdvar e = refl
agg_alone A.Count A.Count e = refl
agg_alone A.Quantile A.Quantile e = refl
agg_alone A.CountValues A.CountValues e = refl
agg_alone A.Topk A.Topk e = refl
agg_alone A.Bottomk A.Bottomk e = refl
agg_alone _ _ e = absurd (cc)

tests_op : Tests same_op (λ (op : Op). op)
tests_op op other = (op_alone op other, λ e. subst (λ o. same_op op o ≡ true) e (op_itself op))

tests_agg : Tests same_agg (λ (op : Agg). op)
tests_agg op other = (agg_alone op other, λ e. subst (λ o. same_agg op o ≡ true) e (agg_itself op))

tests_match_op : Tests same_match_op (λ (op : MatchOp). op)
tests_match_op M.Equal M.Equal = (λ e. refl, λ e. refl)
tests_match_op M.NotEqual M.NotEqual = (λ e. refl, λ e. refl)
tests_match_op M.Matches M.Matches = (λ e. refl, λ e. refl)
tests_match_op M.NotMatches M.NotMatches = (λ e. refl, λ e. refl)
tests_match_op _ _ = (λ e. absurd (cc), λ e. absurd (cc))

tests_group : Tests same_group (λ (group : Group). group)
tests_group One One = (λ e. refl, λ e. refl)
tests_group Left Left = (λ e. refl, λ e. refl)
tests_group Right Right = (λ e. refl, λ e. refl)
tests_group _ _ = (λ e. absurd (cc), λ e. absurd (cc))

tests_text : Tests same_text (λ (text : Option Bytes). text)
tests_text None None = (λ e. refl, λ e. refl)
tests_text None (Some y) = (λ e. absurd (cc), λ e. absurd (cc))
tests_text (Some x) None = (λ e. absurd (cc), λ e. absurd (cc))
tests_text (Some x) (Some y) = meaning (bytes_eq x y) (bytes_eq-Decides x y) (λ e. ap (λ z. Some z) e) (λ e. cc)

tests_name : Tests (λ (name other : Name). bytes_eq name.text other.text) spanless_name
tests_name name other =
    meaning (bytes_eq name.text other.text) (bytes_eq-Decides name.text other.text)
    (λ e. ap (λ text. spanless_name (record { text = text; span = nowhere })) e) (λ e. ap (λ (n : Name). n.text) e)

tests_names : Tests same_names spanless_names
tests_names = tests_list (λ (name other : Name). bytes_eq name.text other.text) spanless_name tests_name

tests_matcher : Tests same_matcher spanless_matcher
tests_matcher m n =
    meaning (same_matcher m n)
    (both (bytes_eq m.label n.label) (same_match_op m.op n.op && bytes_eq m.value n.value) (bytes_eq-Decides m.label n.label)
    (both (same_match_op m.op n.op) (bytes_eq m.value n.value) (tests_match_op m.op n.op) (bytes_eq-Decides m.value n.value)))
    (λ h. λ i. record { label = h.0 i; op = h.1.0 i; value = h.1.1 i; label_span = nowhere; value_span = nowhere })
    (λ e. (ap (λ (x : Matcher). x.label) e, (ap (λ (x : Matcher). x.op) e, ap (λ (x : Matcher). x.value) e)))

tests_sight : Tests same_sight spanless_sight
tests_sight s t =
    meaning (same_sight s t)
    (both (same_text s.range t.range) (same_text s.step t.step && (same_text s.offset t.offset && same_text s.at t.at)) (tests_text s.range t.range)
    (both (same_text s.step t.step) (same_text s.offset t.offset && same_text s.at t.at) (tests_text s.step t.step)
    (both (same_text s.offset t.offset) (same_text s.at t.at) (tests_text s.offset t.offset) (tests_text s.at t.at))))
    (λ h. λ i. record { range = h.0 i; step = h.1.0 i; offset = h.1.1.0 i; at = h.1.1.1 i; range_span = nowhere })
    (λ e. (ap (λ (x : Sight). x.range) e, (ap (λ (x : Sight). x.step) e, (ap (λ (x : Sight). x.offset) e, ap (λ (x : Sight). x.at) e))))

tests_matching : Tests same_matching spanless_matching
tests_matching m n =
    meaning (same_matching m n)
    (both (beq m.bool_mod n.bool_mod) (option_eq same_names m.on n.on && (option_eq same_names m.ignoring n.ignoring && (same_group m.group n.group && same_names m.include n.include))) (booleans_Decides m.bool_mod n.bool_mod)
    (both (option_eq same_names m.on n.on) (option_eq same_names m.ignoring n.ignoring && (same_group m.group n.group && same_names m.include n.include)) (tests_option same_names spanless_names tests_names m.on n.on)
    (both (option_eq same_names m.ignoring n.ignoring) (same_group m.group n.group && same_names m.include n.include) (tests_option same_names spanless_names tests_names m.ignoring n.ignoring)
    (both (same_group m.group n.group) (same_names m.include n.include) (tests_group m.group n.group) (tests_names m.include n.include)))))
    (λ h. λ i. record { bool_mod = h.0 i; on = h.1.0 i; ignoring = h.1.1.0 i; group = h.1.1.1.0 i; include = h.1.1.1.1 i; span = nowhere })
    (λ e. (ap (λ (x : Matching). x.bool_mod) e, (ap (λ (x : Matching). x.on) e, (ap (λ (x : Matching). x.ignoring) e, (ap (λ (x : Matching). x.group) e, ap (λ (x : Matching). x.include) e)))))

tests_grouping : Tests same_grouping spanless_grouping
tests_grouping Ungrouped Ungrouped = (λ e. refl, λ e. refl)
tests_grouping (By labels) (By others) = meaning (same_names labels others) (tests_names labels others) (λ e. ap (λ x. By x) e) (λ e. cc)
tests_grouping (Without labels) (Without others) = meaning (same_names labels others) (tests_names labels others) (λ e. ap (λ x. Without x) e) (λ e. cc)
tests_grouping _ _ = (λ e. absurd (cc), λ e. absurd (cc))

-- expressions

mutual
  pub tests_tree : (x y : Tree) → Decides (same x y) (spanless x ≡ spanless y)
  tests_tree (Number text _) (Number other _) = meaning (bytes_eq text other) (bytes_eq-Decides text other) (λ e. ap (λ z. Number z nowhere) e) (λ e. cc)
  tests_tree (Str text _) (Str other _) = meaning (bytes_eq text other) (bytes_eq-Decides text other) (λ e. ap (λ z. Str z nowhere) e) (λ e. cc)
  tests_tree (Selector name matchers sight _) (Selector other others seen _) =
      meaning (same_text name other && (pointwise same_matcher matchers others && same_sight sight seen))
      (both (same_text name other) (pointwise same_matcher matchers others && same_sight sight seen) (tests_text name other)
      (both (pointwise same_matcher matchers others) (same_sight sight seen) (tests_list same_matcher spanless_matcher tests_matcher matchers others) (tests_sight sight seen)))
      (λ h. λ i. Selector (h.0 i) (h.1.0 i) (h.1.1 i) nowhere) (λ e. (cc, (cc, cc)))
  tests_tree (Subquery of sight _) (Subquery other seen _) =
      meaning (same of other && same_sight sight seen) (both (same of other) (same_sight sight seen) (tests_tree of other) (tests_sight sight seen))
      (λ h. λ i. Subquery (h.0 i) (h.1 i) nowhere) (λ e. (cc, cc))
  tests_tree (Paren of _) (Paren other _) = meaning (same of other) (tests_tree of other) (λ e. ap (λ z. Paren z nowhere) e) (λ e. cc)
  tests_tree (Unary minus of _) (Unary sign other _) =
      meaning (beq minus sign && same of other) (both (beq minus sign) (same of other) (booleans_Decides minus sign) (tests_tree of other))
      (λ h. λ i. Unary (h.0 i) (h.1 i) nowhere) (λ e. (cc, cc))
  tests_tree (Binary op m left right _) (Binary other n x y _) =
      meaning (same_op op other && (same_matching m n && (same left x && same right y)))
      (both (same_op op other) (same_matching m n && (same left x && same right y)) (tests_op op other)
      (both (same_matching m n) (same left x && same right y) (tests_matching m n) (both (same left x) (same right y) (tests_tree left x) (tests_tree right y))))
      (λ h. λ i. Binary (h.0 i) (h.1.0 i) (h.1.1.0 i) (h.1.1.1 i) nowhere) (λ e. (cc, (cc, (cc, cc))))
  tests_tree (Call name args _) (Call other others _) =
      meaning (bytes_eq name other && same_each args others) (both (bytes_eq name other) (same_each args others) (bytes_eq-Decides name other) (tests_each args others))
      (λ h. λ i. Call (h.0 i) (h.1 i) nowhere) (λ e. (cc, cc))
  tests_tree (Aggregate op grouping args _) (Aggregate other grouped others _) =
      meaning (same_agg op other && (same_grouping grouping grouped && same_each args others))
      (both (same_agg op other) (same_grouping grouping grouped && same_each args others) (tests_agg op other)
      (both (same_grouping grouping grouped) (same_each args others) (tests_grouping grouping grouped) (tests_each args others)))
      (λ h. λ i. Aggregate (h.0 i) (h.1.0 i) (h.1.1 i) nowhere) (λ e. (cc, (cc, cc)))
  tests_tree _ _ = (λ e. absurd (cc), λ e. absurd (cc))

  tests_each : (xs ys : Trees) → Decides (same_each xs ys) (spanless_each xs ≡ spanless_each ys)
  tests_each Nil Nil = (λ e. refl, λ e. refl)
  tests_each (Next x xs) (Next y ys) =
      meaning (same x y && same_each xs ys) (both (same x y) (same_each xs ys) (tests_tree x y) (tests_each xs ys))
      (λ h. λ i. Next (h.0 i) (h.1 i)) (λ e. (cc, cc))
  tests_each _ _ = (λ e. absurd (cc), λ e. absurd (cc))
