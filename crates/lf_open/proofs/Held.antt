-- Marks tell what expressions hold, in themselves or in the rules that they read.
use Rattle.std.proofs.Common.{◌≡◌, ◌↔◌, inl, inr, Bool, true, false, true≢false, cond, ◌||◌, List, [], ◌∷◌, ◌++◌, Option, Some, None, length, nat_eq, refl, sym, ap, ap₂, ◌∙◌, subst}
use Rattle.std.proofs.Math.Dec.{eqb-suc-zero}
use Rattle.std.specs.List.{Contains, flat_map, list_any}
use Rattle.lf_laws.proofs.Members.{any_has, here, in_flat_map, none_in, of_flat_map, only_one, some_has}
use Rattle.lf_ast.specs.Labels.{Bytes}
use Rattle.lf_ast.specs.Rules.{RuleTree}
use Rattle.lf_ast.specs.Selectors.{selected_name}
use Rattle.lf_ast.specs.Tree.{Tree, Trees, Number, Str, Selector, Subquery, Paren, Unary, Binary, Call, Aggregate, Nil, Next, tree, trees}
use Rattle.std.specs.Borrow.{Bor}
use Rattle.std.proofs.lemmas.Grind.{flat_map-append}
use Rattle.std.proofs.lemmas.Bool.{or_cases, or_left, or_right}
use Rattle.lf_ast.specs.declared.expr.Expr.{Expr}
use Rattle.lf_ast.specs.views.Walks.{trees_at}
use Rattle.lf_semantics.specs.Parts.{is_scalar_part, outside_scalars}
use Rattle.lf_deps.specs.Reading.{Reads, SelectsBy, arguments_selectors, own_selectors, selectors, selectors_in}
use Rattle.lf_deps.specs.Reading.Reads.{selected, through}
use Rattle.lf_deps.specs.views.Search.{ReadsBy}
use Rattle.lf_forks.specs.views.NameMarks.{NameMarks, has_mark}
use Rattle.lf_open.specs.Holding.{HoldsThroughReads, has_no_argument, is_source, matches_le}
use Rattle.lf_semantics.specs.Standing.{arguments_standing, standing, standing_in}
use Rattle.lf_open.specs.views.Marks.{TellsReading, marks_tree}
use Rattle.lf_open.specs.views.Speaking.{AreSpeaking, speaks}

-- the selectors of an expression are those that stand in it

part : (e : Tree) → selectors_in e ≡ flat_map own_selectors (standing_in e) → outside_scalars e (selectors_in e) ≡ flat_map own_selectors (outside_scalars e (standing_in e))
part e is = by (is_scalar_part e)
  where
    by : (b : Bool) → cond b [] (selectors_in e) ≡ flat_map own_selectors (cond b [] (standing_in e))
    by true = refl
    by false = is

mutual
  within : (e : Tree) → selectors_in e ≡ flat_map own_selectors (standing_in e)
  within (Number text span) = refl
  within (Str text span) = refl
  within (Selector name matchers sight span) = refl
  within (Subquery of sight span) = part of (within of)
  within (Paren of span) = part of (within of)
  within (Unary minus of span) = part of (within of)
  within (Binary op m left right span) =
      ap₂ (λ (l r : List (Option Bytes)). l ++ r) (part left (within left)) (part right (within right)) ∙ sym (flat_map-append own_selectors (outside_scalars left (standing_in left)) (outside_scalars right (standing_in right)))
  within (Call name args span) = within_arguments args
  within (Aggregate op grouping args span) = within_arguments args

  within_arguments : (args : Trees) → arguments_selectors args ≡ flat_map own_selectors (arguments_standing args)
  within_arguments Nil = refl
  within_arguments (Next x xs) =
      ap₂ (λ (l r : List (Option Bytes)). l ++ r) (part x (within x)) (within_arguments xs) ∙ sym (flat_map-append own_selectors (outside_scalars x (standing_in x)) (arguments_standing xs))

pub selectors_stand : (e : Tree) → selectors e ≡ flat_map own_selectors (standing e)
selectors_stand e = part e (within e)

-- a test of what speaks finds something in what stands in an expression exactly where it does among what speaks there
pub same_any : (test : Tree → Bool) → ((x : Tree) → test x ≡ true → speaks x ≡ true) → (e : Tree) (found : List Tree) → AreSpeaking e found → list_any test found ≡ list_any test (standing e)
same_any test tells e found are = by (list_any test found) refl (list_any test (standing e)) refl
  where
    by : (a : Bool) → list_any test found ≡ a → (b : Bool) → list_any test (standing e) ≡ b → a ≡ b
    by true is true too = refl
    by false is false too = refl
    by true is false too = let w = some_has test found is in absurd (true≢false (sym (any_has test (standing e) w.0 ((are w.0).0 w.1).0 w.2) ∙ too))
    by false is true too = let w = some_has test (standing e) too in absurd (true≢false (sym (any_has test found w.0 ((are w.0).1 (w.1, tells w.0 w.2)) w.2) ∙ is))

pub source_speaks : (x : Tree) → is_source x ≡ true → speaks x ≡ true
source_speaks (Selector name matchers sight span) e = refl
source_speaks (Call name args span) e = refl
source_speaks (Aggregate op grouping args span) e = refl
source_speaks (Number text span) e = absurd (true≢false (sym e))
source_speaks (Str text span) e = absurd (true≢false (sym e))
source_speaks (Subquery of sight span) e = absurd (true≢false (sym e))
source_speaks (Paren of span) e = absurd (true≢false (sym e))
source_speaks (Unary minus of span) e = absurd (true≢false (sym e))
source_speaks (Binary op n left right span) e = absurd (true≢false (sym e))

pub le_speaks : (x : Tree) → matches_le x ≡ true → speaks x ≡ true
le_speaks (Selector name matchers sight span) e = refl
le_speaks (Call name args span) e = refl
le_speaks (Aggregate op grouping args span) e = refl
le_speaks (Number text span) e = absurd (true≢false (sym e))
le_speaks (Str text span) e = absurd (true≢false (sym e))
le_speaks (Subquery of sight span) e = absurd (true≢false (sym e))
le_speaks (Paren of span) e = absurd (true≢false (sym e))
le_speaks (Unary minus of span) e = absurd (true≢false (sym e))
le_speaks (Binary op n left right span) e = absurd (true≢false (sym e))

-- of borrowed expressions
pub any_trees : (test : Tree → Bool) (parts : List (Bor Expr)) → list_any (λ (p : Bor Expr). test (tree p.now)) parts ≡ list_any test (trees_at parts)
any_trees test [] = refl
any_trees test (p ∷ parts) = ap (λ (b : Bool). test (tree p.now) || b) (any_trees test parts)

pub no_arguments : (args : List Expr) → nat_eq (length args) 0 ≡ has_no_argument (trees args)
no_arguments [] = refl
no_arguments (e ∷ args) = eqb-suc-zero (length args)

-- of one selector of an expression the expression reads what it reads
selects_by : (rules : List RuleTree) (e : Tree) (o : Option Bytes) (name : Bytes) → Contains (selectors e) o → SelectsBy rules (o ∷ []) name → SelectsBy rules (selectors e) name
selects_by rules e o name c (inl d) = inl (subst (Contains (selectors e)) (only_one o (Some name) d) c)
selects_by rules e o name c (inr (d, recorded)) = inr (subst (Contains (selectors e)) (only_one o None d) c, recorded)

pub reads_by : (rules : List RuleTree) (e : Tree) (o : Option Bytes) (name : Bytes) → Contains (selectors e) o → ReadsBy rules (o ∷ []) name → Reads rules e name
reads_by rules e o name c (inl selects) = selected (selects_by rules e o name c selects)
reads_by rules e o name c (inr (r, there, recording, selects, reads)) = through r there recording (selects_by rules e o r.name c selects) reads

-- and what it reads one of its selectors reads
of_selector : (rules : List RuleTree) (e : Tree) (name : Bytes) → SelectsBy rules (selectors e) name → (o : Option Bytes) × Contains (selectors e) o × SelectsBy rules (o ∷ []) name
of_selector rules e name (inl c) = (Some name, c, inl (here (Some name) []))
of_selector rules e name (inr (c, recorded)) = (None, c, inr (here None [], recorded))

pub by_selector : (rules : List RuleTree) (e : Tree) (name : Bytes) → Reads rules e name → (o : Option Bytes) × Contains (selectors e) o × ReadsBy rules (o ∷ []) name
by_selector rules e name (selected s) = let w = of_selector rules e name s in (w.0, w.1, inl w.2)
by_selector rules e name (through r there recording s reads) = let w = of_selector rules e r.name s in (w.0, w.1, inr (r, there, recording, w.2, reads))

own_marks : (m : NameMarks) (x : Tree) (o : Option Bytes) → Contains (own_selectors x) o → has_mark m o ≡ true → marks_tree m x ≡ true
own_marks m (Selector name matchers sight span) o c e = ap (has_mark m) (only_one (selected_name name matchers) o c) ∙ e
own_marks m (Number text span) o c e = absurd (none_in o c)
own_marks m (Str text span) o c e = absurd (none_in o c)
own_marks m (Subquery of sight span) o c e = absurd (none_in o c)
own_marks m (Paren of span) o c e = absurd (none_in o c)
own_marks m (Unary minus of span) o c e = absurd (none_in o c)
own_marks m (Binary op n left right span) o c e = absurd (none_in o c)
own_marks m (Call name args span) o c e = absurd (none_in o c)
own_marks m (Aggregate op grouping args span) o c e = absurd (none_in o c)

marks_own : (m : NameMarks) (x : Tree) → marks_tree m x ≡ true → (o : Option Bytes) × Contains (own_selectors x) o × (has_mark m o ≡ true)
marks_own m (Selector name matchers sight span) e = (selected_name name matchers, here (selected_name name matchers) [], e)
marks_own m (Number text span) e = absurd (true≢false (sym e))
marks_own m (Str text span) e = absurd (true≢false (sym e))
marks_own m (Subquery of sight span) e = absurd (true≢false (sym e))
marks_own m (Paren of span) e = absurd (true≢false (sym e))
marks_own m (Unary minus of span) e = absurd (true≢false (sym e))
marks_own m (Binary op n left right span) e = absurd (true≢false (sym e))
marks_own m (Call name args span) e = absurd (true≢false (sym e))
marks_own m (Aggregate op grouping args span) e = absurd (true≢false (sym e))

module _ (rules : List RuleTree) (own : Tree → Bool) (of_rule : RuleTree → Bool) (m : NameMarks) (tells : TellsReading rules of_rule m) (e : Tree) where
  abbrev HoldsSome : Type 0
  HoldsSome = HoldsThroughReads rules (λ x. list_any own (standing x)) of_rule e

  pub holds_by : (list_any (λ x. own x || marks_tree m x) (standing e) ≡ true) ↔ HoldsSome
  holds_by = (to, from)
    where
      of_mark : (x : Tree) → Contains (standing e) x → marks_tree m x ≡ true → HoldsSome
      of_mark x c marked =
          let w = marks_own m x marked in
          let in_e : Contains (selectors e) w.0 = subst (λ (l : List (Option Bytes)). Contains l w.0) (sym (selectors_stand e)) (in_flat_map own_selectors (standing e) x w.0 c w.1) in
          let h = (tells w.0).0 w.2 in
          inr (h.0, h.1, (h.2, reads_by rules e w.0 h.0.name in_e h.3), h.4)

      to : list_any (λ x. own x || marks_tree m x) (standing e) ≡ true → HoldsSome
      to any =
          let w = some_has (λ x. own x || marks_tree m x) (standing e) any in
          elim (or_cases (own w.0) (marks_tree m w.0) w.2) [ inl is ↦ inl (any_has own (standing e) w.0 w.1 is) | inr marked ↦ of_mark w.0 w.1 marked ]

      from : HoldsSome → list_any (λ x. own x || marks_tree m x) (standing e) ≡ true
      from (inl is) =
          let w = some_has own (standing e) is in
          any_has (λ x. own x || marks_tree m x) (standing e) w.0 w.1 (or_left (own w.0) (marks_tree m w.0) w.2)
      from (inr (r, there, (recording, reads), passing)) =
          let w = by_selector rules e r.name reads in
          let s = of_flat_map own_selectors (standing e) w.0 (subst (λ (l : List (Option Bytes)). Contains l w.0) (selectors_stand e) w.1) in
          let marked : has_mark m w.0 ≡ true = (tells w.0).1 (r, there, recording, w.2, passing) in
          any_has (λ x. own x || marks_tree m x) (standing e) s.0 s.1 (or_right (own s.0) (marks_tree m s.0) (own_marks m s.0 w.0 s.2 marked))
