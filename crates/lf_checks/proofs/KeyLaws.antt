-- Rules are written alike exactly where they are the same.
use Rattle.std.proofs.Common.{◌≡◌, ◌+◌, ℕ, Bool, List, [], ◌∷◌, ◌++◌, map, Option, Some, None, refl, sym, ap, ap₂, ◌∙◌, arith}
use Rattle.std.proofs.lemmas.Grind.{flat_map-append}
use Rattle.std.proofs.lemmas.List.{append-nil, append_assoc}
use Rattle.std.specs.List.{flat_map}
use Rattle.std.specs.Option.{option_map}
use Rattle.lf_ast.specs.Labels.{Bytes}
use Rattle.lf_ast.specs.Rules.{RuleTree}
use Rattle.lf_ast.specs.Spanless.{nowhere, spanless, spanless_each, spanless_grouping, spanless_matcher, spanless_matching, spanless_name, spanless_names, spanless_sight}
use Rattle.lf_ast.specs.Tree.{Tree, Trees, Number, Str, Selector, Subquery, Paren, Unary, Binary, Call, Aggregate, Nil, Next, count, nodes, nodes_in}
use Rattle.lf_ast.specs.declared.expr.Agg.{Agg}
use Rattle.lf_ast.specs.declared.expr.Grouping.{Grouping}
use Rattle.lf_ast.specs.declared.expr.Grouping.TheVariants.{None as Ungrouped, By, Without}
use Rattle.lf_ast.specs.declared.expr.Matcher.{Matcher}
use Rattle.lf_ast.specs.declared.expr.Matching.{Matching}
use Rattle.lf_ast.specs.declared.expr.Name.{Name}
use Rattle.lf_ast.specs.declared.expr.Op.{Op}
use Rattle.lf_ast.specs.declared.expr.Sight.{Sight}
use Rattle.lf_ast.specs.declared.rule.RuleLabel.{RuleLabel}
use Rattle.lf_checks.specs.RuleDuplicate.{pairs_of}
use Rattle.lf_checks.specs.views.Keys.{agg_mark, count_code, expr_code, flag_code, grouping_code, key_of, label_code, list_code, matcher_code, matching_code, name_code, names_code, node_code, op_mark, option_code, sight_code, text_code}
use Rattle.lf_checks.proofs.Codes.{pair_of, agg_same, cons_same, counts, flags, groupings, label_lists, matcher_lists, matchings, op_same, optional_text, sights, texts}

-- ---- what is written alike is the same

args_code : Trees → Bytes
args_code args = flat_map node_code (nodes_in args)

-- the letter that an expression begins with, and what is behind it
kind : Tree → ℕ
kind (Number text span) = 97
kind (Str text span) = 98
kind (Selector name matchers sight span) = 99
kind (Subquery of sight span) = 100
kind (Paren of span) = 101
kind (Unary minus of span) = 102
kind (Binary op m left right span) = 103
kind (Call name args span) = 104
kind (Aggregate op grouping args span) = 105

body : Tree → Bytes → Bytes
body (Number text span) R = text_code text ++ R
body (Str text span) R = text_code text ++ R
body (Selector name matchers sight span) R = option_code text_code name ++ (list_code matcher_code matchers ++ (sight_code sight ++ R))
body (Subquery of sight span) R = sight_code sight ++ (expr_code of ++ R)
body (Paren of span) R = expr_code of ++ R
body (Unary minus of span) R = flag_code minus ++ (expr_code of ++ R)
body (Binary op m left right span) R = op_mark op ∷ (matching_code m ++ (expr_code left ++ (expr_code right ++ R)))
body (Call name args span) R = text_code name ++ (count_code (count args) ++ (args_code args ++ R))
body (Aggregate op grouping args span) R = agg_mark op ∷ (grouping_code grouping ++ (count_code (count args) ++ (args_code args ++ R)))

three : (a b c R : Bytes) → ((a ++ (b ++ c)) ++ []) ++ R ≡ a ++ (b ++ (c ++ R))
three a b c R = ap (λ (l : Bytes). l ++ R) (append-nil (a ++ (b ++ c))) ∙ append_assoc a (b ++ c) R ∙ ap (λ (l : Bytes). a ++ l) (append_assoc b c R)

four : (a b c R : Bytes) → ((a ++ b) ++ c) ++ R ≡ a ++ (b ++ (c ++ R))
four a b c R = append_assoc (a ++ b) c R ∙ append_assoc a b (c ++ R)

opened : (x : Tree) (R : Bytes) → expr_code x ++ R ≡ kind x ∷ body x R
unfolding kind body args_code
opened (Number text span) R = ap (λ (l : Bytes). 97 ∷ (l ++ R)) (append-nil (text_code text))
opened (Str text span) R = ap (λ (l : Bytes). 98 ∷ (l ++ R)) (append-nil (text_code text))
opened (Selector name matchers sight span) R = ap (λ (l : Bytes). 99 ∷ l) (three (option_code text_code name) (list_code matcher_code matchers) (sight_code sight) R)
opened (Subquery of sight span) R = ap (λ (l : Bytes). 100 ∷ l) (append_assoc (sight_code sight) (expr_code of) R)
opened (Paren of span) R = refl
opened (Unary minus of span) R = ap (λ (l : Bytes). 102 ∷ l) (append_assoc (flag_code minus) (expr_code of) R)
opened (Binary op m left right span) R =
    ap (λ (l : Bytes). 103 ∷ op_mark op ∷ ((matching_code m ++ l) ++ R)) (flat_map-append node_code (nodes left) (nodes right))
    ∙ ap (λ (l : Bytes). 103 ∷ op_mark op ∷ l) (append_assoc (matching_code m) (expr_code left ++ expr_code right) R ∙ ap (λ (l : Bytes). matching_code m ++ l) (append_assoc (expr_code left) (expr_code right) R))
opened (Call name args span) R = ap (λ (l : Bytes). 104 ∷ l) (four (text_code name) (count_code (count args)) (args_code args) R)
opened (Aggregate op grouping args span) R = ap (λ (l : Bytes). 105 ∷ agg_mark op ∷ l) (four (grouping_code grouping) (count_code (count args)) (args_code args) R)

heads : (x y : Tree) (R S : Bytes) → expr_code x ++ R ≡ expr_code y ++ S → (kind x ≡ kind y) × (body x R ≡ body y S)
heads x y R S e = cons_same (kind x) (kind y) (body x R) (body y S) (sym (opened x R) ∙ e ∙ opened y S)

args_split : (x : Tree) (xs : Trees) (R : Bytes) → args_code (Next x xs) ++ R ≡ expr_code x ++ (args_code xs ++ R)
unfolding args_code
args_split x xs R = ap (λ (l : Bytes). l ++ R) (flat_map-append node_code (nodes x) (nodes_in xs)) ∙ append_assoc (expr_code x) (flat_map node_code (nodes_in xs)) R

mutual
  unfolding kind body args_code

  exprs : (x y : Tree) (R S : Bytes) → expr_code x ++ R ≡ expr_code y ++ S → (spanless x ≡ spanless y) × (R ≡ S)
  exprs (Number text a) (Number other b) R S e = let h = texts text other R S (heads (Number text a) (Number other b) R S e).1 in (ap (λ (t : Bytes). Number t nowhere) h.0, h.1)
  exprs (Str text a) (Str other b) R S e = let h = texts text other R S (heads (Str text a) (Str other b) R S e).1 in (ap (λ (t : Bytes). Str t nowhere) h.0, h.1)
  exprs (Selector name ms s a) (Selector other ns t b) R S e =
      let n = optional_text name other (list_code matcher_code ms ++ (sight_code s ++ R)) (list_code matcher_code ns ++ (sight_code t ++ S)) (heads (Selector name ms s a) (Selector other ns t b) R S e).1 in
      let m = matcher_lists ms ns (sight_code s ++ R) (sight_code t ++ S) n.1 in
      let l = sights s t R S m.1 in (
        ap (λ (z : Option Bytes). Selector z (map spanless_matcher ms) (spanless_sight s) nowhere) n.0
            ∙ ap (λ (z : List Matcher). Selector other z (spanless_sight s) nowhere) m.0
            ∙ ap (λ (z : Sight). Selector other (map spanless_matcher ns) z nowhere) l.0,
        l.1,
      )
  exprs (Subquery of s a) (Subquery other t b) R S e =
      let l = sights s t (expr_code of ++ R) (expr_code other ++ S) (heads (Subquery of s a) (Subquery other t b) R S e).1 in
      let h = exprs of other R S l.1 in
      (ap₂ (λ (x : Tree) (z : Sight). Subquery x z nowhere) h.0 l.0, h.1)
  exprs (Paren of a) (Paren other b) R S e =
      let h = exprs of other R S (heads (Paren of a) (Paren other b) R S e).1 in
      (ap (λ (x : Tree). Paren x nowhere) h.0, h.1)
  exprs (Unary minus of a) (Unary sign other b) R S e =
      let f = flags minus sign (expr_code of ++ R) (expr_code other ++ S) (heads (Unary minus of a) (Unary sign other b) R S e).1 in
      let h = exprs of other R S f.1 in
      (ap₂ (λ (m : Bool) (x : Tree). Unary m x nowhere) f.0 h.0, h.1)
  exprs (Binary op m left right a) (Binary po n l r b) R S e =
      let c = cons_same (op_mark op) (op_mark po) (matching_code m ++ (expr_code left ++ (expr_code right ++ R))) (matching_code n ++ (expr_code l ++ (expr_code r ++ S))) (heads (Binary op m left right a) (Binary po n l r b) R S e).1 in
      let d = matchings m n (expr_code left ++ (expr_code right ++ R)) (expr_code l ++ (expr_code r ++ S)) c.1 in
      let f = exprs left l (expr_code right ++ R) (expr_code r ++ S) d.1 in
      let h = exprs right r R S f.1 in
      (ap₂ (λ (o : Op) (z : Matching). Binary o z (spanless left) (spanless right) nowhere) (op_same op po c.0) d.0 ∙ ap₂ (λ (x y : Tree). Binary po (spanless_matching n) x y nowhere) f.0 h.0, h.1)
  exprs (Call name args a) (Call other others b) R S e =
      let t = texts name other (count_code (count args) ++ (args_code args ++ R)) (count_code (count others) ++ (args_code others ++ S)) (heads (Call name args a) (Call other others b) R S e).1 in
      let n = counts (count args) (count others) (args_code args ++ R) (args_code others ++ S) t.1 in
      let h = arguments args others R S n.0 n.1 in
      (ap₂ (λ (z : Bytes) (xs : Trees). Call z xs nowhere) t.0 h.0, h.1)
  exprs (Aggregate op g args a) (Aggregate po k others b) R S e =
      let c = cons_same (agg_mark op) (agg_mark po) (grouping_code g ++ (count_code (count args) ++ (args_code args ++ R))) (grouping_code k ++ (count_code (count others) ++ (args_code others ++ S)))
      (heads (Aggregate op g args a) (Aggregate po k others b) R S e).1 in
      let d = groupings g k (count_code (count args) ++ (args_code args ++ R)) (count_code (count others) ++ (args_code others ++ S)) c.1 in
      let n = counts (count args) (count others) (args_code args ++ R) (args_code others ++ S) d.1 in
      let h = arguments args others R S n.0 n.1 in
      (ap₂ (λ (o : Agg) (z : Grouping). Aggregate o z (spanless_each args) nowhere) (agg_same op po c.0) d.0 ∙ ap (λ (xs : Trees). Aggregate po (spanless_grouping k) xs nowhere) h.0, h.1)
  exprs x y R S e = let h = (heads x y R S e).0 in absurd (omega (arith, h))

  arguments : (xs ys : Trees) (R S : Bytes) → count xs ≡ count ys → args_code xs ++ R ≡ args_code ys ++ S → (spanless_each xs ≡ spanless_each ys) × (R ≡ S)
  arguments Nil Nil R S n e = (refl, e)
  arguments Nil (Next y ys) R S n e = absurd (omega (arith, n))
  arguments (Next x xs) Nil R S n e = absurd (omega (arith, n))
  arguments (Next x xs) (Next y ys) R S n e =
      let h = exprs x y (args_code xs ++ R) (args_code ys ++ S) (sym (args_split x xs R) ∙ e ∙ args_split y ys S) in
      let k : count xs ≡ count ys = omega (arith, n) in
      let l = arguments xs ys R S k h.1 in
      (ap₂ (λ (z : Tree) (zs : Trees). Next z zs) h.0 l.0, l.1)

-- ---- what is the same is written alike

list_plain : {X Y : Type 0} (code : X → Bytes) (plain : Y → Bytes) (made : X → Y) → ((x : X) → plain (made x) ≡ code x) → (xs : List X) → list_code plain (map made xs) ≡ list_code code xs
list_plain {X} {Y} code plain made each [] = refl
list_plain {X} {Y} code plain made each (x ∷ xs) =
    ap (λ (l : Bytes). 49 ∷ ((l ++ flat_map (λ (y : Y). 49 ∷ plain y) (map made xs)) ++ 48 ∷ [])) (each x)
    ∙ ap (λ (l : Bytes). 49 ∷ l) (append_assoc (code x) (flat_map (λ (y : Y). 49 ∷ plain y) (map made xs)) (48 ∷ []))
    ∙ ap (λ (l : Bytes). 49 ∷ (code x ++ l)) (list_plain code plain made each xs)
    ∙ ap (λ (l : Bytes). 49 ∷ l) (sym (append_assoc (code x) (flat_map (λ (z : X). 49 ∷ code z) xs) (48 ∷ [])))

names_plain : (names : List Name) → names_code (spanless_names names) ≡ names_code names
names_plain names = list_plain name_code name_code spanless_name (λ x. refl) names

optional_plain : (names : Option (List Name)) → option_code names_code (option_map spanless_names names) ≡ option_code names_code names
optional_plain None = refl
optional_plain (Some names) = ap (λ (l : Bytes). 49 ∷ l) (names_plain names)

matching_plain : (m : Matching) → matching_code (spanless_matching m) ≡ matching_code m
matching_plain m = rw (optional_plain m.on, optional_plain m.ignoring, names_plain m.include) refl

grouping_plain : (g : Grouping) → grouping_code (spanless_grouping g) ≡ grouping_code g
grouping_plain Ungrouped = refl
grouping_plain (By labels) = ap (λ (l : Bytes). 98 ∷ l) (names_plain labels)
grouping_plain (Without labels) = ap (λ (l : Bytes). 99 ∷ l) (names_plain labels)

count_plain : (args : Trees) → count (spanless_each args) ≡ count args
count_plain Nil = refl
count_plain (Next x xs) = ap (λ (n : ℕ). n + 1) (count_plain xs)

mutual
  unfolding args_code

  plain : (x : Tree) → expr_code (spanless x) ≡ expr_code x
  plain (Number text span) = refl
  plain (Str text span) = refl
  plain (Selector name matchers sight span) =
      ap (λ (l : Bytes). (99 ∷ (option_code text_code name ++ (l ++ sight_code sight))) ++ []) (list_plain matcher_code matcher_code spanless_matcher (λ m. refl) matchers)
  plain (Subquery of sight span) = ap (λ (l : Bytes). 100 ∷ (sight_code sight ++ l)) (plain of)
  plain (Paren of span) = ap (λ (l : Bytes). 101 ∷ l) (plain of)
  plain (Unary minus of span) = ap (λ (l : Bytes). 102 ∷ (flag_code minus ++ l)) (plain of)
  plain (Binary op m left right span) =
      ap (λ (l : Bytes). 103 ∷ op_mark op ∷ (matching_code (spanless_matching m) ++ l)) (flat_map-append node_code (nodes (spanless left)) (nodes (spanless right)))
      ∙ ap₂ (λ (l r : Bytes). 103 ∷ op_mark op ∷ (l ++ r)) (matching_plain m) (ap₂ (λ (l r : Bytes). l ++ r) (plain left) (plain right))
      ∙ ap (λ (l : Bytes). 103 ∷ op_mark op ∷ (matching_code m ++ l)) (sym (flat_map-append node_code (nodes left) (nodes right)))
  plain (Call name args span) = ap₂ (λ (n : ℕ) (l : Bytes). 104 ∷ ((text_code name ++ count_code n) ++ l)) (count_plain args) (arguments_plain args)
  plain (Aggregate op g args span) =
      ap (λ (l : Bytes). 105 ∷ agg_mark op ∷ ((l ++ count_code (count (spanless_each args))) ++ args_code (spanless_each args))) (grouping_plain g)
      ∙ ap₂ (λ (n : ℕ) (l : Bytes). 105 ∷ agg_mark op ∷ ((grouping_code g ++ count_code n) ++ l)) (count_plain args) (arguments_plain args)

  arguments_plain : (args : Trees) → args_code (spanless_each args) ≡ args_code args
  arguments_plain Nil = refl
  arguments_plain (Next x xs) =
      flat_map-append node_code (nodes (spanless x)) (nodes_in (spanless_each xs)) ∙ ap₂ (λ (l r : Bytes). l ++ r) (plain x) (arguments_plain xs) ∙ sym (flat_map-append node_code (nodes x) (nodes_in xs))

-- ---- rules

-- the parts of two rules by which they are the same
abbrev pub SayTheSame : RuleTree → RuleTree → Type 0
SayTheSame r s = (r.name ≡ s.name) × (pairs_of r.labels ≡ pairs_of s.labels) × (spanless r.expr ≡ spanless s.expr)

pair_code : Bytes × Bytes → Bytes
pair_code p = text_code p.0 ++ text_code p.1

listed : (ls : List RuleLabel) → list_code label_code ls ≡ list_code pair_code (pairs_of ls)
unfolding pair_code
listed ls = sym (list_plain label_code pair_code pair_of (λ x. refl) ls)

pub same_key : (r s : RuleTree) → SayTheSame r s → key_of r ≡ key_of s
same_key r s (n, l, e) =
    ap (λ (t : Bytes). text_code t ++ (list_code label_code r.labels ++ expr_code r.expr)) n
    ∙ ap (λ (t : Bytes). text_code s.name ++ (t ++ expr_code r.expr)) (listed r.labels ∙ ap (list_code pair_code) l ∙ sym (listed s.labels))
    ∙ ap (λ (t : Bytes). text_code s.name ++ (list_code label_code s.labels ++ t)) (sym (plain r.expr) ∙ ap expr_code e ∙ plain s.expr)

pub key_same : (r s : RuleTree) → key_of r ≡ key_of s → SayTheSame r s
key_same r s e =
    let n = texts r.name s.name (list_code label_code r.labels ++ expr_code r.expr) (list_code label_code s.labels ++ expr_code s.expr) e in
    let l = label_lists r.labels s.labels (expr_code r.expr) (expr_code s.expr) n.1 in
    let x = exprs r.expr s.expr [] [] (append-nil (expr_code r.expr) ∙ l.1 ∙ sym (append-nil (expr_code s.expr))) in
    (n.0, l.0, x.0)
