-- What is written of parts can be told apart, and is seen to end.
use Rattle.std.proofs.Common.{◌≡◌, ◌-◌, ℕ, zero, suc, Bool, true, false, List, [], ◌∷◌, ◌++◌, map, length, Option, Some, None, refl, sym, ap, ap₂, ◌∙◌, arith}
use Rattle.std.proofs.lemmas.List.{append_assoc}
use Rattle.std.specs.List.{flat_map}
use Rattle.std.specs.Option.{option_map}
use Rattle.std.specs.Prelude.{slice_index_or}
use Rattle.lf_ast.specs.Labels.{Bytes}
use Rattle.lf_ast.specs.Spanless.{nowhere, spanless_grouping, spanless_matcher, spanless_matching, spanless_name, spanless_names, spanless_sight}
use Rattle.lf_ast.specs.declared.expr.Agg.{Agg}
use Rattle.lf_ast.specs.declared.expr.Agg.TheVariants as A
use Rattle.lf_ast.specs.declared.expr.Group.{Group}
use Rattle.lf_ast.specs.declared.expr.Group.TheVariants.{One, Left, Right}
use Rattle.lf_ast.specs.declared.expr.Grouping.TheVariants.{None as Ungrouped, By, Without}
use Rattle.lf_ast.specs.declared.expr.Matcher.{Matcher}
use Rattle.lf_ast.specs.declared.expr.Matching.{Matching}
use Rattle.lf_ast.specs.declared.expr.MatchOp.{MatchOp}
use Rattle.lf_ast.specs.declared.expr.MatchOp.TheVariants as M
use Rattle.lf_ast.specs.declared.expr.Name.{Name}
use Rattle.lf_ast.specs.declared.expr.Op.{Op}
use Rattle.lf_ast.specs.declared.expr.Op.TheVariants as O
use Rattle.lf_ast.specs.declared.expr.Sight.{Sight}
use Rattle.lf_ast.specs.declared.rule.RuleLabel.{RuleLabel}
use Rattle.lf_checks.specs.views.Keys.{agg_mark, count_code, flag_code, group_mark, grouping_code, label_code, list_code, match_mark, matcher_code, matching_code, name_code, names_code, op_mark, option_code, sight_code, text_code}

-- where two are written alike, whatever stands behind them, what is made of them is the same, and so is what stands behind them
abbrev pub IsCode : {X Y : Type 0} → (X → Bytes) → (X → Y) → Type 0
IsCode {X} {Y} code made = (x y : X) (R S : Bytes) → code x ++ R ≡ code y ++ S → (made x ≡ made y) × (R ≡ S)

pub cons_same : (a b : ℕ) (xs ys : Bytes) → a ∷ xs ≡ b ∷ ys → (a ≡ b) × (xs ≡ ys)
cons_same a b xs ys e = (cc, cc)

apart : (xs ys : Bytes) → 48 ∷ xs ≡ 49 ∷ ys → ⊥
apart xs ys e = let h : 48 ≡ 49 = (cons_same 48 49 xs ys e).0 in omega (arith, h)

-- ---- counts, texts, truth values, options and lists

pub counts : (n m : ℕ) (R S : Bytes) → count_code n ++ R ≡ count_code m ++ S → (n ≡ m) × (R ≡ S)
counts zero zero R S e = (refl, (cons_same 48 48 R S e).1)
counts zero (suc m) R S e = absurd (apart R (count_code m ++ S) e)
counts (suc n) zero R S e = absurd (apart S (count_code n ++ R) (sym e))
counts (suc n) (suc m) R S e = let h = counts n m R S (cons_same 49 49 (count_code n ++ R) (count_code m ++ S) e).1 in (ap suc h.0, h.1)

halves : (t u R S : Bytes) → length t ≡ length u → t ++ R ≡ u ++ S → (t ≡ u) × (R ≡ S)
halves [] [] R S n e = (refl, e)
halves [] (b ∷ u) R S n e = absurd (omega (arith, n))
halves (a ∷ t) [] R S n e = absurd (omega (arith, n))
halves (a ∷ t) (b ∷ u) R S n e =
    let h = cons_same a b (t ++ R) (u ++ S) e in
    let k : length t ≡ length u = omega (arith, n) in
    let l = halves t u R S k h.1 in
    (ap (λ (c : ℕ). c ∷ t) h.0 ∙ ap (λ (v : Bytes). b ∷ v) l.0, l.1)

pub texts : (t u R S : Bytes) → text_code t ++ R ≡ text_code u ++ S → (t ≡ u) × (R ≡ S)
texts t u R S e =
    let h = counts (length t) (length u) (t ++ R) (u ++ S) (sym (append_assoc (count_code (length t)) t R) ∙ e ∙ append_assoc (count_code (length u)) u S) in
    halves t u R S h.0 h.1

pub flags : (a b : Bool) (R S : Bytes) → flag_code a ++ R ≡ flag_code b ++ S → (a ≡ b) × (R ≡ S)
flags true true R S e = (refl, (cons_same 49 49 R S e).1)
flags true false R S e = absurd (apart S R (sym e))
flags false true R S e = absurd (apart R S e)
flags false false R S e = (refl, (cons_same 48 48 R S e).1)

pub options : {X Y : Type 0} (code : X → Bytes) (made : X → Y) → IsCode code made → IsCode (option_code code) (option_map made)
options {X} {Y} code made is None None R S e = (refl, (cons_same 48 48 R S e).1)
options {X} {Y} code made is None (Some y) R S e = absurd (apart R (code y ++ S) e)
options {X} {Y} code made is (Some x) None R S e = absurd (apart S (code x ++ R) (sym e))
options {X} {Y} code made is (Some x) (Some y) R S e = let h = is x y R S (cons_same 49 49 (code x ++ R) (code y ++ S) e).1 in (ap (λ (z : Y). Some z) h.0, h.1)

listed : {X : Type 0} (code : X → Bytes) (x : X) (xs : List X) (R : Bytes) → list_code code (x ∷ xs) ++ R ≡ 49 ∷ (code x ++ (list_code code xs ++ R))
listed {X} code x xs R =
    let F = flat_map (λ (z : X). 49 ∷ code z) xs in
    ap (λ (l : Bytes). 49 ∷ (l ++ R)) (append_assoc (code x) F (48 ∷ [])) ∙ ap (λ (l : Bytes). 49 ∷ l) (append_assoc (code x) (F ++ 48 ∷ []) R)

pub lists : {X Y : Type 0} (code : X → Bytes) (made : X → Y) → IsCode code made → IsCode (list_code code) (map made)
lists {X} {Y} code made is [] [] R S e = (refl, (cons_same 48 48 R S e).1)
lists {X} {Y} code made is [] (y ∷ ys) R S e = absurd (apart R (code y ++ (list_code code ys ++ S)) (e ∙ listed code y ys S))
lists {X} {Y} code made is (x ∷ xs) [] R S e = absurd (apart S (code x ++ (list_code code xs ++ R)) (sym e ∙ listed code x xs R))
lists {X} {Y} code made is (x ∷ xs) (y ∷ ys) R S e =
    let h = cons_same 49 49 (code x ++ (list_code code xs ++ R)) (code y ++ (list_code code ys ++ S)) (sym (listed code x xs R) ∙ e ∙ listed code y ys S) in
    let first = is x y (list_code code xs ++ R) (list_code code ys ++ S) h.1 in
    let others = lists code made is xs ys R S first.1 in
    (ap (λ (z : Y). z ∷ map made xs) first.0 ∙ ap (λ (zs : List Y). made y ∷ zs) others.0, others.1)

-- ---- marks

ops : List Op
ops = O.Add ∷ O.Subtract ∷ O.Multiply ∷ O.Divide ∷ O.Modulo ∷ O.Power ∷ O.Atan2 ∷ O.Equal ∷ O.NotEqual ∷ O.LessOrEqual ∷ O.Less ∷ O.GreaterOrEqual ∷ O.Greater ∷ O.And ∷ O.Or ∷ O.Unless ∷ []

op_at : ℕ → Op
op_at mark = slice_index_or ops (mark - 97) O.Add

op_there : (op : Op) → op_at (op_mark op) ≡ op
unfolding op_at ops
op_there O.Add = refl
op_there O.Subtract = refl
op_there O.Multiply = refl
op_there O.Divide = refl
op_there O.Modulo = refl
op_there O.Power = refl
op_there O.Atan2 = refl
op_there O.Equal = refl
op_there O.NotEqual = refl
op_there O.LessOrEqual = refl
op_there O.Less = refl
op_there O.GreaterOrEqual = refl
op_there O.Greater = refl
op_there O.And = refl
op_there O.Or = refl
op_there O.Unless = refl

pub op_same : (a b : Op) → op_mark a ≡ op_mark b → a ≡ b
op_same a b e = sym (op_there a) ∙ ap op_at e ∙ op_there b

aggs : List Agg
aggs = A.Sum ∷ A.Min ∷ A.Max ∷ A.Avg ∷ A.Group ∷ A.Stddev ∷ A.Stdvar ∷ A.Count ∷ A.Quantile ∷ A.CountValues ∷ A.Topk ∷ A.Bottomk ∷ []

agg_at : ℕ → Agg
agg_at mark = slice_index_or aggs (mark - 97) A.Sum

agg_there : (op : Agg) → agg_at (agg_mark op) ≡ op
unfolding agg_at aggs
agg_there A.Sum = refl
agg_there A.Min = refl
agg_there A.Max = refl
agg_there A.Avg = refl
agg_there A.Group = refl
agg_there A.Stddev = refl
agg_there A.Stdvar = refl
agg_there A.Count = refl
agg_there A.Quantile = refl
agg_there A.CountValues = refl
agg_there A.Topk = refl
agg_there A.Bottomk = refl

pub agg_same : (a b : Agg) → agg_mark a ≡ agg_mark b → a ≡ b
agg_same a b e = sym (agg_there a) ∙ ap agg_at e ∙ agg_there b

match_ops : List MatchOp
match_ops = M.Equal ∷ M.NotEqual ∷ M.Matches ∷ M.NotMatches ∷ []

match_at : ℕ → MatchOp
match_at mark = slice_index_or match_ops (mark - 97) M.Equal

match_there : (op : MatchOp) → match_at (match_mark op) ≡ op
unfolding match_at match_ops
match_there M.Equal = refl
match_there M.NotEqual = refl
match_there M.Matches = refl
match_there M.NotMatches = refl

match_same : (a b : MatchOp) → match_mark a ≡ match_mark b → a ≡ b
match_same a b e = sym (match_there a) ∙ ap match_at e ∙ match_there b

groups : List Group
groups = One ∷ Left ∷ Right ∷ []

group_at : ℕ → Group
group_at mark = slice_index_or groups (mark - 97) One

group_there : (group : Group) → group_at (group_mark group) ≡ group
unfolding group_at groups
group_there One = refl
group_there Left = refl
group_there Right = refl

group_same : (a b : Group) → group_mark a ≡ group_mark b → a ≡ b
group_same a b e = sym (group_there a) ∙ ap group_at e ∙ group_there b

-- ---- parts of an expression and of a rule

names : IsCode name_code spanless_name
names n m R S e = let h = texts n.text m.text R S e in (ap (λ (t : Bytes). record { text = t; span = nowhere }) h.0, h.1)

pub name_lists : IsCode names_code spanless_names
name_lists = lists name_code spanless_name names

pub optional_text : (a b : Option Bytes) (R S : Bytes) → option_code text_code a ++ R ≡ option_code text_code b ++ S → (a ≡ b) × (R ≡ S)
optional_text None None R S e = (refl, (cons_same 48 48 R S e).1)
optional_text None (Some b) R S e = absurd (apart R (text_code b ++ S) e)
optional_text (Some a) None R S e = absurd (apart S (text_code a ++ R) (sym e))
optional_text (Some a) (Some b) R S e = let h = texts a b R S (cons_same 49 49 (text_code a ++ R) (text_code b ++ S) e).1 in (ap (λ (z : Bytes). Some z) h.0, h.1)

-- two behind one another
two : (a b x y : Bytes) (R S : Bytes) → text_code a ++ text_code x ++ R ≡ text_code b ++ text_code y ++ S → (a ≡ b) × (x ≡ y) × (R ≡ S)
two a b x y R S e =
    let h = texts a b (text_code x ++ R) (text_code y ++ S) (sym (append_assoc (text_code a) (text_code x) R) ∙ e ∙ append_assoc (text_code b) (text_code y) S) in
    let k = texts x y R S h.1 in (h.0, k.0, k.1)

matcher_of : MatchOp → Bytes → Bytes → Matcher
matcher_of op label value = record { label = label; op = op; value = value; label_span = nowhere; value_span = nowhere }

matchers : IsCode matcher_code spanless_matcher
unfolding matcher_of
matchers m n R S e =
    let h = cons_same (match_mark m.op) (match_mark n.op) ((text_code m.label ++ text_code m.value) ++ R) ((text_code n.label ++ text_code n.value) ++ S) e in
    let k = two m.label n.label m.value n.value R S h.1 in
    let f : spanless_matcher m ≡ spanless_matcher n =
    ap (λ (op : MatchOp). matcher_of op m.label m.value) (match_same m.op n.op h.0) ∙ ap (λ (l : Bytes). matcher_of n.op l m.value) k.0 ∙ ap (λ (v : Bytes). matcher_of n.op n.label v) k.1 in
    (f, k.2)

pub matcher_lists : IsCode (list_code matcher_code) (map spanless_matcher)
matcher_lists = lists matcher_code spanless_matcher matchers

sight_of : Option Bytes → Option Bytes → Option Bytes → Option Bytes → Sight
sight_of range step offset at = record { range = range; step = step; offset = offset; at = at; range_span = nowhere }

sight_split : (s : Sight) (R : Bytes) → sight_code s ++ R ≡ option_code text_code s.range ++ (option_code text_code s.step ++ (option_code text_code s.offset ++ (option_code text_code s.at ++ R)))
sight_split s R = simp append_assoc

pub sights : IsCode sight_code spanless_sight
unfolding sight_of
sights s t R S e =
    let o = option_code text_code in
    let a = optional_text s.range t.range (o s.step ++ (o s.offset ++ (o s.at ++ R))) (o t.step ++ (o t.offset ++ (o t.at ++ S))) (sym (sight_split s R) ∙ e ∙ sight_split t S) in
    let b = optional_text s.step t.step (o s.offset ++ (o s.at ++ R)) (o t.offset ++ (o t.at ++ S)) a.1 in
    let c = optional_text s.offset t.offset (o s.at ++ R) (o t.at ++ S) b.1 in
    let d = optional_text s.at t.at R S c.1 in
    let f : spanless_sight s ≡ spanless_sight t =
    ap (λ (z : Option Bytes). sight_of z s.step s.offset s.at) a.0 ∙ ap (λ (z : Option Bytes). sight_of t.range z s.offset s.at) b.0 ∙ ap (λ (z : Option Bytes). sight_of t.range t.step z s.at) c.0
    ∙ ap (λ (z : Option Bytes). sight_of t.range t.step t.offset z) d.0 in
    (f, d.1)

matching_of : Bool → Option (List Name) → Option (List Name) → Group → List Name → Matching
matching_of flag on ignoring group include = record { bool_mod = flag; on = on; ignoring = ignoring; group = group; include = include; span = nowhere }

matching_split : (m : Matching) (R : Bytes)
    → matching_code m ++ R ≡ flag_code m.bool_mod ++ (group_mark m.group ∷ (option_code names_code m.on ++ (option_code names_code m.ignoring ++ (names_code m.include ++ R))))
matching_split m R = simp append_assoc

pub matchings : IsCode matching_code spanless_matching
unfolding matching_of
matchings m n R S e =
    let o = option_code names_code in
    let p = options names_code spanless_names name_lists in
    let tail_m = o m.on ++ (o m.ignoring ++ (names_code m.include ++ R)) in
    let tail_n = o n.on ++ (o n.ignoring ++ (names_code n.include ++ S)) in
    let a = flags m.bool_mod n.bool_mod (group_mark m.group ∷ tail_m) (group_mark n.group ∷ tail_n) (sym (matching_split m R) ∙ e ∙ matching_split n S) in
    let b = cons_same (group_mark m.group) (group_mark n.group) tail_m tail_n a.1 in
    let c = p m.on n.on (o m.ignoring ++ (names_code m.include ++ R)) (o n.ignoring ++ (names_code n.include ++ S)) b.1 in
    let d = p m.ignoring n.ignoring (names_code m.include ++ R) (names_code n.include ++ S) c.1 in
    let i = name_lists m.include n.include R S d.1 in
    let on = option_map spanless_names m.on in
    let ig = option_map spanless_names m.ignoring in
    let inc = spanless_names m.include in
    let on_n = option_map spanless_names n.on in
    let ig_n = option_map spanless_names n.ignoring in
    let f : spanless_matching m ≡ spanless_matching n =
    ap (λ (z : Bool). matching_of z on ig m.group inc) a.0 ∙ ap (λ (z : Group). matching_of n.bool_mod on ig z inc) (group_same m.group n.group b.0)
    ∙ ap (λ (z : Option (List Name)). matching_of n.bool_mod z ig n.group inc) c.0 ∙ ap (λ (z : Option (List Name)). matching_of n.bool_mod on_n z n.group inc) d.0
    ∙ ap (λ (z : List Name). matching_of n.bool_mod on_n ig_n n.group z) i.0 in
    (f, i.1)

letters : (a b : ℕ) (xs ys : Bytes) → (a ≡ b → ⊥) → a ∷ xs ≡ b ∷ ys → ⊥
letters a b xs ys other e = other (cons_same a b xs ys e).0

pub groupings : IsCode grouping_code spanless_grouping
groupings Ungrouped Ungrouped R S e = (refl, (cons_same 97 97 R S e).1)
groupings Ungrouped (By ms) R S e = absurd (letters 97 98 R (names_code ms ++ S) (λ h. omega (arith, h)) e)
groupings Ungrouped (Without ms) R S e = absurd (letters 97 99 R (names_code ms ++ S) (λ h. omega (arith, h)) e)
groupings (By ls) Ungrouped R S e = absurd (letters 98 97 (names_code ls ++ R) S (λ h. omega (arith, h)) e)
groupings (By ls) (By ms) R S e = let h = name_lists ls ms R S (cons_same 98 98 (names_code ls ++ R) (names_code ms ++ S) e).1 in (ap (λ (z : List Name). By z) h.0, h.1)
groupings (By ls) (Without ms) R S e = absurd (letters 98 99 (names_code ls ++ R) (names_code ms ++ S) (λ h. omega (arith, h)) e)
groupings (Without ls) Ungrouped R S e = absurd (letters 99 97 (names_code ls ++ R) S (λ h. omega (arith, h)) e)
groupings (Without ls) (By ms) R S e = absurd (letters 99 98 (names_code ls ++ R) (names_code ms ++ S) (λ h. omega (arith, h)) e)
groupings (Without ls) (Without ms) R S e = let h = name_lists ls ms R S (cons_same 99 99 (names_code ls ++ R) (names_code ms ++ S) e).1 in (ap (λ (z : List Name). Without z) h.0, h.1)

pair : Bytes → Bytes → Bytes × Bytes
pair key value = (key, value)

abbrev pub pair_of : RuleLabel → Bytes × Bytes
pair_of l = (l.key, l.value)

labels : IsCode label_code pair_of
unfolding pair
labels l m R S e =
    let k = two l.key m.key l.value m.value R S e in
    (ap₂ pair k.0 k.1, k.2)

pub label_lists : IsCode (list_code label_code) (map pair_of)
label_lists = lists label_code pair_of labels
