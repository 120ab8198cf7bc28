-- The texts of label sets that are made of label sets.
use Rattle.std.proofs.Common.{◌≡◌, Bool, true, false, not, ◌&&◌, ◌||◌, cond, List, [], ◌∷◌, Option, Some, None, refl, sym, ◌∙◌, ap}
use Rattle.std.specs.Option.{unwrap_or}
use Rattle.std.specs.Ordering.{nat_cmp, eq_by_cmp}
use Rattle.std.specs.Cmp.Lexicographic.{slice_cmp, nat_list_cmp_total}
use Rattle.std.specs.FinMap.{get, get-empty, insert, remove, get-insert, get-remove}
use Rattle.std.specs.Str.{bytes_eq}
use Rattle.std.proofs.lemmas.Map.Text.{is_eq-slice_cmp}
use Rattle.lf_ast.specs.Labels.{Bytes, Labels}
use Rattle.lf_ast.specs.Types.{is_among}
use Rattle.lf_ast.specs.declared.expr.Name.{Name}
use Rattle.lf_semantics.specs.Evaluation.{bare}
use Rattle.lf_semantics.specs.Grouped.{is_metric, taken_from, without_name, without_name_if}
use Rattle.lf_semantics.specs.Texts.{value_of, with_label}
use Rattle.lf_semantics.proofs.Members.{true_same}
use Rattle.lf_ast.proofs.LabelOrders.{symmetric}
use Rattle.lf_semantics.proofs.Restricted.{value-restricted}

tied : (q name : Bytes) → eq_by_cmp (slice_cmp nat_cmp) q name ≡ bytes_eq name q
tied q name = is_eq-slice_cmp q name ∙ symmetric q name

pub value-with_label : (name text : Bytes) (s : Labels) (q : Bytes) → value_of (with_label name text s) q ≡ cond (bytes_eq name q) text (value_of s q)
value-with_label name text s q = by text (bytes_eq text []) refl
  where
    unwrapped : (b : Bool) (o p : Option Bytes) → unwrap_or (cond b o p) [] ≡ cond b (unwrap_or o []) (unwrap_or p [])
    unwrapped true o p = refl
    unwrapped false o p = refl

    by : (t : Bytes) (b : Bool) → bytes_eq t [] ≡ b → value_of (cond b (remove s name) (insert s name t)) q ≡ cond (bytes_eq name q) t (value_of s q)
    by t true e = ap (λ o. unwrap_or o []) (get-remove nat_list_cmp_total s name q) ∙ unwrapped (eq_by_cmp (slice_cmp nat_cmp) q name) None (get s q)
        ∙ ap (λ b. cond b [] (value_of s q)) (tied q name) ∙ ap (λ x. cond (bytes_eq name q) x (value_of s q)) (sym (true_same t [] e))
    by t false e = ap (λ o. unwrap_or o []) (get-insert nat_list_cmp_total s name t q) ∙ unwrapped (eq_by_cmp (slice_cmp nat_cmp) q name) (Some t) (get s q)
        ∙ ap (λ b. cond b t (value_of s q)) (tied q name)

pub value-bare : (q : Bytes) → value_of bare q ≡ []
value-bare q = ap (λ o. unwrap_or o []) (get-empty (slice_cmp nat_cmp) q)

turned : (b : Bool) (t : Bytes) → cond (not b) t [] ≡ cond b [] t
turned true t = refl
turned false t = refl

pub value-without_name : (s : Labels) (q : Bytes) → value_of (without_name s) q ≡ cond (is_metric q) [] (value_of s q)
value-without_name s q = value-restricted (λ label. not (is_metric label)) s q ∙ turned (is_metric q) (value_of s q)

pub value-without_name_if : (drops : Bool) (s : Labels) (q : Bytes) → value_of (without_name_if drops s) q ≡ cond (drops && is_metric q) [] (value_of s q)
value-without_name_if true s q = value-without_name s q
value-without_name_if false s q = refl

first_counts : (b c : Bool) (x y z : Bytes) → (b ≡ true → x ≡ y) → cond b x (cond c y z) ≡ cond (b || c) y z
first_counts true c x y z h = h refl
first_counts false c x y z h = refl

pub value-taken_from : (one : Labels) (names : List Name) (s : Labels) (q : Bytes) → value_of (taken_from one names s) q ≡ cond (is_among names q) (value_of one q) (value_of s q)
value-taken_from one [] s q = refl
value-taken_from one (n ∷ names) s q =
    value-with_label n.text (value_of one n.text) (taken_from one names s) q
    ∙ ap (λ t. cond (bytes_eq n.text q) (value_of one n.text) t) (value-taken_from one names s q)
    ∙ ap (λ b. cond b (value_of one n.text) (cond (is_among names q) (value_of one q) (value_of s q))) (symmetric n.text q)
    ∙ first_counts (bytes_eq q n.text) (is_among names q) _ _ _ (λ e. ap (value_of one) (sym (true_same q n.text e)))
