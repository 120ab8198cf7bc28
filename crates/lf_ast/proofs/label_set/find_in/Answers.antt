use Rattle.std.proofs.Common.{◌≡◌, ◌<◌, ℕ, suc, ◌+◌, Bool, true, false, cond, List, ◌∷◌, drop, get_or, length, Some, sym, ◌∙◌, ap, drop-cons, add-one}
use Rattle.std.specs.Ordering.{nat_cmp, eq_by_cmp}
use Rattle.std.specs.Cmp.Lexicographic.{slice_cmp}
use Rattle.std.specs.FinMap.{find}
use Rattle.std.specs.Str.{bytes_eq}
use Rattle.std.proofs.lemmas.Map.Text.{is_eq-slice_cmp}
use Rattle.lf_ast.specs.Labels.{Bytes}
use Rattle.lf_ast.proofs.LabelOrders.{symmetric}
use Rattle.lf_ast.proofs.label_set.find_in.Goals as goal

tied : (q x : Bytes) (b : Bool) → bytes_eq x q ≡ b → eq_by_cmp (slice_cmp nat_cmp) q x ≡ b
tied q x b e = is_eq-slice_cmp q x ∙ symmetric q x ∙ e

-- the rest from an entry on
from : (es : List (Bytes × Bytes)) (k : ℕ) (e : Bytes × Bytes) → k < length es → e ≡ get_or es k e → drop k es ≡ e ∷ drop (k + 1) es
from es k e h is = rw add-one (drop-cons es k e h ∙ ap (λ x. x ∷ drop (suc k) es) (sym is))

found : (es : List (Bytes × Bytes)) (k : ℕ) (e : Bytes × Bytes) (q : Bytes) → k < length es → e ≡ get_or es k e → bytes_eq e.0 q ≡ true → find (slice_cmp nat_cmp) q (drop k es) ≡ Some e.1
found es k e q h is t = ap (find (slice_cmp nat_cmp) q) (from es k e h is) ∙ ap (λ b. cond b (Some e.1) (find (slice_cmp nat_cmp) q (drop (k + 1) es))) (tied q e.0 true t)

passed : (es : List (Bytes × Bytes)) (k : ℕ) (e : Bytes × Bytes) (q : Bytes) → k < length es → e ≡ get_or es k e → bytes_eq e.0 q ≡ false
    → find (slice_cmp nat_cmp) q (drop k es) ≡ find (slice_cmp nat_cmp) q (drop (k + 1) es)
passed es k e q h is t = ap (find (slice_cmp nat_cmp) q) (from es k e h is) ∙ ap (λ b. cond b (Some e.1) (find (slice_cmp nat_cmp) q (drop (k + 1) es))) (tied q e.0 false t)

pub returns-then-eq : goal.returns-then-eq
returns-then-eq c =
    let e = c.index-entries-k in
    let q = c.args.name.now in
    sym (c.loop-k.invariant ∙ found c.args.entries.now c.loop-k.k e.result q c.loop-k-test.true e.is (ap (λ x. bytes_eq x q) (sym c.as_str.ensures) ∙ sym c.eq.ensures ∙ c.if-eq.true))

pub loop-k-preserved : goal.loop-k-preserved
loop-k-preserved c =
    let e = c.index-entries-k in
    let q = c.args.name.now in
    c.loop-k.invariant ∙ passed c.args.entries.now c.loop-k.k e.result q c.loop-k-test.true e.is (ap (λ x. bytes_eq x q) (sym c.as_str.ensures) ∙ sym c.eq.ensures ∙ c.if-eq.false)
