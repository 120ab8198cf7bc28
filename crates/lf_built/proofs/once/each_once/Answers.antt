use Rattle.std.proofs.Common.{◌≡◌, ◌<◌, ◌+◌, ℕ, suc, Bool, true, false, not, ◌||◌, cond, List, [], ◌∷◌, ◌++◌, length, take, refl, sym, ◌∙◌, ap, subst, arith}
use Rattle.std.specs.BTreeSet.{contains}
use Rattle.std.specs.Ordering.{is_eq}
use Rattle.std.proofs.Math.Seq.{take-suc}
use Rattle.lf_ast.specs.LabelOrder.{labels_cmp}
use Rattle.lf_ast.specs.Labels.{Labels}
use Rattle.lf_trials.specs.Building.{each_once}
use Rattle.lf_built.proofs.EachOnce.{either_way, is_in, one_more_in, one_more_once, when_new}
use Rattle.lf_built.proofs.once.each_once.Goals as goal

or_is : (b x : Bool) → cond b true x ≡ (b || x)
or_is true x = refl
or_is false x = refl

pub loop-series-preserved : goal.loop-series-preserved
loop-series-preserved c =
    let items : List Labels = c.deref-series-items.result.now in
    let i : ℕ = c.loop-series.series-index in
    let s : Labels = c.series-item.result in
    let less : i < length items = omega (arith, c.loop-series-test.true) in
    let up : i + 1 ≡ suc i = omega arith in
    let next : take (i + 1) items ≡ take i items ++ s ∷ [] = ap (λ n. take n items) up ∙ take-suc items i s less ∙ ap (λ (t : Labels). take i items ++ t ∷ []) (sym c.series-item.is) in
    let had : contains labels_cmp c.loop-series.seen s ≡ is_in (take i items) s = c.loop-series.invariant.seen s in
    let added : c.in_ok-added.added ≡ not (is_in (take i items) s) = c.in_ok-added.ensures.added ∙ ap (λ (t : Labels). not (contains labels_cmp c.loop-series.seen t)) c.in_ok-copy.ensures ∙ ap not had in
    record {
      once = c.in_ok-push_if.ensures
          ∙ ap (λ (l : List Labels). l ++ cond c.in_ok-added.added (s ∷ []) []) c.loop-series.invariant.once
          ∙ ap (λ b. each_once (take i items) ++ cond b (s ∷ []) []) added
          ∙ ap (λ (l : List Labels). each_once (take i items) ++ l) (when_new (is_in (take i items) s) s)
          ∙ sym (one_more_once (take i items) s)
          ∙ ap each_once (sym next);
      seen = λ t.
          c.in_ok-added.ensures.updates.0 t
          ∙ ap (λ (k : Labels). cond (is_eq (labels_cmp k t)) true (contains labels_cmp c.loop-series.seen t)) c.in_ok-copy.ensures
          ∙ or_is (is_eq (labels_cmp s t)) (contains labels_cmp c.loop-series.seen t)
          ∙ ap (λ b. b || contains labels_cmp c.loop-series.seen t) (either_way s t)
          ∙ ap (λ b. is_eq (labels_cmp t s) || b) (c.loop-series.invariant.seen t)
          ∙ sym (one_more_in (take i items) s t)
          ∙ ap (λ (l : List Labels). is_in l t) (sym next);
    }

pub returns-then-stand_once : goal.returns-then-stand_once
returns-then-stand_once c = c.from_vec.ensures ∙ subst (λ (l : List Labels). l ≡ each_once l) c.as_slice.ensures.value (c.stand_once.ensures c.if-stand_once.true)
