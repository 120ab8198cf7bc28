use Rattle.std.proofs.Common.{Option, List, Some, sym, ◌∙◌, ap, subst}
use Rattle.std.specs.Prelude.{IfSome, codes}
use Rattle.std.specs.Str.{bytes_eq}
use Rattle.std.proofs.lemmas.Result.{IfOk-weaker}
use Rattle.lf_ast.specs.Labels.{Labels}
use Rattle.lf_semantics.specs.Evaluation.{IsQuantile}
use Rattle.lf_semantics.specs.Texts.{value_of}
use Rattle.lf_witness.specs.Ascending.{IsAscending}
use Rattle.lf_witness.specs.Strict.{MadeApart, StrictlyEvaluates, last_buckets}
use Rattle.lf_witness.specs.StrictRuns.{InOrder, IsStrictAnswer}
use Rattle.lf_strict.proofs.Answered.{from_some}
use Rattle.lf_strict.proofs.Filtered.{ascending_filter}
use Rattle.lf_strict.proofs.LastBuckets.{IsUnbucketed, quantile_apart}
use Rattle.lf_strict.proofs.operand.quantile.Goals as goal

pub made_apart-requires : goal.made_apart-requires
made_apart-requires c =
    let is = c.in_ok-last-in-Some.ensures ∙ ap last_buckets c.as_slice.ensures in
    subst IsAscending (sym is) (ascending_filter (λ s. bytes_eq (value_of s (codes "le")) (codes "+Inf")) c.in-Some.samples (let P : Option (List Labels) → Type 0 = λ o. IfSome o IsAscending in subst P c.in-Some.is c.requires))

pub returns-in_ok-last-in-Some : goal.returns-in_ok-last-in-Some
returns-in_ok-last-in-Some c = λ W e given.
    let P : List Labels = c.in-Some.samples in
    let is = c.in_ok-last-in-Some.ensures ∙ ap last_buckets c.as_slice.ensures in
    let some : InOrder (StrictlyEvaluates W e) (Some P) = subst (IsStrictAnswer W e) c.in-Some.is given in
    IfOk-weaker c.made_apart.result _ _
    (λ o made. from_some (StrictlyEvaluates W e) (λ P. MadeApart IsQuantile (last_buckets P)) P some o (quantile_apart P o (subst (λ (l : List Labels). InOrder (MadeApart IsUnbucketed l) o) is made)))
    c.made_apart.ensures
