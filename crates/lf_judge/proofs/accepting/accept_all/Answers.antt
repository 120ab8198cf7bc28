use Rattle.std.proofs.Common.{map, subst}
use Rattle.std.specs.List.{sum_by}
use Rattle.std.specs.Prelude.{◌≤◌, List}
use Rattle.std.proofs.lemmas.Result.{IfOk-weaker}
use Rattle.lf_judge.specs.Allowance.{most_in_all}
use Rattle.lf_judge.specs.Judged.{files_of}
use Rattle.lf_judge.specs.declared.accepting.Counted.{Counted}
use Rattle.lf_judge.specs.views.Accepting.{content_in, taken_in}
use Rattle.lf_judge.proofs.Found.{all_allowed}
use Rattle.lf_judge.proofs.accepting.accept_all.Goals as goal

pub returns-clause-found : goal.returns-clause-found
returns-clause-found g c = IfOk-weaker c.put_together.result _ _ (λ accepted is. (map content_in c.in_ok-found.found, c.in_ok-found.ensures.found, is)) c.put_together.ensures

pub returns-clause-allowed : goal.returns-clause-allowed
returns-clause-allowed g c =
    let P : List Counted → Type 0 = λ found. sum_by taken_in found ≤ most_in_all in
    IfOk-weaker c.put_together.result _ _
    (λ accepted is. all_allowed (files_of c.args.files.now) c.in_ok-found.found c.in_ok-found.ensures.taken (subst P c.as_slice.ensures c.in_ok-allow.ensures.allowed))
    c.put_together.ensures
