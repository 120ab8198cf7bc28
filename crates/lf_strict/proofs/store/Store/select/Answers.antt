use Rattle.std.proofs.Common.{List}
use Rattle.std.proofs.lemmas.Result.{IfOk-weaker}
use Rattle.lf_ast.specs.Labels.{Labels}
use Rattle.lf_strict.proofs.StoredSamples.{selected_of}
use Rattle.lf_strict.proofs.store.Store.select.Goals as goal

pub select-requires : goal.select-requires
select-requires c = c.in_ok-all-in-None.ensures.ascends

pub returns-in_ok-all-in-None : goal.returns-in_ok-all-in-None
returns-in_ok-all-in-None c =
    let W : List Labels = c.args.self.now in
    let V : List Labels = c.in_ok-all-in-None.all in
    let name = c.args.name.now in
    let ms = c.args.matchers.now in
    IfOk-weaker c.select.result _ _
    (λ R is. (selected_of W V name ms R c.in_ok-all-in-None.ensures.same.1 (λ s d named each. c.in_ok-all-in-None.ensures.same.0 s d) is.0, is.1))
    c.select.ensures
