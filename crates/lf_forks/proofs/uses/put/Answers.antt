use Rattle.std.proofs.Common.{◌≡◌, true, ℕ, List, [], ◌∷◌, Option, sym, subst, arith}
use Rattle.std.proofs.lemmas.Result.{on_ok_weaker}
use Rattle.lf_ast.specs.Labels.{Bytes}
use Rattle.lf_deps.specs.views.Links.{source_of}
use Rattle.lf_graph.specs.views.Buckets.{put_at}
use Rattle.lf_forks.specs.views.Uses.{Puts}
use Rattle.lf_forks.proofs.Puts.{puts_one}
use Rattle.lf_forks.proofs.uses.put.Goals as goal

pub returns-in-None : goal.returns-in-None
returns-in-None c =
    let names : List Bytes = c.args.names.now in
    let uses : List (List ℕ) = c.args.uses.now in
    let later : List (List ℕ) = c.push.new.self in
    let P : ℕ → Type 0 = λ k. Puts true (k ∷ []) c.args.place uses later in
    let Q : Option Bytes → Type 0 = λ o. Puts true (source_of names o) c.args.place uses later in
    let put : later ≡ put_at uses c.len.result c.args.place → Q c.args.selector.now = λ is.
    subst Q (sym c.in-None.is) (subst P c.len.ensures.count (puts_one c.len.result c.args.place uses later (omega (arith, c.len.ensures.count, c.requires)) is)) in
    on_ok_weaker c.push.result put c.push.ensures.ok
