use Rattle.std.proofs.Common.{◌≡◌, ◌<◌, true, ℕ, List, [], ◌∷◌, cond, nat_lt, Bool, length, sym, ◌∙◌, ap, subst, arith}
use Rattle.std.proofs.lemmas.Bool.{lt-ltb}
use Rattle.std.proofs.lemmas.Result.{on_ok_weaker}
use Rattle.lf_ast.specs.Labels.{Bytes}
use Rattle.lf_graph.specs.views.Buckets.{put_at}
use Rattle.lf_semantics.specs.Listing.{place}
use Rattle.lf_forks.specs.views.Uses.{Puts}
use Rattle.lf_forks.proofs.Puts.{puts_one}
use Rattle.lf_forks.proofs.uses.put_named.Goals as goal

pub returns-then-node-len : goal.returns-then-node-len
returns-then-node-len c =
    let names : List Bytes = c.args.names.now in
    let node : ℕ = c.place-node.result in
    let uses : List (List ℕ) = c.args.uses.now in
    let later : List (List ℕ) = c.push.new.self in
    let at : node ≡ place names c.args.name.now = c.place-node.ensures.place ∙ ap (place names) c.as_str.ensures in
    let within : place names c.args.name.now < length names = omega (arith, at, c.if-node-len.true, c.len.ensures.count) in
    let P : ℕ → Type 0 = λ k. Puts true (k ∷ []) c.args.place uses later in
    let Q : Bool → Type 0 = λ b. Puts true (cond b (place names c.args.name.now ∷ []) []) c.args.place uses later in
    let put : later ≡ put_at uses node c.args.place → Q (nat_lt (place names c.args.name.now) (length names)) = λ is.
    subst Q (sym (lt-ltb (place names c.args.name.now) (length names) within)) (subst P at (puts_one node c.args.place uses later (omega (arith, at, within, c.requires)) is)) in
    on_ok_weaker c.push.result put c.push.ensures.ok
