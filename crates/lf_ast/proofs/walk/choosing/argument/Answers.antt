use Rattle.std.proofs.Common.{◌≡◌, ◌<◌, ◌+◌, ℕ, List, ◌∷◌, add-one, ap, arith, drop, get_or, length, map, suc, sym, ◌∙◌}
use Rattle.std.proofs.Math.Seq.{drop-cons}
use Rattle.std.proofs.lemmas.List.{drop-map}
use Rattle.lf_ast.specs.Tree.{tree}
use Rattle.lf_ast.specs.declared.expr.Expr.{Expr}
use Rattle.lf_ast.proofs.walk.choosing.argument.Goals as goal

part_there : (args : List Expr) (place : ℕ) (e : Expr) → place < length args → e ≡ get_or args place e → drop place (map tree args) ≡ tree e ∷ drop (place + 1) (map tree args)
part_there args place e within is =
    drop-map tree place args ∙ ap (map tree) (drop-cons args place e within) ∙ ap (λ x. tree x ∷ map tree (drop (suc place) args)) (sym is)
    ∙ ap (λ k. tree e ∷ map tree (drop k args)) (sym (add-one place)) ∙ ap (λ xs. tree e ∷ xs) (sym (drop-map tree (place + 1) args))

pub returns-then-place-args : goal.returns-then-place-args
returns-then-place-args c = (part_there c.args.args.now c.args.place c.index-args-place.result c.if-place-args.true c.index-args-place.is, omega arith)
