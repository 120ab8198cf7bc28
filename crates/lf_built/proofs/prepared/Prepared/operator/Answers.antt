use Rattle.std.proofs.Common.{List, sym, subst}
use Rattle.std.specs.Prelude.{IfOk, slice_get}
use Rattle.lf_ast.specs.Tree.{Tree}
use Rattle.lf_ast.specs.declared.expr.Op.{Op}
use Rattle.lf_built.specs.views.Indexed.{env_of, universe_of}
use Rattle.lf_built.specs.views.Spots.{tree_at}
use Rattle.lf_built.specs.views.Tasks.{one_wanted, operator_wanted}
use Rattle.lf_built.specs.views.Works.{AreParts}
use Rattle.lf_built.proofs.prepared.Prepared.operator.Goals as goal

pub returns-in-Or : goal.returns-in-Or
returns-in-Or c m D own stands = subst (λ (o : Op). IfOk c.either.result (AreParts c.args.self.now (tree_at c.args.spot.now) (operator_wanted (universe_of c.args.self.now) (env_of c.args.self.now) o m (tree_at c.args.left) (tree_at c.args.right) D))) (sym c.in-Or.is) (c.either.ensures (tree_at c.args.right) D c.requires.sides stands)

pub returns-in-Unless : goal.returns-in-Unless
returns-in-Unless c m D own stands =
    subst (λ (o : Op). AreParts c.args.self.now (tree_at c.args.spot.now) (operator_wanted (universe_of c.args.self.now) (env_of c.args.self.now) o m (tree_at c.args.left) (tree_at c.args.right) D) c.one.result) (sym c.in-Unless.is) (subst (λ (ps : List Tree). AreParts c.args.self.now (tree_at c.args.spot.now) (one_wanted D (slice_get ps 0)) c.one.result) c.requires.sides (c.one.ensures D stands))
