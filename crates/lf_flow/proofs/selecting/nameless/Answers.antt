use Rattle.std.proofs.Common.{◌<◌, IfSome, List, length, map, sym, ◌∙◌, ap, subst}
use Rattle.std.specs.List.{AllByRecursion}
use Rattle.lf_ast.specs.Labels.{Bytes}
use Rattle.lf_semantics.specs.ClassRows.{HasShape, Sets}
use Rattle.lf_semantics.specs.RowTable.{with_recorded}
use Rattle.lf_semantics.proofs.SelectorsRepresent.{shape_scraped}
use Rattle.lf_flow.specs.Raising.{IsJoinOf, joined_each}
use Rattle.lf_flow.proofs.Selected.{each_joined, each_shape, scraped_is}
use Rattle.lf_flow.proofs.Joins.{all_joins}
use Rattle.lf_flow.proofs.selecting.nameless.Goals as goal
use Rattle.lf_flow.proofs.selecting.nameless.Goals.{in-Some, in-None}

pub join_each-requires-clause-row : goal.join_each-requires-clause-row
join_each-requires-clause-row c =
    let u = c.args.universe.now in
    let P : Sets → Type 0 = λ row. HasShape u row in
    subst P (sym c.in_ok-row.ensures) (shape_scraped u c.requires.listing c.args.env.now c.requires.env)

pub join_each-requires-clause-each : goal.join_each-requires-clause-each
join_each-requires-clause-each c =
    let u = c.args.universe.now in
    let P : List Sets → Type 0 = λ rows. AllByRecursion (HasShape u) rows in
    subst P (sym c.rows.ensures) (each_shape u c.args.env.now c.requires.env.rows)

pub join-requires : goal.join-requires
join-requires c =
    let u = c.args.universe.now in
    let env = c.args.env.now in
    let row = c.in_ok-row.row in
    let is = scraped_is u c.requires.listing env c.requires.env row c.in_ok-row.ensures in
    let kept = subst (λ o. IfSome o (λ all. IsJoinOf (map (λ (entry : Bytes × Sets). entry.1) env) all.now × (0 < length env))) c.in-Some.is c.all.ensures in
    is.0 ∙ sym (all_joins u env c.in-Some.all.now row c.requires.env is kept).0

pub returns : goal.returns
returns c =
    let u = c.args.universe.now in
    let env = c.args.env.now in
    let row = c.in_ok-row.row in
    let last = each_joined u env row ∙ ap (with_recorded u env) c.in_ok-row.ensures in
    elim c.match-all.branch [
      | in-Some w ↦
          w.row-is ∙ w.join.ensures
          ∙ (all_joins u env w.in-Some.all.now row c.requires.env (scraped_is u c.requires.listing env c.requires.env row c.in_ok-row.ensures)
          (subst (λ o. IfSome o (λ all. IsJoinOf (map (λ (entry : Bytes × Sets). entry.1) env) all.now × (0 < length env))) w.in-Some.is c.all.ensures)).1
          ∙ last
      | in-None w ↦ w.row-is ∙ w.join_each.ensures ∙ ap (λ rows. joined_each rows row) w.rows.ensures ∙ last
    ]
