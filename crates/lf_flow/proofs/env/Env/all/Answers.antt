use Rattle.std.proofs.Common.{List, IfSome, map, sym, ◌∙◌, ap, subst, arith}
use Rattle.lf_ast.specs.Labels.{Bytes}
use Rattle.lf_semantics.specs.ClassRows.{Sets}
use Rattle.lf_flow.specs.Raising.{IsJoinOf}
use Rattle.lf_flow.proofs.Entries.{each_row}
use Rattle.lf_flow.proofs.ReadNumbers.{kept_count}
use Rattle.lf_flow.proofs.env.Env.all.Goals as goal

pub returns-in-Some : goal.returns-in-Some
returns-in-Some c =
    let names = c.self.inside.names in
    let rows = c.self.inside.rows.items in
    let all = c.in-Some.all in
    let are = sym (each_row names rows c.self.invariant.count) ∙ ap (map (λ (entry : Bytes × Sets). entry.1)) c.self.view_is in (
      subst (λ (xs : List Sets). IsJoinOf xs all) are (subst (λ o. IfSome o (IsJoinOf rows)) c.in-Some.is c.self.invariant.joined),
      omega (arith, c.if-len-eq0.false, c.len.ensures, c.self.invariant.count, c.self.inside.rows.ok.0, kept_count names rows c.args.self.now c.self.view_is c.self.invariant.count),
    )
