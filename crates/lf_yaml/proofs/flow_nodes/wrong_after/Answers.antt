use Rattle.std.proofs.Common.{◌≡◌, ◌+◌, suc, false, List, ℕ, get_or, ap, sym, arith, ◌∙◌}
use Rattle.lf_scalar.specs.Cells.{cell, cells}
use Rattle.lf_scalar.specs.reading.Quoted.{wrong_behind}
use Rattle.lf_yaml.proofs.flow_nodes.wrong_after.Goals as goal

pub returns-in-Some : goal.returns-in-Some
returns-in-Some c =
    let z : suc c.args.closing.at ≡ c.args.closing.at + 1 = omega arith in (
      cell (get_or c.past-rest.result.now c.in-Some.place 0) (c.args.closing.at + 1 + c.in-Some.place),
      ap (λ (xs : List ℕ). wrong_behind false (cells (suc c.args.closing.at) xs)) (sym c.past-rest.ensures) ∙ ap (λ (n : ℕ). wrong_behind false (cells n c.past-rest.result.now)) z
          ∙ sym (c.in-Some.ensures.value (c.args.closing.at + 1)),
      c.fault_at.ensures,
    )
