use Rattle.std.proofs.Common.{◌≡◌, ◌+◌, ◌-◌, drop, get_or, sym, ◌∙◌, ap, subst, arith}
use Rattle.std.proofs.lemmas.List.Elements.{Contains-get_or}
use Rattle.lf_laws.proofs.Members.{each_member}
use Rattle.lf_semantics.specs.ClassRows.{HasShape, Sets, join}
use Rattle.lf_flow.specs.Raising.{joined_each}
use Rattle.lf_flow.proofs.Selected.{joined_all, joined_more, joined_none, shape_joined}
use Rattle.lf_flow.proofs.selecting.join_each.Goals as goal

pub loop-left-init : goal.loop-left-init
loop-left-init c = record { within = omega arith; row = sym (joined_none c.args.rows.now c.args.row.now) }

pub join-requires : goal.join-requires
join-requires c =
    let u = c.args.universe.now in
    let rows = c.args.rows.now in
    let left = c.loop-left.left in
    let P : Sets → Type 0 = λ row. HasShape u row in
    subst P (sym c.loop-left.invariant.row) (shape_joined u rows left c.args.row.now c.requires.row c.requires.each)
    ∙ sym (subst P (sym c.index-rows-left.is) (each_member (HasShape u) rows (get_or rows (left - 1) c.index-rows-left.result) c.requires.each (Contains-get_or rows (left - 1) c.index-rows-left.result (omega (arith, c.loop-left.invariant.within, c.loop-left-test.true)))))

pub loop-left-preserved : goal.loop-left-preserved
loop-left-preserved c =
    let rows = c.args.rows.now in
    let left = c.loop-left.left in
    let first = c.args.row.now in
    let row = c.index-rows-left.result in
    let e : left ≡ (left - 1) + 1 = omega (arith, c.loop-left-test.true) in
    record {
      within = omega (arith, c.loop-left.invariant.within);
      row =
          c.join.ensures
          ∙ ap (λ x. join x row) c.loop-left.invariant.row
          ∙ ap (λ m. join (joined_each (drop m rows) first) row) e
          ∙ ap (join (joined_each (drop ((left - 1) + 1) rows) first)) c.index-rows-left.is
          ∙ sym (joined_more rows (left - 1) row first (omega (arith, c.loop-left.invariant.within, c.loop-left-test.true)));
    }

pub returns : goal.returns
returns c =
    let rows = c.args.rows.now in
    let first = c.args.row.now in
    let e : c.loop-left.left ≡ 0 = omega (arith, c.loop-left-test.false) in
    c.loop-left.invariant.row ∙ ap (λ m. joined_each (drop m rows) first) e ∙ joined_all rows first
