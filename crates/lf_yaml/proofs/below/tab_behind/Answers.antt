use Rattle.std.proofs.Common.{◌≡◌, ◌+◌, ◌∙◌, ℕ, suc, ap, arith, sym, drop}
use Rattle.lf_base.specs.declared.kind.Kind.TheVariants.{NotANode}
use Rattle.lf_scalar.specs.Cells.{cell, byte_fault as fault_of}
use Rattle.lf_scalar.specs.views.Built.{refused}
use Rattle.lf_yaml.proofs.TabCode.{tab-found, tab-missing}
use Rattle.lf_yaml.proofs.below.tab_behind.Goals as goal

pub returns-then-is_tab : goal.returns-then-is_tab
returns-then-is_tab c =
    let at : c.args.row.at + 1 + c.spaces-skipped.result ≡ suc c.args.row.at + c.spaces-skipped.result = omega arith in
    let found =
    tab-found (suc c.args.row.at) c.spaces-skipped.result c.past-rest.result.now (drop 1 c.args.row.text.now) c.past-rest.ensures (c.spaces-skipped.ensures.after (suc c.args.row.at)) (sym c.is_tab.ensures ∙ c.if-is_tab.true) in
    (cell 9 (suc c.args.row.at + c.spaces-skipped.result), found, c.byte_fault.ensures ∙ ap (λ (n : ℕ). refused (fault_of NotANode n)) at)

pub returns-else-is_tab : goal.returns-else-is_tab
returns-else-is_tab c =
    tab-missing (suc c.args.row.at) c.spaces-skipped.result c.past-rest.result.now (drop 1 c.args.row.text.now) c.past-rest.ensures (c.spaces-skipped.ensures.after (suc c.args.row.at)) (sym c.is_tab.ensures ∙ c.if-is_tab.false)
