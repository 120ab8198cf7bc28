use Rattle.std.proofs.Common.{[], sym, subst}
use Rattle.lf_deps.specs.views.Search.{Grows}
use Rattle.lf_deps.proofs.Followed.{grows_more, grows_whole}
use Rattle.lf_open.specs.views.ReadNames.{said_name}
use Rattle.lf_open.proofs.ReadTables.{grows_said, table_of}
use Rattle.lf_open.proofs.read_table.ReadTable.of.Goals as goal

pub loop-selector-preserved : goal.loop-selector-preserved
loop-selector-preserved c = (
  c.in_ok-add.ensures.count,
  grows_more said_name c.args.selectors.now c.loop-selector.selector-index c.selector-item.result c.selector-item.result [] c.loop-selector.table.names c.add.new.self.names c.loop-selector-test.true c.selector-item.is c.loop-selector.invariant.1
      (subst (Grows (said_name c.selector-item.result) c.loop-selector.table.names) (sym c.in_ok-add.ensures.names) (grows_said c.loop-selector.table.names c.selector-item.result)),
  λ rules is. c.in_ok-add.ensures.read rules is (c.loop-selector.invariant.2 rules is),
)

pub returns : goal.returns
returns c = λ rules is.
    table_of rules c.args.graph.now.names c.args.selectors.now c.loop-selector.table (c.loop-selector.invariant.2 rules is)
    (grows_whole said_name c.args.selectors.now c.loop-selector.selector-index [] c.loop-selector.table.names c.loop-selector-test.false c.loop-selector.invariant.1)
