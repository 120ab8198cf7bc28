use Rattle.lf_open.specs.views.ReadNames.{said_name}
use Rattle.lf_deps.proofs.Followed.{grows_more, grows_none, grows_whole}
use Rattle.lf_open.proofs.read_graph.add_selected.Goals as goal

pub loop-selector-init : goal.loop-selector-init
loop-selector-init c = grows_none c.args.names.now

pub loop-selector-preserved : goal.loop-selector-preserved
loop-selector-preserved c =
    grows_more said_name c.args.selected.now c.loop-selector.selector-index c.selector-item.result c.selector-item.result c.args.names.now c.loop-selector.names c.add_name.new.names c.loop-selector-test.true c.selector-item.is c.loop-selector.invariant c.in_ok-add_name.ensures

pub returns : goal.returns
returns c = grows_whole said_name c.args.selected.now c.loop-selector.selector-index c.args.names.now c.loop-selector.names c.loop-selector-test.false c.loop-selector.invariant
