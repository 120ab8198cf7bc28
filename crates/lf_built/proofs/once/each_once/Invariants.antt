use Rattle.std.proofs.Common.{◌≡◌, take}
use Rattle.std.specs.BTreeSet.{contains}
use Rattle.lf_ast.specs.LabelOrder.{labels_cmp}
use Rattle.lf_ast.specs.Labels.{Labels}
use Rattle.lf_trials.specs.Building.{each_once}
use Rattle.lf_built.proofs.EachOnce.{is_in}
use Rattle.lf_built.proofs.once.each_once.Given as goal

abbrev pub invariant-loop-series : goal.invariant-loop-series
invariant-loop-series l = record {
  once : l.once ≡ each_once (take l.series-index l.series-items);
  seen : (s : Labels) → contains labels_cmp l.seen s ≡ is_in (take l.series-index l.series-items) s;
}
