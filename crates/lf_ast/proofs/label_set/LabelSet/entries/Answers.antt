use Rattle.std.proofs.Common.{sym, ◌∙◌, ap, subst}
use Rattle.std.specs.FinMap.{entries}
use Rattle.lf_ast.specs.Labels.{HasNoEmptyText}
use Rattle.lf_ast.proofs.LabelSets.{entries_are}
use Rattle.lf_ast.proofs.label_set.LabelSet.entries.Goals as goal

pub returns : goal.returns
returns c = record {
  value = c.as_slice.ensures.value ∙ sym (entries_are c.self.inside.entries.items c.self.invariant.0) ∙ ap entries c.self.view_is;
  texts = subst HasNoEmptyText (sym (entries_are c.self.inside.entries.items c.self.invariant.0) ∙ ap entries c.self.view_is) c.self.invariant.1;
}
