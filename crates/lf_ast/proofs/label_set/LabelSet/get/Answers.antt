use Rattle.std.proofs.Common.{◌≡◌, sym, ◌∙◌, ap}
use Rattle.std.specs.Option.{option_copied}
use Rattle.std.specs.Ordering.{nat_cmp}
use Rattle.std.specs.Cmp.Lexicographic.{slice_cmp}
use Rattle.std.specs.FinMap.{find, get}
use Rattle.lf_ast.proofs.LabelSets.{found_there, shown_is_not_empty}
use Rattle.lf_ast.proofs.label_set.LabelSet.get.Goals as goal

pub returns : goal.returns
returns c =
    let found : option_copied c.find_in.result ≡ find (slice_cmp nat_cmp) c.args.name.now c.self.inside.entries.items =
    c.find_in.ensures ∙ ap (find (slice_cmp nat_cmp) c.args.name.now) c.as_slice.ensures.value in
    record {
      value = found ∙ sym (found_there c.args.name.now c.self.inside.entries.items c.self.invariant.0) ∙ ap (λ m. get m c.args.name.now) c.self.view_is;
      some = shown_is_not_empty c.args.name.now c.self.inside.entries.items c.self.invariant.1 c.find_in.result found;
    }
