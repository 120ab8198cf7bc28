use Rattle.std.proofs.Common.{◌∙◌}
use Rattle.std.specs.Str.{bytes_eq}
use Rattle.std.proofs.lemmas.Cmp.{nat_list_eq_equiv}
use Rattle.std.proofs.lemmas.Map.Text.{is_eq-slice_cmp}
use Rattle.lf_laws.proofs.Booleans.{or_from_cond}
use Rattle.lf_base.specs.views.NameSets.{has}
use Rattle.lf_base.proofs.name_set.NameSet.add.Goals as goal

pub returns-clause-members : goal.returns-clause-members
returns-clause-members c = λ other.
    c.in_ok-new.ensures.updates.0 (record { ref_ptr = (0, 0); now = other })
    ∙ rw (is_eq-slice_cmp c.args.name.now other, nat_list_eq_equiv.symm c.args.name.now other) (or_from_cond (bytes_eq other c.args.name.now) (has c.args.self.now other))
