use Rattle.std.proofs.Common.{◌≡◌, ◌∙◌, Bool, true, false, None, Option, cond, refl, sym}
use Rattle.lf_yaml.specs.Rows.{ContentRow, is_left_out}
use Rattle.lf_yaml.specs.reading.Trees.{EntryHead, quotes_of, entry_by, entry_of}
use Rattle.lf_yaml.specs.views.Shown.{shown}
use Rattle.lf_yaml.proofs.HeadLaws.{kept}
use Rattle.lf_yaml.proofs.entry.find_entry.Goals as goal

either-none : (b : Bool) (o : Option EntryHead) → None ≡ o → None ≡ cond b None o
either-none true o e = refl
either-none false o e = e

-- a row without a key begins no entry, whether it is left out or not
none-of : (r : ContentRow) → None ≡ entry_by r (quotes_of r.first) → None ≡ entry_of r
unfolding entry_of
none-of r e = either-none (is_left_out r) (entry_by r (quotes_of r.first)) e

pub returns-else-is_left_out-clause-head : goal.returns-else-is_left_out-clause-head
returns-else-is_left_out-clause-head c = c.in-Some.ensures.head ∙ sym (kept (shown c.args.row) (sym c.is_left_out.ensures ∙ c.if-is_left_out.false))

pub returns-in-None-clause-head : goal.returns-in-None-clause-head
returns-in-None-clause-head c = none-of (shown c.args.row) c.in-None.ensures.head
