-- The list with a file put into it is the map with its bytes put under its name.
use Rattle.std.proofs.Common.{List, ℕ, None, Some, ◌∙◌, ap}
use Rattle.std.specs.FinMap as map
use Rattle.std.specs.Ordering.{nat_cmp}
use Rattle.std.specs.Cmp.Lexicographic.{slice_cmp}
use Rattle.lf_base.specs.views.FileList.{IsPlaceOf}
use Rattle.lf_base.proofs.FileList.{from_entries-set, from_entries-push}
use Rattle.lf_base.proofs.mem_files.put_file.Goals as goal

pub returns-in-Some-clause-ok : goal.returns-in-Some-clause-ok
returns-in-Some-clause-ok c =
    let place : IsPlaceOf c.args.files.now.items c.args.file.0 (Some c.in-Some.k) = rw (← c.as_slice.ensures.value, ← c.as_str.ensures) c.in-Some.ensures.place in
    from_entries-set c.args.files.now.items c.in-Some.k c.args.file.0 c.args.file.1 place

pub returns-in_ok-push-in-None-clause-ok : goal.returns-in_ok-push-in-None-clause-ok
returns-in_ok-push-in-None-clause-ok c =
    let place : IsPlaceOf c.args.files.now.items c.args.file.0 None = rw (← c.as_slice.ensures.value, ← c.as_str.ensures) c.in-None.ensures.place in
    ap (λ (es : List (List ℕ × List ℕ)). map.from_entries {R = slice_cmp nat_cmp} es) c.in_ok-push-in-None.ensures.items ∙ from_entries-push c.args.files.now.items c.args.file.0 c.args.file.1 place
