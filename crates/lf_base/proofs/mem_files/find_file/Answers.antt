-- What is held under the name, by the place of its file.
use Rattle.std.proofs.Common.{◌≡◌, sym, ◌∙◌, None, arith}
use Rattle.std.proofs.lemmas.Grind.{common_steps}
use Rattle.std.proofs.lemmas.Slice.Eq.{bytes_eq-Decides}
use Rattle.lf_base.specs.views.FileList.{name_at, IsPlaceOf}
use Rattle.lf_base.proofs.FileList.{get-at, get-absent}
use Rattle.lf_base.proofs.mem_files.find_file.Goals as goal

pub returns-then-eq-clause-held : goal.returns-then-eq-clause-held
returns-then-eq-clause-held c =
    let same : c.as_str.result.now ≡ c.args.name.now = (bytes_eq-Decides c.as_str.result.now c.args.name.now).0 (sym c.eq.ensures ∙ c.if-eq.true) in
    let name : name_at c.args.files.now c.loop-k.k ≡ c.args.name.now = grind (arith, common_steps) in
    get-at c.args.files.now c.loop-k.k c.args.name.now (c.loop-k-test.true, name, c.loop-k.invariant)

pub returns-clause-held : goal.returns-clause-held
returns-clause-held c =
    let place : IsPlaceOf c.args.files.now c.args.name.now None = grind (arith, common_steps) in
    get-absent c.args.files.now c.args.name.now place
