use Rattle.std.proofs.Common.{◌≡◌, ◌+◌, ◌∙◌, ℕ, List, ap, arith, drop}
use Rattle.lf_scalar.specs.Cells.{cells}
use Rattle.lf_yaml.specs.Rows.{left_of}
use Rattle.lf_yaml.proofs.FileRows.{left-of-file}
use Rattle.lf_yaml.proofs.below.left_behind.Goals as goal

pub returns-clause-row : goal.returns-clause-row
returns-clause-row c =
    let z : c.args.row.at + c.args.sign + 1 ≡ c.args.row.at + (c.args.sign + 1) = omega arith in
    let e =
    c.left.ensures ∙ ap (λ (xs : List ℕ). left_of c.args.row.begin (cells (c.args.row.at + c.args.sign + 1) xs)) c.past.ensures ∙ ap (λ (n : ℕ). left_of c.args.row.begin (cells n (drop (c.args.sign + 1) c.args.row.text.now))) z in
    λ bytes utf8 h ascii. left-of-file bytes c.args.row c.args.sign c.left.result utf8 h c.args.row.full c.requires.within ascii e
