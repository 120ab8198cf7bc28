-- What stands behind the text of a plain scalar of a flow collection on its line.
use Rattle.std.proofs.Common.{◌≡◌, ℕ, ◌+◌, ◌≤◌, List, length, take, drop, length-take, ap, arith, ◌∙◌}
use Rattle.lf_scalar.specs.Cells.{Cell, cells}
use Rattle.lf_scalar.proofs.Cells.{cells-length}
use Rattle.lf_scalar.proofs.Reaching.{drop-cells}
use Rattle.lf_yaml.specs.Flow.{flow_text, behind_text}

-- what stands behind a text
pub behind-is : (at len : ℕ) (text : List ℕ) → len ≤ length text → flow_text (cells at text) ≡ cells at (take len text) → behind_text (cells at text) ≡ cells (at + len) (drop len text)
behind-is at len text le e =
    let n : length (cells at (take len text)) ≡ len = omega (arith, cells-length at (take len text), length-take len text) in
    ap (λ (cs : List Cell). drop (length cs) (cells at text)) e ∙ ap (λ (m : ℕ). drop m (cells at text)) n ∙ drop-cells len at text
