-- The texts that stand for no value, by their bytes.
use Rattle.std.proofs.Common.{◌≡◌, ℕ, List, ap}
use Rattle.std.specs.Prelude.{bytes_eq}
use Rattle.std.specs.List.{list_any}
use Rattle.lf_scalar.specs.Cells.{cells}
use Rattle.lf_scalar.specs.Plain.{is_null, nulls}
use Rattle.lf_scalar.proofs.Cells.{cells-bytes}

pub null_by : (at : ℕ) (text : List ℕ) → is_null (cells at text) ≡ list_any (bytes_eq text) nulls
null_by at text = ap (λ (xs : List ℕ). list_any (bytes_eq xs) nulls) (cells-bytes at text)
