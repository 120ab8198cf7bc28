use Rattle.std.proofs.Common.{◌≡◌}
use Rattle.lf_scalar.specs.Cells.{cells}
use Rattle.lf_scalar.specs.Plain.{before_blank}
use Rattle.lf_yaml.specs.Heads.{key_in}
use Rattle.lf_yaml.specs.views.Signs.{stops_of}
use Rattle.lf_yaml.proofs.SignScan.{key_from}
use Rattle.lf_yaml.proofs.keys.find_sign.Given as goal

abbrev pub invariant-loop-i : goal.invariant-loop-i
invariant-loop-i l = key_from l.flow l.at l.text l.i ≡ key_in (stops_of l.flow) before_blank (cells l.at l.text)
