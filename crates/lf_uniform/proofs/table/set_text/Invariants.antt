use Rattle.std.proofs.Common.{◌≡◌, drop}
use Rattle.std.specs.List.{find}
use Rattle.std.specs.Str.{bytes_eq}
use Rattle.lf_uniform.proofs.table.set_text.Given as goal

abbrev pub invariant-loop-label : goal.invariant-loop-label
invariant-loop-label l = find (λ k. bytes_eq k.key l.name) (drop l.label-index l.labels) ≡ find (λ k. bytes_eq k.key l.name) l.labels
