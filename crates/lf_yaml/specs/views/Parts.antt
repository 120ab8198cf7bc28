-- What the code found as the next part of a flow collection. It defines nothing of trees.
use Rattle.std.specs.Prelude.{◌≡◌, ℕ, List, Result, Ok, Err, length, take, drop}
use Rattle.lf_base.specs.declared.refusal.Refusal.{Refusal}
use Rattle.lf_base.specs.declared.refusal.Refusal.TheVariants as refusal_of
use Rattle.lf_yaml.specs.Flow.{Next, at_part, broken}
use Rattle.lf_yaml.specs.views.Shown.{shown}
use Rattle.lf_yaml.specs.declared.row.ContentLine.{ContentLine}

-- a part, which is the rest of its line; or what is broken before it
abbrev pub IsNext : Result (ContentLine × ℕ) Refusal → Next → Type 0
IsNext (Ok x) next = next ≡ at_part (shown x.0).first (shown x.0).rest
IsNext (Err refusal_of.Memory) next = ⊥
IsNext (Err (refusal_of.At kind span)) next = next ≡ broken (record { kind = kind; span = span })

-- a row's bytes are those of the file from its offset on
abbrev pub IsTextOf : List ℕ → ContentLine → Type 0
IsTextOf bytes r = r.text.now ≡ take (length r.text.now) (drop r.at bytes)
