-- Going over the tokens of an action one by one.
use Rattle.std.proofs.Common.{Bool, false, not, ◌&&◌, ◌||◌, List, [], ◌∷◌}
use Rattle.std.specs.Prelude.{filter}
use Rattle.lf_templates.specs.declared.token.ActionToken.{ActionToken}
use Rattle.lf_templates.specs.Actions.{is_blank, is_setting, sets_labels}

-- ---- whether $labels is set anew, behind a token that is perhaps $labels

abbrev pub starts_setting : List ActionToken → Bool
starts_setting [] = false
starts_setting (t ∷ ts) = is_setting t

abbrev pub no_blanks : List ActionToken → List ActionToken
no_blanks ts = filter (λ t. not (is_blank t)) ts

abbrev pub sets_from : Bool → List ActionToken → Bool
sets_from behind ts = (behind && starts_setting (no_blanks ts)) || sets_labels ts
