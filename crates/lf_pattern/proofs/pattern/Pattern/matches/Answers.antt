use Rattle.std.proofs.Common.{ℕ, List, subst}
use Rattle.std.specs.Prelude.{◌↔◌, IsTrue}
use Rattle.lf_pattern.specs.Matching.{Matches}
use Rattle.lf_pattern.proofs.pattern.Pattern.matches.Goals as goal

pub returns-clause-meaning : goal.returns-clause-meaning
returns-clause-meaning c =
    let P : List ℕ → Type 0 = λ p. IsTrue c.matches.result ↔ Matches p c.args.text.now in
    subst P c.in_ok-probe.ensures c.matches.ensures.meaning
