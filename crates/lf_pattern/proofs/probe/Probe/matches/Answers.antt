use Rattle.std.proofs.Common.{◌≡◌, ◌∙◌, ℕ, List, subst}
use Rattle.lf_pattern.specs.Matching.{matches}
use Rattle.lf_pattern.proofs.FormLaws.{tried_other, tried_plain, way_at}
use Rattle.lf_pattern.proofs.MatchLaws.{matches_is}
use Rattle.lf_pattern.proofs.probe.Probe.matches.Goals as goal
use Rattle.lf_pattern.proofs.probe.Probe.matches.Goals.{in-Plain, in-Other}

pub invariant_of-self : goal.invariant_of-self
invariant_of-self c = elim c.match-self.branch [
  | in-Plain w ↦ rw w.self-inside-is (way_at c.self.inside.text.now c.self.inside.way _ c.self.invariant w.in-Plain.is)
  | in-Other w ↦
      let text = c.self.inside.text.now in
      let way = way_at text c.self.inside.way _ c.self.invariant w.in-Other.is in
      rw w.self-inside-is (way.0, w.finds.ensures.same text way.1)
]

pub returns-clause-value : goal.returns-clause-value
returns-clause-value c =
    let text = c.self.inside.text.now in
    let value = c.args.text.now in
    let P : List ℕ → Type 0 = λ t. c.match-self.result ≡ matches t value in
    subst P c.self.view_is (elim c.match-self.branch [
      | in-Plain w ↦ w.result-is ∙ w.contains.ensures ∙ tried_plain text value _ (way_at text c.self.inside.way _ c.self.invariant w.in-Plain.is)
      | in-Other w ↦
          let way = way_at text c.self.inside.way _ c.self.invariant w.in-Other.is in
          let found : c.match-self.result ≡ matches text w.as_str.result.now = w.result-is ∙ w.finds.ensures.found text way.1 ∙ tried_other text w.as_str.result.now way.0 in
          let Q : List ℕ → Type 0 = λ v. c.match-self.result ≡ matches text v in
          subst Q w.as_str.ensures found
    ])

pub returns-clause-meaning : goal.returns-clause-meaning
returns-clause-meaning c =
    rw (returns-clause-value c) (matches_is c.args.self.now c.args.text.now)
