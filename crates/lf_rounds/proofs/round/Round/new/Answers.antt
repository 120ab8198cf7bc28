use Rattle.std.proofs.Common.{ℕ, List, inl, length, sym, ◌∙◌, ap, subst}
use Rattle.lf_ast.specs.Rules.{rule_trees}
use Rattle.lf_rounds.specs.Tasks.{AreTaskPieces, IsBelowLeast}
use Rattle.lf_rounds.proofs.Pieces.{pieces_all, pieces_recording}
use Rattle.lf_rounds.proofs.round.Round.new.Goals as goal

pub of_due-requires-clause-recording : goal.of_due-requires-clause-recording
of_due-requires-clause-recording c = pieces_recording (rule_trees c.args.rules.now) c.in_ok-pieces.pieces c.in_ok-pieces.ensures

pub of_due-requires-clause-others : goal.of_due-requires-clause-others
of_due-requires-clause-others c = λ number r at e. inl (pieces_all (rule_trees c.args.rules.now) c.in_ok-pieces.pieces c.in_ok-pieces.ensures number r at e)

pub of_due-requires-clause-words : goal.of_due-requires-clause-words
of_due-requires-clause-words c = ap length (c.in_ok-start.ensures ∙ c.as_slice.ensures) ∙ c.requires.words

pub of_due-requires-clause-below : goal.of_due-requires-clause-below
of_due-requires-clause-below c =
    let B : List ℕ → Type 0 = λ words. IsBelowLeast c.args.universe.now (rule_trees c.args.rules.now) words in
    subst B (sym (c.in_ok-start.ensures ∙ c.as_slice.ensures)) c.requires.below

pub returns-clause-round : goal.returns-clause-round
returns-clause-round c =
    let over = c.in_ok-made.ensures.round in
    let P : List ℕ → Type 0 = λ pieces. AreTaskPieces (rule_trees c.args.rules.now) pieces in
    record {
      universe = over.universe;
      rules = over.rules;
      start = over.start ∙ c.in_ok-start.ensures ∙ c.as_slice.ensures;
      pieces = subst P (sym over.pieces) c.in_ok-pieces.ensures;
      count = over.count;
      seats = over.seats;
    }
