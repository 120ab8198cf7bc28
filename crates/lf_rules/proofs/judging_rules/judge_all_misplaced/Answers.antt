use Rattle.lf_rules.specs.reading.Files.{misplaced}
use Rattle.lf_rules.proofs.Folded.{told, three}
use Rattle.lf_rules.proofs.judging_rules.judge_all_misplaced.Goals as goal

pub returns : goal.returns
returns c =
    three _ _ _ _ _ _ _ (told misplaced _ _ _ _ c.judge_misplaced.ensures c.given_entry.ensures) (told misplaced _ _ _ _ c.judge_misplaced-2.ensures c.given_entry-2.ensures)
    (told misplaced _ _ _ _ c.judge_misplaced-3.ensures c.given_entry-3.ensures)
