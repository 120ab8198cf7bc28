use Rattle.lf_base.proofs.Answering.{one_answer}
use Rattle.lf_semantics.specs.PatternBreaches.{TellsPattern}
use Rattle.lf_classes.specs.Checked.{HasNoBreach}
use Rattle.lf_classes.specs.reading.Checking.{patterns_checked}
use Rattle.lf_classes.proofs.FaultsFound.{decides}
use Rattle.lf_classes.proofs.laws.one_breach.Goals as goal

pub returns : goal.returns
returns c = λ e. one_answer (HasNoBreach e) (TellsPattern e) (patterns_checked e) (decides e)
