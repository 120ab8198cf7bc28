use Rattle.lf_strict.proofs.Signatures.{has_texts}
use Rattle.lf_strict.proofs.partners.push_with.Goals as goal

pub returns-in_ok-push-clause-texts : goal.returns-in_ok-push-clause-texts
returns-in_ok-push-clause-texts c = has_texts c.args.sample.now c.len-count.ensures.texts

pub returns-else-have_same_signature-clause-texts : goal.returns-else-have_same_signature-clause-texts
returns-else-have_same_signature-clause-texts c = has_texts c.args.sample.now c.len-count.ensures.texts
