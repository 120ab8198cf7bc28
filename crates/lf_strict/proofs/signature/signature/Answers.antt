use Rattle.std.proofs.Common.{Result, Ok, Err}
use Rattle.std.specs.Prelude.{IfOk}
use Rattle.lf_strict.proofs.Signatures.{has_texts}
use Rattle.lf_strict.proofs.signature.signature.Goals as goal

both : {X E : Type 0} (P : X → Type 0) (C : Type 0) (r : Result X E) → IfOk r P → C → IfOk r (λ x. P x × C)
both P C (Ok x) p c = (p, c)
both P C (Err e) p c = tt

pub returns : goal.returns
returns c = both _ _ c.kept.result c.kept.ensures (has_texts c.args.sample.now c.len-count.ensures.texts)
