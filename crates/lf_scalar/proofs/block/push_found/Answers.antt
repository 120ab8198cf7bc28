use Rattle.lf_scalar.specs.reading.Body.{joins_of}
use Rattle.lf_scalar.proofs.BlockRun.{on-ok, body-text}
use Rattle.lf_scalar.proofs.block.push_found.Goals as goal

pub returns : goal.returns
returns c =
    on-ok c.push_chomped.result c.push_chomped.ensures (λ now. body-text c.args.indent c.args.at c.args.body.now c.args.found c.requires.found (joins_of c.args.joining) c.args.chomp c.args.builder.now c.push_joined.new.builder c.push_chomped.new.builder
    c.in_ok-push_joined.ensures now)
