use Rattle.std.proofs.Common.{arith}
use Rattle.lf_scalar.proofs.Whole.{end-is, begins-rest, whole-fails, whole-gives, whole-scalar, text-law, offsets-law}
use Rattle.lf_scalar.specs.views.Built.{built}
use Rattle.lf_scalar.proofs.reader.read_whole.Goals as goal

pub read_style-requires-clause-room : goal.read_style-requires-clause-room
read_style-requires-clause-room c = omega (arith, end-is c.args.style c.args.bytes.now c.args.at c.requires.begins.1 c.past.result.now c.past.ensures, c.requires.room)

pub read_style-requires-clause-begins : goal.read_style-requires-clause-begins
read_style-requires-clause-begins c = begins-rest c.args.style c.args.bytes.now c.args.at c.requires.begins.1 c.past.result.now c.past.ensures

pub finish-requires-clause-text : goal.finish-requires-clause-text
finish-requires-clause-text c =
    text-law c.args.bytes.now c.args.at c.args.above c.args.style (built c.in-Ok.built) c.requires.begins (whole-scalar c.args.style c.args.bytes.now c.args.at c.requires.begins.1 c.past.result.now c.past.ensures c.args.above c.in-Ok.built c.in-Ok.ensures) c.requires.text

pub finish-requires-clause-offsets : goal.finish-requires-clause-offsets
finish-requires-clause-offsets c =
    (offsets-law c.args.bytes.now c.args.at c.args.above c.args.style (built c.in-Ok.built) c.requires.begins (whole-scalar c.args.style c.args.bytes.now c.args.at c.requires.begins.1 c.past.result.now c.past.ensures c.args.above c.in-Ok.built c.in-Ok.ensures)).0

pub returns-in-Ok : goal.returns-in-Ok
returns-in-Ok c = whole-gives c.args.style c.args.bytes.now c.args.at c.requires.begins.1 c.past.result.now c.past.ensures c.args.above c.in-Ok.built c.in-Ok.ensures c.finish.result c.finish.ensures

pub returns-in-Err : goal.returns-in-Err
returns-in-Err c = whole-fails c.args.style c.args.bytes.now c.args.at c.requires.begins.1 c.past.result.now c.past.ensures c.args.above c.in-Err.refusal c.in-Err.ensures
