use Rattle.std.proofs.Common.{◌+◌, length}
use Rattle.lf_scalar.proofs.Whole.{some-rest}
use Rattle.lf_scalar.proofs.reader.read_style.Goals as goal

pub read_quoted-requires-clause-some : goal.read_quoted-requires-clause-some
read_quoted-requires-clause-some c = some-rest c.args.style (c.args.at + length c.args.rest.now) c.args.at c.args.rest.now c.requires.begins

pub read_quoted-requires-in-Double-clause-some : goal.read_quoted-requires-in-Double-clause-some
read_quoted-requires-in-Double-clause-some c = some-rest c.args.style (c.args.at + length c.args.rest.now) c.args.at c.args.rest.now c.requires.begins
