use Rattle.std.proofs.Common.{arith}
use Rattle.lf_yaml.proofs.Styles.{styled-plain}
use Rattle.lf_yaml.proofs.scalars.begins_styled.Goals as goal

pub returns-in_default : goal.returns-in_default
returns-in_default c =
    styled-plain c.args.row c.begins_plain.result c.args.row.full (omega (arith, c.in_default)) (omega (arith, c.in_default)) (omega (arith, c.in_default)) (omega (arith, c.in_default)) (c.begins_plain.ensures c.args.row.at)
