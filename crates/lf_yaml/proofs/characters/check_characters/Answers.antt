use Rattle.std.proofs.Common.{get_or, rules, refl, sym, subst, inl, inr}
use Rattle.std.specs.Str.{IsValidUpTo}
use Rattle.lf_base.specs.declared.kind.Kind.TheVariants.{BadUtf8, BadChar}
use Rattle.lf_scalar.specs.Cells.{cell, byte_fault, character_fault}
use Rattle.lf_yaml.proofs.characters.check_characters.Goals as goal

pub returns-in-Err-clause-refused : goal.returns-in-Err-clause-refused
returns-in-Err-clause-refused c =
    (byte_fault BadUtf8 c.valid_up_to.result, inl (c.valid_up_to.result, subst (IsValidUpTo c.args.bytes.now) (sym c.valid_up_to.ensures) c.in-Err.ensures.cases.1, refl), search rules)

pub returns-in-Some-clause-refused : goal.returns-in-Some-clause-refused
returns-in-Some-clause-refused c =
    (character_fault BadChar (cell (get_or c.args.bytes.now c.in-Some.offset 0) c.in-Some.offset), inr (c.in-Ok.ensures.cases.1, (c.in-Some.offset, c.in-Some.ensures.found, refl)), search rules)
