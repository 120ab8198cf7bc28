use Rattle.std.proofs.Common.{suc, None, ap, sym, subst, arith}
use Rattle.std.proofs.lemmas.Str.{IsUtf8-had}
use Rattle.lf_base.specs.declared.refusal.Refusal.{Refusal}
use Rattle.lf_scalar.specs.Cells.{Fails}
use Rattle.lf_scalar.specs.reading.Quoted.{closing_of}
use Rattle.lf_scalar.specs.Scalars.{source_at}
use Rattle.lf_yaml.specs.reading.Trees.{quoted_part}
use Rattle.lf_yaml.specs.views.Shown.{shown}
use Rattle.lf_yaml.proofs.FlowPlaces.{row-within}
use Rattle.lf_yaml.proofs.PartPlaces.{quote-there, inside-length, inside-is, closing-is, closing-boundary, quoted-ok, quoted-err}
use Rattle.lf_yaml.proofs.part_scalar.quoted_part.Goals as goal

pub quoted_scalar-requires-clause-quote : goal.quoted_scalar-requires-clause-quote
quoted_scalar-requires-clause-quote c =
    quote-there c.args.source.bytes.now c.args.part.text.now c.past-inside.result.now c.args.part.at c.args.quote (row-within c.args.source.bytes.now c.args.part.text.now c.args.part.at c.requires.part.text_is c.args.part.full) c.requires.part.text_is c.args.part.full c.requires.quote c.past-inside.ensures

pub quoted_scalar-requires-clause-inside : goal.quoted_scalar-requires-clause-inside
quoted_scalar-requires-clause-inside c =
    inside-is c.args.source.bytes.now c.args.part.text.now c.past-inside.result.now c.args.part.at c.args.quote (row-within c.args.source.bytes.now c.args.part.text.now c.args.part.at c.requires.part.text_is c.args.part.full) c.requires.part.text_is c.args.part.full c.requires.quote c.past-inside.ensures

pub quoted_scalar-requires-clause-within : goal.quoted_scalar-requires-clause-within
quoted_scalar-requires-clause-within c =
    omega (
      arith,
      inside-length c.args.source.bytes.now c.args.part.text.now c.past-inside.result.now c.args.part.at c.args.quote (row-within c.args.source.bytes.now c.args.part.text.now c.args.part.at c.requires.part.text_is c.args.part.full) c.requires.part.text_is c.args.part.full
          c.requires.quote c.past-inside.ensures,
    )

pub place_from-requires-clause-start : goal.place_from-requires-clause-start
place_from-requires-clause-start c =
    closing-boundary c.args.source.bytes.now c.args.part.text.now c.past-inside.result.now c.args.part.at c.args.quote (row-within c.args.source.bytes.now c.args.part.text.now c.args.part.at c.requires.part.text_is c.args.part.full) c.requires.part.text_is c.args.part.full c.requires.quote
    c.past-inside.ensures c.in-Some.closing (IsUtf8-had c.args.source.bytes.now c.args.source.utf8) c.in-Some.ensures.within c.in-Some.ensures.quote

pub returns-in-None-clause-gives : goal.returns-in-None-clause-gives
returns-in-None-clause-gives c =
    subst (λ (r : Refusal). Fails r (quoted_part c.args.quote (shown c.args.part).first (closing_of c.args.quote 0 (source_at c.args.source.bytes.now (suc c.args.part.at))))) (sym c.byte_fault.ensures)
    (ap (quoted_part c.args.quote (shown c.args.part).first)
    (closing-is c.args.source.bytes.now c.args.part.text.now c.past-inside.result.now c.args.part.at c.args.quote (row-within c.args.source.bytes.now c.args.part.text.now c.args.part.at c.requires.part.text_is c.args.part.full) c.requires.part.text_is c.args.part.full c.requires.quote
    c.past-inside.ensures None (c.in-None.ensures.value)))

pub returns-in-Ok-clause-gives : goal.returns-in-Ok-clause-gives
returns-in-Ok-clause-gives c = quoted-ok c.args.source.bytes.now c.args.part.text.now c.past-inside.result.now c.args.part.at c.args.quote (row-within c.args.source.bytes.now c.args.part.text.now c.args.part.at c.requires.part.text_is c.args.part.full) c.requires.part.text_is c.args.part.full c.requires.quote c.past-inside.ensures c.in-Some.closing c.place_from.result.at _ c.in-Some.ensures.value c.in-Ok.ensures c.place_from.ensures.at

pub returns-in-Err-clause-gives : goal.returns-in-Err-clause-gives
returns-in-Err-clause-gives c = quoted-err c.args.source.bytes.now c.args.part.text.now c.past-inside.result.now c.args.part.at c.args.quote (row-within c.args.source.bytes.now c.args.part.text.now c.args.part.at c.requires.part.text_is c.args.part.full) c.requires.part.text_is c.args.part.full c.requires.quote c.past-inside.ensures c.in-Some.closing c.in-Err.refusal c.in-Some.ensures.value c.in-Err.ensures
