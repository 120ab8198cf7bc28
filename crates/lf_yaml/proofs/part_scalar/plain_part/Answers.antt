use Rattle.std.proofs.Common.{◌≡◌, ◌∙◌, ◌++◌, ◌∷◌, ◌≤◌, suc, true, [], List, ℕ, length, ap, sym, subst, arith, None}
use Rattle.std.specs.Str.{IsUtf8}
use Rattle.std.proofs.lemmas.Str.{IsUtf8-had}
use Rattle.lf_scalar.specs.Cells.{Cell, cells, bytes_of, offsets_of, end_of}
use Rattle.lf_scalar.specs.Offsets.{AreOffsets}
use Rattle.lf_base.specs.Faults.{span}
use Rattle.lf_scalar.specs.Plain.{value_of}
use Rattle.lf_yaml.specs.Flow.{begins_flow}
use Rattle.lf_yaml.specs.reading.Trees.{part_by}
use Rattle.lf_yaml.specs.views.Shown.{shown}
use Rattle.lf_yaml.proofs.FlowPlaces.{row-within}
use Rattle.lf_yaml.proofs.PartPlaces.{part-start, end-within, end-low, text-offsets, text-utf8, after-boundary, after-low, plain-ok, value-same, only-memory}
use Rattle.lf_yaml.proofs.part_scalar.plain_part.Goals as goal

pub push_plain-requires-clause-within : goal.push_plain-requires-clause-within
push_plain-requires-clause-within c = row-within c.args.source.bytes.now c.args.part.text.now c.args.part.at c.requires.part.text_is c.args.part.full

pub push_plain-requires-clause-rest : goal.push_plain-requires-clause-rest
push_plain-requires-clause-rest c = c.requires.part.rest

pub plain_scalar-requires-clause-within : goal.plain_scalar-requires-clause-within
plain_scalar-requires-clause-within c =
    let h = c.in-Ok.ensures in
    let same = h.2 ∙ ap (λ (cs : List Cell). cs ++ h.0) c.new-builder.ensures in
    subst (λ (cs : List Cell). end_of c.args.part.at cs ≤ length c.args.source.bytes.now) (sym same) (end-within c.args.source.bytes.now c.args.part.at (row-within c.args.source.bytes.now c.args.part.text.now c.args.part.at c.requires.part.text_is c.args.part.full) h.0 c.in-Ok.after h.1)

pub plain_scalar-requires-clause-order : goal.plain_scalar-requires-clause-order
plain_scalar-requires-clause-order c =
    let h = c.in-Ok.ensures in
    let same = h.2 ∙ ap (λ (cs : List Cell). cs ++ h.0) c.new-builder.ensures in
    subst (λ (cs : List Cell). c.args.part.at ≤ end_of c.args.part.at cs) (sym same) (end-low c.args.source.bytes.now c.args.part.at (row-within c.args.source.bytes.now c.args.part.text.now c.args.part.at c.requires.part.text_is c.args.part.full) h.0 c.in-Ok.after h.1)

pub plain_scalar-requires-clause-utf8 : goal.plain_scalar-requires-clause-utf8
plain_scalar-requires-clause-utf8 c =
    let h = c.in-Ok.ensures in
    let same = h.2 ∙ ap (λ (cs : List Cell). cs ++ h.0) c.new-builder.ensures in
    subst (λ (cs : List Cell). IsUtf8 (bytes_of cs)) (sym same)
    (text-utf8 c.args.source.bytes.now c.args.part.at (row-within c.args.source.bytes.now c.args.part.text.now c.args.part.at c.requires.part.text_is c.args.part.full) h.0 c.in-Ok.after h.1 (IsUtf8-had c.args.source.bytes.now c.args.source.utf8)
    (part-start c.args.source.bytes.now c.args.part.text.now c.args.part.at c.requires.part.utf8 c.requires.part.text_is c.args.part.full (row-within c.args.source.bytes.now c.args.part.text.now c.args.part.at c.requires.part.text_is c.args.part.full)))

pub plain_scalar-requires-clause-offsets : goal.plain_scalar-requires-clause-offsets
plain_scalar-requires-clause-offsets c =
    let h = c.in-Ok.ensures in
    let same = h.2 ∙ ap (λ (cs : List Cell). cs ++ h.0) c.new-builder.ensures in
    subst (λ (cs : List Cell). AreOffsets (bytes_of cs) (offsets_of cs ++ end_of c.args.part.at cs ∷ []) (span c.args.part.at (end_of c.args.part.at cs))) (sym same) (text-offsets c.args.source.bytes.now c.args.part.at (row-within c.args.source.bytes.now c.args.part.text.now c.args.part.at c.requires.part.text_is c.args.part.full) h.0 c.in-Ok.after h.1)

pub place_from-requires-clause-order : goal.place_from-requires-clause-order
place_from-requires-clause-order c = let h = c.in-Ok.ensures in after-low c.args.source.bytes.now c.args.part.at (row-within c.args.source.bytes.now c.args.part.text.now c.args.part.at c.requires.part.text_is c.args.part.full) h.0 c.in-Ok.after h.1

pub place_from-requires-clause-start : goal.place_from-requires-clause-start
place_from-requires-clause-start c = let h = c.in-Ok.ensures in after-boundary c.args.source.bytes.now c.args.part.at (row-within c.args.source.bytes.now c.args.part.text.now c.args.part.at c.requires.part.text_is c.args.part.full) h.0 c.in-Ok.after h.1

pub returns-in-Ok-plain_scalar-clause-further : goal.returns-in-Ok-plain_scalar-clause-further
returns-in-Ok-plain_scalar-clause-further c = let h = c.in-Ok.ensures in omega (arith, c.place_from.ensures.at, after-low c.args.source.bytes.now c.args.part.at (row-within c.args.source.bytes.now c.args.part.text.now c.args.part.at c.requires.part.text_is c.args.part.full) h.0 c.in-Ok.after h.1)

pub returns-in-Ok-plain_scalar-clause-gives : goal.returns-in-Ok-plain_scalar-clause-gives
returns-in-Ok-plain_scalar-clause-gives c =
    let b : begins_flow (shown c.args.part).first (shown c.args.part).rest ≡ true =
    sym (c.begins_flow_bytes.ensures c.args.part.at ∙ ap (λ (xs : List ℕ). begins_flow (shown c.args.part).first (cells (suc c.args.part.at) xs)) c.past.ensures) ∙ c.if-not-begins_flow_bytes.false in
    let h = c.in-Ok.ensures in
    let same = h.2 ∙ ap (λ (cs : List Cell). cs ++ h.0) c.new-builder.ensures in
    plain-ok c.args.source.bytes.now (shown c.args.part).first (shown c.args.part).rest h.0 c.in-Ok.after c.place_from.result.at _ b h.1
    (ap (value_of (shown c.args.part).first) (sym same) ∙ value-same _ _ (c.in-Ok-plain_scalar.ensures (shown c.args.part).first.byte)) c.place_from.ensures.at

pub returns-in-Ok-clause-gives : goal.returns-in-Ok-clause-gives
returns-in-Ok-clause-gives c =
    only-memory c.in-Err-plain_scalar.refusal _ (part_by c.args.source.bytes.now (shown c.args.part).first (shown c.args.part).rest None) (c.in-Err-plain_scalar.ensures (shown c.args.part).first.byte)
