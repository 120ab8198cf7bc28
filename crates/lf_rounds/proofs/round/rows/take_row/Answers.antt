use Rattle.std.proofs.Common.{length, ap, sym, ◌∙◌, arith}
use Rattle.lf_flow.specs.Reads.{with_row}
use Rattle.lf_semantics.specs.ClassRows.{Sets}
use Rattle.lf_rounds.proofs.AtHand.{room_for, same_words}
use Rattle.lf_rounds.proofs.round.rows.take_row.Goals as goal

pub write_words-requires : goal.write_words-requires
write_words-requires c = room_for c.args.universe.now c.args.env.now c.args.number c.requires.number c.requires.env c.row_at.result.now (length c.args.own.now.items) c.row_at.ensures c.requires.room

pub are_same-requires : goal.are_same-requires
are_same-requires c = ap length c.as_slice.ensures.value ∙ c.write_words.ensures.len ∙ c.requires.room ∙ sym c.requires.words

pub returns-then-are_same-clause-taken : goal.returns-then-are_same-clause-taken
returns-then-are_same-clause-taken c =
    sym (same_words c.args.universe.now c.args.env.now c.args.number c.requires.number c.requires.env c.requires.listing c.row_at.result.now c.args.words.now c.write_words.new.into.items c.row_at.ensures
    (c.write_words.ensures.len ∙ c.requires.room) (λ j l. c.write_words.ensures.words j (omega (arith, l, c.requires.room))) (sym c.as_slice.ensures.value ∙ c.are_same.ensures c.if-are_same.true))

pub returns-clause-taken : goal.returns-clause-taken
returns-clause-taken c = c.put.ensures ∙ ap (λ (row : Sets). with_row c.args.number row c.args.env.now) c.in_ok-row.ensures
