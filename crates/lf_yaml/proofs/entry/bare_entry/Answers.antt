use Rattle.std.proofs.Common.{sym, ◌∙◌, refl, ap, arith, true, false, suc, ◌+◌, List, ℕ, take, length, length-take, ◌≤◌, ◌≡◌, Some}
use Rattle.std.proofs.lemmas.List.{take-take}
use Rattle.lf_scalar.specs.Plain.{before_blank}
use Rattle.lf_scalar.specs.Cells.{cell, cells}
use Rattle.lf_scalar.specs.Lines.{is_blank}
use Rattle.lf_scalar.specs.Folding.{trimmed}
use Rattle.lf_yaml.specs.Heads.{key_in, Bare}
use Rattle.lf_yaml.specs.views.Signs.{stops_of}
use Rattle.lf_yaml.proofs.EntryCode.{entry-bare, head-of-split}
use Rattle.lf_yaml.proofs.entry.bare_entry.Goals as goal

pub returns-then-not-begins_plain-clause-head : goal.returns-then-not-begins_plain-clause-head
returns-then-not-begins_plain-clause-head c =
    sym (entry-bare c.args.row false (key_in (stops_of false) before_blank (cells c.args.row.at c.args.row.text.now)) c.args.row.full (sym (c.begins_plain.ensures c.args.row.at) ∙ c.if-not-begins_plain.true) refl)

pub returns-in-None-clause-head : goal.returns-in-None-clause-head
returns-in-None-clause-head c =
    sym (entry-bare c.args.row true _ c.args.row.full (sym (c.begins_plain.ensures c.args.row.at) ∙ c.if-not-begins_plain.false) (sym c.in-None.ensures.value))

pub returns-in-Some-clause-head : goal.returns-in-Some-clause-head
returns-in-Some-clause-head c =
    let short : c.trimmed_len.result ≤ c.in-Some.place = omega (arith, c.trimmed_len.ensures.within, ap length c.before-in-Some.ensures, length-take c.in-Some.place c.args.row.text.now) in
    let same : trimmed is_blank (cells c.args.row.at (take c.in-Some.place c.args.row.text.now)) ≡ cells c.args.row.at (take c.trimmed_len.result c.args.row.text.now) =
    ap (λ (xs : List ℕ). trimmed is_blank (cells c.args.row.at xs)) (sym c.before-in-Some.ensures) ∙ c.trimmed_len.ensures.text c.args.row.at ∙ ap (λ (xs : List ℕ). cells c.args.row.at (take c.trimmed_len.result xs)) c.before-in-Some.ensures
    ∙ ap (cells c.args.row.at) (take-take c.trimmed_len.result c.in-Some.place c.args.row.text.now short) in
    sym (entry-bare c.args.row true _ c.args.row.full (sym (c.begins_plain.ensures c.args.row.at) ∙ c.if-not-begins_plain.false) (sym c.in-Some.ensures.value)
    ∙ head-of-split c.args.row.at c.in-Some.place c.trimmed_len.result c.args.row.text.now c.in-Some.ensures.sign same
    ∙ ap (λ (xs : List ℕ). Some (Bare (cells c.args.row.at (take c.trimmed_len.result c.args.row.text.now)), cell 58 (c.args.row.at + c.in-Some.place), cells (suc (c.args.row.at + c.in-Some.place)) xs)) (sym c.past.ensures))
