use Rattle.std.proofs.Common.{◌≡◌, ◌+◌, ◌∙◌, ℕ, suc, [], false, ap, sym, subst, arith}
use Rattle.std.proofs.lemmas.Str.{IsUtf8-had}
use Rattle.lf_base.specs.declared.refusal.Refusal.{Refusal}
use Rattle.lf_scalar.specs.Cells.{Fails}
use Rattle.lf_scalar.specs.reading.Quoted.{wrong_behind}
use Rattle.lf_yaml.specs.Rows.{rows_from}
use Rattle.lf_yaml.specs.reading.Trees.{closed}
use Rattle.lf_yaml.specs.views.Cursor.{rows_after}
use Rattle.lf_yaml.specs.views.Shown.{shown}
use Rattle.lf_yaml.proofs.ClosedCode.{closing-rest, closed-fails, closed-none, closed-some}
use Rattle.lf_yaml.proofs.FlowPlaces.{behind-byte, row-within}
use Rattle.lf_yaml.proofs.flow_nodes.closed.Goals as goal

pub place_on-requires : goal.place_on-requires
place_on-requires g c = record {
  start = behind-byte c.args.source.bytes.now c.args.row.text.now c.args.row.at (IsUtf8-had c.args.source.bytes.now c.args.source.utf8) c.requires.row.text c.args.row.full (row-within c.args.source.bytes.now c.args.row.text.now c.args.row.at c.requires.row.text c.args.row.full) c.requires.bracket;
}

pub returns-in-None-clause-gives : goal.returns-in-None-clause-gives
returns-in-None-clause-gives g c = λ read h.
    let behind = g.P.FlowParts.behind in
    let y : c.in-Ok.closing.at + 1 ≡ suc c.in-Ok.closing.at = omega arith in
    let rest = closing-rest c.args.source.bytes.now c.in-Ok.closing _ c.in-Ok.ensures.part c.in-Ok.closing.full in
    let is = c.in-Ok.ensures.gives read (subst (λ (n : ℕ). behind c.args.reader.now c.args.source.bytes.now [] n read) (sym c.place_on.ensures.at) h) in
    closed-none c.args.source.bytes.now (shown c.args.row) (rows_after c.args.source.bytes.now c.args.next) read (g.P.FlowParts.made c.in-Ok.parts) (shown c.in-Ok.closing).first is _ _ _ (ap (wrong_behind false) (sym rest) ∙ c.in-None.ensures)
    c.node.ensures c.closed_span.ensures (c.lines_from-left.ensures.rows ∙ ap (λ (n : ℕ). rows_from n (rows_after c.args.source.bytes.now c.args.next)) y)

pub returns-in-Some-clause-gives : goal.returns-in-Some-clause-gives
returns-in-Some-clause-gives g c = λ read h.
    let behind = g.P.FlowParts.behind in
    let rest = closing-rest c.args.source.bytes.now c.in-Ok.closing _ c.in-Ok.ensures.part c.in-Ok.closing.full in
    let is = c.in-Ok.ensures.gives read (subst (λ (n : ℕ). behind c.args.reader.now c.args.source.bytes.now [] n read) (sym c.place_on.ensures.at) h) in
    let w = c.in-Some.ensures in
    subst (λ (e : Refusal). Fails e (closed c.args.source.bytes.now (shown c.args.row) (rows_after c.args.source.bytes.now c.args.next) read)) (sym w.2)
    (closed-some c.args.source.bytes.now (shown c.args.row) (rows_after c.args.source.bytes.now c.args.next) read (g.P.FlowParts.made c.in-Ok.parts) (shown c.in-Ok.closing).first is w.0 (ap (wrong_behind false) (sym rest) ∙ w.1))

pub returns-in-Err-clause-gives : goal.returns-in-Err-clause-gives
returns-in-Err-clause-gives g c = λ read h.
    let behind = g.P.FlowParts.behind in
    closed-fails c.args.source.bytes.now (shown c.args.row) (rows_after c.args.source.bytes.now c.args.next) read c.in-Err.refusal
    (c.in-Err.ensures.gives read (subst (λ (n : ℕ). behind c.args.reader.now c.args.source.bytes.now [] n read) (sym c.place_on.ensures.at) h))
