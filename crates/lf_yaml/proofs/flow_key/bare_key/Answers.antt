use Rattle.std.proofs.Common.{◌≡◌, ◌+◌, ℕ, suc, true, List, take, Ok, None, ap, sym, subst, ◌∙◌}
use Rattle.lf_base.specs.declared.refusal.Refusal.{Refusal}
use Rattle.lf_scalar.specs.Cells.{cell, cells, Fails, Value, ◌>>=◌}
use Rattle.lf_yaml.specs.Keys.{is_key_left_out}
use Rattle.lf_yaml.specs.Flow.{line_on, next_on, begins_flow}
use Rattle.lf_yaml.specs.reading.Trees.{no_sign, Signed, flow_key_by}
use Rattle.lf_yaml.specs.views.Shown.{shown}
use Rattle.std.specs.Str.{IsCharBoundary}
use Rattle.lf_yaml.proofs.FlowLines.{left-boundary, lines-here}
use Rattle.lf_yaml.proofs.FlowPlaces.{row-within}
use Rattle.lf_yaml.proofs.KeyCode.{bare-left-out, bare-found, bare-missing}
use Rattle.lf_yaml.proofs.RowCode.{text-shown}
use Rattle.lf_yaml.proofs.flow_key.bare_key.Goals as goal

pub text_left-after-requires-clause-within : goal.text_left-after-requires-clause-within
text_left-after-requires-clause-within c = row-within c.args.source.bytes.now c.args.part.text.now c.args.part.at c.requires.part.text_is c.args.part.full

pub text_left-after-requires-clause-rest : goal.text_left-after-requires-clause-rest
text_left-after-requires-clause-rest c = c.requires.part.rest

pub place_from-requires-clause-start : goal.place_from-requires-clause-start
place_from-requires-clause-start c = subst (IsCharBoundary c.args.source.bytes.now) (sym c.text_left-after.ensures.after) (left-boundary c.args.source.bytes.now (line_on c.args.source.bytes.now c.args.part.at) (lines-here c.args.source.bytes.now c.args.part.at).0)

pub returns-in-Ok-clause-gives : goal.returns-in-Ok-clause-gives
returns-in-Ok-clause-gives c =
    let b : begins_flow (shown c.args.part).first (shown c.args.part).rest ≡ true =
    sym (c.begins_flow_bytes.ensures c.args.part.at ∙ ap (λ (xs : List ℕ). begins_flow (shown c.args.part).first (cells (suc c.args.part.at) xs)) c.past.ensures) ∙ c.if-not-begins_flow_bytes.false in
    let same : c.is_key_left_out.result ≡ is_key_left_out (cells c.args.part.at (take c.in-Some.place c.args.part.text.now)) =
    c.is_key_left_out.ensures c.args.part.at ∙ ap (λ (xs : List ℕ). is_key_left_out (cells c.args.part.at xs)) c.before-in-Some.ensures in
    bare-found c.args.source.bytes.now (shown c.args.part).first (shown c.args.part).rest c.args.part.at c.args.part.text.now (text-shown c.args.part c.args.part.full) b
    c.in-Some.place c.in-Some.ensures.value (sym same ∙ c.if-is_key_left_out.false) c.in-Some.ensures.sign
    ∙ ap (λ x. x >>= λ (v : Value). let s : Signed = (v, cell 58 (c.args.part.at + c.in-Some.place)) in Ok s) c.in-Ok.ensures

pub returns-in-None-clause-gives : goal.returns-in-None-clause-gives
returns-in-None-clause-gives c =
    let b : begins_flow (shown c.args.part).first (shown c.args.part).rest ≡ true =
    sym (c.begins_flow_bytes.ensures c.args.part.at ∙ ap (λ (xs : List ℕ). begins_flow (shown c.args.part).first (cells (suc c.args.part.at) xs)) c.past.ensures) ∙ c.if-not-begins_flow_bytes.false in
    subst (Fails c.no_sign.result)
    (ap (λ (n : ℕ). no_sign (next_on c.args.source.bytes.now n)) (c.place_from.ensures.at ∙ c.text_left-after.ensures.after)
    ∙ sym (bare-missing c.args.source.bytes.now (shown c.args.part).first (shown c.args.part).rest c.args.part.at c.args.part.text.now (text-shown c.args.part c.args.part.full) b c.in-None.ensures.value))
    c.no_sign.ensures

pub returns-then-is_key_left_out-clause-gives : goal.returns-then-is_key_left_out-clause-gives
returns-then-is_key_left_out-clause-gives c =
    let b : begins_flow (shown c.args.part).first (shown c.args.part).rest ≡ true =
    sym (c.begins_flow_bytes.ensures c.args.part.at ∙ ap (λ (xs : List ℕ). begins_flow (shown c.args.part).first (cells (suc c.args.part.at) xs)) c.past.ensures) ∙ c.if-not-begins_flow_bytes.false in
    let same : c.is_key_left_out.result ≡ is_key_left_out (cells c.args.part.at (take c.in-Some.place c.args.part.text.now)) =
    c.is_key_left_out.ensures c.args.part.at ∙ ap (λ (xs : List ℕ). is_key_left_out (cells c.args.part.at xs)) c.before-in-Some.ensures in
    subst (λ (r : Refusal). Fails r (flow_key_by c.args.source.bytes.now (shown c.args.part).first (shown c.args.part).rest None)) (sym c.first_fault.ensures)
    (bare-left-out c.args.source.bytes.now (shown c.args.part).first (shown c.args.part).rest c.args.part.at c.args.part.text.now (text-shown c.args.part c.args.part.full) b
    c.in-Some.place c.in-Some.ensures.value (sym same ∙ c.if-is_key_left_out.true))
