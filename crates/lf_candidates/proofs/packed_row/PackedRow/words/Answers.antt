use Rattle.std.proofs.Common.{◌≡◌, ◌+◌, ◌-◌, ◌++◌, ℕ, List, get_or, replicate, take, sym, ◌∙◌, ap, ap₂, arith}
use Rattle.std.specs.Vec.{vec_len}
use Rattle.std.proofs.lemmas.List.{take_all, take_more}
use Rattle.lf_candidates.specs.declared.packed_row.WordRun.{WordRun}
use Rattle.lf_candidates.specs.views.Packed.{PackedRow, unpacked}
use Rattle.lf_candidates.proofs.PackedWords.{one_run_more}
use Rattle.lf_candidates.proofs.packed_row.PackedRow.words.Goals as goal

pub loop-run-init : goal.loop-run-init
loop-run-init c = c.in_ok-words.ensures.items

pub loop-run-preserved : goal.loop-run-preserved
loop-run-preserved c =
    let runs : List WordRun = c.deref-run-items.result.now in
    let i : ℕ = c.loop-run.run-index in
    let old : List ℕ = c.loop-run.words.items in
    let none : WordRun = record { count = 0; word = 0 } in
    let run : WordRun = get_or runs i none in
    let first : take (c.len.result + run.count) old ≡ old = take_all (c.len.result + run.count) old (omega (arith, c.len.ensures, c.loop-run.words.ok.0)) in
    let more : replicate (c.len.result + run.count - vec_len c.loop-run.words) run.word ≡ replicate run.count run.word = ap (λ (n : ℕ). replicate n run.word) (omega (arith, c.len.ensures)) in
    c.in_ok-resize.ensures.items ∙ ap₂ (λ (l m : List ℕ). l ++ m) first more ∙ ap (λ (l : List ℕ). l ++ replicate run.count run.word) c.loop-run.invariant
    ∙ sym (one_run_more (take i runs) run) ∙ ap unpacked (sym (take_more runs i none c.loop-run-test.true))

pub returns : goal.returns
returns c =
    let runs : List WordRun = c.deref-run-items.result.now in
    c.loop-run.invariant ∙ ap unpacked (take_all c.loop-run.run-index runs (omega (arith, c.loop-run-test.false)) ∙ c.deref-run-items.ensures.value) ∙ ap (λ (r : PackedRow). r.words) c.self.view_is
