use Rattle.std.proofs.Common.{◌≡◌, ◌+◌, ◌-◌, ◌++◌, ℕ, get_or, replicate, ◌∙◌, ap, arith}
use Rattle.lf_candidates.specs.views.Packed.{unpacked}
use Rattle.lf_candidates.proofs.PackedWords.{other_word, same_again}
use Rattle.lf_candidates.proofs.packed_row.runs_in.Goals as goal
use Rattle.lf_candidates.proofs.packed_row.runs_in.Goals.{then-word-same+in_ok-push_run, else-word-same}

pub loop-place-preserved : goal.loop-place-preserved
loop-place-preserved c =
    let words = c.args.words.now in
    let l = c.loop-place in
    let i = l.place in
    let one : i + 1 - i ≡ 1 = omega arith in
    let more : i + 1 - l.first ≡ i - l.first + 1 = omega (arith, l.invariant.1) in
    elim c.if-word-same.branch [
      | then-word-same+in_ok-push_run w ↦ rw (w.runs-is, w.first-is, w.same-is) (
        ap (λ (n : ℕ). unpacked w.push_run.new.runs.items ++ replicate n (get_or words i 0)) one
            ∙ other_word words l.runs.items w.push_run.new.runs.items (i - l.first) l.same i l.invariant.0 c.loop-place-test.true w.in_ok-push_run.ensures,
        omega arith,
      )
      | else-word-same w ↦ rw (w.runs-is, w.first-is, w.same-is) (
        ap (λ (n : ℕ). unpacked l.runs.items ++ replicate n l.same) more
            ∙ same_again words l.runs.items (i - l.first) l.same i l.invariant.0 c.loop-place-test.true w.if-word-same.false,
        omega (arith, l.invariant.1),
      )
    ]
