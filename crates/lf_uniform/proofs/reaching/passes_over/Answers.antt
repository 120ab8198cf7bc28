use Rattle.std.proofs.Common.{◌≡◌, ◌+◌, ◌++◌, ℕ, zero, suc, List, sym, ◌∙◌, ap, arith}
use Rattle.std.specs.List.{flat_map, range_with_len}
use Rattle.std.proofs.lemmas.List.{append-nil, append_assoc}
use Rattle.lf_uniform.proofs.reaching.passes_over.Goals as goal

-- one pass more
one_pass : (reach : List ℕ) (first count : ℕ) → flat_map (λ (pass : ℕ). reach) (range_with_len first (suc count)) ≡ flat_map (λ (pass : ℕ). reach) (range_with_len first count) ++ reach
one_pass reach first zero = append-nil reach
one_pass reach first (suc count) =
    ap (λ (l : List ℕ). reach ++ l) (one_pass reach (first + 1) count) ∙ sym (append_assoc reach (flat_map (λ (pass : ℕ). reach) (range_with_len (first + 1) count)) reach)

pub loop-pass-preserved : goal.loop-pass-preserved
loop-pass-preserved c =
    let reach : List ℕ = c.args.reach.now in
    let n : ℕ = c.loop-pass._pass in
    let more : suc n ≡ n + 1 = omega arith in
    c.in_ok-extend_from_slice.ensures.items ∙ ap (λ (l : List ℕ). l ++ reach) c.loop-pass.invariant ∙ sym (one_pass reach 0 n) ∙ ap (λ k. flat_map (λ (pass : ℕ). reach) (range_with_len 0 k)) more
