-- The bytes behind the last line feed are those from where the loop stopped.
use Rattle.std.proofs.Common.{◌≡◌, ◌<◌, ℕ, ◌-◌, List, length, get_or, not, false, arith, ap, sym, length-drop}
use Rattle.std.specs.List.{after_last, suffix_len}
use Rattle.std.proofs.lemmas.List.Sums.{suffix_len_is, suffix_len-le-length}
use Rattle.lf_base.specs.Places.{is_line_feed}
use Rattle.lf_base.proofs.place.bytes_of_line.Goals as goal
use Rattle.lf_base.proofs.place.bytes_of_line.Goals.{then-loop-start-test+else-bytes-start-ne10, else-loop-start-test}

length-after_last : (xs : List ℕ) (n : ℕ) → suffix_len (λ x. not (is_line_feed x)) xs ≡ length xs - n → length (after_last is_line_feed xs) ≡ length xs - n
length-after_last xs n is = omega (arith, is, length-drop (length xs - suffix_len (λ x. not (is_line_feed x)) xs) xs, suffix_len-le-length (λ x. not (is_line_feed x)) xs)

pub returns : goal.returns
returns c =
    let stop : 0 < c.loop-start.start → not (is_line_feed (get_or c.args.bytes.now (c.loop-start.start - 1) 0)) ≡ false =
    elim c.loop-start-test.branch [
      | then-loop-start-test+else-bytes-start-ne10 w ↦ λ h. ap (λ x. not (is_line_feed x)) w.if-bytes-start-ne10.false
      | else-loop-start-test w ↦ λ h. absurd (omega arith)
    ] in
    sym (length-after_last c.args.bytes.now c.loop-start.start (suffix_len_is _ c.args.bytes.now c.loop-start.start 0 c.loop-start.invariant.within c.loop-start.invariant.behind stop))
