use Rattle.std.proofs.Common.{◌++◌, ◌-◌, [], ◌∷◌, List, ℕ, get_or, ◌∙◌, ap, sym, subst}
use Rattle.std.specs.Prelude.{slice_set}
use Rattle.lf_deps.specs.views.Queue.{CountsDown}
use Rattle.lf_deps.proofs.Counting.{down_one}
use Rattle.lf_deps.proofs.queue.count_down.Goals as goal

pub returns-in_ok-extend_from_slice : goal.returns-in_ok-extend_from_slice
returns-in_ok-extend_from_slice c =
    let listed : List (List ℕ) = c.args.listed.now in
    let x : ℕ = c.args.source in
    let counts : List ℕ = c.args.counts.now in
    let due : List ℕ = c.args.due.now in
    let P : List ℕ → Type 0 = λ l. CountsDown listed (x ∷ []) counts (slice_set counts x (get_or counts x 0 - 1)) due l in
    subst P (sym (c.in_ok-extend_from_slice.ensures.ok ∙ ap (λ (l : List ℕ). due ++ l) c.at.ensures)) (down_one listed counts due x c.requires.within c.requires.enough)
