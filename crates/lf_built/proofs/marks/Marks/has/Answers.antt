use Rattle.std.proofs.Common.{◌≡◌, ◌||◌, ℕ, List, reverse, sym, ◌∙◌, ap}
use Rattle.lf_trials.specs.Reached.{is_marked}
use Rattle.lf_built.proofs.Marked.{among_both}
use Rattle.lf_built.proofs.marks.Marks.has.Goals as goal

pub returns-then-is_one_of : goal.returns-then-is_one_of
returns-then-is_one_of c =
    let few : List ℕ = c.self.inside.few.items in
    let others : List ℕ = c.self.inside.others in
    let n = c.args.number in
    let told : c.is_one_of.result ≡ is_marked few n = c.is_one_of.ensures ∙ ap (λ (l : List ℕ). is_marked l n) c.as_slice.ensures.value in
    let whole : is_marked (reverse c.args.self.now) n ≡ (is_marked few n || is_marked (reverse others) n) = ap (λ (l : List ℕ). is_marked (reverse l) n) (sym c.self.view_is) ∙ among_both few others n in
    c.if-is_one_of.true ∙ sym (whole ∙ ap (λ b. b || is_marked (reverse others) n) (sym told ∙ c.if-is_one_of.true))

pub returns-else-is_one_of : goal.returns-else-is_one_of
returns-else-is_one_of c =
    let few : List ℕ = c.self.inside.few.items in
    let others : List ℕ = c.self.inside.others in
    let n = c.args.number in
    let told : c.is_one_of.result ≡ is_marked few n = c.is_one_of.ensures ∙ ap (λ (l : List ℕ). is_marked l n) c.as_slice.ensures.value in
    let whole : is_marked (reverse c.args.self.now) n ≡ (is_marked few n || is_marked (reverse others) n) = ap (λ (l : List ℕ). is_marked (reverse l) n) (sym c.self.view_is) ∙ among_both few others n in
    c.has.ensures ∙ sym (whole ∙ ap (λ b. b || is_marked (reverse others) n) (sym told ∙ c.if-is_one_of.false))
