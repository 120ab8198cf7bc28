-- What clap makes of one word behind `gen`.
use Rattle.std.proofs.Common.{◌≡◌, ℕ, false, [], ◌∷◌, Some, codes, refl, sym, ◌∙◌, ◌==◌}
use Rattle.std.specs.Str.{IsUtf8}
use Rattle.clap.specs.Words.{Text, Shape, built, fault_of}
use Rattle.clap.specs.Walk.{nothing_held, walk_from}
use Rattle.clap.specs.Faults.{turn_fault, walk_fault}
use Rattle.clap.proofs.FaultLemmas.{leaf_fault}
use Rattle.clap.proofs.OnLiterals.{clap_on_literals}
use Rattle.lf_words.specs.views.Commands.{gen_app, first_value}
use Rattle.lf_words.specs.Lint.{IsOperand}
use Rattle.lf_words.proofs.Steps.{Plain, or_parts}
use Rattle.lf_words.proofs.Forms.{some_char, shape, s_operand, s_dashes, s_long, s_short}
use Rattle.lf_words.proofs.Forms as forms

-- the word is taken, and is the value
pub operand_taken : (l w : Text) → Plain w → fault_of gen_app (l ∷ w ∷ []) ≡ []
unfolding clap_on_literals
operand_taken l w q = rw (q.no_dashes, q.no_long, q.no_short) refl

pub operand_found : (l w : Text) → Plain w → first_value gen_app (codes "n") (l ∷ w ∷ []) ≡ Some w
unfolding clap_on_literals
operand_found l w q = rw (q.no_dashes, q.no_long, q.no_short) refl

abbrev gen : Shape
gen = (built gen_app).top

turn_first : (l w : Text) → fault_of gen_app (l ∷ w ∷ []) ≡ [] → turn_fault gen [] (walk_from nothing_held) w ≡ []
unfolding walk_fault
turn_first l w e = (or_parts _ _ (or_parts _ _ (sym (leaf_fault (built gen_app) nothing_held (w ∷ []) refl) ∙ e)).0).0

dashes_refused : (l : Text) → fault_of gen_app (l ∷ codes "--" ∷ []) ≡ [] → ⊥
unfolding clap_on_literals
dashes_refused l e = cc

long_refused : (z : ℕ) (zs : Text) → turn_fault gen [] (walk_from nothing_held) (45 ∷ 45 ∷ z ∷ zs) ≡ [] → ⊥
unfolding clap_on_literals
long_refused z zs e = cc

short_refused : (y : ℕ) (ys : Text) → IsUtf8 (45 ∷ y ∷ ys) → (y == 45) ≡ false → turn_fault gen [] (walk_from nothing_held) (45 ∷ y ∷ ys) ≡ [] → ⊥
unfolding clap_on_literals
short_refused y ys u f e = let first = some_char y ys u in let bad = rw (f, f, first.1) at e in cc

-- a word that is taken is no option
pub taken_operand : (l w : Text) → IsUtf8 w → fault_of gen_app (l ∷ w ∷ []) ≡ [] → IsOperand w
taken_operand l w u e = go w (shape w) u e
  where
    go : (w : Text) → forms.Shape w → IsUtf8 w → fault_of gen_app (l ∷ w ∷ []) ≡ [] → IsOperand w
    go w (s_operand o) u e = o
    go _ s_dashes u e = absurd (dashes_refused l e)
    go _ (s_long z zs) u e = absurd (long_refused z zs (turn_first l _ e))
    go _ (s_short y ys f) u e = absurd (short_refused y ys u f (turn_first l _ e))
