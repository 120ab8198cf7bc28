-- The actions of a text, one by one.
use Rattle.std.proofs.Common.{◌≡◌, ℕ, zero, suc, ◌+◌, ◌≤◌, true, false, List, [], ◌∷◌, Option, Some, None, length, drop, refl, ap, arith, sym, ◌∙◌}
use Rattle.std.proofs.lemmas.List.{drop_all}
use Rattle.lf_templates.specs.declared.token.TokenContext.TheVariants as places
use Rattle.lf_templates.specs.declared.token.Lexeme.{Lexeme}
use Rattle.lf_templates.specs.Templates.{opens}
use Rattle.lf_templates.specs.reading.Templates.{Acts, acts_of, before, action_at, total, lexed}

abbrev pub no_acts : Option ℕ → Acts
no_acts endless = record { actions = []; endless = endless }

pub acts_skip : (at n : ℕ) (src : List ℕ) → n ≤ length src → acts_of at n src ≡ acts_of (at + n) 0 (drop n src)
unfolding acts_of
acts_skip at zero src le = let e : at + 0 ≡ at = omega arith in rw e refl
acts_skip at (suc n) [] le = absurd (omega arith)
acts_skip at (suc n) (b ∷ src) le = let e : at + suc n ≡ at + 1 + n = omega arith in rw e (acts_skip (at + 1) n src (omega arith))

pub acts_end : (at k : ℕ) (src : List ℕ) → length src ≤ k → acts_of at 0 (drop k src) ≡ no_acts None
unfolding acts_of
acts_end at k src le = rw (drop_all k src le) refl

pub acts_byte : (at : ℕ) (b : ℕ) (src : List ℕ) → opens (b ∷ src) ≡ false → acts_of at 0 (b ∷ src) ≡ acts_of (at + 1) 0 src
unfolding acts_of
acts_byte at b src e = rw e refl

pub acts_open : (at : ℕ) (src : List ℕ) → opens src ≡ true → lexed places.Start 0 (drop 2 src) ≡ None → acts_of at 0 src ≡ no_acts (Some at)
unfolding acts_of
acts_open at [] e f = cc
acts_open at (b ∷ src) e f = rw (e, f) refl

pub acts_action : (at : ℕ) (src : List ℕ) (ls : List Lexeme) → opens src ≡ true → lexed places.Start 0 (drop 2 src) ≡ Some ls → total ls + 4 ≤ length src →
    acts_of at 0 src ≡ before (action_at at ls) (acts_of (at + (total ls + 4)) 0 (drop (total ls + 4) src))
unfolding acts_of
acts_action at [] ls e f le = cc
acts_action at (b ∷ src) ls e f le =
    let k : total ls + 4 ≡ suc (total ls + 3) = omega arith in
    let p : at + 1 + (total ls + 3) ≡ at + (total ls + 4) = omega arith in
    let q : drop (total ls + 3) src ≡ drop (total ls + 4) (b ∷ src) = ap (λ (n : ℕ). drop n (b ∷ src)) (sym k) in
    let first : acts_of at 0 (b ∷ src) ≡ before (action_at at ls) (acts_of (at + 1) (total ls + 3) src) = rw (e, f) refl in
    let skip : acts_of (at + 1) (total ls + 3) src ≡ acts_of (at + 1 + (total ls + 3)) 0 (drop (total ls + 3) src) = acts_skip (at + 1) (total ls + 3) src (omega arith) in
    first ∙ ap (before (action_at at ls)) (skip ∙ ap (λ (n : ℕ). acts_of n 0 (drop (total ls + 3) src)) p ∙ ap (acts_of (at + (total ls + 4)) 0) q)
