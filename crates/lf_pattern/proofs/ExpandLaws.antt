-- What pieces of a replacement stand for.
use Rattle.std.proofs.Common.{◌≡◌, ◌≤◌, ℕ, zero, suc, min, Bool, true, false, cond, List, [], ◌∷◌, ◌++◌, map, Option, Some, None, Result, Ok, Err, IfOk, refl, sym, ap, ap₂, ◌∙◌, arith, inl, inr}
use Rattle.std.specs.List.{flat_map}
use Rattle.std.proofs.lemmas.Bool.{cases_lt}
use Rattle.std.proofs.lemmas.Bool.Decides.{nat_tests}
use Rattle.std.proofs.lemmas.Option.{none-some}
use Rattle.lf_pattern.specs.declared.replacement.ReplacementPiece.{ReplacementPiece}
use Rattle.lf_pattern.specs.declared.replacement.ReplacementPiece.TheVariants.{Char, Group}
use Rattle.lf_pattern.specs.views.Groups.{IsFew}
use Rattle.lf_pattern.specs.reading.Expansion.{expanded, piece_text, plain_group}
use Rattle.lf_pattern.specs.reading.Replacement.{greatest, bounded}

same_piece : (f g : ℕ → List ℕ) → ((n : ℕ) → f n ≡ g n) → (p : ReplacementPiece) → piece_text f p ≡ piece_text g p
same_piece f g h (Char c) = refl
same_piece f g h (Group n) = h n

pub same_pieces : (f g : ℕ → List ℕ) → ((n : ℕ) → f n ≡ g n) → (ps : List ReplacementPiece) → flat_map (piece_text f) ps ≡ flat_map (piece_text g) ps
same_pieces f g h [] = refl
same_pieces f g h (p ∷ ps) = ap₂ (λ (a b : List ℕ). a ++ b) (same_piece f g h p) (same_pieces f g h ps)

-- no group has the greatest number or a greater one
abbrev pub AreFew : (ℕ → List ℕ) → Type 0
AreFew f = (n : ℕ) → greatest ≤ n → f n ≡ []

bounded_number : (f : ℕ → List ℕ) → AreFew f → (n : ℕ) → f (min n greatest) ≡ f n
bounded_number f few n = elim (cases_lt n greatest) [
  | inl lt ↦ ap f (let e : min n greatest ≡ n = omega arith in e)
  | inr le ↦ ap f (let e : min n greatest ≡ greatest = omega arith in e) ∙ few greatest (omega arith) ∙ sym (few n le)
]

bounded_piece : (f : ℕ → List ℕ) → AreFew f → (p : ReplacementPiece) → piece_text f (bounded p) ≡ piece_text f p
bounded_piece f few (Char c) = refl
bounded_piece f few (Group n) = bounded_number f few n

pub bounded_pieces : (f : ℕ → List ℕ) → AreFew f → (ps : List ReplacementPiece) → flat_map (piece_text f) (map bounded ps) ≡ flat_map (piece_text f) ps
bounded_pieces f few [] = refl
bounded_pieces f few (p ∷ ps) = ap₂ (λ (a b : List ℕ). a ++ b) (bounded_piece f few p) (bounded_pieces f few ps)

pub plain_few : (pair : Bool) (value : List ℕ) → AreFew (plain_group pair value)
plain_few pair value n le = grind (arith, nat_tests)

-- an answer on the pieces with bounded numbers is one on the pieces
answer : (o : Option (List ℕ)) (b : Bool) (f : ℕ → List ℕ) (ps : List ReplacementPiece) → o ≡ expanded b f (map bounded ps) → IsFew o f → o ≡ expanded b f ps
answer None true f ps e few = absurd (none-some _ e)
answer None false f ps e few = refl
answer (Some t) true f ps e few = e ∙ ap Some (bounded_pieces f few ps)
answer (Some t) false f ps e few = absurd (none-some _ (sym e))

pub expanded_alike : (b c : Bool) (f g : ℕ → List ℕ) (ps : List ReplacementPiece) → b ≡ c → ((n : ℕ) → f n ≡ g n) → expanded b f ps ≡ expanded c g ps
expanded_alike b c f g ps e h = ap₂ (λ (x : Bool) (y : List ℕ). cond x (Some y) None) e (same_pieces f g h ps)

pub answer_few : {E : Type 0} (r : Result (Option (List ℕ)) E) (b c : Bool) (f g : ℕ → List ℕ) (qs ps : List ReplacementPiece) → qs ≡ map bounded ps → b ≡ c → ((n : ℕ) → f n ≡ g n) →
    IfOk r (λ o. o ≡ expanded b f qs) → IfOk r (λ o. IsFew o f) → IfOk r (λ o. o ≡ expanded c g ps)
answer_few (Ok o) b c f g qs ps q e h is few = answer o b f ps (is ∙ ap (expanded b f) q) few ∙ expanded_alike b c f g ps e h
answer_few (Err x) b c f g qs ps q e h is few = tt

few_anyway : {E : Type 0} (r : Result (Option (List ℕ)) E) (f : ℕ → List ℕ) → AreFew f → IfOk r (λ o. IsFew o f)
few_anyway (Ok None) f few = tt
few_anyway (Ok (Some t)) f few = few
few_anyway (Err x) f few = tt

pub answer_plain : {E : Type 0} (r : Result (Option (List ℕ)) E) (b c pair : Bool) (value : List ℕ) (g : ℕ → List ℕ) (qs ps : List ReplacementPiece) → qs ≡ map bounded ps → b ≡ c → ((n : ℕ) → plain_group pair value n ≡ g n) →
    IfOk r (λ o. o ≡ expanded b (plain_group pair value) qs) → IfOk r (λ o. o ≡ expanded c g ps)
answer_plain r b c pair value g qs ps q e h is = answer_few r b c (plain_group pair value) g qs ps q e h is (few_anyway r (plain_group pair value) (plain_few pair value))

-- of groups that have these texts the greatest number is never 0
pub few_of_later : (f : ℕ → List ℕ) → ((k : ℕ) → greatest ≤ suc k → f (suc k) ≡ []) → (n : ℕ) → greatest ≤ n → f n ≡ []
few_of_later f later zero le = absurd (omega (arith, le))
few_of_later f later (suc k) le = later k le
