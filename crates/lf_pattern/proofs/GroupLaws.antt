-- What the scans say of plain patterns, of groups and of expansions is what the relations say.
use Rattle.std.proofs.Common.{◌≡◌, ◌≢◌, ◌-◌, ℕ, Bool, true, false, cond, ◌==◌, ◌||◌, ◌&&◌, List, [], ◌∷◌, ◌++◌, length, get_or, drop, take, Option, Some, None, is_some, Result, Ok, Err, IfOk, IfErr, refl, sym, ap, ap₂, subst, ◌∙◌, arith, inl, inr, ◌⊎◌, true≢false, lit<}
use Rattle.std.specs.Prelude.{◌↔◌, IsTrue}
use Rattle.std.specs.List.{flat_map}
use Rattle.std.specs.Option.{option_map_or}
use Rattle.std.specs.Str.{chars}
use Rattle.std.proofs.lemmas.Grind.{common_steps}
use Rattle.std.proofs.lemmas.Bool.{cases_Bool, eqb-true}
use Rattle.std.proofs.lemmas.Bool.Decides.{nat_tests}
use Rattle.std.proofs.lemmas.Option.{none-some, same_Some}
use Rattle.regex.specs.Patterns.{Re}
use Rattle.lf_pattern.specs.Plain.{IsInPair, IsPlainList, IsPlainPattern, HasGroup, is_special}
use Rattle.lf_pattern.specs.Read.{reading, found_group}
use Rattle.lf_pattern.specs.Scan.{alternatives_of, has_pair, inside, is_quiet}
use Rattle.lf_pattern.specs.Plain.{Joins}
use Rattle.lf_pattern.specs.Matching.{IsGroupText, IsPlainGroup, IsRead, IsWhole, Matches, is_read, matches}
use Rattle.lf_pattern.specs.reading.Expansion.{captures, expansion, group_text, is_capture, piece_text, plain_group}
use Rattle.lf_pattern.specs.Replacement.{IsExpansion, IsPieceText, IsTextOf}
use Rattle.lf_pattern.specs.declared.replacement.ReplacementPiece.{ReplacementPiece}
use Rattle.lf_pattern.specs.declared.replacement.ReplacementPiece.TheVariants.{Char, Group}
use Rattle.lf_pattern.proofs.MatchLaws.{matches_is}
use Rattle.lf_pattern.proofs.PlainLaws.{found, is_found, Joins-head, Joins-inside, not_zero, wrapped}

-- ---- patterns that are read

read_by : (p : List ℕ) (o : Option (List (List ℕ))) (r : Option Re) → alternatives_of p ≡ o → ((is_some o || is_some r) ≡ true) ↔ (IsPlainPattern p ⊎ (is_some r ≡ true))
read_by p None r e = (λ t. inr t, λ w. elim w [ inl (xs, h) ↦ absurd (none-some _ (sym e ∙ found p xs h)) | inr t ↦ t ])
read_by p (Some xs) r e = (λ t. inl (xs, is_found p xs e), λ w. refl)

pub read_is : (p : List ℕ) → IsTrue (is_read p) ↔ IsRead p
read_is p = read_by p (alternatives_of p) (reading p) refl

-- ---- the group of a plain pattern

inside_by_pair : (pair quiet : Bool) (cs : List ℕ) → pair ≡ true → quiet ≡ false →
    cond pair (drop (cond quiet 3 1) (take (length cs - 1) cs)) cs ≡ drop 1 (take (length cs - 1) cs)
inside_by_pair true false cs p q = refl
inside_by_pair true true cs p q = absurd (true≢false q)
inside_by_pair false quiet cs p q = absurd (true≢false (sym p))

capture_found : (cs : List ℕ) (vs : List (List ℕ)) → IsPlainList cs vs → is_capture cs ≡ true → IsInPair cs vs
capture_found cs vs plain t =
    let within = drop 1 (take (length cs - 1) cs) in
    let pair : has_pair cs ≡ true = grind (arith, nat_tests) in
    let loud : is_quiet cs ≡ false = grind (arith, nat_tests) in
    let e : inside cs ≡ within = inside_by_pair (has_pair cs) (is_quiet cs) cs pair loud in
    let P : List ℕ → Type 0 = λ l. Joins l vs in
    (within, wrapped cs (grind (arith, nat_tests)) (grind (arith, nat_tests)) (grind (arith, nat_tests)), subst P e (Joins-inside cs vs plain))

capture_is : (inner : List ℕ) → get_or inner 0 0 ≢ 63 → is_capture (40 ∷ inner ++ 41 ∷ []) ≡ true
capture_is inner h = grind (arith, common_steps, nat_tests)

pub capture_given : (cs : List ℕ) (vs : List (List ℕ)) → IsInPair cs vs → is_capture cs ≡ true
unfolding is_special
capture_given cs vs (inner, e, r) = ap is_capture e ∙ capture_is inner (λ h. absurd (not_zero 63 (lit< tt) (Joins-head 63 refl refl refl r h)))

pub captures_is : (p : List ℕ) → IsPlainPattern p → IsTrue (captures p) ↔ HasGroup p
captures_is p (alternatives, (vs, plain, e)) = (λ t. (vs, capture_found (chars p) vs plain t), λ (ws, h). capture_given (chars p) ws h)

-- ---- the texts of groups

whole_by : (n : ℕ) (pair : Bool) (G : Type 0) → (IsTrue pair ↔ G) → IsTrue ((n == 0) || (pair && (n == 1))) ↔ ((n ≡ 0) ⊎ (G × (n ≡ 1)))
whole_by n true G h = (
  λ t. elim (cases_Bool (n == 0)) [ inl q ↦ inl (eqb-true n 0 q) | inr q ↦ inr (h.0 refl, grind (arith, nat_tests)) ],
  λ w. elim w [ inl e ↦ grind (arith, nat_tests) | inr (g, e) ↦ grind (arith, nat_tests) ],
)
whole_by n false G h = (
  λ t. elim (cases_Bool (n == 0)) [ inl q ↦ inl (eqb-true n 0 q) | inr q ↦ absurd (let apart : false ≡ true = grind (arith, nat_tests) in true≢false (sym apart)) ],
  λ w. elim w [ inl e ↦ grind (arith, nat_tests) | inr (g, e) ↦ absurd (true≢false (sym (h.1 g))) ],
)

plain_by : (whole : Bool) (W : Type 0) (value text : List ℕ) → (IsTrue whole ↔ W) → (text ≡ cond whole value []) ↔ ((W × (text ≡ value)) ⊎ ((W → ⊥) × (text ≡ [])))
plain_by true W value text h = (λ t. inl (h.0 refl, t), λ w. elim w [ inl (holds, t) ↦ t | inr (apart, t) ↦ absurd (apart (h.0 refl)) ])
plain_by false W value text h = (λ t. inr ((λ holds. true≢false (sym (h.1 holds))), t), λ w. elim w [ inl (holds, t) ↦ absurd (true≢false (sym (h.1 holds))) | inr (apart, t) ↦ t ])

plain_is : (p value : List ℕ) (n : ℕ) (text : List ℕ) → IsPlainPattern p → (text ≡ plain_group (captures p) value n) ↔ IsPlainGroup p value n text
plain_is p value n text plain = plain_by _ (IsWhole p n) value text (whole_by n (captures p) (HasGroup p) (captures_is p plain))

group_by : (p value : List ℕ) (n : ℕ) (text : List ℕ) (o : Option (List (List ℕ))) → alternatives_of p ≡ o →
    (text ≡ option_map_or (λ _. plain_group (captures p) value n) o (found_group p value n)) ↔ IsGroupText p value n text
group_by p value n text None e =
    let not_plain : IsPlainPattern p → ⊥ = λ (xs, h). none-some _ (sym e ∙ found p xs h) in
    (λ t. inr (not_plain, t), λ w. elim w [ inl (plain, t) ↦ absurd (not_plain plain) | inr (apart, t) ↦ t ])
group_by p value n text (Some xs) e =
    let plain : IsPlainPattern p = (xs, is_found p xs e) in
    let is = plain_is p value n text plain in
    (λ t. inl (plain, is.0 t), λ w. elim w [ inl (also, t) ↦ is.1 t | inr (apart, t) ↦ absurd (apart plain) ])

pub group_is : (p value : List ℕ) (n : ℕ) (text : List ℕ) → (text ≡ group_text p value n) ↔ IsGroupText p value n text
group_is p value n text = group_by p value n text (alternatives_of p) refl

-- ---- expansions

piece_is : (p value : List ℕ) (piece : ReplacementPiece) (text : List ℕ) → (text ≡ piece_text (group_text p value) piece) ↔ IsPieceText p value piece text
piece_is p value (Char c) text = (λ t. t, λ t. t)
piece_is p value (Group n) text = group_is p value n text

pub text_is : (p value : List ℕ) (ps : List ReplacementPiece) (text : List ℕ) → (text ≡ flat_map (piece_text (group_text p value)) ps) ↔ IsTextOf p value ps text
text_is p value [] text = (λ t. t, λ t. t)
text_is p value (piece ∷ ps) text = (
  λ t. (piece_text (group_text p value) piece, flat_map (piece_text (group_text p value)) ps, (piece_is p value piece _).0 refl, (text_is p value ps _).0 refl, t),
  λ (first, rest, a, b, e). e ∙ ap₂ (λ (x y : List ℕ). x ++ y) ((piece_is p value piece first).1 a) ((text_is p value ps rest).1 b),
)

expansion_by : (p value : List ℕ) (ps : List ReplacementPiece) (r : Option (List ℕ)) (b : Bool) → matches p value ≡ b →
    (r ≡ cond b (Some (flat_map (piece_text (group_text p value)) ps)) None) ↔ IsExpansion p value ps r
expansion_by p value ps None true e = (λ h. absurd (none-some _ h), λ apart. absurd (apart ((matches_is p value).0 e)))
expansion_by p value ps None false e = (λ h m. true≢false (sym ((matches_is p value).1 m) ∙ e), λ apart. refl)
expansion_by p value ps (Some text) true e = (
  λ h. ((matches_is p value).0 e, (text_is p value ps text).0 (same_Some _ _ h)),
  λ (m, h). ap Some ((text_is p value ps text).1 h),
)
expansion_by p value ps (Some text) false e = (λ h. absurd (none-some _ (sym h)), λ (m, h). absurd (true≢false (sym ((matches_is p value).1 m) ∙ e)))

pub expansion_is : (p value : List ℕ) (ps : List ReplacementPiece) (r : Option (List ℕ)) → (r ≡ expansion p value ps) ↔ IsExpansion p value ps r
expansion_is p value ps r = expansion_by p value ps r (matches p value) refl

-- ---- what clauses say

pub unread_of : {A E : Type 0} (r : Result A E) (bad : E) (p : List ℕ) → IfErr r (λ e. e ≡ bad → is_read p ≡ false) → IfErr r (λ e. e ≡ bad → IsRead p → ⊥)
unread_of (Ok x) bad p h = tt
unread_of (Err e) bad p h = λ is read. true≢false (sym ((read_is p).1 read) ∙ h is)

pub meaning_of : {E : Type 0} (r : Result (Option (List ℕ)) E) (p value : List ℕ) (ps : List ReplacementPiece) → IfOk r (λ o. o ≡ expansion p value ps) → IfOk r (IsExpansion p value ps)
meaning_of (Ok o) p value ps h = (expansion_is p value ps o).0 h
meaning_of (Err e) p value ps h = tt

pub none_of : {E : Type 0} (r : Result (Option (List ℕ)) E) (p value : List ℕ) (ps : List ReplacementPiece) → IfOk r (IsExpansion p value ps) → IfOk r (λ o. (o ≡ None) ↔ (Matches p value → ⊥))
none_of (Ok None) p value ps h = (λ e. h, λ unmatched. refl)
none_of (Ok (Some t)) p value ps h = (λ e. absurd (none-some _ (sym e)), λ unmatched. absurd (unmatched h.0))
none_of (Err e) p value ps h = tt

pub only_of : {E : Type 0} (r : Result (Option (List ℕ)) E) (p value : List ℕ) (ps : List ReplacementPiece) (o : Option (List ℕ)) → IfOk r (λ o. o ≡ expansion p value ps) → IsExpansion p value ps o → IfOk r (λ x. x ≡ o)
only_of (Ok x) p value ps o h is = h ∙ sym ((expansion_is p value ps o).1 is)
only_of (Err e) p value ps o h is = tt
