-- A text is read in one way, and its tokens stand in order.
use Rattle.std.proofs.Common.{◌≡◌, ℕ, suc, ◌+◌, ◌-◌, ◌<◌, ◌≤◌, Bool, false, List, [], ◌∷◌, ◌++◌, length, get_or, drop, Option, Some, None, Result, Ok, Err, refl, ap, arith, append_assoc, sym, ◌∙◌, subst}
use Rattle.std.specs.Prelude.{IfOk}
use Rattle.std.specs.List.Sorted.{IsNonDecreasing, IsNonDecreasingBy}
use Rattle.std.proofs.lemmas.List.{append-nil, drop_all, drop_more, drop-drop}
use Rattle.std.proofs.lemmas.List.Sorted.{IsNonDecreasingBy-push}
use Rattle.lf_base.specs.declared.refusal.Refusal.{Refusal}
use Rattle.lf_base.specs.declared.refusal.Refusal.TheVariants.{At, Memory}
use Rattle.lf_lex.specs.declared.token.Token.{Token}
use Rattle.lf_lex.specs.declared.token.TokenKind.{TokenKind}
use Rattle.lf_lex.specs.reading.Steps.{Front, next_token}
use Rattle.lf_lex.specs.Tokens.{in_source}
use Rattle.lf_base.specs.declared.fault.Fault.{Fault}
use Rattle.lf_base.specs.Faults.{fault}
use Rattle.lf_base.specs.Answers.{Answers, IfAt, Refused}
use Rattle.lf_lex.specs.reading.Reads.{Reads, ends, goes_on, breaks, behind, tokens_at, with_front}

-- ---- one reading

same_found : (f g : Front) (r : Result Front Fault) → r ≡ Ok f → r ≡ Ok g → g ≡ f
same_found f g r e h = cc

clash : (f : Front) (fault : Fault) (r : Result Front Fault) → r ≡ Ok f → r ≡ Err fault → ⊥
clash f fault r e h = cc

found_or_fault : {X : Type 0} (f : Front) (fault : Fault) (r : Result Front Fault) → r ≡ Ok f → r ≡ Err fault → X
found_or_fault f fault r e h = absurd (clash f fault r e h)

same_fault : (fault other : Fault) (r : Result Front Fault) → r ≡ Err fault → r ≡ Err other → fault ≡ other
same_fault fault other r e h = cc

pub one_reading : {from : List ℕ} {inside : Bool} {at : ℕ} {src : List ℕ} {answer other : Result (List Token) Fault} → Reads from inside at src answer → Reads from inside at src other → answer ≡ other
one_reading ends ends = refl
one_reading {from} {inside} {at} (goes_on {b = b} {src = src} {answer = answer} found n e more) (goes_on {answer = other} found' n' e' more') =
    let p : (found', n') ≡ (found, n) = same_found (found, n) (found', n') _ e e' in
    let moved : Reads from (behind found inside) (at + n) (drop n (b ∷ src)) other = subst (λ (f : Front). Reads from (behind f.0 inside) (at + f.1) (drop f.1 (b ∷ src)) other) p more' in
    ap (with_front (tokens_at found (in_source from at (at + n)))) (one_reading more moved) ∙ ap (λ (f : Front). with_front (tokens_at f.0 (in_source from at (at + f.1))) other) (sym p)
one_reading (goes_on found n e more) (breaks fault e') = found_or_fault (found, n) fault _ e e'
one_reading (breaks fault e) (goes_on found n e' more') = found_or_fault (found, n) fault _ e' e
one_reading (breaks fault e) (breaks fault' e') = ap (λ (f : Fault). Err f) (same_fault fault fault' _ e e')

-- ---- the tokens so far

pub fronts : (xs ys : List Token) (answer : Result (List Token) Fault) → with_front (xs ++ ys) answer ≡ with_front xs (with_front ys answer)
fronts xs ys (Ok more) = ap (λ (x : List Token). Ok x) (append_assoc xs ys more)
fronts xs ys (Err fault) = refl

no_front : (answer : Result (List Token) Fault) → with_front [] answer ≡ answer
no_front (Ok more) = refl
no_front (Err fault) = refl

-- the tokens so far, before those of what is left
abbrev pub SoFar : List ℕ → List ℕ → Bool → ℕ → List Token → Type 0
SoFar from text inside at tokens = (answer : Result (List Token) Fault) → Reads from inside at (drop at text) answer → Reads from false 0 text (with_front tokens answer)

pub so_far_none : (from text : List ℕ) → SoFar from text false 0 []
so_far_none from text = λ answer h. subst (Reads from false 0 text) (sym (no_front answer)) h

module _ (from text : List ℕ) (inside : Bool) (at : ℕ) (tokens : List Token) (so_far : SoFar from text inside at tokens) (lt : at < length text) where
  pub so_far_more : (found : Option TokenKind) (n : ℕ) → next_token from inside at (drop at text) ≡ Ok (found, n) → SoFar from text (behind found inside) (at + n) (tokens ++ tokens_at found (in_source from at (at + n)))
  so_far_more found n e = λ answer h.
      let new = tokens_at found (in_source from at (at + n)) in
      let q : drop at text ≡ get_or text at 0 ∷ drop (at + 1) text = drop_more text at 0 lt in
      let r : drop (at + n) text ≡ drop n (get_or text at 0 ∷ drop (at + 1) text) = sym (drop-drop n at text) ∙ ap (drop n) q in
      let step : Reads from inside at (get_or text at 0 ∷ drop (at + 1) text) (with_front new answer) = goes_on found n (ap (next_token from inside at) (sym q) ∙ e) (subst (λ (src : List ℕ). Reads from (behind found inside) (at + n) src answer) r h) in
      subst (Reads from false 0 text) (sym (fronts tokens new answer)) (so_far (with_front new answer) (subst (λ (src : List ℕ). Reads from inside at src (with_front new answer)) (sym q) step))

  pub so_far_breaks : (fault : Fault) → next_token from inside at (drop at text) ≡ Err fault → Reads from false 0 text (Err fault)
  so_far_breaks fault e =
      let q : drop at text ≡ get_or text at 0 ∷ drop (at + 1) text = drop_more text at 0 lt in
      let step : Reads from inside at (get_or text at 0 ∷ drop (at + 1) text) (Err fault) = breaks fault (ap (next_token from inside at) (sym q) ∙ e) in
      so_far (Err fault) (subst (λ (src : List ℕ). Reads from inside at src (Err fault)) (sym q) step)

  pub refusal_breaks : (refusal : Refusal) → IfAt refusal (λ f. next_token from inside at (drop at text) ≡ Err f) → IfAt refusal (λ fault. Reads from false 0 text (Err fault))
  refusal_breaks Memory h = tt
  refusal_breaks (At kind span) h = so_far_breaks (fault kind span) h

pub so_far_all : (from text : List ℕ) (inside : Bool) (at : ℕ) (tokens : List Token) → SoFar from text inside at tokens → length text ≤ at → Reads from false 0 text (Ok tokens)
so_far_all from text inside at tokens so_far le =
    let step : Reads from inside at (drop at text) (Ok []) = subst (λ (src : List ℕ). Reads from inside at src (Ok [])) (sym (drop_all at text le)) ends in
    subst (λ (x : List Token). Reads from false 0 text (Ok x)) (append-nil tokens) (so_far (Ok []) step)

-- ---- the answer

pub answers_all : (from text : List ℕ) (r : Result (List Token) Refusal) → IfOk r (λ tokens. Reads from false 0 text (Ok tokens)) → Refused (λ fault. Reads from false 0 text (Err fault)) r → (answer : Result (List Token) Fault) → Reads from false 0 text answer → Answers r answer
answers_all from text (Ok tokens) found refused answer h = one_reading h found
answers_all from text (Err Memory) found refused answer h = tt
answers_all from text (Err (At kind span)) found refused answer h = one_reading h refused

-- ---- the order

abbrev pub start_of : Token → ℕ
start_of token = token.span.start

-- the last token so far begins at a place or before it
abbrev pub LastBefore : ℕ → List Token → Type 0
LastBefore place tokens = (d : Token) → 0 < length tokens → start_of (get_or tokens (length tokens - 1) d) ≤ place

last_push : (tokens : List Token) (new d : Token) → get_or (tokens ++ new ∷ []) (length (tokens ++ new ∷ []) - 1) d ≡ new
last_push [] new d = refl
last_push (t ∷ []) new d = refl
last_push (t ∷ u ∷ tokens) new d =
    let e : length (t ∷ u ∷ (tokens ++ new ∷ [])) - 1 ≡ suc (length (u ∷ (tokens ++ new ∷ [])) - 1) = omega arith in
    rw e (last_push (u ∷ tokens) new d)

module _ (from : List ℕ) (at n : ℕ) (tokens : List Token) (rises : IsNonDecreasing from) (lt : at + n < length from) (ordered : IsNonDecreasingBy start_of tokens) (last : LastBefore (get_or from at 0) tokens) where
  step_up : get_or from at 0 ≤ get_or from (at + n) 0
  step_up = rises at (at + n) 0 (omega arith) lt

  pub ordered_more : (found : Option TokenKind) → IsNonDecreasingBy start_of (tokens ++ tokens_at found (in_source from at (at + n)))
  ordered_more None = subst (IsNonDecreasingBy start_of) (sym (append-nil tokens)) ordered
  ordered_more (Some kind) = IsNonDecreasingBy-push start_of tokens (record { kind = kind; span = in_source from at (at + n) }) ordered last

  pub last_more : (found : Option TokenKind) → LastBefore (get_or from (at + n) 0) (tokens ++ tokens_at found (in_source from at (at + n)))
  last_more None = subst (LastBefore (get_or from (at + n) 0)) (sym (append-nil tokens)) (λ d p. let h = last d p in let k = step_up in omega arith)
  last_more (Some kind) = λ d p. let e = ap start_of (last_push tokens (record { kind = kind; span = in_source from at (at + n) }) d) in let k = step_up in omega arith
