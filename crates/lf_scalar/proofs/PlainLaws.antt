-- Reading a plain scalar is the definition, in both directions, and its fault is the breach.
use Rattle.std.proofs.Common.{◌≡◌, ℕ, zero, suc, ◌+◌, ◌<◌, Bool, true, false, cond, List, [], ◌∷◌, ◌++◌, Option, Some, None, Result, Ok, Err, length, refl, ap, arith, sym, ◌∙◌, subst, ◌⊎◌, inl, inr}
use Rattle.std.proofs.lemmas.List.{append-nil, length-append}
use Rattle.std.proofs.lemmas.Bool.{cases_Bool}
use Rattle.lf_base.specs.declared.kind.Kind.TheVariants.{BadIndent, NotANode}
use Rattle.lf_base.specs.declared.fault.Fault.{Fault}
use Rattle.lf_scalar.specs.Cells.{Cell, Value, byte_fault, front, ◌>>=◌}
use Rattle.lf_scalar.specs.Lines.{Line, start_of, is_blank_line, AreBlank}
use Rattle.lf_scalar.specs.Folding.{fold}
use Rattle.lf_scalar.specs.Plain.{plain_text, is_commented, key_sign, continues, has_tab, first_tab, StopsAt, IsLast, GoesOn, PlainFrom, last, more, PlainBreaks, key, tab, later, value_of, Begun, IsPlainScalar, BreaksPlain}
use Rattle.lf_scalar.specs.reading.Plain.{plain_line, tab_with, plain_behind, plain_from, begun_with, plain_lines, plain_of}
use Rattle.lf_scalar.proofs.Tails.{true-false}

line-good : (l : Line) → key_sign (plain_text l) ≡ None → plain_line l ≡ Ok (plain_text l)
line-good l e = rw e refl

-- ---- tabs behind the spaces of lines

-- where the first line with one begins, with some lines more
abbrev pub tab_after : Option ℕ → List Line → Option ℕ
tab_after seen [] = seen
tab_after seen (l ∷ ls) = tab_after (tab_with seen l) ls

abbrev some-place : ℕ → Option ℕ
some-place at = Some at

stays : (at : ℕ) (ls : List Line) → tab_after (some-place at) ls ≡ Some at
stays at [] = refl
stays at (l ∷ ls) = stays at ls

first-is : (ls : List Line) → tab_after None ls ≡ first_tab ls
first-is [] = refl
first-is (l ∷ ls) =
    elim (cases_Bool (has_tab l)) [
      | inl a ↦ rw a (stays (start_of l) ls)
      | inr a ↦ rw a (first-is ls)
    ]

one-after : (seen : Option ℕ) (blank : List Line) (next : Line) → tab_after seen (blank ++ next ∷ []) ≡ tab_with (tab_after seen blank) next
one-after seen [] next = refl
one-after seen (l ∷ ls) next = one-after (tab_with seen l) ls next

next-seen : (blank : List Line) (next : Line) → tab_with (tab_after None blank) next ≡ first_tab (blank ++ next ∷ [])
next-seen blank next = sym (one-after None blank next) ∙ first-is (blank ++ next ∷ [])

-- ---- blank lines, and what stands behind them

pub blanks-passed : (above break k : ℕ) (seen : Option ℕ) (blank rest : List Line) → AreBlank blank → plain_behind above break k seen (blank ++ rest) ≡ plain_behind above break (k + length blank) (tab_after seen blank) rest
unfolding plain_behind
blanks-passed above break k seen [] rest h = ap (λ (n : ℕ). plain_behind above break n seen rest) (omega arith)
blanks-passed above break k seen (l ∷ ls) rest h =
    let n : suc k + length ls ≡ k + suc (length ls) = omega arith in
    rw h.0 (blanks-passed above break (suc k) (tab_with seen l) ls rest h.1 ∙ ap (λ (m : ℕ). plain_behind above break m (tab_after (tab_with seen l) ls) rest) n)

behind-blanks : (above break : ℕ) (blank rest : List Line) → AreBlank blank → plain_behind above break 0 None (blank ++ rest) ≡ plain_behind above break (length blank) (tab_after None blank) rest
behind-blanks above break blank rest h =
    let n : 0 + length blank ≡ length blank = omega arith in
    blanks-passed above break 0 None blank rest h ∙ ap (λ (m : ℕ). plain_behind above break m (tab_after None blank) rest) n

pub stops : (above break k : ℕ) (seen : Option ℕ) (ls : List Line) → StopsAt above ls → plain_behind above break k seen ls ≡ Ok []
unfolding plain_behind
stops above break k seen [] h = refl
stops above break k seen (l ∷ ls) h = rw (h.1, h.0) refl

-- a line that goes on isn't blank
content-full : (l : Line) (above : ℕ) → continues above l ≡ true → is_blank_line l ≡ false
content-full l above h = by (is_blank_line l) refl
  where
    by : (b : Bool) → is_blank_line l ≡ b → is_blank_line l ≡ false
    by true e = true-false (continues above l) h (rw e refl)
    by false e = e

pub goes : (above break k : ℕ) (seen : Option ℕ) (l : Line) (ls : List Line) → continues above l ≡ true → tab_with seen l ≡ None → plain_behind above break k seen (l ∷ ls) ≡ front (fold break k) (plain_from above l ls)
unfolding plain_behind
goes above break k seen l ls c t = rw (c, t, content-full l above c) refl

pub tabs : (above break k : ℕ) (seen : Option ℕ) (l : Line) (ls : List Line) (at : ℕ) → continues above l ≡ true → tab_with seen l ≡ Some at → plain_behind above break k seen (l ∷ ls) ≡ Err (byte_fault BadIndent at)
unfolding plain_behind
tabs above break k seen l ls at c t = rw (c, t, content-full l above c) refl

-- the same behind blank lines
goes-on : (above break : ℕ) (blank : List Line) (next : Line) (ls : List Line) → AreBlank blank → continues above next ≡ true → first_tab (blank ++ next ∷ []) ≡ None
    → plain_behind above break 0 None (blank ++ next ∷ ls) ≡ front (fold break (length blank)) (plain_from above next ls)
goes-on above break blank next ls are c t = behind-blanks above break blank (next ∷ ls) are ∙ goes above break (length blank) (tab_after None blank) next ls c (next-seen blank next ∙ t)

has-tab : (above break : ℕ) (blank : List Line) (next : Line) (ls : List Line) (at : ℕ) → AreBlank blank → continues above next ≡ true → first_tab (blank ++ next ∷ []) ≡ Some at → plain_behind above break 0 None (blank ++ next ∷ ls) ≡ Err (byte_fault BadIndent at)
has-tab above break blank next ls at are c t = behind-blanks above break blank (next ∷ ls) are ∙ tabs above break (length blank) (tab_after None blank) next ls at c (next-seen blank next ∙ t)

-- ---- what the definition has is read

from-line : (above : ℕ) (l : Line) (ls : List Line) (read : Result (List Cell) Fault) → key_sign (plain_text l) ≡ None → is_commented l ≡ false → plain_behind above l.break 0 None ls ≡ read → plain_from above l ls ≡ front (plain_text l) read
from-line above l ls read e c h = rw (e, c, h) refl

behind-last : (above : ℕ) (l : Line) (ls : List Line) → IsLast above l ls → cond (is_commented l) (Ok []) (plain_behind above l.break 0 None ls) ≡ Ok []
behind-last above l ls (inl c) = rw c refl
behind-last above l ls (inr (blank, rest, source, are, stop)) =
    let h : plain_behind above l.break 0 None ls ≡ Ok [] = ap (plain_behind above l.break 0 None) source ∙ behind-blanks above l.break blank rest are ∙ stops above l.break (length blank) (tab_after None blank) rest stop in
    both (is_commented l) (plain_behind above l.break 0 None ls) h
  where
    both : (b : Bool) (r : Result (List Cell) Fault) → r ≡ Ok [] → cond b (Ok []) r ≡ Ok []
    both true r h = refl
    both false r h = h

pub plain-again : (above : ℕ) (l : Line) (ls : List Line) (text : List Cell) → PlainFrom above l ls text → plain_from above l ls ≡ Ok text
plain-again above l ls _ (last e h) =
    ap (λ (r : Result (List Cell) Fault). r >>= λ text. front text (cond (is_commented l) (Ok []) (plain_behind above l.break 0 None ls))) (line-good l e)
    ∙ ap (front (plain_text l)) (behind-last above l ls h) ∙ ap (λ (x : List Cell). Ok x) (append-nil (plain_text l))
plain-again above l _ _ (more {next = next} {ls = ls} {text = text} blank e g t rest) =
    from-line above l (blank ++ next ∷ ls) (Ok (fold l.break (length blank) ++ text)) e g.bare
    (goes-on above l.break blank next ls g.are_blank g.goes_on t ∙ ap (front (fold l.break (length blank))) (plain-again above next ls text rest))

pub plain-breaks : (above : ℕ) (l : Line) (ls : List Line) (f : Fault) → PlainBreaks above l ls f → plain_from above l ls ≡ Err f
plain-breaks above l _ _ (key {c = c} ls e) = rw e refl
plain-breaks above l _ _ (tab {next = next} {at = at} blank ls e g t) = from-line above l (blank ++ next ∷ ls) (Err (byte_fault BadIndent at)) e g.bare (has-tab above l.break blank next ls at g.are_blank g.goes_on t)
plain-breaks above l _ _ (later {next = next} {ls = ls} {f = f} blank e g t rest) =
    from-line above l (blank ++ next ∷ ls) (Err f) e g.bare
    (goes-on above l.break blank next ls g.are_blank g.goes_on t ∙ ap (front (fold l.break (length blank))) (plain-breaks above next ls f rest))

-- ---- what is read is told by the definition

abbrev pub Answers : ℕ → Line → List Line → Result (List Cell) Fault → Type 0
Answers above l ls (Ok text) = PlainFrom above l ls text
Answers above l ls (Err f) = PlainBreaks above l ls f

-- blank lines, and what stands behind them: nothing that goes on, or a line that does
pub record Stop (above : ℕ) (ls : List Line) : Type 0 where
  pub blank : List Line
  pub rest : List Line
  pub source : ls ≡ blank ++ rest
  pub are_blank : AreBlank blank
  pub stops_at : StopsAt above rest

pub record Go (above : ℕ) (ls : List Line) : Type 0 where
  pub blank : List Line
  pub next : Line
  pub rest : List Line
  pub source : ls ≡ blank ++ next ∷ rest
  pub are_blank : AreBlank blank
  pub goes_on : continues above next ≡ true

stop-or-go : (above : ℕ) (ls : List Line) → Stop above ls ⊎ Go above ls
stop-or-go above [] = inl (record { blank = []; rest = []; source = refl; are_blank = tt; stops_at = tt })
stop-or-go above (l ∷ ls) =
    elim (cases_Bool (is_blank_line l)) [
      | inl a ↦ elim (stop-or-go above ls) [
        | inl s ↦ inl (record { blank = l ∷ s.blank; rest = s.rest; source = ap (λ (x : List Line). l ∷ x) s.source; are_blank = (a, s.are_blank); stops_at = s.stops_at })
        | inr g ↦ inr (record { blank = l ∷ g.blank; next = g.next; rest = g.rest; source = ap (λ (x : List Line). l ∷ x) g.source; are_blank = (a, g.are_blank); goes_on = g.goes_on })
      ]
      | inr a ↦ elim (cases_Bool (continues above l)) [
        | inl c ↦ inr (record { blank = []; next = l; rest = ls; source = refl; are_blank = tt; goes_on = c })
        | inr c ↦ inl (record { blank = []; rest = l ∷ ls; source = refl; are_blank = tt; stops_at = (a, c) })
      ]
    ]

onward : (above : ℕ) (l next : Line) (rest blank : List Line) (read : Result (List Cell) Fault) → key_sign (plain_text l) ≡ None → GoesOn above l blank next → first_tab (blank ++ next ∷ []) ≡ None → Answers above next rest read
    → Answers above l (blank ++ next ∷ rest) (front (plain_text l) (front (fold l.break (length blank)) read))
onward above l next rest blank (Ok text) e g t h = more blank e g t h
onward above l next rest blank (Err f) e g t h = later blank e g t h

bare-line : (above : ℕ) (l : Line) (ls : List Line) → key_sign (plain_text l) ≡ None → is_commented l ≡ false → ((g : Go above ls) → Answers above g.next g.rest (plain_from above g.next g.rest)) → Answers above l ls (plain_from above l ls)
bare-line above l ls e c below =
    elim (stop-or-go above ls) [
      | inl s ↦
          let h : IsLast above l ls = inr (s.blank, s.rest, s.source, s.are_blank, s.stops_at) in
          subst (Answers above l ls) (sym (plain-again above l ls (plain_text l) (last e h))) (last e h)
      | inr g ↦
          let on : GoesOn above l g.blank g.next = record { bare = c; are_blank = g.are_blank; goes_on = g.goes_on } in
          subst (λ (x : List Line). Answers above l x (plain_from above l x)) (sym g.source) (by g on (first_tab (g.blank ++ g.next ∷ [])) refl (below g))
    ]
  where
    by : (g : Go above ls) → GoesOn above l g.blank g.next → (o : Option ℕ) → first_tab (g.blank ++ g.next ∷ []) ≡ o → Answers above g.next g.rest (plain_from above g.next g.rest) → Answers above l (g.blank ++ g.next ∷ g.rest) (plain_from above l (g.blank ++ g.next ∷ g.rest))
    by g on (Some at) t h =
        let told : PlainBreaks above l (g.blank ++ g.next ∷ g.rest) (byte_fault BadIndent at) = tab g.blank g.rest e on t in
        subst (Answers above l (g.blank ++ g.next ∷ g.rest)) (sym (plain-breaks above l (g.blank ++ g.next ∷ g.rest) (byte_fault BadIndent at) told)) told
    by g on None t h =
        subst (Answers above l (g.blank ++ g.next ∷ g.rest))
        (sym (from-line above l (g.blank ++ g.next ∷ g.rest) (front (fold l.break (length g.blank)) (plain_from above g.next g.rest)) e c (goes-on above l.break g.blank g.next g.rest g.are_blank g.goes_on t)))
        (onward above l g.next g.rest g.blank (plain_from above g.next g.rest) e on t h)

pub plain-tells : (above n : ℕ) (l : Line) (ls : List Line) → length ls < n → Answers above l ls (plain_from above l ls)
plain-tells above zero l ls lt = absurd (omega arith)
plain-tells above (suc n) l ls lt = by (key_sign (plain_text l)) refl (λ g. plain-tells above n g.next g.rest (omega (arith, size g)))
  where
    size : (g : Go above ls) → length g.rest < length ls
    size g = let e : length ls ≡ length g.blank + suc (length g.rest) = ap length g.source ∙ length-append g.blank (g.next ∷ g.rest) in omega (arith, e)

    by : (o : Option Cell) → key_sign (plain_text l) ≡ o → ((g : Go above ls) → Answers above g.next g.rest (plain_from above g.next g.rest)) → Answers above l ls (plain_from above l ls)
    by (Some c) e below = subst (Answers above l ls) (sym (plain-breaks above l ls (byte_fault NotANode c.at) (key ls e))) (key ls e)
    by None e below =
        elim (cases_Bool (is_commented l)) [
          | inl c ↦ subst (Answers above l ls) (sym (plain-again above l ls (plain_text l) (last e (inl c)))) (last e (inl c))
          | inr c ↦ bare-line above l ls e c below
        ]

-- ---- the whole

begun-is : (above end : ℕ) (src : List Cell) (b : Begun end src) → plain_of above end src ≡ plain_from above b.first b.following >>= λ text. Ok (value_of b.opening text)
unfolding plain_of
begun-is above end src b = ap (plain_lines above end) b.source ∙ ap (λ (x : List Cell). begun_with b.first x (plain_from above b.first b.following)) b.text

pub plain-read : (above end : ℕ) (src : List Cell) (v : Value) → IsPlainScalar above end src v → plain_of above end src ≡ Ok v
plain-read above end src v h =
    begun-is above end src h.begun ∙ ap (λ (r : Result (List Cell) Fault). r >>= λ text. Ok (value_of h.begun.opening text)) (plain-again above h.begun.first h.begun.following h.text h.from) ∙ ap (λ (x : Value). Ok x) (sym h.value)

pub plain-refused : (above end : ℕ) (src : List Cell) (f : Fault) → BreaksPlain above end src f → plain_of above end src ≡ Err f
plain-refused above end src f (b, h) = begun-is above end src b ∙ ap (λ (r : Result (List Cell) Fault). r >>= λ text. Ok (value_of b.opening text)) (plain-breaks above b.first b.following f h)

abbrev pub Told : ℕ → ℕ → List Cell → Result Value Fault → Type 0
Told above end src (Ok v) = IsPlainScalar above end src v
Told above end src (Err f) = BreaksPlain above end src f

pub plain-told : (above end : ℕ) (src : List Cell) → Begun end src → Told above end src (plain_of above end src)
plain-told above end src b = subst (Told above end src) (sym (begun-is above end src b)) (by (plain_from above b.first b.following) (plain-tells above (suc (length b.following)) b.first b.following (omega arith)))
  where
    by : (r : Result (List Cell) Fault) → Answers above b.first b.following r → Told above end src (r >>= λ text. Ok (value_of b.opening text))
    by (Ok text) h = record { begun = b; text = text; from = h; value = refl }
    by (Err f) h = (b, h)
