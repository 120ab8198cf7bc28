-- Lines between quotes one by one, from the second on.
use Rattle.std.proofs.Common.{◌≡◌, ◌≢◌, ℕ, suc, ◌+◌, ◌<◌, ◌≤◌, eqb, eq-eqb, add-one, arith, length, take, drop, Bool, true, false, List, [], ◌∷◌, ◌++◌, Result, Ok, Err, if◌then◌else◌, refl, ap, append_assoc, sym, ◌∙◌, subst, inl, inr}
use Rattle.std.specs.List.{list_all}
use Rattle.std.proofs.lemmas.List.{append-nil, length-drop}
use Rattle.std.proofs.lemmas.Bool.{ne_eqb}
use Rattle.std.proofs.lemmas.Bool.Decides.{eqb_tells}
use Rattle.lf_base.specs.declared.refusal.Refusal.{Refusal}
use Rattle.lf_base.specs.declared.refusal.Refusal.TheVariants as refusal_of
use Rattle.lf_scalar.specs.declared.quoted.AtBreak.{AtBreak}
use Rattle.lf_base.specs.declared.fault.Fault.{Fault}
use Rattle.lf_base.specs.declared.kind.Kind.TheVariants.{LeftOut}
use Rattle.lf_scalar.specs.Cells.{Cell, cells, byte_fault, Fails, front, ◌>>=◌}
use Rattle.lf_scalar.specs.Lines.{Line, line as one_line, lines_at, start_of, is_blank, is_blank_line}
use Rattle.lf_scalar.specs.Markers.{is_marker}
use Rattle.lf_scalar.specs.Quoted.{Quotes, Break, filled, unindented}
use Rattle.lf_scalar.specs.reading.Quoted.{LineAnswers, broken, line_at, line_of, prefixed, next_line, lines_behind}
use Rattle.lf_scalar.specs.views.Built.{TextAnswers}
use Rattle.lf_scalar.proofs.LineSteps.{lines-nil}
use Rattle.lf_scalar.proofs.Tails.{true-false}

pub front-front : (a b : List Cell) (read : Result (List Cell) Fault) → front a (front b read) ≡ front (a ++ b) read
front-front a b (Ok cs) = ap (λ (x : List Cell). Ok x) (sym (append_assoc a b cs))
front-front a b (Err f) = refl

-- what the lines behind one give once it is read
abbrev pub onward : Quotes → List Line → Result (List Cell × Break) Fault → Result (List Cell) Fault
onward kind ls read = read >>= λ x. front x.0 (lines_behind kind x.1 0 ls)

pub blank-line : (kind : Quotes) (b : Break) (k : ℕ) (l : Line) (ls : List Line) → is_blank_line l ≡ true → lines_behind kind b k (l ∷ ls) ≡ lines_behind kind b (suc k) ls
unfolding lines_behind
blank-line kind b k l ls e = rw e refl

prefix-onward : (kind : Quotes) (ls : List Line) (cs : List Cell) (read : Result (List Cell × Break) Fault) → front cs (onward kind ls read) ≡ onward kind ls (prefixed cs read)
prefix-onward kind ls cs (Ok x) = front-front cs x.0 (lines_behind kind x.1 0 ls)
prefix-onward kind ls cs (Err f) = refl

chosen : (kind : Quotes) (ls : List Line) (cs : List Cell) (read : Result (List Cell × Break) Fault) (f : Fault) (t : Bool) → (if t then Err f else front cs (onward kind ls read)) ≡ onward kind ls (if t then Err f else prefixed cs read)
chosen kind ls cs read f true = refl
chosen kind ls cs read f false = prefix-onward kind ls cs read

pub full-line : (kind : Quotes) (b : Break) (k : ℕ) (l : Line) (ls : List Line) → is_blank_line l ≡ false → lines_behind kind b k (l ∷ ls) ≡ onward kind ls (next_line kind b k l)
unfolding lines_behind
full-line kind b k l ls e = rw e (chosen kind ls (filled b k) (line_of kind (unindented l)) (byte_fault LeftOut (start_of l)) (is_marker l))

-- what some lines give, when a text grew by what came before the lines that are left
pub record Left (kind : Quotes) (whole : Result (List Cell) Fault) (old now : List Cell) (b : Break) (k : ℕ) (ls : List Line) : Type 0 where
  pub out : List Cell
  pub text : now ≡ old ++ out
  pub whole_is : whole ≡ front out (lines_behind kind b k ls)

module _ (kind : Quotes) (whole : Result (List Cell) Fault) (old now : List Cell) (b : Break) (k : ℕ) (l : Line) (ls : List Line) (left : Left kind whole old now b k (l ∷ ls)) where
  pub one-blank : is_blank_line l ≡ true → Left kind whole old now b (suc k) ls
  one-blank e = record { out = left.out; text = left.text; whole_is = left.whole_is ∙ ap (front left.out) (blank-line kind b k l ls e) }

  module _ (full : is_blank_line l ≡ false) where
    whole-is : whole ≡ front left.out (onward kind ls (next_line kind b k l))
    whole-is = left.whole_is ∙ ap (front left.out) (full-line kind b k l ls full)

    pub one-full : (after : List Cell) (a : AtBreak) → LineAnswers (Ok a) now after l.break (next_line kind b k l) → Left kind whole old after (broken a l.break) 0 ls
    one-full after a (part, e, t) =
        record {
          out = left.out ++ part;
          text = t ∙ ap (λ (cs : List Cell). cs ++ part) left.text ∙ append_assoc old left.out part;
          whole_is = whole-is ∙ ap (λ (r : Result (List Cell × Break) Fault). front left.out (onward kind ls r)) e ∙ front-front left.out part (lines_behind kind (broken a l.break) 0 ls);
        }

    pub one-bad : (e : Refusal) → Fails e (next_line kind b k l) → Fails e whole
    one-bad refusal_of.Memory h = tt
    one-bad (refusal_of.At kd span) h = whole-is ∙ ap (λ (r : Result (List Cell × Break) Fault). front left.out (onward kind ls r)) h

pub no-more : {X : Type 0} (x : X) (kind : Quotes) (whole : Result (List Cell) Fault) (old now : List Cell) (b : Break) (k : ℕ) → Left kind whole old now b k [] → TextAnswers (Ok x) old now whole
unfolding lines_behind
no-more x kind whole old now b k left = (left.out, left.whole_is ∙ ap (λ (cs : List Cell). Ok cs) (append-nil left.out), left.text)

-- ---- the same by the bytes of the first line

module _ (kind : Quotes) (whole : Result (List Cell) Fault) (old now : List Cell) (b : Break) (k place t f n : ℕ) (rest line later : List ℕ) (left : Left kind whole old now b k (lines_at place rest))
    (first : lines_at place rest ≡ one_line (cells place (take t rest)) (place + f) ∷ lines_at (place + (f + 1)) (drop (f + 1) rest)) (line_is : line ≡ take t rest) (later_is : later ≡ drop (f + 1) rest)
    (blank : list_all is_blank (cells place line) ≡ eqb n (length line)) where
  by-line : lines_at place rest ≡ line_at place line (place + f) ∷ lines_at (place + f + 1) later
  by-line =
      let p : place + (f + 1) ≡ place + f + 1 = omega arith in
      first ∙ ap (λ (bytes : List ℕ). line_at place bytes (place + f) ∷ lines_at (place + (f + 1)) (drop (f + 1) rest)) (sym line_is) ∙ ap (λ (bytes : List ℕ). line_at place line (place + f) ∷ lines_at (place + (f + 1)) bytes) (sym later_is)
      ∙ ap (λ (m : ℕ). line_at place line (place + f) ∷ lines_at m later) p

  left-by : Left kind whole old now b k (line_at place line (place + f) ∷ lines_at (place + f + 1) later)
  left-by = subst (Left kind whole old now b k) by-line left

  pub step-blank : n ≡ length line → Left kind whole old now b (k + 1) (lines_at (place + f + 1) later)
  step-blank e =
      rw add-one (one-blank kind whole old now b k (line_at place line (place + f)) (lines_at (place + f + 1) later) left-by (blank ∙ eq-eqb n (length line) e))

  is-full : n ≢ length line → list_all is_blank (cells place line) ≡ false
  is-full ne = blank ∙ ne_eqb n (length line) ne

  pub step-full : n ≢ length line → (after : List Cell) (a : AtBreak) → LineAnswers (Ok a) now after (place + f) (next_line kind b k (line_at place line (place + f))) → Left kind whole old after (broken a (place + f)) 0 (lines_at (place + f + 1) later)
  step-full ne after a h = one-full kind whole old now b k (line_at place line (place + f)) (lines_at (place + f + 1) later) left-by (is-full ne) after a h

  pub step-bad : n ≢ length line → (e : Refusal) → Fails e (next_line kind b k (line_at place line (place + f))) → Fails e whole
  step-bad ne e h = one-bad kind whole old now b k (line_at place line (place + f)) (lines_at (place + f + 1) later) left-by (is-full ne) e h

pub at-end : {X : Type 0} (x : X) (kind : Quotes) (whole : Result (List Cell) Fault) (old now : List Cell) (b : Break) (k place : ℕ) (rest : List ℕ) → Left kind whole old now b k (lines_at place rest) → length rest ≤ 0 → TextAnswers (Ok x) old now whole
at-end x kind whole old now b k place [] left le = no-more x kind whole old now b k (subst (Left kind whole old now b k) (lines-nil (place + 0)) left)
at-end x kind whole old now b k place (y ∷ ys) left le = absurd (omega arith)

-- how far the lines behind the first line go
pub step-room : (place f end : ℕ) (rest later : List ℕ) → 0 < length rest → f ≤ length rest → later ≡ drop (f + 1) rest → (0 < length rest → place + length rest ≤ end) → 0 < length later → place + f + 1 + length later ≤ end
step-room place f end rest later pos le e room lt = omega (arith, pos, le, ap length e, length-drop (f + 1) rest, room pos, lt)

pub fewer : (f : ℕ) (rest later : List ℕ) → 0 < length rest → later ≡ drop (f + 1) rest → suc (length later) ≤ length rest
fewer f rest later pos e = omega (arith, pos, ap length e, length-drop (f + 1) rest)

-- by the test for no bytes
pub some-bytes : (b : Bool) (n : ℕ) → b ≡ eqb n 0 → b ≡ false → 0 < n
some-bytes b n e f = elim (eqb_tells n 0) [ inl a ↦ true-false (eqb n 0) a.0 (sym e ∙ f) | inr a ↦ omega (arith, a.1) ]

pub no-bytes : (b : Bool) (n : ℕ) → b ≡ eqb n 0 → b ≡ true → n ≤ 0
no-bytes b n e t = elim (eqb_tells n 0) [ inl a ↦ omega (arith, a.1) | inr a ↦ true-false (eqb n 0) (sym e ∙ t) a.0 ]
