-- Reading a quoted scalar is the definition, in both directions, and its fault is the breach.
use Rattle.std.proofs.Common.{◌≡◌, ℕ, suc, ◌+◌, false, List, [], ◌∷◌, ◌++◌, Option, Some, None, Result, Ok, Err, length, refl, ap, arith, sym, ◌∙◌, subst, inl, inr}
use Rattle.std.specs.List.{flat_map}
use Rattle.lf_base.specs.declared.fault.Fault.{Fault}
use Rattle.lf_base.specs.Faults.{span}
use Rattle.lf_scalar.specs.Cells.{Cell, Value, made, ◌>>=◌}
use Rattle.lf_scalar.specs.Lines.{Line}
use Rattle.lf_scalar.specs.Quoted.{Quotes, raw, Closes, inner_lines, IsClosedScalar, behind, IsQuoted, BreaksQuoted, open_quote, inside, outside}
use Rattle.lf_scalar.specs.reading.Quoted.{lines_of, lines_from, wrong_behind, alone, closed, quoted_of}
use Rattle.lf_scalar.proofs.Closing.{closes-again, inner-again, closes-or-none}
use Rattle.lf_scalar.proofs.InnerLines.{LinesOk, inner-lines}
use Rattle.lf_scalar.proofs.Tails.{tail-told, told-tail, wrong-told, told-wrong, from-front, to-front}
use Rattle.lf_scalar.proofs.QuotedLaws.{from-again, breaks-again, from-tells, Answers, no-some}

module _ (kind : Quotes) (end : ℕ) (opening : Cell) (src : List Cell) where
  abbrev value_of : Closes kind src → List Cell → Value
  value_of c text = made text c.closing.at (span opening.at (c.closing.at + 1))

  abbrev judged : Closes kind src → Result (List Cell) Fault → Result Value Fault
  judged c read = read >>= λ text. alone (value_of c text) (wrong_behind false (behind end c))

  read-is : (c : Closes kind src) → quoted_of kind end opening src ≡ judged c (lines_of kind (inner_lines c))
  unfolding quoted_of
  read-is c = ap (closed kind end opening) (closes-again kind src c)

  closed-is : (v : Value) (h : IsClosedScalar kind opening src v) → quoted_of kind end opening src ≡ alone v (wrong_behind false (behind end h.between))
  closed-is v h =
      let text : lines_of kind (inner_lines h.between) ≡ Ok h.text = ap (lines_of kind) h.source ∙ from-again kind h.first h.following h.text h.from in
      read-is h.between ∙ ap (judged h.between) text ∙ ap (λ (x : Value). alone x (wrong_behind false (behind end h.between))) (sym h.value)

  -- what the definition has is read
  pub quoted-again : (v : Value) → IsQuoted kind end opening src v → quoted_of kind end opening src ≡ Ok v
  quoted-again v h = closed-is v h.closed ∙ ap (alone v) (tail-told false (behind end h.closed.between) h.alone)

  -- a breach is answered
  pub quoted-breaks : (f : Fault) → BreaksQuoted kind end opening src f → quoted_of kind end opening src ≡ Err f
  unfolding quoted_of
  quoted-breaks _ (open_quote none) =
      elim (closes-or-none kind (suc (length src)) src (omega arith)) [
        | inl c ↦ absurd (none c)
        | inr n ↦ ap (closed kind end opening) n
      ]
  quoted-breaks _ (inside {first = first} {following = following} {f = f} c source h) =
      let text : lines_of kind (inner_lines c) ≡ Err f = ap (lines_of kind) source ∙ breaks-again kind first following f h in
      read-is c ∙ ap (judged c) text
  quoted-breaks _ (outside {v = v} {wrong = wrong} h w) = closed-is v h ∙ ap (alone v) (wrong-told false (behind end h.between) wrong (from-front (behind end h.between) wrong w))

  abbrev pub Told : Result Value Fault → Type 0
  Told (Ok v) = IsQuoted kind end opening src v
  Told (Err f) = BreaksQuoted kind end opening src f

  judged-tells : (v : Value) (h : IsClosedScalar kind opening src v) (o : Option Cell) → wrong_behind false (behind end h.between) ≡ o → Told (alone v o)
  judged-tells v h None e = record { closed = h; alone = told-tail false (behind end h.between) e }
  judged-tells v h (Some w) e = outside h (to-front (behind end h.between) w (told-wrong false (behind end h.between) w e))

  lines-tell : (c : Closes kind src) (l : Line) (ls : List Line) (read : Result (List Cell) Fault) → inner_lines c ≡ l ∷ ls → Answers kind l ls read → Told (judged c read)
  lines-tell c l ls (Err f) e h = inside c e h
  lines-tell c l ls (Ok text) e h =
      judged-tells (value_of c text) (record { between = c; first = l; following = ls; source = e; text = text; from = h; value = refl }) (wrong_behind false (behind end c)) refl

  inner-tell : (c : Closes kind src) (ls : List Line) → inner_lines c ≡ ls → LinesOk kind 0 c.closing ls → Told (judged c (lines_of kind ls))
  inner-tell c [] e ok = absurd ok
  inner-tell c (l ∷ ls) e ok = lines-tell c l ls (lines_from kind l ls) e (from-tells kind (suc (length ls)) c.closing l ls (omega arith) ok)

  -- what is read is in the definition, and a fault is a breach
  pub quoted-tells : Told (quoted_of kind end opening src)
  unfolding quoted_of
  quoted-tells =
      elim (closes-or-none kind (suc (length src)) src (omega arith)) [
        | inl c ↦
            let cs = flat_map raw c.raws ++ c.closing ∷ [] in
            subst Told (sym (read-is c)) (inner-tell c (inner_lines c) refl (inner-lines kind (c.closing.at + 1) (suc (length cs)) 0 c.closing cs (flat_map raw c.raws) (omega arith) (omega arith) (inner-again kind src c)))
        | inr n ↦ subst Told (sym (ap (closed kind end opening) n)) (open_quote (λ c. no-some (flat_map raw c.raws, (c.closing, c.rest)) (sym n ∙ closes-again kind src c)))
      ]
