-- The spans of references and of breaches lie in the source.
use Rattle.std.proofs.Common.{◌≡◌, ℕ, ◌+◌, ◌-◌, ◌≤◌, Bool, true, false, cond, ◌&&◌, ◌||◌, List, [], ◌∷◌, map, Some, None, Result, Ok, Err, length, ap, arith, sym, ◌∙◌, subst, length-append}
use Rattle.std.specs.Prelude.{IfOk, IfErr}
use Rattle.std.specs.List.{AllByRecursion, list_any}
use Rattle.std.specs.List.Sorted.{IsNonDecreasing}
use Rattle.lf_base.specs.declared.refusal.Refusal.{Refusal}
use Rattle.lf_base.specs.declared.refusal.Refusal.TheVariants.{At, Memory}
use Rattle.lf_templates.specs.declared.token.Word.{Word}
use Rattle.lf_templates.specs.declared.token.Lexeme.{Lexeme}
use Rattle.lf_templates.specs.declared.token.ReferenceSpan.{ReferenceSpan}
use Rattle.lf_templates.specs.declared.reference.Reference.{Reference}
use Rattle.lf_base.specs.Answers.{IfAt}
use Rattle.lf_base.specs.declared.fault.Fault.{Fault}
use Rattle.lf_templates.specs.Source.{LiesInSource, in_source}
use Rattle.lf_templates.specs.Actions.{tokens_of, goes_on, is_root, is_labels_field, is_field, begins_row, row_to, row_of_two, row_here, as_list, rows, sets_labels}
use Rattle.lf_templates.specs.Templates.{TemplatePiece, Byte, Braced, piece_text, piece_texts, Action, actions_of, word_of_action, is_flawed, first_flawed, bodies_behind, bodies_round, hides, IsTemplateBreach, flawed, unended, Breaks, References, reference, references_in, references_of}
use Rattle.lf_templates.specs.reading.Templates.{total}
use Rattle.lf_templates.proofs.Pieces.{braced_length}
use Rattle.lf_laws.proofs.Members.{all_append}

-- ---- rows

abbrev IsBelow : ℕ → ReferenceSpan → Type 0
IsBelow n r = (r.start ≤ r.end) × (r.end ≤ n)

two_below : (inside : Bool) (at : ℕ) (l m : Lexeme) (n : ℕ) → at + l.len + m.len ≤ n → AllByRecursion (IsBelow n) (as_list (row_of_two inside at l m))
two_below inside at l m n le = by (begins_row inside l.token && is_field m.token)
  where
    by : (t : Bool) → AllByRecursion (IsBelow n) (as_list (cond t (Some (row_to at l.len m.len)) None))
    by true = ((omega arith, omega arith), tt)
    by false = tt

here_below : (inside : Bool) (at : ℕ) (ls : List Lexeme) (n : ℕ) → at + total ls ≤ n → AllByRecursion (IsBelow n) (as_list (row_here inside at ls))
here_below inside at [] n le = tt
here_below inside at (l ∷ []) n le = tt
here_below inside at (l ∷ m ∷ []) n le = two_below inside at l m n (omega arith)
here_below inside at (l ∷ m ∷ o ∷ ls) n le = by (is_root l.token && is_labels_field m.token && is_field o.token)
  where
    by : (t : Bool) → AllByRecursion (IsBelow n) (as_list (cond t (Some (row_to at (l.len + m.len) o.len)) (row_of_two inside at l m)))
    by true = ((omega arith, omega arith), tt)
    by false = two_below inside at l m n (omega arith)

rows_below : (ls : List Lexeme) (inside : Bool) (at n : ℕ) → at + total ls ≤ n → AllByRecursion (IsBelow n) (rows inside at ls)
rows_below [] inside at n le = tt
rows_below (l ∷ ls) inside at n le = all_append (IsBelow n) (as_list (row_here inside at (l ∷ ls))) (rows (goes_on l.token) (at + l.len) ls) (here_below inside at (l ∷ ls) n le) (rows_below ls (goes_on l.token) (at + l.len) n (omega arith))

-- ---- actions

-- It ends before an offset, and its tokens stand between its braces.
pub record EndsBy (n : ℕ) (a : Action) : Type 0 where
  pub order : a.start ≤ a.end
  pub within : a.end ≤ n
  pub tokens : a.start + 2 + total a.lexemes ≤ n

actions_end : (pieces : List TemplatePiece) (at n : ℕ) → at + length (piece_texts pieces) ≤ n → AllByRecursion (EndsBy n) (actions_of at pieces)
actions_end [] at n le = tt
actions_end ((Byte b) ∷ pieces) at n le = actions_end pieces (at + 1) n (omega arith)
actions_end ((Braced parts) ∷ pieces) at n le =
    let l = length-append (piece_text (Braced parts)) (piece_texts pieces) in
    let k = braced_length parts in
    (record { order = omega arith; within = omega arith; tokens = omega arith }, actions_end pieces (at + length (piece_text (Braced parts))) n (omega arith))

module _ (from text : List ℕ) (count : length from ≡ length text + 1) (rises : IsNonDecreasing from) where
  lies : (start end : ℕ) → start ≤ end → end ≤ length text → LiesInSource from (in_source from start end)
  lies start end order within =
      let e : length from - 1 ≡ length text = omega arith in
      (rises 0 start 0 (omega arith) (omega arith), rises start end 0 order (omega arith), rw e (rises end (length text) 0 within (omega arith)))

  abbrev LiesHere : Reference → Type 0
  LiesHere r = LiesInSource from r.span

  told_lie : (rs : List ReferenceSpan) → AllByRecursion (IsBelow (length text)) rs → AllByRecursion LiesHere (map (reference from text) rs)
  told_lie [] h = tt
  told_lie (r ∷ rs) h = (lies r.start r.end h.0.0 h.0.1, told_lie rs h.1)

  in_lie : (hidden : Bool) (a : Action) → EndsBy (length text) a → AllByRecursion LiesHere (references_in from text hidden a)
  in_lie true a h = tt
  in_lie false a h = told_lie (rows false (a.start + 2) a.lexemes) (rows_below a.lexemes false (a.start + 2) (length text) h.tokens)

  of_lie : (actions : List Action) (bodies : List Word) (renamed : Bool) → AllByRecursion (EndsBy (length text)) actions → AllByRecursion LiesHere (references_of from text bodies renamed actions)
  of_lie [] bodies renamed h = tt
  of_lie (a ∷ later) bodies renamed h =
      let gone = renamed || sets_labels (tokens_of a.lexemes) in
      let hidden = gone || list_any hides (bodies_round (word_of_action a) bodies) in
      all_append LiesHere (references_in from text hidden a) (references_of from text (bodies_behind (word_of_action a) bodies) gone later) (in_lie hidden a h.0) (of_lie later (bodies_behind (word_of_action a) bodies) gone h.1)

  pub references_lie : (found : List Reference) → References from text found → AllByRecursion LiesHere found
  references_lie found r =
      let e = ap length r.source in
      subst (AllByRecursion LiesHere) (sym r.found_are) (of_lie (actions_of 0 r.pieces) [] false (actions_end r.pieces 0 (length text) (omega arith)))

  flawed_ends : (actions : List Action) (bodies : List Word) (a : Action) (n : ℕ) → AllByRecursion (EndsBy n) actions → first_flawed bodies actions ≡ Some a → EndsBy n a
  flawed_ends [] bodies a n h e = cc
  flawed_ends (x ∷ later) bodies a n h e = by (is_flawed bodies x later) (λ f. flawed_ends later (bodies_behind (word_of_action x) bodies) a n h.1 f) e
    where
      by : (t : Bool) → (first_flawed (bodies_behind (word_of_action x) bodies) later ≡ Some a → EndsBy n a) → cond t (Some x) (first_flawed (bodies_behind (word_of_action x) bodies) later) ≡ Some a → EndsBy n a
      by true again e = let f : x ≡ a = cc in subst (EndsBy n) f h.0
      by false again e = again e

  pub breach_lies : (fault : Fault) → Breaks from text fault → LiesInSource from fault.span
  breach_lies fault b = by b.breach
    where
      size : length text ≡ length (piece_texts b.pieces) + length b.rest
      size = ap length b.source ∙ length-append (piece_texts b.pieces) b.rest

      by : IsTemplateBreach from (length (piece_texts b.pieces)) b.rest (actions_of 0 b.pieces) fault → LiesInSource from fault.span
      by (flawed a e f) =
          let s : length text ≡ length (piece_texts b.pieces) + length b.rest = ap length b.source ∙ length-append (piece_texts b.pieces) b.rest in
          let ends = flawed_ends (actions_of 0 b.pieces) [] a (length text) (actions_end b.pieces 0 (length text) (omega arith)) e in
          subst (λ (x : Fault). LiesInSource from x.span) (sym f) (lies a.start a.end ends.order ends.within)
      by (unended e o f) =
          let s : length text ≡ length (piece_texts b.pieces) + length b.rest = ap length b.source ∙ length-append (piece_texts b.pieces) b.rest in
          let t = ap length o.source in
          subst (λ (x : Fault). LiesInSource from x.span) (sym f) (lies (length (piece_texts b.pieces)) (length (piece_texts b.pieces) + 2) (omega arith) (omega arith))

  pub found_inside : (r : Result (List Reference) Refusal) → IfOk r (References from text) → IfOk r (AllByRecursion LiesHere)
  found_inside (Ok found) h = references_lie found h
  found_inside (Err e) h = tt

  pub refused_inside : (r : Result (List Reference) Refusal) → IfErr r (λ refusal. IfAt refusal (Breaks from text)) → IfErr r (λ refusal. IfAt refusal (λ fault. LiesInSource from fault.span))
  refused_inside (Ok found) h = tt
  refused_inside (Err Memory) h = tt
  refused_inside (Err (At kind span)) h = breach_lies (record { kind = kind; span = span }) h
