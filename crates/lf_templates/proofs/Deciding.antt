-- The way of reading finds exactly the references and the breaches of the definitions.
use Rattle.std.proofs.Common.{◌≡◌, ◌⊎◌, inl, inr, ℕ, ◌+◌, List, [], ◌∷◌, ◌++◌, Option, Some, None, Result, Ok, Err, length, refl, ap, arith, sym, ◌∙◌, subst, append-nil}
use Rattle.lf_templates.specs.declared.reference.Reference.{Reference}
use Rattle.lf_base.specs.Answers.{OneAnswer}
use Rattle.lf_base.proofs.Answering.{Decides, one_answer}
use Rattle.lf_base.specs.declared.fault.Fault.{Fault}
use Rattle.lf_templates.specs.Templates.{TemplatePiece, piece_texts, ArePieces, IsOpen, Action, actions_of, first_flawed, IsTemplateBreach, flawed, unended, Breaks, References}
use Rattle.lf_templates.specs.reading.Templates.{Acts, acts_of, judged, judged_by, reading}
use Rattle.lf_templates.proofs.Acts.{no_acts, acts_open, acts_end}
use Rattle.lf_templates.proofs.Pieces.{Cut, after, pieces_read, pieces_stand, open_lexed}

abbrev Answer : Type 0
Answer = Result (List Reference) Fault

-- where an action that doesn't end stands, if one does
abbrev end_of : {rest : List ℕ} → ℕ → (rest ≡ []) ⊎ IsOpen rest → Option ℕ
end_of at (inl e) = None
end_of at (inr o) = Some at

module _ (from text : List ℕ) (pieces : List TemplatePiece) (rest : List ℕ) (source : text ≡ piece_texts pieces ++ rest) (are : ArePieces pieces rest) where
  rest_acts : (stops : (rest ≡ []) ⊎ IsOpen rest) (at : ℕ) → acts_of at 0 rest ≡ no_acts (end_of at stops)
  rest_acts (inl e) at = ap (acts_of at 0) e ∙ acts_end at 0 [] (omega arith)
  rest_acts (inr o) at = ap (acts_of at 0) o.source ∙ acts_open at (123 ∷ 123 ∷ o.inner) refl (open_lexed o.inner o.endless)

  pub acts_are : (stops : (rest ≡ []) ⊎ IsOpen rest) → acts_of 0 0 text ≡ record { actions = actions_of 0 pieces; endless = end_of (length (piece_texts pieces)) stops }
  acts_are stops =
      let n : 0 + length (piece_texts pieces) ≡ length (piece_texts pieces) = omega arith in
      ap (acts_of 0 0) source
      ∙ pieces_read pieces 0 rest are
      ∙ ap (after (actions_of 0 pieces)) (rest_acts stops (0 + length (piece_texts pieces)))
      ∙ ap (λ (k : ℕ). after (actions_of 0 pieces) (no_acts (end_of k stops))) n
      ∙ ap (λ (x : List Action). record { actions = x; endless = end_of (length (piece_texts pieces)) stops }) (append-nil (actions_of 0 pieces))

  pub reading_is : (stops : (rest ≡ []) ⊎ IsOpen rest) → reading from text ≡ judged from text (record { actions = actions_of 0 pieces; endless = end_of (length (piece_texts pieces)) stops })
  reading_is stops = ap (judged from text) (acts_are stops)

-- ---- what the definitions have is read

pub references_read : (from text : List ℕ) (found : List Reference) → References from text found → reading from text ≡ Ok found
references_read from text found r =
    let acts : Acts = record { actions = actions_of 0 r.pieces; endless = None } in
    reading_is from text r.pieces [] (r.source ∙ sym (append-nil (piece_texts r.pieces))) r.are_pieces (inl refl)
    ∙ ap (judged_by from text acts) r.sound
    ∙ ap (λ (x : List Reference). Ok x) (sym r.found_are)

pub breach_read : (from text : List ℕ) (fault : Fault) → Breaks from text fault → reading from text ≡ Err fault
breach_read from text fault b = reading_is from text b.pieces b.rest b.source b.are_pieces b.stops ∙ by b.stops b.breach
  where
    actions : List Action
    actions = actions_of 0 b.pieces

    by : (stops : (b.rest ≡ []) ⊎ IsOpen b.rest) → IsTemplateBreach from (length (piece_texts b.pieces)) b.rest (actions_of 0 b.pieces) fault →
        judged from text (record { actions = actions_of 0 b.pieces; endless = end_of (length (piece_texts b.pieces)) stops }) ≡ Err fault
    by stops (flawed a e f) = ap (judged_by from text (record { actions = actions_of 0 b.pieces; endless = end_of (length (piece_texts b.pieces)) stops })) e ∙ ap (λ (x : Fault). Err x) (sym f)
    by (inl none) (unended e o f) = let g : 123 ∷ 123 ∷ o.inner ≡ [] = sym o.source ∙ none in cc
    by (inr open_) (unended e o f) = ap (judged_by from text (record { actions = actions_of 0 b.pieces; endless = Some (length (piece_texts b.pieces)) })) e ∙ ap (λ (x : Fault). Err x) (sym f)

-- ---- what is read stands

abbrev Stood : List ℕ → List ℕ → Answer → Type 0
Stood from text (Ok found) = References from text found
Stood from text (Err fault) = Breaks from text fault

stood : (from text : List ℕ) (c : Cut text) (o : Option Action) → first_flawed [] (actions_of 0 c.pieces) ≡ o →
    (stops : (c.rest ≡ []) ⊎ IsOpen c.rest) → Stood from text (judged_by from text (record { actions = actions_of 0 c.pieces; endless = end_of (length (piece_texts c.pieces)) stops }) o)
stood from text c (Some a) e stops = record { pieces = c.pieces; rest = c.rest; source = c.source; are_pieces = c.are; stops = stops; breach = flawed a e refl }
stood from text c None e (inl none) = record {
  pieces = c.pieces;
  source = c.source ∙ ap (λ (x : List ℕ). piece_texts c.pieces ++ x) none ∙ append-nil (piece_texts c.pieces);
  are_pieces = subst (ArePieces c.pieces) none c.are;
  sound = e;
  found_are = refl;
}
stood from text c None e (inr o) = record { pieces = c.pieces; rest = c.rest; source = c.source; are_pieces = c.are; stops = inr o; breach = unended e o refl }

pub reading_stands : (from text : List ℕ) (answer : Answer) → reading from text ≡ answer → Stood from text answer
reading_stands from text answer e =
    let c = pieces_stand text 0 in
    subst (Stood from text) (sym (reading_is from text c.pieces c.rest c.source c.are c.stops) ∙ e) (stood from text c (first_flawed [] (actions_of 0 c.pieces)) refl c.stops)

-- ---- both together

pub decides : (from text : List ℕ) → Decides (References from text) (Breaks from text) (reading from text)
decides from text = record {
  stands = λ found e. reading_stands from text (Ok found) e;
  read = λ found h. references_read from text found h;
  breaks = λ fault e. reading_stands from text (Err fault) e;
  told = λ fault h. breach_read from text fault h;
}

pub one_list : (from text : List ℕ) → OneAnswer (References from text) (Breaks from text)
one_list from text = one_answer (References from text) (Breaks from text) (reading from text) (decides from text)
