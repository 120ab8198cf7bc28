-- Going over the lines of a block scalar's body.
use Rattle.std.proofs.Common.{◌≡◌, ◌≢◌, ℕ, suc, ◌+◌, ◌<◌, ◌≤◌, Bool, true, false, List, [], ◌∷◌, ◌++◌, length, map, take, drop, take_while, nat_lt, Option, Some, None, refl, ap, arith, sym, ◌∙◌, subst, append_assoc, ◌&&◌, inl, inr}
use Rattle.std.specs.List.{list_all}
use Rattle.std.proofs.lemmas.List.{append-nil, length-append, map-append, length-drop, length-take, drop_all}
use Rattle.std.proofs.lemmas.List.Sums.{take_while-cons}
use Rattle.std.proofs.lemmas.Bool.Decides.{leb_tells}
use Rattle.std.proofs.lemmas.Bool.{and_parts}
use Rattle.std.proofs.Math.Bool.{and-true}
use Rattle.std.proofs.lemmas.List.Folds.{list_all-append}
use Rattle.lf_base.specs.declared.refusal.Refusal.{Refusal}
use Rattle.lf_base.specs.declared.refusal.Refusal.TheVariants as refusal_of
use Rattle.lf_base.specs.Answers.{IfAt}
use Rattle.lf_scalar.specs.declared.body.BlockBody.{BlockBody}
use Rattle.lf_scalar.specs.Cells.{Cell, cells}
use Rattle.lf_scalar.specs.Lines.{Line, line, lines, lines_at}
use Rattle.lf_scalar.specs.Folding.{trimmed}
use Rattle.lf_scalar.specs.Block.{EndsFull, AreEmpty, line_end, last_end, in_body, content, body_of, body_fault}
use Rattle.lf_scalar.specs.reading.Block.{is_empty, empties}
use Rattle.lf_scalar.specs.reading.Body.{contents, break_of, body_with, IsBody}
use Rattle.lf_scalar.proofs.BlockBody.{split-again}
use Rattle.lf_scalar.proofs.Cells.{cells-length}

-- ---- one line more at the end

all-push : {X : Type 0} (p : X → Bool) (xs : List X) (x : X) → list_all p (xs ++ x ∷ []) ≡ (list_all p xs && p x)
all-push p xs x = list_all-append p xs (x ∷ []) ∙ ap (λ (b : Bool). list_all p xs && b) (and-true (p x))

ends-push : (k : ℕ) (xs : List Line) (l : Line) → (content k l).text ≢ [] → EndsFull (contents k (xs ++ l ∷ []))
ends-push k [] l h = h
ends-push k (a ∷ []) l h = h
ends-push k (a ∷ b ∷ xs) l h = ends-push k (b ∷ xs) l h

end-push : (end : ℕ) (xs : List Line) (l : Line) → last_end end (xs ++ l ∷ []) ≡ line_end end l
end-push end [] l = refl
end-push end (a ∷ []) l = refl
end-push end (a ∷ b ∷ xs) l = end-push end (b ∷ xs) l

empty-push : (k : ℕ) (xs : List Line) (l : Line) → AreEmpty (contents k xs) → (content k l).text ≡ [] → AreEmpty (contents k (xs ++ l ∷ []))
empty-push k [] l h e = (e, tt)
empty-push k (x ∷ xs) l h e = (h.0, empty-push k xs l h.1 e)

-- ---- the lines before a place

pub record Seen (k at : ℕ) (bytes : List ℕ) (b : BlockBody) (place : ℕ) : Type 0 where
  pub full : List Line
  pub empty : List Line
  pub source : lines_at at bytes ≡ (full ++ empty) ++ lines_at (at + place) (drop place bytes)
  pub full_is : b.full ≡ length full
  pub empty_is : b.empty ≡ length empty
  pub last_is : last_end (at + length bytes) full ≡ break_of b.last
  pub behind : lines_at (at + b.behind) (drop b.behind bytes) ≡ empty ++ lines_at (at + place) (drop place bytes)
  pub are_in_body : list_all (in_body k) (full ++ empty) ≡ true
  pub ends_full : EndsFull (contents k full)
  pub are_empty : AreEmpty (contents k empty)
  pub within : place ≤ length bytes + 1
  pub behind_within : b.behind ≤ place
  pub few : b.full + b.empty ≤ place

abbrev pub no_lines : BlockBody
no_lines = record { full = 0; last = None; behind = 0; empty = 0 }

pub seen-none : (k at : ℕ) (bytes : List ℕ) → Seen k at bytes no_lines 0
seen-none k at bytes =
    let z : at ≡ at + 0 = omega arith in
    record {
      full = [];
      empty = [];
      source = ap (λ (n : ℕ). lines_at n bytes) z;
      full_is = refl;
      empty_is = refl;
      last_is = refl;
      behind = refl;
      are_in_body = refl;
      ends_full = tt;
      are_empty = tt;
      within = omega arith;
      behind_within = omega arith;
      few = omega arith;
    }

module _ (k at : ℕ) (bytes : List ℕ) (b : BlockBody) (place feed : ℕ) (break : Option ℕ) (l : Line) (s : Seen k at bytes b place)
    (first : lines_at (at + place) (drop place bytes) ≡ l ∷ lines_at (at + (feed + 1)) (drop (feed + 1) bytes)) (is_break : break_of break ≡ line_end (at + length bytes) l) (inside : in_body k l ≡ true) (le : place ≤ feed)
    (lt : feed ≤ length bytes) where
  source-push : lines_at at bytes ≡ ((s.full ++ s.empty) ++ l ∷ []) ++ lines_at (at + (feed + 1)) (drop (feed + 1) bytes)
  source-push = s.source ∙ ap (λ (x : List Line). (s.full ++ s.empty) ++ x) first ∙ sym (append_assoc (s.full ++ s.empty) (l ∷ []) (lines_at (at + (feed + 1)) (drop (feed + 1) bytes)))

  in-push : list_all (in_body k) ((s.full ++ s.empty) ++ l ∷ []) ≡ true
  in-push = all-push (in_body k) (s.full ++ s.empty) l ∙ rw (s.are_in_body, inside) refl

  pub seen-full : (content k l).text ≢ [] → Seen k at bytes (body_with b true feed break) (feed + 1)
  seen-full h =
      let e : ((s.full ++ s.empty) ++ l ∷ []) ++ [] ≡ (s.full ++ s.empty) ++ l ∷ [] = append-nil ((s.full ++ s.empty) ++ l ∷ []) in
      record {
        full = (s.full ++ s.empty) ++ l ∷ [];
        empty = [];
        source = rw e source-push;
        full_is = omega (arith, s.full_is, s.empty_is, length-append (s.full ++ s.empty) (l ∷ []), length-append s.full s.empty);
        empty_is = refl;
        last_is = end-push (at + length bytes) (s.full ++ s.empty) l ∙ sym is_break;
        behind = refl;
        are_in_body = rw e in-push;
        ends_full = ends-push k (s.full ++ s.empty) l h;
        are_empty = tt;
        within = omega arith;
        behind_within = omega arith;
        few = omega (arith, s.few);
      }

  pub seen-empty : (content k l).text ≡ [] → Seen k at bytes (body_with b false feed break) (feed + 1)
  seen-empty h =
      let e : s.full ++ (s.empty ++ l ∷ []) ≡ (s.full ++ s.empty) ++ l ∷ [] = sym (append_assoc s.full s.empty (l ∷ [])) in
      record {
        full = s.full;
        empty = s.empty ++ l ∷ [];
        source = rw e source-push;
        full_is = s.full_is;
        empty_is = omega (arith, s.empty_is, length-append s.empty (l ∷ []));
        last_is = s.last_is;
        behind = s.behind ∙ ap (λ (x : List Line). s.empty ++ x) first ∙ sym (append_assoc s.empty (l ∷ []) (lines_at (at + (feed + 1)) (drop (feed + 1) bytes)));
        are_in_body = rw e in-push;
        ends_full = s.ends_full;
        are_empty = empty-push k s.empty l s.are_empty h;
        within = omega arith;
        behind_within = omega (arith, s.behind_within);
        few = omega (arith, s.few);
      }

-- the line at a place, as the code finds it
abbrev pub line_there : ℕ → List ℕ → ℕ → ℕ → ℕ → Line
line_there at bytes place text feed = line (cells (at + place) (take text (drop place bytes))) (at + feed)

some-left : (k : ℕ) (text : List Cell) → k < length text → drop k text ≢ []
some-left k text lt e = let h = ap length e in omega (arith, length-drop k text)

length-there : (at : ℕ) (bytes : List ℕ) (place text : ℕ) → place + text ≤ length bytes → length (cells (at + place) (take text (drop place bytes))) ≡ text
length-there at bytes place text h = cells-length (at + place) (take text (drop place bytes)) ∙ omega (arith, length-take text (drop place bytes), length-drop place bytes)

-- the same with the places as the code counts them
module _ (k at : ℕ) (bytes : List ℕ) (b : BlockBody) (place text feed : ℕ) (break : Option ℕ) (s : Seen k at bytes b place)
    (first : lines_at (at + place) (drop place bytes) ≡ line_there at bytes place text (place + feed) ∷ lines_at (at + (place + (feed + 1))) (drop (place + (feed + 1)) bytes))
    (is_break : break_of break ≡ line_end (at + length bytes) (line_there at bytes place text (place + feed))) (le : text ≤ feed) (lt : place + feed ≤ length bytes) where
  next-is : (place + feed) + 1 ≡ place + (feed + 1)
  next-is = omega arith

  first-is : lines_at (at + place) (drop place bytes) ≡ line_there at bytes place text (place + feed) ∷ lines_at (at + ((place + feed) + 1)) (drop ((place + feed) + 1) bytes)
  first-is = rw next-is first

  pub seen-line : in_body k (line_there at bytes place text (place + feed)) ≡ true → Seen k at bytes (body_with b (nat_lt k text) (place + feed) break) (place + (feed + 1))
  seen-line inside =
      let n = length-there at bytes place text (omega arith) in
      subst (Seen k at bytes (body_with b (nat_lt k text) (place + feed) break)) next-is (elim (leb_tells (suc k) text) [
        | inl a ↦ rw a.0 (seen-full k at bytes b place (place + feed) break (line_there at bytes place text (place + feed)) s first-is is_break inside (omega arith) lt (some-left k (cells (at + place) (take text (drop place bytes))) (omega (arith, a.1, n))))
        | inr a ↦ rw a.0 (seen-empty k at bytes b place (place + feed) break (line_there at bytes place text (place + feed)) s first-is is_break inside (omega arith) lt (drop_all k (cells (at + place) (take text (drop place bytes))) (omega (arith, a.1, n))))
      ])

-- ---- the end of the body

abbrev pub Ends : ℕ → List Line → Type 0
Ends k [] = Unit {0}
Ends k (l ∷ ls) = in_body k l ≡ false

takes : (k : ℕ) (xs left : List Line) → list_all (in_body k) xs ≡ true → Ends k left → take_while (in_body k) (xs ++ left) ≡ xs
takes k [] [] h e = refl
takes k [] (l ∷ ls) h e = rw e refl
takes k (x ∷ xs) left h e =
    take_while-cons (in_body k) x (xs ++ left) ∙ rw (and_parts (in_body k x) (list_all (in_body k) xs) h).0 (ap (λ (t : List Line). x ∷ t) (takes k xs left (and_parts (in_body k x) (list_all (in_body k) xs) h).1 e))

pub found : (k at : ℕ) (bytes : List ℕ) (b : BlockBody) (place : ℕ) → Seen k at bytes b place → Ends k (lines_at (at + place) (drop place bytes)) → IsBody k at bytes b
found k at bytes b place s ends =
    let taken : take_while (in_body k) (lines_at at bytes) ≡ s.full ++ s.empty = ap (take_while (in_body k)) s.source ∙ takes k (s.full ++ s.empty) (lines_at (at + place) (drop place bytes)) s.are_in_body ends in
    let body : body_of k (lines_at at bytes) ≡ contents k s.full ++ contents k s.empty = ap (map (content k)) taken ∙ map-append (content k) s.full s.empty in
    let parts = split-again (contents k s.full) (contents k s.empty) s.ends_full s.are_empty in
    record {
      full = s.full;
      empty = s.empty;
      left = lines_at (at + place) (drop place bytes);
      source = s.source ∙ append_assoc s.full s.empty (lines_at (at + place) (drop place bytes));
      full_is = s.full_is;
      empty_is = s.empty_is;
      last_is = s.last_is;
      behind = s.behind;
      within = omega (arith, s.behind_within, s.within);
      texts = ap (trimmed is_empty) body ∙ parts.0;
      empties_are = ap empties body ∙ parts.1;
    }

pub ends-past : (k at : ℕ) (bytes : List ℕ) (place : ℕ) → length bytes ≤ place → Ends k (lines_at (at + place) (drop place bytes))
unfolding lines
ends-past k at bytes place h = rw (drop_all place bytes h) tt

pub ends-there : (k : ℕ) (ls : List Line) (l : Line) (more : List Line) → ls ≡ l ∷ more → in_body k l ≡ false → Ends k ls
ends-there k ls l more e h = rw e h

-- nothing breaks a body behind the last of its lines
pub none-past : (leads : Bool) (above k at : ℕ) (bytes : List ℕ) (place : ℕ) → length bytes ≤ place → body_fault leads above k (lines_at (at + place) (drop place bytes)) ≡ None
unfolding lines body_fault
none-past leads above k at bytes place h = rw (drop_all place bytes h) refl

-- what breaks it at a line breaks it
pub broken-there : (leads leading : Bool) (above k : ℕ) (all ls : List Line) (l : Line) (more : List Line) (e : Refusal) → body_fault leads above k all ≡ body_fault leading above k ls → ls ≡ l ∷ more
    → IfAt e (λ f. (behind : List Line) → body_fault leading above k (l ∷ behind) ≡ Some f) → IfAt e (λ f. body_fault leads above k all ≡ Some f)
broken-there leads leading above k all ls l more refusal_of.Memory same first h = tt
broken-there leads leading above k all ls l more (refusal_of.At kind span) same first h = same ∙ ap (body_fault leading above k) first ∙ h more
