-- A text is one row of pieces, up to its end or to an action that doesn't end, and it is read as that.
use Rattle.std.proofs.Common.{◌≡◌, ◌⊎◌, inl, inr, ℕ, zero, suc, ◌+◌, ◌-◌, ◌≤◌, Bool, true, false, cond, List, [], ◌∷◌, ◌++◌, map, Option, Some, None, length, drop, refl, ap, arith, sym, ◌∙◌, subst, append_assoc, length-append}
use Rattle.std.specs.Prelude.{option_map}
use Rattle.std.specs.Option.{option_and_then}
use Rattle.std.proofs.Math.Seq.{drop-nil}
use Rattle.lf_templates.specs.declared.token.TokenContext.{TokenContext}
use Rattle.lf_templates.specs.declared.token.TokenContext.TheVariants as places
use Rattle.lf_templates.specs.declared.token.Lexeme.{Lexeme}
use Rattle.lf_templates.specs.Tokens.{Part, texts, lexeme, AreParts, closes, behind}
use Rattle.lf_templates.specs.Templates.{TemplatePiece, Byte, Braced, piece_text, piece_texts, opens, ArePieces, IsOpen, Action, actions_of}
use Rattle.lf_templates.specs.reading.Templates.{token, front, lexed, total, Acts, acts_of, before, action_at}
use Rattle.lf_templates.proofs.Lists.{drop_same}
use Rattle.lf_templates.proofs.Quotes.{two}
use Rattle.lf_templates.proofs.Fronts.{token_read}
use Rattle.lf_templates.proofs.Standing.{front_stands}
use Rattle.lf_templates.proofs.Braces.{lexed_step, lexed_closes, with_token}
use Rattle.lf_templates.proofs.Acts.{acts_byte, acts_action}

-- ---- the tokens of an action

pub parts_read : (parts : List Part) (place : TokenContext) (rest : List ℕ) → AreParts place parts (125 ∷ 125 ∷ rest) → lexed place 0 (texts parts ++ 125 ∷ 125 ∷ rest) ≡ Some (map lexeme parts)
parts_read [] place rest h = lexed_closes place (125 ∷ 125 ∷ rest) refl
parts_read (part ∷ parts) place rest h =
    let tail = texts parts ++ 125 ∷ 125 ∷ rest in
    let l = lexeme part in
    let e = token_read place part.token part.text tail h.1 in
    let again = parts_read parts (behind place part.token) rest h.2 in
    let d : drop (length part.text) (part.text ++ tail) ≡ tail = drop_same (length part.text) part.text tail refl in
    ap (lexed place 0) (append_assoc part.text (texts parts) (125 ∷ 125 ∷ rest))
    ∙ lexed_step place (part.text ++ tail) l h.0 e
    ∙ ap (λ (x : List ℕ). with_token l (lexed (behind place part.token) 0 x)) d
    ∙ ap (with_token l) again

pub record Ended (place : TokenContext) (src : List ℕ) (ls : List Lexeme) : Type 0 where
  pub parts : List Part
  pub rest : List ℕ
  pub source : src ≡ texts parts ++ 125 ∷ 125 ∷ rest
  pub are : AreParts place parts (125 ∷ 125 ∷ rest)
  pub lexemes : ls ≡ map lexeme parts

tokened : (l : Lexeme) (o : Option (List Lexeme)) (ls : List Lexeme) → with_token l o ≡ Some ls → (ms : List Lexeme) × (o ≡ Some ms) × (ls ≡ l ∷ ms)
tokened l None ls e = cc
tokened l (Some ms) ls e = (ms, refl, cc)

one_more : (place : TokenContext) (b : ℕ) (src : List ℕ) (l : Lexeme) (ms ls : List Lexeme) → closes (b ∷ src) ≡ false → front place (b ∷ src) ≡ Some l → ls ≡ l ∷ ms → Ended (behind place l.token) (drop (l.len - 1) src) ms → Ended place (b ∷ src) ls
one_more place b src l ms ls c e f again =
    let s = front_stands place (b ∷ src) l e in
    let len = s.len in
    let some = s.some in
    let n : suc (l.len - 1) ≡ l.len = omega arith in
    let r : drop (l.len - 1) src ≡ s.rest = ap (λ (k : ℕ). drop k (b ∷ src)) n ∙ ap (drop l.len) s.source ∙ drop_same l.len s.text s.rest (sym len) in
    let part : Part = record { token = l.token; text = s.text } in
    let tail = texts again.parts ++ 125 ∷ 125 ∷ again.rest in
    let rest_is : s.rest ≡ tail = sym r ∙ again.source in
    let source : b ∷ src ≡ s.text ++ tail = s.source ∙ ap (λ (x : List ℕ). s.text ++ x) rest_is in
    let same : l ≡ lexeme part = ap (token l.token) len in
    record {
      parts = part ∷ again.parts;
      rest = again.rest;
      source = source ∙ sym (append_assoc s.text (texts again.parts) (125 ∷ 125 ∷ again.rest));
      are = (ap closes (sym source) ∙ c, subst (λ (x : List ℕ). Rattle.lf_templates.specs.Tokens.IsActionToken place l.token s.text x) rest_is s.is, again.are);
      lexemes = f ∙ ap (λ (x : List Lexeme). l ∷ x) again.lexemes ∙ ap (λ (x : Lexeme). x ∷ map lexeme again.parts) same;
    }

pub parts_stand : (src : List ℕ) (place : TokenContext) (skip : ℕ) (ls : List Lexeme) → lexed place skip src ≡ Some ls → Ended place (drop skip src) ls
unfolding lexed
parts_stand [] place skip ls e = cc
parts_stand (b ∷ src) place (suc skip) ls e = parts_stand src place skip ls e
parts_stand (b ∷ src) place zero ls e = by (closes (b ∷ src)) (front place (b ∷ src)) refl refl (λ p n ms f. parts_stand src p n ms f) e
  where
    by : (t : Bool) (o : Option Lexeme) → closes (b ∷ src) ≡ t → front place (b ∷ src) ≡ o → ((p : TokenContext) (n : ℕ) (ms : List Lexeme) → lexed p n src ≡ Some ms → Ended p (drop n src) ms) →
        cond t (Some []) (option_and_then (λ l. option_map (λ ms. l ∷ ms) (lexed (behind place l.token) (l.len - 1) src)) o) ≡ Some ls → Ended place (b ∷ src) ls
    by true o c f again e = let t = two 125 125 (b ∷ src) c in record { parts = []; rest = t.0; source = t.1; are = tt; lexemes = cc }
    by false None c f again e = cc
    by false (Some l) c f again e =
        let m = tokened l (lexed (behind place l.token) (l.len - 1) src) ls e in
        one_more place b src l m.0 ls c f m.2 (again (behind place l.token) (l.len - 1) m.0 m.1)

pub open_lexed : (src : List ℕ) → ((parts : List Part) (later : List ℕ) → src ≡ texts parts ++ 125 ∷ 125 ∷ later → AreParts places.Start parts (125 ∷ 125 ∷ later) → ⊥) → lexed places.Start 0 src ≡ None
open_lexed src h = by (lexed places.Start 0 src) refl
  where
    by : (o : Option (List Lexeme)) → lexed places.Start 0 src ≡ o → lexed places.Start 0 src ≡ None
    by None e = e
    by (Some ls) e = let d = parts_stand src places.Start 0 ls e in absurd (h d.parts d.rest d.source d.are)

-- ---- the pieces of a text

total_texts : (parts : List Part) → total (map lexeme parts) ≡ length (texts parts)
total_texts [] = refl
total_texts (part ∷ parts) = let e = total_texts parts in let l = length-append part.text (texts parts) in omega arith

pub braced_length : (parts : List Part) → length (piece_text (Braced parts)) ≡ total (map lexeme parts) + 4
braced_length parts = let e = total_texts parts in let l = length-append (texts parts) (125 ∷ 125 ∷ []) in omega arith

-- actions before those of a text
abbrev pub after : List Action → Acts → Acts
after actions acts = record { actions = actions ++ acts.actions; endless = acts.endless }

braced_source : (parts : List Part) (more : List ℕ) → piece_text (Braced parts) ++ more ≡ 123 ∷ 123 ∷ (texts parts ++ 125 ∷ 125 ∷ more)
braced_source parts more = ap (λ (x : List ℕ). 123 ∷ 123 ∷ x) (append_assoc (texts parts) (125 ∷ 125 ∷ []) more)

braced_read : (parts : List Part) (at : ℕ) (more : List ℕ) → AreParts places.Start parts (125 ∷ 125 ∷ more) → acts_of at 0 (piece_text (Braced parts) ++ more) ≡ before (record { lexemes = map lexeme parts; start = at; end = at + length (piece_text (Braced parts)) }) (acts_of (at + length (piece_text (Braced parts))) 0 more)
braced_read parts at more h =
    let src = piece_text (Braced parts) ++ more in
    let ls = map lexeme parts in
    let n : total ls + 4 ≡ length (piece_text (Braced parts)) = sym (braced_length parts) in
    let f : lexed places.Start 0 (drop 2 src) ≡ Some ls = ap (λ (x : List ℕ). lexed places.Start 0 (drop 2 x)) (braced_source parts more) ∙ parts_read parts places.Start more h in
    let l = length-append (piece_text (Braced parts)) more in
    let le : total ls + 4 ≤ length src = omega arith in
    let d : drop (total ls + 4) src ≡ more = drop_same (total ls + 4) (piece_text (Braced parts)) more (sym n) in
    acts_action at src ls refl f le
    ∙ ap (λ (x : List ℕ). before (action_at at ls) (acts_of (at + (total ls + 4)) 0 x)) d
    ∙ ap (λ (k : ℕ). before (record { lexemes = ls; start = at; end = at + k }) (acts_of (at + k) 0 more)) n

pub pieces_read : (pieces : List TemplatePiece) (at : ℕ) (rest : List ℕ) → ArePieces pieces rest → acts_of at 0 (piece_texts pieces ++ rest) ≡ after (actions_of at pieces) (acts_of (at + length (piece_texts pieces)) 0 rest)
pieces_read [] at rest h = let e : at ≡ at + 0 = omega arith in ap (λ (k : ℕ). acts_of k 0 rest) e
pieces_read ((Byte b) ∷ pieces) at rest h =
    let e : at + 1 + length (piece_texts pieces) ≡ at + length (piece_texts ((Byte b) ∷ pieces)) = omega arith in
    acts_byte at b (piece_texts pieces ++ rest) h.0
    ∙ pieces_read pieces (at + 1) rest h.1
    ∙ ap (λ (k : ℕ). after (actions_of (at + 1) pieces) (acts_of k 0 rest)) e
pieces_read ((Braced parts) ∷ pieces) at rest h =
    let text = piece_text (Braced parts) in
    let a : Action = record { lexemes = map lexeme parts; start = at; end = at + length text } in
    let l = length-append text (piece_texts pieces) in
    let e : at + length text + length (piece_texts pieces) ≡ at + length (text ++ piece_texts pieces) = omega arith in
    ap (acts_of at 0) (append_assoc text (piece_texts pieces) rest)
    ∙ braced_read parts at (piece_texts pieces ++ rest) h.0
    ∙ ap (before a) (pieces_read pieces (at + length text) rest h.1)
    ∙ ap (λ (k : ℕ). before a (after (actions_of (at + length text) pieces) (acts_of k 0 rest))) e

-- ---- and each text is some

pub record Cut (src : List ℕ) : Type 0 where
  pub pieces : List TemplatePiece
  pub rest : List ℕ
  pub source : src ≡ piece_texts pieces ++ rest
  pub are : ArePieces pieces rest
  pub stops : (rest ≡ []) ⊎ IsOpen rest

nothing_cut : (src : List ℕ) → src ≡ [] → Cut src
nothing_cut src e = record { pieces = []; rest = []; source = e; are = tt; stops = inl refl }

byte_cut : (b : ℕ) (src : List ℕ) → opens (b ∷ src) ≡ false → Cut src → Cut (b ∷ src)
byte_cut b src e c = record {
  pieces = Byte b ∷ c.pieces;
  rest = c.rest;
  source = ap (λ (x : List ℕ). b ∷ x) c.source;
  are = (subst (λ (x : List ℕ). opens (b ∷ x) ≡ false) c.source e, c.are);
  stops = c.stops;
}

open_cut : (src : List ℕ) → opens src ≡ true → lexed places.Start 0 (drop 2 src) ≡ None → Cut src
open_cut src e f =
    let t = two 123 123 src e in
    let none : lexed places.Start 0 t.0 ≡ None = ap (λ (x : List ℕ). lexed places.Start 0 (drop 2 x)) (sym t.1) ∙ f in
    record {
      pieces = [];
      rest = src;
      source = refl;
      are = tt;
      stops = inr (record {
        inner = t.0;
        source = t.1;
        endless = λ parts later s are. let g : Some (map lexeme parts) ≡ None = sym (parts_read parts places.Start later are) ∙ ap (lexed places.Start 0) (sym s) ∙ none in cc;
      });
    }

braced_cut : (src : List ℕ) (ls : List Lexeme) → opens src ≡ true → lexed places.Start 0 (drop 2 src) ≡ Some ls → Cut (drop (total ls + 4) src) → Cut src
braced_cut src ls e f c =
    let t = two 123 123 src e in
    let d = parts_stand (drop 2 src) places.Start 0 ls f in
    let inner : t.0 ≡ texts d.parts ++ 125 ∷ 125 ∷ d.rest = ap (λ (x : List ℕ). drop 2 x) (sym t.1) ∙ d.source in
    let whole : src ≡ piece_text (Braced d.parts) ++ d.rest = t.1 ∙ ap (λ (x : List ℕ). 123 ∷ 123 ∷ x) inner ∙ sym (braced_source d.parts d.rest) in
    let n : length (piece_text (Braced d.parts)) ≡ total ls + 4 = braced_length d.parts ∙ ap (λ (x : List Lexeme). total x + 4) (sym d.lexemes) in
    let r : d.rest ≡ drop (total ls + 4) src = sym (ap (drop (total ls + 4)) whole ∙ drop_same (total ls + 4) (piece_text (Braced d.parts)) d.rest n) in
    let rest_is : d.rest ≡ piece_texts c.pieces ++ c.rest = r ∙ c.source in
    record {
      pieces = Braced d.parts ∷ c.pieces;
      rest = c.rest;
      source = whole ∙ ap (λ (x : List ℕ). piece_text (Braced d.parts) ++ x) rest_is ∙ sym (append_assoc (piece_text (Braced d.parts)) (piece_texts c.pieces) c.rest);
      are = (subst (λ (x : List ℕ). AreParts places.Start d.parts (125 ∷ 125 ∷ x)) rest_is d.are, c.are);
      stops = c.stops;
    }

pub pieces_stand : (src : List ℕ) (skip : ℕ) → Cut (drop skip src)
pieces_stand [] skip = nothing_cut (drop skip []) (drop-nil skip)
pieces_stand (b ∷ src) (suc skip) = pieces_stand src skip
pieces_stand (b ∷ src) zero = by (opens (b ∷ src)) (lexed places.Start 0 (drop 2 (b ∷ src))) refl refl (λ k. pieces_stand src k)
  where
    by : (t : Bool) (o : Option (List Lexeme)) → opens (b ∷ src) ≡ t → lexed places.Start 0 (drop 2 (b ∷ src)) ≡ o → ((k : ℕ) → Cut (drop k src)) → Cut (b ∷ src)
    by false o e f again = byte_cut b src e (again 0)
    by true None e f again = open_cut (b ∷ src) e f
    by true (Some ls) e f again =
        let k : total ls + 4 ≡ suc (total ls + 3) = omega arith in
        braced_cut (b ∷ src) ls e f (subst (λ (n : ℕ). Cut (drop n (b ∷ src))) (sym k) (again (total ls + 3)))
