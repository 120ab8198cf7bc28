-- A template: its pieces, the references in it, and what is wrong with it.
use Rattle.std.specs.Prelude.{◌≡◌, ◌⊎◌, ℕ, zero, suc, ◌+◌, ◌-◌, List, [], ◌∷◌, ◌++◌, map, drop, take, length, Bool, true, false, not, ◌&&◌, ◌||◌, Option, Some, None, if◌then◌else◌}
use Rattle.std.specs.List.{flat_map, list_any}
use Rattle.std.specs.Option.{option_map_or}
use Rattle.lf_base.specs.declared.kind.Kind.{Kind}
use Rattle.lf_base.specs.declared.kind.Kind.TheVariants.{OpenAction, BadAction}
use Rattle.lf_templates.specs.declared.token.Word.{Word}
use Rattle.lf_templates.specs.declared.token.Word.TheVariants as words
use Rattle.lf_templates.specs.declared.token.TokenContext.TheVariants as places
use Rattle.lf_templates.specs.declared.token.Lexeme.{Lexeme}
use Rattle.lf_templates.specs.declared.token.ReferenceSpan.{ReferenceSpan}
use Rattle.lf_templates.specs.declared.reference.Reference.{Reference}
use Rattle.lf_base.specs.declared.fault.Fault.{Fault}
use Rattle.lf_templates.specs.Source.{in_source}
use Rattle.lf_templates.specs.Bytes.{starts_with}
use Rattle.lf_templates.specs.Tokens.{Part, texts, lexeme, AreParts}
use Rattle.lf_templates.specs.Actions.{tokens_of, first, is_sound, head_word, sets_labels, rows}

-- ---- pieces

-- a byte of text, or an action with what stands between its braces
pub data TemplatePiece : Type 0 where
  Byte : ℕ → TemplatePiece
  Braced : List Part → TemplatePiece

abbrev pub piece_text : TemplatePiece → List ℕ
piece_text (Byte b) = b ∷ []
piece_text (Braced parts) = 123 ∷ 123 ∷ (texts parts ++ 125 ∷ 125 ∷ [])

abbrev pub piece_texts : List TemplatePiece → List ℕ
piece_texts pieces = flat_map piece_text pieces

-- {{
abbrev pub opens : List ℕ → Bool
opens src = starts_with 123 123 src

abbrev pub IsTemplatePiece : TemplatePiece → List ℕ → Type 0
IsTemplatePiece (Byte b) rest = opens (b ∷ rest) ≡ false
IsTemplatePiece (Braced parts) rest = AreParts places.Start parts (125 ∷ 125 ∷ rest)

-- The text is these pieces, before the rest.
abbrev pub ArePieces : List TemplatePiece → List ℕ → Type 0
ArePieces [] rest = Unit {0}
ArePieces (piece ∷ pieces) rest = IsTemplatePiece piece (piece_texts pieces ++ rest) × ArePieces pieces rest

-- {{ behind which no action closes
pub record IsOpen (src : List ℕ) : Type 0 where
  pub inner : List ℕ
  pub source : src ≡ 123 ∷ 123 ∷ inner
  pub endless : (parts : List Part) (later : List ℕ) → inner ≡ texts parts ++ 125 ∷ 125 ∷ later → AreParts places.Start parts (125 ∷ 125 ∷ later) → ⊥

-- ---- actions

-- an action, and from where to where it stands in the text
pub record Action : Type 0 where
  pub lexemes : List Lexeme
  pub start : ℕ
  pub end : ℕ

-- those of the pieces, the first of which stands at an offset
abbrev pub actions_of : ℕ → List TemplatePiece → List Action
actions_of at [] = []
actions_of at (Byte b ∷ pieces) = actions_of (at + 1) pieces
actions_of at (Braced parts ∷ pieces) =
    let end = at + length (piece_text (Braced parts)) in
    record { lexemes = map lexeme parts; start = at; end = end } ∷ actions_of end pieces

abbrev pub word_of_action : Action → Word
word_of_action a = head_word (tokens_of a.lexemes)

-- ---- bodies

abbrev pub opens_body : Word → Bool
opens_body words.If = true
opens_body words.Range = true
opens_body words.With = true
opens_body words.Define = true
opens_body words.Block = true
opens_body _ = false

-- Of the bodies that are open the words that opened them are told, the innermost first. Behind an action with this word at its head are open:
abbrev pub bodies_behind : Word → List Word → List Word
bodies_behind words.End bodies = drop 1 bodies
bodies_behind word bodies = if opens_body word then word ∷ bodies else bodies

abbrev pub takes_else : Word → Bool
takes_else words.If = true
takes_else words.Range = true
takes_else words.With = true
takes_else _ = false

-- an end without a body, or an else without a body that takes one, where the innermost body is this
abbrev pub is_stray : Word → Option Word → Bool
is_stray words.End None = true
is_stray words.Else None = true
is_stray words.Else (Some word) = not (takes_else word)
is_stray _ innermost = false

-- how many bodies are open in a body behind an action, or none where this ends it
abbrev pub inner_behind : Word → ℕ → Option ℕ
inner_behind words.End zero = None
inner_behind words.End (suc inner) = Some inner
inner_behind word inner = Some (if opens_body word then suc inner else inner)

-- Whether a body in which so many bodies are open is closed by the actions to come.
abbrev pub is_closed : ℕ → List Action → Bool
is_closed inner [] = false
is_closed inner (a ∷ later) = option_map_or (λ k. is_closed k later) (inner_behind (word_of_action a) inner) true

-- ---- what is wrong

-- An action is flawed where it isn't well formed, is stray, or opens a body that isn't closed.
abbrev pub is_bad : List Word → Action → Bool
is_bad bodies a = not (is_sound (tokens_of a.lexemes)) || is_stray (word_of_action a) (first bodies)

abbrev pub is_flawed : List Word → Action → List Action → Bool
is_flawed bodies a later = is_bad bodies a || (opens_body (word_of_action a) && not (is_closed 0 later))

abbrev pub first_flawed : List Word → List Action → Option Action
first_flawed bodies [] = None
first_flawed bodies (a ∷ later) = if is_flawed bodies a later then Some a else first_flawed (bodies_behind (word_of_action a) bodies) later

abbrev pub fault_at : List ℕ → Kind → ℕ → ℕ → Fault
fault_at from kind start end = record { kind = kind; span = in_source from start end }

-- `IsTemplateBreach from at rest actions fault`: the first breach of a template with these actions, and with an action that doesn't end at offset `at`, where one stands there.
pub data IsTemplateBreach (from : List ℕ) (at : ℕ) (rest : List ℕ) (actions : List Action) (fault : Fault) : Type 0 where
  flawed : (a : Action) → first_flawed [] actions ≡ Some a → fault ≡ fault_at from BadAction a.start a.end → IsTemplateBreach from at rest actions fault
  unended : first_flawed [] actions ≡ None → IsOpen rest → fault ≡ fault_at from OpenAction at (at + 2) → IsTemplateBreach from at rest actions fault

-- The text is pieces, up to its end or to an action that doesn't end, and this is its first breach.
pub record Breaks (from text : List ℕ) (fault : Fault) : Type 0 where
  pub pieces : List TemplatePiece
  pub rest : List ℕ
  pub source : text ≡ piece_texts pieces ++ rest
  pub are_pieces : ArePieces pieces rest
  pub stops : (rest ≡ []) ⊎ IsOpen rest
  pub breach : IsTemplateBreach from (length (piece_texts pieces)) rest (actions_of 0 pieces) fault

-- ---- the references

-- what stands in the body of one of these isn't told
abbrev pub hides : Word → Bool
hides words.If = false
hides _ = true

-- the bodies in which an action stands: an end stands behind the body that it closes
abbrev pub bodies_round : Word → List Word → List Word
bodies_round words.End bodies = drop 1 bodies
bodies_round word bodies = bodies

abbrev pub reference : List ℕ → List ℕ → ReferenceSpan → Reference
reference from text r = record { label = take (r.end - r.name) (drop r.name text); span = in_source from r.start r.end }

-- those of an action, the first token of which stands at an offset, where nothing hides them
abbrev pub references_at : List ℕ → List ℕ → Bool → ℕ → List Lexeme → List Reference
references_at from text hidden at ls = if hidden then [] else map (reference from text) (rows false at ls)

abbrev pub references_in : List ℕ → List ℕ → Bool → Action → List Reference
references_in from text hidden a = references_at from text hidden (a.start + 2) a.lexemes

-- Those of actions. `renamed` says that an action before them set $labels anew: from such an action on nothing is told.
abbrev pub references_of : List ℕ → List ℕ → List Word → Bool → List Action → List Reference
references_of from text bodies renamed [] = []
references_of from text bodies renamed (a ∷ later) =
    let word = word_of_action a in
    let gone = renamed || sets_labels (tokens_of a.lexemes) in
    references_in from text (gone || list_any hides (bodies_round word bodies)) a ++ references_of from text (bodies_behind word bodies) gone later

-- The text is pieces without a flaw, and these are its references.
pub record References (from text : List ℕ) (found : List Reference) : Type 0 where
  pub pieces : List TemplatePiece
  pub source : text ≡ piece_texts pieces
  pub are_pieces : ArePieces pieces []
  pub sound : first_flawed [] (actions_of 0 pieces) ≡ None
  pub found_are : found ≡ references_of from text [] false (actions_of 0 pieces)
