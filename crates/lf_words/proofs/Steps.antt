-- What clap makes of one more word.
use Rattle.std.proofs.Common.{◌≡◌, Bool, true, false, cond, List, [], ◌∷◌, ◌++◌, Option, None, Some, codes, refl, ap, ◌&&◌}
use Rattle.std.specs.Str.{bytes_eq}
use Rattle.std.proofs.lemmas.Bool.{cond-false, and_right}
use Rattle.clap.specs.Lexer.{long_of, short_of}
use Rattle.clap.specs.Words.{Text, Row, Rule, Shape, Kinds, built}
use Rattle.clap.specs.Walk.{Held, Walk, Waiting, idle, positional, option, walked, used, settled_rows, is_pending, pushed}
use Rattle.clap.specs.Faults.{turn_fault, settle_fault, use_fault, flag_word_fault, positional_fault}
use Rattle.clap.specs.Kinds.{or_else}
use Rattle.clap.proofs.OnLiterals.{clap_on_literals}
use Rattle.lf_words.specs.views.Commands.{lint_app, valued_rule, labels_rule, files_rule}
use Rattle.lf_words.specs.Lint.{Valued, Workers, Format, option_word}
use Rattle.clap.specs.Simple.{filled, with_index}

abbrev pub lint : Shape
lint = (built lint_app).top

abbrev pub rules : List Rule
rules = lint.rules

-- the id of an option
abbrev pub name_of : Valued → Text
name_of Workers = codes "workers"
name_of Format = codes "format"

abbrev pub rule : Valued → Rule
rule Workers = with_index 1 (filled (valued_rule (codes "workers")))
rule Format = with_index 1 (filled (valued_rule (codes "format")))

abbrev pub labels : Rule
labels = with_index 1 (filled labels_rule)

abbrev pub files : Rule
files = with_index 1 (filled files_rule)

abbrev pub Pending : Type 0
Pending = Option (Text × List Text)

abbrev pub held : List Row → Pending → Held
held r p = record { rows = r; pending = p; skip = 0 }

abbrev pub state : List Row → Pending → Waiting → Bool → Walk
state r p wt b = record { held = held r p; waiting = wt; position = 1; is_trailing = b; stopped = None }

-- the fault of what is pending, and the rows after it
abbrev pub pending_fault : List Row → Pending → Kinds
pending_fault r p = settle_fault rules false (held r p)

abbrev pub after : List Row → Pending → List Row
after r p = settled_rows rules p r

abbrev pub Turns : Walk → Text → Kinds → Walk → Type 0
Turns w word f next = (turn_fault lint [] w word ≡ f) × (walked rules [] w word ≡ next)

pub or_nil : (a : Kinds) → or_else a [] ≡ a
or_nil [] = refl
or_nil (x ∷ xs) = refl

pub or_parts : (a b : Kinds) → or_else a b ≡ [] → (a ≡ []) × (b ≡ [])
or_parts [] b e = (refl, e)
or_parts (x ∷ xs) b e = absurd cc

-- nothing waits for a value
pub data Open : Waiting → Type 0 where
  is_idle : Open idle
  is_positional : Open positional

-- the word has no form of an option
pub record Plain (w : Text) : Type 0 where
  pub no_dashes : bytes_eq w (codes "--") ≡ false
  pub no_long : long_of w ≡ None
  pub no_short : short_of w ≡ None

-- the word is an option that the command lacks, or a flag with a value
pub record Bad (w : Text) : Type 0 where
  pub no_dashes : bytes_eq w (codes "--") ≡ false
  pub refuses : (r : List Row) (p : Pending) → flag_word_fault rules false (long_of w) w (held r p) ≡ [] → ⊥

module _ (r : List Row) (p : Pending) where
  file_fault : positional_fault rules false files (held r p) ≡ pending_fault r p
  file_fault = cond-false _ _ _ (and_right (is_pending files p) false refl)

  file_next : (w : Text) → (b : Bool) → (if_held : Held) → if_held ≡ held r p → pushed (codes "files") w (cond (is_pending files p && false) if_held (held (after r p) None)) ≡ held (after r p) (Some (codes "files", w ∷ []))
  file_next w b h e = ap (pushed (codes "files") w) (cond-false _ _ _ (and_right (is_pending files p) false refl))

  pending_file : (w : Text) (b : Bool) (x : Held) → x ≡ held (after r p) (Some (codes "files", w ∷ [])) →
      record { held = x; waiting = positional; position = 1; is_trailing = b; stopped = None } ≡ state (after r p) (Some (codes "files", w ∷ [])) positional b
  pending_file w b x e = ap (λ (h : Held). record { held = h; waiting = positional; position = 1; is_trailing = b; stopped = None }) e

  pub turn_after : (wt : Waiting) (w : Text) →
      Turns (state r p wt true) w (pending_fault r p) (state (after r p) (Some (codes "files", w ∷ [])) positional true)
  unfolding clap_on_literals
  turn_after wt w = (file_fault, ap (λ (h : Held). record { held = h; waiting = positional; position = 1; is_trailing = true; stopped = None }) (file_next w true (held r p) refl))

  pub turn_dashes : (wt : Waiting) → Turns (state r p wt false) (codes "--") [] (state r p wt true)
  unfolding clap_on_literals
  turn_dashes idle = (refl, refl)
  turn_dashes positional = (refl, refl)
  turn_dashes (option id) = (refl, refl)

  pub turn_labels : {wt : Waiting} → Open wt →
      Turns (state r p wt false) (codes "--labels") (or_else (pending_fault r p) (use_fault false labels [] (after r p))) (state (used labels [] (after r p)) None idle false)
  unfolding clap_on_literals
  turn_labels is_idle = (or_nil _, refl)
  turn_labels is_positional = (or_nil _, refl)

  pub turn_next : {wt : Waiting} → Open wt → (k : Valued) →
      Turns (state r p wt false) (option_word k) (pending_fault r p) (state (after r p) (Some (name_of k, [])) (option (name_of k)) false)
  unfolding clap_on_literals
  turn_next is_idle Workers = (or_nil _, refl)
  turn_next is_positional Workers = (or_nil _, refl)
  turn_next is_idle Format = (or_nil _, refl)
  turn_next is_positional Format = (or_nil _, refl)

  pub turn_with : {wt : Waiting} → Open wt → (k : Valued) (v : Text) →
      Turns (state r p wt false) (option_word k ++ codes "=" ++ v) (or_else (pending_fault r p) (use_fault false (rule k) (v ∷ []) (after r p))) (state (used (rule k) (v ∷ []) (after r p)) None idle false)
  unfolding clap_on_literals
  turn_with is_idle Workers v = (or_nil _, refl)
  turn_with is_positional Workers v = (or_nil _, refl)
  turn_with is_idle Format v = (or_nil _, refl)
  turn_with is_positional Format v = (or_nil _, refl)

  pub turn_file : {wt : Waiting} → Open wt → (w : Text) → Plain w →
      Turns (state r p wt false) w (pending_fault r p) (state (after r p) (Some (codes "files", w ∷ [])) positional false)
  unfolding clap_on_literals
  turn_file is_idle w q = (rw (q.no_dashes, q.no_long, q.no_short) file_fault, rw (q.no_dashes, q.no_long, q.no_short) (pending_file w false _ (file_next w true (held r p) refl)))
  turn_file is_positional w q = (rw (q.no_dashes, q.no_long, q.no_short) file_fault, rw (q.no_dashes, q.no_long, q.no_short) (pending_file w false _ (file_next w true (held r p) refl)))

  -- a word that is refused, whatever waits
  pub bad_fails : (wt : Waiting) (w : Text) → Bad w → turn_fault lint [] (state r p wt false) w ≡ [] → ⊥
  unfolding clap_on_literals
  bad_fails idle w q e = q.refuses r p (or_parts _ _ (rw q.no_dashes at e)).0
  bad_fails positional w q e = q.refuses r p (or_parts _ _ (rw q.no_dashes at e)).0
  bad_fails (option id) w q e = q.refuses r p (or_parts _ _ (rw q.no_dashes at e)).0

-- a value of the option that waits
pub turn_value : (r : List Row) (k : Valued) (v : Text) → Plain v →
    Turns (state r (Some (name_of k, [])) (option (name_of k)) false) v [] (state r (Some (name_of k, v ∷ [])) idle false)
unfolding clap_on_literals
turn_value r Workers v q = (rw (q.no_dashes, q.no_long, q.no_short) refl, rw (q.no_dashes, q.no_long, q.no_short) refl)
turn_value r Format v q = (rw (q.no_dashes, q.no_long, q.no_short) refl, rw (q.no_dashes, q.no_long, q.no_short) refl)

-- an option that waits wants a value
pub wants : (r : List Row) (k : Valued) → pending_fault r (Some (name_of k, [])) ≡ [] → ⊥
unfolding clap_on_literals
wants r Workers e = cc
wants r Format e = cc

abbrev pub waits : List Row → Valued → Walk
waits r k = state r (Some (name_of k, [])) (option (name_of k)) false

pub wants_labels : (r : List Row) (k : Valued) → turn_fault lint [] (waits r k) (codes "--labels") ≡ [] → ⊥
unfolding clap_on_literals
wants_labels r Workers e = cc
wants_labels r Format e = cc

pub wants_next : (r : List Row) (k j : Valued) → turn_fault lint [] (waits r k) (option_word j) ≡ [] → ⊥
unfolding clap_on_literals
wants_next r Workers Workers e = cc
wants_next r Workers Format e = cc
wants_next r Format Workers e = cc
wants_next r Format Format e = cc

pub wants_with : (r : List Row) (k j : Valued) (v : Text) → turn_fault lint [] (waits r k) (option_word j ++ codes "=" ++ v) ≡ [] → ⊥
unfolding clap_on_literals
wants_with r Workers Workers v e = cc
wants_with r Workers Format v e = cc
wants_with r Format Workers v e = cc
wants_with r Format Format v e = cc
