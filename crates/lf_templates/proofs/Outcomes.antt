-- Going over the actions with a stack of bodies finds the first flaw and the references of the definitions.
use Rattle.std.proofs.Common.{◌≡◌, ℕ, zero, suc, Bool, true, false, not, ◌&&◌, ◌||◌, cond, List, [], ◌∷◌, ◌++◌, Option, Some, None, length, refl, ap, sym, ◌∙◌, append_assoc, append-nil}
use Rattle.std.specs.List.{list_any}
use Rattle.std.specs.Option.{option_map_or}
use Rattle.std.specs.Prelude.{option_map}
use Rattle.lf_base.specs.declared.place.Span.{Span}
use Rattle.lf_templates.specs.declared.token.Word.{Word}
use Rattle.lf_templates.specs.declared.token.Word.TheVariants as words
use Rattle.lf_templates.specs.declared.body.OpenBody.{OpenBody}
use Rattle.lf_templates.specs.declared.reference.Reference.{Reference}
use Rattle.lf_templates.specs.Source.{in_source}
use Rattle.lf_templates.specs.Actions.{tokens_of, first, is_sound, sets_labels}
use Rattle.lf_templates.specs.Templates.{Action, word_of_action, opens_body, bodies_behind, bodies_round, is_stray, inner_behind, is_closed, is_bad, first_flawed, hides, references_in, references_of}
use Rattle.lf_templates.specs.reading.Templates.{outcome, closed_by, opened_by, body, word_of_body, is_hidden, is_bad_by, or_else, some_or, outermost, flaw_at_end, ending_by, settled, or_settled, words_of, judged, judged_by}

-- ---- flaws and references apart

module _ (from text : List ℕ) where
  abbrev pub span_of : Action → Span
  span_of a = in_source from a.start a.end

  abbrev pub next_bodies : Action → List OpenBody → List OpenBody
  next_bodies a bodies = opened_by (word_of_action a) (span_of a) (closed_by (word_of_action a) bodies)

  abbrev pub bad_in : List OpenBody → Action → Bool
  bad_in bodies a = is_bad_by (first bodies) (tokens_of a.lexemes) (word_of_action a)

  abbrev pub verdict : List OpenBody → Option Span → List Action → Option Span
  verdict bodies flaw [] = flaw_at_end bodies flaw
  verdict bodies flaw (a ∷ later) =
      some_or (settled (next_bodies a bodies) (or_else flaw (bad_in bodies a) (span_of a))) (verdict (next_bodies a bodies) (or_else flaw (bad_in bodies a) (span_of a)) later)

  abbrev pub gathered : List OpenBody → Bool → List Action → List Reference
  gathered bodies renamed [] = []
  gathered bodies renamed (a ∷ later) =
      let gone = renamed || sets_labels (tokens_of a.lexemes) in
      references_in from text (gone || is_hidden (closed_by (word_of_action a) bodies)) a ++ gathered (next_bodies a bodies) gone later

  joined : (s : Option Span) (v : Option Span) (endless : Option ℕ) (x y : List Reference) → x ≡ y → or_settled s (ending_by from x endless v) ≡ ending_by from y endless (some_or s v)
  joined (Some span) v endless x y e = refl
  joined None v endless x y e = ap (λ (z : List Reference). ending_by from z endless v) e

  pub apart : (acts : List Action) (bodies : List OpenBody) (flaw : Option Span) (renamed : Bool) (found : List Reference) (endless : Option ℕ) →
      outcome from text bodies flaw renamed found acts endless ≡ ending_by from (found ++ gathered bodies renamed acts) endless (verdict bodies flaw acts)
  unfolding outcome
  apart [] bodies flaw renamed found endless = ap (λ (z : List Reference). ending_by from z endless (flaw_at_end bodies flaw)) (sym (append-nil found))
  apart (a ∷ later) bodies flaw renamed found endless =
      let gone = renamed || sets_labels (tokens_of a.lexemes) in
      let here = references_in from text (gone || is_hidden (closed_by (word_of_action a) bodies)) a in
      let next = next_bodies a bodies in
      let worst = or_else flaw (bad_in bodies a) (span_of a) in
      ap (or_settled (settled next worst)) (apart later next worst gone (found ++ here) endless)
      ∙ joined (settled next worst) (verdict next worst later) endless ((found ++ here) ++ gathered next gone later) (found ++ (here ++ gathered next gone later)) (append_assoc found here (gathered next gone later))

-- ---- references

-- Each body says whether it or one round it hides references.
abbrev pub AreMarked : List OpenBody → Type 0
AreMarked [] = Unit {0}
AreMarked (b ∷ bodies) = (b.hides ≡ list_any hides (words_of (b ∷ bodies))) × AreMarked bodies

hidden_is : (bodies : List OpenBody) → AreMarked bodies → is_hidden bodies ≡ list_any hides (words_of bodies)
hidden_is [] m = refl
hidden_is (b ∷ bodies) m = m.0

closed_words : (w : Word) (bodies : List OpenBody) → words_of (closed_by w bodies) ≡ bodies_round w (words_of bodies)
closed_words words.If bodies = refl
closed_words words.Range bodies = refl
closed_words words.With bodies = refl
closed_words words.Define bodies = refl
closed_words words.Block bodies = refl
closed_words words.Else bodies = refl
closed_words words.Other bodies = refl
closed_words words.End [] = refl
closed_words words.End (b ∷ bodies) = refl

closed_marked : (w : Word) (bodies : List OpenBody) → AreMarked bodies → AreMarked (closed_by w bodies)
closed_marked words.If bodies m = m
closed_marked words.Range bodies m = m
closed_marked words.With bodies m = m
closed_marked words.Define bodies m = m
closed_marked words.Block bodies m = m
closed_marked words.Else bodies m = m
closed_marked words.Other bodies m = m
closed_marked words.End [] m = tt
closed_marked words.End (b ∷ bodies) m = m.1

opened_marked : (w : Word) (span : Span) (bodies : List OpenBody) → AreMarked bodies → AreMarked (opened_by w span bodies)
opened_marked w span bodies m = by (opens_body w)
  where
    by : (t : Bool) → AreMarked (cond t (body w (hides w || is_hidden bodies) span ∷ bodies) bodies)
    by true = (ap (λ (t : Bool). hides w || t) (hidden_is bodies m), m)
    by false = m

pub next_words : (w : Word) (span : Span) (bodies : List OpenBody) → words_of (opened_by w span (closed_by w bodies)) ≡ bodies_behind w (words_of bodies)
next_words words.If span bodies = refl
next_words words.Range span bodies = refl
next_words words.With span bodies = refl
next_words words.Define span bodies = refl
next_words words.Block span bodies = refl
next_words words.Else span bodies = refl
next_words words.Other span bodies = refl
next_words words.End span [] = refl
next_words words.End span (b ∷ bodies) = refl

pub gathered_are : (from text : List ℕ) (acts : List Action) (bodies : List OpenBody) (renamed : Bool) → AreMarked bodies → gathered from text bodies renamed acts ≡ references_of from text (words_of bodies) renamed acts
gathered_are from text [] bodies renamed m = refl
gathered_are from text (a ∷ later) bodies renamed m =
    let w = word_of_action a in
    let gone = renamed || sets_labels (tokens_of a.lexemes) in
    let closed = closed_by w bodies in
    let next = next_bodies from text a bodies in
    let marked = closed_marked w bodies m in
    let hidden : is_hidden closed ≡ list_any hides (bodies_round w (words_of bodies)) = hidden_is closed marked ∙ ap (list_any hides) (closed_words w bodies) in
    let again = gathered_are from text later next gone (opened_marked w (span_of from text a) closed marked) in
    let behind = again ∙ ap (λ (x : List Word). references_of from text x gone later) (next_words w (span_of from text a) bodies) in
    ap (λ (t : Bool). references_in from text (gone || t) a ++ gathered from text next gone later) hidden
    ∙ ap (λ (x : List Reference). references_in from text (gone || list_any hides (bodies_round w (words_of bodies))) a ++ x) behind

-- ---- flaws

-- the outermost of some bodies, where the actions to come don't close it
abbrev pub left_open : List OpenBody → List Action → Option Span
left_open [] acts = None
left_open (b ∷ bodies) acts = cond (is_closed (length bodies) acts) None (outermost (b ∷ bodies))

outermost_some : (b : OpenBody) (bodies : List OpenBody) → (s : Span) × (outermost (b ∷ bodies) ≡ Some s)
outermost_some b [] = (b.span, refl)
outermost_some b (c ∷ bodies) = outermost_some c bodies

-- a body is closed where one round it is
closed_less : (acts : List Action) (k : ℕ) → is_closed (suc k) acts ≡ true → is_closed k acts ≡ true
closed_less [] k e = cc
closed_less (a ∷ later) k e = by (word_of_action a) k (λ j. closed_less later j) e
  where
    by : (w : Word) (k : ℕ) → ((j : ℕ) → is_closed (suc j) later ≡ true → is_closed j later ≡ true) → option_map_or (λ j. is_closed j later) (inner_behind w (suc k)) true ≡ true → option_map_or (λ j. is_closed j later) (inner_behind w k) true ≡ true
    by words.If k again e = again (suc k) e
    by words.Range k again e = again (suc k) e
    by words.With k again e = again (suc k) e
    by words.Define k again e = again (suc k) e
    by words.Block k again e = again (suc k) e
    by words.Else k again e = again k e
    by words.Other k again e = again k e
    by words.End zero again e = refl
    by words.End (suc k) again e = again k e

closed_innermost : (acts : List Action) (k : ℕ) → is_closed k acts ≡ true → is_closed 0 acts ≡ true
closed_innermost acts zero e = e
closed_innermost acts (suc k) e = closed_innermost acts k (closed_less acts k e)

-- Where a body is open before an action: either none is behind it, or what is left open is the same.
abbrev Follows : Word → List OpenBody → Option Span → List Action → Type 0
Follows w [] before later = (before ≡ None) × (opens_body w ≡ false)
Follows w (c ∷ next) before later = (left_open (c ∷ next) later ≡ before) × (opens_body w ≡ true → before ≡ None → is_closed 0 later ≡ true)

module _ (a : Action) (later : List Action) (span : Span) (b : OpenBody) (bodies : List OpenBody) where
  -- left open where the innermost body of as many as these isn't closed
  abbrev open_by : Word → Option Span
  open_by w = cond (option_map_or (λ k. is_closed k later) (inner_behind w (length bodies)) true) None (outermost (b ∷ bodies))

  opening_follows : (x : OpenBody) → cond (is_closed (suc (length bodies)) later) None (outermost (b ∷ bodies)) ≡ None → is_closed 0 later ≡ true
  opening_follows x e = by (is_closed (suc (length bodies)) later) refl e
    where
      by : (t : Bool) → is_closed (suc (length bodies)) later ≡ t → cond t None (outermost (b ∷ bodies)) ≡ None → is_closed 0 later ≡ true
      by true is e = closed_innermost later (suc (length bodies)) is
      by false is e = let s = outermost_some b bodies in let f : Some s.0 ≡ None = sym s.1 ∙ e in cc

  follows : (w : Word) → Follows w (opened_by w span (closed_by w (b ∷ bodies))) (open_by w) later
  follows words.If = (refl, λ _ e. opening_follows b e)
  follows words.Range = (refl, λ _ e. opening_follows b e)
  follows words.With = (refl, λ _ e. opening_follows b e)
  follows words.Define = (refl, λ _ e. opening_follows b e)
  follows words.Block = (refl, λ _ e. opening_follows b e)
  follows words.Else = (refl, λ e. cc)
  follows words.Other = (refl, λ e. cc)
  follows words.End = ending_follows bodies
    where
      ending_follows : (bodies : List OpenBody) → Follows words.End bodies (cond (option_map_or (λ k. is_closed k later) (inner_behind words.End (length bodies)) true) None (outermost (b ∷ bodies))) later
      ending_follows [] = (refl, refl)
      ending_follows (c ∷ bodies) = (refl, λ e. cc)

module _ (from text : List ℕ) where
  -- with a flaw, and a body open before it
  flawed_verdict : (acts : List Action) (b : OpenBody) (bodies : List OpenBody) (f : Span) → verdict from text (b ∷ bodies) (Some f) acts ≡ some_or (left_open (b ∷ bodies) acts) (Some f)
  flawed_verdict [] b bodies f = refl
  flawed_verdict (a ∷ later) b bodies f = by (next_bodies from text a (b ∷ bodies)) (λ c next. flawed_verdict later c next f) (follows a later (span_of from text a) b bodies (word_of_action a))
    where
      by : (next : List OpenBody) → ((c : OpenBody) (more : List OpenBody) → verdict from text (c ∷ more) (Some f) later ≡ some_or (left_open (c ∷ more) later) (Some f)) → Follows (word_of_action a) next (left_open (b ∷ bodies) (a ∷ later)) later →
          some_or (settled next (Some f)) (verdict from text next (Some f) later) ≡ some_or (left_open (b ∷ bodies) (a ∷ later)) (Some f)
      by [] again h = ap (λ (x : Option Span). some_or x (Some f)) (sym h.0)
      by (c ∷ next) again h = again c next ∙ ap (λ (x : Option Span). some_or x (Some f)) h.0

  abbrev pub flaw_span : Option Action → Option Span
  flaw_span o = option_map (span_of from text) o

  first_word : (bodies : List OpenBody) → first (words_of bodies) ≡ word_of_body (first bodies)
  first_word [] = refl
  first_word (b ∷ bodies) = refl

  bad_is : (bodies : List OpenBody) (a : Action) → is_bad (words_of bodies) a ≡ bad_in from text bodies a
  bad_is bodies a = ap (λ (x : Option Word). not (is_sound (tokens_of a.lexemes)) || is_stray (word_of_action a) x) (first_word bodies)

  -- an action that isn't wrong in itself
  sound_next : (a : Action) (later : List Action) (bodies : List OpenBody) (ff : Option Action) →
      some_or (left_open (next_bodies from text a bodies) later) (flaw_span ff) ≡ some_or (left_open bodies (a ∷ later)) (flaw_span (cond (opens_body (word_of_action a) && not (is_closed 0 later)) (Some a) ff))
  sound_next a later [] ff = by (word_of_action a)
    where
      opening : (w : Word) → some_or (cond (is_closed 0 later) None (Some (span_of from text a))) (flaw_span ff) ≡ flaw_span (cond (not (is_closed 0 later)) (Some a) ff)
      opening w = go (is_closed 0 later)
        where
          go : (t : Bool) → some_or (cond t None (Some (span_of from text a))) (flaw_span ff) ≡ flaw_span (cond (not t) (Some a) ff)
          go true = refl
          go false = refl

      by : (w : Word) → some_or (left_open (opened_by w (span_of from text a) (closed_by w [])) later) (flaw_span ff) ≡ flaw_span (cond (opens_body w && not (is_closed 0 later)) (Some a) ff)
      by words.If = opening words.If
      by words.Range = opening words.If
      by words.With = opening words.If
      by words.Define = opening words.If
      by words.Block = opening words.If
      by words.Else = refl
      by words.Other = refl
      by words.End = refl
  sound_next a later (b ∷ bodies) ff = by (next_bodies from text a (b ∷ bodies)) (opens_body (word_of_action a)) (left_open (b ∷ bodies) (a ∷ later)) refl refl (follows a later (span_of from text a) b bodies (word_of_action a))
    where
      by : (next : List OpenBody) (o : Bool) (before : Option Span) → opens_body (word_of_action a) ≡ o → left_open (b ∷ bodies) (a ∷ later) ≡ before → Follows (word_of_action a) next (left_open (b ∷ bodies) (a ∷ later)) later →
          some_or (left_open next later) (flaw_span ff) ≡ some_or before (flaw_span (cond (o && not (is_closed 0 later)) (Some a) ff))
      by [] o before e f h = rw (sym f ∙ h.0, sym e ∙ h.1) refl
      by (c ∷ next) false before e f h = ap (λ (x : Option Span). some_or x (flaw_span ff)) (h.0 ∙ f)
      by (c ∷ next) true (Some s) e f h = ap (λ (x : Option Span). some_or x (flaw_span ff)) (h.0 ∙ f)
      by (c ∷ next) true None e f h = let k = h.1 e f in rw (h.0 ∙ f, k) refl

  pub verdict_is : (acts : List Action) (bodies : List OpenBody) → verdict from text bodies None acts ≡ some_or (left_open bodies acts) (flaw_span (first_flawed (words_of bodies) acts))
  verdict_is [] [] = refl
  verdict_is [] (b ∷ bodies) = refl
  verdict_is (a ∷ later) bodies = by (bad_in from text bodies a) (bad_is bodies a) (verdict_is later (next_bodies from text a bodies))
    where
      w : Word
      w = word_of_action a

      wrong : (bodies : List OpenBody) → some_or (settled (next_bodies from text a bodies) (Some (span_of from text a))) (verdict from text (next_bodies from text a bodies) (Some (span_of from text a)) later) ≡ some_or (left_open bodies (a ∷ later)) (Some (span_of from text a))
      wrong [] = go (word_of_action a)
        where
          opening : (x : OpenBody) → x.span ≡ span_of from text a → verdict from text (x ∷ []) (Some (span_of from text a)) later ≡ Some (span_of from text a)
          opening x e = flawed_verdict later x [] (span_of from text a) ∙ at (is_closed 0 later)
            where
              at : (t : Bool) → some_or (cond t None (Some x.span)) (Some (span_of from text a)) ≡ Some (span_of from text a)
              at true = refl
              at false = ap (λ (y : Span). Some y) e

          go : (w : Word) → some_or (settled (opened_by w (span_of from text a) (closed_by w [])) (Some (span_of from text a))) (verdict from text (opened_by w (span_of from text a) (closed_by w [])) (Some (span_of from text a)) later) ≡ Some (span_of from text a)
          go words.If = opening _ refl
          go words.Range = opening _ refl
          go words.With = opening _ refl
          go words.Define = opening _ refl
          go words.Block = opening _ refl
          go words.Else = refl
          go words.Other = refl
          go words.End = refl
      wrong (b ∷ bodies) = go (next_bodies from text a (b ∷ bodies)) (follows a later (span_of from text a) b bodies (word_of_action a))
        where
          go : (next : List OpenBody) → Follows (word_of_action a) next (left_open (b ∷ bodies) (a ∷ later)) later → some_or (settled next (Some (span_of from text a))) (verdict from text next (Some (span_of from text a)) later) ≡ some_or (left_open (b ∷ bodies) (a ∷ later)) (Some (span_of from text a))
          go [] h = ap (λ (x : Option Span). some_or x (Some (span_of from text a))) (sym h.0)
          go (c ∷ next) h = flawed_verdict later c next (span_of from text a) ∙ ap (λ (x : Option Span). some_or x (Some (span_of from text a))) h.0

      by : (t : Bool) → is_bad (words_of bodies) a ≡ t → verdict from text (next_bodies from text a bodies) None later ≡ some_or (left_open (next_bodies from text a bodies) later) (flaw_span (first_flawed (words_of (next_bodies from text a bodies)) later)) →
          some_or (settled (next_bodies from text a bodies) (or_else None t (span_of from text a))) (verdict from text (next_bodies from text a bodies) (or_else None t (span_of from text a)) later) ≡ some_or (left_open bodies (a ∷ later)) (flaw_span (first_flawed (words_of bodies) (a ∷ later)))
      by true e again = rw e (wrong bodies)
      by false e again = rw e (quiet (next_bodies from text a bodies) ∙ again ∙ ap (λ (x : List Word). some_or (left_open (next_bodies from text a bodies) later) (flaw_span (first_flawed x later))) (next_words (word_of_action a) (span_of from text a) bodies) ∙ sound_next a later bodies (first_flawed (bodies_behind (word_of_action a) (words_of bodies)) later))
        where
          quiet : (next : List OpenBody) → some_or (settled next None) (verdict from text next None later) ≡ verdict from text next None later
          quiet [] = refl
          quiet (c ∷ next) = refl

-- ---- all of them

module _ (from text : List ℕ) where
  at_end : (acts : List Action) (endless : Option ℕ) (o : Option Action) → ending_by from (references_of from text [] false acts) endless (flaw_span from text o) ≡ judged_by from text (record { actions = acts; endless = endless }) o
  at_end acts endless (Some a) = refl
  at_end acts None None = refl
  at_end acts (Some at) None = refl

  pub outcome_judged : (acts : List Action) (endless : Option ℕ) → outcome from text [] None false [] acts endless ≡ judged from text (record { actions = acts; endless = endless })
  outcome_judged acts endless =
      apart from text acts [] None false [] endless
      ∙ ap (λ (x : List Reference). ending_by from x endless (verdict from text [] None acts)) (gathered_are from text acts [] false tt)
      ∙ ap (ending_by from (references_of from text [] false acts) endless) (verdict_is from text acts [])
      ∙ at_end acts endless (first_flawed [] acts)
