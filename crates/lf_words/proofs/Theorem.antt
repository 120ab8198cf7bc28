-- Clap's definition takes exactly the words of the grammar.
use Rattle.std.proofs.Common.{◌≡◌, ◌≢◌, Bool, true, false, cond, List, [], ◌∷◌, ◌++◌, Option, None, Some, is_some, option_map, fold, codes, slice_get, drop, String, string_bytes, ◌||◌, refl, ◌∙◌, ap, ap₂, sym, subst, inl, inr, true≢false, append_assoc}
use Rattle.std.specs.Str.{bytes_eq, IsUtf8}
use Rattle.std.proofs.lemmas.Bool.{cond-true, cond-false, cond_both, or_right, cases_Bool}
use Rattle.std.specs.Prelude.{option_and_then}
use Rattle.clap.specs.Words.{Text, Row, Rule, Kinds, built, first_of}
use Rattle.clap.proofs.FaultLemmas.{leaf_fault}
use Rattle.lf_words.specs.views.Commands.{lint_app, says_true, all_values, first_value, texts_of}
use Rattle.std.proofs.lemmas.Str.{IsUtf8-had}
use Rattle.std.proofs.lemmas.List.{append-nil}
use Rattle.clap.specs.Walk.{Walk, Waiting, idle, positional, option, walked, settled, used, reading_by, has_row, with_values, with_default, default_rows, nothing_held}
use Rattle.clap.specs.Faults.{turn_fault, settle_fault, use_fault, walk_fault, defaults_fault, default_fault, check_fault, fault_of}
use Rattle.clap.specs.Kinds.{or_else}
use Rattle.clap.specs.declared.parser.matches.ValueSource.TheVariants.{CommandLine, DefaultValue}
use Rattle.lf_words.specs.Lint.{LintArguments, GivesArguments, nothing, Word, Valued, Workers, Format, option_word, value_of, with_value, with_labels, with_files, no_more, dashes, file, value_next, value_joined}
use Rattle.lf_words.specs.Lint as grammar
use Rattle.lf_words.proofs.Steps.{name_of, lint, rules, rule, labels, files, Pending, state, pending_fault, after, Turns, or_parts, Open, is_idle, is_positional, turn_after, turn_dashes, turn_labels, turn_next, turn_with, turn_file, turn_value, bad_fails, wants, waits, wants_labels, wants_next, wants_with}
use Rattle.lf_words.proofs.Forms.{Kind, k_dashes, k_labels, k_next, k_with, k_value, k_bad, classify, plain_of}
use Rattle.lf_words.proofs.Rows.{row_at, has_row-is, without-none, with-none, with-some, with-other}

-- ---- the faults of many words

abbrev end_of : Walk → List Text → Walk
end_of w ws = fold (walked rules []) w ws

abbrev body : Walk → List Text → Kinds
body w ws = or_else (walk_fault lint [] w ws) (settle_fault rules false (end_of w ws).held)

or_assoc : (a b c : Kinds) → or_else (or_else a b) c ≡ or_else a (or_else b c)
or_assoc [] b c = refl
or_assoc (x ∷ xs) b c = refl

body_turn : (w next : Walk) (x : Text) (f : Kinds) (ws : List Text) → Turns w x f next → body w (x ∷ ws) ≡ or_else f (body next ws)
unfolding walk_fault
body_turn w next x f ws t = or_assoc (turn_fault lint [] w x) (walk_fault lint [] (walked rules [] w x) ws) (settle_fault rules false (end_of (walked rules [] w x) ws).held) ∙ ap₂ (λ (k : Kinds) (n : Walk). or_else k (body n ws)) t.0 t.1

body_first : (w : Walk) (x : Text) (ws : List Text) → body w (x ∷ ws) ≡ [] → turn_fault lint [] w x ≡ []
unfolding walk_fault
body_first w x ws e = (or_parts _ _ (or_parts _ _ e).0).0

body_end : (r : List Row) (p : Pending) (wt : Waiting) (b : Bool) → body (state r p wt b) [] ≡ pending_fault r p
unfolding walk_fault
body_end r p wt b = refl

settles_after : (ws : List Text) (r : List Row) (p : Pending) (wt : Waiting) → body (state r p wt true) ws ≡ [] → pending_fault r p ≡ []
settles_after [] r p wt e = sym (body_end r p wt true) ∙ e
settles_after (w ∷ ws) r p wt e = (or_parts _ _ (sym (body_turn (state r p wt true) _ w _ ws (turn_after r p wt w)) ∙ e)).0

-- each word is a text
pub data Texts : List Text → Type 0 where
  none : Texts []
  more : {w : Text} {ws : List Text} → IsUtf8 w → Texts ws → Texts (w ∷ ws)

settles : {ws : List Text} → Texts ws → (r : List Row) (p : Pending) (wt : Waiting) → Open wt → body (state r p wt false) ws ≡ [] → pending_fault r p ≡ []
settles none r p wt o e = sym (body_end r p wt false) ∙ e
settles (more {w} {ws} u us) r p wt o e = go w (classify w u) e
  where
    go : (x : Text) → Kind x → body (state r p wt false) (x ∷ ws) ≡ [] → pending_fault r p ≡ []
    go _ k_dashes h = settles_after ws r p wt (sym (body_turn (state r p wt false) _ (codes "--") _ ws (turn_dashes r p wt)) ∙ h)
    go _ k_labels h = (or_parts _ _ (or_parts _ _ (sym (body_turn (state r p wt false) _ (codes "--labels") _ ws (turn_labels r p o)) ∙ h)).0).0
    go _ (k_next k) h = (or_parts _ _ (sym (body_turn (state r p wt false) _ _ _ ws (turn_next r p o k)) ∙ h)).0
    go _ (k_with k v) h = (or_parts _ _ (or_parts _ _ (sym (body_turn (state r p wt false) _ _ _ ws (turn_with r p o k v)) ∙ h)).0).0
    go x (k_value v q) h = (or_parts _ _ (sym (body_turn (state r p wt false) _ x _ ws (turn_file r p o x q)) ∙ h)).0
    go x (k_bad q) h = absurd (bad_fails r p wt x q (body_first (state r p wt false) x ws h))

-- ---- the rows

abbrev option_row : Valued → Text → Row
option_row k v = record { id = name_of k; values = v ∷ []; count = None; source = Some CommandLine; reading = reading_by (rule k) }

abbrev labels_row : Bool → Option Row
labels_row true = Some (record { id = codes "labels"; values = codes "true" ∷ []; count = None; source = Some CommandLine; reading = reading_by labels })
labels_row false = None

abbrev files_row : List Text → Option Row
files_row [] = None
files_row (f ∷ fs) = Some (record { id = codes "files"; values = f ∷ fs; count = None; source = Some CommandLine; reading = reading_by files })

pub record Shows (R : List Row) (a : LintArguments) : Type 0 where
  pub options : (k : Valued) → row_at (name_of k) R ≡ option_map (option_row k) (value_of k a)
  pub flag : row_at (codes "labels") R ≡ labels_row a.labels
  pub files_are : row_at (codes "files") R ≡ files_row a.files

show_option : (R : List Row) (a : LintArguments) (k : Valued) (v : Text) → Shows R a → value_of k a ≡ None → Shows (used (rule k) (v ∷ []) R) (with_value k v a)
show_option R a Workers v s n =
    let none : row_at (codes "workers") R ≡ None = s.options Workers ∙ ap (option_map (option_row Workers)) n in
    let eq = ap (with_values (codes "workers") (reading_by (rule Workers)) CommandLine (v ∷ [])) (without-none (codes "workers") R none) in
    let P : List Row → Type 0 = λ l. Shows l (with_value Workers v a) in
    subst P (sym eq) (record {
      options = λ k. elim k as (λ j. row_at (name_of j) (with_values (codes "workers") (reading_by (rule Workers)) CommandLine (v ∷ []) R) ≡ option_map (option_row j) (value_of j (with_value Workers v a))) [
        | Workers ↦ with-none (codes "workers") (reading_by (rule Workers)) CommandLine (v ∷ []) R none
        | Format ↦ with-other (codes "workers") (reading_by (rule Workers)) CommandLine (v ∷ []) (codes "format") R refl ∙ s.options Format
      ];
      flag = with-other (codes "workers") (reading_by (rule Workers)) CommandLine (v ∷ []) (codes "labels") R refl ∙ s.flag;
      files_are = with-other (codes "workers") (reading_by (rule Workers)) CommandLine (v ∷ []) (codes "files") R refl ∙ s.files_are;
    })
show_option R a Format v s n =
    let none : row_at (codes "format") R ≡ None = s.options Format ∙ ap (option_map (option_row Format)) n in
    let eq = ap (with_values (codes "format") (reading_by (rule Format)) CommandLine (v ∷ [])) (without-none (codes "format") R none) in
    let P : List Row → Type 0 = λ l. Shows l (with_value Format v a) in
    subst P (sym eq) (record {
      options = λ k. elim k as (λ j. row_at (name_of j) (with_values (codes "format") (reading_by (rule Format)) CommandLine (v ∷ []) R) ≡ option_map (option_row j) (value_of j (with_value Format v a))) [
        | Format ↦ with-none (codes "format") (reading_by (rule Format)) CommandLine (v ∷ []) R none
        | Workers ↦ with-other (codes "format") (reading_by (rule Format)) CommandLine (v ∷ []) (codes "workers") R refl ∙ s.options Workers
      ];
      flag = with-other (codes "format") (reading_by (rule Format)) CommandLine (v ∷ []) (codes "labels") R refl ∙ s.flag;
      files_are = with-other (codes "format") (reading_by (rule Format)) CommandLine (v ∷ []) (codes "files") R refl ∙ s.files_are;
    })

show_labels : (R : List Row) (a : LintArguments) → Shows R a → a.labels ≡ false → Shows (used labels [] R) (with_labels a)
show_labels R a s n =
    let none : row_at (codes "labels") R ≡ None = s.flag ∙ ap labels_row n in
    let eq = ap (with_values (codes "labels") (reading_by labels) CommandLine (codes "true" ∷ [])) (without-none (codes "labels") R none) in
    let P : List Row → Type 0 = λ l. Shows l (with_labels a) in
    subst P (sym eq) (record {
      options = λ k. elim k as (λ j. row_at (name_of j) (with_values (codes "labels") (reading_by labels) CommandLine (codes "true" ∷ []) R) ≡ option_map (option_row j) (value_of j (with_labels a))) [
        | Workers ↦ with-other (codes "labels") (reading_by labels) CommandLine (codes "true" ∷ []) (codes "workers") R refl ∙ s.options Workers
        | Format ↦ with-other (codes "labels") (reading_by labels) CommandLine (codes "true" ∷ []) (codes "format") R refl ∙ s.options Format
      ];
      flag = with-none (codes "labels") (reading_by labels) CommandLine (codes "true" ∷ []) R none;
      files_are = with-other (codes "labels") (reading_by labels) CommandLine (codes "true" ∷ []) (codes "files") R refl ∙ s.files_are;
    })

show_file : (R : List Row) (a : LintArguments) (w : Text) → Shows R a → Shows (used files (w ∷ []) R) (with_files (w ∷ []) a)
show_file R a w s = record {
  options = λ k. elim k as (λ j. row_at (name_of j) (with_values (codes "files") (reading_by files) CommandLine (w ∷ []) R) ≡ option_map (option_row j) (value_of j (with_files (w ∷ []) a))) [
    | Workers ↦ with-other (codes "files") (reading_by files) CommandLine (w ∷ []) (codes "workers") R refl ∙ s.options Workers
    | Format ↦ with-other (codes "files") (reading_by files) CommandLine (w ∷ []) (codes "format") R refl ∙ s.options Format
  ];
  flag = with-other (codes "files") (reading_by files) CommandLine (w ∷ []) (codes "labels") R refl ∙ s.flag;
  files_are = go a.files s.files_are;
}
  where
    go : (fs : List Text) → row_at (codes "files") R ≡ files_row fs → row_at (codes "files") (with_values (codes "files") (reading_by files) CommandLine (w ∷ []) R) ≡ files_row (fs ++ w ∷ [])
    go [] h = with-none (codes "files") (reading_by files) CommandLine (w ∷ []) R h
    go (f ∷ fs) h = with-some (codes "files") (reading_by files) CommandLine (w ∷ []) R (record { id = codes "files"; values = f ∷ fs; count = None; source = Some CommandLine; reading = reading_by files }) h

-- ---- one use

none_of : {X : Type 0} (o : Option X) → is_some o ≡ false → o ≡ None
none_of None h = refl
none_of (Some x) h = absurd (true≢false h)

not_there : (id : Text) (R : List Row) → has_row id R ≡ false → row_at id R ≡ None
not_there id R h = none_of _ (sym (has_row-is id R) ∙ h)

option_free : (R : List Row) (k : Valued) (v : Text) → use_fault false (rule k) (v ∷ []) R ≡ [] → row_at (name_of k) R ≡ None
option_free R Workers v e = elim (cases_Bool (has_row (codes "workers") R)) [
  | inl t ↦ let bad = rw t at e in absurd cc
  | inr f ↦ not_there (codes "workers") R f
]
option_free R Format v e = elim (cases_Bool (has_row (codes "format") R)) [
  | inl t ↦ let bad = rw t at e in absurd cc
  | inr f ↦ not_there (codes "format") R f
]

labels_free : (R : List Row) → use_fault false labels [] R ≡ [] → row_at (codes "labels") R ≡ None
labels_free R e = elim (cases_Bool (has_row (codes "labels") R)) [
  | inl t ↦ let bad = rw t at e in absurd cc
  | inr f ↦ not_there (codes "labels") R f
]

option_faultless : (R : List Row) (k : Valued) (v : Text) → row_at (name_of k) R ≡ None → use_fault false (rule k) (v ∷ []) R ≡ []
option_faultless R Workers v e = rw (has_row-is (codes "workers") R, e) refl
option_faultless R Format v e = rw (has_row-is (codes "format") R, e) refl

labels_faultless : (R : List Row) → row_at (codes "labels") R ≡ None → use_fault false labels [] R ≡ []
labels_faultless R e = rw (has_row-is (codes "labels") R, e) refl

-- ---- what the words give is read

no_value : (k : Valued) (R : List Row) (a : LintArguments) → Shows R a → row_at (name_of k) R ≡ None → value_of k a ≡ None
no_value k R a s h = go (value_of k a) (sym (s.options k) ∙ h)
  where
    go : (o : Option Text) → option_map (option_row k) o ≡ None → o ≡ None
    go None e = refl
    go (Some v) e = absurd cc

no_labels : (R : List Row) (a : LintArguments) → Shows R a → row_at (codes "labels") R ≡ None → a.labels ≡ false
no_labels R a s h = go a.labels (sym s.flag ∙ h)
  where
    go : (b : Bool) → labels_row b ≡ None → b ≡ false
    go true e = absurd cc
    go false e = refl

pending_option : (R : List Row) (k : Valued) (v : Text) → pending_fault R (Some (name_of k, v ∷ [])) ≡ use_fault false (rule k) (v ∷ []) R
pending_option R Workers v = refl
pending_option R Format v = refl

after_option : (R : List Row) (k : Valued) (v : Text) → after R (Some (name_of k, v ∷ [])) ≡ used (rule k) (v ∷ []) R
after_option R Workers v = refl
after_option R Format v = refl

pub data LintMode : Type 0 where
  opened : LintMode
  waiting_for : Valued → LintMode

abbrev Premise : LintMode → LintArguments → List Row → Pending → Waiting → Type 0
Premise opened a r p wt = Open wt × Shows (after r p) a
Premise (waiting_for k) a r p wt = (p ≡ Some (name_of k, [])) × (wt ≡ option (name_of k)) × Shows r a

abbrev Conclusion : LintMode → LintArguments → List Text → Type 0
Conclusion opened a ws = (c : LintArguments) × GivesArguments a ws c
Conclusion (waiting_for k) a ws = (c : LintArguments) × GivesArguments a ((option_word k) ∷ ws) c

reads : {ws : List Text} → Texts ws → (m : LintMode) (a : LintArguments) (r : List Row) (p : Pending) (wt : Waiting) → Premise m a r p wt → body (state r p wt false) ws ≡ [] → Conclusion m a ws
reads none opened a r p wt h e = (a, no_more)
reads none (waiting_for k) a r p wt h e =
    let P : Pending → Type 0 = λ q. pending_fault r q ≡ [] in
    absurd (wants r k (subst P h.0 (sym (body_end r p wt false) ∙ e)))
reads (more {w} {ws} u us) opened a r p wt (o, s) e = go (λ m a r p wt h e. reads us m a r p wt h e) w (classify w u) e
  where
    go : ((m : LintMode) (a : LintArguments) (r : List Row) (p : Pending) (wt : Waiting) → Premise m a r p wt → body (state r p wt false) ws ≡ [] → Conclusion m a ws) → (x : Text) → Kind x → body (state r p wt false) (x ∷ ws) ≡ [] → (c : LintArguments) × GivesArguments a (x ∷ ws) c
    go ih _ k_dashes h = (with_files ws a, dashes)
    go ih _ k_labels h =
        let parts = or_parts _ _ (sym (body_turn (state r p wt false) _ (codes "--labels") _ ws (turn_labels r p o)) ∙ h) in
        let free = no_labels (after r p) a s (labels_free (after r p) (or_parts _ _ parts.0).1) in
        let (c, read) = ih opened (with_labels a) (used labels [] (after r p)) None idle (is_idle, show_labels (after r p) a s free) parts.1 in
        (c, grammar.labels free read)
    go ih _ (k_next k) h =
        ih (waiting_for k) a (after r p) (Some (name_of k, [])) (option (name_of k)) (refl, refl, s)
        (or_parts _ _ (sym (body_turn (state r p wt false) _ _ _ ws (turn_next r p o k)) ∙ h)).1
    go ih _ (k_with k v) h =
        let parts = or_parts _ _ (sym (body_turn (state r p wt false) _ _ _ ws (turn_with r p o k v)) ∙ h) in
        let free = no_value k (after r p) a s (option_free (after r p) k v (or_parts _ _ parts.0).1) in
        let (c, read) = ih opened (with_value k v a) (used (rule k) (v ∷ []) (after r p)) None idle (is_idle, show_option (after r p) a k v s free) parts.1 in
        (c, value_joined k v free read)
    go ih x (k_value v q) h =
        let (c, read) = ih opened (with_files (x ∷ []) a) (after r p) (Some (codes "files", x ∷ [])) positional (is_positional, show_file (after r p) a x s)
        (or_parts _ _ (sym (body_turn (state r p wt false) _ x _ ws (turn_file r p o x q)) ∙ h)).1 in
        (c, file v read)
    go ih x (k_bad q) h = absurd (bad_fails r p wt x q (body_first (state r p wt false) x ws h))
reads (more {w} {ws} u us) (waiting_for k) a r p wt (is_p, is_wt, s) e =
    let P : Pending → Type 0 = λ q. body (state r q wt false) (w ∷ ws) ≡ [] in
    let Q : Waiting → Type 0 = λ q. body (state r (Some (name_of k, [])) q false) (w ∷ ws) ≡ [] in
    go (λ m a r p wt h e. reads us m a r p wt h e) w (classify w u) (subst Q is_wt (subst P is_p e))
  where
    go : ((m : LintMode) (a : LintArguments) (r : List Row) (p : Pending) (wt : Waiting) → Premise m a r p wt → body (state r p wt false) ws ≡ [] → Conclusion m a ws) → (x : Text) → Kind x → body (waits r k) (x ∷ ws) ≡ [] → (c : LintArguments) × GivesArguments a ((option_word k) ∷ x ∷ ws) c
    go ih _ k_dashes h = absurd (wants r k (settles_after ws r (Some (name_of k, [])) (option (name_of k))
        (sym (body_turn (waits r k) _ (codes "--") _ ws (turn_dashes r (Some (name_of k, [])) (option (name_of k)))) ∙ h)))
    go ih _ k_labels h = absurd (wants_labels r k (body_first (waits r k) _ ws h))
    go ih _ (k_next j) h = absurd (wants_next r k j (body_first (waits r k) _ ws h))
    go ih _ (k_with j v) h = absurd (wants_with r k j v (body_first (waits r k) _ ws h))
    go ih x (k_bad q) h = absurd (bad_fails r (Some (name_of k, [])) (option (name_of k)) x q (body_first (waits r k) x ws h))
    go ih x (k_value v q) h =
        let rest = sym (body_turn (waits r k) _ x _ ws (turn_value r k x q)) ∙ h in
        let free = no_value k r a s (option_free r k x (sym (pending_option r k x) ∙ settles us r (Some (name_of k, x ∷ [])) idle is_idle rest)) in
        let S : List Row → Type 0 = λ l. Shows l (with_value k x a) in
        let (c, read) = ih opened (with_value k x a) r (Some (name_of k, x ∷ [])) idle (is_idle, subst S (sym (after_option r k x)) (show_option r a k x s free)) rest in
        (c, value_next k free v read)

-- ---- what is read has no fault

abbrev rows_end : Walk → List Text → List Row
rows_end w ws = (settled rules (end_of w ws).held).rows

abbrev Accepted : Walk → List Text → LintArguments → Type 0
Accepted w ws c = (body w ws ≡ []) × Shows (rows_end w ws) c

go_on : (w next : Walk) (x : Text) (f : Kinds) (ws : List Text) (c : LintArguments) → Turns w x f next → f ≡ [] → Accepted next ws c → Accepted w (x ∷ ws) c
go_on w next x f ws c t e ih =
    let S : Walk → Type 0 = λ n. Shows (rows_end n ws) c in (
      body_turn w next x f ws t ∙ ap (λ (k : Kinds). or_else k (body next ws)) e ∙ ih.0,
      subst S (sym t.1) ih.1,
    )

value_row : (R : List Row) (a : LintArguments) (k : Valued) → Shows R a → value_of k a ≡ None → row_at (name_of k) R ≡ None
value_row R a k s n = s.options k ∙ ap (option_map (option_row k)) n

accepts_files : (ws : List Text) (a : LintArguments) (r : List Row) (p : Pending) (wt : Waiting) → pending_fault r p ≡ [] → Shows (after r p) a →
    Accepted (state r p wt true) ws (with_files ws a)
accepts_files [] a r p wt e s =
    let S : List Text → Type 0 = λ l. Shows (after r p) (record a { files = l }) in
    (body_end r p wt true ∙ e, subst S (sym (append-nil a.files)) s)
accepts_files (w ∷ ws) a r p wt e s =
    let S : List Text → Type 0 = λ l. Accepted (state (after r p) (Some (codes "files", w ∷ [])) positional true) ws (record a { files = l }) in
    go_on _ _ w _ ws (with_files (w ∷ ws) a) (turn_after r p wt w) e
    (subst S (append_assoc a.files (w ∷ []) ws) (accepts_files ws (with_files (w ∷ []) a) (after r p) (Some (codes "files", w ∷ [])) positional refl (show_file (after r p) a w s)))

accepts : {a c : LintArguments} {ws : List Text} → GivesArguments a ws c → (r : List Row) (p : Pending) (wt : Waiting) → Open wt → pending_fault r p ≡ [] → Shows (after r p) a →
    Accepted (state r p wt false) ws c
accepts no_more r p wt o e s = (body_end r p wt _ ∙ e, s)
accepts (dashes {given = a} {files = ws}) r p wt o e s = go_on _ _ (codes "--") _ ws (with_files ws a) (turn_dashes r p wt) refl (accepts_files ws a r p wt e s)
accepts (file {given = a} {last = c} {file = w} {words = ws} v d) r p wt o e s =
    go_on _ _ w _ ws c (turn_file r p o w (plain_of w v)) e (accepts d (after r p) (Some (codes "files", w ∷ [])) positional is_positional refl (show_file (after r p) a w s))
accepts (grammar.labels {given = a} {last = c} {words = ws} n d) r p wt o e s =
    go_on _ _ (codes "--labels") _ ws c (turn_labels r p o)
    (ap₂ or_else e (labels_faultless (after r p) (s.flag ∙ ap labels_row n)))
    (accepts d (used labels [] (after r p)) None idle is_idle refl (show_labels (after r p) a s n))
accepts (value_next {given = a} {last = c} {words = ws} k {value = v} n q d) r p wt o e s =
    let R = after r p in
    let S : List Row → Type 0 = λ l. Shows l (with_value k v a) in
    go_on _ _ (option_word k) _ (v ∷ ws) c (turn_next r p o k) e
    (go_on (waits R k) _ v _ ws c (turn_value R k v (plain_of v q)) refl
    (accepts d R (Some (name_of k, v ∷ [])) idle is_idle (pending_option R k v ∙ option_faultless R k v (value_row R a k s n))
    (subst S (sym (after_option R k v)) (show_option R a k v s n))))
accepts (value_joined {given = a} {last = c} {words = ws} k v n d) r p wt o e s =
    let R = after r p in
    go_on _ _ (option_word k ++ codes "=" ++ v) _ ws c (turn_with r p o k v) (ap₂ or_else e (option_faultless R k v (value_row R a k s n)))
    (accepts d (used (rule k) (v ∷ []) R) None idle is_idle refl (show_option R a k v s n))

-- ---- after the words

default_of_option : (rows : List Row) (k : Valued) → default_fault rows (rule k) ≡ []
default_of_option rows Workers = cond-true _ _ _ (or_right (has_row (codes "workers") rows) true refl)
default_of_option rows Format = cond-true _ _ _ (or_right (has_row (codes "format") rows) true refl)

default_of_labels : (rows : List Row) → default_fault rows labels ≡ []
default_of_labels rows = cond_both (has_row (codes "labels") rows || false) [] [] (λ (f : Kinds). f ≡ []) (λ _. refl) (λ _. refl)

default_of_files : (rows : List Row) → default_fault rows files ≡ []
default_of_files rows = cond-true _ _ _ (or_right (has_row (codes "files") rows) true refl)

or_four : (a b c d : Kinds) → a ≡ [] → b ≡ [] → c ≡ [] → d ≡ [] → or_else a (or_else b (or_else c (or_else d []))) ≡ []
or_four a b c d p q r t = ap₂ or_else p (ap₂ or_else q (ap₂ or_else r (ap (λ (k : Kinds). or_else k []) t)))

default_faultless : (rows : List Row) → defaults_fault rows rules ≡ []
unfolding defaults_fault
default_faultless rows =
    let one = with_default rows (rule Workers) in
    let two = with_default one (rule Format) in
    let three = with_default two labels in
    or_four (default_fault rows (rule Workers)) (default_fault one (rule Format)) (default_fault two labels) (default_fault three files)
    (default_of_option rows Workers) (default_of_option one Format) (default_of_labels two) (default_of_files three)

default_keeps : (q : Text) (rows : List Row) (a : Rule) → bytes_eq a.id q ≡ false → row_at q (with_default rows a) ≡ row_at q rows
default_keeps q rows a h = cond_both (has_row a.id rows) rows (default_rows a.id (reading_by a) a.defaults rows) (λ (l : List Row). row_at q l ≡ row_at q rows) (λ _. refl) (λ _. go a.defaults)
  where
    go : (vs : List Text) → row_at q (default_rows a.id (reading_by a) vs rows) ≡ row_at q rows
    go [] = refl
    go (v ∷ vs) = with-other a.id (reading_by a) DefaultValue (v ∷ vs) q rows h

-- an argument with no default
plain_keeps : (q : Text) (rows : List Row) (id : Text) → row_at q (cond (has_row id rows) rows rows) ≡ row_at q rows
plain_keeps q rows id = cond_both (has_row id rows) rows rows (λ (l : List Row). row_at q l ≡ row_at q rows) (λ _. refl) (λ _. refl)

ends_keep : (q : Text) (rows : List Row) → bytes_eq (codes "labels") q ≡ false → row_at q (fold with_default rows rules) ≡ row_at q rows
ends_keep q rows h =
    let one = with_default rows (rule Workers) in
    let two = with_default one (rule Format) in
    let three = with_default two labels in
    plain_keeps q three (codes "files") ∙ default_keeps q two labels h ∙ plain_keeps q one (codes "format") ∙ plain_keeps q rows (codes "workers")

labels_end : (rows : List Row) (b : Bool) → row_at (codes "labels") rows ≡ labels_row b → says_true (first_of (codes "labels") (fold with_default rows rules)) ≡ b
labels_end rows b h =
    let one = with_default rows (rule Workers) in
    let two = with_default one (rule Format) in
    let three = with_default two labels in
    let two_is : row_at (codes "labels") two ≡ labels_row b = plain_keeps (codes "labels") one (codes "format") ∙ plain_keeps (codes "labels") rows (codes "workers") ∙ h in
    ap (λ (o : Option Row). says_true (option_and_then (λ (r : Row). slice_get r.values 0) o)) (plain_keeps (codes "labels") three (codes "files"))
    ∙ go b two two_is
  where
    go : (c : Bool) (two : List Row) → row_at (codes "labels") two ≡ labels_row c → says_true (option_and_then (λ (r : Row). slice_get r.values 0) (row_at (codes "labels") (with_default two labels))) ≡ c
    go true two e = ap (λ (o : Option Row). says_true (option_and_then (λ (r : Row). slice_get r.values 0) o)) (ap (row_at (codes "labels")) (cond-true _ _ _ (has_row-is (codes "labels") two ∙ ap is_some e)) ∙ e)
    go false two e = ap (λ (o : Option Row). says_true (option_and_then (λ (r : Row). slice_get r.values 0) o))
        (ap (row_at (codes "labels")) (cond-false _ _ _ (has_row-is (codes "labels") two ∙ ap is_some e)) ∙ with-none (codes "labels") (reading_by labels) DefaultValue (codes "false" ∷ []) two e)

check_is : (rows : List Row) (fs : List Text) → row_at (codes "files") rows ≡ files_row fs → (check_fault lint rows false ≡ [] → fs ≢ []) × (fs ≢ [] → check_fault lint rows false ≡ [])
check_is rows [] h = ((λ e f. let bad = rw h at e in cc), (λ n. absurd (n refl)))
check_is rows (f ∷ fs) h = ((λ e q. cc), (λ n. rw h refl))

-- ---- the whole

abbrev start : Walk
start = state [] None idle false

abbrev last_rows : List Text → List Row
last_rows ws = fold with_default (rows_end start ws) rules

fault_is : (l : Text) (ws : List Text) → fault_of lint_app (l ∷ ws) ≡ or_else (body start ws) (check_fault lint (last_rows ws) false)
fault_is l ws =
    leaf_fault (built lint_app) nothing_held ws refl
    ∙ ap (λ (d : Kinds). or_else (walk_fault lint [] start ws) (or_else (settle_fault rules false (end_of start ws).held) (or_else d (check_fault lint (last_rows ws) false)))) (default_faultless (rows_end start ws))
    ∙ sym (or_assoc (walk_fault lint [] start ws) (settle_fault rules false (end_of start ws).held) (check_fault lint (last_rows ws) false))

shows_nothing : Shows [] nothing
shows_nothing = record { options = λ k. elim k as (λ j. row_at (name_of j) [] ≡ option_map (option_row j) (value_of j nothing)) [ Workers ↦ refl | Format ↦ refl ]; flag = refl; files_are = refl }

-- the words give this, and a file is among it
abbrev pub Whole : List Word → LintArguments → Type 0
Whole words c = GivesArguments nothing words c × (c.files ≢ [])

-- words of the grammar have no fault
pub taken : (l : Text) (ws : List Text) (c : LintArguments) → Whole ws c → fault_of lint_app (l ∷ ws) ≡ []
taken l ws c g =
    let ok = accepts g.0 [] None idle is_idle refl shows_nothing in
    fault_is l ws ∙ ap₂ or_else ok.0 ((check_is (last_rows ws) c.files (ends_keep (codes "files") (rows_end start ws) refl ∙ ok.1.files_are)).1 g.1)

-- and give what clap's definition says
pub record Means (words : List Text) (c : LintArguments) : Type 0 where
  pub workers : first_value lint_app (codes "workers") words ≡ c.workers
  pub format : first_value lint_app (codes "format") words ≡ c.format
  pub labels : says_true (first_value lint_app (codes "labels") words) ≡ c.labels
  pub files : all_values lint_app (codes "files") words ≡ Some c.files

pub means : (words : List Text) (c : LintArguments) → Whole (drop 1 words) c → Means words c
means words c g =
    let ws = drop 1 words in
    let ok = accepts g.0 [] None idle is_idle refl shows_nothing in
    let s = ok.1 in
    record {
      workers = ap (option_and_then (λ (r : Row). slice_get r.values 0)) (ends_keep (codes "workers") (rows_end start ws) refl ∙ s.options Workers) ∙ value_back Workers c.workers;
      format = ap (option_and_then (λ (r : Row). slice_get r.values 0)) (ends_keep (codes "format") (rows_end start ws) refl ∙ s.options Format) ∙ value_back Format c.format;
      labels = labels_end (rows_end start ws) c.labels s.flag;
      files = ap (option_map (λ (r : Row). r.values)) (ends_keep (codes "files") (rows_end start ws) refl ∙ s.files_are) ∙ files_back c.files g.1;
    }
  where
    value_back : (k : Valued) (o : Option Text) → option_and_then (λ (r : Row). slice_get r.values 0) (option_map (option_row k) o) ≡ o
    value_back k None = refl
    value_back k (Some v) = refl

    files_back : (fs : List Text) → fs ≢ [] → option_map (λ (r : Row). r.values) (files_row fs) ≡ Some fs
    files_back [] n = absurd (n refl)
    files_back (f ∷ fs) n = refl

-- words without fault are of the grammar
pub given_by : (l : Text) (ws : List Text) → Texts ws → fault_of lint_app (l ∷ ws) ≡ [] → (c : LintArguments) × Whole ws c
given_by l ws u e =
    let parts = or_parts _ _ (sym (fault_is l ws) ∙ e) in
    let (c, read) = reads u opened nothing [] None idle (is_idle, shows_nothing) parts.0 in
    let ok = accepts read [] None idle is_idle refl shows_nothing in
    (c, (read, (check_is (last_rows ws) c.files (ends_keep (codes "files") (rows_end start ws) refl ∙ ok.1.files_are)).0 parts.1))

-- ---- for clauses

texts_are : {Z : Type 0} (ss : List (String Z)) → Texts (texts_of ss)
texts_are [] = none
texts_are (s ∷ ss) = more (IsUtf8-had _ s.ok) (texts_are ss)

rest_is : {Z : Type 0} (ss : List (String Z)) → Texts (drop 1 (texts_of ss))
rest_is [] = none
rest_is (s ∷ ss) = texts_are ss

pub taken_gives : {Z : Type 0} (ss : List (String Z)) → fault_of lint_app (texts_of ss) ≡ [] → (c : LintArguments) × Whole (drop 1 (texts_of ss)) c × Means (texts_of ss) c
taken_gives [] e = let (c, g) = given_by [] [] none e in (c, g, means [] c g)
taken_gives (s ∷ ss) e = let (c, g) = given_by (string_bytes s) (texts_of ss) (texts_are ss) e in (c, g, means (string_bytes s ∷ texts_of ss) c g)
