-- The pieces are the recording rules, and what they store lies in each post-fixed point.
use Rattle.std.proofs.Common.{◌≡◌, ℕ, ◌+◌, ◌*◌, ◌<◌, Bool, true, false, not, cond, List, [], ◌∷◌, ◌++◌, length, get_or, take, drop, Option, Some, None, ⊎_elim, refl, sym, ◌∙◌, ap, subst}
use Rattle.std.specs.Prelude.{option_and_then, slice_get}
use Rattle.std.specs.Option.{option_map_or}
use Rattle.std.specs.List.{Contains, filter}
use Rattle.std.proofs.lemmas.Bool.{not-true}
use Rattle.std.proofs.lemmas.List.{append-nil, take_more}
use Rattle.std.proofs.lemmas.List.Elements.{filter-append}
use Rattle.std.proofs.lemmas.Option.{get_or_from_slice_get, slice_get-get_or, slice_get_within}
use Rattle.lf_ast.specs.Rules.{RuleTree}
use Rattle.lf_classes.specs.RowWords.{WordLeq, WordsLeq, row_of_words, row_word}
use Rattle.lf_classes.proofs.RowWordOrder.{leq_words, word_leq, word_trans, zero_leq}
use Rattle.lf_deps.proofs.OrderLaws.{each_ordered}
use Rattle.lf_fix.proofs.Rounds.{one_named}
use Rattle.lf_laws.proofs.Slices.{member_at, number_of}
use Rattle.lf_semantics.proofs.LeqLaws.{leq_trans}
use Rattle.lf_semantics.proofs.ListingLaws.{in_first_seen, place_within}
use Rattle.lf_semantics.proofs.Recorded.{recorded}
use Rattle.lf_semantics.proofs.Members.{in_filter, of_filter}
use Rattle.lf_semantics.proofs.NormalizedRows.{recorded_row_is}
use Rattle.lf_semantics.proofs.RowsGrow.{recorded_grows}
use Rattle.lf_semantics.specs.ClassRows.{Sets}
use Rattle.lf_semantics.specs.Environments.{EnvironmentLeq, IsEnvironmentOf, IsLeast, IsPostFixedPoint, IsRow, Leq, names_recorded, recorded_row}
use Rattle.lf_semantics.specs.Listing.{place}
use Rattle.lf_semantics.specs.RowTable.{Environment}
use Rattle.lf_rounds.specs.Tasks.{AreTaskPieces, AreReadBy, AreRecording, HoldRules, WordsHoldRule, IsBelowLeast, IsTask, Raised, Task, is_recording, names, place_of, read_by, rule_of, stands_for, stored_word, width}
use Rattle.lf_rounds.specs.Words.{environment_of, words_of}
use Rattle.lf_rounds.specs.views.Noting.{ArePlaced}
use Rattle.lf_rounds.proofs.Environments.{environment_leq, named_row, named_word, some_label, word_of_part, words_of_rules, words_stand}

-- the name of a recording rule has a place
pub name_within : (t : Task) (r : RuleTree) → Contains t.rules r → r.alert ≡ false → place (names t) r.name < length (names t)
name_within t r c e = place_within (names t) r.name (in_first_seen (names_recorded t.rules) r.name (recorded t.rules r c e))

-- pieces and rules

rule_found : (rules : List RuleTree) (o : Option ℕ) (r : RuleTree) → option_and_then (λ number. slice_get rules number) o ≡ Some r → (number : ℕ) × (o ≡ Some number) × (slice_get rules number ≡ Some r)
rule_found rules None r e = absurd (cc)
rule_found rules (Some number) r e = (number, refl, e)

module _ (t : Task) (is : IsTask t) where
  pub piece_is : (p : ℕ) (r : RuleTree) → rule_of t p ≡ Some r → (r.alert ≡ false) × Contains t.rules r
  piece_is p r e =
      let f = rule_found t.rules (slice_get t.pieces p) r e in
      let passes : not r.alert ≡ true = ap (λ (o : Option RuleTree). option_map_or (λ (x : RuleTree). not x.alert) o false) (sym f.2) ∙ is.recording f.0 (member_at t.pieces p f.0 f.1) in
      (not-true r.alert passes, member_at t.rules f.0 r f.2)

  -- the numbers of the names that the rule of a piece reads
  pub reads_of_piece : (p : ℕ) (r : RuleTree) → rule_of t p ≡ Some r → AreReadBy t.rules r (read_by t p)
  reads_of_piece p r e =
      let f = rule_found t.rules (slice_get t.pieces p) r e in
      let P : ℕ → Type 0 = λ number. AreReadBy t.rules r (get_or t.reads number []) in
      subst P (sym (get_or_from_slice_get t.pieces p f.0 0 f.1)) (is.reads.each f.0 r f.2 (piece_is p r e).0)

  -- the number of the name that it records
  pub placed_piece : (p : ℕ) (r : RuleTree) (numbers : List ℕ) → ArePlaced (names t) t.rules numbers → rule_of t p ≡ Some r → get_or numbers (get_or t.pieces p 0) 0 ≡ place (names t) r.name
  placed_piece p r numbers placed e =
      let f = rule_found t.rules (slice_get t.pieces p) r e in
      ap (λ number. get_or numbers number 0) (get_or_from_slice_get t.pieces p f.0 0 f.1) ∙ placed.each f.0 r f.2 (piece_is p r e).0

  -- greater environments

  pub stands_below : (words : List ℕ) (env : Environment) → IsEnvironmentOf t.universe t.rules env → WordsLeq words (words_of t.universe env) → EnvironmentLeq (stands_for t words) env
  stands_below words env of leq =
      let u = t.universe in
      let P : Environment → Type 0 = λ x. EnvironmentLeq (stands_for t words) x in
      subst P (ap (λ ns. environment_of u ns (words_of u env)) (sym of.names) ∙ words_stand u is.listing env of.environment.rows) (environment_leq u is.listing (names t) words (words_of u env) leq)

  -- what a piece stores over words in a post-fixed point is in it
  pub stored_below : (p j : ℕ) (seen : List ℕ) (env : Environment) → IsEnvironmentOf t.universe t.rules env → IsPostFixedPoint t.universe t.rules env → WordsLeq seen (words_of t.universe env)
      → j < width t → WordLeq (stored_word t p seen j) (get_or (words_of t.universe env) (place_of t p j) 0)
  stored_below p j seen env of closed leq h = by (rule_of t p) refl
    where
      by : (o : Option RuleTree) → rule_of t p ≡ o
          → WordLeq (option_map_or (λ r. row_word (recorded_row t.universe (stands_for t seen) r) j) o 0) (get_or (words_of t.universe env) (option_map_or (λ r. place (names t) r.name * width t + j) o 0) 0)
      by None e = zero_leq (get_or (words_of t.universe env) 0 0)
      by (Some r) e =
          let u = t.universe in
          let known = piece_is p r e in
          let top = closed r known.1 known.0 in
          let ok = (words_of_rules u is.listing t.rules seen is.covers).environment in
          let stored : Sets = recorded_row u (stands_for t seen) r in
          let shape = recorded_row_is u is.listing (stands_for t seen) ok r in
          let grown : Leq stored top.0 =
          leq_trans stored (recorded_row u env r) top.0 (recorded_grows u is.listing (stands_for t seen) env ok of.environment (stands_below seen env of leq) r) top.2 in
          let there = one_named (λ x. IsRow u x) env r.name top.0 of.environment.rows top.1 in
          let P : ℕ → Type 0 = λ w. WordLeq (row_word stored j) w in
          let at : get_or (words_of u env) (place (names t) r.name * width t + j) 0 ≡ row_word top.0 j =
          ap (λ ns. get_or (words_of u env) (place ns r.name * width t + j) 0) (sym of.names) ∙ named_word u is.listing env r.name top.0 j top.1 h in
          subst P (sym at) (word_leq stored top.0 (shape.0 ∙ sym there.0) shape.1 grown j)

  -- what all pieces store over the start, each rule stores, since the others are held by the start
  pub rules_held : (words : List ℕ) → WordsLeq t.start words → ((p : ℕ) → p < length t.pieces → Raised t words p t.start (width t)) → HoldRules t.universe t.rules words t.start
  rules_held words up raised r c e j h =
      let f = number_of t.rules r c in
      let stored = row_word (recorded_row t.universe (stands_for t t.start) r) j in
      let at = place (names t) r.name * width t + j in
      ⊎_elim
      (λ (m : Contains t.pieces f.0).
      let P : Option RuleTree → Type 0 = λ o. WordLeq (option_map_or (λ x. row_word (recorded_row t.universe (stands_for t t.start) x) j) o 0) (get_or words (option_map_or (λ x. place (names t) x.name * width t + j) o 0) 0) in
      let piece : slice_get t.pieces m.0 ≡ Some f.0 = slice_get-get_or t.pieces m.0 f.0 m.1 ∙ ap Some m.2 in
      subst P (ap (option_and_then (λ number. slice_get t.rules number)) piece ∙ f.2) (raised m.0 m.1 j h))
      (λ (held : WordsHoldRule t.universe t.rules t.start t.start r). word_trans stored (get_or t.start at 0) (get_or words at 0) (held j h) (up.at at))
      (is.others f.0 r f.2 e)

-- where all recording rules are pieces, no other one is left
pub pieces_recording : (rules : List RuleTree) (pieces : List ℕ) → AreTaskPieces rules pieces → AreRecording rules pieces
pieces_recording rules pieces are number c =
    let P : List ℕ → Type 0 = λ xs. Contains xs number in
    (of_filter (is_recording rules) are.0 number (subst P are.2 c)).1

pub pieces_all : (rules : List RuleTree) (pieces : List ℕ) → AreTaskPieces rules pieces → (number : ℕ) (r : RuleTree) → slice_get rules number ≡ Some r → r.alert ≡ false → Contains pieces number
pieces_all rules pieces are number r at e =
    let P : List ℕ → Type 0 = λ xs. Contains xs number in
    let passes : is_recording rules number ≡ true = ap (λ (o : Option RuleTree). option_map_or (λ (x : RuleTree). not x.alert) o false) at ∙ ap not e in
    subst P (sym are.2) (in_filter (is_recording rules) are.0 number (each_ordered rules are.0 are.1 number (slice_get_within rules number r at)) passes)

-- words that hold what each rule stores over them stand for the least environment, if they lie in it
pub least_words : (t : Task) → IsTask t → (words : List ℕ) → HoldRules t.universe t.rules words words → IsBelowLeast t.universe t.rules words → IsLeast t.universe t.rules (stands_for t words)
least_words t is words held below = record {
  of_rules = words_of_rules t.universe is.listing t.rules words is.covers;
  closed = λ r c e.
      (let u = t.universe in
      let n = width t in
      let at = place (names t) r.name * n in
      let row : Sets = row_of_words u (take n (drop at words)) in
      let ok = (words_of_rules u is.listing t.rules words is.covers).environment in
      let stored : Sets = recorded_row u (stands_for t words) r in (
        row,
        named_row u is.listing (names t) words r.name (name_within t r c e),
        leq_words u (some_label u is.listing) stored (take n (drop at words)) (recorded_row_is u is.listing (stands_for t words) ok r)
            (λ k h. let P : ℕ → Type 0 = λ w. WordLeq (row_word stored k) w in subst P (sym (word_of_part words at n k h)) (held r c e k h)),
      ));
  least = λ other of closed. stands_below t is words other of (below other of closed);
}

-- numbers that are looked through

abbrev pub next_piece : (ℕ → Bool) → ℕ → List ℕ → List ℕ
next_piece test x found = cond (test x) (found ++ x ∷ []) found

pub filter_next : (test : ℕ → Bool) (xs : List ℕ) (i : ℕ) → i < length xs → next_piece test (get_or xs i 0) (filter test (take i xs)) ≡ filter test (take (i + 1) xs)
filter_next test xs i h =
    by (test (get_or xs i 0)) refl ∙ sym (ap (filter test) (take_more xs i 0 h) ∙ filter-append test (take i xs) (get_or xs i 0 ∷ []))
  where
    by : (b : Bool) → test (get_or xs i 0) ≡ b → cond (test (get_or xs i 0)) (filter test (take i xs) ++ get_or xs i 0 ∷ []) (filter test (take i xs)) ≡ filter test (take i xs) ++ cond (test (get_or xs i 0)) (get_or xs i 0 ∷ []) []
    by true e = rw e refl
    by false e = rw e (sym (append-nil (filter test (take i xs))))
