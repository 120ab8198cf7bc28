-- The work on a piece.
use Rattle.std.proofs.Common.{◌≡◌, ℕ, ◌+◌, ◌*◌, ◌<◌, ◌++◌, true, false, not, cond, List, [], ◌∷◌, length, get_or, Option, Some, None, refl, sym, ◌∙◌, ap, subst, arith, append_assoc, length-append}
use Rattle.std.specs.Prelude.{option_and_then, slice_get, IfSome, MatchOption}
use Rattle.std.specs.Option.{option_map_or}
use Rattle.std.specs.List.{Contains}
use Rattle.std.proofs.lemmas.List.{append-nil}
use Rattle.std.proofs.lemmas.Option.{slice_get-get_or, slice_get_within}
use Rattle.lf_ast.specs.Rules.{RuleTree, rule_tree, rule_trees}
use Rattle.lf_ast.specs.Selectors.{metric}
use Rattle.lf_ast.specs.Tree.{Tree}
use Rattle.lf_ast.specs.declared.rule.Rule.{Rule}
use Rattle.lf_board.specs.declared.rule.View.{View}
use Rattle.lf_classes.specs.RowWords.{row_word}
use Rattle.lf_fix.proofs.Rounds.{start_is}
use Rattle.lf_fix.specs.views.Rounds.{start}
use Rattle.lf_deps.proofs.RuleTrees.{tree_at}
use Rattle.lf_laws.proofs.Slices.{member_at}
use Rattle.lf_flow.proofs.ReadNumbers.{equal_rows}
use Rattle.lf_flow.specs.Reads.{ReadsNumber}
use Rattle.lf_semantics.specs.ClassRows.{Sets, bottom}
use Rattle.lf_semantics.specs.Environments.{IsEnvironmentOf, recorded_row, with_text, with_texts}
use Rattle.lf_semantics.specs.Listing.{Listing, place}
use Rattle.lf_semantics.specs.Parts.{is_evaluated, type_by_form}
use Rattle.lf_semantics.specs.RowTable.{Environment, row_of}
use Rattle.lf_rounds.specs.Tasks.{IsTask, Task, is_recording, names, rule_of, stands_for, width}
use Rattle.lf_rounds.specs.Rounds.{claimed_view, missed_view}
use Rattle.lf_rounds.specs.declared.rule.RoundView.{RoundView}
use Rattle.lf_rounds.specs.views.Working.{HasRead, IsNext, IsStored, claims_more, left_of}
use Rattle.lf_rounds.proofs.Environments.{words_of_rules}

module _ (t : Task) (is : IsTask t) (p : ℕ) (h : p < length t.pieces) where
  abbrev pub number : ℕ
  number = get_or t.pieces p 0

  number_at : slice_get t.pieces p ≡ Some number
  number_at = slice_get-get_or t.pieces p 0 h

  recording_there : is_recording t.rules number ≡ true
  recording_there = is.recording number (member_at t.pieces p number number_at)

  pub number_within : number < length t.rules
  number_within = by (slice_get t.rules number) refl recording_there
    where
      by : (o : Option RuleTree) → slice_get t.rules number ≡ o → option_map_or (λ (r : RuleTree). not r.alert) o false ≡ true → number < length t.rules
      by None e f = absurd (cc)
      by (Some r) e f = slice_get_within t.rules number r e

  pub rule_there : (r : RuleTree) → slice_get t.rules number ≡ Some r → rule_of t p ≡ Some r
  rule_there r e = ap (option_and_then (λ n. slice_get t.rules n)) number_at ∙ e

pub rule_of_piece : (t : Task) → IsTask t → (p : ℕ) → p < length t.pieces → (rules : List Rule) (k : ℕ) (r : Rule) → rule_trees rules ≡ t.rules → get_or t.pieces p 0 ≡ k → slice_get rules k ≡ Some r → rule_of t p ≡ Some (rule_tree r)
rule_of_piece t is p h rules k r over at e =
    rule_there t is p h (rule_tree r) (ap (λ (rs : List RuleTree). slice_get rs (get_or t.pieces p 0)) (sym over) ∙ ap (slice_get (rule_trees rules)) at ∙ tree_at rules k r e)

-- what a rule stores, by the row of its expression
pub stored_by_row : (u : Listing) (env other : Environment) (r : RuleTree) → row_of u env r.expr ≡ row_of u other r.expr → recorded_row u env r ≡ recorded_row u other r
stored_by_row u env other r e = ap (λ (x : Sets). with_texts u r.labels (with_text u metric r.name (cond (is_evaluated (type_by_form r.expr)) x (bottom u)))) e

pub is_stored : (t : Task) (p : ℕ) (r : RuleTree) (words : List ℕ) (row : Sets) (at : ℕ) → rule_of t p ≡ Some r → row ≡ recorded_row t.universe (stands_for t words) r → at ≡ place (names t) r.name → IsStored t p words row (at * width t)
is_stored t p r words row at e same named = record {
  word = λ n. ap (λ (x : Sets). row_word x n) same ∙ sym (ap (λ (o : Option RuleTree). option_map_or (λ (x : RuleTree). row_word (recorded_row t.universe (stands_for t words) x) n) o 0) e);
  place = λ n. ap (λ m. m * width t + n) named ∙ sym (ap (λ (o : Option RuleTree). option_map_or (λ (x : RuleTree). place (names t) x.name * width t + n) o 0) e);
}

-- an environment that has the rows that the expression reads
pub read_rows : (t : Task) → IsTask t → (words numbers : List ℕ) (env : Environment) (e : Tree) → IsEnvironmentOf t.universe t.rules env
    → ((k : ℕ) → ReadsNumber env e k → Contains numbers k) → HasRead t words numbers env → row_of t.universe env e ≡ row_of t.universe (stands_for t words) e
read_rows t is words numbers env e of listed read =
    let stands = words_of_rules t.universe is.listing t.rules words is.covers in
    equal_rows env e numbers listed t.universe (stands_for t words) (of.names ∙ sym stands.names, read)

-- no claim more
pub none_more : (v : View) → v ≡ claims_more v []
none_more v = ap (λ (claims : List ℕ). record v { claims = claims }) (sym (append-nil v.claims))

-- the environment that a worker begins with
pub bottom_is : (t : Task) → IsTask t → (u : Listing) (rules : List RuleTree) (env : Environment) → u ≡ t.universe → rules ≡ t.rules → env ≡ start u rules → IsEnvironmentOf t.universe t.rules env
bottom_is t is u rules env same over e =
    let P : Environment → Type 0 = λ x. IsEnvironmentOf t.universe t.rules x in
    subst P (sym (e ∙ ap (λ (v : Listing). start v rules) same ∙ ap (start t.universe) over)) (start_is t.universe is.listing t.rules is.covers)

-- the next claim of a seat that did a piece

pub claimed_done : (u x : RoundView) (count : ℕ) (n : Option ℕ) → MatchOption n (x ≡ missed_view u) (λ m. (m < count) × (x ≡ claimed_view u m)) → x.done ≡ u.done
claimed_done u x count None e = ap (λ (y : RoundView). y.done) e
claimed_done u x count (Some m) e = ap (λ (y : RoundView). y.done) e.1

module _ (count : ℕ) (v w u x : RoundView) (piece : ℕ) (was : IsNext count v (Some piece) w) (same : u.board ≡ w.board) (idle : u.busy ≡ false) where
  pub next_after : (n : Option ℕ) → MatchOption n (x ≡ missed_view u) (λ m. (m < count) × (x ≡ claimed_view u m)) → IsNext count v n x
  next_after None e =
      (was.2, ap (λ (y : RoundView). y.board) e ∙ ap (λ (b : View). record b { missed = b.missed + 1 }) (same ∙ was.3), ap (λ (y : RoundView). y.busy) e ∙ idle)
  next_after (Some m) e = (
    e.0,
    record {
      busy = ap (λ (y : RoundView). y.busy) e.1;
      piece = ap (λ (y : RoundView). y.piece) e.1;
      loads = ap (λ (y : RoundView). y.loads) e.1;
      raised = ap (λ (y : RoundView). y.raised) e.1;
      missed = ap (λ (y : RoundView). y.board.missed) e.1 ∙ ap (λ (b : View). b.missed) same ∙ was.1.missed;
    },
    was.2 ++ m ∷ [],
    ap (λ (y : RoundView). y.board) e.1 ∙ ap (λ (b : View). record b { claims = b.claims ++ m ∷ [] }) (same ∙ was.3) ∙ ap (λ (claims : List ℕ). record v.board { claims = claims }) (append_assoc v.board.claims was.2 (m ∷ [])),
  )

  pub fewer_left : (n : Option ℕ) → MatchOption n (x ≡ missed_view u) (λ m. (m < count) × (x ≡ claimed_view u m)) → IfSome n (λ _. length u.board.claims < count) → left_of count n x < left_of count (Some piece) w
  fewer_left None e less = omega arith
  fewer_left (Some m) e less =
      let more : length x.board.claims ≡ length u.board.claims + 1 = ap (λ (y : RoundView). length y.board.claims) e.1 ∙ length-append u.board.claims (m ∷ []) in
      let like : length u.board.claims ≡ length w.board.claims = ap (λ (b : View). length b.claims) same in
      omega (arith, less, more, like)
