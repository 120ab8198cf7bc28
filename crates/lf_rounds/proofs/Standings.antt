-- What stands between rounds.
use Rattle.std.proofs.Common.{◌≡◌, ◌⊎◌, ℕ, ◌*◌, ◌<◌, List, [], length, get_or, Option, Some, None, inl, inr, refl, sym, ◌∙◌, ap, subst, ⊎_elim, arith}
use Rattle.std.specs.Prelude.{replicate}
use Rattle.std.specs.List.{Contains}
use Rattle.std.proofs.lemmas.List.{get_or-replicate, length-replicate}
use Rattle.std.proofs.lemmas.Option.{get_or_from_slice_get, slice_get_within}
use Rattle.lf_ast.specs.Rules.{RuleTree, rule_trees}
use Rattle.lf_ast.specs.declared.rule.Rule.{Rule}
use Rattle.lf_classes.specs.RowWords.{WordsLeq, word_count}
use Rattle.lf_deps.proofs.OrderLaws.{ordered_below}
use Rattle.lf_laws.proofs.Slices.{number_of}
use Rattle.lf_semantics.proofs.Members.{of_filter}
use Rattle.lf_semantics.specs.Environments.{CoversRules, IsLeast, recorded_names}
use Rattle.lf_semantics.specs.Listing.{IsListing, Listing}
use Rattle.lf_rounds.specs.Facts.{IsOverDue, RoundFacts, task}
use Rattle.lf_rounds.specs.Tasks.{AreTaskPieces, AreReads, AreRecording, HoldRules, WordsHoldRule, IsBelowLeast, OthersHold, is_recording}
use Rattle.lf_rounds.specs.Words.{AreWords, environment_of}
use Rattle.lf_rounds.specs.declared.between.Standing.{Standing}
use Rattle.lf_rounds.specs.declared.round.closing.Settled.{Settled}
use Rattle.lf_rounds.specs.views.Ending.{EndsRound}
use Rattle.lf_rounds.specs.views.Noting.{AreMadeBy, AreRemembered, IsKnown}
use Rattle.lf_rounds.specs.views.Standings.{IsCurrent, IsSettledOf, IsStanding, Rises}
use Rattle.lf_rounds.proofs.Pieces.{least_words, pieces_all}
use Rattle.lf_rounds.proofs.SumLaws.{held_now, remembered_on}

-- at first there is no sum
pub none_kept : (u : Listing) (rules : List RuleTree) (reads : List (List ℕ)) (words : List ℕ) (sums : List (Option ℕ)) (n : ℕ) → sums ≡ replicate n None → AreRemembered u rules reads words sums
none_kept u rules reads words sums n is k r s there e =
    let h : k < n = omega (arith, slice_get_within sums k (Some s) e, ap length is, length-replicate {A = Option ℕ} n None) in
    let none : None ≡ Some s = sym (get_or-replicate {A = Option ℕ} n k None None h) ∙ ap (λ (xs : List (Option ℕ)). get_or xs k None) (sym is) ∙ get_or_from_slice_get sums k (Some s) None e in
    absurd (cc)

pub kept_on : (u : Listing) (p : IsListing u) (rules : List RuleTree) (reads : List (List ℕ)) (words now : List ℕ) (sums : List (Option ℕ)) → length now ≡ length words → WordsLeq words now → AreRemembered u rules reads words sums → AreRemembered u rules reads now sums
kept_on u p rules reads words now sums len up old k r s there e = remembered_on u p rules r (get_or reads k []) s words now len up (old k r s there e)

-- recording rules are rules
pub pieces_within : (rules : List RuleTree) (pieces : List ℕ) → AreTaskPieces rules pieces → (k : ℕ) → Contains pieces k → k < length rules
pieces_within rules pieces are k c =
    let P : List ℕ → Type 0 = λ xs. Contains xs k in
    ordered_below rules are.0 are.1 k (of_filter (is_recording rules) are.0 k (subst P are.2 c)).0

-- each recording rule that isn't due is held
pub current_held : (u : Listing) (p : IsListing u) (rules : List RuleTree) (reads : List (List ℕ)) (words all due : List ℕ) (sums : List (Option ℕ)) → AreReads rules reads → AreTaskPieces rules all → AreRemembered u rules reads words sums
    → ((k : ℕ) → Contains all k → Contains due k ⊎ IsCurrent (word_count u) words reads sums k) → OthersHold u rules due words
current_held u p rules reads words all due sums read are kept current k r at e = ⊎_elim
    (λ (d : Contains due k). inl d)
    (λ (c : IsCurrent (word_count u) words reads sums k). inr (held_now u p rules r (get_or reads k []) _ words (read.each k r at e) (kept k r _ at c) refl))
    (current k (pieces_all rules all are k r at e))

-- the end of the loop

pub none_due : (u : Listing) (rules : List RuleTree) (due words : List ℕ) → OthersHold u rules due words → length due ≡ 0 → HoldRules u rules words words
none_due u rules due words others none r c e =
    let f = number_of rules r c in
    ⊎_elim (λ (d : Contains due f.0). absurd (omega (arith, d.1, none))) (λ (h : WordsHoldRule u rules words words r). h) (others f.0 r f.2 e)

pub least_at_end : (u : Listing) (rules : List RuleTree) (reads : List (List ℕ)) (due words : List ℕ) → IsListing u → CoversRules u rules → AreReads rules reads → AreRecording rules due → OthersHold u rules due words → length words ≡ length (recorded_names rules) * word_count u
    → HoldRules u rules words words → IsBelowLeast u rules words → IsLeast u rules (environment_of u (recorded_names rules) words)
least_at_end u rules reads due words p covers read recording others long held below =
    least_words (record { universe = u; rules = rules; reads = reads; pieces = due; start = words }) (record { listing = p; covers = covers; reads = read; recording = recording; others = others; words = long }) words held below

-- what a round leaves of the rules that it was over
module _ (u : Listing) (p : IsListing u) (rules : List Rule) (before : Standing) (is : IsStanding u (rule_trees rules) before) (seats : ℕ) (round : RoundFacts) (over : IsOverDue u rules before.known.reads before.due before.words seats round) (words : List ℕ) (ends : EndsRound round words) where
  rules_same : rule_trees round.rules ≡ rule_trees rules
  rules_same = ap rule_trees over.rules

  pub rises_of : Rises u (rule_trees rules) before.words words
  rises_of =
      let A : List ℕ → Type 0 = λ start. WordsLeq start words in
      let H : Listing × List RuleTree × List ℕ → Type 0 = λ x. HoldRules x.0 x.1 words x.2 in
      record {
        wide = ends.wide ∙ ap length over.start;
        above = subst A over.start ends.above;
        held = subst H (λ i. (over.universe i, rules_same i, over.start i)) ends.held;
      }

  pub settled_of : (settled : Settled) → settled.words ≡ words → AreWords words → IsKnown (rule_trees round.rules) settled.known.names settled.known.reads → settled.known.reads ≡ round.reads → settled.pieces ≡ round.pieces
      → AreMadeBy (task round) words settled.notes.items → IsSettledOf u (rule_trees rules) before.sums.items settled
  settled_of settled e fit known reads pieces made =
      let K : List RuleTree → Type 0 = λ trees. IsKnown trees settled.known.names settled.known.reads in
      let B : Listing × List RuleTree × List ℕ → Type 0 = λ x. IsBelowLeast x.0 x.1 x.2 in
      let read : settled.known.reads ≡ before.known.reads = reads ∙ over.reads in
      let S : List (List ℕ) × List ℕ → Type 0 = λ x. AreRemembered u (rule_trees rules) x.0 x.1 before.sums.items in
      let up = rises_of in
      record {
        known = subst K rules_same known;
        long = ap length e ∙ up.wide ∙ is.long;
        fit = subst AreWords (sym e) fit;
        below = subst B (λ i. (over.universe i, rules_same i, sym e i)) ends.below;
        sums = subst S (λ i. (sym read i, sym e i)) (kept_on u p (rule_trees rules) before.known.reads before.words words before.sums.items up.wide up.above is.sums);
        count = is.count;
        made = λ t eu er ed ep.
            (let M : Listing × List RuleTree × List (List ℕ) × List ℕ × List ℕ → Type 0 = λ x. AreMadeBy (record { universe = x.0; rules = x.1; reads = x.2; pieces = x.3; start = [] }) x.4 settled.notes.items in
            subst M (λ i. ((over.universe ∙ sym eu) i, (rules_same ∙ sym er) i, (sym reads ∙ sym ed) i, (sym pieces ∙ sym ep) i, sym e i)) made);
      }
