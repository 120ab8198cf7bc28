-- A round that is made.
use Rattle.std.proofs.Common.{◌≡◌, ℕ, ◌+◌, ◌*◌, ◌<◌, ◌≤◌, ◌^◌, List, [], ◌∷◌, length, sym, ◌∙◌, ap, subst}
use Rattle.std.specs.List.{sum}
use Rattle.atomic_table.specs.Seated.{TableId}
use Rattle.lf_ast.specs.Rules.{rule_trees}
use Rattle.lf_ast.specs.declared.rule.Rule.{Rule}
use Rattle.lf_classes.specs.RowWords.{word_count}
use Rattle.lf_semantics.specs.Environments.{CoversRules, recorded_names}
use Rattle.lf_semantics.specs.Listing.{IsListing, Listing}
use Rattle.lf_rounds.specs.Rounds.{HoldsWords, opening_view, task_of}
use Rattle.lf_rounds.specs.Tasks.{AreReads, AreRecording, IsBelowLeast, IsTask, OthersHold}
use Rattle.lf_rounds.specs.declared.rule.About.{About}
use Rattle.lf_rounds.specs.views.Kept.{IsKept}
use Rattle.lf_rounds.specs.views.Noting.{ArePlaced, IsKnown}
use Rattle.lf_rounds.proofs.Events.{begins}

module _ (k : About) (u : Listing) (rules : List Rule) (reads : List (List ℕ)) (numbers words : List ℕ) (eu : k.universe.value ≡ u) (er : k.rules.value ≡ rules) (ed : k.reads.value ≡ reads) (ep : k.pieces.value ≡ numbers) (es : k.start.value ≡ words) where
  task_over : IsListing u → CoversRules u (rule_trees rules) → AreReads (rule_trees rules) reads → AreRecording (rule_trees rules) numbers → OthersHold u (rule_trees rules) numbers words
      → length words ≡ length (recorded_names (rule_trees rules)) * word_count u → IsTask (task_of k)
  task_over p covers read recording others count =
      let C : Listing × List Rule → Type 0 = λ x. CoversRules x.0 (rule_trees x.1) in
      let D : List Rule × List (List ℕ) → Type 0 = λ x. AreReads (rule_trees x.0) x.1 in
      let P : List Rule × List ℕ → Type 0 = λ x. AreRecording (rule_trees x.0) x.1 in
      let O : Listing × List Rule × List ℕ × List ℕ → Type 0 = λ x. OthersHold x.0 (rule_trees x.1) x.2 x.3 in
      record {
        listing = subst IsListing (sym eu) p;
        covers = subst C (λ i. (sym eu i, sym er i)) covers;
        reads = subst D (λ i. (sym er i, sym ed i)) read;
        recording = subst P (λ i. (sym er i, sym ep i)) recording;
        others = subst O (λ i. (sym eu i, sym er i, sym ep i, sym es i)) others;
        words = ap length es ∙ count ∙ (λ i. length (recorded_names (rule_trees (sym er i))) * word_count (sym eu i));
      }

  pub kept_over : (table : TableId) (recorded : List ℕ) (total wide : ℕ) → IsListing u → CoversRules u (rule_trees rules) → IsKnown (rule_trees rules) recorded reads → AreRecording (rule_trees rules) numbers → OthersHold u (rule_trees rules) numbers words
      → length words ≡ length (recorded_names (rule_trees rules)) * word_count u
      → k.counts.pieces ≡ length numbers → length numbers < 2 ^ 32 → k.counts.seats ≤ 64 → table.words ≡ length words + 1 → length words + 1 < 2 ^ 64 → table.slots ≡ 0
      → total ≡ sum words → wide ≡ word_count u → IsKept k table recorded reads numbers total wide
  kept_over table recorded total wide p covers known recording others count counted few seats wordy fits slots summed width = record {
    task = task_over p covers known.reads recording others count;
    reads = ed;
    pieces = ep;
    summed = summed ∙ ap sum (sym es);
    count = counted;
    few = few;
    seats = seats;
    words = wordy ∙ ap (λ (ws : List ℕ). length ws + 1) (sym es);
    fits = (let F : List ℕ → Type 0 = λ ws. length ws + 1 < 2 ^ 64 in subst F (sym es) fits);
    slots = slots;
    names = (let N : List Rule → Type 0 = λ rs. ArePlaced (recorded_names (rule_trees rs)) (rule_trees rs) recorded in subst N (sym er) known.names);
    width = width ∙ ap word_count (sym eu);
  }

  -- the rule holds of a table with the claim word at 0 and these words behind it
  pub opens_over : (table : List ℕ) → table ≡ 0 ∷ words → IsBelowLeast u (rule_trees rules) words → HoldsWords k table (opening_view k ∷ [])
  opens_over table e below =
      let P : List ℕ → Type 0 = λ ws. HoldsWords k ws (opening_view k ∷ []) in
      let B : Listing × List Rule × List ℕ → Type 0 = λ x. IsBelowLeast x.0 (rule_trees x.1) x.2 in
      subst P (sym (e ∙ ap (λ ws. 0 ∷ ws) (sym es))) (begins k (subst B (λ i. (sym eu i, sym er i, sym es i)) below))
