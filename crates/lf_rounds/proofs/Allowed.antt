-- The steps of a table, by the events.
use Rattle.std.proofs.Common.{◌≡◌, ℕ, suc, ◌+◌, ◌-◌, ◌%◌, ◌^◌, ◌<◌, ◌≤◌, true, false, ◌||◌, List, [], ◌∷◌, ◌++◌, map, length, get_or, set, drop, bit_or, refl, sym, ap, ◌∙◌, subst, arith, lt_of_not-le}
use Rattle.std.proofs.lemmas.List.{set-get_or}
use Rattle.std.proofs.lemmas.Nat.Bits.{bit_at_or, same_from_bits}
use mathlib.Core.Logic.{dite}
use mathlib.Core.Option.{some, none}
use native.Mathlib.Decide.{dec_le}
use lib.ListN.{get_elem?}
use Rattle.atomic_table.specs.Table.{Me, step, keeps, Allows, Splits, Joins}
use Rattle.atomic_table.proofs.Lists.{at_map}
use Rattle.lf_board.specs.declared.rule.View.{View}
use Rattle.lf_board.specs.Numbers.{AreNumbersBelow}
use Rattle.lf_board.proofs.Sums.{one-le-sum_by}
use Rattle.lf_rounds.specs.declared.rule.About.{About}
use Rattle.lf_rounds.specs.declared.rule.Loaded.{Loaded}
use Rattle.lf_rounds.specs.declared.rule.RoundView.{RoundView}
use Rattle.lf_rounds.specs.views.Noting.{AreMadeBy, AreNoted}
use Rattle.lf_rounds.specs.Rounds.{Holds, HoldsWords, IsSummed, Kept, adds, board_of, both_of, claimed, finished, left_of, loaded, noted, raised, right_of, spent_view, task_of}
use Rattle.lf_rounds.specs.Tasks.{IsBelowLeast, IsTask, Raised, place_of, stored_word, width}
use Rattle.lf_classes.specs.RowWords.{WordsLeq}
use Rattle.lf_classes.proofs.RowWordOrder.{zero_leq}
use Rattle.lf_rounds.proofs.Events.{claims_none, claims_piece, ends, finishes, joins, loads, noted_made, raises, splits}

or_nothing : (n : ℕ) → bit_or n 0 ≡ n
or_nothing n = same_from_bits (bit_or n 0) n (λ i. omega (arith, bit_at_or n 0 i, zero_leq n i))

abbrev pub Mine : Type 0
Mine = Me (Unit {0}) RoundView

module _ (k : About) (id : ℕ) (me : Mine) where
  module _ (small : k.counts.pieces < 4294967296) (few : k.counts.seats ≤ 64) (idle : me.0.busy ≡ false) (live : 0 < me.0.board.share) (still_open : me.0.board.missed ≡ 0) where
    claim_at : (ws : List ℕ) (views : List RoundView) → HoldsWords k ws views → get_elem? views id ≡ some me.0
        → (w : RoundView) × HoldsWords k (set ws 0 ((get_or ws 0 0 + 1) % 2 ^ 64)) (set views id w) × claimed (step 0 0 1 0 none) me (get_or ws 0 0) (w, me.1)
    claim_at [] views h at = absurd h
    claim_at (n ∷ words) views h at =
        let v = me.0 in
        let b = h.board in
        let is_board = at_map board_of views id v at in
        let known = (b.fits id v.board is_board).0 live in
        let sum = b.summed in
        let old = b.given in
        let most = b.bounded in
        let long = one-le-sum_by (λ (u : View). length u.claims) (map board_of views) id v.board is_board in
        let less : n + 1 ≡ (n + 1) % 18446744073709551616 = omega arith in
        dite (dec_le k.counts.pieces n)
        (λ full.
        let w : RoundView = record v { board = record v.board { missed = v.board.missed + 1 } } in
        (w, subst (λ (z : ℕ). Holds k z words (set views id w)) less (claims_none k n id words views v h at idle live still_open full), (refl, (λ below. absurd (omega arith)), λ _. refl)))
        (λ not_full.
        let below : n < k.counts.pieces = lt_of_not-le not_full in
        let w : RoundView = record v { board = record v.board { claims = v.board.claims ++ n ∷ [] }; busy = true; piece = n; loads = []; raised = 0 } in
        (w, subst (λ (z : ℕ). Holds k z words (set views id w)) less (claims_piece k n id words views v h at idle live below), (refl, (λ _. (refl, omega arith)), λ past. absurd (omega arith))))

    pub may_claim : (slots : ℕ) → Allows (Kept k) slots id me 0 (λ n. (n + 1) % 2 ^ 64) (claimed (step slots 0 1 0 none) me)
    may_claim slots s h homes at fits = let r = claim_at s.words s.views h at in (r.0, keeps, tt, r.1, r.2)

  module _ (i : ℕ) (within : i < length (task_of k).start) (busy : me.0.busy ≡ true) where
    load_at : me.0.raised ≡ 0 → (ws : List ℕ) (views : List RoundView) → HoldsWords k ws views → get_elem? views id ≡ some me.0
        → (w : RoundView) × HoldsWords k (set ws (suc i) (get_or ws (suc i) 0)) (set views id w) × (w ≡ record me.0 { loads = record { place = i; word = get_or ws (suc i) 0 } ∷ me.0.loads })
    load_at first [] views h at = absurd h
    load_at first (n ∷ words) views h at =
        let wide = h.wide in
        let w : RoundView = record me.0 { loads = record { place = i; word = get_or words i 0 } ∷ me.0.loads } in
        (w, subst (λ (l : List ℕ). Holds k n l (set views id w)) (sym (set-get_or words i 0)) (loads k n id words views me.0 h at i (omega arith) busy first), refl)

    pub may_load : (slots word : ℕ) → word ≡ suc i → me.0.raised ≡ 0 → Allows (Kept k) slots id me word (λ n. n) (loaded (step slots word 0 0 none) me)
    may_load slots word is first = subst (λ (z : ℕ). Allows (Kept k) slots id me z (λ n. n) (loaded (step slots z 0 0 none) me)) (sym is)
        (λ s h homes at fits. let r = load_at first s.words s.views h at in (r.0, keeps, tt, r.1, (refl, r.2 ∙ ap (λ (z : ℕ). record me.0 { loads = record { place = z; word = get_or s.words (suc i) 0 } ∷ me.0.loads }) (omega arith))))

    module _ (task : IsTask (task_of k)) (live : 0 < me.0.board.share) (x : ℕ) (place : i ≡ place_of (task_of k) me.0.piece me.0.raised) (value : x ≡ stored_word (task_of k) me.0.piece (noted (task_of k).start me.0.loads) me.0.raised) where
      raise_at : me.0.raised < width (task_of k) → (ws : List ℕ) (views : List RoundView) → HoldsWords k ws views → get_elem? views id ≡ some me.0
          → (w : RoundView) × HoldsWords k (set ws (suc i) (bit_or (get_or ws (suc i) 0) x)) (set views id w)
          × (w ≡ record me.0 { raised = me.0.raised + 1; changed = me.0.changed || adds x (get_or ws (suc i) 0) })
      raise_at more [] views h at = absurd h
      raise_at more (n ∷ words) views h at =
          let wide = h.wide in
          let w = λ (j y : ℕ). record me.0 { raised = me.0.raised + 1; changed = me.0.changed || adds y (get_or words j 0) } in
          let P : ℕ × ℕ → Type 0 = λ z. Holds k n (set words z.0 (bit_or (get_or words z.0 0) z.1)) (set views id (w z.0 z.1)) in
          (w i x, subst P (λ t. (sym place t, sym value t)) (raises k task n id words views me.0 h at busy live more (omega arith)), refl)

      pub may_raise : (slots word : ℕ) → word ≡ suc i → me.0.raised < width (task_of k) → Allows (Kept k) slots id me word (λ n. bit_or n x) (raised (step slots word x 0 none) me)
      may_raise slots word is more = subst (λ (z : ℕ). Allows (Kept k) slots id me z (λ n. bit_or n x) (raised (step slots z x 0 none) me)) (sym is)
          (λ s h homes at fits. let r = raise_at more s.words s.views h at in (r.0, keeps, tt, r.1, (refl, r.2)))

      -- where the word has no bit, a load does the same
      pub may_raise_none : x ≡ 0 → (slots word : ℕ) → word ≡ suc i → me.0.raised < width (task_of k) → Allows (Kept k) slots id me word (λ n. n) (raised (step slots word 0 0 none) me)
      may_raise_none empty slots word is more =
          let P : ℕ → Type 0 = λ z. Allows (Kept k) slots id me word (λ n. bit_or n z) (raised (step slots word z 0 none) me) in
          let Q : (ℕ → ℕ) → Type 0 = λ f. Allows (Kept k) slots id me word f (raised (step slots word 0 0 none) me) in
          subst Q (λ j n. or_nothing n j) (subst P empty (may_raise slots word is more))

      finish_at : me.0.raised + 1 ≡ width (task_of k) → IsSummed (task_of k) (record { piece = me.0.piece; loads = me.0.loads }) → (ws : List ℕ) (views : List RoundView) → HoldsWords k ws views → get_elem? views id ≡ some me.0
          → (w : RoundView) × HoldsWords k (set ws (suc i) (bit_or (get_or ws (suc i) 0) x)) (set views id w)
          × (w ≡ record me.0 { done = me.0.done ++ record { piece = me.0.piece; loads = me.0.loads } ∷ []; busy = false; changed = me.0.changed || adds x (get_or ws (suc i) 0) })
      finish_at all summed [] views h at = absurd h
      finish_at all summed (n ∷ words) views h at =
          let wide = h.wide in
          let w = λ (j y : ℕ). record me.0 { done = me.0.done ++ record { piece = me.0.piece; loads = me.0.loads } ∷ []; busy = false; changed = me.0.changed || adds y (get_or words j 0) } in
          let P : ℕ × ℕ → Type 0 = λ z. Holds k n (set words z.0 (bit_or (get_or words z.0 0) z.1)) (set views id (w z.0 z.1)) in
          (w i x, subst P (λ t. (sym place t, sym value t)) (finishes k task n id words views me.0 h at busy live all (omega arith) summed), refl)

      pub may_finish : (slots word : ℕ) → word ≡ suc i → me.0.raised + 1 ≡ width (task_of k) → IsSummed (task_of k) (record { piece = me.0.piece; loads = me.0.loads }) → Allows (Kept k) slots id me word (λ n. bit_or n x) (finished (step slots word x 0 none) me)
      may_finish slots word is all summed = subst (λ (z : ℕ). Allows (Kept k) slots id me z (λ n. bit_or n x) (finished (step slots z x 0 none) me)) (sym is)
          (λ s h homes at fits. let r = finish_at all summed s.words s.views h at in (r.0, keeps, tt, r.1, (refl, r.2)))

-- the end of a round: the row words stand behind the claim word

pub ends_words : (k : About) (id : ℕ) (v : RoundView) (ws : List ℕ) (views : List RoundView) → IsTask (task_of k) → HoldsWords k ws views → get_elem? views id ≡ some v → v.busy ≡ false → 0 < v.board.share → v.board.share - 1 ≡ k.counts.seats - 1 → 0 < v.board.missed
    → AreNumbersBelow k.counts.pieces v.board.claims × ((p : ℕ) → p < k.counts.pieces → Raised (task_of k) (drop 1 ws) p (task_of k).start (width (task_of k)))
ends_words k id v [] views task h at idle live all shut = absurd h
ends_words k id v (n ∷ words) views task h at idle live all shut = ends k n id words views v h at task idle live all shut

pub made_words : (k : About) (id : ℕ) (v : RoundView) (ws : List ℕ) (views : List RoundView) → HoldsWords k ws views → get_elem? views id ≡ some v → (notes : List Loaded) → AreNoted v.done notes → AreMadeBy (task_of k) (drop 1 ws) notes
made_words k id v [] views h at notes listed = absurd h
made_words k id v (n ∷ words) views h at notes listed = noted_made k n id words views v h at notes listed

pub rises_words : (k : About) (ws : List ℕ) (views : List RoundView) → HoldsWords k ws views
    → (length (drop 1 ws) ≡ length (task_of k).start) × WordsLeq (task_of k).start (drop 1 ws) × IsBelowLeast (task_of k).universe (task_of k).rules (drop 1 ws)
rises_words k [] views h = absurd h
rises_words k (n ∷ words) views h = (h.wide, h.above, h.under)

module _ (k : About) (id : ℕ) (v : RoundView) where
  split_at : (room : ℕ) → v.board.missed ≡ 0 → room + 1 < v.board.share → (ws : List ℕ) (views : List RoundView) → HoldsWords k ws views → get_elem? views id ≡ some v → HoldsWords k ws (set views id (left_of room v) ++ right_of room v ∷ [])
  split_at room still_open fits [] views h at = absurd h
  split_at room still_open fits (n ∷ words) views h at = splits k n id words views v h at room still_open fits

  pub may_split : (room : ℕ) → v.board.missed ≡ 0 → room + 1 < v.board.share → Splits (Kept k) id v (left_of room v) (right_of room v)
  may_split room still_open fits s h at = split_at room still_open fits s.words s.views h at

  join_at : (other : ℕ) (u : RoundView) → 0 < v.board.share → v.busy ≡ false → u.busy ≡ false → (ws : List ℕ) (views : List RoundView) → HoldsWords k ws views → get_elem? views id ≡ some v → ¬ (other ≡ id) → get_elem? (set views id (both_of v u)) other ≡ some u → HoldsWords k ws (set (set views id (both_of v u)) other spent_view)
  join_at other u live idle idle' [] views h at apart there = absurd h
  join_at other u live idle idle' (n ∷ words) views h at apart there = joins k n id words views v h at other u apart there live idle idle'

  pub may_join : (other : ℕ) (u : RoundView) → 0 < v.board.share → v.busy ≡ false → u.busy ≡ false → Joins (Kept k) id v other u (both_of v u) spent_view
  may_join other u live idle idle' s h at apart there = join_at other u live idle idle' s.words s.views h at apart there
