-- Words that are loaded one after the other.
use Rattle.std.proofs.Common.{◌≡◌, ◌≢◌, ℕ, suc, ◌+◌, ◌-◌, ◌*◌, ◌<◌, ◌≤◌, List, [], ◌∷◌, ◌++◌, length, get_or, set, take, drop, inl, inr, sym, ◌∙◌, ap, arith, get_or-set_same, get_or-set_other, length-append, length-drop, length-set}
use Rattle.std.proofs.Math.Nat.{add-mul, suc-mul}
use Rattle.std.proofs.Math.Seq.{get_or-append_seam}
use Rattle.std.proofs.lemmas.Bool.{cases_eq}
use Rattle.std.proofs.lemmas.List.{ext_get_or, get_or-take, get_or_append_left, length-take-le}
use Rattle.std.specs.List.{sum}
use Rattle.std.proofs.lemmas.List.Sums.{sum_by-cons, sum_by_push}
use Rattle.lf_graph.proofs.Prefixes.{prefix_next}
use Rattle.lf_rounds.specs.Facts.{RoundFacts, task}
use Rattle.lf_rounds.specs.Rounds.{noted_view}
use Rattle.lf_rounds.specs.Sums.{sum_of_loads}
use Rattle.lf_rounds.specs.Tasks.{IsTask, names, width}
use Rattle.lf_rounds.specs.declared.rule.Load.{Load}
use Rattle.lf_rounds.specs.declared.rule.RoundView.{RoundView}
use Rattle.lf_rounds.specs.views.Working.{ChangedAt, IsAsBefore}
use Rattle.lf_rounds.proofs.Environments.{word_of_part}

-- one word more of a list is written
module _ (items : List ℕ) (k w : ℕ) (h : k < length items) where
  kept_before : take k (set items k w) ≡ take k items
  kept_before =
      let long = length-set items k w in
      let a : length (take k (set items k w)) ≡ k = length-take-le k (set items k w) (omega (arith, h, long)) in
      let b : length (take k items) ≡ k = length-take-le k items (omega (arith, h)) in
      ext_get_or 0 (take k (set items k w)) (take k items) (a ∙ sym b)
      (λ j l. let less : j < k = omega (arith, l, a) in get_or-take k (set items k w) j 0 less ∙ get_or-set_other items k j w 0 (λ e. absurd (omega (arith, e, less))) ∙ sym (get_or-take k items j 0 less))

  pub written_more : take (k + 1) (set items k w) ≡ take k items ++ w ∷ []
  written_more = prefix_next (set items k w) k 0 w (omega (arith, h, length-set items k w)) (sym (get_or-set_same items k w 0 h)) ∙ ap (λ l. l ++ w ∷ []) kept_before

-- the words of a row lie among all
pub part_within : (number count wide : ℕ) → number < count → number * wide + wide ≤ count * wide
part_within number count wide h =
    let d = count - suc number in
    let all : count * wide ≡ suc number * wide + d * wide = ap (λ n. n * wide) (let e : count ≡ suc number + d = omega arith in e) ∙ add-mul (suc number) d wide in
    omega (arith, all, suc-mul number wide)

module _ (round : RoundFacts) (is : IsTask (task round)) where
  pub row_within : (number : ℕ) → number < length (names (task round)) → number * width (task round) + width (task round) ≤ length round.start
  row_within number h = omega (arith, part_within number (length (names (task round))) (width (task round)) h, is.words)

-- one word more is loaded
module _ (before after first words more : List ℕ) (at k wide w : ℕ) (eq : after ≡ set before (at + k) w) (within : at + k < length before) (h : k < wide) (pushed : more ≡ words ++ w ∷ []) (len : length words ≡ k) where
  elsewhere : (i : ℕ) → i ≢ at + k → get_or after i 0 ≡ get_or before i 0
  elsewhere i n = ap (λ xs. get_or xs i 0) eq ∙ get_or-set_other before (at + k) i w 0 n

  pub others_more : ChangedAt at wide first before → ChangedAt at wide first after
  others_more old i out = elsewhere i (λ e. elim out [ inl l ↦ absurd (omega (arith, l, e)) | inr l ↦ absurd (omega (arith, l, e, h)) ]) ∙ old i out

  pub read_more : ((j : ℕ) → j < k → get_or words j 0 ≡ get_or before (at + j) 0) → (j : ℕ) → j < k + 1 → get_or more j 0 ≡ get_or after (at + j) 0
  read_more old j l = elim (cases_eq j k) [
    | inl e ↦ ap (λ xs. get_or xs j 0) pushed ∙ ap (λ n. get_or (words ++ w ∷ []) n 0) (e ∙ sym len) ∙ get_or-append_seam words w [] 0
        ∙ sym (ap (λ n. get_or after (at + n) 0) e ∙ ap (λ xs. get_or xs (at + k) 0) eq ∙ get_or-set_same before (at + k) w 0 within)
    | inr n ↦ (let b : j < k = omega (arith, l, n) in
        ap (λ xs. get_or xs j 0) pushed ∙ get_or_append_left words (w ∷ []) 0 j (omega (arith, b, len)) ∙ old j b ∙ sym (elsewhere (at + j) (λ e. n (omega (arith, e)))))
  ]

  pub length_more : length more ≡ k + 1
  length_more = ap length pushed ∙ length-append words (w ∷ []) ∙ ap (λ n. n + 1) len

pub all_read : (words all : List ℕ) (at wide : ℕ) → length words ≡ wide → at + wide ≤ length all → ((j : ℕ) → j < wide → get_or words j 0 ≡ get_or all (at + j) 0) → words ≡ take wide (drop at all)
all_read words all at wide len within read =
    ext_get_or 0 words (take wide (drop at all)) (len ∙ sym (length-take-le wide (drop at all) (omega (arith, within, length-drop at all))))
    (λ j h. let b : j < wide = omega (arith, h, len) in read j b ∙ sym (word_of_part all at wide j b))

-- the sum of the loads grows by the words
pub loads_more : (before w place : ℕ) (loads : List Load) (words more : List ℕ) → more ≡ words ++ w ∷ [] → sum_of_loads loads ≡ before + sum words → sum_of_loads (record { place = place; word = w } ∷ loads) ≡ before + sum more
loads_more before w place loads words more pushed e =
    omega (arith, e, sum_by-cons (λ (l : Load). l.word) (record { place = place; word = w }) loads, ap sum pushed, sum_by_push (λ (x : ℕ). x) words w)

-- a load leaves the rest of the view
pub noted_same : (v w u : RoundView) (place word : ℕ) → IsAsBefore v w → u ≡ noted_view w place word → IsAsBefore v u
noted_same v w u place word h e = record {
  board = ap (λ (x : RoundView). x.board) e ∙ h.board;
  busy = ap (λ (x : RoundView). x.busy) e ∙ h.busy;
  piece = ap (λ (x : RoundView). x.piece) e ∙ h.piece;
  raised = ap (λ (x : RoundView). x.raised) e ∙ h.raised;
  done = ap (λ (x : RoundView). x.done) e ∙ h.done;
}

pub as_before : (v w u : RoundView) → IsAsBefore v w → IsAsBefore w u → IsAsBefore v u
as_before v w u h k = record { board = k.board ∙ h.board; busy = k.busy; piece = k.piece ∙ h.piece; raised = k.raised ∙ h.raised; done = k.done ∙ h.done }
