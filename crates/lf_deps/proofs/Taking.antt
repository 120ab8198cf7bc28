-- A rule that is taken, and the rules that wait for it no more.
use Rattle.std.proofs.Common.{◌≡◌, ◌≢◌, ℕ, ◌<◌, ◌≤◌, ◌⊎◌, Bool, true, false, List, [], ◌∷◌, length, get_or, replicate, inl, inr, sym, ◌∙◌, ap, subst, arith}
use Rattle.std.specs.Prelude.{slice_set}
use Rattle.std.specs.List.{Contains, range_with_len}
use Rattle.std.proofs.lemmas.Bool.{both_ways, cases_eq, cases_lt}
use Rattle.std.proofs.lemmas.List.{get_or-replicate, get_or-set_other, get_or-set_same, get_or_past, get_or_read, length-replicate, length-set}
use Rattle.lf_laws.proofs.Members.{behind, first_or_behind, here, none_in}
use Rattle.lf_graph.proofs.Listed.{none_in_empty}
use Rattle.lf_deps.specs.views.Links.{recorded_by, waited_by}
use Rattle.lf_deps.specs.views.Queue.{AreCounts, CountsDown, IsHeld, IsLeft, IsNextOf, IsQueue, IsReady, IsWhole, count_left, occurs, occurs_in}
use Rattle.lf_deps.specs.declared.links.Links.{Links}
use Rattle.lf_deps.specs.declared.queue.Queue.{Queue}
use Rattle.lf_deps.proofs.Ascending.{in_range, of_range}
use Rattle.lf_deps.proofs.Counting.{count_taken, counts_left, left_counts, none_taken, there_occurs}

pub left_within : (taken : List Bool) (k : ℕ) → IsLeft taken k → k < length taken
left_within taken k l = elim (cases_lt k (length taken)) [
  | inl h ↦ h
  | inr h ↦ let e : get_or taken k true ≡ true = get_or_past taken k true h in absurd (both_ways (get_or taken k true) l e)
]

-- what is left once a rule is taken was left before, and isn't that rule
pub still_left : (taken : List Bool) (k j : ℕ) → IsLeft taken k → IsLeft (slice_set taken k true) j → (j ≢ k) × IsLeft taken j
still_left taken k j here l =
    let not_it : j ≢ k = λ e.
    let P : ℕ → Type 0 = λ x. get_or (slice_set taken k true) x true ≡ false in
    both_ways (get_or (slice_set taken k true) k true) (subst P e l) (get_or-set_same taken k true true (left_within taken k here)) in
    (not_it, sym (get_or-set_other taken k j true true not_it) ∙ l)

pub left_on : (taken : List Bool) (k j : ℕ) → j ≢ k → IsLeft taken j → IsLeft (slice_set taken k true) j
left_on taken k j n l = get_or-set_other taken k j true true n ∙ l

pub taken_on : (taken : List Bool) (k j : ℕ) → IsLeft taken k → get_or taken j true ≡ true → get_or (slice_set taken k true) j true ≡ true
taken_on taken k j here e = elim (cases_eq j k) [
  | inl f ↦ let P : ℕ → Type 0 = λ x. get_or (slice_set taken k true) x true ≡ true in subst P (sym f) (get_or-set_same taken k true true (left_within taken k here))
  | inr n ↦ get_or-set_other taken k j true true n ∙ e
]

-- a rule is held where a source of its own is counted

module _ (links : Links) (whole : IsWhole links) (taken : List Bool) (counts : List ℕ) (are : AreCounts links taken counts) (k : ℕ) where
  pub held_counted : IsHeld links taken k → (s : ℕ) × Contains (waited_by links k) s × (0 < get_or counts s 0)
  held_counted h =
      let e = are h.0 (whole.waited k h.0 h.1) in
      let p = left_counts h.0 taken links.recorded h.2 h.3 h.4 in
      (h.0, h.1, omega (arith, e, p))

  pub counted_held : (s : ℕ) → Contains (waited_by links k) s → 0 < get_or counts s 0 → IsHeld links taken k
  counted_held s c p =
      let e = are s (whole.waited k s c) in
      let r = counts_left s taken links.recorded (omega (arith, e, p)) in
      (s, c, r.0, r.1, r.2)

-- a list that is read at a place
pub read_at : (lists : List (List ℕ)) (k : ℕ) (read slice : List ℕ) → k < length lists → read ≡ get_or lists k read → slice ≡ read → slice ≡ get_or lists k []
read_at lists k read slice h e f = f ∙ get_or_read lists k read h e []

pub same_down : (listed listed' : List (List ℕ)) (sources sources' counts counts' after after' due due' later : List ℕ) → listed ≡ listed' → sources ≡ sources' → counts ≡ counts' → after ≡ after' → due ≡ due'
    → CountsDown listed sources counts after due later → CountsDown listed' sources' counts' after' due' later
same_down listed listed' sources sources' counts counts' after after' due due' later e f g h i down =
    let A : List (List ℕ) → Type 0 = λ l. CountsDown l sources counts after due later in
    let B : List ℕ → Type 0 = λ l. CountsDown listed' l counts after due later in
    let C : List ℕ → Type 0 = λ l. CountsDown listed' sources' l after due later in
    let D : List ℕ → Type 0 = λ l. CountsDown listed' sources' counts' l due later in
    let E : List ℕ → Type 0 = λ l. CountsDown listed' sources' counts' after' l later in
    subst E i (subst D h (subst C g (subst B f (subst A e down))))

-- no more is counted down than was counted
pub enough : (links : Links) → IsWhole links → (q : Queue) → IsReady links q → (k : ℕ) → IsLeft q.taken.items k → (s : ℕ) → occurs s (recorded_by links k) ≤ get_or q.counts.items s 0
enough links whole q ready k left s = elim (cases_lt s links.sources) [
  | inl b ↦ let e = ready.counts s b in let f = count_taken s q.taken.items links.recorded k left in omega (arith, e, f)
  | inr b ↦ elim (cases_lt 0 (occurs s (recorded_by links k))) [
    | inl p ↦ let g = whole.recorded k s (there_occurs s (recorded_by links k) p) in absurd (omega (arith, b, g))
    | inr p ↦ omega (arith, p)
  ]
]

module _ (links : Links) (whole : IsWhole links) (q : Queue) (ready : IsReady links q) (k : ℕ) (left : IsLeft q.taken.items k) (later : Queue)
    (chosen : ((q.free ≡ k ∷ later.free) × ((j : ℕ) → Contains later.free j → k < j)) ⊎ ((q.free ≡ []) × (later.free ≡ []) × ((j : ℕ) → IsLeft q.taken.items j → k ≤ j)))
  where
    -- the rule that is chosen is the next
    pub chosen_next : IsNextOf links q.taken.items k
    chosen_next = (left, by chosen)
      where
        settled_held : (j : ℕ) → IsLeft q.taken.items j → (Contains q.free j → IsHeld links q.taken.items j) → IsHeld links q.taken.items j
        settled_held j l free = elim (ready.queue.settled j l) [
          | inl c ↦ absurd (none_in j c)
          | inr r ↦ elim r [
            | inl d ↦ let P : List ℕ → Type 0 = λ xs. Contains xs j in absurd (none_in j (subst P ready.none_due d))
            | inr f ↦ elim f [ inl g ↦ free g | inr g ↦ counted_held links whole q.taken.items q.counts.items ready.counts j g.0 g.1 g.2 ]
          ]
        ]

        by : ((q.free ≡ k ∷ later.free) × ((j : ℕ) → Contains later.free j → k < j)) ⊎ ((q.free ≡ []) × (later.free ≡ []) × ((j : ℕ) → IsLeft q.taken.items j → k ≤ j))
            → ((IsHeld links q.taken.items k → ⊥) × ((j : ℕ) → IsLeft q.taken.items j → (IsHeld links q.taken.items j → ⊥) → k ≤ j))
            ⊎ (((j : ℕ) → IsLeft q.taken.items j → IsHeld links q.taken.items j) × ((j : ℕ) → IsLeft q.taken.items j → k ≤ j))
        by (inl f) = inl (
          λ h.
              let P : List ℕ → Type 0 = λ xs. Contains xs k in
              let free = (ready.queue.free k (subst P (sym f.0) (here k later.free))).1 in
              let r = held_counted links whole q.taken.items q.counts.items ready.counts k h in
              let e = free r.0 r.1 in
              omega (arith, e, r.2),
          λ j l not_held. elim (cases_lt j k) [
            | inl b ↦ absurd (not_held (settled_held j l (λ g.
                let P : List ℕ → Type 0 = λ xs. Contains xs j in
                elim (first_or_behind k later.free j (subst P f.0 g)) [ inl e ↦ absurd (omega (arith, e, b)) | inr d ↦ let m = f.1 j d in absurd (omega (arith, m, b)) ])))
            | inr b ↦ b
          ],
        )
        by (inr f) = inr (
          λ j l. settled_held j l (λ g. let P : List ℕ → Type 0 = λ xs. Contains xs j in absurd (none_in j (subst P f.0 g))),
          f.2,
        )

    module _ (low : (j : ℕ) → j < later.least → get_or q.taken.items j true ≡ true) (marked : later.taken.items ≡ slice_set q.taken.items k true)
        (down : CountsDown q.listed (recorded_by links k) q.counts.items later.counts.items q.due later.due) (size : length later.counts.items ≡ length q.counts.items)
        (same : later ≡ record q { counts = later.counts; due = later.due; free = later.free; taken = later.taken; least = later.least }) where
      pub taken_counts : AreCounts links later.taken.items later.counts.items
      taken_counts s b =
          let P : List Bool → Type 0 = λ t. get_or later.counts.items s 0 ≡ count_left s t links.recorded in
          let e = ready.counts s b in
          let f = count_taken s q.taken.items links.recorded k left in
          let g = down.counted s in
          subst P (sym marked) (omega (arith, e, f, g))

      pub taken_queue : IsQueue links later []
      taken_queue =
          let a = ready.queue in
          let Z : Queue → Type 0 = λ z. IsQueue links z [] in
          let T : ℕ → List Bool → Type 0 = λ j t. IsLeft t j in
          let gone : (s : ℕ) → get_or q.counts.items s 0 ≡ 0 → get_or later.counts.items s 0 ≡ 0 = λ s e. let g = down.counted s in omega (arith, g, e) in
          subst Z (sym same) record {
            sizes = record {
              counts = size ∙ a.sizes.counts;
              listed = a.sizes.listed;
              seen = a.sizes.seen;
              taken = ap length marked ∙ length-set q.taken.items k true ∙ a.sizes.taken;
              listed_rules = a.sizes.listed_rules;
              due_rules = λ j c. elim (down.only j c) [ inl d ↦ a.sizes.due_rules j d | inr d ↦ a.sizes.listed_rules d.0 j d.1 ];
            };
            seen = λ j i h b. gone (get_or (waited_by links j) i 0) (a.seen j i h b);
            free = λ j c. elim chosen [
              | inl f ↦
                  let P : List ℕ → Type 0 = λ xs. Contains xs j in
                  let was = a.free j (subst P (sym f.0) (behind k later.free j c)) in
                  let apart : j ≢ k = λ e. let m = f.1 j c in absurd (omega (arith, e, m)) in
                  (subst (T j) (sym marked) (left_on q.taken.items k j apart was.0), λ s d. gone s (was.1 s d))
              | inr f ↦ let P : List ℕ → Type 0 = λ xs. Contains xs j in absurd (none_in j (subst P f.1 c))
            ];
            settled = λ j l.
                let was = still_left q.taken.items k j left (subst (T j) marked l) in
                elim (a.settled j was.1) [
                  | inl c ↦ inl c
                  | inr r ↦ elim r [
                    | inl d ↦ inr (inl (down.kept j d))
                    | inr f ↦ elim f [
                      | inl g ↦ elim chosen [
                        | inl h ↦
                            let P : List ℕ → Type 0 = λ xs. Contains xs j in
                            elim (first_or_behind k later.free j (subst P h.0 g)) [ inl e ↦ absurd (was.0 (sym e)) | inr d ↦ inr (inr (inl d)) ]
                        | inr h ↦ let P : List ℕ → Type 0 = λ xs. Contains xs j in absurd (none_in j (subst P h.0 g))
                      ]
                      | inr g ↦ elim (cases_lt 0 (get_or later.counts.items g.0 0)) [
                        | inl p ↦ inr (inr (inr (g.0, g.1, p, g.3)))
                        | inr p ↦ inr (inl (down.moved g.0 j g.2 (omega (arith, p)) g.3))
                      ]
                    ]
                  ]
                ];
            low = λ j b. let P : List Bool → Type 0 = λ t. get_or t j true ≡ true in subst P (sym marked) (taken_on q.taken.items k j left (low j b));
          }

-- at first each rule is due

zero_at : (n k : ℕ) → ◌≡◌ {A = ℕ} (get_or (replicate n 0) k 0) 0
zero_at n k = elim (cases_lt k n) [
  | inl b ↦ get_or-replicate n k 0 0 b
  | inr b ↦ let l : length {A = ℕ} (replicate n 0) ≡ n = length-replicate {A = ℕ} n 0 in get_or_past (replicate n 0) k 0 (omega (arith, l, b))
]

pub start_queue : (links : Links) (q : Queue)
    → length q.counts.items ≡ links.sources
    → q.listed ≡ replicate links.sources []
    → q.seen.items ≡ replicate (length links.waited) 0
    → q.due ≡ range_with_len 0 (length links.waited)
    → q.free ≡ []
    → q.taken.items ≡ replicate (length links.waited) false
    → q.least ≡ 0
    → IsQueue links q []
start_queue links q counts listed seen due free taken least =
    let n : ℕ = length links.waited in
    record {
      sizes = record {
        counts = counts;
        listed = ap length listed ∙ length-replicate {A = List ℕ} links.sources [];
        seen = ap length seen ∙ length-replicate {A = ℕ} n 0;
        taken = ap length taken ∙ length-replicate n false;
        listed_rules = λ s k c. let P : List (List ℕ) → Type 0 = λ l. Contains (get_or l s []) k in absurd (none_in_empty links.sources s k (subst P listed c));
        due_rules = λ k c. let P : List ℕ → Type 0 = λ l. Contains l k in of_range n k (subst P due c);
      };
      seen = λ k i h b. let e = ap (λ (l : List ℕ). get_or l k 0) seen ∙ zero_at n k in absurd (omega (arith, h, e));
      free = λ k c. let P : List ℕ → Type 0 = λ l. Contains l k in absurd (none_in k (subst P free c));
      settled = λ k l.
          let h = left_within q.taken.items k l in
          let size = ap length taken ∙ length-replicate n false in
          let P : List ℕ → Type 0 = λ xs. Contains xs k in
          inr (inl (subst P (sym due) (in_range n k (omega (arith, h, size)))));
      low = λ j b. absurd (omega (arith, b, least));
    }

pub start_counts : (links : Links) (taken : List Bool) (counts : List ℕ) → IsWhole links → taken ≡ replicate (length links.waited) false → ((s : ℕ) → s < links.sources → get_or counts s 0 ≡ occurs_in s links.recorded) → AreCounts links taken counts
start_counts links taken counts whole e are s b =
    let P : List Bool → Type 0 = λ t. get_or counts s 0 ≡ count_left s t links.recorded in
    subst P (sym e) (are s b ∙ sym (none_taken s (length links.waited) links.recorded whole.rules))
