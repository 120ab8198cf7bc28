-- Rules that are looked at.
use Rattle.std.proofs.Common.{◌≡◌, ℕ, ◌<◌, ◌≤◌, ◌⊎◌, List, [], ◌∷◌, ◌++◌, length, get_or, inl, inr, sym, ◌∙◌, ap, subst, arith}
use Rattle.std.specs.Prelude.{slice_set}
use Rattle.std.specs.List.{Contains}
use Rattle.std.proofs.lemmas.Bool.{cases_eq, cases_lt}
use Rattle.std.proofs.lemmas.List.{get_or-set_other, get_or-set_same, get_or_default, length-set}
use Rattle.std.proofs.lemmas.List.Elements.{Contains-append_left, Contains-get_or, Contains-push, Contains-push_cases}
use Rattle.lf_laws.proofs.Members.{here, none_in, only_one}
use Rattle.lf_deps.specs.views.Links.{waited_by}
use Rattle.lf_deps.specs.views.Queue.{IsFree, IsLeft, IsQueue, IsWhole, Settles}
use Rattle.lf_deps.specs.declared.links.Links.{Links}
use Rattle.lf_deps.specs.declared.queue.Queue.{Queue}

at_default : (xs : List ℕ) (i s : ℕ) → i < length xs → get_or xs i s ≡ s → get_or xs i 0 ≡ s
at_default xs i s h e = get_or_default xs i 0 s h ∙ e

-- a rule that was due is set aside
pub popped : (links : Links) (q : Queue) (rest : List ℕ) (k : ℕ) → q.due ≡ rest ++ k ∷ [] → IsQueue links q [] → IsQueue links (record q { due = rest }) (k ∷ [])
popped links q rest k e a =
    let D : ℕ → List ℕ → Type 0 = λ j l. Contains l j in
    record {
      sizes = record {
        counts = a.sizes.counts;
        listed = a.sizes.listed;
        seen = a.sizes.seen;
        taken = a.sizes.taken;
        listed_rules = a.sizes.listed_rules;
        due_rules = λ j c. a.sizes.due_rules j (subst (D j) (sym e) (Contains-append_left rest (k ∷ []) j c));
      };
      seen = a.seen;
      free = a.free;
      settled = λ j l. elim (a.settled j l) [
        | inl c ↦ absurd (none_in j c)
        | inr r ↦ elim r [
          | inl d ↦ elim (Contains-push_cases rest k j (subst (D j) e d)) [
            | inl g ↦ inr (inl g)
            | inr g ↦ let P : ℕ → Type 0 = λ i. Contains (k ∷ []) i in inl (subst P g (here k []))
          ]
          | inr s ↦ inr (inr s)
        ]
      ];
      low = a.low;
    }

pub due_rule : (links : Links) (q : Queue) (rest : List ℕ) (k : ℕ) → q.due ≡ rest ++ k ∷ [] → IsQueue links q [] → k < length links.waited
due_rule links q rest k e a = let P : List ℕ → Type 0 = λ l. Contains l k in a.sizes.due_rules k (subst P (sym e) (Contains-push rest k))

-- no rule left records the sources from one place to another
abbrev pub NoneFrom : List ℕ → List ℕ → ℕ → ℕ → Type 0
NoneFrom counts sources from at = (i : ℕ) → from ≤ i → i < at → get_or counts (get_or sources i 0) 0 ≡ 0

pub same_none : (counts sources other same : List ℕ) (from start at : ℕ) → counts ≡ other → sources ≡ same → from ≡ start → NoneFrom counts sources from at → NoneFrom other same start at
same_none counts sources other same from start at e f g none =
    let P : List ℕ → Type 0 = λ l. NoneFrom l sources from at in
    let Q : List ℕ → Type 0 = λ l. NoneFrom other l from at in
    let R : ℕ → Type 0 = λ k. NoneFrom other same k at in
    subst R g (subst Q f (subst P e none))

module _ (links : Links) (whole : IsWhole links) (q : Queue) (k : ℕ) (a : IsQueue links q (k ∷ [])) (within : k < length links.waited) (left : IsLeft q.taken.items k) (at : ℕ)
    (none : NoneFrom q.counts.items (waited_by links k) (get_or q.seen.items k 0) at) (later : Queue) (put : later.seen.items ≡ slice_set q.seen.items k at) where
  seen_on : (j i : ℕ) → i < get_or later.seen.items j 0 → i < length (waited_by links j) → get_or q.counts.items (get_or (waited_by links j) i 0) 0 ≡ 0
  seen_on j i h b =
      let P : List ℕ → Type 0 = λ l. i < get_or l j 0 in
      let g : i < get_or (slice_set q.seen.items k at) j 0 = subst P put h in
      elim (cases_eq j k) [
        | inl e ↦
            let A : ℕ → Type 0 = λ x. i < get_or (slice_set q.seen.items k at) x 0 in
            let size = a.sizes.seen in
            let same = get_or-set_same q.seen.items k at 0 (omega (arith, within, size)) in
            let below : i < at = omega (arith, subst A e g, same) in
            let Q : ℕ → Type 0 = λ x. get_or q.counts.items (get_or (waited_by links x) i 0) 0 ≡ 0 in
            subst Q (sym e) (elim (cases_lt i (get_or q.seen.items k 0)) [
              | inl m ↦ let W : ℕ → Type 0 = λ x. i < length (waited_by links x) in a.seen k i m (subst W e b)
              | inr m ↦ none i m below
            ])
        | inr n ↦ let other = get_or-set_other q.seen.items k j at 0 n in a.seen j i (omega (arith, g, other)) b
      ]

  seen_size : length later.seen.items ≡ length links.waited
  seen_size = ap length put ∙ length-set q.seen.items k at ∙ a.sizes.seen

  -- the rule is listed at a source that a rule left records
  pub listed_on : at < length (waited_by links k)
      → 0 < get_or q.counts.items (get_or (waited_by links k) at 0) 0
      → later.listed ≡ slice_set q.listed (get_or (waited_by links k) at 0) (get_or q.listed (get_or (waited_by links k) at 0) [] ++ k ∷ [])
      → later ≡ record q { seen = later.seen; listed = later.listed }
      → Settles links q later
  listed_on h some lists same =
      let s : ℕ = get_or (waited_by links k) at 0 in
      let own : Contains (waited_by links k) s = Contains-get_or (waited_by links k) at 0 h in
      let size = a.sizes.listed in
      let in_lists : s < length q.listed = omega (arith, whole.waited k s own, size) in
      let old : List ℕ = get_or q.listed s [] in
      let new : List (List ℕ) = slice_set q.listed s (old ++ k ∷ []) in
      let at_s : get_or new s [] ≡ old ++ k ∷ [] = get_or-set_same q.listed s (old ++ k ∷ []) [] in_lists in
      let L : ℕ → ℕ → List (List ℕ) → Type 0 = λ x j l. Contains (get_or l x []) j in
      let C : ℕ → List ℕ → Type 0 = λ j l. Contains l j in
      let kept : (x j : ℕ) → Contains (get_or q.listed x []) j → Contains (get_or new x []) j = λ x j c. elim (cases_eq x s) [
        | inl e ↦
            let X : ℕ → Type 0 = λ y. Contains (get_or q.listed y []) j in
            let Y : ℕ → Type 0 = λ y. Contains (get_or new y []) j in
            subst Y (sym e) (subst (C j) (sym at_s) (Contains-append_left old (k ∷ []) j (subst X e c)))
        | inr n ↦ subst (C j) (sym (get_or-set_other q.listed s x (old ++ k ∷ []) [] n)) c
      ] in
      let Z : Queue → Type 0 = λ z. IsQueue links z [] in
      record {
        queue = subst Z (sym same) record {
          sizes = record {
            counts = a.sizes.counts;
            listed = ap length lists ∙ length-set q.listed s (old ++ k ∷ []) ∙ size;
            seen = seen_size;
            taken = a.sizes.taken;
            listed_rules = λ x j c. elim (cases_eq x s) [
              | inl e ↦
                  let Y : ℕ → Type 0 = λ y. Contains (get_or new y []) j in
                  let d = subst (C j) at_s (subst Y e (subst (L x j) lists c)) in
                  elim (Contains-push_cases old k j d) [
                    | inl f ↦ a.sizes.listed_rules s j f
                    | inr f ↦ let B : ℕ → Type 0 = λ y. y < length links.waited in subst B f within
                  ]
              | inr n ↦ a.sizes.listed_rules x j (subst (C j) (get_or-set_other q.listed s x (old ++ k ∷ []) [] n) (subst (L x j) lists c))
            ];
            due_rules = a.sizes.due_rules;
          };
          seen = seen_on;
          free = a.free;
          settled = λ j l. elim (a.settled j l) [
            | inl c ↦
                let J : ℕ → Type 0 = λ y. (x : ℕ) × Contains (waited_by links y) x × (0 < get_or q.counts.items x 0) × Contains (get_or later.listed x []) y in
                let there : Contains (get_or later.listed s []) k = subst (L s k) (sym lists) (subst (C k) (sym at_s) (Contains-push old k)) in
                inr (inr (inr (subst J (only_one k j c) (s, own, some, there))))
            | inr r ↦ elim r [
              | inl d ↦ inr (inl d)
              | inr f ↦ elim f [
                | inl g ↦ inr (inr (inl g))
                | inr g ↦ inr (inr (inr (g.0, g.1, g.2, subst (L g.0 j) (sym lists) (kept g.0 j g.3))))
              ]
            ]
          ];
          low = a.low;
        };
        counts = ap (λ (z : Queue). z.counts) same;
        taken = ap (λ (z : Queue). z.taken) same;
      }

  -- no rule left records any of its sources, so it is free
  pub freed_on : length (waited_by links k) ≤ at
      → ((j : ℕ) → Contains q.free j → Contains later.free j)
      → Contains later.free k
      → ((j : ℕ) → Contains later.free j → (k ≡ j) ⊎ Contains q.free j)
      → later ≡ record q { seen = later.seen; free = later.free }
      → Settles links q later
  freed_on over kept added only same =
      let free : IsFree links q.counts.items k = λ s c.
      let P : ℕ → Type 0 = λ x. get_or q.counts.items x 0 ≡ 0 in
      let size = a.sizes.seen in
      let set_to = get_or-set_same q.seen.items k at 0 (omega (arith, within, size)) in
      let there = ap (λ (l : List ℕ). get_or l k 0) put in
      let e : get_or (waited_by links k) c.0 0 ≡ s = at_default (waited_by links k) c.0 s c.1 c.2 in
      subst P e (seen_on k c.0 (omega (arith, c.1, over, set_to, there)) c.1) in
      let Z : Queue → Type 0 = λ z. IsQueue links z [] in
      let J : ℕ → Type 0 = λ y. IsLeft q.taken.items y × IsFree links q.counts.items y in
      record {
        queue = subst Z (sym same) record {
          sizes = record {
            counts = a.sizes.counts;
            listed = a.sizes.listed;
            seen = seen_size;
            taken = a.sizes.taken;
            listed_rules = a.sizes.listed_rules;
            due_rules = a.sizes.due_rules;
          };
          seen = seen_on;
          free = λ j c. elim (only j c) [ inl e ↦ subst J e (left, free) | inr d ↦ a.free j d ];
          settled = λ j l. elim (a.settled j l) [
            | inl c ↦ let F : ℕ → Type 0 = λ y. Contains later.free y in inr (inr (inl (subst F (only_one k j c) added)))
            | inr r ↦ elim r [
              | inl d ↦ inr (inl d)
              | inr f ↦ elim f [ inl g ↦ inr (inr (inl (kept j g))) | inr g ↦ inr (inr (inr g)) ]
            ]
          ];
          low = a.low;
        };
        counts = ap (λ (z : Queue). z.counts) same;
        taken = ap (λ (z : Queue). z.taken) same;
      }
