-- What the changes of a row make of its bits.
use Rattle.std.proofs.Common.{◌≡◌, ◌≢◌, ℕ, ◌+◌, ◌<◌, ◌≤◌, Bool, true, false, ◌&&◌, ◌||◌, cond, eqb, List, [], map, length, get_or, inl, inr, refl, sym, ◌∙◌, ap, arith, length-set}
use Rattle.std.proofs.Math.ListN.{set}
use Rattle.std.specs.Prelude.{replicate}
use Rattle.std.specs.List.{sum}
use Rattle.std.proofs.lemmas.Bool.{cases_eq, cases_lt}
use Rattle.std.proofs.lemmas.Bool.Decides.{Decides-eqb}
use Rattle.std.proofs.lemmas.List.{ext_get_or, get_or-set_same, get_or-set_other, length-replicate}
use Rattle.lf_semantics.specs.ClassRows.{Sets, meet, emptied, holds, is_live, kept, remade, set_to, normalized, join}
use Rattle.lf_semantics.proofs.Places.{eqb-other}
use Rattle.lf_semantics.proofs.RowLaws.{holds-remade, length_remade, live_when, shape_emptied, shape_remade}
use Rattle.lf_classes.specs.views.Cut.{cut, shown, start}
use Rattle.lf_semantics.proofs.RowSets.{count_at, dead_when, emptied_dead, emptied_holds, emptied_remade, emptied_same, emptied_twice, label_in, live_at}
use Rattle.lf_classes.proofs.Cutting.{cut_remade, empty_cut, found_class, full_cut, full_live, holds-cut, length-cut, no_class, shape_cut, start_before, start_within}
use Rattle.std.proofs.Math.Bool.{and-false}

pub shape_shown : (live : Bool) (counts : List ℕ) (bits : List Bool) → sum counts ≤ length bits → map length (shown live (cut counts bits)) ≡ counts
shape_shown true counts bits h = shape_cut counts bits h
shape_shown false counts bits h = shape_emptied (cut counts bits) ∙ shape_cut counts bits h

pub holds_shown : (live : Bool) (row : Sets) (l c : ℕ) → live ≡ false → holds (shown live row) l c ≡ false
holds_shown true row l c e = absurd (cc)
holds_shown false row l c e = emptied_holds row l c

-- classes of two labels stand apart
apart : (counts : List ℕ) (l m c d : ℕ) → l ≢ m → l < length counts → m < length counts → c < get_or counts l 0 → d < get_or counts m 0 → start counts l + c ≢ start counts m + d
apart counts l m c d n h k i j = λ e. elim (cases_lt l m) [
  | inl b ↦ absurd (omega (arith, e, start_before counts l m b k))
  | inr b ↦ absurd (let q : m < l = omega (arith, b, n) in omega (arith, e, start_before counts m l q h))
]

-- rows that stay live

pub live_remade : (f : ℕ → ℕ → Bool → Bool) (row : Sets) (label : ℕ) → is_live row ≡ true → ((l c : ℕ) → l ≢ label → f l c true ≡ true)
    → (c : ℕ) → holds (remade f row) label c ≡ true → is_live (remade f row) ≡ true
live_remade f row label e same c on =
    live_when (remade f row) (λ l h. elim (cases_eq l label) [
      | inl q ↦ (c, ap (λ m. holds (remade f row) m c) q ∙ on)
      | inr n ↦ (let b : l < length row = omega (arith, length_remade f row) in
          let r = live_at row l e b in (r.0, holds-remade f row l r.0 b r.1 ∙ ap (f l r.0) r.2 ∙ same l r.0 n))
    ])

pub live_more : (f : ℕ → ℕ → Bool → Bool) (row : Sets) → is_live row ≡ true → ((l c : ℕ) → f l c true ≡ true) → is_live (remade f row) ≡ true
live_more f row e same =
    live_when (remade f row) (λ l h.
    let b : l < length row = omega (arith, length_remade f row) in
    let r = live_at row l e b in
    (r.0, holds-remade f row l r.0 b r.1 ∙ ap (f l r.0) r.2 ∙ same l r.0))

-- rows that are empty

pub dead_remade : (f : ℕ → ℕ → Bool → Bool) (row : Sets) → 0 < length row → ((l c : ℕ) → f l c (holds row l c) ≡ false) → normalized (remade f row) ≡ emptied row
dead_remade f row h none =
    let first : length (get_or (remade f row) 0 []) ≡ length (get_or row 0 []) =
    count_at (remade f row) (map length row) 0 (shape_remade f 0 row) (omega (arith, length_remade f row)) ∙ sym (count_at row (map length row) 0 refl h) in
    let dead : is_live (remade f row) ≡ false =
    dead_when (remade f row) 0 (omega (arith, length_remade f row)) (λ c k. holds-remade f row 0 c h (omega (arith, first)) ∙ none 0 c) in
    rw dead (emptied_remade f row)

-- a row of which it is known whether it is live
pub settled_as : (live : Bool) (row : Sets) → is_live row ≡ live → shown live row ≡ normalized row
settled_as live row e = ap (λ b. cond b row (emptied row)) (sym e)

-- each row that is seen is settled
pub settled_shown : (live : Bool) (row : Sets) → (live ≡ true → is_live row ≡ true) → normalized (shown live row) ≡ shown live row
settled_shown true row known = ap (λ b. cond b row (emptied row)) (known refl)
settled_shown false row known = elim (is_live (emptied row)) as (λ b. cond b (emptied row) (emptied (emptied row)) ≡ emptied row) [ true ↦ refl | false ↦ emptied_twice row ]

-- an empty row stays empty

pub kept_empty : (label class : ℕ) (on : Bool) (row : Sets) → 0 < length row → emptied row ≡ kept label class on (emptied row)
kept_empty label class on row h = rw (emptied_dead row h) refl

pub set_empty : (label class : ℕ) (row : Sets) → 0 < length row → emptied row ≡ set_to label class (emptied row)
set_empty label class row h = rw (emptied_dead row h) refl

module _ (counts : List ℕ) (old : List Bool) (total : length old ≡ sum counts) where
  -- one class put in or taken out

  module _ (label class : ℕ) (on : Bool) (h : label < length counts) (k : class < get_or counts label 0) where
    at_set : (l c : ℕ) → l < length counts → c < get_or counts l 0 → get_or (set old (start counts label + class) on) (start counts l + c) false ≡ cond (eqb l label && eqb c class) on (get_or old (start counts l + c) false)
    at_set l c i j = elim (cases_eq l label) [
      | inl e ↦ (let a : eqb l label ≡ true = (Decides-eqb l label).1 e in elim (cases_eq c class) [
        | inl f ↦ (let b : eqb c class ≡ true = (Decides-eqb c class).1 f in
            let q : start counts l + c ≡ start counts label + class = ap (λ m. start counts m + c) e ∙ ap (λ d. start counts label + d) f in
            rw (a, b) (ap (λ n. get_or (set old (start counts label + class) on) n false) q ∙ get_or-set_same old (start counts label + class) on false (omega (arith, total, start_within counts label h))))
        | inr n ↦ (let b : eqb c class ≡ false = eqb-other c class n in
            let q : start counts l + c ≢ start counts label + class = λ q. n (omega (arith, q, ap (start counts) e)) in
            rw (a, b) (get_or-set_other old (start counts label + class) (start counts l + c) on false q))
      ])
      | inr n ↦ (let a : eqb l label ≡ false = eqb-other l label n in
          rw a (get_or-set_other old (start counts label + class) (start counts l + c) on false (apart counts l label c class n i h j k)))
    ]

    pub kept_cut : cut counts (set old (start counts label + class) on) ≡ remade (λ l c b. cond (eqb l label && eqb c class) on b) (cut counts old)
    kept_cut = cut_remade (λ l c b. cond (eqb l label && eqb c class) on b) counts old (set old (start counts label + class) on) (omega (arith, total)) (omega (arith, total, length-set old (start counts label + class) on)) at_set

    other_same : (l c : ℕ) → l ≢ label → cond (eqb l label && eqb c class) on true ≡ true
    other_same l c n = rw (eqb-other l label n) refl

    -- what was found of the label's bits
    pub kept_live : (live : Bool) → is_live (cut counts old) ≡ true
        → (live ≡ true → (b : ℕ) × (start counts label ≤ b) × (b < start counts label + get_or counts label 0) × (get_or (set old (start counts label + class) on) b false ≡ true))
        → (live ≡ false → (b : ℕ) → start counts label ≤ b → b < start counts label + get_or counts label 0 → get_or (set old (start counts label + class) on) b false ≡ false)
        → is_live (cut counts (set old (start counts label + class) on)) ≡ live
    kept_live true e some none =
        let r = found_class counts (set old (start counts label + class) on) label h (some refl) in
        ap is_live kept_cut ∙ live_remade (λ l c b. cond (eqb l label && eqb c class) on b) (cut counts old) label e other_same r.0 (sym (ap (λ x. holds x label r.0) kept_cut) ∙ r.1)
    kept_live false e some none = no_class counts (set old (start counts label + class) on) label (omega (arith, total, length-set old (start counts label + class) on)) h (none refl)

    pub kept_is : (live : Bool) → is_live (cut counts old) ≡ true → is_live (cut counts (set old (start counts label + class) on)) ≡ live
        → shown live (cut counts (set old (start counts label + class) on)) ≡ kept label class on (cut counts old)
    kept_is live e f =
        settled_as live (cut counts (set old (start counts label + class) on)) f ∙ ap normalized kept_cut
        ∙ sym (ap (λ b. cond b (normalized (remade (λ l c b. cond (eqb l label && eqb c class) on b) (cut counts old))) (cut counts old)) e)

  -- one class of a label alone

  module _ (label class : ℕ) (cleared : List Bool) (h : label < length counts) (k : class < get_or counts label 0) (len : length cleared ≡ length old)
      (inside : (b : ℕ) → start counts label ≤ b → b < start counts label + get_or counts label 0 → get_or cleared b false ≡ false)
      (below : (b : ℕ) → b < start counts label → get_or cleared b false ≡ get_or old b false)
      (above : (b : ℕ) → start counts label + get_or counts label 0 ≤ b → get_or cleared b false ≡ get_or old b false) where
    outside : (l c : ℕ) → l ≢ label → l < length counts → c < get_or counts l 0 → get_or cleared (start counts l + c) false ≡ get_or old (start counts l + c) false
    outside l c n i j = elim (cases_lt l label) [
      | inl b ↦ below (start counts l + c) (omega (arith, start_before counts l label b h))
      | inr b ↦ above (start counts l + c) (let q : label < l = omega (arith, b, n) in omega (arith, start_before counts label l q i))
    ]

    at_place : (l c : ℕ) → l < length counts → c < get_or counts l 0 → get_or (set cleared (start counts label + class) true) (start counts l + c) false ≡ cond (eqb label l) (eqb c class) (get_or old (start counts l + c) false)
    at_place l c i j = elim (cases_eq label l) [
      | inl e ↦ (let a : eqb label l ≡ true = (Decides-eqb label l).1 e in elim (cases_eq c class) [
        | inl f ↦ (let b : eqb c class ≡ true = (Decides-eqb c class).1 f in
            let q : start counts l + c ≡ start counts label + class = ap (λ m. start counts m + c) (sym e) ∙ ap (λ d. start counts label + d) f in
            rw (a, b) (ap (λ n. get_or (set cleared (start counts label + class) true) n false) q ∙ get_or-set_same cleared (start counts label + class) true false (omega (arith, len, total, start_within counts label h))))
        | inr n ↦ (let b : eqb c class ≡ false = eqb-other c class n in
            let q : start counts l + c ≢ start counts label + class = λ q. n (omega (arith, q, ap (start counts) e)) in
            rw (a, b) (get_or-set_other cleared (start counts label + class) (start counts l + c) true false q
            ∙ inside (start counts l + c) (omega (arith, ap (start counts) e)) (omega (arith, ap (start counts) e, ap (λ m. get_or counts m 0) e))))
      ])
      | inr n ↦ (let a : eqb label l ≡ false = eqb-other label l n in
          let m : l ≢ label = λ q. n (sym q) in
          rw a (get_or-set_other cleared (start counts label + class) (start counts l + c) true false (apart counts l label c class m i h j k) ∙ outside l c m i j))
    ]

    pub set_cut : cut counts (set cleared (start counts label + class) true) ≡ remade (λ l c b. cond (eqb label l) (eqb c class) b) (cut counts old)
    set_cut = cut_remade (λ l c b. cond (eqb label l) (eqb c class) b) counts old (set cleared (start counts label + class) true) (omega (arith, total)) (omega (arith, total, len, length-set cleared (start counts label + class) true)) at_place

    other_classes : (l c : ℕ) → l ≢ label → cond (eqb label l) (eqb c class) true ≡ true
    other_classes l c n = rw (eqb-other label l (λ q. n (sym q))) refl

    pub set_live : is_live (cut counts old) ≡ true → is_live (cut counts (set cleared (start counts label + class) true)) ≡ true
    set_live e =
        let on : holds (cut counts (set cleared (start counts label + class) true)) label class ≡ true =
        holds-cut counts (set cleared (start counts label + class) true) label class h k
        ∙ get_or-set_same cleared (start counts label + class) true false (omega (arith, len, total, start_within counts label h)) in
        ap is_live set_cut ∙ live_remade (λ l c b. cond (eqb label l) (eqb c class) b) (cut counts old) label e other_classes class (sym (ap (λ x. holds x label class) set_cut) ∙ on)

    pub set_is : is_live (cut counts old) ≡ true → cut counts (set cleared (start counts label + class) true) ≡ set_to label class (cut counts old)
    set_is e =
        settled_as true (cut counts (set cleared (start counts label + class) true)) (set_live e) ∙ ap normalized set_cut
        ∙ sym (ap (λ b. cond b (normalized (remade (λ l c b. cond (eqb label l) (eqb c class) b) (cut counts old))) (cut counts old)) e)

  -- with another row

  module _ (other new : List Bool) (same : length other ≡ sum counts) (len : length new ≡ length old) where
    module _ (bits : (k : ℕ) → k < length old → get_or new k false ≡ (get_or old k false || get_or other k false)) where
      pub joined_cut : cut counts new ≡ remade (λ l c b. b || holds (cut counts other) l c) (cut counts old)
      joined_cut =
          cut_remade (λ l c b. b || holds (cut counts other) l c) counts old new (omega (arith, total)) (omega (arith, total, len)) (λ l c h k.
          bits (start counts l + c) (omega (arith, total, start_within counts l h))
          ∙ ap (λ b. get_or old (start counts l + c) false || b) (sym (holds-cut counts other l c h k)))

      pub joined_live : is_live (cut counts old) ≡ true → is_live (cut counts new) ≡ true
      joined_live e = ap is_live joined_cut ∙ live_more (λ l c b. b || holds (cut counts other) l c) (cut counts old) e (λ l c. refl)

      pub joined_is : is_live (cut counts old) ≡ true → is_live (cut counts other) ≡ true → cut counts new ≡ join (cut counts old) (cut counts other)
      joined_is e f = rw (e, f) joined_cut

    module _ (bits : (k : ℕ) → k < length old → get_or new k false ≡ (get_or old k false && get_or other k false)) where
      pub met_cut : cut counts new ≡ remade (λ l c b. b && holds (cut counts other) l c) (cut counts old)
      met_cut =
          cut_remade (λ l c b. b && holds (cut counts other) l c) counts old new (omega (arith, total)) (omega (arith, total, len)) (λ l c h k.
          bits (start counts l + c) (omega (arith, total, start_within counts l h))
          ∙ ap (λ b. get_or old (start counts l + c) false && b) (sym (holds-cut counts other l c h k)))

      pub met_is : (live : Bool) → is_live (cut counts new) ≡ live → shown live (cut counts new) ≡ meet (cut counts old) (cut counts other)
      met_is live e = settled_as live (cut counts new) e ∙ ap normalized met_cut

-- with an empty row

pub union_right : (row other : Sets) → 0 < length row → other ≡ join (emptied row) other
union_right row other h = rw (emptied_dead row h) refl

pub union_left : (row other : Sets) → is_live row ≡ true → 0 < length other → row ≡ join row (emptied other)
union_left row other e h = rw (e, emptied_dead other h) refl

pub union_none : (row other : Sets) → 0 < length row → map length row ≡ map length other → emptied row ≡ join (emptied row) (emptied other)
union_none row other h e = rw (emptied_dead row h) (emptied_same row other e)

pub common_right : (row other : Sets) → 0 < length row → emptied row ≡ meet row (emptied other)
common_right row other h =
    sym (dead_remade (λ l c b. b && holds (emptied other) l c) row h (λ l c. ap (λ b. holds row l c && b) (emptied_holds other l c) ∙ and-false (holds row l c)))

pub common_left : (row other : Sets) → 0 < length row → emptied row ≡ meet (emptied row) other
common_left row other h =
    let n : 0 < length (emptied row) = omega (arith, label_in (emptied row) (map length row) (shape_emptied row), label_in row (map length row) refl) in
    sym (dead_remade (λ l c b. b && holds other l c) (emptied row) n (λ l c. ap (λ b. b && holds other l c) (emptied_holds row l c)) ∙ emptied_twice row)

-- bits that all become those of another list
pub all_taken : (old new other : List Bool) (to : ℕ) → to ≡ length old → length new ≡ length old → length old ≡ length other
    → ((k : ℕ) → 0 ≤ k → k < to → get_or new k false ≡ get_or other k false) → new ≡ other
all_taken old new other to e len same taken = ext_get_or false new other (len ∙ same) (λ k h. taken k (omega arith) (omega (arith, h, len, same, e)))

-- what a row is seen as

module _ (live : Bool) (counts : List ℕ) (bits : List Bool) (view : Sets) (is : shown live (cut counts bits) ≡ view) (total : length bits ≡ sum counts) where
  pub shape_view : map length view ≡ counts
  shape_view = ap (map length) (sym is) ∙ shape_shown live counts bits (omega (arith, total))

  pub label_within : (l : ℕ) → l < length view → l < length counts
  label_within l h = omega (arith, label_in view counts shape_view)

  pub class_within : (l c : ℕ) → l < length view → c < length (get_or view l []) → c < get_or counts l 0
  class_within l c h k = omega (arith, count_at view counts l shape_view h)

  pub place_within : (l c : ℕ) → l < length view → c < length (get_or view l []) → start counts l + c < length bits
  place_within l c h k = omega (arith, total, start_within counts l (label_within l h), class_within l c h k)

  pub held_view : (l c : ℕ) → live ≡ true → l < length view → c < length (get_or view l []) → get_or bits (start counts l + c) false ≡ holds view l c
  held_view l c e h k =
      sym (holds-cut counts bits l c (label_within l h) (class_within l c h k))
      ∙ ap (λ b. holds (shown b (cut counts bits)) l c) (sym e) ∙ ap (λ x. holds x l c) is

  pub none_view : (l c : ℕ) → live ≡ false → false ≡ holds view l c
  none_view l c e = sym (holds_shown live (cut counts bits) l c e) ∙ ap (λ x. holds x l c) is

  pub live_view : 0 < length counts → (live ≡ true → is_live (cut counts bits) ≡ true) → is_live view ≡ live
  live_view h known = ap is_live (sym is) ∙ by live refl
    where
      by : (b : Bool) → live ≡ b → is_live (shown b (cut counts bits)) ≡ b
      by true e = known e
      by false e = emptied_dead (cut counts bits) (omega (arith, length-cut counts bits))

-- the row after a class was put in or taken out, by what was found of the label's bits

pub kept_row : (live found : Bool) (counts : List ℕ) (bits new : List Bool) (view : Sets) (label class from to : ℕ) (on : Bool)
    → shown live (cut counts bits) ≡ view → length bits ≡ sum counts → live ≡ true → is_live (cut counts bits) ≡ true
    → label < length view → class < length (get_or view label []) → from ≡ start counts label → to ≡ start counts label + get_or counts label 0
    → new ≡ set bits (from + class) on
    → (found ≡ true → (k : ℕ) × (from ≤ k) × (k < to) × (get_or new k false ≡ true))
    → (found ≡ false → (k : ℕ) → from ≤ k → k < to → get_or new k false ≡ false)
    → (is_live (cut counts new) ≡ found) × (shown found (cut counts new) ≡ kept label class on view)
kept_row live found counts bits new view label class from to on is total e known h k f t n some none =
    let l = label_within live counts bits view is total label h in
    let d = class_within live counts bits view is total label class h k in
    let q : set bits (from + class) on ≡ set bits (start counts label + class) on = ap (λ x. set bits (x + class) on) f in
    let old : cut counts bits ≡ view = ap (λ b. shown b (cut counts bits)) (sym e) ∙ is in
    let m : new ≡ set bits (start counts label + class) on = n ∙ q in
    let found_is : is_live (cut counts (set bits (start counts label + class) on)) ≡ found =
    kept_live counts bits total label class on l d found known
    (λ y. let r = some y in (r.0, omega (arith, r.1, f), omega (arith, r.2, t), sym (ap (λ xs. get_or xs r.0 false) m) ∙ r.3))
    (λ y b i j. sym (ap (λ xs. get_or xs b false) m) ∙ none y b (omega (arith, i, f)) (omega (arith, j, t))) in (
      ap (λ xs. is_live (cut counts xs)) m ∙ found_is,
      ap (λ xs. shown found (cut counts xs)) m ∙ kept_is counts bits total label class on l d found known found_is ∙ ap (kept label class on) old,
    )

-- the row after all classes of a label but one were taken out

pub set_row : (live : Bool) (counts : List ℕ) (bits cleared new : List Bool) (view : Sets) (label class from to : ℕ)
    → shown live (cut counts bits) ≡ view → length bits ≡ sum counts → live ≡ true → is_live (cut counts bits) ≡ true
    → label < length view → class < length (get_or view label []) → from ≡ start counts label → to ≡ start counts label + get_or counts label 0
    → length cleared ≡ length bits
    → ((k : ℕ) → from ≤ k → k < to → get_or cleared k false ≡ false)
    → ((k : ℕ) → k < from → get_or cleared k false ≡ get_or bits k false)
    → ((k : ℕ) → to ≤ k → get_or cleared k false ≡ get_or bits k false)
    → new ≡ set cleared (from + class) true
    → (is_live (cut counts new) ≡ true) × (cut counts new ≡ set_to label class view)
set_row live counts bits cleared new view label class from to is total e known h k f t len inside below above n =
    let l = label_within live counts bits view is total label h in
    let d = class_within live counts bits view is total label class h k in
    let old : cut counts bits ≡ view = ap (λ b. shown b (cut counts bits)) (sym e) ∙ is in
    let m : new ≡ set cleared (start counts label + class) true = n ∙ ap (λ x. set cleared (x + class) true) f in
    let inside' : (b : ℕ) → start counts label ≤ b → b < start counts label + get_or counts label 0 → get_or cleared b false ≡ false = λ b i j. inside b (omega (arith, i, f)) (omega (arith, j, t)) in
    let below' : (b : ℕ) → b < start counts label → get_or cleared b false ≡ get_or bits b false = λ b i. below b (omega (arith, i, f)) in
    let above' : (b : ℕ) → start counts label + get_or counts label 0 ≤ b → get_or cleared b false ≡ get_or bits b false = λ b i. above b (omega (arith, i, t)) in (
      ap (λ xs. is_live (cut counts xs)) m ∙ set_live counts bits total label class cleared l d len inside' below' above' known,
      ap (cut counts) m ∙ set_is counts bits total label class cleared l d len inside' below' above' known ∙ ap (set_to label class) old,
    )

-- rows of one universe have one shape

module _ (live live' : Bool) (counts counts' : List ℕ) (bits bits' : List Bool) (view other : Sets) (is : shown live (cut counts bits) ≡ view) (is' : shown live' (cut counts' bits') ≡ other)
    (total : length bits ≡ sum counts) (total' : length bits' ≡ sum counts') (same : map length view ≡ map length other) where
  pub same_counts : counts ≡ counts'
  same_counts = sym (shape_view live counts bits view is total) ∙ same ∙ shape_view live' counts' bits' other is' total'

  pub same_total : length bits ≡ length bits'
  same_total = total ∙ ap sum same_counts ∙ sym total'

  other_cut : cut counts bits' ≡ cut counts' bits'
  other_cut = ap (λ ns. cut ns bits') same_counts

  first_cut : 0 < length counts → 0 < length (cut counts bits)
  first_cut h = omega (arith, h, length-cut counts bits)

  -- both aren't empty
  module _ (e : live ≡ true) (e' : live' ≡ true) where
    mine : cut counts bits ≡ view
    mine = ap (λ b. shown b (cut counts bits)) (sym e) ∙ is

    theirs : cut counts bits' ≡ other
    theirs = other_cut ∙ ap (λ b. shown b (cut counts' bits')) (sym e') ∙ is'

    pub joined_row : is_live (cut counts bits) ≡ true → is_live (cut counts' bits') ≡ true → (new : List Bool) → length new ≡ length bits
        → ((k : ℕ) → k < length bits → get_or new k false ≡ (get_or bits k false || get_or bits' k false))
        → (is_live (cut counts new) ≡ true) × (cut counts new ≡ join view other)
    joined_row known known' new len done =
        let t : length bits' ≡ sum counts = sym same_total ∙ total in (
          joined_live counts bits total bits' new t len done known,
          joined_is counts bits total bits' new t len done known (ap is_live other_cut ∙ known') ∙ ap (λ x. join x (cut counts bits')) mine ∙ ap (join view) theirs,
        )

    pub met_row : (found : Bool) (new : List Bool) → length new ≡ length bits
        → ((k : ℕ) → k < length bits → get_or new k false ≡ (get_or bits k false && get_or bits' k false))
        → is_live (cut counts new) ≡ found → shown found (cut counts new) ≡ meet view other
    met_row found new len done f =
        let t : length bits' ≡ sum counts = sym same_total ∙ total in
        met_is counts bits total bits' new t len done found f ∙ ap (λ x. meet x (cut counts bits')) mine ∙ ap (meet view) theirs

  -- one of them is empty

  pub joined_left : live ≡ true → live' ≡ false → 0 < length counts → is_live (cut counts bits) ≡ true → view ≡ join view other
  joined_left e f h known =
      let mine : cut counts bits ≡ view = ap (λ b. shown b (cut counts bits)) (sym e) ∙ is in
      let theirs : emptied (cut counts' bits') ≡ other = ap (λ b. shown b (cut counts' bits')) (sym f) ∙ is' in
      sym mine ∙ union_left (cut counts bits) (cut counts' bits') known (omega (arith, h, ap length same_counts, length-cut counts' bits')) ∙ ap (λ x. join x (emptied (cut counts' bits'))) mine ∙ ap (join view) theirs

  pub joined_none : live ≡ false → live' ≡ false → 0 < length counts → view ≡ join view other
  joined_none e f h =
      let mine : emptied (cut counts bits) ≡ view = ap (λ b. shown b (cut counts bits)) (sym e) ∙ is in
      let theirs : emptied (cut counts' bits') ≡ other = ap (λ b. shown b (cut counts' bits')) (sym f) ∙ is' in
      let shapes : map length (cut counts bits) ≡ map length (cut counts' bits') = shape_cut counts bits (omega (arith, total)) ∙ same_counts ∙ sym (shape_cut counts' bits' (omega (arith, total'))) in
      sym mine ∙ union_none (cut counts bits) (cut counts' bits') (first_cut h) shapes ∙ ap (λ x. join x (emptied (cut counts' bits'))) mine ∙ ap (join view) theirs

  pub joined_right : live ≡ false → live' ≡ true → 0 < length counts → is_live (cut counts' bits') ≡ true → (is_live (cut counts bits') ≡ true) × (cut counts bits' ≡ join view other)
  joined_right e f h known =
      let mine : emptied (cut counts bits) ≡ view = ap (λ b. shown b (cut counts bits)) (sym e) ∙ is in
      let theirs : cut counts bits' ≡ other = other_cut ∙ ap (λ b. shown b (cut counts' bits')) (sym f) ∙ is' in (
        ap is_live other_cut ∙ known,
        theirs ∙ union_right (cut counts bits) other (first_cut h) ∙ ap (λ x. join x other) mine,
      )

  pub met_right : live ≡ true → live' ≡ false → 0 < length counts → emptied (cut counts bits) ≡ meet view other
  met_right e f h =
      let mine : cut counts bits ≡ view = ap (λ b. shown b (cut counts bits)) (sym e) ∙ is in
      let theirs : emptied (cut counts' bits') ≡ other = ap (λ b. shown b (cut counts' bits')) (sym f) ∙ is' in
      common_right (cut counts bits) (cut counts' bits') (first_cut h) ∙ ap (λ x. meet x (emptied (cut counts' bits'))) mine ∙ ap (meet view) theirs

  pub met_left : live ≡ false → 0 < length counts → view ≡ meet view other
  met_left e h =
      let mine : emptied (cut counts bits) ≡ view = ap (λ b. shown b (cut counts bits)) (sym e) ∙ is in
      sym mine ∙ common_left (cut counts bits) other (first_cut h) ∙ ap (λ x. meet x other) mine

  pub joined_empty : live' ≡ false → 0 < length counts → (live ≡ true → is_live (cut counts bits) ≡ true) → view ≡ join view other
  joined_empty f h known = by live refl
    where
      by : (b : Bool) → live ≡ b → view ≡ join view other
      by true e = joined_left e f h (known e)
      by false e = joined_none e f h

-- a row of whose bits all are set, or none

module _ (on : Bool) (counts counts' : List ℕ) (bits : List Bool) (total : ℕ) (all : bits ≡ replicate total on) (same : counts' ≡ counts) (is : total ≡ sum counts) where
  alike : cut counts' bits ≡ map (λ n. replicate n on) counts
  alike = ap (λ ns. cut ns bits) same ∙ ap (cut counts) (all ∙ ap (λ t. replicate t on) is) ∙ full_cut counts on

  pub of_total : length bits ≡ sum counts'
  of_total = ap length all ∙ length-replicate total on ∙ is ∙ sym (ap sum same)

  pub of_full : on ≡ true → shown on (cut counts' bits) ≡ map (λ n. replicate n true) counts
  of_full e = ap (λ b. shown b (cut counts' bits)) e ∙ alike ∙ ap (λ b. map (λ n. replicate n b) counts) e

  pub of_none : on ≡ false → shown on (cut counts' bits) ≡ emptied (map (λ n. replicate n true) counts)
  of_none e = ap (λ b. shown b (cut counts' bits)) e ∙ empty_cut counts' bits true (omega (arith, of_total)) ∙ ap (λ ns. emptied (map (λ n. replicate n true) ns)) same

  pub of_live : ((l : ℕ) → l < length counts → 0 < get_or counts l 0) → on ≡ true → is_live (cut counts' bits) ≡ true
  of_live some e = ap is_live alike ∙ ap (λ b. is_live (map (λ n. replicate n b) counts)) e ∙ full_live counts some
