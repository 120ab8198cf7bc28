-- What a change of one label's classes makes of a row.
use Rattle.std.proofs.Common.{◌≡◌, ◌≢◌, ℕ, suc, ◌+◌, ◌-◌, ◌<◌, ◌≤◌, Bool, true, false, not, ◌&&◌, ◌||◌, cond, eqb, List, [], ◌∷◌, length, get_or, map, take, inl, inr, refl, sym, ◌∙◌, ap, subst, arith}
use Rattle.std.specs.List.{sum}
use Rattle.std.proofs.lemmas.Bool.{cases_eq, cases_lt, eq-eqb}
use Rattle.std.proofs.lemmas.List.Sums.{sum_by-cons}
use Rattle.lf_semantics.specs.ClassRows.{Sets, emptied, holds, is_live, narrowed, remade, replaced, set_to, normalized}
use Rattle.lf_semantics.specs.Environments.{Leq}
use Rattle.lf_semantics.proofs.Places.{eqb-other}
use Rattle.lf_semantics.proofs.RowLaws.{holds-remade, holds_within, shape_emptied, shape_remade}
use Rattle.lf_classes.specs.views.Cut.{cut, shown, start}
use Rattle.lf_semantics.proofs.RowSets.{count_at, dead_when, emptied_dead, emptied_holds, emptied_remade, emptied_twice, label_in, live_at, remade_same}
use Rattle.lf_classes.proofs.Cutting.{cut_remade, holds-cut, length-cut, shape_cut, start_before}
use Rattle.lf_classes.proofs.Changes.{class_within, dead_remade, label_within, live_remade, live_view, same_counts, same_total, settled_as, shape_view}
use Rattle.std.proofs.Math.Bool.{and-true, and-false}
use Rattle.lf_laws.proofs.Booleans.{clash}

-- the bits of one label are made anew, and those of the others are as they were
module _ (counts : List ℕ) (old new : List Bool) (label : ℕ) (f : ℕ → ℕ → Bool → Bool) (total : length old ≡ sum counts) (h : label < length counts) (len : length new ≡ length old)
    (inside : (c : ℕ) → c < get_or counts label 0 → get_or new (start counts label + c) false ≡ f label c (get_or old (start counts label + c) false))
    (below : (k : ℕ) → k < start counts label → get_or new k false ≡ get_or old k false)
    (above : (k : ℕ) → start counts label + get_or counts label 0 ≤ k → get_or new k false ≡ get_or old k false)
    (others : (l c : ℕ) (on : Bool) → l ≢ label → f l c on ≡ on) where
  elsewhere : (l c : ℕ) → l ≢ label → l < length counts → c < get_or counts l 0 → get_or new (start counts l + c) false ≡ get_or old (start counts l + c) false
  elsewhere l c n i j = elim (cases_lt l label) [
    | inl b ↦ below (start counts l + c) (omega (arith, start_before counts l label b h))
    | inr b ↦ above (start counts l + c) (let q : label < l = omega (arith, b, n) in omega (arith, start_before counts label l q i))
  ]

  changed_at : (l c : ℕ) → l < length counts → c < get_or counts l 0 → get_or new (start counts l + c) false ≡ f l c (get_or old (start counts l + c) false)
  changed_at l c i j = elim (cases_eq label l) [
    | inl e ↦ (let P : ℕ → Type 0 = λ m. c < get_or counts m 0 → get_or new (start counts m + c) false ≡ f m c (get_or old (start counts m + c) false) in subst P e (inside c) j)
    | inr n ↦ elsewhere l c (λ q. n (sym q)) i j ∙ sym (others l c (get_or old (start counts l + c) false) (λ q. n (sym q)))
  ]

  pub changed_cut : cut counts new ≡ remade f (cut counts old)
  changed_cut = cut_remade f counts old new (omega (arith, total)) (omega (arith, total, len)) changed_at

  pub changed_live : (live : Bool) → is_live (cut counts old) ≡ true
      → (live ≡ true → (c : ℕ) × (holds (cut counts new) label c ≡ true))
      → (live ≡ false → is_live (cut counts new) ≡ false)
      → is_live (cut counts new) ≡ live
  changed_live true e some none =
      let r = some refl in
      ap is_live changed_cut ∙ live_remade f (cut counts old) label e (λ l c n. others l c true n) r.0 (sym (ap (λ x. holds x label r.0) changed_cut) ∙ r.1)
  changed_live false e some none = none refl

  pub changed_is : (live : Bool) → is_live (cut counts new) ≡ live → shown live (cut counts new) ≡ normalized (remade f (cut counts old))
  changed_is live e = settled_as live (cut counts new) e ∙ ap normalized changed_cut

-- the row after a change, by whether the label has a class left
pub changed_row : (live left : Bool) (counts : List ℕ) (bits new : List Bool) (view : Sets) (label from to : ℕ) (f : ℕ → ℕ → Bool → Bool)
    → shown live (cut counts bits) ≡ view → length bits ≡ sum counts → live ≡ true → is_live (cut counts bits) ≡ true
    → label < length view → from ≡ start counts label → to ≡ start counts label + get_or counts label 0
    → length new ≡ length bits
    → ((c : ℕ) → c < get_or counts label 0 → get_or new (from + c) false ≡ f label c (get_or bits (from + c) false))
    → ((k : ℕ) → k < from → get_or new k false ≡ get_or bits k false)
    → ((k : ℕ) → to ≤ k → get_or new k false ≡ get_or bits k false)
    → ((l c : ℕ) (on : Bool) → l ≢ label → f l c on ≡ on)
    → (left ≡ true → (c : ℕ) × (holds (cut counts new) label c ≡ true))
    → (left ≡ false → is_live (cut counts new) ≡ false)
    → (is_live (cut counts new) ≡ left) × (shown left (cut counts new) ≡ normalized (remade f view))
changed_row live left counts bits new view label from to f is total e known h p q len inside below above others some none =
    let l = label_within live counts bits view is total label h in
    let old : cut counts bits ≡ view = ap (λ b. shown b (cut counts bits)) (sym e) ∙ is in
    let inside' : (c : ℕ) → c < get_or counts label 0 → get_or new (start counts label + c) false ≡ f label c (get_or bits (start counts label + c) false) =
    λ c i. sym (ap (λ x. get_or new (x + c) false) p) ∙ inside c i ∙ ap (λ x. f label c (get_or bits (x + c) false)) p in
    let below' : (k : ℕ) → k < start counts label → get_or new k false ≡ get_or bits k false = λ k i. below k (omega (arith, i, p)) in
    let above' : (k : ℕ) → start counts label + get_or counts label 0 ≤ k → get_or new k false ≡ get_or bits k false = λ k i. above k (omega (arith, i, q)) in
    let found : is_live (cut counts new) ≡ left = changed_live counts bits new label f total l len inside' below' above' others left known some none in
    (found, changed_is counts bits new label f total l len inside' below' above' others left found ∙ ap (λ x. normalized (remade f x)) old)

-- the four ways in which classes are made anew, at the label itself and at the others

abbrev pub narrowing : (ℕ → ℕ → Bool) → ℕ → ℕ → ℕ → Bool → Bool
narrowing test label l c on = on && (not (eqb label l) || test l c)

abbrev pub replacing : (ℕ → ℕ → Bool) → ℕ → ℕ → ℕ → Bool → Bool
replacing test label l c on = cond (eqb label l) (test l c) on

pub narrowing_here : (test : ℕ → ℕ → Bool) (label c : ℕ) (on : Bool) → narrowing test label label c on ≡ (on && test label c)
narrowing_here test label c on = ap (λ b. on && (not b || test label c)) (eq-eqb label label refl)

pub narrowing_there : (test : ℕ → ℕ → Bool) (label l c : ℕ) (on : Bool) → l ≢ label → narrowing test label l c on ≡ on
narrowing_there test label l c on n = ap (λ b. on && (not b || test l c)) (eqb-other label l (λ q. n (sym q))) ∙ and-true on

pub replacing_here : (test : ℕ → ℕ → Bool) (label c : ℕ) (on : Bool) → replacing test label label c on ≡ test label c
replacing_here test label c on = ap (λ b. cond b (test label c) on) (eq-eqb label label refl)

pub replacing_there : (test : ℕ → ℕ → Bool) (label l c : ℕ) (on : Bool) → l ≢ label → replacing test label l c on ≡ on
replacing_there test label l c on n = ap (λ b. cond b (test l c) on) (eqb-other label l (λ q. n (sym q)))

-- of an empty row

pub narrowed_empty : (test : ℕ → ℕ → Bool) (row : Sets) → 0 < length row → emptied row ≡ narrowed test (emptied row)
narrowed_empty test row h =
    let n : 0 < length (emptied row) = omega (arith, label_in (emptied row) (map length row) (shape_emptied row), label_in row (map length row) refl) in
    sym (dead_remade (λ l c on. on && test l c) (emptied row) n (λ l c. ap (λ b. b && test l c) (emptied_holds row l c)) ∙ emptied_twice row)

pub replaced_empty : (chosen : ℕ → Bool) (test : ℕ → ℕ → Bool) (row : Sets) → 0 < length row → emptied row ≡ replaced chosen test (emptied row)
replaced_empty chosen test row h = rw (emptied_dead row h) refl

-- rows that become empty

pub emptied_view : (live : Bool) (row : Sets) → emptied row ≡ emptied (shown live row)
emptied_view true row = refl
emptied_view false row = sym (emptied_twice row)

-- a label loses its last class
pub emptied_label : (f : ℕ → ℕ → Bool → Bool) (row : Sets) (label : ℕ) → label < length row → ((c : ℕ) → f label c (holds row label c) ≡ false) → emptied row ≡ normalized (remade f row)
emptied_label f row label h none =
    let i : label < length (remade f row) = omega (arith, h, label_in (remade f row) (map length row) (shape_remade f 0 row), label_in row (map length row) refl) in
    let same : length (get_or (remade f row) label []) ≡ length (get_or row label []) =
    count_at (remade f row) (map length row) label (shape_remade f 0 row) i ∙ sym (count_at row (map length row) label refl h) in
    let dead : is_live (remade f row) ≡ false = dead_when (remade f row) label i (λ c k. holds-remade f row label c h (omega (arith, same)) ∙ none c) in
    sym (rw dead (emptied_remade f row))

pub replaced_live : (test : ℕ → ℕ → Bool) (label : ℕ) (row : Sets) → is_live row ≡ true → normalized (remade (replacing test label) row) ≡ replaced (λ l. eqb label l) test row
replaced_live test label row e = sym (ap (λ b. cond b (normalized (remade (replacing test label) row)) row) e)

-- with a row of the same shape

module _ (live : Bool) (counts : List ℕ) (bits : List Bool) (view : Sets) (is : shown live (cut counts bits) ≡ view) (total : length bits ≡ sum counts) where
  -- what a label has in a row that isn't empty, of the bits
  pub class_bit : (l c : ℕ) → live ≡ true → l < length counts → c < get_or counts l 0 → get_or bits (start counts l + c) false ≡ holds view l c
  class_bit l c e h k = sym (holds-cut counts bits l c h k) ∙ ap (λ b. holds (shown b (cut counts bits)) l c) (sym e) ∙ ap (λ x. holds x l c) is

  -- a row that isn't empty has a class of each label
  pub some_bit : (l : ℕ) → is_live (cut counts bits) ≡ true → l < length counts → (c : ℕ) × (c < get_or counts l 0) × (get_or bits (start counts l + c) false ≡ true)
  some_bit l known h =
      let i : l < length (cut counts bits) = omega (arith, h, length-cut counts bits) in
      let r = live_at (cut counts bits) l known i in
      let k : r.0 < get_or counts l 0 = omega (arith, r.1, count_at (cut counts bits) counts l (shape_cut counts bits (omega (arith, total))) i) in
      (r.0, k, sym (holds-cut counts bits l r.0 h k) ∙ r.2)

-- the class whose bit stands at a place
pub class_of_place : (counts : List ℕ) (k : ℕ) → k < sum counts → (l : ℕ) × (c : ℕ) × (l < length counts) × (c < get_or counts l 0) × (start counts l + c ≡ k)
class_of_place [] k h = absurd (omega arith)
class_of_place (n ∷ counts) k h = elim (cases_lt k n) [
  | inl b ↦ (0, k, omega arith, b, omega arith)
  | inr b ↦ (let r = class_of_place counts (k - n) (omega (arith, b, sum_by-cons (λ x. x) n counts)) in
      (suc r.0, r.1, omega (arith, r.2), r.3, omega (arith, b, r.4, sum_by-cons (λ x. x) n (take r.0 counts))))
]

-- whether a row lies under another of the same shape

module _ (live live' : Bool) (counts counts' : List ℕ) (bits bits' : List Bool) (view other : Sets) (is : shown live (cut counts bits) ≡ view) (is' : shown live' (cut counts' bits') ≡ other)
    (total : length bits ≡ sum counts) (total' : length bits' ≡ sum counts') (same : counts ≡ counts') (e : live ≡ true) (e' : live' ≡ true) where
  theirs : shown live' (cut counts bits') ≡ other
  theirs = ap (λ ns. shown live' (cut ns bits')) same ∙ is'

  theirs_total : length bits' ≡ sum counts
  theirs_total = total' ∙ ap sum (sym same)

  pub under_bits : 0 < length counts → is_live (cut counts bits) ≡ true → ((k : ℕ) → get_or bits' k false ≡ true → get_or bits k false ≡ true) → Leq other view
  under_bits some known all live_other = (
    live_view live counts bits view is total some (λ f. known) ∙ e,
    λ l c on.
        let w = holds_within other l c on in
        let h : l < length counts = label_within live' counts bits' other theirs theirs_total l w.0 in
        let k : c < get_or counts l 0 = class_within live' counts bits' other theirs theirs_total l c w.0 w.1 in
        sym (class_bit live counts bits view is total l c e h k) ∙ all (start counts l + c) (class_bit live' counts bits' other theirs theirs_total l c e' h k ∙ on),
  )

  pub not_under : (k : ℕ) × (k < length bits') × (get_or bits' k false ≡ true) × (get_or bits k false ≡ false) → is_live other ≡ true → Leq other view → ⊥
  not_under r live_other under =
      let p = class_of_place counts r.0 (omega (arith, r.1, theirs_total)) in
      let on : holds other p.0 p.1 ≡ true = sym (class_bit live' counts bits' other theirs theirs_total p.0 p.1 e' p.2 p.3) ∙ ap (λ k. get_or bits' k false) p.4 ∙ r.2 in
      let off : holds view p.0 p.1 ≡ false = sym (class_bit live counts bits view is total p.0 p.1 e p.2 p.3) ∙ ap (λ k. get_or bits k false) p.4 ∙ r.3 in
      clash (holds view p.0 p.1) ((under live_other).1 p.0 p.1 on) off

-- the row after a label's classes are narrowed or replaced, as it is seen

module _ (left : Bool) (counts : List ℕ) (bits new : List Bool) (view : Sets) (label from to : ℕ) (test : ℕ → ℕ → Bool)
    (is : shown true (cut counts bits) ≡ view) (total : length bits ≡ sum counts) (known : is_live (cut counts bits) ≡ true)
    (h : label < length view) (p : from ≡ start counts label) (q : to ≡ start counts label + get_or counts label 0) (len : length new ≡ length bits)
    (below : (k : ℕ) → k < from → get_or new k false ≡ get_or bits k false)
    (above : (k : ℕ) → to ≤ k → get_or new k false ≡ get_or bits k false)
    (some : left ≡ true → (c : ℕ) × (holds (cut counts new) label c ≡ true))
    (none : left ≡ false → is_live (cut counts new) ≡ false) where
  pub narrowed_row : ((c : ℕ) → c < get_or counts label 0 → get_or new (from + c) false ≡ (get_or bits (from + c) false && test label c))
      → (is_live (cut counts new) ≡ left) × (shown left (cut counts new) ≡ narrowed (λ l c. not (eqb label l) || test l c) view)
  narrowed_row inside =
      changed_row true left counts bits new view label from to (narrowing test label) is total refl known h p q len
      (λ c i. inside c i ∙ sym (narrowing_here test label c (get_or bits (from + c) false))) below above (narrowing_there test label) some none

  pub replaced_row : ((c : ℕ) → c < get_or counts label 0 → get_or new (from + c) false ≡ test label c)
      → (is_live (cut counts new) ≡ left) × (shown left (cut counts new) ≡ replaced (λ l. eqb label l) test view)
  replaced_row inside =
      let live : is_live view ≡ true = ap is_live (sym is) ∙ known in
      let r = changed_row true left counts bits new view label from to (replacing test label) is total refl known h p q len
      (λ c i. inside c i ∙ sym (replacing_here test label c (get_or bits (from + c) false))) below above (replacing_there test label) some none in
      (r.0, r.1 ∙ replaced_live test label view live)

-- from or into a row that is empty

module _ (counts : List ℕ) (bits : List Bool) (view : Sets) (label : ℕ) (test : ℕ → ℕ → Bool) (total : length bits ≡ sum counts) where
  pub narrowed_dead : shown false (cut counts bits) ≡ view → 0 < length counts → view ≡ narrowed (λ l c. not (eqb label l) || test l c) view
  narrowed_dead is some =
      sym is ∙ narrowed_empty (λ l c. not (eqb label l) || test l c) (cut counts bits) (omega (arith, some, length-cut counts bits)) ∙ ap (narrowed (λ l c. not (eqb label l) || test l c)) is

  pub replaced_dead : shown false (cut counts bits) ≡ view → 0 < length counts → view ≡ replaced (λ l. eqb label l) test view
  replaced_dead is some =
      sym is ∙ replaced_empty (λ l. eqb label l) test (cut counts bits) (omega (arith, some, length-cut counts bits)) ∙ ap (replaced (λ l. eqb label l) test) is

  -- nothing passes at the label
  pub narrowed_out : shown true (cut counts bits) ≡ view → label < length view → ((c : ℕ) → test label c ≡ false) → emptied (cut counts bits) ≡ narrowed (λ l c. not (eqb label l) || test l c) view
  narrowed_out is h out =
      ap emptied is ∙ emptied_label (narrowing test label) view label h (λ c. narrowing_here test label c (holds view label c) ∙ off (holds view label c) (test label c) (out c))
    where
      off : (a b : Bool) → b ≡ false → (a && b) ≡ false
      off true b e = e
      off false b e = refl

  pub replaced_out : shown true (cut counts bits) ≡ view → is_live (cut counts bits) ≡ true → label < length view → ((c : ℕ) → test label c ≡ false) → emptied (cut counts bits) ≡ replaced (λ l. eqb label l) test view
  replaced_out is known h out =
      let live : is_live view ≡ true = ap is_live (sym is) ∙ known in
      ap emptied is ∙ emptied_label (replacing test label) view label h (λ c. replacing_here test label c (holds view label c) ∙ out c) ∙ replaced_live test label view live

-- what a row that is empty has
pub empty_holds : (counts : List ℕ) (bits : List Bool) (view : Sets) → shown false (cut counts bits) ≡ view → (l c : ℕ) → holds view l c ≡ false
empty_holds counts bits view is l c = ap (λ x. holds x l c) (sym is) ∙ emptied_holds (cut counts bits) l c

-- the other row has a class of the label, which is taken
pub taken_class : (counts : List ℕ) (other new : List Bool) (label from to : ℕ) → length other ≡ sum counts → length new ≡ length other → is_live (cut counts other) ≡ true → label < length counts
    → from ≡ start counts label → to ≡ start counts label + get_or counts label 0
    → ((k : ℕ) → from ≤ k → k < to → get_or new k false ≡ get_or other k false) → (c : ℕ) × (holds (cut counts new) label c ≡ true)
taken_class counts other new label from to total len known h p q inside =
    let r = some_bit true counts other (cut counts other) refl total label known h in
    (r.0, holds-cut counts new label r.0 h r.1 ∙ inside (start counts label + r.0) (omega (arith, p)) (omega (arith, q, r.1)) ∙ r.2)

-- with another row of the shape

module _ (live live' : Bool) (counts counts' : List ℕ) (bits bits' : List Bool) (view other : Sets) (is : shown live (cut counts bits) ≡ view) (is' : shown live' (cut counts' bits') ≡ other)
    (total : length bits ≡ sum counts) (total' : length bits' ≡ sum counts') (same : map length view ≡ map length other) (label from to : ℕ) (h : label < length view)
    (p : from ≡ start counts label) (q : to ≡ start counts label + get_or counts label 0) (e : live ≡ true) where
  counts_are : counts ≡ counts'
  counts_are = same_counts live live' counts counts' bits bits' view other is is' total total' same

  totals : length bits ≡ length bits'
  totals = same_total live live' counts counts' bits bits' view other is is' total total' same

  within : label < length counts
  within = label_within live counts bits view is total label h

  mine : shown true (cut counts bits) ≡ view
  mine = ap (λ b. shown b (cut counts bits)) (sym e) ∙ is

  -- the other isn't empty
  module _ (e' : live' ≡ true) (left : Bool) (new : List Bool) (known : is_live (cut counts bits) ≡ true) (len : length new ≡ length bits)
      (below : (k : ℕ) → k < from → get_or new k false ≡ get_or bits k false)
      (above : (k : ℕ) → to ≤ k → get_or new k false ≡ get_or bits k false) where
    other_bit : (c : ℕ) → c < get_or counts label 0 → get_or bits' (from + c) false ≡ holds other label c
    other_bit c i =
        ap (λ x. get_or bits' (x + c) false) p
        ∙ class_bit live' counts bits' other (ap (λ ns. shown live' (cut ns bits')) counts_are ∙ is') (total' ∙ ap sum (sym counts_are)) label c e' within i

    pub met_label : ((k : ℕ) → from ≤ k → k < to → get_or new k false ≡ (get_or bits k false && get_or bits' k false))
        → (left ≡ true → (c : ℕ) × (holds (cut counts new) label c ≡ true)) → (left ≡ false → is_live (cut counts new) ≡ false)
        → (is_live (cut counts new) ≡ left) × (shown left (cut counts new) ≡ narrowed (λ l c. not (eqb label l) || holds other l c) view)
    met_label inside some none =
        narrowed_row left counts bits new view label from to (holds other) mine total known h p q len below above some none
        (λ c i. inside (from + c) (omega arith) (omega (arith, p, q, i)) ∙ ap (λ b. get_or bits (from + c) false && b) (other_bit c i))

    pub taken_label : is_live (cut counts' bits') ≡ true → left ≡ true → ((k : ℕ) → from ≤ k → k < to → get_or new k false ≡ get_or bits' k false)
        → (is_live (cut counts new) ≡ left) × (shown left (cut counts new) ≡ replaced (λ l. eqb label l) (holds other) view)
    taken_label known' stays inside =
        replaced_row left counts bits new view label from to (holds other) mine total known h p q len below above
        (λ f. taken_class counts bits' new label from to (total' ∙ ap sum (sym counts_are)) (len ∙ totals) (ap (λ ns. is_live (cut ns bits')) counts_are ∙ known') within p q inside)
        (λ f. absurd (let clash : true ≡ false = sym stays ∙ f in cc))
        (λ c i. inside (from + c) (omega arith) (omega (arith, p, q, i)) ∙ other_bit c i)

-- by a list of the label's classes

module _ (left : Bool) (counts : List ℕ) (bits new : List Bool) (view : Sets) (label from : ℕ) (on : List Bool)
    (is : shown true (cut counts bits) ≡ view) (total : length bits ≡ sum counts) (known : is_live (cut counts bits) ≡ true)
    (h : label < length view) (p : from ≡ start counts label) (n : length on ≡ length (get_or view label [])) (len : length new ≡ length bits)
    (below : (k : ℕ) → k < from → get_or new k false ≡ get_or bits k false)
    (above : (k : ℕ) → from + length on ≤ k → get_or new k false ≡ get_or bits k false)
    (some : left ≡ true → (c : ℕ) × (holds (cut counts new) label c ≡ true))
    (none : left ≡ false → is_live (cut counts new) ≡ false) where
  -- as many as the label has
  count : length on ≡ get_or counts label 0
  count = n ∙ count_at view counts label (shape_view true counts bits view is total) h

  pub listed_narrowed : ((c : ℕ) → c < length on → get_or new (from + c) false ≡ (get_or bits (from + c) false && get_or on c false))
      → (is_live (cut counts new) ≡ left) × (shown left (cut counts new) ≡ narrowed (λ l c. not (eqb label l) || get_or on c false) view)
  listed_narrowed inside =
      narrowed_row left counts bits new view label from (from + length on) (λ l c. get_or on c false) is total known h p (omega (arith, p, count)) len below above some none
      (λ c i. inside c (omega (arith, i, count)))

  pub listed_replaced : ((c : ℕ) → c < length on → get_or new (from + c) false ≡ get_or on c false)
      → (is_live (cut counts new) ≡ left) × (shown left (cut counts new) ≡ replaced (λ l. eqb label l) (λ l c. get_or on c false) view)
  listed_replaced inside =
      replaced_row left counts bits new view label from (from + length on) (λ l c. get_or on c false) is total known h p (omega (arith, p, count)) len below above some none
      (λ c i. inside c (omega (arith, i, count)))

-- of the classes that a label has one alone is left

module _ (row : Sets) (label class : ℕ) where
  abbrev alone : ℕ → ℕ → Bool
  alone l c = eqb c class

  same_here : (c : ℕ) → holds row label class ≡ true → eqb c class ≡ (holds row label c && eqb c class)
  same_here c on = elim (cases_eq c class) [
    | inl e ↦ ap (λ b. b && eqb c class) (sym (ap (holds row label) e ∙ on))
    | inr n ↦ (let q : eqb c class ≡ false = eqb-other c class n in q ∙ sym (ap (λ b. holds row label c && b) q ∙ and-false (holds row label c)))
  ]

  off_here : (c : ℕ) → holds row label class ≡ false → (holds row label c && eqb c class) ≡ false
  off_here c off = elim (cases_eq c class) [
    | inl e ↦ ap (λ b. b && eqb c class) (ap (holds row label) e ∙ off)
    | inr n ↦ ap (λ b. holds row label c && b) (eqb-other c class n) ∙ and-false (holds row label c)
  ]

  same_class : holds row label class ≡ true → (l c : ℕ) → replacing alone label l c (holds row l c) ≡ narrowing alone label l c (holds row l c)
  same_class on l c = elim (cases_eq label l) [
    | inl e ↦
        let P : ℕ → Type 0 = λ m. replacing alone label m c (holds row m c) ≡ narrowing alone label m c (holds row m c) in
        subst P e (replacing_here alone label c (holds row label c) ∙ same_here c on ∙ sym (narrowing_here alone label c (holds row label c)))
    | inr n ↦
        let m : l ≢ label = λ q. n (sym q) in
        replacing_there alone label l c (holds row l c) m ∙ sym (narrowing_there alone label l c (holds row l c) m)
  ]

  -- the class that it has
  pub class_alone : is_live row ≡ true → holds row label class ≡ true → set_to label class row ≡ narrowed (λ l c. not (eqb label l) || eqb c class) row
  class_alone live on = sym (replaced_live alone label row live) ∙ ap normalized (remade_same (replacing alone label) (narrowing alone label) row (λ l c h k. same_class on l c))

  -- and one that it hasn't
  pub class_lacked : label < length row → holds row label class ≡ false → emptied row ≡ narrowed (λ l c. not (eqb label l) || eqb c class) row
  class_lacked h off = emptied_label (narrowing alone label) row label h (λ c. narrowing_here alone label c (holds row label c) ∙ off_here c off)

-- a label has every class

pub label_filled : (live : Bool) (counts : List ℕ) (bits new : List Bool) (view : Sets) (label from to : ℕ)
    → live ≡ true → shown live (cut counts bits) ≡ view → length bits ≡ sum counts → is_live (cut counts bits) ≡ true
    → label < length view → from ≡ start counts label → to ≡ start counts label + get_or counts label 0
    → length new ≡ length bits
    → ((k : ℕ) → from ≤ k → k < to → get_or new k false ≡ true)
    → ((k : ℕ) → k < from → get_or new k false ≡ get_or bits k false)
    → ((k : ℕ) → to ≤ k → get_or new k false ≡ get_or bits k false)
    → (is_live (cut counts new) ≡ live) × (shown live (cut counts new) ≡ replaced (λ l. eqb label l) (λ l c. true) view)
label_filled live counts bits new view label from to e is total known h p q len inside below above =
    let l : label < length counts = label_within live counts bits view is total label h in
    let r = some_bit live counts bits view is total label known l in
    replaced_row live counts bits new view label from to (λ m c. true) (ap (λ b. shown b (cut counts bits)) (sym e) ∙ is) total known h p q len below above
    (λ f. (r.0, holds-cut counts new label r.0 l r.1 ∙ inside (start counts label + r.0) (omega (arith, p)) (omega (arith, q, r.1))))
    (λ f. absurd (let clash : true ≡ false = sym e ∙ f in cc))
    (λ c i. inside (from + c) (omega arith) (omega (arith, p, q, i)))
