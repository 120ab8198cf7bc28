-- Reading a block scalar's header is the definition, in both directions, and what it stops at is the first wrong character.
use Rattle.std.proofs.Common.{◌≡◌, ℕ, suc, ◌-◌, Bool, true, false, eqb, List, [], ◌∷◌, ◌++◌, Option, Some, None, Ok, Err, refl, ap, arith, sym, ◌∙◌, subst, ◌⊎◌, inl, inr}
use Rattle.std.proofs.lemmas.Bool.{ne_eqb, cases_Bool}
use Rattle.std.proofs.lemmas.Bool.Decides.{eqb_tells, leb_tells}
use Rattle.lf_scalar.specs.declared.block.Chomp.{Chomp}
use Rattle.lf_scalar.specs.declared.block.Chomp.TheVariants.{Strip, Clip, Keep}
use Rattle.lf_scalar.specs.Cells.{Cell}
use Rattle.lf_scalar.specs.Lines.{is_blank, is_tail}
use Rattle.lf_scalar.specs.Block.{IsChomp, IsDigit, AreMarks, IsHeader, WrongIn}
use Rattle.lf_scalar.specs.reading.Quoted.{wrong_behind}
use Rattle.lf_scalar.specs.reading.Block.{chomp_of, mark_digit, chomp_or, Header, ends_header, once, header_from}
use Rattle.lf_scalar.proofs.Tails.{true-false, tail-told, told-tail, wrong-told, told-wrong}

-- ---- what a cell is

sign-told : (c : Cell) (chomp : Chomp) → IsChomp c chomp → chomp_of c.byte ≡ Some chomp
sign-told c Strip h = rw h refl
sign-told c Clip h = absurd h
sign-told c Keep h = rw h refl

digit-told : (c : Cell) (d : ℕ) → IsDigit c d → (chomp_of c.byte ≡ None) × (mark_digit c.byte ≡ Some d)
digit-told c d h =
    let a : eqb c.byte 45 ≡ false = ne_eqb c.byte 45 (λ e. omega (arith, h.0, h.2)) in
    let b : eqb c.byte 43 ≡ false = ne_eqb c.byte 43 (λ e. omega (arith, h.0, h.2)) in
    let m : c.byte - 48 ≡ d = omega (arith, h.2) in (
      rw (a, b) refl,
      elim (leb_tells (suc c.byte) 49) [
        | inl l ↦ absurd (omega (arith, l.1, h.0, h.2))
        | inr l ↦ elim (leb_tells (suc c.byte) 58) [ inl k ↦ rw (l.0, k.0, m) refl | inr k ↦ absurd (omega (arith, k.1, h.1, h.2)) ]
      ],
    )

blank-told : (c : Cell) → is_blank c ≡ true → (chomp_of c.byte ≡ None) × (mark_digit c.byte ≡ None)
blank-told c h =
    elim (eqb_tells c.byte 32) [
      | inl a ↦ (rw a.1 refl, rw a.1 refl)
      | inr a ↦ elim (eqb_tells c.byte 9) [ inl b ↦ (rw b.1 refl, rw b.1 refl) | inr b ↦ true-false (is_blank c) h (rw (a.0, b.0) refl) ]
    ]

-- `-` or `+`, a digit, or neither
pub data Mark (c : Cell) : Type 0 where
  sign : (chomp : Chomp) → IsChomp c chomp → Mark c
  numeral : (d : ℕ) → IsDigit c d → Mark c
  neither : chomp_of c.byte ≡ None → mark_digit c.byte ≡ None → Mark c

pub mark : (c : Cell) → Mark c
mark c =
    elim (eqb_tells c.byte 45) [
      | inl a ↦ sign Strip a.1
      | inr a ↦ elim (eqb_tells c.byte 43) [
        | inl b ↦ sign Keep b.1
        | inr b ↦ elim (leb_tells (suc c.byte) 49) [
          | inl l ↦ neither (rw (a.0, b.0) refl) (rw l.0 refl)
          | inr l ↦ elim (leb_tells (suc c.byte) 58) [
            | inl k ↦ numeral (c.byte - 48) (omega (arith, l.1), omega (arith, k.1), omega (arith, l.1))
            | inr k ↦ neither (rw (a.0, b.0) refl) (rw (l.0, k.0) refl)
          ]
        ]
      ]
    ]

-- ---- one step of reading

pub step-sign : (s : Option Chomp) (d : Option ℕ) (c : Cell) (cs : List Cell) (chomp : Chomp) → IsChomp c chomp → header_from s d (c ∷ cs) ≡ once c s (header_from (Some chomp) d cs)
unfolding header_from
step-sign s d c cs chomp h = rw (sign-told c chomp h) refl

pub step-digit : (s : Option Chomp) (d : Option ℕ) (c : Cell) (cs : List Cell) (n : ℕ) → IsDigit c n → header_from s d (c ∷ cs) ≡ once c d (header_from s (Some n) cs)
unfolding header_from
step-digit s d c cs n h = let t = digit-told c n h in rw (t.0, t.1) refl

pub step-end : (s : Option Chomp) (d : Option ℕ) (c : Cell) (cs : List Cell) → chomp_of c.byte ≡ None → mark_digit c.byte ≡ None → header_from s d (c ∷ cs) ≡ ends_header s d (wrong_behind false (c ∷ cs))
unfolding header_from
step-end s d c cs p q = rw (p, q) refl

pub step-nil : (s : Option Chomp) (d : Option ℕ) → header_from s d [] ≡ Ok (chomp_or s, d)
unfolding header_from
step-nil s d = refl

-- ---- what the definition has is read

first-blank : (c : Cell) (cs : List Cell) → is_tail false (c ∷ cs) ≡ true → is_blank c ≡ true
first-blank c cs h = by (is_blank c) refl
  where
    by : (b : Bool) → is_blank c ≡ b → is_blank c ≡ true
    by true e = e
    by false e = true-false (is_tail false (c ∷ cs)) h (rw e refl)

tail-read : (s : Option Chomp) (d : Option ℕ) (tail : List Cell) → is_tail false tail ≡ true → header_from s d tail ≡ Ok (chomp_or s, d)
tail-read s d [] h = step-nil s d
tail-read s d (c ∷ cs) h = let b = blank-told c (first-blank c cs h) in step-end s d c cs b.0 b.1 ∙ ap (ends_header s d) (tail-told false (c ∷ cs) h)

marks-read : (marks tail : List Cell) (chomp : Chomp) (digit : Option ℕ) → AreMarks marks chomp digit → is_tail false tail ≡ true → header_from None None (marks ++ tail) ≡ Ok (chomp, digit)
marks-read [] tail Strip digit h t = absurd h
marks-read [] tail Clip None h t = tail-read None None tail t
marks-read [] tail Clip (Some d) h t = absurd h
marks-read [] tail Keep digit h t = absurd h
marks-read (c ∷ []) tail chomp None h t = step-sign None None c tail chomp h ∙ tail-read (Some chomp) None tail t
marks-read (c ∷ []) tail Strip (Some d) h t = absurd h
marks-read (c ∷ []) tail Clip (Some d) h t = step-digit None None c tail d h ∙ tail-read None (Some d) tail t
marks-read (c ∷ []) tail Keep (Some d) h t = absurd h
marks-read (c ∷ e ∷ []) tail chomp None h t = absurd h
marks-read (c ∷ e ∷ []) tail chomp (Some d) (inl h) t = step-sign None None c (e ∷ tail) chomp h.0 ∙ step-digit (Some chomp) None e tail d h.1 ∙ tail-read (Some chomp) (Some d) tail t
marks-read (c ∷ e ∷ []) tail chomp (Some d) (inr h) t = step-digit None None c (e ∷ tail) d h.0 ∙ step-sign None (Some d) e tail chomp h.1 ∙ tail-read (Some chomp) (Some d) tail t
marks-read (c ∷ e ∷ f ∷ cs) tail chomp digit h t = absurd h

pub header-again : (header : List Cell) (chomp : Chomp) (digit : Option ℕ) → IsHeader header chomp digit → header_from None None header ≡ Ok (chomp, digit)
header-again header chomp digit h = ap (header_from None None) h.source ∙ marks-read h.marks h.tail chomp digit h.are_marks h.is_tail

-- ---- what is read is in the definition

abbrev Got : Type 0
Got = Chomp × Option ℕ

abbrev got : Got → Header
got x = Ok x

abbrev wrong : Cell → Header
wrong c = Err c

got-is : (x y : Got) → got x ≡ got y → x ≡ y
got-is x y e = cc

wrong-is : (c d : Cell) → wrong c ≡ wrong d → c ≡ d
wrong-is c d e = cc

got-wrong : {X : Type 0} (x : Got) (c : Cell) → got x ≡ wrong c → X
got-wrong x c e = absurd cc

-- marks that set what isn't set yet
abbrev Sets : Option Chomp → Option ℕ → List Cell → Got → Type 0
Sets s d [] x = x ≡ (chomp_or s, d)
Sets s d (c ∷ cs) x = ((chomp : Chomp) × (s ≡ None) × IsChomp c chomp × Sets (Some chomp) d cs x) ⊎ ((n : ℕ) × (d ≡ None) × IsDigit c n × Sets s (Some n) cs x)

record Marked (s : Option Chomp) (d : Option ℕ) (cs : List Cell) (x : Got) : Type 0 where
  marks : List Cell
  tail : List Cell
  source : cs ≡ marks ++ tail
  sets : Sets s d marks x
  is_tail : is_tail false tail ≡ true

once-none : {X : Type 0} (c : Cell) (o : Option X) (later : Header) (x : Got) → once c o later ≡ got x → (o ≡ None) × (later ≡ got x)
once-none c None later x e = (refl, e)
once-none c (Some y) later x e = got-wrong x c (sym e)

ended-none : (s : Option Chomp) (d : Option ℕ) (o : Option Cell) (x : Got) → ends_header s d o ≡ got x → (o ≡ None) × (x ≡ (chomp_or s, d))
ended-none s d None x e = (refl, sym (got-is (chomp_or s, d) x e))
ended-none s d (Some w) x e = got-wrong x w (sym e)

marked : (s : Option Chomp) (d : Option ℕ) (cs : List Cell) (x : Got) → header_from s d cs ≡ got x → Marked s d cs x
marked s d [] x e = record { marks = []; tail = []; source = refl; sets = sym (got-is (chomp_or s, d) x (sym (step-nil s d) ∙ e)); is_tail = refl }
marked s d (c ∷ cs) x e =
    elim (mark c) [
      | sign chomp h ↦
          let o = once-none c s (header_from (Some chomp) d cs) x (sym (step-sign s d c cs chomp h) ∙ e) in
          let m = marked (Some chomp) d cs x o.1 in
          record { marks = c ∷ m.marks; tail = m.tail; source = ap (λ (y : List Cell). c ∷ y) m.source; sets = inl (chomp, o.0, h, m.sets); is_tail = m.is_tail }
      | numeral n h ↦
          let o = once-none c d (header_from s (Some n) cs) x (sym (step-digit s d c cs n h) ∙ e) in
          let m = marked s (Some n) cs x o.1 in
          record { marks = c ∷ m.marks; tail = m.tail; source = ap (λ (y : List Cell). c ∷ y) m.source; sets = inr (n, o.0, h, m.sets); is_tail = m.is_tail }
      | neither p q ↦
          let o = ended-none s d (wrong_behind false (c ∷ cs)) x (sym (step-end s d c cs p q) ∙ e) in
          record { marks = []; tail = c ∷ cs; source = refl; sets = o.1; is_tail = told-tail false (c ∷ cs) o.0 }
    ]

some-none : {X Y : Type 0} (x : X) → Some x ≡ None → Y
some-none x e = absurd cc

set-marks : (marks : List Cell) (x : Got) → Sets None None marks x → AreMarks marks x.0 x.1
set-marks [] x e = rw e tt
set-marks (c ∷ []) x (inl (chomp, n, h, e)) = rw e h
set-marks (c ∷ []) x (inr (d, n, h, e)) = rw e h
set-marks (c ∷ e ∷ []) x (inl (chomp, n, h, inl (other, m, i, f))) = some-none chomp m
set-marks (c ∷ e ∷ []) x (inl (chomp, n, h, inr (d, m, i, f))) = rw f (inl (h, i))
set-marks (c ∷ e ∷ []) x (inr (d, n, h, inl (chomp, m, i, f))) = rw f (inr (h, i))
set-marks (c ∷ e ∷ []) x (inr (d, n, h, inr (other, m, i, f))) = some-none d m
set-marks (c ∷ e ∷ g ∷ cs) x (inl (chomp, n, h, inl (other, m, i, f))) = some-none chomp m
set-marks (c ∷ e ∷ g ∷ cs) x (inl (chomp, n, h, inr (d, m, i, inl (other, k, j, f)))) = some-none chomp k
set-marks (c ∷ e ∷ g ∷ cs) x (inl (chomp, n, h, inr (d, m, i, inr (other, k, j, f)))) = some-none d k
set-marks (c ∷ e ∷ g ∷ cs) x (inr (d, n, h, inl (chomp, m, i, inl (other, k, j, f)))) = some-none chomp k
set-marks (c ∷ e ∷ g ∷ cs) x (inr (d, n, h, inl (chomp, m, i, inr (other, k, j, f)))) = some-none d k
set-marks (c ∷ e ∷ g ∷ cs) x (inr (d, n, h, inr (other, m, i, f))) = some-none d m

pub header-told : (header : List Cell) (x : Chomp × Option ℕ) → header_from None None header ≡ Ok x → IsHeader header x.0 x.1
header-told header x e =
    let m = marked None None header x e in
    record { marks = m.marks; tail = m.tail; source = m.source; are_marks = set-marks m.marks x m.sets; is_tail = m.is_tail }

-- ---- the first wrong character

record Stops (s : Option Chomp) (d : Option ℕ) (cs : List Cell) (w : Cell) : Type 0 where
  front : List Cell
  more : List Cell
  source : cs ≡ front ++ w ∷ more
  value : Got
  before : header_from s d front ≡ got value
  here : header_from s d (front ++ w ∷ []) ≡ wrong w

tail-wrong : (s : Option Chomp) (d : Option ℕ) (front : List Cell) (w : Cell) (more : List Cell) → is_tail false front ≡ true → is_tail false (front ++ w ∷ []) ≡ false → (front ≡ [] → (chomp_of w.byte ≡ None) × (mark_digit w.byte ≡ None)) → header_from s d (front ++ w ∷ more) ≡ wrong w
tail-wrong s d [] w more t f n =
    let k = n refl in
    step-end s d w more k.0 k.1 ∙ ap (ends_header s d) (wrong-told false (w ∷ more) w (record { front = []; more = more; source = refl; before = t; here = f }))
tail-wrong s d (c ∷ front) w more t f n =
    let b = blank-told c (first-blank c front t) in
    step-end s d c (front ++ w ∷ more) b.0 b.1 ∙ ap (ends_header s d) (wrong-told false (c ∷ front ++ w ∷ more) w (record { front = c ∷ front; more = more; source = refl; before = t; here = f }))

ended-wrong : (s : Option Chomp) (d : Option ℕ) (o : Option Cell) (w : Cell) → ends_header s d o ≡ wrong w → o ≡ Some w
ended-wrong s d None w e = got-wrong (chomp_or s, d) w e
ended-wrong s d (Some u) w e = ap (λ (x : Cell). Some x) (wrong-is u w e)

-- reading stops at a mark that was set, or later
stops-at : {X : Type 0} (s : Option Chomp) (d : Option ℕ) (c : Cell) (cs : List Cell) (w : Cell) (o : Option X) → (later : List Cell → Header) → ((more : List Cell) → header_from s d (c ∷ more) ≡ once c o (later more)) → once c o (later cs) ≡ wrong w
    → (o ≡ None → later cs ≡ wrong w → Stops s d (c ∷ cs) w) → Stops s d (c ∷ cs) w
stops-at s d c cs w None later steps e below = below refl e
stops-at s d c cs w (Some x) later steps e below =
    let i : c ≡ w = wrong-is c w e in
    record { front = []; more = cs; source = ap (λ (y : Cell). y ∷ cs) i; value = (chomp_or s, d); before = step-nil s d; here = subst (λ (y : Cell). header_from s d (y ∷ []) ≡ wrong y) i (steps []) }

-- ---- (a cell more at the front)
stops-later : (s t : Option Chomp) (d e : Option ℕ) (c : Cell) (cs : List Cell) (w : Cell) → ((more : List Cell) → header_from s d (c ∷ more) ≡ header_from t e more) → Stops t e cs w → Stops s d (c ∷ cs) w
stops-later s t d e c cs w steps r = record {
  front = c ∷ r.front;
  more = r.more;
  source = ap (λ (y : List Cell). c ∷ y) r.source;
  value = r.value;
  before = steps r.front ∙ r.before;
  here = steps (r.front ++ w ∷ []) ∙ r.here;
}

once-is : {X : Type 0} (c : Cell) (o : Option X) (later : Header) → o ≡ None → once c o later ≡ later
once-is c o later e = rw e refl

stops : (s : Option Chomp) (d : Option ℕ) (cs : List Cell) (w : Cell) → header_from s d cs ≡ wrong w → Stops s d cs w
stops s d [] w e = got-wrong (chomp_or s, d) w (sym (step-nil s d) ∙ e)
stops s d (c ∷ cs) w e =
    elim (mark c) [
      | sign chomp h ↦ stops-at s d c cs w s (header_from (Some chomp) d) (λ more. step-sign s d c more chomp h) (sym (step-sign s d c cs chomp h) ∙ e)
          (λ n f. stops-later s (Some chomp) d d c cs w (λ more. step-sign s d c more chomp h ∙ once-is c s (header_from (Some chomp) d more) n) (stops (Some chomp) d cs w f))
      | numeral n h ↦ stops-at s d c cs w d (header_from s (Some n)) (λ more. step-digit s d c more n h) (sym (step-digit s d c cs n h) ∙ e)
          (λ m f. stops-later s s d (Some n) c cs w (λ more. step-digit s d c more n h ∙ once-is c d (header_from s (Some n) more) m) (stops s (Some n) cs w f))
      | neither p q ↦
          let r = told-wrong false (c ∷ cs) w (ended-wrong s d (wrong_behind false (c ∷ cs)) w (sym (step-end s d c cs p q) ∙ e)) in
          record {
            front = r.front;
            more = r.more;
            source = r.source;
            value = (chomp_or s, d);
            before = tail-read s d r.front r.before;
            here = tail-wrong s d r.front w [] r.before r.here (λ n. same r.front r.more r.source n p q);
          }
    ]
  where
    same : (front more : List Cell) → c ∷ cs ≡ front ++ w ∷ more → front ≡ [] → chomp_of c.byte ≡ None → mark_digit c.byte ≡ None → (chomp_of w.byte ≡ None) × (mark_digit w.byte ≡ None)
    same front more e n p q =
        let f : c ∷ cs ≡ w ∷ more = e ∙ ap (λ (y : List Cell). y ++ w ∷ more) n in
        let i : c ≡ w = cc in
        (rw (← i) p, rw (← i) q)

set-wrong : {X : Type 0} (w u : Cell) (o : Option X) (x : Got) (later : Header) → once w o (got x) ≡ wrong u → once w o later ≡ wrong w
set-wrong w u None x later e = got-wrong x u e
set-wrong w u (Some y) x later e = refl

-- what can't stand behind some cells of a header can't stand there whatever follows
wrong-by : (s : Option Chomp) (d : Option ℕ) (front : List Cell) (w u : Cell) (more : List Cell) (x : Got) → header_from s d front ≡ got x → header_from s d (front ++ w ∷ []) ≡ wrong u → header_from s d (front ++ w ∷ more) ≡ wrong w
wrong-by s d [] w u more x before here =
    elim (mark w) [
      | sign chomp h ↦ step-sign s d w more chomp h ∙ set-wrong w u s (chomp, d) (header_from (Some chomp) d more) (ap (once w s) (sym (step-nil (Some chomp) d)) ∙ sym (step-sign s d w [] chomp h) ∙ here)
      | numeral n h ↦ step-digit s d w more n h ∙ set-wrong w u d (chomp_or s, Some n) (header_from s (Some n) more) (ap (once w d) (sym (step-nil s (Some n))) ∙ sym (step-digit s d w [] n h) ∙ here)
      | neither p q ↦ elim (cases_Bool (is_tail false (w ∷ []))) [
        | inl t ↦ got-wrong (chomp_or s, d) u (sym (tail-read s d (w ∷ []) t) ∙ here)
        | inr f ↦ tail-wrong s d [] w more refl f (λ n. (p, q))
      ]
    ]
wrong-by s d (c ∷ front) w u more x before here =
    elim (mark c) [
      | sign chomp h ↦
          let o = once-none c s (header_from (Some chomp) d front) x (sym (step-sign s d c front chomp h) ∙ before) in
          let to : (cs : List Cell) → header_from s d (c ∷ cs) ≡ header_from (Some chomp) d cs = λ cs. step-sign s d c cs chomp h ∙ once-is c s (header_from (Some chomp) d cs) o.0 in
          to (front ++ w ∷ more) ∙ wrong-by (Some chomp) d front w u more x o.1 (sym (to (front ++ w ∷ [])) ∙ here)
      | numeral n h ↦
          let o = once-none c d (header_from s (Some n) front) x (sym (step-digit s d c front n h) ∙ before) in
          let to : (cs : List Cell) → header_from s d (c ∷ cs) ≡ header_from s (Some n) cs = λ cs. step-digit s d c cs n h ∙ once-is c d (header_from s (Some n) cs) o.0 in
          to (front ++ w ∷ more) ∙ wrong-by s (Some n) front w u more x o.1 (sym (to (front ++ w ∷ [])) ∙ here)
      | neither p q ↦
          let o = ended-none s d (wrong_behind false (c ∷ front)) x (sym (step-end s d c front p q) ∙ before) in
          elim (cases_Bool (is_tail false (c ∷ front ++ w ∷ []))) [
            | inl t ↦ got-wrong (chomp_or s, d) u (sym (tail-read s d (c ∷ front ++ w ∷ []) t) ∙ here)
            | inr f ↦ tail-wrong s d (c ∷ front) w more (told-tail false (c ∷ front) o.0) f (λ n. none n)
          ]
    ]
  where
    none : c ∷ front ≡ [] → (chomp_of w.byte ≡ None) × (mark_digit w.byte ≡ None)
    none e = absurd cc

either : (cs : List Cell) (h : Header) → header_from None None cs ≡ h → ((x : Got) × (header_from None None cs ≡ got x)) ⊎ ((u : Cell) × (header_from None None cs ≡ wrong u))
either cs (Ok x) e = inl (x, e)
either cs (Err u) e = inr (u, e)

pub wrong-again : (header : List Cell) (w : Cell) → WrongIn header w → header_from None None header ≡ Err w
wrong-again header w h =
    let (chomp, d, front) = h.before in
    elim (either (h.front ++ w ∷ []) (header_from None None (h.front ++ w ∷ [])) refl) [
      | inl (x, e) ↦ absurd (h.here (x.0, x.1, header-told (h.front ++ w ∷ []) x e))
      | inr (u, e) ↦ ap (header_from None None) h.source ∙ wrong-by None None h.front w u h.more (chomp, d) (header-again h.front chomp d front) e
    ]

pub wrong-found : (header : List Cell) (w : Cell) → header_from None None header ≡ Err w → WrongIn header w
wrong-found header w e =
    let r = stops None None header w e in
    record {
      front = r.front;
      more = r.more;
      source = r.source;
      before = (r.value.0, r.value.1, header-told r.front r.value r.before);
      here = λ h. got-wrong (h.0, h.1) w (sym (header-again (r.front ++ w ∷ []) h.0 h.1 h.2) ∙ r.here);
    }
