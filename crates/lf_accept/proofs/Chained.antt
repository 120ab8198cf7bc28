-- Readers one behind the other: where each has one answer, so has the whole.
use Rattle.std.proofs.Common.{◌≡◌, ◌⊎◌, inl, inr, List, [], ◌∷◌, Result, Ok, Err, refl, ap, subst}
use Rattle.std.specs.List.{AllZip}
use Rattle.lf_base.specs.declared.fault.Fault.{Fault}
use Rattle.lf_base.specs.declared.refusal.Refusal.{Refusal}
use Rattle.lf_base.specs.declared.refusal.Refusal.TheVariants.{At, Memory}
use Rattle.lf_base.specs.Faults.{fault}
use Rattle.lf_base.specs.Answers.{Breach, Found, OneAnswer, Only, Refused}

-- ---- a relation said in other words

module _ {A : Type 0} (P Q : A → Type 0) (PB QB : Fault → Type 0) (to : (a : A) → P a → Q a) (from : (a : A) → Q a → P a) (breaks : (f : Fault) → PB f → QB f) (back : (f : Fault) → QB f → PB f) where
  pub in_other_words : OneAnswer P PB → OneAnswer Q QB
  in_other_words one = record {
    value = λ x y h k. one.value x y (from x h) (from y k);
    breach = λ f g h k. one.breach f g (back f h) (back g k);
    one = λ x f h k. one.one x f (from x h) (back f k);
    some = elim one.some [ inl s ↦ inl (s.0, to s.0 s.1) | inr b ↦ inr (b.0, breaks b.0 b.1) ];
  }

-- ---- one reader behind another

module _ {A B : Type 0} (First : A → Type 0) (FirstBreaks : Fault → Type 0) (Second : A → B → Type 0) (SecondBreaks : A → Fault → Type 0) where
  abbrev pub Both : B → Type 0
  Both b = (a : A) × First a × Second a b

  abbrev pub BreaksEither : Fault → Type 0
  BreaksEither f = FirstBreaks f ⊎ ((a : A) × First a × SecondBreaks a f)

  module _ (first : OneAnswer First FirstBreaks) (second : (a : A) → OneAnswer (Second a) (SecondBreaks a)) where
    one_breach : (f g : Fault) → BreaksEither f → BreaksEither g → f ≡ g
    one_breach f g (inl h) (inl k) = first.breach f g h k
    one_breach f g (inl h) (inr k) = absurd (first.one k.0 f k.1 h)
    one_breach f g (inr h) (inl k) = absurd (first.one h.0 g h.1 k)
    one_breach f g (inr h) (inr k) =
        let P : A → Type 0 = λ a. SecondBreaks a f in
        (second k.0).breach f g (subst P (first.value h.0 k.0 h.1 k.1) h.2) k.2

    one_value : (x y : B) → Both x → Both y → x ≡ y
    one_value x y h k =
        let P : A → Type 0 = λ a. Second a x in
        (second k.0).value x y (subst P (first.value h.0 k.0 h.1 k.1) h.2) k.2

    never_both : (x : B) (f : Fault) → Both x → BreaksEither f → ⊥
    never_both x f h (inl k) = first.one h.0 f h.1 k
    never_both x f h (inr k) =
        let P : A → Type 0 = λ a. Second a x in
        (second k.0).one x f (subst P (first.value h.0 k.0 h.1 k.1) h.2) k.2

    behind : (a : A) → First a → ((b : B) × Second a b) ⊎ ((f : Fault) × SecondBreaks a f) → ((b : B) × Both b) ⊎ ((f : Fault) × BreaksEither f)
    behind a h (inl s) = inl (s.0, (a, h, s.1))
    behind a h (inr k) = inr (k.0, inr (a, h, k.1))

    one_or_other : ((a : A) × First a) ⊎ ((f : Fault) × FirstBreaks f) → ((b : B) × Both b) ⊎ ((f : Fault) × BreaksEither f)
    one_or_other (inl s) = behind s.0 s.1 (second s.0).some
    one_or_other (inr k) = inr (k.0, inl k.1)

    pub chained : OneAnswer Both BreaksEither
    chained = record { value = one_value; breach = one_breach; one = never_both; some = one_or_other first.some }

-- ---- a reader of each element of a list, of which the first that breaks something is told

module _ {A B : Type 0} (Reads : A → B → Type 0) (Breaks : A → Fault → Type 0) (each : (a : A) → OneAnswer (Reads a) (Breaks a)) where
  abbrev pub IsRead : A → Type 0
  IsRead a = (b : B) × Reads a b

  -- one element breaks something, and each before it is read
  abbrev pub FirstBreaks : List A → Fault → Type 0
  FirstBreaks [] f = ⊥
  FirstBreaks (a ∷ xs) f = Breaks a f ⊎ (IsRead a × FirstBreaks xs f)

  values : (xs : List A) (bs cs : List B) → AllZip Reads xs bs → AllZip Reads xs cs → bs ≡ cs
  values [] [] [] h k = refl
  values [] [] (c ∷ cs) h k = absurd k
  values [] (b ∷ bs) cs h k = absurd h
  values (a ∷ xs) [] cs h k = absurd h
  values (a ∷ xs) (b ∷ bs) [] h k = absurd k
  values (a ∷ xs) (b ∷ bs) (c ∷ cs) h k = by b c bs cs ((each a).value b c h.0 k.0) (values xs bs cs h.1 k.1)
    where
      by : (x y : B) (xs ys : List B) → x ≡ y → xs ≡ ys → (x ∷ xs) ≡ (y ∷ ys)
      by x y xs ys e f = cc

  breaches : (xs : List A) (f g : Fault) → FirstBreaks xs f → FirstBreaks xs g → f ≡ g
  breaches [] f g h k = absurd h
  breaches (a ∷ xs) f g (inl h) (inl k) = (each a).breach f g h k
  breaches (a ∷ xs) f g (inl h) (inr k) = absurd ((each a).one k.0.0 f k.0.1 h)
  breaches (a ∷ xs) f g (inr h) (inl k) = absurd ((each a).one h.0.0 g h.0.1 k)
  breaches (a ∷ xs) f g (inr h) (inr k) = breaches xs f g h.1 k.1

  ones : (xs : List A) (bs : List B) (f : Fault) → AllZip Reads xs bs → FirstBreaks xs f → ⊥
  ones [] bs f h k = k
  ones (a ∷ xs) [] f h k = h
  ones (a ∷ xs) (b ∷ bs) f h (inl k) = (each a).one b f h.0 k
  ones (a ∷ xs) (b ∷ bs) f h (inr k) = ones xs bs f h.1 k.1

  somes : (xs : List A) → ((bs : List B) × AllZip Reads xs bs) ⊎ ((f : Fault) × FirstBreaks xs f)
  somes [] = inl ([], tt)
  somes (a ∷ xs) = by (each a).some (somes xs)
    where
      by : IsRead a ⊎ ((f : Fault) × Breaks a f) → ((bs : List B) × AllZip Reads xs bs) ⊎ ((f : Fault) × FirstBreaks xs f) → ((bs : List B) × AllZip Reads (a ∷ xs) bs) ⊎ ((f : Fault) × FirstBreaks (a ∷ xs) f)
      by (inr k) later = inr (k.0, inl k.1)
      by (inl s) (inl bs) = inl (s.0 ∷ bs.0, (s.1, bs.1))
      by (inl s) (inr k) = inr (k.0, inr (s, k.1))

  pub each_in_turn : (xs : List A) → OneAnswer (AllZip Reads xs) (FirstBreaks xs)
  each_in_turn xs = record { value = values xs; breach = breaches xs; one = ones xs; some = somes xs }

-- ---- what a reader owes, from what it answers and that there is one answer

module _ {X Y : Type 0} (view : X → Y) (Stands : Y → Type 0) (Breaks : Fault → Type 0) (one : OneAnswer Stands Breaks) where
  pub only_so : (r : Result X Refusal) → Found view Stands r → Refused Breaks r → Only view Stands r
  only_so (Ok x) found refused y h = ap Ok (one.value y (view x) h found)
  only_so (Err Memory) found refused y h = tt
  only_so (Err (At kind span)) found refused y h = absurd (one.one y (fault kind span) h refused)

  pub breach_so : (r : Result X Refusal) → Found view Stands r → Refused Breaks r → Breach view Breaks r
  breach_so (Ok x) found refused f h = absurd (one.one (view x) f found h)
  breach_so (Err Memory) found refused f h = tt
  breach_so (Err (At kind span)) found refused f h = ap Err (one.breach f (fault kind span) h refused)
