-- What is read has the shape, with these samples.
use Rattle.std.proofs.Common.{◌≡◌, ◌≢◌, ℕ, ◌+◌, ◌*◌, ◌≤◌, Bool, true, false, cond, ◌==◌, ◌||◌, not, nat_lt, nat_le, List, [], ◌∷◌, ◌++◌, length, Option, Some, None, refl, sym, ap, ap₂, subst, ◌∙◌, arith, inl, inr, ◌⊎◌, encode_utf8, All, append_assoc, length-append}
use Rattle.std.specs.Prelude.{unwrap_or}
use Rattle.std.proofs.Math.Bool.{or-false, or_assoc}
use Rattle.std.proofs.lemmas.Bool.{cases_Bool, cond_both, eqb-true}
use Rattle.std.proofs.lemmas.Bool.Decides.{nat_tests}
use Rattle.std.proofs.lemmas.Option.{none-some, same_Some}
use Rattle.std.proofs.lemmas.List.Elements.{All-push}
use Rattle.std.proofs.lemmas.List.Folds.{list_any-append}
use Rattle.std.proofs.lemmas.Int.Digits.{digits_value_push, digits_push}
use Rattle.std.specs.List.{list_any}
use Rattle.std.specs.Char.{digit_value}
use Rattle.std.specs.Str.Parse.{IsNumeral}
use Rattle.lf_pattern.specs.Plain.{is_special, is_escapable}
use Rattle.lf_pattern.specs.Shape.{Samples, same, followed, counted, chosen, last_of, is_opaque, unknown, class_samples, IsLeastCount, Count, star, plus, optional, exactly, at_least, between, Lazily, greedy, lazy, Alternatives, one, more, Branch, nothing, next, once, often, Atom, ordinary, any, begin, end, digit, word, space, escaped, class, negated, group, quiet, HasSamples}
use Rattle.lf_pattern.specs.declared.sample.Both.{Both}
use Rattle.lf_pattern.specs.declared.shape.GroupFrame.{GroupFrame}
use Rattle.lf_pattern.specs.declared.shape_mode.ShapeMode.{ShapeMode}
use Rattle.lf_pattern.specs.declared.shape_mode.ShapeMode.TheVariants as mode
use Rattle.lf_pattern.specs.declared.shape_mode.CharacterKind.{CharacterKind}
use Rattle.lf_pattern.specs.declared.shape_mode.CharacterKind.TheVariants as kind
use Rattle.lf_pattern.specs.ShapeScan.{ShapeState, nothing_read, pair, followed_by, counted_by, value_of, with_branch, flushed, kind_of, begun_with, begun, behind_atom, escaped_by, in_class, in_least, in_most, is_hidden, class_pair, is_digit, stepped, start, may_end, ended, read_from}
use Rattle.lf_pattern.proofs.Capping.{cut, followed-cut, counted-cut, followed-followed, followed-nothing, nothing-cut}
use Rattle.lf_pattern.proofs.Digits.{digit-below}
use Rattle.lf_pattern.proofs.ShapeFound.{st, begun-mode, encoded-cut, class-cut, fresh, value_with}

-- what a character is, by its kind
abbrev IsOfKind : CharacterKind → ℕ → Type 0
IsOfKind kind.Bar c = c ≡ 124
IsOfKind kind.Open c = c ≡ 40
IsOfKind kind.Close c = c ≡ 41
IsOfKind kind.Bracket c = c ≡ 91
IsOfKind kind.Backslash c = c ≡ 92
IsOfKind kind.Dot c = c ≡ 46
IsOfKind kind.Anchor c = (c ≡ 94) ⊎ (c ≡ 36)
IsOfKind kind.Odd c = Unit {0}
IsOfKind kind.Ordinary c = is_special c ≡ false

anchor-is : (c : ℕ) → ((c == 94) || (c == 36)) ≡ true → (c ≡ 94) ⊎ (c ≡ 36)
anchor-is c h = elim (cases_Bool (c == 94)) [
  | inl p ↦ inl (eqb-true c 94 p)
  | inr p ↦ inr (eqb-true c 36 (sym (ap (λ (b : Bool). b || (c == 36)) p) ∙ h))
]

kind-sorted : (c : ℕ) → IsOfKind (kind_of c) c
kind-sorted c =
    let P : CharacterKind → Type 0 = λ k. IsOfKind k c in
    cond_both (c == 124) _ _ P (λ e. eqb-true c 124 e) (λ _.
    cond_both (c == 40) _ _ P (λ e. eqb-true c 40 e) (λ _.
    cond_both (c == 41) _ _ P (λ e. eqb-true c 41 e) (λ _.
    cond_both (c == 91) _ _ P (λ e. eqb-true c 91 e) (λ _.
    cond_both (c == 92) _ _ P (λ e. eqb-true c 92 e) (λ _.
    cond_both (c == 46) _ _ P (λ e. eqb-true c 46 e) (λ _.
    cond_both ((c == 94) || (c == 36)) _ _ P (λ e. anchor-is c e) (λ _.
    cond_both (is_special c) _ _ P (λ _. tt) (λ e. e))))))))

-- ---- one more member or digit

last-push : (first : ℕ) (members : List ℕ) (c : ℕ) → c ≡ last_of first (members ++ c ∷ [])
last-push first [] c = refl
last-push first (d ∷ ds) c = last-push d ds c

opaque-push : (first : ℕ) (members : List ℕ) (c : ℕ) → (is_opaque first members || is_hidden c) ≡ is_opaque first (members ++ c ∷ [])
opaque-push first members c =
    or_assoc (is_hidden first) (list_any is_hidden members) (is_hidden c)
    ∙ ap (λ (b : Bool). is_hidden first || b) (ap (λ (b : Bool). list_any is_hidden members || b) (sym (or-false (is_hidden c))) ∙ sym (list_any-append is_hidden members (c ∷ [])))

numeral-one : (c : ℕ) → is_digit c ≡ true → IsNumeral 10 (c ∷ [])
numeral-one c h = (omega arith, (digit-below c h, tt))

numeral-push : (ds : List ℕ) (c : ℕ) → IsNumeral 10 ds → is_digit c ≡ true → IsNumeral 10 (ds ++ c ∷ [])
numeral-push ds c h e = (omega (arith, length-append ds (c ∷ [])), digits_push 10 ds c h.1 (digit-below c e))

least-one : (c : ℕ) → is_digit c ≡ true → IsLeastCount (c ∷ []) (digit_value c)
least-one c h = let lt = digit-below c h in (numeral-one c h, omega arith, omega arith)

small : (v : ℕ) → nat_le v 64 ≡ true → v ≤ 64
small v h = grind (arith, nat_tests)

least-push : (ds : List ℕ) (n c : ℕ) → IsLeastCount ds n → is_digit c ≡ true → nat_le (n * 10 + digit_value c) 64 ≡ true → IsLeastCount (ds ++ c ∷ []) (n * 10 + digit_value c)
least-push ds n c h e f =
    (numeral-push ds c h.0 e, ap (λ (k : ℕ). k * 10 + digit_value c) h.1 ∙ sym (digits_value_push 10 ds c), small (n * 10 + digit_value c) f)

-- ---- what may follow. `E samples cs` says that cs goes on behind the end of the innermost group, whose samples these are.

module _ (E : Both → List ℕ → Type 0) where
  -- behind a branch
  abbrev pub After : GroupFrame → List ℕ → Type 0
  After X ws =
      E (value_of X) ws
      ⊎ ((us : List ℕ) × (q : Samples) × (vs : List ℕ) × (ws ≡ 124 ∷ us) × Alternatives us q vs × E (record { low = unwrap_or X.first X.branch.low; high = (cut q).high }) vs)

  -- behind the pieces of a branch so far
  abbrev pub Tail : GroupFrame → List ℕ → Type 0
  Tail X cs = (p : Samples) × (ws : List ℕ) × Branch cs p ws × After (with_branch X (cut p)) ws

  -- behind an atom that has a count
  abbrev pub CountThen : Both → GroupFrame → List ℕ → Type 0
  CountThen P F cs = (n : ℕ) × (vs : List ℕ) × (ws : List ℕ) × Count cs n vs × Lazily vs ws × Tail (with_branch F (counted_by n P)) ws

  -- behind an atom
  abbrev pub AfterAtom : Both → GroupFrame → List ℕ → Type 0
  AfterAtom P F cs = Tail (with_branch F P) cs ⊎ CountThen P F cs

  -- an atom, and what is behind it
  abbrev pub AtomThen : GroupFrame → List ℕ → Type 0
  AtomThen F cs = (p : Samples) × (us : List ℕ) × Atom cs p us × AfterAtom (cut p) F us

  same_frame : (X : GroupFrame) (R Q : Both) → R ≡ Q → (ws : List ℕ) → After (record { first = X.first; branch = R }) ws → After (record { first = X.first; branch = Q }) ws
  same_frame X R Q e ws a = let P : Both → Type 0 = λ r. After (record { first = X.first; branch = r }) ws in subst P e a

  with_atom : (X : GroupFrame) (cs : List ℕ) → AtomThen X cs → Tail X cs
  with_atom X cs (p, us, a, inl (q, ws, branch, after)) =
      (followed p q, ws, next (once a) branch, same_frame X _ _ (followed-followed X.branch (cut p) (cut q) ∙ ap (followed_by X.branch) (followed-cut p q)) ws after)
  with_atom X cs (p, us, a, inr (n, vs, xs, count, lazily, (q, ws, branch, after))) = (
    followed (counted n p) q,
    ws,
    next (often a count lazily) branch,
    same_frame X _ _ (followed-followed X.branch (counted_by n (cut p)) (cut q) ∙ ap (λ (c : Both). followed_by X.branch (followed_by c (cut q))) (counted-cut n p) ∙ ap (followed_by X.branch) (followed-cut (counted n p) q)) ws after,
  )

  -- a branch that has ended
  at_end : (F : GroupFrame) (P : Both) (ws : List ℕ) → After (with_branch F P) ws → Tail (with_branch F P) ws
  at_end F P ws a = (same [], ws, nothing, same_frame F _ _ (sym (followed-nothing F.branch P)) ws a)

  all_of : (x : Option (Option (List ℕ))) (cs : List ℕ) → Tail (fresh x) cs → (q : Samples) × (vs : List ℕ) × Alternatives cs q vs × E (value_with x (cut q)) vs
  all_of x cs (p, ws, branch, inl e) =
      let P : Both → Type 0 = λ r. E (value_with x r) ws in
      (p, ws, one branch, subst P (nothing-cut p) e)
  all_of x cs (p, ws, branch, inr (us, q, vs, is, alternatives, e)) =
      let P : Both → Type 0 = λ r. E (record { low = unwrap_or x r.low; high = (cut q).high }) vs in
      let R : List ℕ → Type 0 = λ l. Branch cs p l in
      (chosen p q, vs, more (subst R is branch) alternatives, subst P (nothing-cut p) e)

module _ (v : Both) where
  -- behind the end of a group in these frames, to the end of the pattern, whose samples are v
  abbrev pub Ends : List GroupFrame → Both → List ℕ → Type 0
  Ends [] x ws = (ws ≡ []) × (v ≡ x)
  Ends (G ∷ S) x ws = (us : List ℕ) × (ws ≡ 41 ∷ us) × AfterAtom (Ends S) x G us

  -- what is left in a mode
  abbrev pub Left : ShapeMode → Both → GroupFrame → List GroupFrame → List ℕ → Type 0
  Left mode.Ready P F S cs = Tail (Ends S) (with_branch F P) cs
  Left mode.Atom P F S cs = AfterAtom (Ends S) P F cs
  Left mode.Lazy P F S cs = (ws : List ℕ) × Lazily cs ws × Tail (Ends S) (with_branch F P) ws
  Left mode.Escape P F S cs = AtomThen (Ends S) F (92 ∷ cs)
  Left mode.Open P F S cs = Tail (Ends S) (with_branch F P) cs ⊎ ((us : List ℕ) × (cs ≡ 63 ∷ 58 ∷ us) × Tail (Ends S) (with_branch F P) us)
  Left mode.Quiet P F S cs = (us : List ℕ) × (cs ≡ 58 ∷ us) × Tail (Ends S) (with_branch F P) us
  Left mode.ClassStart P F S cs = AtomThen (Ends S) F (91 ∷ cs)
  Left (mode.Class first last opaque) P F S cs =
      first ≢ 94 → (members : List ℕ) → All (λ m. m ≢ 93) members → last ≡ last_of first members → opaque ≡ is_opaque first members → AtomThen (Ends S) F (91 ∷ first ∷ members ++ cs)
  Left mode.NegatedStart P F S cs = AtomThen (Ends S) F (91 ∷ 94 ∷ cs)
  Left mode.Negated P F S cs = (first : ℕ) (members : List ℕ) → All (λ m. m ≢ 93) members → AtomThen (Ends S) F (91 ∷ 94 ∷ first ∷ members ++ cs)
  Left mode.Brace P F S cs = CountThen (Ends S) P F (123 ∷ cs)
  Left (mode.Least n) P F S cs = (digits : List ℕ) → IsLeastCount digits n → CountThen (Ends S) P F (123 ∷ digits ++ cs)
  Left (mode.Comma n) P F S cs = (digits : List ℕ) → IsLeastCount digits n → CountThen (Ends S) P F (123 ∷ digits ++ (44 ∷ cs))
  Left (mode.Most n) P F S cs =
      (digits most : List ℕ) → IsLeastCount digits n → IsNumeral 10 most → CountThen (Ends S) P F (123 ∷ digits ++ (44 ∷ most ++ cs))
  Left mode.Outside P F S cs = ⊥

  -- ---- at the end

  branch_end : (P : Both) (F : GroupFrame) → Some (value_of (with_branch F P)) ≡ Some v → Tail (Ends []) (with_branch F P) []
  branch_end P F h = at_end (Ends []) F P [] (inl (refl, sym (same_Some _ _ h)))

  open_end : (m : ShapeMode) (P : Both) (F G : GroupFrame) (S : List GroupFrame) → ended (st m P F (G ∷ S)) ≡ None
  open_end m P F G S =
      let e : nat_lt 0 (length (G ∷ S)) ≡ true = grind (arith, nat_tests) in
      ap (λ (b : Bool). cond (b || not (may_end m)) None (Some (value_of (with_branch F P)))) e

  left_end : (m : ShapeMode) (P : Both) (F : GroupFrame) (S : List GroupFrame) → ended (st m P F S) ≡ Some v → Left m P F S []
  left_end mode.Ready P F [] h = branch_end P F h
  left_end mode.Atom P F [] h = inl (branch_end P F h)
  left_end mode.Lazy P F [] h = ([], greedy, branch_end P F h)
  left_end mode.Open P F [] h = inl (branch_end P F h)
  left_end mode.Escape P F [] h = absurd (none-some _ h)
  left_end mode.Quiet P F [] h = absurd (none-some _ h)
  left_end mode.ClassStart P F [] h = absurd (none-some _ h)
  left_end (mode.Class first last opaque) P F [] h = absurd (none-some _ h)
  left_end mode.NegatedStart P F [] h = absurd (none-some _ h)
  left_end mode.Negated P F [] h = absurd (none-some _ h)
  left_end mode.Brace P F [] h = absurd (none-some _ h)
  left_end (mode.Least n) P F [] h = absurd (none-some _ h)
  left_end (mode.Comma n) P F [] h = absurd (none-some _ h)
  left_end (mode.Most n) P F [] h = absurd (none-some _ h)
  left_end mode.Outside P F [] h = absurd (none-some _ h)
  left_end m P F (G ∷ S) h = absurd (none-some _ (sym (open_end m P F G S) ∙ h))

  -- ---- a character

  module _ (cs : List ℕ) (given_later : (m : ShapeMode) (P : Both) (F : GroupFrame) (S : List GroupFrame) → read_from (st m P F S) cs ≡ Some v → Left m P F S cs) where
    -- a test that the next state rests on
    split : (T : Type 0) (b : Bool) (x y : ShapeState) → (b ≡ true → read_from x cs ≡ Some v → T) → (b ≡ false → read_from y cs ≡ Some v → T) → read_from (cond b x y) cs ≡ Some v → T
    split T true x y f g h = f refl h
    split T false x y f g h = g refl h

    group_of : (F : GroupFrame) (S : List GroupFrame) (us : List ℕ) → Tail (Ends (F ∷ S)) (fresh None) us →
        (p : Samples) × (rest : List ℕ) × Alternatives us p (41 ∷ rest) × AfterAtom (Ends S) (cut p) F rest
    group_of F S us t =
        let (q, vs, alternatives, (rest, is, after)) = all_of (Ends (F ∷ S)) None us t in
        let A : List ℕ → Type 0 = λ l. Alternatives us q l in
        (q, rest, subst A is alternatives, after)

    by_kind : (c : ℕ) (P : Both) (F : GroupFrame) (S : List GroupFrame) (k : CharacterKind) → IsOfKind k c → read_from (begun_with k (flushed (st mode.Ready P F S)) c) cs ≡ Some v →
        Tail (Ends S) (with_branch F P) (c ∷ cs)
    by_kind c P F S kind.Bar is h =
        let X = with_branch F P in
        let t : Tail (Ends S) (fresh (Some (unwrap_or X.first X.branch.low))) cs = given_later mode.Ready nothing_read (fresh (Some (unwrap_or X.first X.branch.low))) S h in
        let (q, vs, alternatives, e) = all_of (Ends S) (Some (unwrap_or X.first X.branch.low)) cs t in
        let T : ℕ → Type 0 = λ d. Tail (Ends S) X (d ∷ cs) in
        subst T (sym is) (at_end (Ends S) F P (124 ∷ cs) (inr (cs, q, vs, refl, alternatives, e)))
    by_kind c P F S kind.Open is h =
        let X = with_branch F P in
        let T : ℕ → Type 0 = λ d. Tail (Ends S) X (d ∷ cs) in
        subst T (sym is) (elim (given_later mode.Open nothing_read (fresh None) (X ∷ S) h) [
          | inl t ↦ let (p, rest, alternatives, after) = group_of X S cs t in with_atom (Ends S) X (40 ∷ cs) (p, rest, group alternatives, after)
          | inr (us, e, t) ↦
              let (p, rest, alternatives, after) = group_of X S us t in
              let U : List ℕ → Type 0 = λ l. Tail (Ends S) X (40 ∷ l) in
              subst U (sym e) (with_atom (Ends S) X (40 ∷ 63 ∷ 58 ∷ us) (p, rest, quiet alternatives, after))
        ])
    by_kind c P F [] kind.Close is h = absurd (given_later mode.Outside nothing_read (with_branch F P) [] h)
    by_kind c P F (G ∷ S) kind.Close is h =
        let X = with_branch F P in
        let T : ℕ → Type 0 = λ d. Tail (Ends (G ∷ S)) X (d ∷ cs) in
        subst T (sym is) (at_end (Ends (G ∷ S)) F P (41 ∷ cs) (inl (cs, refl, given_later mode.Atom (value_of X) G S h)))
    by_kind c P F S kind.Bracket is h =
        let X = with_branch F P in
        let T : ℕ → Type 0 = λ d. Tail (Ends S) X (d ∷ cs) in
        subst T (sym is) (with_atom (Ends S) X (91 ∷ cs) (given_later mode.ClassStart nothing_read X S h))
    by_kind c P F S kind.Backslash is h =
        let X = with_branch F P in
        let T : ℕ → Type 0 = λ d. Tail (Ends S) X (d ∷ cs) in
        subst T (sym is) (with_atom (Ends S) X (92 ∷ cs) (given_later mode.Escape nothing_read X S h))
    by_kind c P F S kind.Dot is h =
        let X = with_branch F P in
        let T : ℕ → Type 0 = λ d. Tail (Ends S) X (d ∷ cs) in
        subst T (sym is) (with_atom (Ends S) X (46 ∷ cs) (record { low = 48 ∷ []; high = 97 ∷ [] }, cs, any, given_later mode.Atom (pair (48 ∷ []) (97 ∷ [])) X S h))
    by_kind c P F S kind.Anchor is h =
        let X = with_branch F P in
        let T : ℕ → Type 0 = λ d. Tail (Ends S) X (d ∷ cs) in
        let after = given_later mode.Atom nothing_read X S h in
        elim is [
          | inl e ↦ subst T (sym e) (with_atom (Ends S) X (94 ∷ cs) (same [], cs, begin, after))
          | inr e ↦ subst T (sym e) (with_atom (Ends S) X (36 ∷ cs) (same [], cs, end, after))
        ]
    by_kind c P F S kind.Odd is h = absurd (given_later mode.Outside nothing_read (with_branch F P) S h)
    by_kind c P F S kind.Ordinary is h =
        let X = with_branch F P in
        let A : Both → Type 0 = λ q. AfterAtom (Ends S) q X cs in
        with_atom (Ends S) X (c ∷ cs) (same (encode_utf8 c), cs, ordinary is, subst A (encoded-cut c c) (given_later mode.Atom (pair (encode_utf8 c) (encode_utf8 c)) X S h))

    by_begin : (c : ℕ) (m : ShapeMode) (P : Both) (F : GroupFrame) (S : List GroupFrame) → read_from (begun (st m P F S) c) cs ≡ Some v → Tail (Ends S) (with_branch F P) (c ∷ cs)
    by_begin c m P F S h = by_kind c P F S (kind_of c) (kind-sorted c) (ap (λ (s : ShapeState). read_from s cs) (sym (begun-mode (kind_of c) m P F S c)) ∙ h)

    counted_then : (c : ℕ) (P : Both) (F : GroupFrame) (S : List GroupFrame) (n : ℕ) (us : List ℕ) → Count us n cs → read_from (st mode.Lazy (counted_by n P) F S) cs ≡ Some v → CountThen (Ends S) P F us
    counted_then c P F S n us count h = let (ws, lazily, tail) = given_later mode.Lazy (counted_by n P) F S h in (n, cs, ws, count, lazily, tail)

    same_begin : (c d : ℕ) (P : Both) (F : GroupFrame) (S : List GroupFrame) → (c == d) ≡ true → CountThen (Ends S) P F (d ∷ cs) → CountThen (Ends S) P F (c ∷ cs)
    same_begin c d P F S e t = let T : ℕ → Type 0 = λ b. CountThen (Ends S) P F (b ∷ cs) in subst T (sym (eqb-true c d e)) t

    left_atom : (c : ℕ) (P : Both) (F : GroupFrame) (S : List GroupFrame) → read_from (behind_atom (st mode.Atom P F S) c) cs ≡ Some v → AfterAtom (Ends S) P F (c ∷ cs)
    left_atom c P F S h =
        let T = AfterAtom (Ends S) P F (c ∷ cs) in
        split T (c == 42) _ _ (λ e h. inr (same_begin c 42 P F S e (counted_then c P F S 0 (42 ∷ cs) star h)))
        (λ _ h. split T (c == 43) _ _ (λ e h. inr (same_begin c 43 P F S e (counted_then c P F S 1 (43 ∷ cs) plus h)))
        (λ _ h. split T (c == 63) _ _ (λ e h. inr (same_begin c 63 P F S e (counted_then c P F S 0 (63 ∷ cs) optional h)))
        (λ _ h. split T (c == 123) _ _ (λ e h. inr (same_begin c 123 P F S e (given_later mode.Brace P F S h)))
        (λ _ h. inl (by_begin c mode.Atom P F S h)) h) h) h) h

    left_escape : (c : ℕ) (P : Both) (F : GroupFrame) (S : List GroupFrame) → read_from (escaped_by (st mode.Escape P F S) c) cs ≡ Some v → AtomThen (Ends S) F (92 ∷ c ∷ cs)
    left_escape c P F S h =
        let T = AtomThen (Ends S) F (92 ∷ c ∷ cs) in
        let D : ℕ → Type 0 = λ d. AtomThen (Ends S) F (92 ∷ d ∷ cs) in
        split T (c == 100) _ _ (λ e h. subst D (sym (eqb-true c 100 e)) (same (48 ∷ []), cs, digit, given_later mode.Atom (pair (48 ∷ []) (48 ∷ [])) F S h))
        (λ _ h. split T (c == 119) _ _ (λ e h. subst D (sym (eqb-true c 119 e)) (same (97 ∷ []), cs, word, given_later mode.Atom (pair (97 ∷ []) (97 ∷ [])) F S h))
        (λ _ h. split T (c == 115) _ _ (λ e h. subst D (sym (eqb-true c 115 e)) (same (32 ∷ []), cs, space, given_later mode.Atom (pair (32 ∷ []) (32 ∷ [])) F S h))
        (λ _ h. split T (is_escapable c) _ _
        (λ e h. let A : Both → Type 0 = λ q. AfterAtom (Ends S) q F cs in (same (encode_utf8 c), cs, escaped e, subst A (encoded-cut c c) (given_later mode.Atom (pair (encode_utf8 c) (encode_utf8 c)) F S h)))
        (λ _ h. absurd (given_later mode.Outside P F S h)) h) h) h) h

    left_class : (first last : ℕ) (opaque : Bool) (c : ℕ) (P : Both) (F : GroupFrame) (S : List GroupFrame) → read_from (in_class first last opaque (st (mode.Class first last opaque) P F S) c) cs ≡ Some v →
        first ≢ 94 → (members : List ℕ) → All (λ m. m ≢ 93) members → last ≡ last_of first members → opaque ≡ is_opaque first members → AtomThen (Ends S) F (91 ∷ first ∷ members ++ (c ∷ cs))
    left_class first last opaque c P F S h apart members all is_last is_hid =
        let T = AtomThen (Ends S) F (91 ∷ first ∷ members ++ (c ∷ cs)) in
        split T (c == 93) _ _
        (λ e h.
        let D : ℕ → Type 0 = λ d. AtomThen (Ends S) F (91 ∷ first ∷ members ++ (d ∷ cs)) in
        let A : Both → Type 0 = λ q. AfterAtom (Ends S) q F cs in
        let same_pair : class_pair first last opaque ≡ cut (class_samples first members) =
        ap₂ (λ (l : ℕ) (b : Bool). class_pair first l b) is_last is_hid ∙ class-cut first members (is_opaque first members) refl in
        subst D (sym (eqb-true c 93 e)) (class_samples first members, cs, class first members apart all, subst A same_pair (given_later mode.Atom (class_pair first last opaque) F S h)))
        (λ e h.
        let L : List ℕ → Type 0 = λ l. AtomThen (Ends S) F (91 ∷ first ∷ l) in
        subst L (append_assoc members (c ∷ []) cs)
        (given_later (mode.Class first c (opaque || is_hidden c)) P F S h apart (members ++ c ∷ [])
        (All-push (λ m. m ≢ 93) members c all (grind (arith, nat_tests)))
        (last-push first members c)
        (ap (λ (b : Bool). b || is_hidden c) is_hid ∙ opaque-push first members c))) h

    left_start : (c : ℕ) (P : Both) (F : GroupFrame) (S : List GroupFrame) → read_from (cond (c == 94) (st mode.NegatedStart P F S) (st (mode.Class c c (is_hidden c)) P F S)) cs ≡ Some v → AtomThen (Ends S) F (91 ∷ c ∷ cs)
    left_start c P F S h =
        split (AtomThen (Ends S) F (91 ∷ c ∷ cs)) (c == 94) _ _
        (λ e h. let D : ℕ → Type 0 = λ d. AtomThen (Ends S) F (91 ∷ d ∷ cs) in subst D (sym (eqb-true c 94 e)) (given_later mode.NegatedStart P F S h))
        (λ e h.
        let apart : c ≢ 94 = λ (f : c ≡ 94). absurd (grind (arith, nat_tests)) in
        given_later (mode.Class c c (is_hidden c)) P F S h apart [] (λ k d lt. absurd (omega (arith, lt))) refl (sym (or-false (is_hidden c)))) h

    left_negated : (c : ℕ) (P : Both) (F : GroupFrame) (S : List GroupFrame) → read_from (cond (c == 93) (st mode.Atom (pair (48 ∷ []) (97 ∷ [])) F S) (st mode.Negated P F S)) cs ≡ Some v →
        (first : ℕ) (members : List ℕ) → All (λ m. m ≢ 93) members → AtomThen (Ends S) F (91 ∷ 94 ∷ first ∷ members ++ (c ∷ cs))
    left_negated c P F S h first members all =
        split (AtomThen (Ends S) F (91 ∷ 94 ∷ first ∷ members ++ (c ∷ cs))) (c == 93) _ _
        (λ e h.
        let D : ℕ → Type 0 = λ d. AtomThen (Ends S) F (91 ∷ 94 ∷ first ∷ members ++ (d ∷ cs)) in
        subst D (sym (eqb-true c 93 e)) (unknown, cs, negated first members all, given_later mode.Atom (pair (48 ∷ []) (97 ∷ [])) F S h))
        (λ e h.
        let L : List ℕ → Type 0 = λ l. AtomThen (Ends S) F (91 ∷ 94 ∷ first ∷ l) in
        subst L (append_assoc members (c ∷ []) cs) (given_later mode.Negated P F S h first (members ++ c ∷ []) (All-push (λ m. m ≢ 93) members c all (grind (arith, nat_tests))))) h

    left_brace : (c : ℕ) (P : Both) (F : GroupFrame) (S : List GroupFrame) → read_from (cond (is_digit c) (st (mode.Least (digit_value c)) P F S) (st mode.Outside P F S)) cs ≡ Some v → CountThen (Ends S) P F (123 ∷ c ∷ cs)
    left_brace c P F S h =
        split (CountThen (Ends S) P F (123 ∷ c ∷ cs)) (is_digit c) _ _
        (λ e h. given_later (mode.Least (digit_value c)) P F S h (c ∷ []) (least-one c e))
        (λ _ h. absurd (given_later mode.Outside P F S h)) h

    left_least : (n c : ℕ) (P : Both) (F : GroupFrame) (S : List GroupFrame) → read_from (in_least n (st (mode.Least n) P F S) c) cs ≡ Some v →
        (digits : List ℕ) → IsLeastCount digits n → CountThen (Ends S) P F (123 ∷ digits ++ (c ∷ cs))
    left_least n c P F S h digits is =
        let T = CountThen (Ends S) P F (123 ∷ digits ++ (c ∷ cs)) in
        let D : ℕ → Type 0 = λ d. CountThen (Ends S) P F (123 ∷ digits ++ (d ∷ cs)) in
        split T (is_digit c) _ _
        (λ e h. split T (nat_le (n * 10 + digit_value c) 64) _ _
        (λ f h.
        let L : List ℕ → Type 0 = λ l. CountThen (Ends S) P F (123 ∷ l) in
        subst L (append_assoc digits (c ∷ []) cs) (given_later (mode.Least (n * 10 + digit_value c)) P F S h (digits ++ c ∷ []) (least-push digits n c is e f)))
        (λ _ h. absurd (given_later mode.Outside P F S h)) h)
        (λ _ h. split T (c == 125) _ _
        (λ e h. subst D (sym (eqb-true c 125 e)) (counted_then c P F S n (123 ∷ digits ++ (125 ∷ cs)) (exactly digits is) h))
        (λ _ h. split T (c == 44) _ _
        (λ e h. subst D (sym (eqb-true c 44 e)) (given_later (mode.Comma n) P F S h digits is))
        (λ _ h. absurd (given_later mode.Outside P F S h)) h) h) h

    left_comma : (n c : ℕ) (P : Both) (F : GroupFrame) (S : List GroupFrame) → read_from (in_most n (st (mode.Comma n) P F S) c) cs ≡ Some v →
        (digits : List ℕ) → IsLeastCount digits n → CountThen (Ends S) P F (123 ∷ digits ++ (44 ∷ c ∷ cs))
    left_comma n c P F S h digits is =
        let T = CountThen (Ends S) P F (123 ∷ digits ++ (44 ∷ c ∷ cs)) in
        let D : ℕ → Type 0 = λ d. CountThen (Ends S) P F (123 ∷ digits ++ (44 ∷ d ∷ cs)) in
        split T (is_digit c) _ _
        (λ e h. given_later (mode.Most n) P F S h digits (c ∷ []) is (numeral-one c e))
        (λ _ h. split T (c == 125) _ _
        (λ e h. subst D (sym (eqb-true c 125 e)) (counted_then c P F S n (123 ∷ digits ++ (44 ∷ 125 ∷ cs)) (at_least digits is) h))
        (λ _ h. absurd (given_later mode.Outside P F S h)) h) h

    left_most : (n c : ℕ) (P : Both) (F : GroupFrame) (S : List GroupFrame) → read_from (in_most n (st (mode.Most n) P F S) c) cs ≡ Some v →
        (digits most : List ℕ) → IsLeastCount digits n → IsNumeral 10 most → CountThen (Ends S) P F (123 ∷ digits ++ (44 ∷ most ++ (c ∷ cs)))
    left_most n c P F S h digits most is numeral =
        let T = CountThen (Ends S) P F (123 ∷ digits ++ (44 ∷ most ++ (c ∷ cs))) in
        let D : ℕ → Type 0 = λ d. CountThen (Ends S) P F (123 ∷ digits ++ (44 ∷ most ++ (d ∷ cs))) in
        split T (is_digit c) _ _
        (λ e h.
        let L : List ℕ → Type 0 = λ l. CountThen (Ends S) P F (123 ∷ digits ++ (44 ∷ l)) in
        subst L (append_assoc most (c ∷ []) cs) (given_later (mode.Most n) P F S h digits (most ++ c ∷ []) is (numeral-push most c numeral e)))
        (λ _ h. split T (c == 125) _ _
        (λ e h. subst D (sym (eqb-true c 125 e)) (counted_then c P F S n (123 ∷ digits ++ (44 ∷ most ++ (125 ∷ cs))) (between digits most is numeral) h))
        (λ _ h. absurd (given_later mode.Outside P F S h)) h) h

    left_step : (c : ℕ) (m : ShapeMode) (P : Both) (F : GroupFrame) (S : List GroupFrame) → read_from (stepped (st m P F S) c) cs ≡ Some v → Left m P F S (c ∷ cs)
    unfolding stepped
    left_step c mode.Ready P F S h = by_begin c mode.Ready P F S h
    left_step c mode.Atom P F S h = left_atom c P F S h
    left_step c mode.Lazy P F S h =
        let T = Left mode.Lazy P F S (c ∷ cs) in
        split T (c == 63) _ _
        (λ e h. let D : ℕ → Type 0 = λ d. Left mode.Lazy P F S (d ∷ cs) in subst D (sym (eqb-true c 63 e)) (cs, lazy, given_later mode.Ready P F S h))
        (λ _ h. (c ∷ cs, greedy, by_begin c mode.Lazy P F S h)) h
    left_step c mode.Escape P F S h = left_escape c P F S h
    left_step c mode.Open P F S h =
        let T = Left mode.Open P F S (c ∷ cs) in
        split T (c == 63) _ _
        (λ e h.
        let (us, is, t) = given_later mode.Quiet P F S h in
        inr (us, ap (λ (d : ℕ). d ∷ cs) (eqb-true c 63 e) ∙ ap (λ (l : List ℕ). 63 ∷ l) is, t))
        (λ _ h. inl (by_begin c mode.Open P F S h)) h
    left_step c mode.Quiet P F S h =
        split (Left mode.Quiet P F S (c ∷ cs)) (c == 58) _ _
        (λ e h. (cs, ap (λ (d : ℕ). d ∷ cs) (eqb-true c 58 e), given_later mode.Ready P F S h))
        (λ _ h. absurd (given_later mode.Outside P F S h)) h
    left_step c mode.ClassStart P F S h = left_start c P F S h
    left_step c (mode.Class first last opaque) P F S h = left_class first last opaque c P F S h
    left_step c mode.NegatedStart P F S h = given_later mode.Negated P F S h c [] (λ k d lt. absurd (omega (arith, lt)))
    left_step c mode.Negated P F S h = left_negated c P F S h
    left_step c mode.Brace P F S h = left_brace c P F S h
    left_step c (mode.Least n) P F S h = left_least n c P F S h
    left_step c (mode.Comma n) P F S h = left_comma n c P F S h
    left_step c (mode.Most n) P F S h = left_most n c P F S h
    left_step c mode.Outside P F S h = given_later mode.Outside P F S h

  left : (cs : List ℕ) (m : ShapeMode) (P : Both) (F : GroupFrame) (S : List GroupFrame) → read_from (st m P F S) cs ≡ Some v → Left m P F S cs
  left [] m P F S h = left_end m P F S h
  left (c ∷ cs) m P F S h = left_step cs (λ m P F S. left cs m P F S) c m P F S h

-- what is read has the shape, with samples that are these where they aren't too long
pub given_shape : (cs : List ℕ) (v : Both) → read_from start cs ≡ Some v → (p : Samples) × HasSamples cs p × (v ≡ cut p)
given_shape cs v h =
    let (q, vs, alternatives, e) = all_of (Ends v []) None cs (left v cs mode.Ready nothing_read (fresh None) [] h) in
    let A : List ℕ → Type 0 = λ l. Alternatives cs q l in
    (q, subst A e.0 alternatives, e.1)
