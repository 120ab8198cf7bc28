-- What has the shape is read with its samples.
use Rattle.std.proofs.Common.{◌≡◌, ◌≢◌, ℕ, ◌+◌, ◌*◌, ◌≤◌, ◌<◌, Bool, true, false, cond, ◌==◌, ◌||◌, not, nat_le, List, [], ◌∷◌, ◌++◌, Option, Some, None, refl, sym, ap, ap₂, ◌∙◌, arith, true≢false, encode_utf8, All, suc}
use Rattle.std.specs.Prelude.{unwrap_or}
use Rattle.std.proofs.Math.Bool.{or-false, or_assoc}
use Rattle.std.proofs.lemmas.Bool.{cond-true, cond-false}
use Rattle.std.proofs.lemmas.Bool.Decides.{nat_tests}
use Rattle.std.specs.List.{list_any}
use Rattle.std.proofs.lemmas.Str.{length-encode}
use Rattle.std.specs.Char.{digit_value}
use Rattle.std.specs.Str.Parse.{AllDigits, IsNumeral, digits_value_after}
use Rattle.lf_pattern.specs.Plain.{is_special, is_escapable}
use Rattle.lf_pattern.specs.Shape.{Samples, counted, last_of, is_opaque, unknown, class_samples, IsLeastCount, Count, star, plus, optional, exactly, at_least, between, Lazily, greedy, lazy, Alternatives, one, more, Branch, nothing, next, QuantifiedAtom, once, often, Atom, ordinary, any, begin, end, digit, word, space, escaped, class, negated, group, quiet, HasSamples}
use Rattle.lf_pattern.specs.declared.sample.Both.{Both}
use Rattle.lf_pattern.specs.declared.shape.GroupFrame.{GroupFrame}
use Rattle.lf_pattern.specs.declared.shape_mode.ShapeMode.{ShapeMode}
use Rattle.lf_pattern.specs.declared.shape_mode.ShapeMode.TheVariants as mode
use Rattle.lf_pattern.specs.declared.shape_mode.CharacterKind.{CharacterKind}
use Rattle.lf_pattern.specs.declared.shape_mode.CharacterKind.TheVariants as kind
use Rattle.lf_pattern.specs.ShapeScan.{ShapeState, nothing_read, pair, followed_by, counted_by, value_of, with_branch, flushed, kind_of, begun_with, begun, is_hidden, class_pair, is_digit, stepped, start, may_end, ended, read_from}
use Rattle.lf_pattern.proofs.Capping.{fits, cut, both_of, capped-fits, followed-cut, counted-cut, followed-followed, followed-nothing, nothing-cut}
use Rattle.lf_pattern.proofs.Digits.{digit-is}

abbrev pub st : ShapeMode → Both → GroupFrame → List GroupFrame → ShapeState
st m P F S = record { mode = m; piece = P; frame = F; stack = S }

-- a character with which a count begins
abbrev pub is_count : ℕ → Bool
is_count c = ((c == 42) || (c == 43)) || ((c == 63) || (c == 123))

pub begun-mode : (k : CharacterKind) (m : ShapeMode) (P : Both) (F : GroupFrame) (S : List GroupFrame) (c : ℕ) → begun_with k (flushed (st m P F S)) c ≡ begun_with k (flushed (st mode.Ready P F S)) c
begun-mode kind.Bar m P F S c = refl
begun-mode kind.Open m P F S c = refl
begun-mode kind.Close m P F [] c = refl
begun-mode kind.Close m P F (G ∷ S) c = refl
begun-mode kind.Bracket m P F S c = refl
begun-mode kind.Backslash m P F S c = refl
begun-mode kind.Dot m P F S c = refl
begun-mode kind.Anchor m P F S c = refl
begun-mode kind.Odd m P F S c = refl
begun-mode kind.Ordinary m P F S c = refl

-- where the pattern may end, what begins no count begins something new
pub idle : (m : ShapeMode) (P : Both) (F : GroupFrame) (S : List GroupFrame) (c : ℕ) → may_end m ≡ true → is_count c ≡ false → stepped (st m P F S) c ≡ begun (st mode.Ready P F S) c
unfolding stepped
idle mode.Ready P F S c h apart = refl
idle mode.Atom P F S c h apart =
    cond-false (c == 42) _ _ (grind (arith, nat_tests)) ∙ cond-false (c == 43) _ _ (grind (arith, nat_tests)) ∙ cond-false (c == 63) _ _ (grind (arith, nat_tests)) ∙ cond-false (c == 123) _ _ (grind (arith, nat_tests))
    ∙ begun-mode (kind_of c) mode.Atom P F S c
idle mode.Lazy P F S c h apart = cond-false (c == 63) _ _ (grind (arith, nat_tests)) ∙ begun-mode (kind_of c) mode.Lazy P F S c
idle mode.Open P F S c h apart = cond-false (c == 63) _ _ (grind (arith, nat_tests)) ∙ begun-mode (kind_of c) mode.Open P F S c
idle mode.Escape P F S c h apart = absurd (true≢false (sym h))
idle mode.Quiet P F S c h apart = absurd (true≢false (sym h))
idle mode.ClassStart P F S c h apart = absurd (true≢false (sym h))
idle (mode.Class first last opaque) P F S c h apart = absurd (true≢false (sym h))
idle mode.NegatedStart P F S c h apart = absurd (true≢false (sym h))
idle mode.Negated P F S c h apart = absurd (true≢false (sym h))
idle mode.Brace P F S c h apart = absurd (true≢false (sym h))
idle (mode.Least n) P F S c h apart = absurd (true≢false (sym h))
idle (mode.Comma n) P F S c h apart = absurd (true≢false (sym h))
idle (mode.Most n) P F S c h apart = absurd (true≢false (sym h))
idle mode.Outside P F S c h apart = absurd (true≢false (sym h))

-- the same of all that is left
pub idle_from : (m : ShapeMode) (P : Both) (F : GroupFrame) (S : List GroupFrame) (c : ℕ) (rest : List ℕ) → may_end m ≡ true → is_count c ≡ false →
    read_from (st m P F S) (c ∷ rest) ≡ read_from (begun (st mode.Ready P F S) c) rest
idle_from m P F S c rest h apart = ap (λ (s : ShapeState). read_from s rest) (idle m P F S c h apart)

kind-ordinary : (c : ℕ) → is_special c ≡ false → kind_of c ≡ kind.Ordinary
unfolding is_special
kind-ordinary c h =
    cond-false (c == 124) _ _ (grind (arith, nat_tests)) ∙ cond-false (c == 40) _ _ (grind (arith, nat_tests)) ∙ cond-false (c == 41) _ _ (grind (arith, nat_tests))
    ∙ cond-false (c == 91) _ _ (grind (arith, nat_tests)) ∙ cond-false (c == 92) _ _ (grind (arith, nat_tests)) ∙ cond-false (c == 46) _ _ (grind (arith, nat_tests))
    ∙ cond-false ((c == 94) || (c == 36)) _ _ (grind (arith, nat_tests)) ∙ cond-false (is_special c) _ _ h

special-count : (c : ℕ) → is_special c ≡ false → is_count c ≡ false
unfolding is_special
special-count c h = grind (arith, nat_tests)

encoded-fits : (c : ℕ) → fits (encode_utf8 c) ≡ true
encoded-fits c = let e = length-encode c in grind (arith, nat_tests)

pub encoded-cut : (c d : ℕ) → pair (encode_utf8 c) (encode_utf8 d) ≡ cut (record { low = encode_utf8 c; high = encode_utf8 d })
encoded-cut c d = ap₂ both_of (sym (capped-fits (encode_utf8 c) (encoded-fits c))) (sym (capped-fits (encode_utf8 d) (encoded-fits d)))

all_head : (d : ℕ) (ds : List ℕ) → All (λ m. m ≢ 93) (d ∷ ds) → d ≢ 93
all_head d ds h = h 0 d (omega arith)

all_tail : (d : ℕ) (ds : List ℕ) → All (λ m. m ≢ 93) (d ∷ ds) → All (λ m. m ≢ 93) ds
all_tail d ds h = λ k x lt. h (suc k) x (omega arith)

pub class-cut : (first : ℕ) (members : List ℕ) (b : Bool) → is_opaque first members ≡ b → class_pair first (last_of first members) (is_opaque first members) ≡ cut (class_samples first members)
class-cut first members true e =
    cond-true (is_opaque first members) _ _ e ∙ sym (ap cut (cond-true (is_opaque first members) _ _ e))
class-cut first members false e =
    cond-false (is_opaque first members) _ _ e ∙ encoded-cut first (last_of first members) ∙ sym (ap cut (cond-false (is_opaque first members) _ _ e))

-- ---- counts

digit-fits : (v : ℕ) → v ≤ 64 → nat_le v 64 ≡ true
digit-fits v h = grind (arith, nat_tests)

value-grows : (n : ℕ) (ds : List ℕ) → n ≤ digits_value_after 10 n ds
value-grows n [] = omega arith
value-grows n (d ∷ ds) = omega (arith, value-grows (n * 10 + digit_value d) ds)

module _ (P : Both) (F : GroupFrame) (S : List GroupFrame) where
  least-digit : (n d : ℕ) → digit_value d < 10 → n * 10 + digit_value d ≤ 64 → stepped (st (mode.Least n) P F S) d ≡ st (mode.Least (n * 10 + digit_value d)) P F S
  unfolding stepped
  least-digit n d h le = cond-true (is_digit d) _ _ (digit-is d h) ∙ cond-true (nat_le (n * 10 + digit_value d) 64) _ _ (digit-fits (n * 10 + digit_value d) le)

  brace-digit : (d : ℕ) → digit_value d < 10 → stepped (st mode.Brace P F S) d ≡ st (mode.Least (digit_value d)) P F S
  unfolding stepped
  brace-digit d h = cond-true (is_digit d) _ _ (digit-is d h)

  comma-digit : (n d : ℕ) → digit_value d < 10 → stepped (st (mode.Comma n) P F S) d ≡ st (mode.Most n) P F S
  unfolding stepped
  comma-digit n d h = cond-true (is_digit d) _ _ (digit-is d h)

  most-digit : (n d : ℕ) → digit_value d < 10 → stepped (st (mode.Most n) P F S) d ≡ st (mode.Most n) P F S
  unfolding stepped
  most-digit n d h = cond-true (is_digit d) _ _ (digit-is d h)

  at_step : (s t : ShapeState) (c : ℕ) (cs : List ℕ) → stepped s c ≡ t → read_from s (c ∷ cs) ≡ read_from t cs
  at_step s t c cs e = ap (λ (u : ShapeState). read_from u cs) e

  least-digits : (n : ℕ) (ds rest : List ℕ) → AllDigits 10 ds → digits_value_after 10 n ds ≤ 64 →
      read_from (st (mode.Least n) P F S) (ds ++ rest) ≡ read_from (st (mode.Least (digits_value_after 10 n ds)) P F S) rest
  least-digits n [] rest h le = refl
  least-digits n (d ∷ ds) rest h le =
      let grows = value-grows (n * 10 + digit_value d) ds in
      at_step (st (mode.Least n) P F S) _ d (ds ++ rest) (least-digit n d h.0 (omega (arith, le, grows)))
      ∙ least-digits (n * 10 + digit_value d) ds rest h.1 le

  brace-digits : (digits rest : List ℕ) (n : ℕ) → IsLeastCount digits n → read_from (st mode.Brace P F S) (digits ++ rest) ≡ read_from (st (mode.Least n) P F S) rest
  brace-digits [] rest n h = absurd (omega (arith, h.0.0))
  brace-digits (d ∷ ds) rest n h =
      let all = h.0.1 in
      let value : digits_value_after 10 (digit_value d) ds ≡ n = ap (λ (k : ℕ). digits_value_after 10 k ds) (let e : digit_value d ≡ 0 * 10 + digit_value d = omega arith in e) ∙ sym h.1 in
      at_step (st mode.Brace P F S) _ d (ds ++ rest) (brace-digit d all.0)
      ∙ least-digits (digit_value d) ds rest all.1 (omega (arith, value, h.2))
      ∙ ap (λ (k : ℕ). read_from (st (mode.Least k) P F S) rest) value

  most-digits : (n : ℕ) (ds rest : List ℕ) → AllDigits 10 ds → read_from (st (mode.Most n) P F S) (ds ++ rest) ≡ read_from (st (mode.Most n) P F S) rest
  most-digits n [] rest h = refl
  most-digits n (d ∷ ds) rest h = at_step (st (mode.Most n) P F S) _ d (ds ++ rest) (most-digit n d h.0) ∙ most-digits n ds rest h.1

  comma-digits : (n : ℕ) (most rest : List ℕ) → IsNumeral 10 most → read_from (st (mode.Comma n) P F S) (most ++ rest) ≡ read_from (st (mode.Most n) P F S) rest
  comma-digits n [] rest h = absurd (omega (arith, h.0))
  comma-digits n (d ∷ ds) rest h = at_step (st (mode.Comma n) P F S) _ d (ds ++ rest) (comma-digit n d h.1.0) ∙ most-digits n ds rest h.1.1

  found_count : {cs rest : List ℕ} {n : ℕ} → Count cs n rest → read_from (st mode.Atom P F S) cs ≡ read_from (st mode.Lazy (counted_by n P) F S) rest
  unfolding stepped
  found_count star = refl
  found_count plus = refl
  found_count optional = refl
  found_count (exactly digits {rest} {n} least) = brace-digits digits (125 ∷ rest) n least
  found_count (at_least digits {rest} {n} least) = brace-digits digits (44 ∷ 125 ∷ rest) n least
  found_count (between digits most {rest} {n} least numeral) = brace-digits digits (44 ∷ most ++ (125 ∷ rest)) n least ∙ comma-digits n most (125 ∷ rest) numeral

  -- ---- classes

  class-step : (first last : ℕ) (opaque : Bool) (c : ℕ) → c ≢ 93 → stepped (st (mode.Class first last opaque) P F S) c ≡ st (mode.Class first c (opaque || is_hidden c)) P F S
  unfolding stepped
  class-step first last opaque c h = cond-false (c == 93) _ _ (grind (arith, nat_tests))

  -- the members behind the first one
  class-members : (first last : ℕ) (opaque : Bool) (members rest : List ℕ) → All (λ m. m ≢ 93) members →
      read_from (st (mode.Class first last opaque) P F S) (members ++ 93 ∷ rest)
      ≡ read_from (st mode.Atom (class_pair first (last_of last members) (opaque || list_any is_hidden members)) F S) rest
  unfolding stepped
  class-members first last opaque [] rest h =
      ap (λ (b : Bool). read_from (st mode.Atom (class_pair first last b) F S) rest) (sym (or-false opaque))
  class-members first last opaque (d ∷ ds) rest h =
      at_step (st (mode.Class first last opaque) P F S) _ d (ds ++ 93 ∷ rest) (class-step first last opaque d (all_head d ds h))
      ∙ class-members first d (opaque || is_hidden d) ds rest (all_tail d ds h)
      ∙ ap (λ (b : Bool). read_from (st mode.Atom (class_pair first (last_of d ds) b) F S) rest) (or_assoc opaque (is_hidden d) (list_any is_hidden ds))

  class-first : (first : ℕ) → first ≢ 94 → stepped (st mode.ClassStart P F S) first ≡ st (mode.Class first first (is_hidden first)) P F S
  unfolding stepped
  class-first first h = cond-false (first == 94) _ _ (grind (arith, nat_tests))

  class-whole : (first : ℕ) (members rest : List ℕ) → first ≢ 94 → All (λ m. m ≢ 93) members →
      read_from (st mode.ClassStart P F S) (first ∷ members ++ 93 ∷ rest) ≡ read_from (st mode.Atom (cut (class_samples first members)) F S) rest
  class-whole first members rest apart h =
      at_step (st mode.ClassStart P F S) _ first (members ++ 93 ∷ rest) (class-first first apart)
      ∙ class-members first first (is_hidden first) members rest h
      ∙ ap (λ (q : Both). read_from (st mode.Atom q F S) rest) (class-cut first members (is_opaque first members) refl)

  negated-step : (c : ℕ) → c ≢ 93 → stepped (st mode.Negated P F S) c ≡ st mode.Negated P F S
  unfolding stepped
  negated-step c h = cond-false (c == 93) _ _ (grind (arith, nat_tests))

  negated-members : (members rest : List ℕ) → All (λ m. m ≢ 93) members →
      read_from (st mode.Negated P F S) (members ++ 93 ∷ rest) ≡ read_from (st mode.Atom (cut unknown) F S) rest
  unfolding stepped
  negated-members [] rest h = refl
  negated-members (d ∷ ds) rest h =
      at_step (st mode.Negated P F S) _ d (ds ++ 93 ∷ rest) (negated-step d (all_head d ds h)) ∙ negated-members ds rest (all_tail d ds h)

  negated-whole : (first : ℕ) (members rest : List ℕ) → All (λ m. m ≢ 93) members →
      read_from (st mode.ClassStart P F S) (94 ∷ first ∷ members ++ 93 ∷ rest) ≡ read_from (st mode.Atom (cut unknown) F S) rest
  unfolding stepped
  negated-whole first members rest h = negated-members members rest h

-- ---- atoms, pieces, branches and alternatives

escape-step : (P : Both) (F : GroupFrame) (S : List GroupFrame) (c : ℕ) → is_escapable c ≡ true → stepped (st mode.Escape P F S) c ≡ st mode.Atom (pair (encode_utf8 c) (encode_utf8 c)) F S
unfolding stepped is_escapable
escape-step P F S c h =
    cond-false (c == 100) _ _ (grind (arith, nat_tests)) ∙ cond-false (c == 119) _ _ (grind (arith, nat_tests)) ∙ cond-false (c == 115) _ _ (grind (arith, nat_tests)) ∙ cond-true (is_escapable c) _ _ h

closes : (m : ShapeMode) (P : Both) (f F : GroupFrame) (S : List GroupFrame) (rest : List ℕ) (p : Samples) → may_end m ≡ true → value_of (with_branch f P) ≡ cut p →
    read_from (st m P f (F ∷ S)) (41 ∷ rest) ≡ read_from (st mode.Atom (cut p) F S) rest
closes m P f F S rest p i v =
    idle_from m P f (F ∷ S) 41 rest i refl ∙ ap (λ (q : Both). read_from (st mode.Atom q F S) rest) v

ends : (m : ShapeMode) (P : Both) (F : GroupFrame) → may_end m ≡ true → ended (st m P F []) ≡ Some (value_of (with_branch F P))
ends m P F i = ap (λ (b : Bool). cond (not b) None (Some (value_of (with_branch F P)))) i

-- from `s` over `cs` a branch is read to `rest`, and its samples are then `R`
record ReadsBranch (s : ShapeState) (cs : List ℕ) (R : Both) (x : Option (Option (List ℕ))) (S : List GroupFrame) (rest : List ℕ) : Type 0 where
  mode_then : ShapeMode
  piece_then : Both
  frame_then : GroupFrame
  idle_then : may_end mode_then ≡ true
  runs : read_from s cs ≡ read_from (st mode_then piece_then frame_then S) rest
  branch : followed_by frame_then.branch piece_then ≡ R
  first : frame_then.first ≡ x

-- the same of alternatives, whose samples are then `V`
record ReadsAll (s : ShapeState) (cs : List ℕ) (V : Both) (S : List GroupFrame) (rest : List ℕ) : Type 0 where
  mode_then : ShapeMode
  piece_then : Both
  frame_then : GroupFrame
  idle_then : may_end mode_then ≡ true
  runs : read_from s cs ≡ read_from (st mode_then piece_then frame_then S) rest
  value : value_of (with_branch frame_then piece_then) ≡ V

abbrev pub value_with : Option (Option (List ℕ)) → Both → Both
value_with x R = record { low = unwrap_or x R.low; high = R.high }

abbrev pub fresh : Option (Option (List ℕ)) → GroupFrame
fresh x = record { first = x; branch = nothing_read }

branch_value : (f : GroupFrame) (P : Both) (x : Option (Option (List ℕ))) (R : Both) → followed_by f.branch P ≡ R → f.first ≡ x → value_of (with_branch f P) ≡ value_with x R
branch_value f P x R r h = ap₂ (λ (y : Option (Option (List ℕ))) (q : Both). value_with y q) h r

by_laziness : {vs rest : List ℕ} → Lazily vs rest → (s : ShapeState) (cs : List ℕ) (P R : Both) (F : GroupFrame) (S : List GroupFrame) →
    read_from s cs ≡ read_from (st mode.Lazy P F S) vs → followed_by F.branch P ≡ R → ReadsBranch s cs R F.first S rest
unfolding stepped
by_laziness greedy s cs P R F S e r = record { mode_then = mode.Lazy; piece_then = P; frame_then = F; idle_then = refl; runs = e; branch = r; first = refl }
by_laziness lazy s cs P R F S e r = record { mode_then = mode.Ready; piece_then = P; frame_then = F; idle_then = refl; runs = e; branch = r; first = refl }

mutual
  unfolding stepped

  found_atom : {cs rest : List ℕ} {p : Samples} → Atom cs p rest → (m : ShapeMode) (P : Both) (F : GroupFrame) (S : List GroupFrame) → may_end m ≡ true →
      read_from (st m P F S) cs ≡ read_from (st mode.Atom (cut p) (with_branch F P) S) rest
  found_atom (ordinary {c} {rest} h) m P F S i =
      idle_from m P F S c rest i (special-count c h)
      ∙ ap (λ (k : CharacterKind). read_from (begun_with k (flushed (st mode.Ready P F S)) c) rest) (kind-ordinary c h)
      ∙ ap (λ (q : Both). read_from (st mode.Atom q (with_branch F P) S) rest) (encoded-cut c c)
  found_atom (any {rest}) m P F S i = idle_from m P F S 46 rest i refl
  found_atom (begin {rest}) m P F S i = idle_from m P F S 94 rest i refl
  found_atom (end {rest}) m P F S i = idle_from m P F S 36 rest i refl
  found_atom (digit {rest}) m P F S i = idle_from m P F S 92 (100 ∷ rest) i refl
  found_atom (word {rest}) m P F S i = idle_from m P F S 92 (119 ∷ rest) i refl
  found_atom (space {rest}) m P F S i = idle_from m P F S 92 (115 ∷ rest) i refl
  found_atom (escaped {c} {rest} h) m P F S i =
      idle_from m P F S 92 (c ∷ rest) i refl
      ∙ at_step nothing_read (with_branch F P) S (st mode.Escape nothing_read (with_branch F P) S) _ c rest (escape-step nothing_read (with_branch F P) S c h)
      ∙ ap (λ (q : Both). read_from (st mode.Atom q (with_branch F P) S) rest) (encoded-cut c c)
  found_atom (class first members {rest} apart h) m P F S i =
      idle_from m P F S 91 (first ∷ members ++ 93 ∷ rest) i refl
      ∙ class-whole nothing_read (with_branch F P) S first members rest apart h
  found_atom (negated first members {rest} h) m P F S i =
      idle_from m P F S 91 (94 ∷ first ∷ members ++ 93 ∷ rest) i refl
      ∙ negated-whole nothing_read (with_branch F P) S first members rest h
  found_atom (group {cs} {rest} {p} a) m P F S i =
      idle_from m P F S 40 cs i refl
      ∙ (let r = found_all a mode.Open None (with_branch F P ∷ S) refl in
      r.runs ∙ closes r.mode_then r.piece_then r.frame_then (with_branch F P) S rest p r.idle_then r.value)
  found_atom (quiet {cs} {rest} {p} a) m P F S i =
      idle_from m P F S 40 (63 ∷ 58 ∷ cs) i refl
      ∙ (let r = found_all a mode.Ready None (with_branch F P ∷ S) refl in
      r.runs ∙ closes r.mode_then r.piece_then r.frame_then (with_branch F P) S rest p r.idle_then r.value)

  found_piece : {cs rest : List ℕ} {p : Samples} → QuantifiedAtom cs p rest → (m : ShapeMode) (P : Both) (F : GroupFrame) (S : List GroupFrame) → may_end m ≡ true →
      ReadsBranch (st m P F S) cs (followed_by (followed_by F.branch P) (cut p)) F.first S rest
  found_piece (once {cs} {rest} {p} a) m P F S i =
      record { mode_then = mode.Atom; piece_then = cut p; frame_then = with_branch F P; idle_then = refl; runs = found_atom a m P F S i; branch = refl; first = refl }
  found_piece (often {cs} {us} {vs} {rest} {p} {least} a count l) m P F S i =
      let e = found_atom a m P F S i ∙ found_count (cut p) (with_branch F P) S count in
      by_laziness l (st m P F S) cs (counted_by least (cut p)) (followed_by (followed_by F.branch P) (cut (counted least p))) (with_branch F P) S e
      (ap (followed_by (followed_by F.branch P)) (counted-cut least p))

  found_branch : {cs rest : List ℕ} {p : Samples} → Branch cs p rest → (m : ShapeMode) (P : Both) (F : GroupFrame) (S : List GroupFrame) → may_end m ≡ true →
      ReadsBranch (st m P F S) cs (followed_by (followed_by F.branch P) (cut p)) F.first S rest
  found_branch nothing m P F S i =
      record { mode_then = m; piece_then = P; frame_then = F; idle_then = i; runs = refl; branch = sym (followed-nothing F.branch P); first = refl }
  found_branch (next {cs} {us} {rest} {p} {q} a b) m P F S i =
      let r = found_piece a m P F S i in
      let t = found_branch b r.mode_then r.piece_then r.frame_then S r.idle_then in
      record {
        mode_then = t.mode_then;
        piece_then = t.piece_then;
        frame_then = t.frame_then;
        idle_then = t.idle_then;
        runs = r.runs ∙ t.runs;
        branch = t.branch ∙ ap (λ (x : Both). followed_by x (cut q)) r.branch ∙ followed-followed (followed_by F.branch P) (cut p) (cut q) ∙ ap (followed_by (followed_by F.branch P)) (followed-cut p q);
        first = t.first ∙ r.first;
      }

  found_all : {cs rest : List ℕ} {p : Samples} → Alternatives cs p rest → (m : ShapeMode) (x : Option (Option (List ℕ))) (S : List GroupFrame) → may_end m ≡ true →
      ReadsAll (st m nothing_read (fresh x) S) cs (value_with x (cut p)) S rest
  found_all (one {cs} {rest} {p} a) m x S i =
      let r = found_branch a m nothing_read (fresh x) S i in
      record {
        mode_then = r.mode_then;
        piece_then = r.piece_then;
        frame_then = r.frame_then;
        idle_then = r.idle_then;
        runs = r.runs;
        value = branch_value r.frame_then r.piece_then x (cut p) (r.branch ∙ nothing-cut p) r.first;
      }
  found_all (more {cs} {us} {rest} {p} {q} a b) m x S i =
      let r = found_branch a m nothing_read (fresh x) S i in
      let y = unwrap_or x (cut p).low in
      let low : unwrap_or r.frame_then.first (followed_by r.frame_then.branch r.piece_then).low ≡ y =
      ap₂ (λ (f : Option (Option (List ℕ))) (b : Both). unwrap_or f b.low) r.first (r.branch ∙ nothing-cut p) in
      let t = found_all b mode.Ready (Some y) S refl in
      record {
        mode_then = t.mode_then;
        piece_then = t.piece_then;
        frame_then = t.frame_then;
        idle_then = t.idle_then;
        runs = r.runs
            ∙ idle_from r.mode_then r.piece_then r.frame_then S 124 us r.idle_then refl
            ∙ ap (λ (z : Option (List ℕ)). read_from (st mode.Ready nothing_read (fresh (Some z)) S) us) low
            ∙ t.runs;
        value = t.value;
      }

-- a pattern of the shape is read with its samples
pub found_shape : (cs : List ℕ) (p : Samples) → HasSamples cs p → read_from start cs ≡ Some (cut p)
found_shape cs p a =
    let r = found_all a mode.Ready None [] refl in
    r.runs ∙ ends r.mode_then r.piece_then r.frame_then r.idle_then ∙ ap Some r.value
