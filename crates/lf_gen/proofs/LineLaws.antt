-- Lines of texts.
use Rattle.std.proofs.Common.{◌≡◌, ◌≢◌, ◌≤◌, ◌<◌, inl, inr, ℕ, Bool, true, false, cond, zero, suc, ◌+◌, ◌-◌, List, [], ◌∷◌, ◌++◌, Option, Some, length, take, drop, map, get_or, eqb, refl, sym, ap, ap₂, ◌∙◌, subst, append_assoc, append-nil, arith}
use Rattle.std.proofs.lemmas.Bool.{ne_eqb}
use Rattle.std.proofs.lemmas.List.{drop-append-le, drop-map, drop_at, drop_more, get_or-drop, length-append, length-drop, length-map, length-take-le, take-append-drop, take_at}
use Rattle.std.proofs.lemmas.List.Concat.{concat_is}
use Rattle.std.proofs.lemmas.List.Folds.{flat_map-map}
use Rattle.std.specs.List.{AllByRecursion, concat}
use Rattle.std.specs.Option.{MatchOption}
use Rattle.lf_base.specs.Lines.{lines_text}
use Rattle.lf_base.specs.Names.{Bytes}
use Rattle.lf_gen.specs.Lines.{AreLines, begun, last_lines, lines_of}
use Rattle.lf_gen.specs.views.Ends.{BeginsLastLine, IsWithoutFeed}

-- bytes without a line feed
abbrev pub NoFeed : Bytes → Type 0
NoFeed line = AllByRecursion (λ b. b ≢ 10) line

-- the lines of a text by its first byte, which ends the first of them or doesn't
abbrev headed : Bool → ℕ → List Bytes → List Bytes
headed true b lines = (b ∷ []) ∷ lines
headed false b lines = begun b lines

by_head : (b : ℕ) (bs : Bytes) → lines_of (b ∷ bs) ≡ headed (eqb b 10) b (lines_of bs)
by_head b bs = by (eqb b 10)
  where
    by : (is : Bool) → (cond is ((b ∷ []) ∷ lines_of bs) (begun b (lines_of bs))) ≡ headed is b (lines_of bs)
    by true = refl
    by false = refl

goes_on : (b : ℕ) (bs : Bytes) → b ≢ 10 → lines_of (b ∷ bs) ≡ begun b (lines_of bs)
goes_on b bs h = by_head b bs ∙ ap (λ is. headed is b (lines_of bs)) (ne_eqb b 10 h)

-- ---- a line and what follows it

abbrev IsSome : List Bytes → Type 0
IsSome lines = (line : Bytes) × (more : List Bytes) × (lines ≡ line ∷ more)

some_headed : (is : Bool) (b : ℕ) (lines : List Bytes) → IsSome lines → IsSome (headed is b lines)
some_headed true b lines h = (b ∷ [], lines, refl)
some_headed false b lines (line, more, e) = (b ∷ line, more, ap (begun b) e)

some_line : (front : Bytes) → IsSome (lines_of (front ++ 10 ∷ []))
some_line [] = (10 ∷ [], [], refl)
some_line (b ∷ front) = subst IsSome (sym (by_head b (front ++ 10 ∷ []))) (some_headed (eqb b 10) b (lines_of (front ++ 10 ∷ [])) (some_line front))

headed-append : (is : Bool) (b : ℕ) (lines more : List Bytes) → IsSome lines → headed is b (lines ++ more) ≡ headed is b lines ++ more
headed-append true b lines more h = refl
headed-append false b lines more (line, rest, e) = subst (λ l. begun b (l ++ more) ≡ begun b l ++ more) (sym e) refl

-- behind a line feed a new line begins
pub joined : (front rest : Bytes) → lines_of (front ++ 10 ∷ rest) ≡ lines_of (front ++ 10 ∷ []) ++ lines_of rest
joined [] rest = refl
joined (b ∷ front) rest =
    by_head b (front ++ 10 ∷ rest)
    ∙ ap (headed (eqb b 10) b) (joined front rest)
    ∙ headed-append (eqb b 10) b (lines_of (front ++ 10 ∷ [])) (lines_of rest) (some_line front)
    ∙ ap (λ l. l ++ lines_of rest) (sym (by_head b (front ++ 10 ∷ [])))

-- one line, with its line feed and without one
alone : (line : Bytes) → NoFeed line → lines_of (line ++ 10 ∷ []) ≡ (line ++ 10 ∷ []) ∷ []
alone [] h = refl
alone (b ∷ line) h = goes_on b (line ++ 10 ∷ []) h.0 ∙ ap (begun b) (alone line h.1)

unended : (b : ℕ) (line : Bytes) → NoFeed (b ∷ line) → lines_of (b ∷ line) ≡ (b ∷ line) ∷ []
unended b [] h = goes_on b [] h.0
unended b (c ∷ line) h = goes_on b (c ∷ line) h.0 ∙ ap (begun b) (unended c line h.1)

-- ---- a text of lines

abbrev ended : Bytes → Bytes
ended line = line ++ 10 ∷ []

pub lines_of_text : (lines : List Bytes) → AreLines lines → lines_of (lines_text lines) ≡ map ended lines
lines_of_text [] h = refl
lines_of_text (line ∷ lines) h =
    ap lines_of (append_assoc line (10 ∷ []) (lines_text lines))
    ∙ joined line (lines_text lines)
    ∙ ap₂ (λ (front : List Bytes) (rest : List Bytes). front ++ rest) (alone line h.0) (lines_of_text lines h.1)

-- its last lines
pub last_of_lines : (count : ℕ) (lines : List Bytes) → AreLines lines → last_lines count (lines_text lines) ≡ lines_text (drop (length lines - count) lines)
last_of_lines count lines h =
    ap (λ ls. concat (drop (length ls - count) ls)) (lines_of_text lines h)
    ∙ ap (λ n. concat (drop (n - count) (map ended lines))) (length-map lines ended)
    ∙ ap concat (drop-map ended (length lines - count) lines)
    ∙ concat_is (map ended (drop (length lines - count) lines))
    ∙ flat_map-map (λ (l : Bytes). l) ended (drop (length lines - count) lines)

-- ---- where the last line begins

feedless : (line : Bytes) → ((i : ℕ) → i < length line → get_or line i 0 ≢ 10) → NoFeed line
feedless [] h = tt
feedless (b ∷ line) h = (h zero (omega arith), feedless line (λ i less. h (suc i) (omega (arith, less))))

not_empty : (front : Bytes) (b : ℕ) (more : Bytes) → front ++ b ∷ more ≢ []
not_empty [] b more e = cc
not_empty (c ∷ front) b more e = cc

-- a text that is one line
pub begins_at_start : (text body : Bytes) → IsWithoutFeed text body → ((i : ℕ) → i < length body → get_or body i 0 ≢ 10) → BeginsLastLine text 0
begins_at_start text body (inl e) h = subst (λ (t : Bytes). BeginsLastLine t 0) (sym e) (record { none = λ _. refl; some = λ _. alone body (feedless body h) })
begins_at_start text body (inr (e, ends)) h = subst (λ (t : Bytes). BeginsLastLine t 0) (sym e) (record { none = λ _. refl; some = λ some. by body (feedless body h) some })
  where
    by : (line : Bytes) → NoFeed line → line ≢ [] → lines_of line ≡ line ∷ []
    by [] h some = absurd (some refl)
    by (b ∷ line) h some = unended b line h

-- a text with a line feed before its last line
behind_feed : (text front line : Bytes) → text ≡ front ++ 10 ∷ line → lines_of line ≡ line ∷ [] → BeginsLastLine text (length front + 1)
behind_feed text front line e last =
    let split : text ≡ (front ++ 10 ∷ []) ++ line = e ∙ sym (append_assoc front (10 ∷ []) line) in
    let count : length (front ++ 10 ∷ []) ≡ length front + 1 = length-append front (10 ∷ []) in
    let before : take (length front + 1) text ≡ front ++ 10 ∷ [] = ap (take (length front + 1)) split ∙ take_at (front ++ 10 ∷ []) line (length front + 1) count in
    let behind : drop (length front + 1) text ≡ line = ap (drop (length front + 1)) split ∙ drop_at (front ++ 10 ∷ []) line (length front + 1) count in
    record {
      none = λ empty. absurd (not_empty front 10 line (sym e ∙ empty));
      some = λ _. ap lines_of e ∙ joined front line ∙ ap (λ l. lines_of (front ++ 10 ∷ []) ++ l) last
          ∙ ap₂ (λ (l : Bytes) (d : Bytes). lines_of l ++ d ∷ []) (sym before) (sym behind);
    }

pub begins_behind_feed : (text body : Bytes) (k : ℕ) → IsWithoutFeed text body → k < length body → get_or body k 0 ≡ 10 → ((i : ℕ) → k < i → i < length body → get_or body i 0 ≢ 10) → BeginsLastLine text (k + 1)
begins_behind_feed text body k without within at none =
    let front = take k body in
    let line = drop (k + 1) body in
    let split : body ≡ front ++ 10 ∷ line = sym (take-append-drop k body) ∙ ap (λ l. take k body ++ l) (drop_more body k 0 within ∙ ap (λ (b : ℕ). b ∷ drop (k + 1) body) at) in
    let count : length front ≡ k = length-take-le k body (omega (arith, within)) in
    let long : length line ≡ length body - (k + 1) = length-drop (k + 1) body in
    let clean : NoFeed line = feedless line (λ i less e. none (k + 1 + i) (omega arith) (omega (arith, less, long, within)) (sym (get_or-drop (k + 1) body i 0) ∙ e)) in
    subst (λ (n : ℕ). BeginsLastLine text (n + 1)) count (by without front line split clean)
  where
    by : IsWithoutFeed text body → (front line : Bytes) → body ≡ front ++ 10 ∷ line → NoFeed line → BeginsLastLine text (length front + 1)
    by (inl e) front line split clean =
        behind_feed text front (line ++ 10 ∷ []) (e ∙ ap (λ l. l ++ 10 ∷ []) split ∙ append_assoc front (10 ∷ line) (10 ∷ [])) (alone line clean)
    by (inr (e, ends)) front [] split clean = absurd (ends front (e ∙ split))
    by (inr (e, ends)) front (b ∷ line) split clean = behind_feed text front (b ∷ line) (e ∙ split) (unended b line clean)

-- where the last line feed of a text stands, if there is one
abbrev pub IsLastFeed : Bytes → Option ℕ → Type 0
IsLastFeed body r =
    MatchOption r ((i : ℕ) → i < length body → get_or body i 0 ≢ 10) (λ k. (k < length body) × (get_or body k 0 ≡ 10) × ((i : ℕ) → k < i → i < length body → get_or body i 0 ≢ 10))

pub begins_behind_last_feed : (text body : Bytes) (k : ℕ) → IsWithoutFeed text body → IsLastFeed body (Some k) → BeginsLastLine text (k + 1)
begins_behind_last_feed text body k without (within, at, none) = begins_behind_feed text body k without within at none

-- ---- the last two lines

pub last_two : (text : Bytes) (last before : ℕ) → last ≤ length text → before ≤ length (take last text) → BeginsLastLine text last → BeginsLastLine (take last text) before → drop before text ≡ last_lines 2 text
last_two text last before within less one other = by text refl (take last text) refl
  where
    split : take last text ++ drop last text ≡ text
    split = take-append-drop last text

    with_none : (line : Bytes) (rest : List Bytes) → rest ≡ line ∷ [] → concat (drop (length rest - 2) rest) ≡ line
    with_none line rest e = ap (λ ls. concat (drop (length ls - 2) ls)) e ∙ append-nil line

    with_some : (front : List Bytes) (line more : Bytes) (rest : List Bytes) → rest ≡ (front ++ line ∷ []) ++ more ∷ [] → concat (drop (length rest - 2) rest) ≡ line ++ more
    with_some front line more rest e =
        let flat : rest ≡ front ++ line ∷ more ∷ [] = e ∙ append_assoc front (line ∷ []) (more ∷ []) in
        let count : length front ≡ length (front ++ line ∷ more ∷ []) - 2 = let n : length (front ++ line ∷ more ∷ []) ≡ length front + 2 = length-append front (line ∷ more ∷ []) in omega (arith, n) in
        ap (λ ls. concat (drop (length ls - 2) ls)) flat
        ∙ ap concat (drop_at front (line ∷ more ∷ []) (length (front ++ line ∷ more ∷ []) - 2) count)
        ∙ ap (λ l. line ++ l) (append-nil more)

    by : (whole : Bytes) → text ≡ whole → (rest : Bytes) → take last text ≡ rest → drop before text ≡ last_lines 2 text
    by [] e rest f =
        let start : last ≡ 0 = one.none e in
        let none : take last text ≡ [] = ap (take last) e ∙ ap (λ n. take n []) start in
        let first : before ≡ 0 = other.none none in
        ap (λ n. drop n text) first ∙ e ∙ sym (ap (λ t. last_lines 2 t) e)
    by (b ∷ whole) e [] f =
        let first : before ≡ 0 = other.none f in
        let behind : drop last text ≡ text = sym (ap (λ l. l ++ drop last text) f) ∙ split in
        let lines : lines_of text ≡ drop last text ∷ [] = one.some (λ empty. absurd (let clash : [] ≡ b ∷ whole = sym empty ∙ e in cc)) ∙ ap (λ l. lines_of l ++ drop last text ∷ []) f in
        ap (λ n. drop n text) first ∙ sym behind ∙ sym (with_none (drop last text) (lines_of text) lines)
    by (b ∷ whole) e (c ∷ rest) f =
        let text_some = one.some (λ empty. absurd (let clash : [] ≡ b ∷ whole = sym empty ∙ e in cc)) in
        let front_some = other.some (λ empty. absurd (let clash : [] ≡ c ∷ rest = sym empty ∙ f in cc)) in
        let lines : lines_of text ≡ (lines_of (take before (take last text)) ++ drop before (take last text) ∷ []) ++ drop last text ∷ [] = text_some ∙ ap (λ l. l ++ drop last text ∷ []) front_some in
        ap (drop before) (sym split)
        ∙ drop-append-le before (take last text) (drop last text) less
        ∙ sym (with_some (lines_of (take before (take last text))) (drop before (take last text)) (drop last text) (lines_of text) lines)
