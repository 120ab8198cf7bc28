-- Scalars and keys on a line: their spans and offsets lie on it.
use Rattle.std.proofs.Common.{◌≡◌, ℕ, suc, ◌+◌, ◌≤◌, Bool, true, false, cond, eqb, ◌&&◌, ◌||◌, List, [], ◌∷◌, ◌++◌, Option, Some, None, length, refl, ap, arith, subst, inl, inr, eqb-true}
use Rattle.std.specs.List.{flat_map}
use Rattle.std.specs.Str.{IsUtf8}
use Rattle.std.proofs.lemmas.Bool.{cases_Bool, and_parts}
use Rattle.lf_base.specs.declared.kind.Kind.{Kind}
use Rattle.lf_base.specs.declared.kind.Kind.TheVariants.{LeftOut, NotANode}
use Rattle.lf_base.specs.declared.fault.Fault.{Fault}
use Rattle.lf_base.specs.declared.place.Span.{Span}
use Rattle.lf_base.specs.Faults.{span, LiesIn}
use Rattle.lf_scalar.specs.Cells.{Cell, cell, Value, made, end_of, character_fault}
use Rattle.lf_scalar.specs.Lines.{Line, is_blank, begins_with, after_blanks}
use Rattle.lf_scalar.specs.Scalars.{source_at}
use Rattle.lf_scalar.specs.Folding.{trimmed}
use Rattle.lf_scalar.specs.Offsets.{AreOffsets}
use Rattle.lf_scalar.specs.Splits.{Split, behind_cell}
use Rattle.lf_scalar.specs.Plain.{before_blank, is_null, value_of}
use Rattle.lf_scalar.specs.declared.quotes.Quotes.{Quotes}
use Rattle.lf_scalar.specs.Quoted.{quote_of, raw, Closes, BreaksQuoted}
use Rattle.lf_scalar.proofs.Characters.{character_lies, byte_lies, lies_further}
use Rattle.lf_scalar.proofs.Climbing as list
use Rattle.lf_scalar.proofs.Parts.{Utf8, Front, utf8-before, utf8-behind, part-utf8, after-blanks-part, trimmed-front}
use Rattle.lf_scalar.proofs.QuotedTexts.{quote-low}
use Rattle.lf_scalar.proofs.Rising.{Rises, Climbs, LinesRise, rises-le, rises-low, rises-front, rises-part, rises-before, rises-behind, climbs-from, climbs-end}
use Rattle.lf_scalar.proofs.TextLaws.{IsPlaced, made-placed, climbs-mount, end-mounts, null-mounts, quoted-placed, rises-push}
use Rattle.lf_scalar.proofs.BlockTexts.{Mounts}
use Rattle.lf_scalar.proofs.Utf8Lines.{utf8-nil, utf8-append, utf8-low}
use Rattle.lf_scalar.proofs.Within.{quoted_lies}
use Rattle.lf_yaml.specs.Rows.{ContentRow, text_of}
use Rattle.lf_yaml.specs.Heads.{key_in, Key, Bare, Between, up_to, IsBetween, BetweenBreaks, IsKey, IsSignBehind, BeginsEntry}
use Rattle.lf_yaml.specs.Heads as heads
use Rattle.lf_yaml.specs.Flow.{line_on, lines_below, is_flow_sign, is_bracket, is_flow_property, line_text, line_left, colon_in, part_fault, sign_fault, FlowScalar, PlainBreaks, FlowScalarBreaks, FlowKey}
use Rattle.lf_yaml.specs.Flow as flow
use Rattle.lf_yaml.specs.Spans.{empty_at}
use Rattle.lf_yaml.specs.Insides.{ScalarInside, Inside}
use Rattle.lf_yaml.proofs.FlowKeys.{split-source}
use Rattle.lf_yaml.proofs.FlowLines.{is-onward, onward-rises, text-rises, plain-climbs, InFile, source-rises, lines-rise-here}
use Rattle.lf_yaml.proofs.FlowParts.{ascii-boundary}
use Rattle.lf_yaml.proofs.InsideRows.{source_utf8}

-- ---- a scalar that begins at an offset

abbrev pub ScalarFrom : ℕ → ℕ → Value → Type 0
ScalarFrom n at v = ScalarInside n v × (v.span.start ≡ at)

in_order : (text from : List ℕ) (place : Span) → AreOffsets text from place → place.start ≤ place.end
in_order text from place h =
    let up = h.1 0 (length text) 0 (omega arith) (omega (arith, h.0)) in
    omega (arith, h.2, h.3, up)

pub placed_from : (n at hi : ℕ) (v : Value) → IsPlaced v at hi → hi ≤ n → ScalarFrom n at v
placed_from n at hi v p le = (((in_order v.text v.from v.span p.offsets, omega (arith, p.within, le)), p.offsets), p.start)

pub empty_inside : (n at : ℕ) → at ≤ n → Inside n (empty_at at)
empty_inside n at le = ((omega arith, le), list.are-offsets [] (at ∷ []) (span at at) refl (omega arith, omega arith))

-- some cells that rise, and the text of a scalar that ends with them
module _ (n at : ℕ) (cells : List Cell) (rises : Rises at cells n) where
  cells_climb : Climbs at cells n
  cells_climb = climbs-from at cells n rises

  pub cells_mount : Mounts at cells (end_of at cells)
  cells_mount = end-mounts at at cells n (omega arith) (climbs-mount at cells n cells_climb)

  pub made_from : (v : Value) (text : List Cell) → Mounts at text (end_of at cells) → v ≡ made text (end_of at cells) (span at (end_of at cells)) → ScalarFrom n at v
  made_from v text m e =
      let le : end_of at cells ≤ n = climbs-end at at cells n (rises-le at cells n rises) cells_climb in
      placed_from n at n v (made-placed v text (end_of at cells) at n at (end_of at cells) e refl m (omega arith) le) (omega arith)

-- ---- scalars between quotes

module _ (n : ℕ) (kind : Quotes) (c : Cell) (cs : List Cell) (between : Closes kind cs) (rises : Rises c.at (c ∷ cs) n) where
  inner : Rises (suc c.at) (flat_map raw between.raws ++ between.closing ∷ between.rest) n
  inner = subst (λ (xs : List Cell). Rises (suc c.at) xs n) between.source rises.1

  pub closing_within : suc between.closing.at ≤ n
  closing_within = rises-le (suc between.closing.at) between.rest n (rises-behind (suc c.at) (flat_map raw between.raws) between.closing between.rest n inner)

  pub up_to_rises : Rises c.at (c ∷ up_to between) (between.closing.at + 1)
  up_to_rises = (omega arith, rises-push (suc c.at) (flat_map raw between.raws) between.closing (rises-before (suc c.at) (flat_map raw between.raws) between.closing between.rest n inner))

  pub between_from : (v : Value) → IsBetween kind c cs between v → ScalarFrom n c.at v
  between_from v b =
      let stop : suc between.closing.at ≤ n = closing_within in
      placed_from n c.at (between.closing.at + 1) v (quoted-placed kind c.at (between.closing.at + 1) c (up_to between) v refl up_to_rises b) (omega (arith, stop))

  -- what stands behind the closing quote
  pub rest_rises : Rises c.at between.rest n
  rest_rises =
      let k = rises-behind (suc c.at) (flat_map raw between.raws) between.closing between.rest n inner in
      let before = rises-le (suc c.at) (flat_map raw between.raws) between.closing.at (rises-before (suc c.at) (flat_map raw between.raws) between.closing between.rest n inner) in
      rises-low (suc between.closing.at) c.at between.rest n (omega (arith, before)) k

  module _ (utf8 : Utf8 (c ∷ cs)) where
    whole : Utf8 ((c ∷ flat_map raw between.raws) ++ between.closing ∷ between.rest)
    whole = subst (λ (xs : List Cell). Utf8 (c ∷ xs)) between.source utf8

    pub rest_utf8 : Utf8 between.rest
    rest_utf8 = utf8-behind (c ∷ flat_map raw between.raws) between.closing between.rest whole (quote-low kind between.closing between.closes)

    pub between_lies : (f : Fault) → c.byte ≡ quote_of kind → BreaksQuoted kind (between.closing.at + 1) c (up_to between) f → LiesIn n f.span
    between_lies f q b =
        let low = quote-low kind between.closing between.closes in
        let front : Utf8 (c ∷ flat_map raw between.raws) = utf8-before (c ∷ flat_map raw between.raws) between.closing between.rest whole low in
        let cut : Utf8 (c ∷ up_to between) = utf8-append (c ∷ flat_map raw between.raws) (between.closing ∷ []) front (utf8-low between.closing [] low utf8-nil) in
        let stop : suc between.closing.at ≤ n = closing_within in
        lies_further (between.closing.at + 1) n f.span (omega (arith, stop)) (quoted_lies kind (between.closing.at + 1) c (up_to between) f b c.at q cut up_to_rises)

pub escape_lies : (n : ℕ) (kind : Quotes) (c : Cell) (cs : List Cell) (f : Fault) → Rises c.at (c ∷ cs) n → Utf8 (c ∷ cs) → c.byte ≡ quote_of kind → BetweenBreaks kind c cs f → LiesIn n f.span
escape_lies n kind c cs f r u q b = between_lies n kind c cs b.0 r u f q b.1

-- ---- plain texts

front_rises : (lo n : ℕ) (all part : List Cell) → Front all part → Rises lo all n → Rises lo part n
front_rises lo n all part f r = rises-front lo part f.back n (subst (λ (xs : List Cell). Rises lo xs n) f.source r)

-- ---- scalars in flow collections

abbrev pub LeftIn : ℕ → ℕ → List Cell → Type 0
LeftIn n lo cs = Rises lo cs n × Utf8 cs

-- a scalar of a file
module _ (bytes : List ℕ) where
  abbrev end : ℕ
  end = length bytes

  quoted_rises : (c : Cell) → suc c.at ≤ end → Rises c.at (c ∷ source_at bytes (suc c.at)) end
  quoted_rises c le = (omega arith, source-rises bytes (suc c.at) le)

  pub flow_scalar_in : (c : Cell) (cs : List Cell) (v : Value) (after : ℕ) → FlowScalar bytes c cs v after → suc c.at ≤ end → ScalarFrom end c.at v
  flow_scalar_in c cs v _ (flow.FlowScalar.quoted kind between q b) le = between_from end kind c (source_at bytes (suc c.at)) between (quoted_rises c le) v b
  flow_scalar_in c cs _ after (flow.FlowScalar.plain {text = text} p l) le =
      let climbs : Climbs c.at text end = plain-climbs (line_on bytes c.at) (lines_below bytes c.at) text after l c.at end (lines-rise-here bytes c.at (omega (arith, le))) in
      let m : Mounts c.at text (end_of c.at text) = end-mounts c.at c.at text end (omega arith) (climbs-mount c.at text end climbs) in
      let stop : end_of c.at text ≤ end = climbs-end c.at c.at text end (omega (arith, le)) climbs in
      placed_from end c.at end (value_of c text)
      (made-placed (value_of c text) (cond (is_null text) [] text) (end_of c.at text) c.at end c.at (end_of c.at text) refl refl (null-mounts (is_null text) c.at text (end_of c.at text) m) (omega arith) stop) (omega arith)

  -- what breaks one
  flow_inside_lies : (c : Cell) (kind : Quotes) (f : Fault) → suc c.at ≤ end → Utf8 (c ∷ source_at bytes (suc c.at)) → c.byte ≡ quote_of kind → BetweenBreaks kind c (source_at bytes (suc c.at)) f → LiesIn end f.span
  flow_inside_lies c kind f le u q b = escape_lies end kind c (source_at bytes (suc c.at)) f (quoted_rises c le) u q b

colon_lies : (n lo : ℕ) (text behind : List Cell) (w : Cell) → colon_in text behind ≡ Some w → Rises lo text n → (w.byte ≡ 58) × (suc w.at ≤ n)
colon_lies n lo [] behind w e r = none e
  where
    none : None ≡ Some w → (w.byte ≡ 58) × (suc w.at ≤ n)
    none e = absurd cc
colon_lies n lo (c ∷ text) behind w e r =
    elim (cases_Bool (eqb c.byte 58 && before_blank (text ++ behind))) [
      | inl a ↦
          let same : c ≡ w = is c w (rw a at e) in
          subst (λ (x : Cell). (x.byte ≡ 58) × (suc x.at ≤ n)) same (eqb-true c.byte 58 (and_parts (eqb c.byte 58) (before_blank (text ++ behind)) a).0, rises-le (suc c.at) text n r.1)
      | inr a ↦ colon_lies n (suc c.at) text behind w (rw a at e) r.1
    ]
  where
    is : (x y : Cell) → Some x ≡ Some y → x ≡ y
    is x y e = cc

plain_lies : (n lo : ℕ) (l : Line) (ls : List Line) (f : Fault) → PlainBreaks l ls f → LinesRise lo (l ∷ ls) n → LiesIn n f.span
plain_lies n lo l ls _ (flow.PlainBreaks.colon {c = c} xs e) r =
    let k = colon_lies l.break lo (line_text l) (line_left l) c e (text-rises lo l.break l r.0) in
    let le = r.1 in
    byte_lies c.at n (omega (arith, k.1, le))
plain_lies n lo l ls f (flow.PlainBreaks.later {next = next} {later = below} {k = k} e g rest) r =
    plain_lies n (suc l.break) next below f rest (onward-rises 0 (suc l.break) n ls (k, next, below) (is-onward l ls (k, next, below) g) r.2)

-- the character that a part begins with
pub part_lies : (n : ℕ) (c : Cell) (cs : List Cell) → LeftIn n c.at (c ∷ cs) → (kind : Kind) → LiesIn n (character_fault kind c).span
part_lies n c cs h kind = character_lies c.at c cs n h.1 h.0 kind

pub no_part_lies : (n : ℕ) (c : Cell) (cs : List Cell) → LeftIn n c.at (c ∷ cs) → LiesIn n (part_fault c cs).span
no_part_lies n c cs h = by (is_bracket c || is_flow_property c cs)
  where
    by : (b : Bool) → LiesIn n (cond b (character_fault LeftOut c) (character_fault NotANode c)).span
    by true = part_lies n c cs h LeftOut
    by false = part_lies n c cs h NotANode

pub no_sign_lies : (n : ℕ) (c : Cell) (cs : List Cell) → LeftIn n c.at (c ∷ cs) → LiesIn n (sign_fault c).span
no_sign_lies n c cs h = by (is_bracket c)
  where
    by : (b : Bool) → LiesIn n (cond b (character_fault LeftOut c) (character_fault NotANode c)).span
    by true = part_lies n c cs h LeftOut
    by false = part_lies n c cs h NotANode

pub flow_scalar_lies : (bytes : List ℕ) (c : Cell) (cs : List Cell) (f : Fault) → IsUtf8 bytes → FlowScalarBreaks bytes c cs f → LeftIn (length bytes) c.at (c ∷ cs) → InFile bytes c → LiesIn (length bytes) f.span
flow_scalar_lies bytes c cs _ utf8 (flow.FlowScalarBreaks.no_scalar e) h is = no_part_lies (length bytes) c cs h
flow_scalar_lies bytes c cs _ utf8 (flow.FlowScalarBreaks.open_quote o) h is = byte_lies c.at (length bytes) (rises-le (suc c.at) cs (length bytes) h.0.1)
flow_scalar_lies bytes c cs f utf8 (flow.FlowScalarBreaks.inside kind q b) h is =
    let low = quote-low kind c q in
    let u : Utf8 (c ∷ source_at bytes (suc c.at)) = utf8-low c (source_at bytes (suc c.at)) low (source_utf8 bytes utf8 (suc c.at) (ascii-boundary bytes c utf8 is low)) in
    flow_inside_lies bytes c kind f (rises-le (suc c.at) cs (length bytes) h.0.1) u q b
flow_scalar_lies bytes c cs f utf8 (flow.FlowScalarBreaks.plain_lines p b) h is =
    let le = rises-le (suc c.at) cs (length bytes) h.0.1 in
    plain_lies (length bytes) c.at (line_on bytes c.at) (lines_below bytes c.at) f b (lines-rise-here bytes c.at (omega (arith, le)))

-- ---- keys

abbrev sign_of : Option Split → Cell
sign_of None = cell 0 0
sign_of (Some x) = x.1.0

sign_step : (c : Cell) (cs : List Cell) (x : Split) (a z b d : Bool) (o : Option Split) → eqb c.byte 58 ≡ a → ((y : Split) → o ≡ Some y → y.1.0.byte ≡ 58)
    → cond (a && z) (Some ([], (c, cs))) (cond b None (cond d None (behind_cell c o))) ≡ Some x → x.1.0.byte ≡ 58
sign_step c cs x true true b d o a more h = let same : c ≡ x.1.0 = ap sign_of h in subst (λ (y : Cell). y.byte ≡ 58) same (eqb-true c.byte 58 a)
sign_step c cs x true false true d o a more h = absurd cc
sign_step c cs x true false false true o a more h = absurd cc
sign_step c cs x true false false false None a more h = absurd cc
sign_step c cs x true false false false (Some y) a more h = let same : y.1.0 ≡ x.1.0 = ap sign_of h in subst (λ (z : Cell). z.byte ≡ 58) same (more y refl)
sign_step c cs x false z true d o a more h = absurd cc
sign_step c cs x false z false true o a more h = absurd cc
sign_step c cs x false z false false None a more h = absurd cc
sign_step c cs x false z false false (Some y) a more h = let same : y.1.0 ≡ x.1.0 = ap sign_of h in subst (λ (z : Cell). z.byte ≡ 58) same (more y refl)

-- the sign of a key is a `:`
pub split_sign : (stops : Cell → Bool) (ends : List Cell → Bool) (cs : List Cell) (x : Split) → key_in stops ends cs ≡ Some x → x.1.0.byte ≡ 58
unfolding key_in
split_sign stops ends [] x e = absurd cc
split_sign stops ends (c ∷ cs) x e =
    sign_step c cs x (eqb c.byte 58) (ends cs) (stops c) (is_blank c && begins_with 35 cs) (key_in stops ends cs) refl (λ y h. split_sign stops ends cs y h) e

-- a key without quotes has cells of its line
abbrev pub KeyIn : ℕ → ℕ → Key → Type 0
KeyIn n at (Bare text) = Rises at text n
KeyIn n at (Between kind) = Unit {0}

-- a key that begins at an offset, its `:`, and what stands behind it
pub record SignedIn (n at : ℕ) (k : Key) (colon : Cell) (rest : List Cell) : Type 0 where
  pub key : KeyIn n at k
  pub low : at ≤ colon.at
  pub within : suc colon.at ≤ n
  pub rest_in : LeftIn n colon.at rest

bare_in : (n : ℕ) (c : Cell) (cs front rest : List Cell) (colon : Cell) → c ∷ cs ≡ front ++ colon ∷ rest → colon.byte ≡ 58 → LeftIn n c.at (c ∷ cs) → SignedIn n c.at (Bare (trimmed is_blank front)) colon rest
bare_in n c cs front rest colon e s h =
    let r : Rises c.at (front ++ colon ∷ rest) n = subst (λ (xs : List Cell). Rises c.at xs n) e h.0 in
    let u : Utf8 (front ++ colon ∷ rest) = subst Utf8 e h.1 in
    let behind : Rises (suc colon.at) rest n = rises-behind c.at front colon rest n r in
    record {
      key = front_rises c.at n front (trimmed is_blank front) (trimmed-front front) (rises-front c.at front (colon ∷ rest) n r);
      low = rises-le c.at front colon.at (rises-before c.at front colon rest n r);
      within = rises-le (suc colon.at) rest n behind;
      rest_in = (rises-low (suc colon.at) colon.at rest n (omega arith) behind, utf8-behind front colon rest u (omega (arith, s)));
    }

quoted_in : (n : ℕ) (kind : Quotes) (c : Cell) (cs : List Cell) (between : Closes kind cs) (colon : Cell) (rest : List Cell) → IsSignBehind between.rest colon rest → LeftIn n c.at (c ∷ cs) → SignedIn n c.at (Between kind) colon rest
quoted_in n kind c cs between colon rest s h =
    let r : Rises c.at (colon ∷ rest) n = subst (λ (xs : List Cell). Rises c.at xs n) s.0 (rises-part c.at between.rest (after_blanks between.rest) n (after-blanks-part between.rest) (rest_rises n kind c cs between h.0)) in
    let u : Utf8 (colon ∷ rest) = subst Utf8 s.0 (part-utf8 between.rest (after_blanks between.rest) (after-blanks-part between.rest) (rest_utf8 n kind c cs between h.0 h.1)) in
    record {
      key = tt;
      low = r.0;
      within = rises-le (suc colon.at) rest n r.1;
      rest_in = (rises-low (suc colon.at) colon.at rest n (omega arith) r.1, utf8-behind [] colon rest u (omega (arith, s.1)));
    }

pub entry_key_in : (n : ℕ) (r : ContentRow) (k : Key) (colon : Cell) (rest : List Cell) → BeginsEntry r k colon rest → LeftIn n r.first.at (text_of r) → SignedIn n r.first.at k colon rest
entry_key_in n r _ colon rest (heads.BeginsEntry.bare {front = front} p l e) h =
    bare_in n r.first r.rest front rest colon (split-source heads.never before_blank (text_of r) (front, (colon, rest)) e) (split_sign heads.never before_blank (text_of r) (front, (colon, rest)) e) h
entry_key_in n r _ colon rest (heads.BeginsEntry.quoted kind between q l s b) h = quoted_in n kind r.first r.rest between colon rest s h

-- what the key is
pub key_from : (n : ℕ) (c : Cell) (cs : List Cell) (k : Key) (colon : Cell) (rest : List Cell) (v : Value) → SignedIn n c.at k colon rest → Rises c.at (c ∷ cs) n → IsKey c cs k v → ScalarFrom n c.at v
key_from n c cs (Bare text) colon rest v s r e = made_from n c.at text s.key v text (cells_mount n c.at text s.key) e
key_from n c cs (Between kind) colon rest v s r (between, b) = between_from n kind c cs between r v b

-- a key of a flow mapping
pub flow_key_from : (n : ℕ) (c : Cell) (cs : List Cell) (k : Key) (colon : Cell) (v : Value) → FlowKey c cs k colon → Rises c.at (c ∷ cs) n → IsKey c cs k v → ScalarFrom n c.at v
flow_key_from n c cs _ colon v (flow.FlowKey.quoted kind between q s near) r (other, b) = between_from n kind c cs other r v b
flow_key_from n c cs _ colon v (flow.FlowKey.bare {front = front} {rest = rest} p e nn) r h =
    let whole : Rises c.at ((c ∷ front) ++ colon ∷ rest) n = subst (λ (xs : List Cell). Rises c.at xs n) (split-source is_flow_sign before_blank (c ∷ cs) (c ∷ front, (colon, rest)) e) r in
    let text : Rises c.at (trimmed is_blank (c ∷ front)) n = front_rises c.at n (c ∷ front) (trimmed is_blank (c ∷ front)) (trimmed-front (c ∷ front)) (rises-front c.at (c ∷ front) (colon ∷ rest) n whole) in
    made_from n c.at (trimmed is_blank (c ∷ front)) text v (trimmed is_blank (c ∷ front)) (cells_mount n c.at (trimmed is_blank (c ∷ front)) text) h
