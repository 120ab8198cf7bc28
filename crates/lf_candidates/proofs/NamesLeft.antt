-- The row of the names that matchers leave: a class of `__name__` whose text passes them stays in it.
use Rattle.std.proofs.Common.{◌≡◌, ℕ, zero, suc, ◌+◌, ◌<◌, Bool, true, false, not, ◌&&◌, ◌||◌, cond, eqb, List, get_or, length, map, take, refl, sym, ◌∙◌, ap, arith, true≢false}
use Rattle.std.specs.Str.{bytes_eq}
use Rattle.std.proofs.lemmas.Bool.{and_parts, false_from_ne_true}
use Rattle.std.proofs.lemmas.List.Folds.{list_all_more}
use Rattle.std.proofs.Math.Bool.{and-false}
use Rattle.lf_laws.proofs.Members.{same_true}
use Rattle.lf_ast.specs.Labels.{Bytes}
use Rattle.lf_ast.specs.declared.expr.Matcher.{Matcher}
use Rattle.lf_ast.specs.declared.expr.MatchOp.{MatchOp}
use Rattle.lf_semantics.specs.ClassRows.{Sets, emptied, holds, is_live, kept, narrowed, normalized, remade, top}
use Rattle.lf_semantics.specs.Grouped.{is_metric}
use Rattle.lf_semantics.specs.Listing.{Listing, class_of, other_class}
use Rattle.lf_semantics.specs.Passing.{passes}
use Rattle.lf_semantics.specs.RowTable.{text_of}
use Rattle.lf_semantics.proofs.Places.{eqb-other, text_at_class}
use Rattle.lf_semantics.proofs.RowLaws.{full_at, holds-remade, holds_within, length_remade, live_when, shape_normalized, shape_remade}
use Rattle.lf_semantics.proofs.RowSets.{emptied_holds, live_at}
use Rattle.lf_classes.specs.Limits.{IsWithin}
use Rattle.lf_classes.specs.views.PatternCache.{passing_row}
use Rattle.lf_trials.specs.Names.{passes_as_name}
use Rattle.lf_candidates.specs.views.ClassTexts.{HasPassing, text_at}
use Rattle.lf_candidates.proofs.FirstClass.{candidate_at}
use Rattle.lf_candidates.proofs.Labelled.{some_label}
use Rattle.lf_candidates.proofs.PassingTexts.{cached_class}

-- where other classes are taken from a row, a class that it has stays in it

module _ (row : Sets) (class : ℕ) (settled : normalized row ≡ row) (held : holds row 0 class ≡ true) where
  live : is_live row ≡ true
  live = by (is_live row) refl
    where
      by : (b : Bool) → is_live row ≡ b → b ≡ true
      by true e = refl
      by false e =
          let dead : emptied row ≡ row = ap (λ (b : Bool). cond b row (emptied row)) (sym e) ∙ settled in
          absurd (true≢false (sym held ∙ ap (λ r. holds r 0 class) (sym dead) ∙ emptied_holds row 0 class))

  module _ (f : ℕ → ℕ → Bool → Bool) (here : f 0 class true ≡ true) (elsewhere : (l c : ℕ) → 0 < l → f l c true ≡ true) where
    own : holds (remade f row) 0 class ≡ true
    own = let within = holds_within row 0 class held in holds-remade f row 0 class within.0 within.1 ∙ ap (f 0 class) held ∙ here

    each : (l : ℕ) → l < length row → (c : ℕ) × (holds (remade f row) l c ≡ true)
    each zero h = (class, own)
    each (suc l) h = let some = live_at row (suc l) live h in (some.0, holds-remade f row (suc l) some.0 h some.1 ∙ ap (f (suc l) some.0) some.2 ∙ elsewhere (suc l) some.0 (omega arith))

    stays : holds (normalized (remade f row)) 0 class ≡ true
    stays = ap (λ (b : Bool). holds (cond b (remade f row) (emptied (remade f row))) 0 class) (live_when (remade f row) (λ l h. each l (omega (arith, h, length_remade f row)))) ∙ own

  pub narrowed_stays : (test : ℕ → ℕ → Bool) → test 0 class ≡ true → holds (narrowed (λ l c. not (eqb 0 l) || test l c) row) 0 class ≡ true
  narrowed_stays test here =
      stays (λ l c on. on && (not (eqb 0 l) || test l c)) here (λ l c some. ap (λ (b : Bool). not b || test l c) (eqb-other 0 l (λ e. absurd (omega (arith, e, some)))))

  pub kept_stays : (other : ℕ) → eqb class other ≡ false → holds (kept 0 other false row) 0 class ≡ true
  kept_stays other apart =
      ap (λ (b : Bool). holds (cond b (normalized (remade (λ l c on. cond (eqb l 0 && eqb c other) false on) row)) row) 0 class) live
      ∙ stays (λ l c on. cond (eqb l 0 && eqb c other) false on) (ap (λ (b : Bool). cond b false true) apart)
      (λ l c some. ap (λ (b : Bool). cond (b && eqb c other) false true) (eqb-other l 0 (λ e. absurd (omega (arith, e, some)))))

-- the shape stays
pub shape_kept : (label class : ℕ) (on : Bool) (row : Sets) → map length (kept label class on row) ≡ map length row
shape_kept label class on row =
    let new : Sets = remade (λ l c before. cond (eqb l label && eqb c class) on before) row in
    elim (is_live row) as (λ b. map length (cond b (normalized new) row) ≡ map length row) [ true ↦ shape_normalized new ∙ shape_remade _ 0 row | false ↦ refl ]

-- no matchers take a class from the row of all
pub all_names : (u : Listing) → IsWithin u → (matchers : List Matcher) → HasPassing u matchers (top u)
all_names u within matchers class own passing = full_at u 0 class (some_label u within) (omega (arith, own))

-- one matcher more
module _ (u : Listing) (matchers : List Matcher) (i : ℕ) (m : Matcher) (less : i < length matchers) (is : m ≡ get_or matchers i m) where
  abbrev asks : Matcher → Bytes → Bool
  asks x name = not (is_metric x.label) || passes x.op x.value name

  both : (name : Bytes) → passes_as_name (take (i + 1) matchers) name ≡ true → (passes_as_name (take i matchers) name ≡ true) × (asks m name ≡ true)
  both name passing =
      and_parts (passes_as_name (take i matchers) name) (asks m name)
      (ap (λ (x : Matcher). passes_as_name (take i matchers) name && asks x name) is ∙ sym (list_all_more (λ (x : Matcher). asks x name) matchers i m less) ∙ passing)

  pub same_names : (row : Sets) → HasPassing u (take i matchers) row → HasPassing u (take (i + 1) matchers) row
  same_names row has class own passing = has class own (both (text_of u 0 class) passing).0

  pub fewer_names : (row later : Sets) → is_metric m.label ≡ true → HasPassing u (take i matchers) row
      → ((class : ℕ) → class < other_class u 0 → passes m.op m.value (text_of u 0 class) ≡ true → holds row 0 class ≡ true → holds later 0 class ≡ true) → HasPassing u (take (i + 1) matchers) later
  fewer_names row later metric has stays class own passing =
      let parts = both (text_of u 0 class) passing in
      stays class own (sym (ap (λ (b : Bool). not b || passes m.op m.value (text_of u 0 class)) metric) ∙ parts.1) (has class own parts.0)

-- what is cached of a pattern takes no class whose text passes
pub met_stays : (u : Listing) → IsWithin u → (op : MatchOp) (value : Bytes) (row cached : Sets) → cached ≡ passing_row u 0 op value → normalized row ≡ row → (class : ℕ) → class < other_class u 0
    → passes op value (text_of u 0 class) ≡ true → holds row 0 class ≡ true → holds (narrowed (λ l c. not (eqb 0 l) || holds cached l c) row) 0 class ≡ true
met_stays u within op value row cached is settled class own passing held =
    narrowed_stays row class settled held (λ l c. holds cached l c) (cached_class u 0 op value (some_label u within) cached class is own ∙ passing)

-- the class of a text is the class of no other
pub text_stays : (u : Listing) (text : Bytes) (row : Sets) → normalized row ≡ row → class_of u 0 text < other_class u 0 → (class : ℕ) → bytes_eq (text_of u 0 class) text ≡ false → holds row 0 class ≡ true
    → holds (kept 0 (class_of u 0 text) false row) 0 class ≡ true
text_stays u text row settled known class differs held =
    kept_stays row class settled held (class_of u 0 text)
    (eqb-other class (class_of u 0 text) (λ same. true≢false (sym (same_true (text_of u 0 class) text (ap (text_of u 0) same ∙ text_at_class u 0 text known)) ∙ differs)))

-- the text of a class that is taken passes no more
pub not_left : (u : Listing) → IsWithin u → (matchers : List Matcher) (row : Sets) → HasPassing u matchers row → (class : ℕ) → class < other_class u 0 → holds row 0 class ≡ false
    → (scraped : Bool) → (scraped && passes_as_name matchers (text_at u 0 class)) ≡ false
not_left u within matchers row has class own out scraped =
    let text : text_at u 0 class ≡ text_of u 0 class = (candidate_at u within 0 (some_label u within) class).own own in
    let fails : passes_as_name matchers (text_of u 0 class) ≡ false = false_from_ne_true (passes_as_name matchers (text_of u 0 class)) (λ passing. true≢false (sym (has class own passing) ∙ out)) in
    ap (λ (b : Bool). scraped && b) (ap (passes_as_name matchers) text ∙ fails) ∙ and-false scraped
