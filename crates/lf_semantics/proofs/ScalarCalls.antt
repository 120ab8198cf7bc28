-- A function that gives a scalar gives no label.
use Rattle.std.proofs.Common.{◌≡◌, Bool, true, false, not, ◌||◌, cond, List, [], ◌∷◌, Option, Some, None, refl, sym, ◌∙◌, ap}
use Rattle.std.specs.List.{list_all, list_any}
use Rattle.std.specs.Str.{bytes_eq}
use Rattle.std.proofs.lemmas.Bool.{and_parts}
use Rattle.lf_ast.specs.Functions.{SignatureRow, Signature, function_named, functions, looked_up}
use Rattle.lf_ast.specs.Labels.{Bytes}
use Rattle.lf_ast.specs.Types.{is_scalar, selected}
use Rattle.lf_ast.specs.declared.functions.LabelEffect.{LabelEffect}
use Rattle.lf_ast.specs.declared.functions.LabelEffect.TheVariants.{Maps, Keeps, Groups, CountValues, Date, Absent, LabelReplace, LabelJoin, HistogramQuantile, Bare}

-- what is looked up in a table passes the test that each row passes
pub found_passes : (test : Signature → Bool) (name : Bytes) (rows : List SignatureRow) → list_all (λ (row : SignatureRow). test row.signature) rows ≡ true → (s : Signature) → looked_up name rows ≡ Some s → test s ≡ true
found_passes test name [] all s found = absurd (cc)
found_passes test name (row ∷ rows) all s found =
    let b = and_parts (test row.signature) (list_all (λ (row : SignatureRow). test row.signature) rows) all in
    by (list_any (bytes_eq name) row.names) found b.0 (found_passes test name rows b.1 s)
  where
    by : (here : Bool) → cond here (Some row.signature) (looked_up name rows) ≡ Some s → test row.signature ≡ true → (looked_up name rows ≡ Some s → test s ≡ true) → test s ≡ true
    by true found passes rest = let same : row.signature ≡ s = cc in ap test (sym same) ∙ passes
    by false found passes rest = rest found

abbrev is_bare : LabelEffect → Bool
is_bare Bare = true
is_bare _ = false

abbrev is_bare_if_scalar : Signature → Bool
is_bare_if_scalar s = not (is_scalar s.gives) || is_bare s.labels

each_function : list_all (λ (row : SignatureRow). is_bare_if_scalar row.signature) functions ≡ true
unfolding functions
each_function = refl

-- a signature of a scalar has no labels
abbrev pub IsBareIfScalar : Signature → Type 0
IsBareIfScalar s = is_scalar s.gives ≡ true → s.labels ≡ Bare

bare_if_scalar : (s : Signature) → is_bare_if_scalar s ≡ true → IsBareIfScalar s
bare_if_scalar s passes scalar = by s.labels (second (is_scalar s.gives) (is_bare s.labels) passes scalar)
  where
    second : (a b : Bool) → (not a || b) ≡ true → a ≡ true → b ≡ true
    second true b e f = e
    second false b e f = absurd (cc)

    by : (effect : LabelEffect) → is_bare effect ≡ true → effect ≡ Bare
    by Bare e = refl
    by Maps e = absurd (cc)
    by Keeps e = absurd (cc)
    by Groups e = absurd (cc)
    by CountValues e = absurd (cc)
    by Date e = absurd (cc)
    by Absent e = absurd (cc)
    by LabelReplace e = absurd (cc)
    by LabelJoin e = absurd (cc)
    by HistogramQuantile e = absurd (cc)

pub named_is_bare : (name : Bytes) (s : Signature) → function_named name ≡ Some s → IsBareIfScalar s
unfolding function_named
named_is_bare name s found = bare_if_scalar s (found_passes is_bare_if_scalar name functions each_function s found)

-- and a selector gives no scalar
pub selector_is_no_scalar : (range : Option Bytes) → is_scalar (selected range) ≡ false
selector_is_no_scalar None = refl
selector_is_no_scalar (Some duration) = refl
