-- The members of a label set's object, label by label.
use Rattle.std.proofs.Common.{◌≡◌, ℕ, ◌+◌, ◌<◌, ◌≤◌, List, [], ◌∷◌, ◌++◌, length, take, Some, refl, ap, sym, ◌∙◌}
use Rattle.std.specs.Prelude.{slice_get}
use Rattle.std.specs.List.{fold}
use Rattle.std.proofs.lemmas.List.{take_all, take_more}
use Rattle.std.proofs.lemmas.Option.{get_or_from_slice_get, slice_get_within}
use Rattle.serde_json.specs.Data.{Members, no_members, put, string}
use Rattle.lf_ast.specs.Labels.{Bytes}
use Rattle.lf_report.specs.Json.{set_members}

abbrev one_more : Members → Bytes × Bytes → Members
one_more ms entry = put entry.0 (string entry.1) ms

set_push : (ms : Members) (entries : List (Bytes × Bytes)) (e : Bytes × Bytes) → fold one_more ms (entries ++ e ∷ []) ≡ one_more (fold one_more ms entries) e
set_push ms [] e = refl
set_push ms (x ∷ xs) e = set_push (one_more ms x) xs e

pub set_more : (entries : List (Bytes × Bytes)) (k : ℕ) (name text : Bytes) {old new : Members} → slice_get entries k ≡ Some (name, text) → old ≡ set_members (take k entries)
    → new ≡ put name (string text) old → new ≡ set_members (take (k + 1) entries)
set_more entries k name text {old} at before pushed =
    let e : Bytes × Bytes = (name, text) in
    let inside : k < length entries = slice_get_within entries k e at in
    pushed ∙ ap (λ ms. put name (string text) ms) before
    ∙ sym (ap set_members (take_more entries k e inside ∙ ap (λ (x : Bytes × Bytes). take k entries ++ x ∷ []) (get_or_from_slice_get entries k e e at)) ∙ set_push no_members (take k entries) e)

pub set_all : (entries : List (Bytes × Bytes)) (k : ℕ) → length entries ≤ k → set_members (take k entries) ≡ set_members entries
set_all entries k h = ap set_members (take_all k entries h)
