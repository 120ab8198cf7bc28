-- Names with places, and tables of what they read.
use Rattle.std.proofs.Common.{◌≡◌, ◌<◌, ◌+◌, inl, inr, ℕ, Bool, true, false, cond, nat_lt, List, [], ◌∷◌, ◌++◌, length, get_or, Option, Some, None, sym, ◌∙◌, ap, subst, arith}
use Rattle.std.specs.Prelude.{slice_get}
use Rattle.std.specs.List.{Contains, flat_map}
use Rattle.std.proofs.Math.Seq.{get_or-append_seam}
use Rattle.std.proofs.lemmas.Bool.{cases_lt}
use Rattle.std.proofs.lemmas.Bool.Decides.{nat_tests}
use Rattle.std.proofs.lemmas.List.{get_or_append_left, length-append}
use Rattle.std.proofs.lemmas.List.Elements.{Contains-get_or}
use Rattle.std.proofs.lemmas.Option.{slice_get_within}
use Rattle.lf_laws.proofs.Members.{here, in_flat_map}
use Rattle.lf_laws.proofs.Slices.{number_of}
use Rattle.lf_ast.specs.Labels.{Bytes}
use Rattle.lf_ast.specs.Rules.{RuleTree}
use Rattle.lf_classes.specs.views.TextSets.{with_text}
use Rattle.lf_deps.specs.Reading.{selectors}
use Rattle.lf_deps.specs.views.Names.{AreNumbersBy}
use Rattle.lf_deps.specs.views.Search.{Grows}
use Rattle.lf_deps.specs.views.Sources.{IsSourcesOf, Sources}
use Rattle.lf_deps.proofs.LookedUp.{selected_count, selected_is}
use Rattle.lf_deps.proofs.Followed.{grows_none, grows_text, kept_in}
use Rattle.lf_semantics.specs.Environments.{names_recorded, recorded_names}
use Rattle.lf_semantics.specs.Listing.{place}
use Rattle.lf_semantics.proofs.ListingLaws.{in_first_seen, place_within}
use Rattle.lf_semantics.proofs.Places.{at_place}
use Rattle.lf_open.specs.declared.read_table.ReadTable.{ReadTable}
use Rattle.lf_open.specs.views.ReadNames.{AreRead, HaveNames, IsTableOf, said_name, said_names, with_said}

-- the names that were recorded and those that are selected have places
pub have_names : (rules : List RuleTree) (s : Sources) → IsSourcesOf rules s → (old new : List Bytes) → old ≡ recorded_names rules → Grows (flat_map said_names s.selected) old new → HaveNames rules new
have_names rules s is old new was grows = record {
  recorded = λ n c. place_within new n (kept_in (flat_map said_names s.selected) old new grows n (let P : List Bytes → Type 0 = λ l. Contains l n in subst P (sym was) (in_first_seen (names_recorded rules) n c)));
  selected = λ r n there c.
      let k = number_of rules r there in
      let own : get_or s.selected k.0 [] ≡ selectors r.expr = selected_is rules s is k.0 r k.2 in
      let P : List (Option Bytes) → Type 0 = λ l. Contains l (Some n) in
      let said : Contains (said_names (get_or s.selected k.0 [])) n = in_flat_map said_name (get_or s.selected k.0 []) (Some n) n (subst P (sym own) c) (here n []) in
      let at : Contains s.selected (get_or s.selected k.0 []) = within k.0 r k.2 in
      place_within new n (grows.3 n (in_flat_map said_names s.selected (get_or s.selected k.0 []) n at said));
}
  where
    within : (k : ℕ) (r : RuleTree) → slice_get rules k ≡ Some r → Contains s.selected (get_or s.selected k [])
    within k r at = Contains-get_or s.selected k [] (omega (arith, slice_get_within rules k r at, selected_count rules s is))

pub grows_said : (names : List Bytes) (o : Option Bytes) → Grows (said_name o) names (with_said names o)
grows_said names None = grows_none names
grows_said names (Some name) = grows_text names name

-- tables

pub text_there : (names : List Bytes) (name : Bytes) → place names name < length names → with_text names name ≡ names
text_there names name h =
    let e : nat_lt (place names name) (length names) ≡ true = grind (arith, nat_tests, h) in
    ap (λ (b : Bool). cond b names (names ++ name ∷ [])) e

pub text_new : (names : List Bytes) (name : Bytes) → place names name ≡ length names → with_text names name ≡ names ++ name ∷ []
text_new names name h =
    let e : nat_lt (place names name) (length names) ≡ false = grind (arith, nat_tests, h) in
    ap (λ (b : Bool). cond b names (names ++ name ∷ [])) e

pub text_kept : (names : List Bytes) (name : Bytes) → (place names name ≡ length names → ⊥) → place names name < length (with_text names name) → with_text names name ≡ names
text_kept names name not within = elim (cases_lt (place names name) (length names)) [
  | inl h ↦ text_there names name h
  | inr h ↦
      let e : nat_lt (place names name) (length names) ≡ false = grind (arith, nat_tests, h) in
      let is : with_text names name ≡ names ++ name ∷ [] = ap (λ (b : Bool). cond b names (names ++ name ∷ [])) e in
      let lt : place names name < length (names ++ name ∷ []) = subst (λ (l : List Bytes). place names name < length l) is within in
      let size = length-append names (name ∷ []) in
      absurd (not (omega (arith, h, lt, size)))
]

pub more_read : (rules : List RuleTree) (gnames : List Bytes) (name : Bytes) (old new : ReadTable) (read : List ℕ) → length old.reads ≡ length old.names → new.names ≡ old.names ++ name ∷ [] → new.reads ≡ old.reads ++ read ∷ []
    → AreNumbersBy rules gnames (Some name) read → AreRead rules gnames old → AreRead rules gnames new
more_read rules gnames name old new read count names reads is are j within =
    let P : List Bytes → List (List ℕ) → Type 0 = λ ns rs. AreNumbersBy rules gnames (Some (get_or ns j [])) (get_or rs j []) in
    subst (λ (ns : List Bytes). P ns new.reads) (sym names) (subst (λ (rs : List (List ℕ)). P (old.names ++ name ∷ []) rs) (sym reads) (elim (cases_lt j (length old.names)) [
      | inl h ↦
          subst (λ (n : Bytes). AreNumbersBy rules gnames (Some n) (get_or (old.reads ++ read ∷ []) j [])) (sym (get_or_append_left old.names (name ∷ []) [] j h))
          (subst (λ (r : List ℕ). AreNumbersBy rules gnames (Some (get_or old.names j [])) r) (sym (get_or_append_left old.reads (read ∷ []) [] j (omega (arith, h, count)))) (are j h))
      | inr h ↦
          let size = length-append old.names (name ∷ []) in
          let last : j ≡ length old.names = omega (arith, h, within, ap length names, size) in
          subst (λ (n : Bytes). AreNumbersBy rules gnames (Some n) (get_or (old.reads ++ read ∷ []) j [])) (sym (ap (λ (k : ℕ). get_or (old.names ++ name ∷ []) k []) last ∙ get_or-append_seam old.names name [] []))
          (subst (λ (r : List ℕ). AreNumbersBy rules gnames (Some name) r) (sym (ap (λ (k : ℕ). get_or (old.reads ++ read ∷ []) k []) (last ∙ sym count) ∙ get_or-append_seam old.reads read [] [])) is)
    ]))

pub table_of : (rules : List RuleTree) (gnames : List Bytes) (found : List (Option Bytes)) (t : ReadTable) → AreRead rules gnames t → Grows (said_names found) [] t.names → IsTableOf rules gnames found t
table_of rules gnames found t are grows n c =
    let at : place t.names n < length t.names = place_within t.names n (grows.3 n (in_flat_map said_name found (Some n) n c (here n []))) in
    subst (λ (m : Bytes). AreNumbersBy rules gnames (Some m) (get_or t.reads (place t.names n) [])) (at_place t.names n at) (are (place t.names n) at)
