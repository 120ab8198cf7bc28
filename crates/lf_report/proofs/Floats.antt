-- A report's JSON has no float.
use Rattle.std.proofs.Common.{◌≡◌, ℕ, Bool, true, false, List, [], ◌∷◌, map, Option, Some, None, refl, ap, ◌∙◌, ◌||◌}
use Rattle.std.specs.FinMap as map_of
use Rattle.std.specs.List.{fold}
use Rattle.std.specs.Ordering.{match_ordering, nat_cmp}
use Rattle.std.specs.Cmp.Lexicographic.{slice_cmp}
use Rattle.std.specs.declared.cmp.Ordering.{Ordering}
use Rattle.std.specs.declared.cmp.Ordering.TheVariants.{Less, Equal, Greater}
use Rattle.serde_json.specs.Data.{Data, Members, member, no_members, put, string}
use Rattle.serde_json.specs.View.{items_of}
use Rattle.serde_json.specs.Written.{has_float, items_have_float, members_have_float}
use Rattle.lf_ast.specs.Labels.{Bytes, Labels as LabelMap}
use Rattle.lf_report.specs.Json.{count_data, list_data, refusal_data, set_data, summary_data}
use Rattle.lf_report.specs.declared.report.FileReport.{FileReport}
use Rattle.lf_report.specs.declared.report.Refused.{Refused}
use Rattle.lf_report.specs.declared.report.Report.{Report}

both : (a b : Bool) → a ≡ false → b ≡ false → a || b ≡ false
both a b h k = ap (λ x. x || b) h ∙ k

left_of : (a b : Bool) → a || b ≡ false → a ≡ false
left_of false b h = refl
left_of true b h = h

right_of : (a b : Bool) → a || b ≡ false → b ≡ false
right_of false b h = h
right_of true b h = cc

floats_of : {X : Type 0} (f : X → Data) → ((x : X) → has_float (f x) ≡ false) → (xs : List X) → items_have_float (items_of (map f xs)) ≡ false
floats_of f h [] = refl
floats_of f h (x ∷ xs) = both (has_float (f x)) _ (h x) (floats_of f h xs)

put_floats : (k : Bytes) (d : Data) (ms : Members) → has_float d ≡ false → members_have_float ms ≡ false → members_have_float (put k d ms) ≡ false
put_floats k d no_members h m = both (has_float d) false h refl
put_floats k d (member l e ms) h m = by (slice_cmp nat_cmp k l) (put_floats k d ms h (right_of (has_float e) (members_have_float ms) m))
  where
    by : (o : Ordering) → members_have_float (put k d ms) ≡ false → members_have_float (match_ordering o (member k d (member l e ms)) (member l d ms) (member l e (put k d ms))) ≡ false
    by Less later = both (has_float d) _ h m
    by Equal later = both (has_float d) _ h (right_of (has_float e) (members_have_float ms) m)
    by Greater later = both (has_float e) _ (left_of (has_float e) (members_have_float ms) m) later

set_floats_from : (entries : List (Bytes × Bytes)) (ms : Members) → members_have_float ms ≡ false
    → members_have_float (fold (λ (ms : Members) (entry : Bytes × Bytes). put entry.0 (string entry.1) ms) ms entries) ≡ false
set_floats_from [] ms h = h
set_floats_from (e ∷ es) ms h = set_floats_from es (put e.0 (string e.1) ms) (put_floats e.0 (string e.1) ms refl h)

pub set_floats : (set : LabelMap) → has_float (set_data set) ≡ false
set_floats set = set_floats_from (map_of.entries set) no_members refl

pub steps_floats : (steps : List ℕ) → has_float (list_data (map count_data steps)) ≡ false
steps_floats steps = floats_of count_data (λ n. refl) steps

pub refusal_floats : (file : FileReport) (why : Option Refused) → has_float (refusal_data file why) ≡ false
refusal_floats file None = refl
refusal_floats file (Some why) = refl

pub summary_floats : (report : Report) → has_float (summary_data report) ≡ false
summary_floats report = by report.labels
  where
    by : (labels : Bool) → has_float (summary_data (record { labels = labels; files = report.files; rules = report.rules; universe = report.universe })) ≡ false
    by true = refl
    by false = refl
