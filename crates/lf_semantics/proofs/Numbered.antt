-- Tests on labels by their numbers are those by their names.
use Rattle.std.proofs.Common.{◌≡◌, not, List, [], ◌∷◌, Option, Some, None, refl, ◌∙◌, ap}
use Rattle.std.specs.List.{AllByRecursion}
use Rattle.lf_ast.specs.Labels.{Bytes}
use Rattle.lf_ast.specs.Types.{is_among, names_at}
use Rattle.lf_ast.specs.declared.expr.Grouping.{Grouping}
use Rattle.lf_ast.specs.declared.expr.Grouping.TheVariants.{None as Ungrouped, By, Without}
use Rattle.lf_ast.specs.declared.expr.Matching.{Matching}
use Rattle.lf_ast.specs.declared.expr.Name.{Name}
use Rattle.lf_ast.specs.declared.expr.Op.{Op}
use Rattle.lf_ast.specs.Selectors.{metric}
use Rattle.lf_semantics.specs.Environments.{IsKnown}
use Rattle.lf_semantics.specs.Grouped.{is_grouped_by, is_metric, keeps, keeps_by, signs, signs_by}
use Rattle.lf_semantics.specs.Listing.{IsListing, Listing, label_of}
use Rattle.lf_semantics.specs.RowTable.{is_group_label, is_label_among, is_metric_label, keeps_label, keeps_label_by, signs_label, signs_label_by}
use Rattle.lf_semantics.specs.Mentions.{group_names, names_mentions}
use Rattle.lf_semantics.proofs.Places.{label_test, metric_listed}
use Rattle.lf_ast.proofs.LabelOrders.{symmetric}

-- the names of a list are labels of the universe
abbrev pub AreKnown : Listing → List Name → Type 0
AreKnown u names = AllByRecursion (IsKnown u) (names_mentions names)

module _ (u : Listing) where
  pub among_label : (names : List Name) → AreKnown u names → (name : Bytes) → is_label_among u names (label_of u name) ≡ is_among names name
  among_label [] known name = refl
  among_label (n ∷ names) known name = rw (label_test u n.text name known.0.0, among_label names known.1 name, symmetric n.text name) refl

  module _ (p : IsListing u) where
    pub metric_label : (name : Bytes) → is_metric_label u (label_of u name) ≡ is_metric name
    metric_label name = label_test u metric name (metric_listed u p) ∙ symmetric metric name

    pub group_label : (grouping : Grouping) → AreKnown u (group_names grouping) → (name : Bytes) → is_group_label u grouping (label_of u name) ≡ is_grouped_by grouping name
    group_label Ungrouped known name = refl
    group_label (By names) known name = among_label names known name
    group_label (Without names) known name = rw (among_label names known name, metric_label name) refl

    sign_by : (on ignoring : Option (List Name)) → AreKnown u (names_at on) → AreKnown u (names_at ignoring) → (name : Bytes) → signs_label_by u on ignoring (label_of u name) ≡ signs_by on ignoring name
    sign_by (Some on) ignoring k l name = among_label on k name
    sign_by None ignoring k l name = rw (among_label (names_at ignoring) l name, metric_label name) refl

    pub sign_label : (m : Matching) → AreKnown u (names_at m.on) → AreKnown u (names_at m.ignoring) → (name : Bytes) → signs_label u m (label_of u name) ≡ signs m name
    sign_label m k l name = sign_by m.on m.ignoring k l name

    keep_by : (on ignoring : Option (List Name)) → AreKnown u (names_at on) → AreKnown u (names_at ignoring) → (name : Bytes) → keeps_label_by u on ignoring (label_of u name) ≡ keeps_by on ignoring name
    keep_by (Some on) ignoring k l name = among_label on k name
    keep_by None ignoring k l name = ap not (among_label (names_at ignoring) l name)

    pub keep_label : (op : Op) (m : Matching) → AreKnown u (names_at m.on) → AreKnown u (names_at m.ignoring) → (name : Bytes) → keeps_label u op m (label_of u name) ≡ keeps op m name
    keep_label op m k l name = rw (keep_by m.on m.ignoring k l name, metric_label name) refl
