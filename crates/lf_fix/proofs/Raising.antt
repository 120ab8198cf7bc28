-- An environment to whose rows a row is joined: it grows, stays below each closed one, and stays an environment of the rules.
use Rattle.std.proofs.Common.{◌≡◌, ◌<◌, Bool, true, false, cond, List, [], ◌∷◌, map, Option, Some, None, refl, sym, ◌∙◌, ap, subst}
use Rattle.std.specs.List.{AllByRecursion, Contains}
use Rattle.std.specs.Str.{bytes_eq}
use Rattle.std.proofs.lemmas.Option.{none-some, same_Some}
use Rattle.lf_ast.specs.Labels.{Bytes}
use Rattle.lf_ast.specs.Rules.{RuleTree}
use Rattle.lf_flow.specs.Raising.{joined}
use Rattle.lf_flow.specs.Reads.{names_of}
use Rattle.lf_semantics.specs.ClassRows.{Sets, bottom, join}
use Rattle.lf_semantics.specs.Environments.{EnvironmentLeq, IsPostFixedPoint, IsEnvironmentOf, IsRow, Leq, names_recorded, recorded_names, recorded_row}
use Rattle.lf_semantics.specs.Listing.{AreDistinct, IsListing, Listing, class_of, label_of, other_class}
use Rattle.lf_semantics.specs.RowTable.{Environment, row_named}
use Rattle.lf_ast.specs.Selectors.{metric}
use Rattle.lf_semantics.proofs.ListingLaws.{first_seen_distinct}
use Rattle.lf_laws.proofs.Members.{behind, here, true_same}
use Rattle.lf_laws.proofs.Booleans.{clash}
use Rattle.lf_semantics.proofs.RowLaws.{shape_join}
use Rattle.lf_semantics.proofs.RowsGrow.{recorded_grows}
use Rattle.lf_semantics.proofs.NormalizedRows.{normalized_join}
use Rattle.lf_semantics.proofs.LeqLaws.{bottom_dead, leq_dead, leq_refl, leq_trans, leq_join_left, join_least}
use Rattle.lf_fix.specs.views.Rounds.{start}

pub environment_refl : (env : Environment) → EnvironmentLeq env env
environment_refl [] = tt
environment_refl (e ∷ env) = (refl, leq_refl e.1, environment_refl env)

-- what holds of the rows of a name
abbrev pub EachNamed : Bytes → (Sets → Type 0) → Environment → Type 0
EachNamed name P env = AllByRecursion (λ entry. bytes_eq entry.0 name ≡ true → P entry.1) env

none_here : (name : Bytes) (P : Sets → Type 0) (env : Environment) → (Contains (names_of env) name → ⊥) → EachNamed name P env
none_here name P [] h = tt
none_here name P (e ∷ env) h =
    let N : Bytes → Type 0 = λ x. Contains (e.0 ∷ names_of env) x in
    (λ same. absurd (h (subst N (true_same e.0 name same) (here e.0 (names_of env)))), none_here name P env (λ c. h (behind e.0 (names_of env) name c)))

-- of distinct names each has one row
pub each_named : (name : Bytes) (P : Sets → Type 0) (env : Environment) (top : Sets) → AreDistinct (names_of env) → row_named env name ≡ Some top → P top → EachNamed name P env
each_named name P [] top distinct is h = tt
each_named name P (e ∷ env) top distinct is h = by (bytes_eq e.0 name) refl is (λ f. each_named name P env top distinct.1 f h)
  where
    by : (b : Bool) → bytes_eq e.0 name ≡ b → cond b (Some e.1) (row_named env name) ≡ Some top → (row_named env name ≡ Some top → EachNamed name P env) → EachNamed name P (e ∷ env)
    by true f g rest =
        let N : Bytes → Type 0 = λ x. Contains (names_of env) x → ⊥ in
        (λ same. subst P (sym (same_Some e.1 top g)) h, none_here name P env (subst N (true_same e.0 name f) distinct.0))
    by false f g rest = (λ same. absurd (clash _ same f), rest g)

module _ (name : Bytes) (row : Sets) where
  names_joined : (env : Environment) → names_of (joined name row env) ≡ names_of env
  names_joined [] = refl
  names_joined (e ∷ env) = ap (λ (ys : List Bytes). e.0 ∷ ys) (names_joined env)

  classes_joined : (P : Bytes → Type 0) (env : Environment) → AllByRecursion (λ entry. P entry.0) env → AllByRecursion (λ entry. P entry.0) (joined name row env)
  classes_joined P [] h = tt
  classes_joined P (e ∷ env) h = (h.0, classes_joined P env h.1)

  abbrev joined_row : Bytes → Sets → Sets
  joined_row n old = cond (bytes_eq n name) (join old row) old

  -- the rows of the name are joined, and the others stay
  pub named_joined : (env : Environment) (n : Bytes) (old : Sets) → row_named env n ≡ Some old → row_named (joined name row env) n ≡ Some (cond (bytes_eq n name) (join old row) old)
  named_joined [] n old is = absurd (none-some old is)
  named_joined (e ∷ env) n old is = by (bytes_eq e.0 n) refl is (named_joined env n old)
    where
      by : (b : Bool) → bytes_eq e.0 n ≡ b → cond b (Some e.1) (row_named env n) ≡ Some old → (row_named env n ≡ Some old → row_named (joined name row env) n ≡ Some (cond (bytes_eq n name) (join old row) old))
          → cond b (Some (cond (bytes_eq e.0 name) (join e.1 row) e.1)) (row_named (joined name row env) n) ≡ Some (cond (bytes_eq n name) (join old row) old)
      by true f g rest =
          ap (λ (x : Bytes). Some (cond (bytes_eq x name) (join e.1 row) e.1)) (true_same e.0 n f) ∙ ap (λ (x : Sets). Some (cond (bytes_eq n name) (join x row) x)) (same_Some e.1 old g)
      by false f g rest = rest g

  unnamed_joined : (env : Environment) (n : Bytes) → row_named env n ≡ None → row_named (joined name row env) n ≡ None
  unnamed_joined [] n is = refl
  unnamed_joined (e ∷ env) n is = by (bytes_eq e.0 n) is (unnamed_joined env n)
    where
      by : (b : Bool) → cond b (Some e.1) (row_named env n) ≡ None → (row_named env n ≡ None → row_named (joined name row env) n ≡ None)
          → cond b (Some (cond (bytes_eq e.0 name) (join e.1 row) e.1)) (row_named (joined name row env) n) ≡ None
      by true g rest = absurd (none-some e.1 (sym g))
      by false g rest = rest g

  other_row : (old : Sets) (b : Bool) → b ≡ false → cond b (join old row) old ≡ old
  other_row old b e = ap (λ c. cond c (join old row) old) e

  -- another name has the row that it had
  pub others_joined : (env : Environment) (n : Bytes) → bytes_eq n name ≡ false → row_named (joined name row env) n ≡ row_named env n
  others_joined env n e = by (row_named env n) refl
    where
      by : (o : Option Sets) → row_named env n ≡ o → row_named (joined name row env) n ≡ row_named env n
      by None f = unnamed_joined env n f ∙ sym f
      by (Some old) f = named_joined env n old f ∙ ap (λ (x : Sets). Some x) (other_row old (bytes_eq n name) e) ∙ sym f

  module _ (u : Listing) (is : IsRow u row) where
    rows_joined : (env : Environment) → AllByRecursion (λ entry. IsRow u entry.1) env → AllByRecursion (λ entry. IsRow u entry.1) (joined name row env)
    rows_joined [] h = tt
    rows_joined (e ∷ env) h = (by (bytes_eq e.0 name), rows_joined env h.1)
      where
        by : (b : Bool) → IsRow u (cond b (join e.1 row) e.1)
        by true = (shape_join u e.1 row h.0.0 is.0, normalized_join u e.1 row h.0.0 is.0 is.1)
        by false = h.0

    -- it lies in what is made of it
    pub under_joined : (env : Environment) → AllByRecursion (λ entry. IsRow u entry.1) env → EnvironmentLeq env (joined name row env)
    under_joined [] h = tt
    under_joined (e ∷ env) h = (refl, by (bytes_eq e.0 name), under_joined env h.1)
      where
        by : (b : Bool) → Leq e.1 (cond b (join e.1 row) e.1)
        by true = leq_join_left u e.1 row h.0.0 is.0
        by false = leq_refl e.1

    pub environment_joined : (rules : List RuleTree) (env : Environment) → IsEnvironmentOf u rules env → IsEnvironmentOf u rules (joined name row env)
    environment_joined rules env h = record {
      environment = record {
        rows = rows_joined env h.environment.rows;
        classes = classes_joined (λ x. class_of u (label_of u metric) x < other_class u (label_of u metric)) env h.environment.classes;
      };
      names = names_joined env ∙ h.names;
    }

  -- and in what it lies in, if the row lies in the rows of the name there
  pub joined_under : (env other : Environment) → EnvironmentLeq env other → EachNamed name (λ top. Leq row top) other → EnvironmentLeq (joined name row env) other
  joined_under [] [] h each = tt
  joined_under [] (o ∷ other) h each = absurd h
  joined_under (e ∷ env) [] h each = absurd h
  joined_under (e ∷ env) (o ∷ other) h each = (h.0, by (bytes_eq e.0 name) refl, joined_under env other h.2 each.1)
    where
      by : (b : Bool) → bytes_eq e.0 name ≡ b → Leq (cond b (join e.1 row) e.1) o.1
      by true f = join_least e.1 row o.1 h.1 (each.0 (sym (ap (λ (x : Bytes). bytes_eq x name) h.0) ∙ f))
      by false f = h.1

distinct_names : (rules : List RuleTree) (names : List Bytes) → names ≡ recorded_names rules → AreDistinct names
distinct_names rules names e = let P : List Bytes → Type 0 = λ xs. AreDistinct xs in subst P (sym e) (first_seen_distinct (names_recorded rules))

module _ (u : Listing) (p : IsListing u) (rules : List RuleTree) where
  -- a step of a rule from below a closed environment stays below it
  pub step_under : (env other : Environment) (r : RuleTree) → IsEnvironmentOf u rules env → IsEnvironmentOf u rules other → IsPostFixedPoint u rules other → Contains rules r → r.alert ≡ false → EnvironmentLeq env other
      → EnvironmentLeq (joined r.name (recorded_row u env r) env) other
  step_under env other r h k closed c e below =
      let top = closed r c e in
      let lies : Leq (recorded_row u env r) top.0 = leq_trans (recorded_row u env r) (recorded_row u other r) top.0 (recorded_grows u p env other h.environment k.environment below r) top.2 in
      joined_under r.name (recorded_row u env r) env other below (each_named r.name (λ x. Leq (recorded_row u env r) x) other top.0 (distinct_names rules (names_of other) k.names) top.1 lies)

  start_under : (names : List Bytes) (other : Environment) → names_of other ≡ names → EnvironmentLeq (map (λ name. (name, bottom u)) names) other
  start_under [] [] e = tt
  start_under (n ∷ names) [] e = absurd (cc)
  start_under [] (o ∷ other) e = absurd (cc)
  start_under (n ∷ names) (o ∷ other) e = (cc, leq_dead (bottom u) o.1 (bottom_dead u p), start_under names other (cc))

  -- the start lies in each environment of the rules
  pub under_start : (other : Environment) → IsEnvironmentOf u rules other → EnvironmentLeq (start u rules) other
  under_start other h = start_under (recorded_names rules) other h.names
