-- What is open in the expression of a rule by what is told of parts.
use Rattle.std.proofs.Common.{◌≡◌, ◌↔◌, List, [], ◌∷◌, Option, Some, None, sym, subst}
use Rattle.std.specs.List.{Contains}
use Rattle.lf_laws.proofs.Members.{behind, here}
use Rattle.lf_ast.specs.Labels.{Bytes}
use Rattle.lf_ast.specs.Rules.{RuleTree}
use Rattle.lf_ast.specs.Tree.{Tree, Number, Str, Selector, Subquery, Paren, Unary, Binary, Call, Aggregate}
use Rattle.lf_deps.specs.Reading.{Reads, selectors}
use Rattle.lf_deps.specs.views.Names.{AreNumbersBy, IsPlaced}
use Rattle.lf_forks.specs.views.ForkTests.{TellsSelectors}
use Rattle.lf_forks.specs.views.Holding.{test_of}
use Rattle.lf_open.specs.Holding.{has_own_source, names_le}
use Rattle.lf_semantics.specs.Standing.{standing}
use Rattle.lf_open.specs.declared.open_at.OpenAt.{OpenAt}
use Rattle.lf_open.specs.views.Known.{IsOfRule}
use Rattle.lf_open.specs.views.Marks.{TellsReading}
use Rattle.lf_open.specs.views.ReadNames.{IsReadGraph, IsTableOf, ReadGraph}
use Rattle.lf_open.specs.views.Told.{Facts, numbers_by, told}
use Rattle.lf_open.proofs.ByParts.{AreCommon, IsByParts, by_parts}
use Rattle.lf_open.proofs.OwnOpens.{common_is, reads_placed, stands_within}
use Rattle.lf_open.proofs.ToldLaws.{is_told}

module _ (rules : List RuleTree) (f : Facts) (g : ReadGraph) (reading : IsReadGraph rules g) (all : f.all ≡ g.all) (root : Tree) (of : IsOfRule rules root) (table : IsTableOf rules g.names (selectors root) f.table) where
  numbers : (o : Option Bytes) → Contains (selectors root) o → AreNumbersBy rules g.names o (numbers_by f o)
  numbers None c = subst (AreNumbersBy rules g.names None) (sym all) reading.all
  numbers (Some name) c = table name c

  -- the names that selectors of the expression say have places
  pub said_placed : (m : Bytes) → Contains (selectors root) (Some m) → IsPlaced g.names m
  said_placed m c = reading.names.selected of.0 m of.1 (subst (λ (e : Tree). Contains (selectors e) (Some m)) (sym of.2) c)

  placed : (n : Bytes) → Reads rules root n → IsPlaced g.names n
  placed = reads_placed rules g.names reading.names root said_placed

  module _ (forks : TellsSelectors rules (test_of f.forks)) (loud : TellsReading rules (λ r. has_own_source r.expr) f.loud) (on_le : TellsReading rules names_le f.on_le) where
    common : (x : Tree) → Contains (standing root) x → AreCommon rules f forks loud on_le x
    common (Binary op m l r span) c =
        common_is rules f root g.names numbers placed l r (λ y s. stands_within root (Binary op m l r span) c l (here l (r ∷ [])) y s) (λ y s. stands_within root (Binary op m l r span) c r (behind l (r ∷ []) r (here r [])) y s)
    common (Number text span) c = tt
    common (Str text span) c = tt
    common (Selector name matchers sight span) c = tt
    common (Subquery of sight span) c = tt
    common (Paren of span) c = tt
    common (Unary minus of span) c = tt
    common (Call name args span) c = tt
    common (Aggregate op grouping args span) c = tt

    pub told_opens : (o : OpenAt) → Contains (told f root).found o ↔ ((x : Tree) × Contains (standing root) x × IsByParts rules f.rule x o)
    told_opens o = (
      λ c. let x = ((is_told f root).found o).0 c in (x.0, x.1, (by_parts rules f forks loud on_le x.0 (common x.0 x.1) o).0 x.2),
      λ h. ((is_told f root).found o).1 (h.0, h.1, (by_parts rules f forks loud on_le h.0 (common h.0 h.1) o).1 h.2),
    )
