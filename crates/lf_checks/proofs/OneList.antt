-- A rule has one list of findings at most.
use Rattle.std.proofs.Common.{◌≡◌, ℕ, List}
use Rattle.std.specs.Cmp.{on_total}
use Rattle.std.specs.Cmp.Lexicographic.{nat_list_cmp_total}
use Rattle.lf_laws.proofs.Ascending.{same_lists}
use Rattle.lf_ast.specs.Rules.{RuleTree}
use Rattle.lf_semantics.specs.Listing.{Listing, universe_of}
use Rattle.lf_semantics.specs.RowTable.{Environment}
use Rattle.lf_checks.specs.Files.{File}
use Rattle.lf_checks.specs.Finding.{Finding, key_of}
use Rattle.lf_checks.specs.Findings.{AreFindings, AreFindingsIn}

-- two lists of the findings of a rule are one
pub one_list_in : (files : List File) (u : Listing) (rules : List RuleTree) (env : Environment) (i : ℕ) (found other : List Finding) → AreFindingsIn files u rules env i found → AreFindingsIn files u rules env i other → found ≡ other
one_list_in files u rules env i found other one another =
    same_lists (on_total key_of nat_list_cmp_total) found other one.ascending another.ascending (λ f c. another.all f (one.each f c)) (λ f c. one.all f (another.each f c))

pub one_list : (files : List File) (rules : List RuleTree) (env : Environment) (i : ℕ) (found other : List Finding) → AreFindings files rules env i found → AreFindings files rules env i other → found ≡ other
one_list files rules env = one_list_in files (universe_of rules) rules env
