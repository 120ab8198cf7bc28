use Rattle.std.proofs.Common.{◌≡◌, ◌<◌, ◌∷◌, ◌++◌, [], ℕ, List, Option, Some, length, sym, ◌∙◌, ap, subst}
use Rattle.std.proofs.lemmas.Result.{on_ok_weaker}
use Rattle.lf_ast.specs.Labels.{Bytes}
use Rattle.lf_ast.specs.Rules.{RuleTree}
use Rattle.lf_classes.specs.views.TextSets.{with_text}
use Rattle.lf_semantics.specs.Listing.{place}
use Rattle.lf_deps.specs.views.Names.{AreNumbersBy}
use Rattle.lf_open.specs.declared.read_table.ReadTable.{ReadTable}
use Rattle.lf_open.specs.views.ReadNames.{AreRead, IsReadGraph}
use Rattle.lf_open.proofs.ReadTables.{more_read, text_kept, text_new}
use Rattle.lf_open.proofs.read_table.ReadTable.add.Goals as goal

pub returns-in_ok-read-clause-read : goal.returns-in_ok-read-clause-read
returns-in_ok-read-clause-read c =
    let old : ReadTable = c.args.self.now in
    let new : ReadTable = record { names = c.add.new.self; reads = c.push.new.self } in
    let name : Bytes = c.as_str.result.now in
    let all : List Bytes = c.args.graph.now.names in
    let read : List ℕ = c.in_ok-read.read in
    let P : Option Bytes → Type 0 = λ o. (rules : List RuleTree) → IsReadGraph rules c.args.graph.now → AreNumbersBy rules all o read in
    let said = subst P (c.in-Some.is ∙ ap Some (sym c.as_str.ensures)) c.in_ok-read.ensures in
    let at : place old.names name ≡ length old.names = sym c.in_ok-place.ensures.place ∙ c.if-place-len.true ∙ c.len.ensures ∙ c.requires.count in
    let names : c.add.new.self ≡ old.names ++ name ∷ [] = c.in_ok-place.ensures.ok ∙ text_new old.names name at in
    on_ok_weaker {P = c.push.new.self ≡ old.reads ++ read ∷ []} {Q = (rules : List RuleTree) → IsReadGraph rules c.args.graph.now → AreRead rules all old → AreRead rules all new} c.push.result
    (λ reads rules is are. more_read rules all name old new read c.requires.count names reads (said rules is) are) c.push.ensures.ok

pub returns-else-place-len-clause-read : goal.returns-else-place-len-clause-read
returns-else-place-len-clause-read c = λ rules is are.
    let old : ReadTable = c.args.self.now in
    let name : Bytes = c.as_str.result.now in
    let not : place old.names name ≡ length old.names → ⊥ = λ e. c.if-place-len.false (c.in_ok-place.ensures.place ∙ e ∙ sym c.requires.count ∙ sym c.len.ensures) in
    let within : place old.names name < length (with_text old.names name) =
    subst (λ (l : List Bytes). place old.names name < length l) c.in_ok-place.ensures.ok (subst (λ (k : ℕ). k < length c.add.new.self) c.in_ok-place.ensures.place c.in_ok-place.ensures.within) in
    let same : c.add.new.self ≡ old.names = c.in_ok-place.ensures.ok ∙ text_kept old.names name not within in
    let P : List Bytes → Type 0 = λ l. AreRead rules c.args.graph.now.names (record { names = l; reads = old.reads }) in
    subst P (sym same) are
