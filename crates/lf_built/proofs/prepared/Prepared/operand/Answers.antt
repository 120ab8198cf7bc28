use Rattle.std.proofs.Common.{◌≡◌, ℕ, Bool, List, [], Option, Some, None, sym, ◌∙◌, ap, subst, arith}
use Rattle.std.specs.Prelude.{slice_get}
use Rattle.lf_ast.specs.Functions.{Signature, called_by, signature_of}
use Rattle.lf_ast.specs.Labels.{Bytes}
use Rattle.lf_ast.specs.Tree.{Tree, Trees, parts_of, trees}
use Rattle.lf_ast.specs.declared.functions.Function.{Function}
use Rattle.lf_semantics.specs.Parts.{argument_at, operand_place}
use Rattle.lf_trials.specs.Candidates.{labels_in}
use Rattle.lf_trials.specs.Given.{Given}
use Rattle.lf_built.specs.declared.marking.NodeMarks.{NodeMarks}
use Rattle.lf_built.specs.declared.work.WantedParts.TheVariants.{Nothing}
use Rattle.lf_built.specs.views.Indexed.{universe_of}
use Rattle.lf_built.specs.views.Marking.{arguments_of, call_lost, effect_lost, grouping_of, lost_at}
use Rattle.lf_built.specs.views.Spots.{tree_at}
use Rattle.lf_trials.specs.Operands.{effect_texts}
use Rattle.lf_built.specs.views.Tasks.{call_wanted, one_wanted, operand_wanted}
use Rattle.lf_built.specs.views.Works.{AreParts}
use Rattle.lf_built.proofs.PartSpots.{argument_is, buckets_of}
use Rattle.lf_built.proofs.Places.{size_is}
use Rattle.lf_built.proofs.StandingParts.{covered}
use Rattle.lf_built.proofs.Works.{stands_none, stands_some}
use Rattle.lf_built.proofs.prepared.Prepared.operand.Goals as goal

-- the labels that are marked are those that the effect loses
marks_are : (e : Tree) (f : Function) (args : Trees) (names own : List Bytes) (marks : List Bool) → Some (signature_of f) ≡ called_by e → arguments_of e ≡ args → names ≡ own → marks ≡ lost_at own e → marks ≡ effect_lost names f.labels (grouping_of e) args
marks_are e f args names own marks called are named is =
    is
    ∙ ap (λ (o : Option Signature). call_lost own o (grouping_of e) (arguments_of e)) (sym called)
    ∙ ap (λ (xs : Trees). effect_lost own f.labels (grouping_of e) xs) are
    ∙ ap (λ (ns : List Bytes). effect_lost ns f.labels (grouping_of e) args) (sym named)

pub operand_texts-requires-clause-lost : goal.operand_texts-requires-clause-lost
operand_texts-requires-clause-lost c =
    let e = tree_at c.args.spot.now in
    (grouping_of e, marks_are e c.in_ok-function.function (trees c.args.args.now) c.as_slice-names.result.now (labels_in (universe_of c.args.self.now)) c.as_slice-lost.result.now c.in_ok-function.ensures c.requires.args (c.as_slice-names.ensures.value ∙ c.requires.known.names) (c.as_slice-lost.ensures ∙ ap (λ (m : NodeMarks). m.lost) c.marks.ensures))

pub operand_texts-requires-clause-buckets : goal.operand_texts-requires-clause-buckets
operand_texts-requires-clause-buckets c effect =
    buckets_of (universe_of c.args.self.now) (tree_at c.args.spot.now) (signature_of c.in_ok-function.function) (sym c.in_ok-function.ensures) effect (covered c.args.self.now c.requires.known c.args.spot.now c.requires.spot)

pub returns-in-Some : goal.returns-in-Some
returns-in-Some c D stands =
    let e = tree_at c.args.spot.now in
    let marked = marks_are e c.in_ok-function.function (trees c.args.args.now) c.as_slice-names.result.now (labels_in (universe_of c.args.self.now)) c.as_slice-lost.result.now c.in_ok-function.ensures c.requires.args (c.as_slice-names.ensures.value ∙ c.requires.known.names) (c.as_slice-lost.ensures ∙ ap (λ (m : NodeMarks). m.lost) c.marks.ensures) in
    let s : Signature = signature_of c.in_ok-function.function in
    let args = trees c.args.args.now in
    let h = stands_some (universe_of c.args.self.now) c.in-Some.texts _ (c.in-Some.ensures (grouping_of e) D marked stands) in
    let k : ℕ = operand_place s in
    let one = subst (λ (n : ℕ). AreParts c.args.self.now (tree_at c.args.spot.now) (one_wanted h.0 (slice_get (parts_of (tree_at c.args.spot.now)) n)) c.one.result) c.operand_place.ensures (c.one.ensures h.0 h.2) in
    let listed = subst (λ (o : Option Tree). AreParts c.args.self.now (tree_at c.args.spot.now) (one_wanted h.0 o) c.one.result) (ap (λ (ps : List Tree). slice_get ps k) c.requires.parts ∙ argument_is args k) one in
    let given = subst (λ (o : Option Given). AreParts c.args.self.now (tree_at c.args.spot.now) (operand_wanted (argument_at args k) o) c.one.result) (sym h.1) listed in
    subst (λ (o : Option Signature). AreParts c.args.self.now (tree_at c.args.spot.now) (call_wanted o (grouping_of e) args D) c.one.result) c.in_ok-function.ensures given

pub returns-in-None : goal.returns-in-None
returns-in-None c D stands =
    let e = tree_at c.args.spot.now in
    let s : Signature = signature_of c.in_ok-function.function in
    let args = trees c.args.args.now in
    let marked = marks_are e c.in_ok-function.function args c.as_slice-names.result.now (labels_in (universe_of c.args.self.now)) c.as_slice-lost.result.now c.in_ok-function.ensures c.requires.args (c.as_slice-names.ensures.value ∙ c.requires.known.names) (c.as_slice-lost.ensures ∙ ap (λ (m : NodeMarks). m.lost) c.marks.ensures) in
    let none : effect_texts s.labels (grouping_of e) args D ≡ None = stands_none (universe_of c.args.self.now) _ (c.in-None.ensures (grouping_of e) D marked stands) in
    let nothing : AreParts c.args.self.now e (Some []) (Some Nothing) = (tt, omega (arith, size_is e)) in
    let given = subst (λ (o : Option Given). AreParts c.args.self.now e (operand_wanted (argument_at args (operand_place s)) o) (Some Nothing)) (sym none) nothing in
    subst (λ (o : Option Signature). AreParts c.args.self.now e (call_wanted o (grouping_of e) args D) (Some Nothing)) c.in_ok-function.ensures given
