use Rattle.std.proofs.Common.{◌||◌, eqb, not, get_or, false, length, sym, ◌∙◌, ap}
use Rattle.lf_ast.specs.declared.expr.MatchOp.{MatchOp}
use Rattle.lf_ast.specs.declared.expr.MatchOp.TheVariants.{Matches, NotMatches}
use Rattle.lf_semantics.specs.ClassRows.{narrowed}
use Rattle.lf_semantics.specs.RowTable.{passes_class}
use Rattle.lf_flow.proofs.ClassSets.{set_length}
use Rattle.lf_flow.proofs.Narrowed.{narrowed_at}
use Rattle.lf_flow.proofs.narrowing.narrow_label.Goals as goal

pub narrow_classes-requires-clause-classes : goal.narrow_classes-requires-clause-classes
narrow_classes-requires-clause-classes c =
    ap length c.deref.ensures.value ∙ c.in_ok-on-in-Matches.ensures.count ∙ sym (set_length c.args.universe.now c.args.row.now c.requires.shape c.args.label c.requires.label)

pub narrow_classes-requires-in-NotMatches-clause-classes : goal.narrow_classes-requires-in-NotMatches-clause-classes
narrow_classes-requires-in-NotMatches-clause-classes c =
    ap length c.deref-in-NotMatches.ensures.value ∙ c.in_ok-on-in-NotMatches.ensures.count ∙ sym (set_length c.args.universe.now c.args.row.now c.requires.shape c.args.label c.requires.label)

pub returns-in_ok-on-in-Matches : goal.returns-in_ok-on-in-Matches
returns-in_ok-on-in-Matches c =
    let u = c.args.universe.now in
    let value = c.args.value.now in
    let row = c.args.row.now in
    let label = c.args.label in
    c.narrow_classes.ensures
    ∙ ap (λ xs. narrowed (λ l k. not (eqb label l) || get_or xs k false) row) c.deref.ensures.value
    ∙ narrowed_at label _ c.in_ok-on-in-Matches.on.items (passes_class u Matches value) row c.in_ok-on-in-Matches.ensures (set_length u row c.requires.shape label c.requires.label)
    ∙ ap (λ (op : MatchOp). narrowed (λ l class. not (eqb label l) || passes_class u op value l class) row) (sym c.in-Matches.is)

pub returns-in_ok-on-in-NotMatches : goal.returns-in_ok-on-in-NotMatches
returns-in_ok-on-in-NotMatches c =
    let u = c.args.universe.now in
    let value = c.args.value.now in
    let row = c.args.row.now in
    let label = c.args.label in
    c.narrow_classes-in-NotMatches.ensures
    ∙ ap (λ xs. narrowed (λ l k. not (eqb label l) || get_or xs k false) row) c.deref-in-NotMatches.ensures.value
    ∙ narrowed_at label _ c.in_ok-on-in-NotMatches.on.items (passes_class u NotMatches value) row c.in_ok-on-in-NotMatches.ensures (set_length u row c.requires.shape label c.requires.label)
    ∙ ap (λ (op : MatchOp). narrowed (λ l class. not (eqb label l) || passes_class u op value l class) row) (sym c.in-NotMatches.is)
