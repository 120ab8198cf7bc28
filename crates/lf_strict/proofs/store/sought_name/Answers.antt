use Rattle.std.proofs.Common.{◌≡◌, List, Option, Some, None, IfSome, option_copied, sym}
use Rattle.std.specs.Borrow.{Bor}
use Rattle.lf_ast.specs.Labels.{Bytes, Labels}
use Rattle.lf_ast.specs.Selectors.{metric, selected_name}
use Rattle.lf_ast.specs.declared.expr.Matcher.{Matcher}
use Rattle.lf_semantics.specs.Passing.{HasName, PassesEach}
use Rattle.lf_semantics.specs.Texts.{value_of}
use Rattle.lf_semantics.proofs.SelectorsRepresent.{selected_name_is}
use Rattle.lf_strict.proofs.store.sought_name.Goals as goal

pub returns : goal.returns
returns c = by c.selected_name.result c.selected_name.ensures
  where
    name : Option Bytes
    name = c.args.name.now

    matchers : List Matcher
    matchers = c.args.matchers.now

    by : (found : Option (Bor Bytes)) → option_copied found ≡ selected_name name matchers
        → IfSome found (λ sought. (s : Labels) → HasName name s → PassesEach matchers s → value_of s metric ≡ sought.now)
    by None e = tt
    by (Some sought) e = λ s named each. selected_name_is name matchers s sought.now named each (sym e)
