-- Flow collections with what stands behind their closing brackets, as the code reads them.
use Rattle.std.proofs.Common.{◌≡◌, ℕ, suc, ◌+◌, ◌<◌, false, List, Some, None, Ok, Err, length, drop, ap, arith, sym, ◌∙◌}
use Rattle.lf_base.specs.declared.kind.Kind.TheVariants.{NotANode}
use Rattle.lf_base.specs.declared.refusal.Refusal.{Refusal}
use Rattle.lf_base.specs.declared.refusal.Refusal.TheVariants as refusal_of
use Rattle.lf_base.specs.declared.place.Span.{Span}
use Rattle.lf_base.specs.Faults.{span}
use Rattle.lf_scalar.specs.Cells.{Cell, cells, character_fault, Fails}
use Rattle.lf_scalar.specs.reading.Quoted.{wrong_behind}
use Rattle.lf_yaml.specs.Rows.{ContentRow, rows_from}
use Rattle.lf_yaml.specs.Tree.{Tree}
use Rattle.lf_yaml.specs.Flow.{line_on}
use Rattle.lf_yaml.specs.reading.Trees.{FlowTree, Read, alone, closed}
use Rattle.lf_yaml.specs.views.Places.{IsPartIn}
use Rattle.lf_yaml.specs.views.Shown.{shown}
use Rattle.lf_yaml.specs.declared.row.ContentLine.{ContentLine}
use Rattle.lf_yaml.proofs.FlowPlaces.{rest-further}

-- what stands behind a part's first byte is the rest of the line there
pub closing-rest : (bytes : List ℕ) (closing : ContentLine) (next : ℕ) → IsPartIn bytes closing next → 0 < length closing.text.now → (shown closing).rest ≡ (line_on bytes (suc closing.at)).text
closing-rest bytes closing next is full =
    let z : closing.at + 1 ≡ suc closing.at = omega arith in
    ap (λ (n : ℕ). cells n (drop 1 closing.text.now)) (sym z) ∙ rest-further bytes closing.at 1 closing.text.now is.rest (omega (arith, full)) ∙ ap (λ (n : ℕ). (line_on bytes n).text) z

module _ (bytes : List ℕ) (r : ContentRow) (rs : List ContentRow) (read : FlowTree) where
  pub closed-fails : (e : Refusal) → Fails e read → Fails e (closed bytes r rs read)
  closed-fails refusal_of.Memory h = tt
  closed-fails (refusal_of.At kind span) h = ap (closed bytes r rs) h

  module _ (node : Span → Tree) (c : Cell) (is : read ≡ Ok (node, c)) where
    pub closed-none : (t : Tree) (s : Span) (rows : List ContentRow) → wrong_behind false (line_on bytes (suc c.at)).text ≡ None → t ≡ node s → s ≡ span r.first.at (suc c.at) → rows ≡ rows_from (suc c.at) rs → closed bytes r rs read ≡ Ok (t, rows)
    closed-none t s rows w m p q =
        ap (closed bytes r rs) is ∙ ap (alone r rs (node, c)) w ∙ ap (λ (x : Tree). let y : Read Tree = Ok (x, rows_from (suc c.at) rs) in y) (sym (m ∙ ap node p)) ∙ ap (λ (xs : List ContentRow). let y : Read Tree = Ok (t, xs) in y) (sym q)

    pub closed-some : (wrong : Cell) → wrong_behind false (line_on bytes (suc c.at)).text ≡ Some wrong → closed bytes r rs read ≡ Err (character_fault NotANode wrong)
    closed-some wrong w = ap (closed bytes r rs) is ∙ ap (alone r rs (node, c)) w
