-- Flow sequences, as the code reads them.
use Rattle.std.proofs.Common.{◌≡◌, ℕ, suc, List, [], ◌∷◌, ◌++◌, length, map, Result, Ok, Err, ap, arith, sym, ◌∙◌}
use Rattle.std.proofs.lemmas.List.{map_push}
use Rattle.lf_base.specs.declared.refusal.Refusal.{Refusal}
use Rattle.lf_base.specs.declared.refusal.Refusal.TheVariants as refusal_of
use Rattle.lf_scalar.specs.Cells.{Cell}
use Rattle.lf_yaml.specs.Tree.{Tree, sequence, Items, no_items, tree}
use Rattle.lf_yaml.specs.reading.Trees.{FlowRead, FlowTree, as_tree, with_item, sequence_in}
use Rattle.lf_yaml.specs.reading.FlowTurns.{TurnGives, TurnsItems, after_items, items_from, items_tree, ItemsBehind}
use Rattle.lf_yaml.specs.views.Shown.{shown}
use Rattle.lf_yaml.specs.declared.node.Node.{Node}
use Rattle.lf_yaml.specs.declared.turn.Turn.{Turn}
use Rattle.lf_yaml.specs.declared.turn.Turn.TheVariants as turn
use Rattle.lf_yaml.proofs.Collected.{items-push, items-all, items-err}
use Rattle.lf_yaml.proofs.Sequences.{sequence-is, sequence-breaks, SequenceTold, sequence-tells, Enough, always-enough}

module _ (bytes : List ℕ) where
  -- how many turns are granted makes no difference, where they are enough
  enough-items : (n m at : ℕ) → Enough (length bytes) n at → Enough (length bytes) m at → sequence_in bytes n at ≡ sequence_in bytes m at
  enough-items n m at a b = by (sequence_in bytes n at) (sequence-tells bytes n at a)
    where
      by : (r : FlowRead Items) → SequenceTold bytes at r → r ≡ sequence_in bytes m at
      by (Ok x) h = sym (sequence-is bytes m at x.0 x.1 b h)
      by (Err f) h = sym (sequence-breaks bytes m at f b h)

  abbrev more_from : ℕ → FlowRead Items
  more_from at = sequence_in bytes (suc (suc (length bytes))) at

  one-more : (at : ℕ) → more_from at ≡ items_from bytes at
  one-more at = enough-items (suc (suc (length bytes))) (suc (length bytes)) at (omega arith, omega arith) (always-enough (length bytes) at)

  module _ (found : List Node) where
    abbrev whole : FlowRead Items → FlowTree
    whole read = as_tree sequence (after_items (map tree found) read)

    pushed : (x : Node) (read : FlowRead Items) → whole (with_item (tree x) read) ≡ as_tree sequence (after_items (map tree (found ++ x ∷ [])) read)
    pushed x read = ap (as_tree sequence) (sym (items-push (map tree found) (tree x) read) ∙ ap (λ (ts : List Tree). after_items ts read) (sym (map_push tree found x)))

    ended : (nodes : List Node) (c : Cell) → as_tree sequence (after_items (map tree nodes) (Ok (no_items, c))) ≡ Ok (items_tree nodes, c)
    ended nodes c = ap (as_tree sequence) (items-all (map tree nodes) c)

    -- a turn, where one turn more is granted than is needed
    pub items-turned : (at : ℕ) (read : FlowTree) → ItemsBehind bytes found at read → (r : Result (Turn Node) Refusal) → TurnsItems (items_from bytes) r (more_from at) → TurnGives items_tree (ItemsBehind bytes) found read r
    items-turned at read so_far r t = by r t
      where
        is : (x : FlowRead Items) → more_from at ≡ x → read ≡ whole x
        is x e = sym so_far ∙ ap whole (sym (one-more at) ∙ e)

        by : (r : Result (Turn Node) Refusal) → TurnsItems (items_from bytes) r (more_from at) → TurnGives items_tree (ItemsBehind bytes) found read r
        by (Ok (turn.Ends closing next)) t = is _ t ∙ ended found (shown closing).first
        by (Ok (turn.Last x closing next)) t = is _ t ∙ pushed x (Ok (no_items, (shown closing).first)) ∙ ended (found ++ x ∷ []) (shown closing).first
        by (Ok (turn.More x place)) t = sym (is _ t ∙ pushed x (items_from bytes place.at))
        by (Err refusal_of.Memory) t = tt
        by (Err (refusal_of.At kind span)) t = is _ t ∙ ap (as_tree sequence) (items-err (map tree found) (record { kind = kind; span = span }))
