-- Scalars and flow collections on a row are read: what stands is read, a breach is answered, and what is answered is one of both.
use Rattle.std.proofs.Common.{◌≡◌, ℕ, zero, suc, Bool, true, false, eqb, not, List, [], ◌∷◌, Option, Some, None, Result, Ok, Err, length, eq-eqb, refl, ap, sym, ◌∙◌, subst, ◌⊎◌, inl, inr, ◌||◌}
use Rattle.std.specs.Prelude.{nat_lt}
use Rattle.std.proofs.lemmas.Bool.{eqb-true, cases_Bool, and_parts}
use Rattle.lf_base.specs.declared.kind.Kind.TheVariants.{TooDeep}
use Rattle.lf_base.specs.declared.fault.Fault.{Fault}
use Rattle.lf_scalar.specs.Cells.{Cell, cell, Value, character_fault}
use Rattle.lf_scalar.specs.Lines.{lines, first_text}
use Rattle.lf_scalar.specs.reading.Quoted.{wrong_behind}
use Rattle.lf_scalar.specs.Scalars.{begins, source_at}
use Rattle.lf_scalar.proofs.Tails.{true-false, tail-told, told-tail, wrong-told, told-wrong, from-front, to-front}
use Rattle.lf_scalar.proofs.Laws as scalars
use Rattle.lf_yaml.specs.Rows.{ContentRow, row, text_of, rows_from, row_fault, is_left_out}
use Rattle.lf_yaml.specs.Heads.{style_of, begins_scalar}
use Rattle.lf_yaml.specs.Tree.{Tree, sequence, mapping, Items, Entries}
use Rattle.lf_yaml.specs.Flow.{is_bracket, line_on}
use Rattle.lf_yaml.specs.Nodes.{ValueAt}
use Rattle.lf_yaml.specs.Breaches.{ValueBreaks}
use Rattle.lf_yaml.specs.Nodes as nodes
use Rattle.lf_yaml.specs.Breaches as breaches
use Rattle.lf_yaml.specs.reading.Trees.{FlowRead, sequence_in, mapping_in, Read, as_tree, alone, closed, flow_list, flow_map, scalar_on, scalar_value, value_on}
use Rattle.lf_yaml.proofs.Ends.{IsEnd, end-all, end-behind}
use Rattle.lf_yaml.proofs.Sequences.{sequence-is, sequence-breaks, SequenceTold, sequence-tells, always-enough}
use Rattle.lf_yaml.proofs.Mappings.{mapping-is, mapping-breaks, MappingTold, mapping-tells}
use Rattle.lf_yaml.proofs.Placed.{IsPlaced}

-- a row that begins with a bracket begins no scalar
no-scalar : (sign : ℕ) (r : ContentRow) → begins_scalar (row r.begin (cell sign r.first.at) r.rest) ≡ false → r.first.byte ≡ sign → begins_scalar r ≡ false
no-scalar sign r h e = ap (λ (b : ℕ). begins_scalar (row r.begin (cell b r.first.at) r.rest)) e ∙ h

no-91 : (b : ℕ) → b ≡ 123 → eqb b 91 ≡ false
no-91 b e = rw e refl

bracket-cases : (c : Cell) → is_bracket c ≡ true → (c.byte ≡ 91) ⊎ (c.byte ≡ 123)
bracket-cases c h = by (eqb c.byte 91) (eqb c.byte 123) refl refl h
  where
    by : (a b : Bool) → eqb c.byte 91 ≡ a → eqb c.byte 123 ≡ b → (a || (b || false)) ≡ true → (c.byte ≡ 91) ⊎ (c.byte ≡ 123)
    by true b p q h = inl (eqb-true c.byte 91 p)
    by false true p q h = inr (eqb-true c.byte 123 q)
    by false false p q h = true-false false h refl

no-bracket : (c : Cell) → is_bracket c ≡ false → (eqb c.byte 91 ≡ false) × (eqb c.byte 123 ≡ false)
no-bracket c h = by (eqb c.byte 91) (eqb c.byte 123) refl refl h
  where
    by : (a b : Bool) → eqb c.byte 91 ≡ a → eqb c.byte 123 ≡ b → (a || (b || false)) ≡ false → (eqb c.byte 91 ≡ false) × (eqb c.byte 123 ≡ false)
    by true b p q h = true-false true refl h
    by false true p q h = true-false true refl h
    by false false p q h = (p, q)

module _ (bytes : List ℕ) (above : ℕ) where
  abbrev end : ℕ
  end = length bytes

  list-on : (d : ℕ) (r : ContentRow) (rs : List ContentRow) → r.first.byte ≡ 91 → value_on bytes above d r rs ≡ flow_list bytes d r rs
  unfolding value_on
  list-on d r rs e = rw (no-scalar 91 r refl e, eq-eqb r.first.byte 91 e) refl

  map-on : (d : ℕ) (r : ContentRow) (rs : List ContentRow) → r.first.byte ≡ 123 → value_on bytes above d r rs ≡ flow_map bytes d r rs
  unfolding value_on
  map-on d r rs e = rw (no-scalar 123 r refl e, no-91 r.first.byte e, eq-eqb r.first.byte 123 e) refl

  pub value-is : (d : ℕ) (r : ContentRow) (rs : List ContentRow) (t : Tree) (rest : List ContentRow) → ValueAt bytes above d r rs t rest → value_on bytes above d r rs ≡ Ok (t, rest)
  unfolding value_on
  value-is d r _ _ _ (nodes.ValueAt.scalar {v = v} rs b h) = rw b (ap (scalar_value rs) (scalars.is_read (style_of r.first) above end (source_at bytes r.first.at) v h))
  value-is _ r _ _ _ (nodes.ValueAt.flow_sequence {d = d} {is = is} {closing = closing} rs e h b) =
      list-on (suc d) r rs e ∙ ap (λ (x : FlowRead Items). closed bytes r rs (as_tree sequence x)) (sequence-is bytes (suc end) (suc r.first.at) is closing (always-enough end (suc r.first.at)) h)
      ∙ ap (alone r rs (sequence is, closing)) (tail-told false (line_on bytes (suc closing.at)).text b)
  value-is _ r _ _ _ (nodes.ValueAt.flow_mapping {d = d} {es = es} {closing = closing} rs e h b) =
      map-on (suc d) r rs e ∙ ap (λ (x : FlowRead Entries). closed bytes r rs (as_tree mapping x)) (mapping-is bytes (suc end) [] (suc r.first.at) es closing (always-enough end (suc r.first.at)) h)
      ∙ ap (alone r rs (mapping es, closing)) (tail-told false (line_on bytes (suc closing.at)).text b)

  nothing-on : (d : ℕ) (r : ContentRow) (rs : List ContentRow) → begins_scalar r ≡ false → is_bracket r.first ≡ false → value_on bytes above d r rs ≡ Err (row_fault r)
  unfolding value_on
  nothing-on d r rs b n = let h = no-bracket r.first n in rw (b, h.0, h.1) refl

  deep-on : (r : ContentRow) (rs : List ContentRow) → is_bracket r.first ≡ true → value_on bytes above zero r rs ≡ Err (character_fault TooDeep r.first)
  deep-on r rs h =
      elim (bracket-cases r.first h) [
        | inl e ↦ list-on zero r rs e
        | inr e ↦ map-on zero r rs e
      ]

  pub value-breaks : (d : ℕ) (r : ContentRow) (rs : List ContentRow) (f : Fault) → ValueBreaks bytes above d r rs f → value_on bytes above d r rs ≡ Err f
  unfolding value_on
  value-breaks d r rs _ (breaches.ValueBreaks.scalar {f = f} xs b h) = rw b (ap (scalar_value rs) (scalars.is_refused (style_of r.first) above end (source_at bytes r.first.at) f h))
  value-breaks d r rs _ (breaches.ValueBreaks.no_value e xs b n) = nothing-on d r rs b n
  value-breaks _ r rs _ (breaches.ValueBreaks.deep xs h) = deep-on r rs h
  value-breaks _ r _ f (breaches.ValueBreaks.flow_sequence rs d e h) =
      list-on (suc d) r rs e ∙ ap (λ (x : FlowRead Items). closed bytes r rs (as_tree sequence x)) (sequence-breaks bytes (suc end) (suc r.first.at) f (always-enough end (suc r.first.at)) h)
  value-breaks _ r _ _ (breaches.ValueBreaks.behind_sequence {is = is} {closing = closing} {wrong = wrong} rs d e h w) =
      list-on (suc d) r rs e ∙ ap (λ (x : FlowRead Items). closed bytes r rs (as_tree sequence x)) (sequence-is bytes (suc end) (suc r.first.at) is closing (always-enough end (suc r.first.at)) h)
      ∙ ap (alone r rs (sequence is, closing))
      (wrong-told false (line_on bytes (suc closing.at)).text wrong (from-front (line_on bytes (suc closing.at)).text wrong w))
  value-breaks _ r _ f (breaches.ValueBreaks.flow_mapping rs d e h) =
      map-on (suc d) r rs e ∙ ap (λ (x : FlowRead Entries). closed bytes r rs (as_tree mapping x)) (mapping-breaks bytes (suc end) [] (suc r.first.at) f (always-enough end (suc r.first.at)) h)
  value-breaks _ r _ _ (breaches.ValueBreaks.behind_mapping {es = es} {closing = closing} {wrong = wrong} rs d e h w) =
      map-on (suc d) r rs e ∙ ap (λ (x : FlowRead Entries). closed bytes r rs (as_tree mapping x)) (mapping-is bytes (suc end) [] (suc r.first.at) es closing (always-enough end (suc r.first.at)) h)
      ∙ ap (alone r rs (mapping es, closing))
      (wrong-told false (line_on bytes (suc closing.at)).text wrong (from-front (line_on bytes (suc closing.at)).text wrong w))

  abbrev pub ValueTold : ℕ → ContentRow → List ContentRow → Read Tree → Type 0
  ValueTold d r rs (Ok x) = ValueAt bytes above d r rs x.0 x.1
  ValueTold d r rs (Err f) = ValueBreaks bytes above d r rs f

  scalar-told : (d : ℕ) (r : ContentRow) (rs : List ContentRow) → begins_scalar r ≡ true → (read : Result Value Fault) → scalars.Told (style_of r.first) above end (source_at bytes r.first.at) read → ValueTold d r rs (scalar_value rs read)
  scalar-told d r rs b (Ok v) h = nodes.ValueAt.scalar rs b h
  scalar-told d r rs b (Err f) h = breaches.ValueBreaks.scalar rs b h

  scalar-tells : (d : ℕ) (r : ContentRow) (rs : List ContentRow) → IsPlaced bytes r → begins_scalar r ≡ true → ValueTold d r rs (scalar_value rs (scalar_on bytes above r))
  scalar-tells d r rs placed b =
      let h : begins (style_of r.first) (first_text (lines end (source_at bytes r.first.at))) ≡ true =
      ap (begins (style_of r.first)) placed ∙ (and_parts (begins (style_of r.first) (text_of r)) (not (is_left_out r)) b).0 in
      scalar-told d r rs b (scalar_on bytes above r) (scalars.tells (style_of r.first) above end (source_at bytes r.first.at) h)

  list-told : (d : ℕ) (r : ContentRow) (rs : List ContentRow) → r.first.byte ≡ 91 → (read : FlowRead Items) → SequenceTold bytes (suc r.first.at) read → ValueTold (suc d) r rs (closed bytes r rs (as_tree sequence read))
  list-told d r rs e (Ok x) h = by (wrong_behind false (line_on bytes (suc x.1.at)).text) refl
    where
      by : (o : Option Cell) → wrong_behind false (line_on bytes (suc x.1.at)).text ≡ o → ValueTold (suc d) r rs (alone r rs (sequence x.0, x.1) o)
      by None w = nodes.ValueAt.flow_sequence rs e h (told-tail false (line_on bytes (suc x.1.at)).text w)
      by (Some wrong) w = breaches.ValueBreaks.behind_sequence rs d e h (to-front (line_on bytes (suc x.1.at)).text wrong (told-wrong false (line_on bytes (suc x.1.at)).text wrong w))
  list-told d r rs e (Err f) h = breaches.ValueBreaks.flow_sequence rs d e h

  map-told : (d : ℕ) (r : ContentRow) (rs : List ContentRow) → r.first.byte ≡ 123 → (read : FlowRead Entries) → MappingTold bytes [] (suc r.first.at) read → ValueTold (suc d) r rs (closed bytes r rs (as_tree mapping read))
  map-told d r rs e (Ok x) h = by (wrong_behind false (line_on bytes (suc x.1.at)).text) refl
    where
      by : (o : Option Cell) → wrong_behind false (line_on bytes (suc x.1.at)).text ≡ o → ValueTold (suc d) r rs (alone r rs (mapping x.0, x.1) o)
      by None w = nodes.ValueAt.flow_mapping rs e h (told-tail false (line_on bytes (suc x.1.at)).text w)
      by (Some wrong) w = breaches.ValueBreaks.behind_mapping rs d e h (to-front (line_on bytes (suc x.1.at)).text wrong (told-wrong false (line_on bytes (suc x.1.at)).text wrong w))
  map-told d r rs e (Err f) h = breaches.ValueBreaks.flow_mapping rs d e h

  list-tells : (d : ℕ) (r : ContentRow) (rs : List ContentRow) → r.first.byte ≡ 91 → is_bracket r.first ≡ true → ValueTold d r rs (flow_list bytes d r rs)
  list-tells zero r rs e b = breaches.ValueBreaks.deep rs b
  list-tells (suc d) r rs e b = list-told d r rs e (sequence_in bytes (suc end) (suc r.first.at)) (sequence-tells bytes (suc end) (suc r.first.at) (always-enough end (suc r.first.at)))

  map-tells : (d : ℕ) (r : ContentRow) (rs : List ContentRow) → r.first.byte ≡ 123 → is_bracket r.first ≡ true → ValueTold d r rs (flow_map bytes d r rs)
  map-tells zero r rs e b = breaches.ValueBreaks.deep rs b
  map-tells (suc d) r rs e b = map-told d r rs e (mapping_in bytes (suc end) [] (suc r.first.at)) (mapping-tells bytes (suc end) [] (suc r.first.at) (always-enough end (suc r.first.at)))

  pub value-tells : (d : ℕ) (r : ContentRow) (rs : List ContentRow) → IsPlaced bytes r → ValueTold d r rs (value_on bytes above d r rs)
  unfolding value_on
  value-tells d r rs placed =
      elim (cases_Bool (begins_scalar r)) [
        | inl b ↦ rw b (scalar-tells d r rs placed b)
        | inr b ↦ elim (cases_Bool (is_bracket r.first)) [
          | inl k ↦ elim (bracket-cases r.first k) [
            | inl e ↦ subst (ValueTold d r rs) (sym (list-on d r rs e)) (list-tells d r rs e k)
            | inr e ↦ subst (ValueTold d r rs) (sym (map-on d r rs e)) (map-tells d r rs e k)
          ]
          | inr k ↦ subst (ValueTold d r rs) (sym (nothing-on d r rs b k)) (breaches.ValueBreaks.no_value d rs b k)
        ]
      ]

  -- ---- the rows left are the last of those that were there

  pub from-end : (at : ℕ) (rs : List ContentRow) → IsEnd rs (rows_from at rs)
  from-end at [] = end-all []
  from-end at (r ∷ rs) =
      elim (cases_Bool (nat_lt r.begin at)) [
        | inl h ↦ rw h (end-behind r rs (rows_from at rs) (from-end at rs))
        | inr h ↦ rw h (end-all (r ∷ rs))
      ]

  pub value-rows : (d : ℕ) (r : ContentRow) (rs : List ContentRow) (t : Tree) (rest : List ContentRow) → ValueAt bytes above d r rs t rest → IsEnd rs rest
  value-rows d r _ _ _ (nodes.ValueAt.scalar {v = v} rs b h) = from-end v.span.end rs
  value-rows _ r _ _ _ (nodes.ValueAt.flow_sequence {closing = closing} rs e h b) = from-end (suc closing.at) rs
  value-rows _ r _ _ _ (nodes.ValueAt.flow_mapping {closing = closing} rs e h b) = from-end (suc closing.at) rs
