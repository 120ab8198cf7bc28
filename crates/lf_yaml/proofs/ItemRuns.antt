-- Runs of items, as a loop reads them.
use Rattle.std.proofs.Common.{◌≡◌, ℕ, zero, suc, ◌<◌, ◌≤◌, Bool, true, false, ltb, cond, List, [], ◌∷◌, ◌++◌, length, Some, None, Ok, Err, refl, ap, arith, sym, ◌∙◌, subst, inl, inr}
use Rattle.std.proofs.lemmas.Bool.{ltb-true, ltb-false}
use Rattle.lf_base.specs.declared.refusal.Refusal.{Refusal}
use Rattle.lf_base.specs.declared.refusal.Refusal.TheVariants as refusal_of
use Rattle.lf_base.specs.declared.fault.Fault.{Fault}
use Rattle.lf_scalar.specs.Cells.{Fails}
use Rattle.lf_yaml.specs.Rows.{ContentRow, indent, indent_fault, row_fault}
use Rattle.lf_yaml.specs.Heads.{is_item}
use Rattle.lf_yaml.specs.Tree.{Tree, Items, no_items, items_of}
use Rattle.lf_yaml.specs.Nodes.{Ends}
use Rattle.lf_yaml.specs.reading.Trees.{Read, Reader, item_value, with_item, items}
use Rattle.lf_yaml.specs.views.Cursor.{rows_after}
use Rattle.lf_yaml.specs.reading.BlockTurns.{item_turn, inner, run_items}
use Rattle.lf_yaml.proofs.BlockRows.{item-rows}
use Rattle.lf_yaml.proofs.BlockTells.{ItemTold, item-told, node-tells}
use Rattle.lf_yaml.proofs.Blocks.{at-item}
use Rattle.lf_yaml.specs.reading.FlowTurns.{after_items}
use Rattle.lf_yaml.proofs.Collected.{items-push, items-all, items-err}
use Rattle.lf_yaml.proofs.Ends.{end-length}
use Rattle.lf_yaml.proofs.Placed.{IsPlaced, ArePlaced, file-placed}
use Rattle.lf_yaml.proofs.Turns.{Turn, some, over, wrong, over-some, wrong-some, over-wrong, some-wrong, wrong-over, some-over, same-some, same-wrong}
use Rattle.lf_yaml.proofs.Steps.{at-indent, at-deeper, items-end}

pub rows-placed : (bytes : List ℕ) (at : ℕ) → ArePlaced bytes (rows_after bytes at)
unfolding rows_after
rows-placed bytes at = file-placed bytes at

-- ---- one turn

abbrev Found : Type 0
Found = ContentRow × List ContentRow

-- the next item
pub record NextItem (m : ℕ) (rs : List ContentRow) (r : ContentRow) (later : List ContentRow) : Type 0 where
  pub rows : rs ≡ r ∷ later
  pub column : indent r ≡ m
  pub is : is_item r ≡ true

-- what a row at m is told of, by its tests
turn-cases : (own : Bool) (m : ℕ) (r : ContentRow) (rs : List ContentRow) (P : Turn Found → Type 0) → (m < indent r → P (Err (indent_fault r))) → (indent r < m → P (Ok None)) → (indent r ≡ m → is_item r ≡ true → P (Ok (Some (r, rs))))
    → (indent r ≡ m → is_item r ≡ false → P (cond own (Ok None) (Err (row_fault r)))) → P (item_turn own m (r ∷ rs))
unfolding item_turn
turn-cases own m r rs P deeper smaller here none = by (ltb m (indent r)) (ltb (indent r) m) (is_item r) refl refl refl
  where
    by : (a b c : Bool) → ltb m (indent r) ≡ a → ltb (indent r) m ≡ b → is_item r ≡ c → P (cond a (Err (indent_fault r)) (cond b (Ok None) (cond c (Ok (Some (r, rs))) (cond own (Ok None) (Err (row_fault r))))))
    by true b c p q s = deeper (ltb-true m (indent r) p)
    by false true c p q s = smaller (ltb-true (indent r) m q)
    by false false true p q s = here (omega (arith, ltb-false m (indent r) p, ltb-false (indent r) m q)) s
    by false false false p q s = none (omega (arith, ltb-false m (indent r) p, ltb-false (indent r) m q)) s

choose : (P : Turn Found → Type 0) (own : Bool) (f : Fault) → P over → P (wrong f) → P (cond own over (wrong f))
choose P true f h k = h
choose P false f h k = k

pub next-item : (own : Bool) (m : ℕ) (rs : List ContentRow) (r : ContentRow) (later : List ContentRow) → item_turn own m rs ≡ Ok (Some (r, later)) → NextItem m rs r later
unfolding item_turn
next-item own m [] r later e = absurd (over-some (r, later) e)
next-item own m (s ∷ ss) r later e = turn-cases own m s ss (λ t. t ≡ some (r, later) → NextItem m (s ∷ ss) r later) deeper smaller here none e
  where
    deeper : m < indent s → ◌≡◌ {A = Turn Found} (wrong (indent_fault s)) (some (r, later)) → NextItem m (s ∷ ss) r later
    deeper lt e = absurd (wrong-some (indent_fault s) (r, later) e)

    smaller : indent s < m → ◌≡◌ {A = Turn Found} over (some (r, later)) → NextItem m (s ∷ ss) r later
    smaller lt e = absurd (over-some (r, later) e)

    here : indent s ≡ m → is_item s ≡ true → ◌≡◌ {A = Turn Found} (some (s, ss)) (some (r, later)) → NextItem m (s ∷ ss) r later
    here same i e =
        let same-found = same-some (s, ss) (r, later) e in
        let h : (s ≡ r) × (ss ≡ later) = (ap (λ (z : Found). z.0) same-found, ap (λ (z : Found). z.1) same-found) in
        record {
          rows = ap (λ (x : ContentRow). x ∷ ss) h.0 ∙ ap (λ (xs : List ContentRow). r ∷ xs) h.1;
          column = ap indent (sym h.0) ∙ same;
          is = ap is_item (sym h.0) ∙ i;
        }

    none : indent s ≡ m → is_item s ≡ false → ◌≡◌ {A = Turn Found} (cond own over (wrong (row_fault s))) (some (r, later)) → NextItem m (s ∷ ss) r later
    none same i e = absurd (choose (λ t. t ≡ some (r, later) → ⊥) own (row_fault s) (over-some (r, later)) (wrong-some (row_fault s) (r, later)) e)

pub items-over : (own : Bool) (m : ℕ) (rs : List ContentRow) → item_turn own m rs ≡ Ok None → Ends own m rs
unfolding item_turn
items-over true m [] e = tt
items-over false m [] e = tt
items-over own m (s ∷ ss) e = turn-cases own m s ss (λ t. t ≡ over → Ends own m (s ∷ ss)) (λ lt e. absurd (wrong-over (indent_fault s) e)) (λ lt e. smaller own lt) (λ same i e. absurd (some-over (s, ss) e)) (λ same i e. stops own same i e) e
  where
    smaller : (own : Bool) → indent s < m → Ends own m (s ∷ ss)
    smaller true lt = inl lt
    smaller false lt = lt

    stops : (own : Bool) → indent s ≡ m → is_item s ≡ false → ◌≡◌ {A = Turn Found} (cond own over (wrong (row_fault s))) over → Ends own m (s ∷ ss)
    stops true same i e = inr (same, i)
    stops false same i e = absurd (wrong-over (row_fault s) e)

abbrev fails : Fault → Read Items
fails f = Err f

pub items-wrong : (node : Reader) (n : ℕ) (own : Bool) (m : ℕ) (rs : List ContentRow) (f : Fault) → item_turn own m rs ≡ Err f → items node (suc n) own m rs ≡ Err f
unfolding item_turn items
items-wrong node n own m [] f e = absurd (over-wrong f e)
items-wrong node n own m (s ∷ ss) f e = turn-cases own m s ss (λ t. t ≡ wrong f → items node (suc n) own m (s ∷ ss) ≡ Err f) deeper (λ lt e. absurd (over-wrong f e)) (λ same i e. absurd (some-wrong f (s, ss) e)) (λ same i e. at-indent m s ss no_items _ same ∙ rw i (no-item own e)) e
  where
    to : (g : Fault) → ◌≡◌ {A = Turn Found} (wrong g) (wrong f) → fails g ≡ fails f
    to g e = ap fails (same-wrong g f e)

    deeper : m < indent s → ◌≡◌ {A = Turn Found} (wrong (indent_fault s)) (wrong f) → items node (suc n) own m (s ∷ ss) ≡ Err f
    deeper lt e = at-deeper m s ss no_items _ lt ∙ to (indent_fault s) e

    no-item : (own : Bool) → ◌≡◌ {A = Turn Found} (cond own over (wrong (row_fault s))) (wrong f) → (let x : Read Items = cond own (Ok (no_items, s ∷ ss)) (Err (row_fault s)) in x) ≡ Err f
    no-item true e = absurd (over-wrong f e)
    no-item false e = to (row_fault s) e

-- ---- some items, and then what is read behind them

-- what a loop knows: the items that it found, and then those of the rows left, are all
pub record ItemsLeft (bytes : List ℕ) (d : ℕ) (own : Bool) (m : ℕ) (found : List Tree) (rest : List ContentRow) (total : Read Items) : Type 0 where
  pub turns : ℕ
  pub enough : length rest < turns
  pub same : after_items found (items (inner bytes d) turns own m rest) ≡ total

module _ (bytes : List ℕ) (d : ℕ) where
  told-shorter : (m : ℕ) (r : ContentRow) (rs : List ContentRow) (t : Tree) (rest : List ContentRow) (read : Read Tree) → read ≡ Ok (t, rest) → ItemTold bytes d m r rs read → length rest ≤ length rs
  told-shorter m r rs t rest read e h = end-length rs rest (item-rows bytes d m r rs t rest (subst (ItemTold bytes d m r rs) e h))

  -- an item leaves no more rows than there were
  pub item-shorter : (m : ℕ) (r : ContentRow) (rs : List ContentRow) (t : Tree) (rest : List ContentRow) → IsPlaced bytes r → ArePlaced bytes rs → item_value (inner bytes d) m r rs ≡ Ok (t, rest) → length rest ≤ length rs
  item-shorter m r rs t rest here placed e = told-shorter m r rs t rest (item_value (inner bytes d) m r rs) e (item-told bytes d m r rs (λ a x xs. node-tells bytes d a x xs) here placed)

  pub first-item : (own : Bool) (r : ContentRow) (rs : List ContentRow) (t : Tree) (rest : List ContentRow) → IsPlaced bytes r → ArePlaced bytes rs → is_item r ≡ true → item_value (inner bytes d) (indent r) r rs ≡ Ok (t, rest)
      → ItemsLeft bytes d own (indent r) (t ∷ []) rest (run_items bytes d own (indent r) r rs)
  first-item own r rs t rest here placed i e = record {
    turns = length (r ∷ rs);
    enough = omega (arith, item-shorter (indent r) r rs t rest here placed e);
    same = sym (at-item (inner bytes d) (length (r ∷ rs)) own (indent r) r rs (Ok (t, rest)) refl i e);
  }

  pub first-fails : (own : Bool) (r : ContentRow) (rs : List ContentRow) (e : Refusal) → is_item r ≡ true → Fails e (item_value (inner bytes d) (indent r) r rs) → Fails e (run_items bytes d own (indent r) r rs)
  first-fails own r rs refusal_of.Memory i h = tt
  first-fails own r rs (refusal_of.At kind span) i h = at-item (inner bytes d) (length (r ∷ rs)) own (indent r) r rs _ refl i h

  pub more-items : (own : Bool) (m : ℕ) (found : List Tree) (rs : List ContentRow) (r : ContentRow) (later : List ContentRow) (t : Tree) (rest : List ContentRow) (total : Read Items) → IsPlaced bytes r → ArePlaced bytes later → NextItem m rs r later
      → item_value (inner bytes d) (indent r) r later ≡ Ok (t, rest) → ItemsLeft bytes d own m found rs total → ItemsLeft bytes d own m (found ++ t ∷ []) rest total
  more-items own m found rs r later t rest total here placed next e left = by left.turns left.enough left.same
    where
      by : (n : ℕ) → length rs < n → after_items found (items (inner bytes d) n own m rs) ≡ total → ItemsLeft bytes d own m (found ++ t ∷ []) rest total
      by zero lt same = absurd (omega (arith, lt))
      by (suc n) lt same =
          let read : item_value (inner bytes d) m r later ≡ Ok (t, rest) = ap (λ (k : ℕ). item_value (inner bytes d) k r later) (sym next.column) ∙ e in
          let one : items (inner bytes d) (suc n) own m rs ≡ with_item t (items (inner bytes d) n own m rest) =
          ap (items (inner bytes d) (suc n) own m) next.rows ∙ at-item (inner bytes d) n own m r later (Ok (t, rest)) next.column next.is read in
          record {
            turns = n;
            enough = omega (arith, lt, ap length next.rows, item-shorter m r later t rest here placed read);
            same = items-push found t (items (inner bytes d) n own m rest) ∙ ap (after_items found) (sym one) ∙ same;
          }

  pub item-fails : (own : Bool) (m : ℕ) (found : List Tree) (rs : List ContentRow) (r : ContentRow) (later : List ContentRow) (total : Read Items) (e : Refusal) → NextItem m rs r later → Fails e (item_value (inner bytes d) (indent r) r later)
      → ItemsLeft bytes d own m found rs total → Fails e total
  item-fails own m found rs r later total refusal_of.Memory next h left = tt
  item-fails own m found rs r later total (refusal_of.At kind span) next h left = by left.turns left.enough left.same
    where
      by : (n : ℕ) → length rs < n → after_items found (items (inner bytes d) n own m rs) ≡ total → total ≡ Err (record { kind = kind; span = span })
      by zero lt same = absurd (omega (arith, lt))
      by (suc n) lt same =
          let read : item_value (inner bytes d) m r later ≡ Err (record { kind = kind; span = span }) = ap (λ (k : ℕ). item_value (inner bytes d) k r later) (sym next.column) ∙ h in
          let one : items (inner bytes d) (suc n) own m rs ≡ Err (record { kind = kind; span = span }) =
          ap (items (inner bytes d) (suc n) own m) next.rows ∙ at-item (inner bytes d) n own m r later (Err (record { kind = kind; span = span })) next.column next.is read in
          sym same ∙ ap (after_items found) one ∙ items-err found (record { kind = kind; span = span })

  pub turn-fails : (own : Bool) (m : ℕ) (found : List Tree) (rs : List ContentRow) (total : Read Items) (e : Refusal) → Fails e (item_turn own m rs) → ItemsLeft bytes d own m found rs total → Fails e total
  turn-fails own m found rs total refusal_of.Memory h left = tt
  turn-fails own m found rs total (refusal_of.At kind span) h left = by left.turns left.enough left.same
    where
      by : (n : ℕ) → length rs < n → after_items found (items (inner bytes d) n own m rs) ≡ total → total ≡ Err (record { kind = kind; span = span })
      by zero lt same = absurd (omega (arith, lt))
      by (suc n) lt same = sym same ∙ ap (after_items found) (items-wrong (inner bytes d) n own m rs (record { kind = kind; span = span }) h) ∙ items-err found (record { kind = kind; span = span })

  pub items-done : (own : Bool) (m : ℕ) (found : List Tree) (rs : List ContentRow) (total : Read Items) → item_turn own m rs ≡ Ok None → ItemsLeft bytes d own m found rs total → total ≡ Ok (items_of found, rs)
  items-done own m found rs total e left =
      sym left.same ∙ ap (after_items found) (items-end (inner bytes d) left.turns own m rs (omega (arith, left.enough)) (items-over own m rs e)) ∙ items-all found rs

  -- where the code computed the indent
  pub first-item-at : (m : ℕ) (own : Bool) (r : ContentRow) (rs : List ContentRow) (t : Tree) (rest : List ContentRow) → m ≡ indent r → IsPlaced bytes r → ArePlaced bytes rs → is_item r ≡ true → item_value (inner bytes d) (indent r) r rs ≡ Ok (t, rest)
      → ItemsLeft bytes d own m (t ∷ []) rest (run_items bytes d own (indent r) r rs)
  first-item-at m own r rs t rest q here placed i e = subst (λ (k : ℕ). ItemsLeft bytes d own k (t ∷ []) rest (run_items bytes d own (indent r) r rs)) (sym q) (first-item own r rs t rest here placed i e)
