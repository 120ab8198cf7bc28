-- Runs of entries, as a loop reads them.
use Rattle.std.proofs.Common.{◌≡◌, ℕ, zero, suc, ◌<◌, ◌≤◌, Bool, true, false, ltb, cond, List, [], ◌∷◌, ◌++◌, length, Option, Some, None, Result, Ok, Err, refl, ap, arith, sym, ◌∙◌, subst, append_assoc, inl, inr}
use Rattle.std.proofs.lemmas.Bool.{ltb-true, ltb-false, cases_Bool}
use Rattle.lf_base.specs.declared.refusal.Refusal.{Refusal}
use Rattle.lf_base.specs.declared.refusal.Refusal.TheVariants as refusal_of
use Rattle.lf_base.specs.declared.fault.Fault.{Fault}
use Rattle.lf_scalar.specs.Cells.{Cell, Value, Fails, ◌>>=◌}
use Rattle.lf_yaml.specs.Rows.{ContentRow, text_of, indent, indent_fault}
use Rattle.lf_yaml.specs.Tree.{Tree, Entries, no_entries, entries_of}
use Rattle.lf_yaml.specs.Nodes.{Ends}
use Rattle.lf_yaml.specs.reading.Trees.{EntryHead, Read, EntryValues, entry_of, key_of, has, opens_quote, keyed, key_read, with_entry, entries_behind, entries_on, entries, Keys}
use Rattle.lf_yaml.specs.reading.BlockTurns.{head_here, no_entry_fault, entry_turn, if_new, new_key, with_key, one_entry, values, run_entries}
use Rattle.lf_yaml.proofs.BlockRows.{entry-value-rows}
use Rattle.lf_yaml.proofs.BlockTells.{EntryValueTold, entry-value-told, node-tells, own-tells}
use Rattle.lf_yaml.specs.reading.FlowTurns.{after_entries, texts_of}
use Rattle.lf_yaml.proofs.Collected.{Pair, entries-push, entries-all, entries-err, texts-push}
use Rattle.lf_yaml.proofs.Ends.{end-length}
use Rattle.lf_yaml.proofs.HeadCode.{entry-split}
use Rattle.lf_yaml.proofs.Placed.{IsPlaced, ArePlaced}
use Rattle.lf_yaml.proofs.Turns.{Turn, some, over, wrong, over-some, wrong-some, over-wrong, some-wrong, wrong-over, some-over, same-some, same-wrong}
use Rattle.lf_yaml.proofs.Steps.{at-indent, at-deeper, entries-end}

-- ---- one turn

abbrev Found : Type 0
Found = ContentRow × EntryHead × List ContentRow

-- the next entry
pub record NextEntry (m : ℕ) (rs : List ContentRow) (r : ContentRow) (h : EntryHead) (later : List ContentRow) : Type 0 where
  pub rows : rs ≡ r ∷ later
  pub column : indent r ≡ m
  pub is : entry_of r ≡ Some h

turn-cases : (m : ℕ) (r : ContentRow) (rs : List ContentRow) (P : Turn Found → Type 0) → (m < indent r → P (Err (indent_fault r))) → (indent r < m → P (Ok None)) → (indent r ≡ m → P (head_here r rs (entry_of r))) → P (entry_turn m (r ∷ rs))
unfolding entry_turn
turn-cases m r rs P deeper smaller here = by (ltb m (indent r)) (ltb (indent r) m) refl refl
  where
    by : (a b : Bool) → ltb m (indent r) ≡ a → ltb (indent r) m ≡ b → P (cond a (Err (indent_fault r)) (cond b (Ok None) (head_here r rs (entry_of r))))
    by true b p q = deeper (ltb-true m (indent r) p)
    by false true p q = smaller (ltb-true (indent r) m q)
    by false false p q = here (omega (arith, ltb-false m (indent r) p, ltb-false (indent r) m q))

pub next-entry : (m : ℕ) (rs : List ContentRow) (r : ContentRow) (h : EntryHead) (later : List ContentRow) → entry_turn m rs ≡ Ok (Some (r, h, later)) → NextEntry m rs r h later
unfolding entry_turn
next-entry m [] r h later e = absurd (over-some (r, h, later) e)
next-entry m (s ∷ ss) r h later e =
    turn-cases m s ss (λ t. t ≡ some (r, h, later) → NextEntry m (s ∷ ss) r h later) (λ lt e. absurd (wrong-some (indent_fault s) (r, h, later) e)) (λ lt e. absurd (over-some (r, h, later) e)) (λ same e. here same (entry_of s) refl e) e
  where
    here : indent s ≡ m → (o : Option EntryHead) → entry_of s ≡ o → head_here s ss o ≡ some (r, h, later) → NextEntry m (s ∷ ss) r h later
    here same None q e = absurd (wrong-some (no_entry_fault s) (r, h, later) e)
    here same (Some k) q e =
        let same-found = same-some (s, k, ss) (r, h, later) e in
        let x : (s ≡ r) × (k ≡ h) × (ss ≡ later) = (ap (λ (z : Found). z.0) same-found, ap (λ (z : Found). z.1) same-found, ap (λ (z : Found). z.2) same-found) in
        record {
          rows = ap (λ (y : ContentRow). y ∷ ss) x.0 ∙ ap (λ (xs : List ContentRow). r ∷ xs) x.2;
          column = ap indent (sym x.0) ∙ same;
          is = ap entry_of (sym x.0) ∙ q ∙ ap (λ (y : EntryHead). Some y) x.1;
        }

pub entries-over : (m : ℕ) (rs : List ContentRow) → entry_turn m rs ≡ Ok None → Ends false m rs
unfolding entry_turn
entries-over m [] e = tt
entries-over m (s ∷ ss) e = turn-cases m s ss (λ t. t ≡ over → Ends false m (s ∷ ss)) (λ lt e. absurd (wrong-over (indent_fault s) e)) (λ lt e. lt) (λ same e. absurd (here (entry_of s) e)) e
  where
    here : (o : Option EntryHead) → head_here s ss o ≡ over → ⊥
    here None e = wrong-over (no_entry_fault s) e
    here (Some k) e = some-over (s, k, ss) e

abbrev fails : Fault → Read Entries
fails f = Err f

-- what a row that begins no entry is told of
none-on : (value : EntryValues) (later : List (List ℕ) → List ContentRow → Read Entries) (keys : List (List ℕ)) (r : ContentRow) (rs : List ContentRow) → entries_on value later keys r rs None ≡ fails (no_entry_fault r)
none-on value later keys r rs =
    elim (cases_Bool (opens_quote r.first r.rest)) [
      | inl b ↦ rw b refl
      | inr b ↦ rw b refl
    ]

pub entries-wrong : (value : EntryValues) (n m : ℕ) (keys : List (List ℕ)) (rs : List ContentRow) (f : Fault) → entry_turn m rs ≡ Err f → entries value (suc n) m keys rs ≡ Err f
unfolding entry_turn entries
entries-wrong value n m keys [] f e = absurd (over-wrong f e)
entries-wrong value n m keys (s ∷ ss) f e =
    turn-cases m s ss (λ t. t ≡ wrong f → entries value (suc n) m keys (s ∷ ss) ≡ Err f) (λ lt e. at-deeper m s ss no_entries _ lt ∙ to (indent_fault s) e) (λ lt e. absurd (over-wrong f e))
    (λ same e. at-indent m s ss no_entries _ same ∙ here (entry_of s) e) e
  where
    to : (g : Fault) → ◌≡◌ {A = Turn Found} (wrong g) (wrong f) → fails g ≡ fails f
    to g e = ap fails (same-wrong g f e)

    here : (o : Option EntryHead) → head_here s ss o ≡ wrong f → entries_on value (λ ks rows. entries value n m ks rows) keys s ss o ≡ Err f
    here None e = none-on value (λ ks rows. entries value n m ks rows) keys s ss ∙ to (no_entry_fault s) e
    here (Some k) e = absurd (some-wrong f (s, k, ss) e)

-- ---- one entry, and then what is read behind it

-- the entries behind one
abbrev pub with_one : (Keys → List ContentRow → Read Entries) → Keys → Read (Value × Tree) → Read Entries
with_one later keys read = read >>= λ x. with_entry x.0.0 x.0.1 (later (keys ++ x.0.0.text ∷ []) x.1)

value-is : (later : Keys → List ContentRow → Read Entries) (keys : Keys) (v : Value) (read : Read Tree) → entries_behind v (λ rows. later (keys ++ v.text ∷ []) rows) read ≡ with_one later keys (with_key v read)
value-is later keys v (Ok x) = refl
value-is later keys v (Err f) = refl

keyed-is : (value : EntryValues) (later : Keys → List ContentRow → Read Entries) (keys : Keys) (r : ContentRow) (rs : List ContentRow) (h : EntryHead) (v : Value)
    → keyed value later keys r rs h.1 h.2 v ≡ with_one later keys (if_new keys v >>= λ v. with_key v (value r.begin h.1 h.2 rs))
keyed-is value later keys r rs h v =
    elim (cases_Bool (has keys v.text)) [
      | inl b ↦ rw b refl
      | inr b ↦ rw b (value-is later keys v (value r.begin h.1 h.2 rs))
    ]

key-is : (value : EntryValues) (later : Keys → List ContentRow → Read Entries) (keys : Keys) (r : ContentRow) (rs : List ContentRow) (h : EntryHead) (read : Result Value Fault)
    → key_read value later keys r rs h.1 h.2 read ≡ with_one later keys ((read >>= λ v. if_new keys v) >>= λ v. with_key v (value r.begin h.1 h.2 rs))
key-is value later keys r rs h (Ok v) = keyed-is value later keys r rs h v
key-is value later keys r rs h (Err f) = refl

-- one turn at an entry
pub at-entry : (value : EntryValues) (n m : ℕ) (keys : Keys) (r : ContentRow) (h : EntryHead) (later : List ContentRow) → indent r ≡ m → entry_of r ≡ Some h
    → entries value (suc n) m keys (r ∷ later) ≡ with_one (λ ks rows. entries value n m ks rows) keys (one_entry value keys r h later)
unfolding entries one_entry new_key
at-entry value n m keys r h later same e =
    at-indent m r later no_entries _ same ∙ ap (entries_on value (λ ks rows. entries value n m ks rows) keys r later) e
    ∙ key-is value (λ ks rows. entries value n m ks rows) keys r later h (key_of r.first r.rest h.0)

-- ---- some entries, and then what is read behind them

-- what a loop knows: the entries that it found, and then those of the rows left, are all
pub record EntriesLeft (bytes : List ℕ) (d : ℕ) (m : ℕ) (found : List Pair) (rest : List ContentRow) (total : Read Entries) : Type 0 where
  pub turns : ℕ
  pub enough : length rest < turns
  pub same : after_entries found (entries (values bytes d m) turns m (texts_of found) rest) ≡ total

module _ (bytes : List ℕ) (d : ℕ) where
  told-shorter : (m begin : ℕ) (colon : Cell) (behind : List Cell) (rs : List ContentRow) (t : Tree) (rest : List ContentRow) (read : Read Tree) → read ≡ Ok (t, rest) → EntryValueTold bytes d m begin colon behind rs read → length rest ≤ length rs
  told-shorter m begin colon behind rs t rest read e h = end-length rs rest (entry-value-rows bytes d m begin colon behind rs t rest (subst (EntryValueTold bytes d m begin colon behind rs) e h))

  rows-in : List ContentRow → Read Pair → List ContentRow
  rows-in rs (Ok x) = x.1
  rows-in rs (Err f) = rs

  -- the value of an entry that was read
  value-read : (new : Result Value Fault) (read : Read Tree) (x : Pair) (rest : List ContentRow) → (new >>= λ v. with_key v read) ≡ Ok (x, rest) → (t : Tree) × (read ≡ Ok (t, rest))
  unfolding rows-in
  value-read (Err f) read x rest e = absurd cc
  value-read (Ok w) (Err f) x rest e = absurd cc
  value-read (Ok w) (Ok y) x rest e = (y.0, ap (λ (n : List ContentRow). let z : Read Tree = Ok (y.0, n) in z) (ap (rows-in rest) e))

  -- an entry leaves no more rows than there were
  pub entry-shorter : (m : ℕ) (keys : Keys) (r : ContentRow) (h : EntryHead) (rs : List ContentRow) (x : Pair) (rest : List ContentRow) → IsPlaced bytes r → ArePlaced bytes rs → entry_of r ≡ Some h → one_entry (values bytes d m) keys r h rs ≡ Ok (x, rest) → length rest ≤ length rs
  unfolding one_entry new_key
  entry-shorter m keys r h rs x rest here placed is e =
      let v = value-read (new_key keys r h) (values bytes d m r.begin h.1 h.2 rs) x rest e in
      let s = entry-split r h is in
      let source : text_of r ≡ (s.0 ++ h.1 ∷ []) ++ h.2 = s.1 ∙ sym (append_assoc s.0 (h.1 ∷ []) h.2) in
      told-shorter m r.begin h.1 h.2 rs v.0 rest (values bytes d m r.begin h.1 h.2 rs) v.1
      (entry-value-told bytes d m r.begin h.1 (s.0 ++ h.1 ∷ []) h.2 r rs (λ a x xs. node-tells bytes d a x xs) (λ a x xs. own-tells bytes d a x xs) here source placed)

  pub first-entry : (r : ContentRow) (h : EntryHead) (rs : List ContentRow) (x : Pair) (rest : List ContentRow) → IsPlaced bytes r → ArePlaced bytes rs → entry_of r ≡ Some h → one_entry (values bytes d (indent r)) [] r h rs ≡ Ok (x, rest)
      → EntriesLeft bytes d (indent r) (x ∷ []) rest (run_entries bytes d (indent r) r rs)
  first-entry r h rs x rest here placed i e = record {
    turns = length (r ∷ rs);
    enough = omega (arith, entry-shorter (indent r) [] r h rs x rest here placed i e);
    same = sym (at-entry (values bytes d (indent r)) (length (r ∷ rs)) (indent r) [] r h rs refl i ∙ ap (with_one (λ ks rows. entries (values bytes d (indent r)) (length (r ∷ rs)) (indent r) ks rows) []) e);
  }

  pub first-fails : (r : ContentRow) (h : EntryHead) (rs : List ContentRow) (e : Refusal) → entry_of r ≡ Some h → Fails e (one_entry (values bytes d (indent r)) [] r h rs) → Fails e (run_entries bytes d (indent r) r rs)
  first-fails r h rs refusal_of.Memory i k = tt
  first-fails r h rs (refusal_of.At kind span) i k =
      at-entry (values bytes d (indent r)) (length (r ∷ rs)) (indent r) [] r h rs refl i ∙ ap (with_one (λ ks rows. entries (values bytes d (indent r)) (length (r ∷ rs)) (indent r) ks rows) []) k

  one-turn : (m : ℕ) (found : List Pair) (rs : List ContentRow) (r : ContentRow) (h : EntryHead) (later : List ContentRow) (n : ℕ) (read : Read Pair) → NextEntry m rs r h later → one_entry (values bytes d m) (texts_of found) r h later ≡ read
      → entries (values bytes d m) (suc n) m (texts_of found) rs ≡ with_one (λ ks rows. entries (values bytes d m) n m ks rows) (texts_of found) read
  one-turn m found rs r h later n read next e =
      ap (entries (values bytes d m) (suc n) m (texts_of found)) next.rows ∙ at-entry (values bytes d m) n m (texts_of found) r h later next.column next.is
      ∙ ap (with_one (λ ks rows. entries (values bytes d m) n m ks rows) (texts_of found)) e

  pub more-entries : (m : ℕ) (found : List Pair) (rs : List ContentRow) (r : ContentRow) (h : EntryHead) (later : List ContentRow) (x : Pair) (rest : List ContentRow) (total : Read Entries) → IsPlaced bytes r → ArePlaced bytes later → NextEntry m rs r h later
      → one_entry (values bytes d m) (texts_of found) r h later ≡ Ok (x, rest) → EntriesLeft bytes d m found rs total → EntriesLeft bytes d m (found ++ x ∷ []) rest total
  more-entries m found rs r h later x rest total here placed next e left = by left.turns left.enough left.same
    where
      by : (n : ℕ) → length rs < n → after_entries found (entries (values bytes d m) n m (texts_of found) rs) ≡ total → EntriesLeft bytes d m (found ++ x ∷ []) rest total
      by zero lt same = absurd (omega (arith, lt))
      by (suc n) lt same =
          let one = one-turn m found rs r h later n (Ok (x, rest)) next e in
          record {
            turns = n;
            enough = omega (arith, lt, ap length next.rows, entry-shorter m (texts_of found) r h later x rest here placed next.is e);
            same = ap (λ (ks : Keys). after_entries (found ++ x ∷ []) (entries (values bytes d m) n m ks rest)) (texts-push found x)
                ∙ entries-push found x (entries (values bytes d m) n m (texts_of found ++ x.0.text ∷ []) rest) ∙ ap (after_entries found) (sym one) ∙ same;
          }

  pub entry-fails : (m : ℕ) (found : List Pair) (rs : List ContentRow) (r : ContentRow) (h : EntryHead) (later : List ContentRow) (total : Read Entries) (e : Refusal) → NextEntry m rs r h later → Fails e (one_entry (values bytes d m) (texts_of found) r h later)
      → EntriesLeft bytes d m found rs total → Fails e total
  entry-fails m found rs r h later total refusal_of.Memory next k left = tt
  entry-fails m found rs r h later total (refusal_of.At kind span) next k left = by left.turns left.enough left.same
    where
      by : (n : ℕ) → length rs < n → after_entries found (entries (values bytes d m) n m (texts_of found) rs) ≡ total → total ≡ Err (record { kind = kind; span = span })
      by zero lt same = absurd (omega (arith, lt))
      by (suc n) lt same = sym same ∙ ap (after_entries found) (one-turn m found rs r h later n (Err (record { kind = kind; span = span })) next k) ∙ entries-err found (record { kind = kind; span = span })

  pub turn-fails : (m : ℕ) (found : List Pair) (rs : List ContentRow) (total : Read Entries) (e : Refusal) → Fails e (entry_turn m rs) → EntriesLeft bytes d m found rs total → Fails e total
  turn-fails m found rs total refusal_of.Memory h left = tt
  turn-fails m found rs total (refusal_of.At kind span) h left = by left.turns left.enough left.same
    where
      by : (n : ℕ) → length rs < n → after_entries found (entries (values bytes d m) n m (texts_of found) rs) ≡ total → total ≡ Err (record { kind = kind; span = span })
      by zero lt same = absurd (omega (arith, lt))
      by (suc n) lt same = sym same ∙ ap (after_entries found) (entries-wrong (values bytes d m) n m (texts_of found) rs (record { kind = kind; span = span }) h) ∙ entries-err found (record { kind = kind; span = span })

  pub entries-done : (m : ℕ) (found : List Pair) (rs : List ContentRow) (total : Read Entries) → entry_turn m rs ≡ Ok None → EntriesLeft bytes d m found rs total → total ≡ Ok (entries_of found, rs)
  entries-done m found rs total e left =
      sym left.same ∙ ap (after_entries found) (entries-end (values bytes d m) left.turns m (texts_of found) rs (omega (arith, left.enough)) (entries-over m rs e)) ∙ entries-all found rs

  -- where the code computed the indent
  pub first-entry-at : (m : ℕ) (r : ContentRow) (h : EntryHead) (rs : List ContentRow) (x : Pair) (rest : List ContentRow) → m ≡ indent r → IsPlaced bytes r → ArePlaced bytes rs → entry_of r ≡ Some h → one_entry (values bytes d m) [] r h rs ≡ Ok (x, rest)
      → EntriesLeft bytes d m (x ∷ []) rest (run_entries bytes d (indent r) r rs)
  first-entry-at m r h rs x rest q here placed i e =
      subst (λ (k : ℕ). EntriesLeft bytes d k (x ∷ []) rest (run_entries bytes d (indent r) r rs)) (sym q) (first-entry r h rs x rest here placed i (subst (λ (k : ℕ). one_entry (values bytes d k) [] r h rs ≡ Ok (x, rest)) q e))

  pub first-fails-at : (m : ℕ) (r : ContentRow) (h : EntryHead) (rs : List ContentRow) (e : Refusal) → m ≡ indent r → entry_of r ≡ Some h → Fails e (one_entry (values bytes d m) [] r h rs) → Fails e (run_entries bytes d (indent r) r rs)
  first-fails-at m r h rs e q i k = first-fails r h rs e i (subst (λ (k : ℕ). Fails e (one_entry (values bytes d k) [] r h rs)) q k)
