-- Each of the five steps keeps the rule.
use Rattle.std.proofs.Common.{◌≡◌, ◌≢◌, ℕ, zero, suc, ◌+◌, ◌-◌, ◌<◌, ◌≤◌, Bool, true, false, not, ◌||◌, ◌==◌, ◌*◌, if◌then◌else◌, eq-eqb, ne_eqb, List, [], ◌∷◌, ◌++◌, map, length, get_or, set, bit_or, Option, refl, sym, ap, ◌∙◌, subst, ⊎_elim, arith, length-set, get_or-set_same, append-nil}
use Rattle.std.proofs.lemmas.Bool.{false≢true}
use Rattle.std.proofs.lemmas.Grind.{common_steps}
use Rattle.std.proofs.lemmas.List.{set-get_or}
use Rattle.std.proofs.lemmas.List.Sums.{sum_by_push}
use mathlib.Core.Logic.{dite}
use mathlib.Core.List.{map-append}
use mathlib.Core.Option.{some, some-ne-none, some-injective}
use native.Mathlib.Decide.{ℕ_discrete}
use lib.ListN.{get_elem?}
use lib.Seq.{map-set}
use Rattle.atomic_table.proofs.Lists.{at_set, at_snoc, at_map, set_again, set_else}
use Rattle.lf_board.specs.declared.rule.View.{View}
use Rattle.lf_board.specs.Claims as board
use Rattle.lf_board.specs.Numbers.{AreNumbersBelow, times}
use Rattle.lf_board.proofs.Sums.{one-le-sum_by, once_below_inside, sum_by-set_at, times_miss}
use Rattle.lf_board.proofs.Steps.{cuts, gets, lasts, merges, misses, opens}
use Rattle.lf_ast.specs.Rules.{RuleTree}
use Rattle.lf_classes.specs.RowWords.{WordLeq, WordsLeq, row_word}
use Rattle.lf_classes.proofs.RowWordOrder.{word_refl, word_trans, words_refl, words_trans}
use Rattle.lf_semantics.specs.Environments.{IsEnvironmentOf, IsPostFixedPoint, recorded_row}
use Rattle.lf_semantics.specs.Listing.{place}
use Rattle.std.specs.Option.{option_map_or}
use Rattle.lf_semantics.specs.RowTable.{Environment}
use Rattle.lf_rounds.specs.declared.rule.About.{About}
use Rattle.lf_rounds.specs.declared.rule.Done.{Done}
use Rattle.lf_rounds.specs.declared.rule.Loaded.{Loaded}
use Rattle.lf_rounds.specs.declared.rule.RoundView.{RoundView}
use Rattle.lf_rounds.specs.Rounds.{AllDone, Fits, Holds, IsSummed, Stands, adds, board_of, both_of, claimed_view, in_work, left_of, marks, missed_view, noted, opening_view, right_of, spent_view, task_of}
use Rattle.lf_rounds.specs.Sums.{sum_of_rows}
use Rattle.lf_rounds.specs.Tasks.{IsBelowLeast, IsTask, Raised, Task, names, place_of, read_by, rule_of, stands_for, stored_word, width}
use Rattle.lf_rounds.specs.views.Noting.{AreMadeBy, AreNoted}
use Rattle.lf_rounds.specs.Words.{words_of}
use Rattle.lf_rounds.proofs.Pieces.{stored_below}
use Rattle.lf_laws.proofs.Members.{all_append, each_member}
use Rattle.lf_rounds.proofs.WordSteps.{done_append, done_on, length-noted, or_least, or_left, or_right, same_words, set_left, set_right, stands_on, stored_grows}

-- each view stands where the words grow and one view changes
fits_set : (t : Task) (words now : List ℕ) (views : List RoundView) (id : ℕ) (w : RoundView) → WordsLeq words now → ((j : ℕ) (u : RoundView) → get_elem? views j ≡ some u → Fits t words u) → Fits t now w → (j : ℕ) (u : RoundView) → get_elem? (set views id w) j ≡ some u → Fits t now u
fits_set t words now views id w up others mine j u e = ⊎_elim (λ (c : (j ≡ id) × (w ≡ u)). subst (Fits t now) c.1 mine)
    (λ (c : (j ≢ id) × (get_elem? views j ≡ some u)).
    let h = others j u c.1 in
    record {
      listed = h.listed;
      done = done_on t words now u.done up h.done;
      work = λ b. stands_on t words now u.piece u.loads u.raised up (h.work b);
      summed = h.summed;
      spent = h.spent;
    })
    (at_set views id j w u e)

module _ (k : About) (n id : ℕ) (words : List ℕ) (views : List RoundView) (v : RoundView) (h : Holds k n words views) (at : get_elem? views id ≡ some v) where
  abbrev t : Task
  t = task_of k

  -- the views of the board, where one view changes
  board_set : (m : ℕ) (w : RoundView) → board.Holds k.counts m (set (map board_of views) id w.board) → board.Holds k.counts m (map board_of (set views id w))
  board_set m w b = subst (board.Holds k.counts m) (sym (map-set board_of views id w)) b

  board_at : get_elem? (map board_of views) id ≡ some v.board
  board_at = at_map board_of views id v at

  -- a step that changes no row word and no mark
  stays : (m : ℕ) (w : RoundView) → board.Holds k.counts m (set (map board_of views) id w.board) → w.changed ≡ v.changed → Fits t words w → Holds k m words (set views id w)
  stays m w b same fit =
      let s = sum_by-set_at marks views id v w at in
      let e : marks w ≡ marks v = ap (λ (c : Bool). marks (record v { changed = c })) same in
      record {
        board = board_set m w b;
        wide = h.wide;
        above = h.above;
        under = h.under;
        unmarked = λ z. h.unmarked (omega arith);
        marked = λ z. h.marked (omega arith);
        fits = fits_set t words words views id w (words_refl words) h.fits fit;
      }

  pub claims_piece : v.busy ≡ false → 0 < v.board.share → n < k.counts.pieces → Holds k (n + 1) words (set views id (claimed_view v n))
  claims_piece idle live below =
      let w = claimed_view v n in
      let f = h.fits id v at in
      let nothing : in_work v ≡ [] = ap (λ (b : Bool). in_work (record v { busy = b })) idle in
      let list : v.board.claims ≡ map (λ (d : Done). d.piece) v.done = f.listed ∙ ap (λ (l : List ℕ). map (λ (d : Done). d.piece) v.done ++ l) nothing ∙ simp common_steps in
      stays (n + 1) w (gets k.counts n id (map board_of views) v.board h.board board_at live below) refl record {
        listed = ap (λ (l : List ℕ). l ++ n ∷ []) list;
        done = f.done;
        work = λ _. (words_refl t.start, h.above, λ j l. absurd (omega arith));
        summed = f.summed;
        spent = f.spent;
      }

  pub claims_none : v.busy ≡ false → 0 < v.board.share → v.board.missed ≡ 0 → k.counts.pieces ≤ n → Holds k (n + 1) words (set views id (missed_view v))
  claims_none idle live still_open full =
      let f = h.fits id v at in
      stays (n + 1) (missed_view v) (misses k.counts n id (map board_of views) v.board h.board board_at live still_open full) refl record { listed = f.listed; done = f.done; summed = f.summed; work = f.work; spent = f.spent }

  -- a load of the row word i, before the first or
  pub loads : (i : ℕ) → i < length words → v.busy ≡ true → v.raised ≡ 0 → Holds k n words (set views id (record v { loads = record { place = i; word = get_or words i 0 } ∷ v.loads }))
  loads i within busy first =
      let w : RoundView = record v { loads = record { place = i; word = get_or words i 0 } ∷ v.loads } in
      let f = h.fits id v at in
      let seen = noted t.start v.loads in
      let long = length-noted t.start v.loads in
      let wide = h.wide in
      let s = f.work busy in
      stays n w (subst (board.Holds k.counts n) (sym (set_again (map board_of views) id v.board board_at)) h.board) refl record {
        listed = f.listed;
        done = f.done;
        work = λ _. (set_right t.start seen i (get_or words i 0) (omega arith) s.0 (h.above.at i), set_left seen words i (get_or words i 0) (omega arith) s.1 (word_refl (get_or words i 0)), λ j l. absurd (omega arith));
        summed = f.summed;
        spent = f.spent;
      }

or_not : (b : Bool) (x y : ℕ) → x ≡ y → b || not (x == y) ≡ b
or_not true x y e = refl
or_not false x y e = ap not (eq-eqb x y e)

or_off : (b : Bool) (x y : ℕ) → x ≢ y → b || not (x == y) ≡ true
or_off true x y ne = refl
or_off false x y ne = ap not (ne_eqb x y ne)

marks_of : (v : RoundView) (b : Bool) → v.changed ≡ b → marks v ≡ marks (record v { changed = b })
marks_of v b e = ap (λ (c : Bool). marks (record v { changed = c })) e

module _ (k : About) (n id : ℕ) (words : List ℕ) (views : List RoundView) (v w : RoundView) (h : Holds k n words views) (at : get_elem? views id ≡ some v) (i x : ℕ) (within : i < length words) where
  abbrev old : ℕ
  old = get_or words i 0

  abbrev now : List ℕ
  now = set words i (bit_or old x)

  abbrev start : List ℕ
  start = (task_of k).start

  up : WordsLeq words now
  up = set_right words words i (bit_or old x) within (words_refl words) (or_left old x)

  same_now : bit_or old x ≡ old → now ≡ words
  same_now e = ap (λ (z : ℕ). set words i z) e ∙ set-get_or words i 0

  new_now : bit_or old x ≢ old → now ≢ start
  new_now ne e =
      let back : WordsLeq now words = subst (λ (l : List ℕ). WordsLeq l words) (sym e) h.above in
      let is : words ≡ now = same_words words now (sym (length-set words i (bit_or old x))) up back in
      ne (sym (get_or-set_same words i (bit_or old x) 0 within) ∙ ap (λ (l : List ℕ). get_or l i 0) (sym is))

  rises : w.board ≡ v.board → w.changed ≡ v.changed || not (bit_or old x == old)
      → ((env : Environment) → IsEnvironmentOf (task_of k).universe (task_of k).rules env → IsPostFixedPoint (task_of k).universe (task_of k).rules env → WordsLeq words (words_of (task_of k).universe env) → WordLeq x (get_or (words_of (task_of k).universe env) i 0))
      → Fits (task_of k) now w → Holds k n now (set views id w)
  rises board_kept mark stays_under fit =
      let s = sum_by-set_at marks views id v w at in
      let part = one-le-sum_by marks views id v at in
      let same_marks = λ (e : bit_or old x ≡ old). marks_of w v.changed (mark ∙ or_not v.changed (bit_or old x) old e) in
      record {
        board = subst (board.Holds k.counts n) (sym (map-set board_of views id w ∙ ap (λ (b : View). set (map board_of views) id b) board_kept ∙ set_again (map board_of views) id v.board (at_map board_of views id v at))) h.board;
        wide = length-set words i (bit_or old x) ∙ h.wide;
        above = words_trans start words now h.above up;
        under = λ env of closed. (let u = h.under env of closed in set_left words (words_of (task_of k).universe env) i (bit_or old x) within u (or_least old x (get_or (words_of (task_of k).universe env) i 0) (u.at i) (stays_under env of closed u)));
        unmarked = λ z. dite (ℕ_discrete (bit_or old x) old)
            (λ e. let m = same_marks e in same_now e ∙ h.unmarked (omega arith))
            (λ ne. let m = marks_of w true (mark ∙ or_off v.changed (bit_or old x) old ne) in absurd (omega arith));
        marked = λ z. dite (ℕ_discrete (bit_or old x) old)
            (λ e. let m = same_marks e in λ is. h.marked (omega arith) (sym (same_now e) ∙ is))
            (λ ne. new_now ne);
        fits = fits_set (task_of k) words now views id w up h.fits fit;
      }

module _ (k : About) (is : IsTask (task_of k)) (n id : ℕ) (words : List ℕ) (views : List RoundView) (v : RoundView) (h : Holds k n words views) (at : get_elem? views id ≡ some v) (busy : v.busy ≡ true) (live : 0 < v.board.share) where
  abbrev task : Task
  task = task_of k

  abbrev seen : List ℕ
  seen = noted task.start v.loads

  abbrev x : ℕ
  x = stored_word task v.piece seen v.raised

  abbrev i : ℕ
  i = place_of task v.piece v.raised

  abbrev new_words : List ℕ
  new_words = set words i (bit_or (get_or words i 0) x)

  -- the word that is raised stays within each post-fixed point
  within_closed : v.raised < width task → (env : Environment) → IsEnvironmentOf task.universe task.rules env → IsPostFixedPoint task.universe task.rules env → WordsLeq words (words_of task.universe env) → WordLeq x (get_or (words_of task.universe env) i 0)
  within_closed more env of closed over =
      let f = h.fits id v at in
      let s = f.work busy in
      stored_below task is v.piece v.raised seen env of closed (words_trans seen words (words_of task.universe env) s.1 over) more

  -- one word more is raised
  one_more : i < length words → Stands task new_words v.piece v.loads (v.raised + 1)
  one_more within =
      let f = h.fits id v at in
      let before = get_or words i 0 in
      let grown : WordsLeq words new_words = set_right words words i (bit_or before x) within (words_refl words) (or_left before x) in
      let s = stands_on task words new_words v.piece v.loads v.raised grown (f.work busy) in (
        s.0,
        s.1,
        λ j l. dite (ℕ_discrete j v.raised)
            (λ e. subst (λ (z : ℕ). WordLeq (stored_word task v.piece seen z) (get_or new_words (place_of task v.piece z) 0)) (sym e) (subst (WordLeq x) (sym (get_or-set_same words i (bit_or before x) 0 within)) (or_right before x)))
            (λ ne. s.2 j (omega arith)),
      )

  abbrev mark : Bool
  mark = v.changed || adds x (get_or words i 0)

  pub raises : v.raised < width task → i < length words → Holds k n new_words (set views id (record v { raised = v.raised + 1; changed = mark }))
  raises more within =
      let f = h.fits id v at in
      let w : RoundView = record v { raised = v.raised + 1; changed = mark } in
      let grown : WordsLeq words new_words = set_right words words i (bit_or (get_or words i 0) x) within (words_refl words) (or_left (get_or words i 0) x) in
      rises k n id words views v w h at i x within refl refl (within_closed more) record {
        listed = f.listed;
        done = done_on task words new_words v.done grown f.done;
        work = λ _. one_more within;
        summed = f.summed;
        spent = λ none_left. absurd (omega arith);
      }

  pub finishes : v.raised + 1 ≡ width task → i < length words → IsSummed task (record { piece = v.piece; loads = v.loads }) → Holds k n new_words (set views id (record v { done = v.done ++ record { piece = v.piece; loads = v.loads } ∷ []; busy = false; changed = mark }))
  finishes all within sums =
      let f = h.fits id v at in
      let last : Done = record { piece = v.piece; loads = v.loads } in
      let w : RoundView = record v { done = v.done ++ last ∷ []; busy = false; changed = mark } in
      let grown : WordsLeq words new_words = set_right words words i (bit_or (get_or words i 0) x) within (words_refl words) (or_left (get_or words i 0) x) in
      let piece_listed : in_work v ≡ v.piece ∷ [] = ap (λ (b : Bool). in_work (record v { busy = b })) busy in
      rises k n id words views v w h at i x within refl refl (within_closed (omega arith)) record {
        listed = f.listed ∙ ap (λ (l : List ℕ). map (λ (d : Done). d.piece) v.done ++ l) piece_listed ∙ sym (map-append (λ (d : Done). d.piece) v.done (last ∷ [])) ∙ sym (append-nil (map (λ (d : Done). d.piece) (v.done ++ last ∷ [])));
        done = done_append task new_words v.done (last ∷ []) (done_on task words new_words v.done grown f.done) (subst (Stands task new_words v.piece v.loads) all (one_more within), tt);
        summed = all_append (IsSummed task) v.done (last ∷ []) f.summed (sums, tt);
        work = λ b. absurd (false≢true b);
        spent = λ none_left. absurd (omega arith);
      }

-- a mark of both is a mark of one of them, and both marks may count twice
either_mark : (a b : Bool) → ((if a || b then 1 else 0) ≤ (if a then 1 else 0) + (if b then 1 else 0)) × ((if a then 1 else 0) + (if b then 1 else 0) ≤ 2 * (if a || b then 1 else 0))
either_mark true true = (omega arith, omega arith)
either_mark true false = (omega arith, omega arith)
either_mark false true = (omega arith, omega arith)
either_mark false false = (omega arith, omega arith)

idle_list : (v : RoundView) → v.busy ≡ false → v.board.claims ≡ map (λ (d : Done). d.piece) v.done ++ in_work v → v.board.claims ≡ map (λ (d : Done). d.piece) v.done
idle_list v idle listed = listed ∙ ap (λ (b : Bool). map (λ (d : Done). d.piece) v.done ++ in_work (record v { busy = b })) idle ∙ append-nil (map (λ (d : Done). d.piece) v.done)

-- the row of a piece that is done, over the start
done_over : (t : Task) → IsTask t → (words : List ℕ) (ds : List Done) → AllDone t words ds → (p : ℕ) → 0 < times p (map (λ (d : Done). d.piece) ds) → Raised t words p t.start (width t)
done_over t is words [] done p some_of = absurd (omega arith)
done_over t is words (d ∷ ds) done p some_of = dite (ℕ_discrete p d.piece)
    (λ same. subst (λ (q : ℕ). Raised t words q t.start (width t)) (sym same)
    (λ j l. word_trans (stored_word t d.piece t.start j) (stored_word t d.piece (noted t.start d.loads) j) (get_or words (place_of t d.piece j) 0) (stored_grows t is d.piece t.start (noted t.start d.loads) j done.0.0) (done.0.2 j l)))
    (λ ne. let m = times_miss p d.piece (map (λ (e : Done). e.piece) ds) ne in done_over t is words ds done.1 p (omega arith))

module _ (k : About) (n id : ℕ) (words : List ℕ) (views : List RoundView) (v : RoundView) (h : Holds k n words views) (at : get_elem? views id ≡ some v) where
  pub splits : (room : ℕ) → v.board.missed ≡ 0 → room + 1 < v.board.share → Holds k n words (set views id (left_of room v) ++ right_of room v ∷ [])
  splits room still_open fits_in =
      let w = left_of room v in
      let u = right_of room v in
      let f = h.fits id v at in
      let l = set views id w in
      let s = sum_by-set_at marks views id v w at in
      let s' = sum_by_push marks l u in
      let b = cuts k.counts n id room (map board_of views) v.board h.board (at_map board_of views id v at) still_open fits_in in
      record {
        board = subst (board.Holds k.counts n) (sym (map-append board_of l (u ∷ []) ∙ ap (λ (m : List View). m ++ u.board ∷ []) (map-set board_of views id w))) b;
        wide = h.wide;
        above = h.above;
        under = h.under;
        unmarked = λ z. h.unmarked (omega arith);
        marked = λ z. h.marked (omega arith);
        fits = λ j y e. ⊎_elim
            (λ there. fits_set (task_of k) words words views id w (words_refl words) h.fits record { listed = f.listed; done = f.done; summed = f.summed; work = f.work; spent = λ none_left. absurd (omega arith) } j y there)
            (λ (same : u ≡ y). subst (Fits (task_of k) words) same record { listed = refl; done = tt; summed = tt; work = λ c. absurd (false≢true c); spent = λ _. refl })
            (at_snoc l u y j e);
      }

  pub joins : (other : ℕ) (u : RoundView) → ¬ (other ≡ id) → get_elem? (set views id (both_of v u)) other ≡ some u → 0 < v.board.share → v.busy ≡ false → u.busy ≡ false → Holds k n words (set (set views id (both_of v u)) other spent_view)
  joins other u apart there live idle idle' =
      let w = both_of v u in
      let l = set views id w in
      let f = h.fits id v at in
      let was : get_elem? views other ≡ some u = ⊎_elim (λ (c : (other ≡ id) × (w ≡ u)). absurd (apart c.0)) (λ (c : (other ≢ id) × (get_elem? views other ≡ some u)). c.1) (at_set views id other w u there) in
      let g = h.fits other u was in
      let s = sum_by-set_at marks views id v w at in
      let s' = sum_by-set_at marks l other u spent_view there in
      let gone = sum_by-set_at marks views id v spent_view at in
      let apart_too = one-le-sum_by marks (set views id spent_view) other u (set_else views id other spent_view apart ∙ was) in
      let lower : (marks w ≤ marks v + marks u) × (marks v + marks u ≤ 2 * marks w) = either_mark v.changed u.changed in
      let b = merges k.counts n id other (map board_of views) v.board u.board h.board (at_map board_of views id v at) (subst (λ (m : List View). get_elem? m other ≡ some u.board) (map-set board_of views id w) (at_map board_of l other u there)) live in
      record {
        board = subst (board.Holds k.counts n) (sym (map-set board_of l other spent_view ∙ ap (λ (m : List View). set m other spent_view.board) (map-set board_of views id w))) b;
        wide = h.wide;
        above = h.above;
        under = h.under;
        unmarked = λ z. h.unmarked (omega arith);
        marked = λ z. h.marked (omega arith);
        fits = fits_set (task_of k) words words l other spent_view (words_refl words) (fits_set (task_of k) words words views id w (words_refl words) h.fits record {
          listed = ap (λ (m : List ℕ). m ++ u.board.claims) (idle_list v idle f.listed) ∙ ap (λ (m : List ℕ). map (λ (d : Done). d.piece) v.done ++ m) (idle_list u idle' g.listed) ∙ sym (map-append (λ (d : Done). d.piece) v.done u.done) ∙ sym (append-nil (map (λ (d : Done). d.piece) (v.done ++ u.done)));
          done = done_append (task_of k) words v.done u.done f.done g.done;
          summed = all_append (IsSummed (task_of k)) v.done u.done f.summed g.summed;
          work = λ c. absurd (false≢true c);
          spent = λ none_left. absurd (omega arith);
        }) record { listed = refl; done = tt; summed = tt; work = λ c. absurd (false≢true c); spent = λ _. refl };
      }

  -- what a seat did, as its notes tell it
  pub noted_made : (notes : List Loaded) → AreNoted v.done notes → AreMadeBy (task_of k) words notes
  noted_made notes listed note c r e =
      let t = task_of k in
      let f = h.fits id v at in
      let n = listed note c in
      let d = n.0 in
      let done = each_member (λ (x : Done). Stands t words x.piece x.loads (width t)) v.done d f.done n.1 in
      let summed = each_member (IsSummed t) v.done d f.summed n.1 in
      let seen = noted t.start d.loads in
      record {
        seen = seen;
        wide = length-noted t.start d.loads ∙ sym h.wide;
        leq = done.1;
        held = λ j l.
            (let P : Option RuleTree → Type 0 = λ o. WordLeq (option_map_or (λ x. row_word (recorded_row t.universe (stands_for t seen) x) j) o 0) (get_or words (option_map_or (λ x. place (names t) x.name * width t + j) o 0) 0) in
            subst P (ap (rule_of t) (sym n.2) ∙ e) (done.2 j l));
        summed = n.3 ∙ summed ∙ ap (λ (p : ℕ). sum_of_rows (width t) seen (read_by t p)) (sym n.2);
      }

  -- the end: the last seat, whole and closed
  pub ends : IsTask (task_of k) → v.busy ≡ false → 0 < v.board.share → v.board.share - 1 ≡ k.counts.seats - 1 → 0 < v.board.missed
      → AreNumbersBelow k.counts.pieces v.board.claims
      × ((p : ℕ) → p < k.counts.pieces → Raised (task_of k) words p (task_of k).start (width (task_of k)))
  ends is idle live all shut =
      let f = h.fits id v at in
      let numbers = lasts k.counts n id (map board_of views) v.board h.board (at_map board_of views id v at) live all shut in (
        numbers,
        λ p below. done_over (task_of k) is words v.done f.done p (subst (λ (l : List ℕ). 0 < times p l) (idle_list v idle f.listed) (let o = numbers.1 p in let s = once_below_inside k.counts.pieces p below in omega arith)),
      )

pub begins : (k : About) → IsBelowLeast (task_of k).universe (task_of k).rules (task_of k).start → Holds k 0 (task_of k).start (opening_view k ∷ [])
begins k below = record {
  board = opens k.counts;
  wide = refl;
  above = words_refl (task_of k).start;
  under = below;
  unmarked = λ _. refl;
  marked = λ z. absurd (omega arith);
  fits = first;
}
  where
    first : (id : ℕ) (v : RoundView) → get_elem? (opening_view k ∷ []) id ≡ some v → Fits (task_of k) (task_of k).start v
    first zero v e = subst (Fits (task_of k) (task_of k).start) (some-injective (opening_view k) v e) record { listed = refl; done = tt; summed = tt; work = λ c. absurd (false≢true c); spent = λ _. refl }
    first (suc id) v e = absurd (some-ne-none v (sym e))
