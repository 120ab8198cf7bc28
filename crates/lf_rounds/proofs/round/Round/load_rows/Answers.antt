use Rattle.std.proofs.Common.{◌≡◌, ◌+◌, ◌*◌, ◌<◌, ◌≤◌, ℕ, List, length, get_or, take, drop, refl, ap, sym, ◌∙◌, subst, arith}
use Rattle.std.specs.List.{Contains, sum}
use Rattle.std.proofs.lemmas.Grind.{get_or_default_zero}
use Rattle.std.proofs.lemmas.List.{length-map, take_all}
use Rattle.lf_ast.specs.Labels.{Bytes}
use Rattle.lf_ast.specs.Rules.{rule_trees}
use Rattle.lf_classes.proofs.RowWordOrder.{shape_of_words}
use Rattle.lf_classes.specs.RowWords.{row_of_words, word_count}
use Rattle.lf_flow.specs.Reads.{with_row}
use Rattle.lf_semantics.specs.Listing.{IsListing, Listing}
use Rattle.lf_semantics.specs.ClassRows.{Sets}
use Rattle.lf_semantics.specs.Environments.{IsEnvironment, IsEnvironmentOf}
use Rattle.lf_semantics.specs.RowTable.{Environment}
use Rattle.lf_rounds.specs.Facts.{RoundFacts, task}
use Rattle.lf_rounds.specs.Sums.{sum_of_rows}
use Rattle.lf_rounds.specs.Tasks.{IsTask, names, width}
use Rattle.lf_rounds.specs.views.Working.{HasRead, seen}
use Rattle.lf_rounds.proofs.Environments.{some_label}
use Rattle.lf_rounds.proofs.Loading.{as_before}
use Rattle.lf_rounds.proofs.Reading.{environment_put, number_within, read_one, sum_one}
use Rattle.lf_rounds.proofs.WordSteps.{length-noted}
use Rattle.lf_rounds.proofs.round.Round.load_rows.Goals as goal

pub load_words-requires-clause-number : goal.load_words-requires-clause-number
load_words-requires-clause-number c =
    let numbers : List ℕ = c.args.numbers.now in
    let i : ℕ = c.loop-number.number-index in
    let env : Environment = c.loop-number.env in
    let count = sym (length-map env (λ (entry : Bytes × Sets). entry.0)) ∙ ap length c.loop-number.invariant.env.names in
    let first = sym (length-map c.args.env.now (λ (entry : Bytes × Sets). entry.0)) ∙ ap length c.requires.env.names in
    omega (arith, first, c.requires.within (get_or numbers i 0) (i, c.loop-number-test.true, get_or_default_zero numbers i (get_or numbers i 0) c.loop-number-test.true))

pub take_row-requires-clause-listing : goal.take_row-requires-clause-listing
take_row-requires-clause-listing c =
    let round = c.args.self.now in
    let T : RoundFacts → Type 0 = λ f. IsTask (task f) in
    let is : IsTask (task round) = subst T c.self.view_is c.self.invariant.task in
    subst IsListing (sym c.requires.over) is.listing

pub take_row-requires-clause-env : goal.take_row-requires-clause-env
take_row-requires-clause-env c =
    let env : Environment = c.loop-number.env in
    let E : Listing → Type 0 = λ u. IsEnvironment u env in
    subst E (sym c.requires.over) c.loop-number.invariant.env.environment

pub take_row-requires-clause-number : goal.take_row-requires-clause-number
take_row-requires-clause-number c =
    let numbers : List ℕ = c.args.numbers.now in
    let i : ℕ = c.loop-number.number-index in
    let env : Environment = c.loop-number.env in
    let count = sym (length-map env (λ (entry : Bytes × Sets). entry.0)) ∙ ap length c.loop-number.invariant.env.names in
    let first = sym (length-map c.args.env.now (λ (entry : Bytes × Sets). entry.0)) ∙ ap length c.requires.env.names in
    omega (arith, first, count, c.requires.within (get_or numbers i 0) (i, c.loop-number-test.true, get_or_default_zero numbers i (get_or numbers i 0) c.loop-number-test.true))

pub take_row-requires-clause-words : goal.take_row-requires-clause-words
take_row-requires-clause-words c = ap length c.as_slice-in-loop-number.ensures.value ∙ c.load_words.ensures.len ∙ ap word_count (sym c.requires.over)

pub take_row-requires-clause-room : goal.take_row-requires-clause-room
take_row-requires-clause-room c = c.loop-number.invariant.room.1 ∙ ap word_count (sym c.requires.over)

pub loop-number-preserved : goal.loop-number-preserved
loop-number-preserved c =
    let round = c.args.self.now in
    let T : RoundFacts → Type 0 = λ f. IsTask (task f) in
    let is : IsTask (task round) = subst T c.self.view_is c.self.invariant.task in
    let numbers : List ℕ = c.args.numbers.now in
    let l = c.loop-number in
    let i : ℕ = l.number-index in
    let env : Environment = l.env in
    let old = seen round l.seat.me in
    let new = seen round c.load_words.new.seat.me in
    let h : i < length numbers = c.loop-number-test.true in
    let count : length env ≡ length (names (task round)) = sym (length-map env (λ (entry : Bytes × Sets). entry.0)) ∙ ap length l.invariant.env.names in
    let first = sym (length-map c.args.env.now (λ (entry : Bytes × Sets). entry.0)) ∙ ap length c.requires.env.names in
    let len : length new ≡ length old = length-noted round.start c.load_words.new.seat.me.0.loads ∙ sym (length-noted round.start l.seat.me.0.loads) in
    let all : length (names (task round)) * width (task round) ≤ length old = omega (arith, length-noted round.start l.seat.me.0.loads, is.words) in
    let within : (k : ℕ) → Contains numbers k → k < length env = λ k d. omega (arith, c.requires.within k d, first, count) in
    let number = get_or numbers i 0 in
    let part = c.load_words.ensures.words in
    let row : Sets = row_of_words round.universe (take (width (task round)) (drop (number * width (task round)) new)) in
    let taken : c.take_row.new.env ≡ with_row number row env = c.in_ok-take_row.ensures.taken ∙ ap (λ (x : Listing × List ℕ). with_row number (row_of_words x.0 x.1) env) (λ j. (c.requires.over j, (c.as_slice-in-loop-number.ensures.value ∙ part) j)) in
    let sums = sum_one (task round) old new numbers i env row c.requires.ascend h count len all within c.load_words.ensures.others in
    let shaped = shape_of_words round.universe (some_label round.universe is.listing) _ in
    let E : Environment → Type 0 = λ x. IsEnvironmentOf round.universe (rule_trees round.rules) x in
    let H : Environment → Type 0 = λ x. HasRead (task round) new (take (i + 1) numbers) x in
    record {
      loads = omega (arith, c.load_words.ensures.loads, c.in_ok-sum.ensures, ap sum c.as_slice.ensures.value, l.invariant.loads);
      rows = omega (arith, sums, c.in_ok-sum.ensures, ap sum c.as_slice.ensures.value, ap sum part, l.invariant.rows);
      used = c.load_words.ensures.used;
      same = as_before c.args.seat.now.me.0 l.seat.me.0 c.load_words.new.seat.me.0 l.invariant.same c.load_words.ensures.same;
      env = subst E (sym taken) (environment_put env number row (number_within (task round) old new numbers i env row c.requires.ascend h count len all within) round.universe (rule_trees round.rules) l.invariant.env shaped);
      room = (c.load_words.ensures.len, c.take_row.ensures.room ∙ l.invariant.room.1);
      read = subst H (sym taken) (read_one (task round) old new numbers i env row c.requires.ascend h count len all within c.load_words.ensures.others refl l.invariant.read);
    }

pub returns-clause-read : goal.returns-clause-read
returns-clause-read c =
    let round = c.args.self.now in
    let H : List ℕ → Type 0 = λ numbers. HasRead (task round) (seen round c.loop-number.seat.me) numbers c.loop-number.env in
    subst H (take_all c.loop-number.number-index c.args.numbers.now c.loop-number-test.false) c.loop-number.invariant.read

pub returns-clause-rows : goal.returns-clause-rows
returns-clause-rows c =
    let round = c.args.self.now in
    let H : List ℕ → Type 0 = λ numbers. c.loop-number.sum ≡ sum_of_rows (width (task round)) (seen round c.loop-number.seat.me) numbers in
    subst H (take_all c.loop-number.number-index c.args.numbers.now c.loop-number-test.false) c.loop-number.invariant.rows
