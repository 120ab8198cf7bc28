use Rattle.std.proofs.Common.{◌≡◌, ◌<◌, ◌≤◌, ◌+◌, ◌&&◌, ◌||◌, ℕ, Bool, true, List, [], length, map, not, get_or, refl, sym, ap, subst, ◌∙◌, arith}
use Rattle.std.specs.Prelude.{is_some}
use Rattle.std.specs.List.{list_all}
use Rattle.std.proofs.lemmas.List.{get_or-map, length-map, length-set, take_all}
use Rattle.std.proofs.lemmas.List.Folds.{list_all_more}
use Rattle.lf_ast.specs.Labels.{Bytes}
use Rattle.lf_ast.specs.declared.expr.Matching.{Matching}
use Rattle.lf_ast.specs.declared.expr.Op.{Op}
use Rattle.lf_semantics.specs.Grouped.{signs}
use Rattle.lf_semantics.specs.Listing.{Listing}
use Rattle.lf_trials.specs.Candidates.{labels_in}
use Rattle.lf_trials.specs.Given.{Given}
use Rattle.lf_trials.specs.Matched.{side, signature_text}
use Rattle.lf_trials.specs.Sides.{left_gives, right_gives}
use Rattle.lf_candidates.specs.views.ClassTexts.{StandsAt, StandsBefore, name_at}
use Rattle.lf_candidates.proofs.Standing.{all_stand, fails_at, label_count, none_yet, one_stands}
use Rattle.lf_built.specs.declared.marking.SideMark.{SideMark}
use Rattle.lf_built.specs.views.Marking.{side_mark}
use Rattle.lf_built.proofs.SideTexts.{side_now, text_told}
use Rattle.lf_built.proofs.sides.side_texts.Goals as goal

-- the mark at a label's place is that of the label
mark_at : (u : Listing) (op : Op) (m : Matching) (marks : List SideMark) (label : ℕ) (mark : SideMark) → marks ≡ map (side_mark op m) (labels_in u) → label < length (labels_in u) → mark ≡ get_or marks label mark → mark ≡ side_mark op m (name_at u label)
mark_at u op m marks label mark are listed is = is ∙ ap (λ (xs : List SideMark). get_or xs label mark) are ∙ get_or-map (side_mark op m) (labels_in u) label [] mark listed

pub get-mark-requires : goal.get-mark-requires
get-mark-requires c =
    let u = c.args.universe.now in
    let marks = c.requires.marks in
    let many = ap length marks.2 ∙ length-map (labels_in u) (side_mark marks.0 marks.1) in
    omega (arith, many, label_count u c.requires.universe, c.loop-label-test.true, c.labels-label-end.ensures.count)

pub signature_class-requires-clause-rows : goal.signature_class-requires-clause-rows
signature_class-requires-clause-rows c =
    let own = c.requires.rows in
    (own.0, own.1, c.loop-label.invariant.rows own.0 own.1 own.2)

pub loop-label-init : goal.loop-label-init
loop-label-init c =
    let u = c.args.universe.now in
    let texts = c.args.texts.now in
    record {
      rows = λ l r packed. (packed, tt);
      left_count = ap length c.in_ok-left.ensures;
      right_count = ap length c.in_ok-right.ensures;
      signed = λ l r op m D packed marks stands. refl;
      left = λ l r op m D packed marks stands. subst (λ classes. StandsBefore u texts 0 classes (side u (left_gives op m) op m l r D)) (sym c.in_ok-left.ensures) (none_yet u (side u (left_gives op m) op m l r D) texts);
      right = λ l r op m D packed marks stands. subst (λ classes. StandsBefore u texts 0 classes (side u (right_gives op m) op m l r D)) (sym c.in_ok-right.ensures) (none_yet u (side u (right_gives op m) op m l r D) texts);
    }

pub returns-then-lacks_text : goal.returns-then-lacks_text
returns-then-lacks_text c = λ l r op m D packed marks stands.
    let u = c.args.universe.now in
    let within = c.requires.universe in
    let label : ℕ = c.loop-label.label in
    let E : Given = signature_text u op m l r D in
    let test : Bytes → Bool = λ name. not (signs m name) || is_some (E name) in
    let less : label < length u.named = omega (arith, c.loop-label-test.true, c.labels-label-end.ensures.count) in
    let listed : label < length (labels_in u) = omega (arith, less, label_count u within) in
    let mark : SideMark = c.get-mark.result.now in
    let read : mark ≡ side_mark op m (name_at u label) = mark_at u op m c.args.marks.now label mark marks listed c.get-mark.ensures.read in
    let at : StandsAt u label c.get-class.result D = subst (λ o. StandsAt u label o D) (sym c.get-class.ensures) (stands.each label less) in
    let is : mark.signed ≡ signs m (name_at u label) = ap (λ (x : SideMark). x.signed) read in
    let signed : mark.signed ≡ true → StandsAt u label c.in_ok-signature.signature E = λ e. c.in_ok-signature.ensures.class l r op m D (c.loop-label.invariant.rows l r packed) e (c.is_dropped.ensures ∙ ap (λ (x : SideMark). not (x.left || x.right)) read) at in
    let told : test (name_at u label) ≡ not c.lacks_text.result = text_told u op m l r D label mark.signed c.in_ok-signature.signature is signed ∙ ap not (sym c.lacks_text.ensures) in
    fails_at test (labels_in u) [] label listed (told ∙ ap not c.if-lacks_text.true)

pub loop-label-preserved : goal.loop-label-preserved
loop-label-preserved c = record {
  rows = λ l r packed. c.in_ok-signature.ensures.rows l r (c.loop-label.invariant.rows l r packed);
  left_count = ap length c.put.ensures ∙ length-set c.loop-label.left c.loop-label.label c.side_class.result ∙ c.loop-label.invariant.left_count;
  right_count = ap length c.put-in-loop-label.ensures ∙ length-set c.loop-label.right c.loop-label.label c.side_class-in-loop-label.result ∙ c.loop-label.invariant.right_count;
  signed = λ l r op m D packed marks stands.
      let u = c.args.universe.now in
      let within = c.requires.universe in
      let label : ℕ = c.loop-label.label in
      let E : Given = signature_text u op m l r D in
      let test : Bytes → Bool = λ name. not (signs m name) || is_some (E name) in
      let less : label < length u.named = omega (arith, c.loop-label-test.true, c.labels-label-end.ensures.count) in
      let listed : label < length (labels_in u) = omega (arith, less, label_count u within) in
      let mark : SideMark = c.get-mark.result.now in
      let read : mark ≡ side_mark op m (name_at u label) = mark_at u op m c.args.marks.now label mark marks listed c.get-mark.ensures.read in
      let at : StandsAt u label c.get-class.result D = subst (λ o. StandsAt u label o D) (sym c.get-class.ensures) (stands.each label less) in
      let is : mark.signed ≡ signs m (name_at u label) = ap (λ (x : SideMark). x.signed) read in
      let signed : mark.signed ≡ true → StandsAt u label c.in_ok-signature.signature E = λ e. c.in_ok-signature.ensures.class l r op m D (c.loop-label.invariant.rows l r packed) e (c.is_dropped.ensures ∙ ap (λ (x : SideMark). not (x.left || x.right)) read) at in
      let told : test (name_at u label) ≡ not c.lacks_text.result = text_told u op m l r D label mark.signed c.in_ok-signature.signature is signed ∙ ap not (sym c.lacks_text.ensures) in
      list_all_more test (labels_in u) label [] listed ∙ ap (λ (b : Bool). b && test (name_at u label)) (c.loop-label.invariant.signed l r op m D packed marks stands) ∙ (told ∙ ap not c.if-lacks_text.false);
  left = λ l r op m D packed marks stands.
      let u = c.args.universe.now in
      let within = c.requires.universe in
      let label : ℕ = c.loop-label.label in
      let E : Given = signature_text u op m l r D in
      let less : label < length u.named = omega (arith, c.loop-label-test.true, c.labels-label-end.ensures.count) in
      let listed : label < length (labels_in u) = omega (arith, less, label_count u within) in
      let mark : SideMark = c.get-mark.result.now in
      let read : mark ≡ side_mark op m (name_at u label) = mark_at u op m c.args.marks.now label mark marks listed c.get-mark.ensures.read in
      let at : StandsAt u label c.get-class.result D = subst (λ o. StandsAt u label o D) (sym c.get-class.ensures) (stands.each label less) in
      let is : mark.signed ≡ signs m (name_at u label) = ap (λ (x : SideMark). x.signed) read in
      let signed : mark.signed ≡ true → StandsAt u label c.in_ok-signature.signature E = λ e. c.in_ok-signature.ensures.class l r op m D (c.loop-label.invariant.rows l r packed) e (c.is_dropped.ensures ∙ ap (λ (x : SideMark). not (x.left || x.right)) read) at in
      let S : Given = side u (left_gives op m) op m l r D in
      let so_far = c.loop-label.invariant.left l r op m D packed marks stands in
      let room : label < length c.loop-label.left = omega (arith, less, so_far.count, stands.count) in
      subst (λ classes. StandsBefore u c.args.texts.now (label + 1) classes S) (sym c.put.ensures)
      (one_stands u S c.args.texts.now label c.loop-label.left c.side_class.result room so_far
      (side_now u op m l r D label (left_gives op m) mark.signed mark.left c.get-class.result c.in_ok-signature.signature c.side_class.result is (ap (λ (x : SideMark). x.left) read) c.side_class.ensures at signed));
  right = λ l r op m D packed marks stands.
      let u = c.args.universe.now in
      let within = c.requires.universe in
      let label : ℕ = c.loop-label.label in
      let E : Given = signature_text u op m l r D in
      let less : label < length u.named = omega (arith, c.loop-label-test.true, c.labels-label-end.ensures.count) in
      let listed : label < length (labels_in u) = omega (arith, less, label_count u within) in
      let mark : SideMark = c.get-mark.result.now in
      let read : mark ≡ side_mark op m (name_at u label) = mark_at u op m c.args.marks.now label mark marks listed c.get-mark.ensures.read in
      let at : StandsAt u label c.get-class.result D = subst (λ o. StandsAt u label o D) (sym c.get-class.ensures) (stands.each label less) in
      let is : mark.signed ≡ signs m (name_at u label) = ap (λ (x : SideMark). x.signed) read in
      let signed : mark.signed ≡ true → StandsAt u label c.in_ok-signature.signature E = λ e. c.in_ok-signature.ensures.class l r op m D (c.loop-label.invariant.rows l r packed) e (c.is_dropped.ensures ∙ ap (λ (x : SideMark). not (x.left || x.right)) read) at in
      let S : Given = side u (right_gives op m) op m l r D in
      let so_far = c.loop-label.invariant.right l r op m D packed marks stands in
      let room : label < length c.loop-label.right = omega (arith, less, so_far.count, stands.count) in
      subst (λ classes. StandsBefore u c.args.texts.now (label + 1) classes S) (sym c.put-in-loop-label.ensures)
      (one_stands u S c.args.texts.now label c.loop-label.right c.side_class-in-loop-label.result room so_far
      (side_now u op m l r D label (right_gives op m) mark.signed mark.right c.get-class.result c.in_ok-signature.signature c.side_class-in-loop-label.result is (ap (λ (x : SideMark). x.right) read) c.side_class-in-loop-label.ensures at signed));
}

pub returns : goal.returns
returns c = λ l r op m D packed marks stands.
    let u = c.args.universe.now in
    let test : Bytes → Bool = λ name. not (signs m name) || is_some (signature_text u op m l r D name) in
    let most : length u.named ≤ c.loop-label.label = omega (arith, c.loop-label-test.false, c.labels-label-end.ensures.count) in
    let all : list_all test (labels_in u) ≡ true = ap (list_all test) (sym (take_all c.loop-label.label (labels_in u) (omega (arith, most, label_count u c.requires.universe)))) ∙ c.loop-label.invariant.signed l r op m D packed marks stands in (
      all,
      all_stand u (side u (left_gives op m) op m l r D) c.args.texts.now c.loop-label.label c.loop-label.left c.requires.count most (c.loop-label.invariant.left l r op m D packed marks stands),
      all_stand u (side u (right_gives op m) op m l r D) c.args.texts.now c.loop-label.label c.loop-label.right c.requires.count most (c.loop-label.invariant.right l r op m D packed marks stands),
    )
