-- What was read of rules and what is known of them, put together.
use Rattle.std.proofs.Common.{◌≡◌, ◌∷◌, ◌++◌, ℕ, List, [], Some, length, map, reverse, append_assoc, ap, sym, subst, ◌∙◌}
use Rattle.std.proofs.lemmas.List.{length-map, map-append, reverse-append}
use Rattle.std.specs.Prelude.{slice_get}
use Rattle.lf_laws.proofs.Slices.{of_map_at, one_at, to_map_at}
use Rattle.lf_ast.specs.Rules.{RuleTree, rule_tree}
use Rattle.lf_built.specs.declared.row_making.RuleRow.{RuleRow}
use Rattle.lf_built.specs.views.RuleRows.{AreRowsOf, IsRowOf}
use Rattle.lf_forks.specs.views.Holding.{Forks}
use Rattle.lf_report.specs.declared.report.ReportedFinding.{ReportedFinding}
use Rattle.lf_worlds.specs.declared.verdict.RuleKnowledge.{RuleKnowledge}
use Rattle.lf_judge.specs.declared.at_hand.AtHand.{AtHand}
use Rattle.lf_judge.specs.declared.rule_found.RuleFound.{RuleFound}
use Rattle.lf_judge.specs.declared.rule_read.RuleRead.{RuleRead}
use Rattle.lf_judge.specs.views.AtHand.{TellsFindingsAt, rules_of_hand}
use Rattle.lf_judge.specs.views.RulesFound.{AreFoundAt, AreKnownAt, AreReadAt, IsKnownAt}
use Rattle.lf_judge.proofs.Pieces.{side_by_side}

abbrev pub row_read : RuleRead → RuleRow
row_read read = read.row

abbrev pub findings_read : RuleRead → List ReportedFinding
findings_read read = read.findings

abbrev pub known_of : RuleFound → RuleKnowledge
known_of found = found.known

abbrev pub findings_of : RuleFound → List ReportedFinding
findings_of found = found.findings

-- one more element of a list whose images are put together with what waits
pub one_together : {X Y : Type 0} (f : X → Y) (told pushed : List X) (old new whole : List Y) (x : X) (y : Y) → old ≡ new ++ y ∷ [] → f x ≡ y → pushed ≡ told ++ x ∷ [] → map f told ++ reverse old ≡ whole → map f pushed ++ reverse new ≡ whole
one_together {Y = Y} f told pushed old new whole x y took is pushes before =
    ap (λ xs. map f xs ++ reverse new) pushes ∙ ap (λ (ys : List Y). ys ++ reverse new) (map-append f told (x ∷ [])) ∙ append_assoc (map f told) (f x ∷ []) (reverse new)
    ∙ ap (λ (z : Y). map f told ++ z ∷ reverse new) is ∙ ap (λ (ys : List Y). map f told ++ ys) (sym (reverse-append new (y ∷ []))) ∙ ap (λ (ys : List Y). map f told ++ reverse ys) (sym took) ∙ before

module _ (h : AtHand) (forks : Forks) (read : List RuleRead) (are : AreReadAt h forks read) where
  -- the rows of the rules
  pub rows_read : AreRowsOf h.universe.now h.env.now forks (rules_of_hand h) (map row_read read)
  rows_read =
      side_by_side (IsRowOf h.universe.now h.env.now forks (rules_of_hand h)) (rules_of_hand h) (map row_read read) (length-map read row_read ∙ are.count ∙ sym (length-map h.rules.now rule_tree))
      (λ i r row at there.
      let x = of_map_at row_read read i row there in
      let own = are.each i x.0 x.1 in
      let same : own.rule ≡ r = one_at (rules_of_hand h) i own.rule r own.stands at in
      subst (λ (y : RuleRow). IsRowOf h.universe.now h.env.now forks (rules_of_hand h) r y) x.2 (subst (λ (t : RuleTree). IsRowOf h.universe.now h.env.now forks (rules_of_hand h) t x.0.row) same own.told))

  -- what is found of the rules
  pub found_together : (known : List RuleKnowledge) (found : List RuleFound) → AreKnownAt h known → map known_of found ≡ known → map findings_of found ≡ map findings_read read → AreFoundAt h found
  found_together known found knows ks fs = record {
    count = sym (length-map found known_of) ∙ ap length ks ∙ knows.count;
    each = λ i x at.
        let mine = of_map_at findings_read read i x.findings (subst (λ (l : List (List ReportedFinding)). slice_get l i ≡ Some x.findings) fs (to_map_at findings_of found i x at)) in
        record {
          verdict = knows.each i x.known (subst (λ (l : List RuleKnowledge). slice_get l i ≡ Some x.known) ks (to_map_at known_of found i x at));
          list = subst (TellsFindingsAt h i) mine.2 (are.each i mine.0 mine.1).list;
        };
  }
