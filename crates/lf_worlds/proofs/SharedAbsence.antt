-- One trial is that for the absence of each label whose absence the row leaves, where the expression holds no fork.
use Rattle.std.proofs.Common.{◌≡◌, ◌<◌, ℕ, Bool, true, false, ◌&&◌, cond, List, [], ◌∷◌, length, Option, Some, None, is_some, refl, sym, ap, ◌∙◌, subst, arith, true≢false}
use Rattle.std.specs.Prelude.{option_and_then, option_map}
use Rattle.std.specs.List.{find, list_all}
use Rattle.std.specs.Option.{option_or}
use Rattle.std.specs.Str.{bytes_eq}
use Rattle.std.proofs.lemmas.Bool.{and_parts}
use Rattle.lf_laws.proofs.Members.{true_same}
use Rattle.lf_laws.proofs.Options.{same_option}
use Rattle.lf_ast.specs.Labels.{Bytes, Labels}
use Rattle.lf_ast.specs.Rules.{RuleTree}
use Rattle.lf_ast.specs.declared.verdict.World.{World}
use Rattle.lf_ast.specs.Tree.{Tree}
use Rattle.lf_classes.specs.Limits.{IsWithin}
use Rattle.lf_semantics.specs.ClassRows.{Sets, bottom, holds, is_live}
use Rattle.lf_semantics.specs.Environments.{rule_row}
use Rattle.lf_semantics.specs.Listing.{Listing}
use Rattle.lf_semantics.specs.Parts.{is_evaluated, type_by_form}
use Rattle.lf_semantics.specs.RowTable.{Environment, row_of}
use Rattle.lf_trials.specs.Building.{Building}
use Rattle.lf_trials.specs.Built.{IsBuilt, build, build_by_rule, builder, building_of, handed, start_text}
use Rattle.lf_trials.specs.Candidates.{candidates_in, first, has_presence, labels_in}
use Rattle.lf_trials.specs.Forks.{TellsForks, has_passing}
use Rattle.lf_trials.specs.Given.{Given, completed, completed_by, giving, nothing_given}
use Rattle.lf_trials.specs.Reached.{Trial}
use Rattle.lf_trials.specs.Trials.{ShowsBuilt}
use Rattle.lf_trials.specs.Verdicts.{leaves}
use Rattle.lf_trials.proofs.OneVerdict.{one_test}
use Rattle.lf_forks.specs.views.ForkTests.{TellsSelectors}
use Rattle.lf_forks.proofs.ForkTests.{tells_forks}
use Rattle.lf_candidates.specs.views.ClassTexts.{name_at}
use Rattle.lf_candidates.proofs.FirstClass.{first_in_row, is_empty_class, no_absence, none_with}
use Rattle.lf_candidates.specs.views.Told.{AnswersFor}
use Rattle.lf_worlds.specs.declared.showing.Evaluated.{Evaluated}
use Rattle.lf_worlds.specs.views.Tried.{AreShown, IsEvaluatedAt, IsEvaluatedIf, IsForkedAt, IsLeft, IsRowAt, IsSampleShown, IsWorldShown, ShownFor, first_with, leaves_both, world_with}
use Rattle.lf_worlds.proofs.ShownTrials.{built_if_shown}

-- a text without bytes
only_empty : (text : Bytes) → has_presence false text ≡ true → text ≡ []
only_empty text is = true_same text [] is

-- what is found has the absence
found_empty : (texts : List Bytes) (text : Bytes) → find (has_presence false) texts ≡ Some text → text ≡ []
found_empty [] text is = absurd (true≢false (sym (ap is_some is)))
found_empty (t ∷ texts) text is = by (has_presence false t) refl (found_empty texts text)
  where
    by : (b : Bool) → has_presence false t ≡ b → (find (has_presence false) texts ≡ Some text → text ≡ []) → text ≡ []
    by true e later = only_empty text (subst (λ (x : Bytes). has_presence false x ≡ true) (same_option (Some t) t text refl (sym (ap (λ (z : Bool). cond z (Some t) (find (has_presence false) texts)) e) ∙ is)) e)
    by false e later = later (sym (ap (λ (z : Bool). cond z (Some t) (find (has_presence false) texts)) e) ∙ is)

-- a text is found where the absence is left, and it is the empty one
absence_found : (u : Listing) (row : Sets) (name : Bytes) → leaves u row name false ≡ true → find (has_presence false) (candidates_in u row name) ≡ Some []
absence_found u row name left = by (find (has_presence false) (candidates_in u row name)) refl
  where
    by : (o : Option Bytes) → find (has_presence false) (candidates_in u row name) ≡ o → find (has_presence false) (candidates_in u row name) ≡ Some []
    by (Some text) e = e ∙ ap Some (found_empty (candidates_in u row name) text e)
    by None e = absurd (true≢false (sym left ∙ ap is_some e))

module _ (u : Listing) (within : IsWithin u) (label : ℕ) (h : label < length u.named) (row : Sets) where
  -- the first candidate of a label whose absence is left is the empty text
  first_empty : leaves u row (name_at u label) false ≡ true → first (candidates_in u row (name_at u label)) ≡ Some []
  first_empty left = by (holds row label 0) refl
    where
      by : (b : Bool) → holds row label 0 ≡ b → first (candidates_in u row (name_at u label)) ≡ Some []
      by true is = sym (first_in_row u within label h row 0 (omega arith) is (λ j before. absurd (omega (arith, before))))
      by false is =
          let none : None ≡ find (has_presence false) (candidates_in u row (name_at u label)) =
          none_with u within label h false row (λ j less. ap (λ (b : Bool). holds row label j && b) (is_empty_class u within label h j less) ∙ no_absence row label is j) in
          absurd (true≢false (sym left ∙ sym (ap is_some none)))

  -- what the absence of the label is completed to
  completed_absence : leaves u row (name_at u label) false ≡ true → completed_by u row (giving (name_at u label) [] nothing_given) ≡ completed_by u row nothing_given
  completed_absence left = λ i name. by name (bytes_eq name (name_at u label)) refl i
    where
      by : (name : Bytes) (b : Bool) → bytes_eq name (name_at u label) ≡ b → completed_by u row (giving (name_at u label) [] nothing_given) name ≡ completed_by u row nothing_given name
      by name true is =
          ap (λ (z : Bool). option_or (cond z (Some []) None) (first (candidates_in u row name))) is
          ∙ sym (ap (λ (x : Bytes). first (candidates_in u row x)) (true_same name (name_at u label) is) ∙ first_empty left)
      by name false is = ap (λ (z : Bool). option_or (cond z (Some []) None) (first (candidates_in u row name))) is

module _ (u : Listing) (within : IsWithin u) (env : Environment) (rules : List RuleTree) (i : ℕ) (r : RuleTree) (evaluated : is_evaluated (type_by_form r.expr) ≡ true) (holds_fork : Tree → Bool) where
  -- what is built from texts
  abbrev from : Given → Option Building
  from D = build u env rules holds_fork r.expr (builder u env rules holds_fork (build_by_rule u env rules holds_fork (length rules) (i ∷ [])) r.expr) D

  -- what the expression is handed, by what the texts are completed to
  abbrev by_completed : Given → Option Given
  by_completed G = cond (is_live (row_of u env r.expr) && list_all (λ name. is_some (G name)) (labels_in u)) (Some G) None

  rule_is : rule_row u env r ≡ row_of u env r.expr
  rule_is = ap (λ (b : Bool). cond b (row_of u env r.expr) (bottom u)) evaluated

  begun : (label : Bytes) → leaves u (rule_row u env r) label false ≡ true → building_of u env rules holds_fork i r label false ≡ from (giving label [] nothing_given)
  begun label left = ap (option_and_then (λ (text : Bytes). from (giving label text nothing_given))) (absence_found u (rule_row u env r) label left)

  handed_absence : holds_fork r.expr ≡ false → (label : ℕ) → label < length u.named → leaves u (rule_row u env r) (name_at u label) false ≡ true
      → handed u env rules holds_fork r.expr (giving (name_at u label) [] nothing_given) ≡ by_completed (completed_by u (row_of u env r.expr) nothing_given)
  handed_absence unforked label h left =
      let D : Given = giving (name_at u label) [] nothing_given in
      ap (λ (b : Bool). cond b (Some D) (completed u (row_of u env r.expr) D)) unforked
      ∙ ap by_completed (completed_absence u within label h (row_of u env r.expr) (subst (λ (row : Sets). leaves u row (name_at u label) false ≡ true) rule_is left))

  same_building : holds_fork r.expr ≡ false → (label other : ℕ) → label < length u.named → other < length u.named → leaves u (rule_row u env r) (name_at u label) false ≡ true → leaves u (rule_row u env r) (name_at u other) false ≡ true
      → building_of u env rules holds_fork i r (name_at u label) false ≡ building_of u env rules holds_fork i r (name_at u other) false
  same_building unforked label other h k left too =
      let whole : Option Given → Option Building = option_and_then (builder u env rules holds_fork (build_by_rule u env rules holds_fork (length rules) (i ∷ [])) r.expr) in
      begun (name_at u label) left
      ∙ ap whole (handed_absence unforked label h left ∙ sym (handed_absence unforked other k too))
      ∙ sym (begun (name_at u other) too)

  -- what is built for a label and a presence is built from a text that the row leaves
  left_by_built : (label : Bytes) (presence : Bool) (b : Building) → building_of u env rules holds_fork i r label presence ≡ Some b → leaves u (rule_row u env r) label presence ≡ true
  left_by_built label presence b is = by (start_text u env rules holds_fork r label presence) refl
    where
      whole : Option Bytes → Option Building
      whole = option_and_then (λ (text : Bytes). from (giving label text nothing_given))

      by : (o : Option Bytes) → start_text u env rules holds_fork r label presence ≡ o → leaves u (rule_row u env r) label presence ≡ true
      by (Some text) e = ap is_some e
      by None e = absurd (true≢false (sym (ap is_some (sym (ap whole e) ∙ is))))

pub same_absence : (u : Listing) → IsWithin u → (env : Environment) (rules : List RuleTree) (i : ℕ) → IsEvaluatedAt rules i → ((holds_fork : Tree → Bool) → TellsForks rules holds_fork → IsForkedAt rules i holds_fork false)
    → (label other : ℕ) → label < length u.named → other < length u.named → IsLeft u env rules i (name_at u other) false → (trial : Trial) → IsBuilt u env rules i (name_at u label) false trial → IsBuilt u env rules i (name_at u other) false trial
same_absence u within env rules i evaluated unforked label other h k left trial built = record {
  holds_fork = built.holds_fork;
  tells_forks = built.tells_forks;
  rule = built.rule;
  is_rule = built.is_rule;
  reach = built.reach;
  is_reach = built.is_reach;
  built = built.built;
  is_built =
      let own = left_by_built u within env rules i built.rule (evaluated built.rule built.is_rule) built.holds_fork (name_at u label) false built.built built.is_built in
      sym (same_building u within env rules i built.rule (evaluated built.rule built.is_rule) built.holds_fork (sym (unforked built.holds_fork built.tells_forks built.rule built.is_rule)) label other h k own (left built.rule built.is_rule))
      ∙ built.is_built;
  bounded = built.bounded;
  is_trial = built.is_trial;
}

-- the world with the first sample with a presence
pub world_shown : (rules : List RuleTree) (i : ℕ) (label : Bytes) (presence : Bool) (trial : Trial) (samples : List Labels) → AreShown rules i trial samples
    → IsWorldShown rules i label presence trial (option_map (world_with trial) (first_with label presence samples))
world_shown rules i label presence trial samples shown = by (first_with label presence samples) (shown label presence)
  where
    by : (o : Option Labels) → IsSampleShown rules i label presence trial o → IsWorldShown rules i label presence trial (option_map (world_with trial) o)
    by (Some s) is = (refl, is)
    by None none = none

-- both presences of a label are left, where the row of the rule leaves both
pub is_left : (u : Listing) (env : Environment) (rules : List RuleTree) (i : ℕ) (row : Sets) (label : Bytes) → IsRowAt u env rules i row → leaves_both u row label ≡ true → (presence : Bool) → IsLeft u env rules i label presence
is_left u env rules i row label is both presence r at = subst (λ (x : Sets). leaves u x label presence ≡ true) (is r at) (by presence)
  where
    by : (p : Bool) → leaves u row label p ≡ true
    by true = (and_parts (leaves u row label true) (leaves u row label false) both).0
    by false = (and_parts (leaves u row label true) (leaves u row label false) both).1

-- all tests tell of the same expressions that they hold a fork
pub forked_by : (rules : List RuleTree) (test : Option Bytes → Bool) → TellsSelectors rules test → (i : ℕ) (forked : Bool) → IsForkedAt rules i (has_passing test) forked → (holds_fork : Tree → Bool) → TellsForks rules holds_fork → IsForkedAt rules i holds_fork forked
forked_by rules test selectors i forked is holds_fork tells r at = is r at ∙ ap (λ (f : Tree → Bool). f r.expr) (one_test rules (has_passing test) holds_fork (tells_forks rules test selectors) tells)

module _ (u : Listing) (env : Environment) (rules : List RuleTree) (i : ℕ) (label : Bytes) (presence : Bool) where
  -- what a trial that evaluates shows, by its samples

  pub evaluated_is : (made : Option Trial) → AnswersFor (IsBuilt u env rules i label presence) made → (e : Evaluated) → IsEvaluatedIf rules i made (Some e) → IsBuilt u env rules i label presence e.trial × AreShown rules i e.trial e.samples
  evaluated_is (Some trial) built e is = (subst (IsBuilt u env rules i label presence) (sym is.0) built, is.1)
  evaluated_is None none e is = absurd (true≢false (ap is_some is))

  pub built_world : (e : Evaluated) → IsBuilt u env rules i label presence e.trial → AreShown rules i e.trial e.samples → (o : Option World) → o ≡ option_map (world_with e.trial) (first_with label presence e.samples) → ShownFor (ShowsBuilt u env rules i label presence) o
  built_world e built shown o is =
      built_if_shown u env rules i label presence (Some e.trial) built o (subst (IsWorldShown rules i label presence e.trial) (sym is) (world_shown rules i label presence e.trial e.samples shown))

  pub nothing_shown : (made : Option Trial) → AnswersFor (IsBuilt u env rules i label presence) made → IsEvaluatedIf rules i made None → ShownFor (ShowsBuilt u env rules i label presence) None
  nothing_shown (Some trial) built none = built_if_shown u env rules i label presence (Some trial) built None (none label presence)
  nothing_shown None none is = built_if_shown u env rules i label presence None none None refl
