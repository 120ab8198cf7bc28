-- What a file's reading says of its tree and its breach.
use Rattle.std.proofs.Common.{◌≡◌, ℕ, List, Result, Ok, Err, refl, ap, sym, subst, ◌⊎◌, inl, inr}
use Rattle.lf_base.specs.declared.refusal.Refusal.{Refusal}
use Rattle.lf_base.specs.declared.refusal.Refusal.TheVariants as refusal_of
use Rattle.lf_base.specs.declared.fault.Fault.{Fault}
use Rattle.lf_base.specs.Answers.{AnswersAs, Found, Only, Refused, Breach, OneAnswer}
use Rattle.lf_base.proofs.Answering.{Decides}
use Rattle.lf_base.proofs.Answering as answering
use Rattle.lf_yaml.specs.Characters.{AreCharacters, BreaksCharacters}
use Rattle.lf_yaml.specs.Tree.{Tree, tree}
use Rattle.lf_yaml.specs.Document.{document_rows, IsTree, TreeBreaks, bad_characters, bad_document}
use Rattle.lf_yaml.specs.reading.Trees.{document_of}
use Rattle.lf_yaml.specs.declared.node.Node.{Node}
use Rattle.lf_yaml.proofs.FileCharacters.{characters-or-breach}
use Rattle.lf_yaml.proofs.Laws.{document-is, document-breaks, DocumentTold, document-tells, characters-one, characters-never}

abbrev read : Tree → Result Tree Fault
read t = Ok t

abbrev fail : Fault → Result Tree Fault
fail f = Err f

differ : {X : Type 0} (f : Fault) (t : Tree) → fail f ≡ read t → X
differ f t e = absurd cc

same : (f g : Fault) → fail f ≡ fail g → f ≡ g
same f g e = cc

module _ (bytes : List ℕ) where
  abbrev Told : Result Tree Fault → Type 0
  Told r = DocumentTold bytes (document_rows bytes) r

  -- a file whose characters are allowed is read as its document
  pub document-decides : AreCharacters bytes → Decides (IsTree bytes) (TreeBreaks bytes) (document_of bytes (document_rows bytes))
  document-decides are = record {
    stands = λ t e. record { characters = are; document = subst Told e (document-tells bytes) };
    read = λ t h. document-is bytes (document_rows bytes) t h.document;
    breaks = λ f e. bad_document are (subst Told e (document-tells bytes));
    told = told;
  }
    where
      told : (f : Fault) → TreeBreaks bytes f → document_of bytes (document_rows bytes) ≡ fail f
      told f (bad_characters k) = absurd (characters-never bytes f k are)
      told f (bad_document allowed k) = document-breaks bytes (document_rows bytes) f k

  -- another is refused
  breach-decides : (f : Fault) → BreaksCharacters bytes f → Decides (IsTree bytes) (TreeBreaks bytes) (fail f)
  breach-decides f b = record {
    stands = λ t e. differ f t e;
    read = λ t h. absurd (characters-never bytes f b h.characters);
    breaks = λ g e. bad_characters (subst (BreaksCharacters bytes) (same f g e) b);
    told = told;
  }
    where
      told : (g : Fault) → TreeBreaks bytes g → fail f ≡ fail g
      told g (bad_characters k) = ap fail (characters-one bytes f g b k)
      told g (bad_document are k) = absurd (characters-never bytes f b are)

  pub one-answer : OneAnswer (IsTree bytes) (TreeBreaks bytes)
  one-answer = by (characters-or-breach bytes)
    where
      by : AreCharacters bytes ⊎ ((f : Fault) × BreaksCharacters bytes f) → OneAnswer (IsTree bytes) (TreeBreaks bytes)
      by (inl are) = answering.one_answer (IsTree bytes) (TreeBreaks bytes) (document_of bytes (document_rows bytes)) (document-decides are)
      by (inr (f, b)) = answering.one_answer (IsTree bytes) (TreeBreaks bytes) (fail f) (breach-decides f b)

  -- ---- the four clauses, of a file whose characters are allowed

  module _ (are : AreCharacters bytes) (r : Result Node Refusal) (gives : AnswersAs tree r (document_of bytes (document_rows bytes))) where
    pub found-tree : Found tree (IsTree bytes) r
    found-tree = answering.found tree (IsTree bytes) (TreeBreaks bytes) (document_of bytes (document_rows bytes)) (document-decides are) r gives

    pub only-tree : Only tree (IsTree bytes) r
    only-tree = answering.only tree (IsTree bytes) (TreeBreaks bytes) (document_of bytes (document_rows bytes)) (document-decides are) r gives

    pub told-breach : Refused (TreeBreaks bytes) r
    told-breach = answering.refused tree (IsTree bytes) (TreeBreaks bytes) (document_of bytes (document_rows bytes)) (document-decides are) r gives

    pub only-breach : Breach tree (TreeBreaks bytes) r
    only-breach = answering.breach tree (IsTree bytes) (TreeBreaks bytes) (document_of bytes (document_rows bytes)) (document-decides are) r gives

  -- ---- and of another

  module _ (e : Refusal) (broken : (f : Fault) × BreaksCharacters bytes f × (e ≡ refusal_of.At f.kind f.span)) where
    abbrev refused : Result Node Refusal
    refused = Err e

    gives-breach : AnswersAs tree refused (fail broken.0)
    gives-breach = subst (λ (x : Refusal). let r : Result Node Refusal = Err x in AnswersAs tree r (fail broken.0)) (sym broken.2) refl

    pub never-tree : Only tree (IsTree bytes) refused
    never-tree = answering.only tree (IsTree bytes) (TreeBreaks bytes) (fail broken.0) (breach-decides broken.0 broken.1) refused gives-breach

    pub broken-told : Refused (TreeBreaks bytes) refused
    broken-told = answering.refused tree (IsTree bytes) (TreeBreaks bytes) (fail broken.0) (breach-decides broken.0 broken.1) refused gives-breach

    pub broken-only : Breach tree (TreeBreaks bytes) refused
    broken-only = answering.breach tree (IsTree bytes) (TreeBreaks bytes) (fail broken.0) (breach-decides broken.0 broken.1) refused gives-breach
