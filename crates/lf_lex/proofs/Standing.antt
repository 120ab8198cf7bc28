-- What stands at the front of a text: a lexeme, or a breach.
use Rattle.std.proofs.Common.{◌≡◌, ℕ, Bool, List, ◌++◌}
use Rattle.lf_base.specs.declared.kind.Kind.{Kind}
use Rattle.lf_lex.specs.Lexemes.{Lexeme, lexeme_text, IsLexeme}
use Rattle.lf_lex.specs.Breaches.{IsBreach}

pub data Standing (inside : Bool) (src : List ℕ) : Type 0 where
  stands : (lexeme : Lexeme) (rest : List ℕ) → src ≡ lexeme_text lexeme ++ rest → IsLexeme inside lexeme rest → Standing inside src
  fails : (kind : Kind) (start end : ℕ) → IsBreach inside src kind start end → Standing inside src
