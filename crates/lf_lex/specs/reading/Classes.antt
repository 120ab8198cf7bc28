-- The classes that the code goes over in rows.
use Rattle.std.specs.Prelude.{ℕ, Bool, not, ◌==◌}
use Rattle.lf_lex.specs.declared.class.ByteClass.{ByteClass}
use Rattle.lf_lex.specs.declared.class.ByteClass.TheVariants as classes
use Rattle.lf_lex.specs.Bytes.{is_line_break, is_in_word, is_in_mantissa, is_in_run, is_continuation}
use Rattle.lf_base.specs.Names.{is_digit}

abbrev pub is_in_class : ByteClass → ℕ → Bool
is_in_class classes.NoLineBreak b = not (is_line_break b)
is_in_class classes.NoBackQuote b = not (b == 96)
is_in_class (classes.Word inside) b = is_in_word inside b
is_in_class classes.Mantissa b = is_in_mantissa b
is_in_class classes.Run b = is_in_run b
is_in_class classes.Digit b = is_digit b
is_in_class classes.Continuation b = is_continuation b
