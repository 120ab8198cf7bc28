-- The definitions on worked expressions. Trees are derived by hand from the grammar. Places of Syntax follow by the law that the machine stops at them.
use Rattle.std.proofs.Common.{ℕ, ◌+◌, true, false, List, [], ◌∷◌, Some, None, codes, refl, arith}
use Rattle.lf_base.specs.declared.place.Span.{Span}
use Rattle.lf_ast.specs.declared.expr.Agg.TheVariants.{Sum}
use Rattle.lf_ast.specs.declared.expr.MatchOp.TheVariants as match_op
use Rattle.lf_ast.specs.declared.expr.Op.{Op}
use Rattle.lf_ast.specs.declared.expr.Op.TheVariants as op
use Rattle.lf_lex.specs.declared.token.Sign.{Sign as SignOf}
use Rattle.lf_lex.specs.declared.token.Sign.TheVariants as signs
use Rattle.lf_lex.specs.declared.token.Token.{Token}
use Rattle.lf_lex.specs.declared.token.TokenKind.{TokenKind}
use Rattle.lf_lex.specs.declared.token.TokenKind.TheVariants as kinds
use Rattle.lf_parse.specs.declared.class.Clause.TheVariants.{By}
use Rattle.lf_parse.specs.Tokens.{class_of}
use Rattle.lf_ast.specs.Tree.{Tree, Number, Selector, Subquery, Unary, Binary, Aggregate, Nil, Next}
use Rattle.lf_parse.specs.Grammar.{to, behind, name, names, one_label, unmatched, matcher, one_matcher, matchers_comma, plain, word, word_braces, blank, ranged, stepped, with_mod, OffsetBy, no_mods, mods, offset, no_step, scoped, group_names, no_modifier, grouping, number, selector, range, subquery, aggregate_by, minus, binary, one, args, Parses, IsViable}
use Rattle.lf_parse.specs.Answer.{SyntaxAt}
use Rattle.lf_parse.proofs.Answering.{syntax_told}

-- a token of one byte
abbrev at : ℕ → Span
at k = record { start = k; end = k + 1 }

abbrev token : TokenKind → ℕ → Token
token kind k = record { kind = kind; span = at k }

abbrev sign : SignOf → ℕ → Token
sign s k = token (kinds.Sign s) k

abbrev a : List ℕ
a = codes "a"

abbrev b : List ℕ
b = codes "b"

abbrev c : List ℕ
c = codes "c"

abbrev metric : List ℕ → ℕ → Tree
metric w k = Selector (Some w) [] (blank (at k)) (at k)

abbrev plain_binary : Op → Tree → Tree → ℕ → Tree
plain_binary o x y k = Binary o (unmatched false (behind (at k))) x y (at k)

-- -a^b is -(a^b)
sign_of_power : Parses (sign signs.Minus 0 ∷ token (kinds.Word a) 1 ∷ sign signs.Power 2 ∷ token (kinds.Word b) 3 ∷ []) (Unary true (plain_binary op.Power (metric a 1) (metric b 3) 2) (to (at 0) (at 3)))
unfolding class_of
sign_of_power = (4, minus (omega arith) (binary (omega arith) refl (selector (word plain) no_mods) no_modifier (selector (word plain) no_mods)))

-- 2^3^2 is 2^(3^2)
powers : Parses (token (kinds.Number (codes "2")) 0 ∷ sign signs.Power 1 ∷ token (kinds.Number (codes "3")) 2 ∷ sign signs.Power 3 ∷ token (kinds.Number (codes "2")) 4 ∷ []) (plain_binary op.Power (Number (codes "2") (at 0)) (plain_binary op.Power (Number (codes "3") (at 2)) (Number (codes "2") (at 4)) 3) 1)
powers = (5, binary (omega arith) refl number no_modifier (binary (omega arith) refl number no_modifier number))

-- a or b and c is a or (b and c)
or_and : Parses (token (kinds.Word a) 0 ∷ token (kinds.Word (codes "or")) 1 ∷ token (kinds.Word b) 2 ∷ token (kinds.Word (codes "AND")) 3 ∷ token (kinds.Word c) 4 ∷ []) (plain_binary op.Or (metric a 0) (plain_binary op.And (metric b 2) (metric c 4) 3) 1)
unfolding class_of
or_and = (5, binary (omega arith) refl (selector (word plain) no_mods) no_modifier (binary (omega arith) refl (selector (word plain) no_mods) no_modifier (selector (word plain) no_mods)))

-- a - b - c is (a - b) - c
differences : Parses (token (kinds.Word a) 0 ∷ sign signs.Minus 1 ∷ token (kinds.Word b) 2 ∷ sign signs.Minus 3 ∷ token (kinds.Word c) 4 ∷ []) (plain_binary op.Subtract (plain_binary op.Subtract (metric a 0) (metric b 2) 1) (metric c 4) 3)
unfolding class_of
differences = (5, binary (omega arith) refl (binary (omega arith) refl (selector (word plain) no_mods) no_modifier (selector (word plain) no_mods)) no_modifier (selector (word plain) no_mods))

-- a ^ -b * c is (a ^ (-b)) * c
power_of_sign : Parses (token (kinds.Word a) 0 ∷ sign signs.Power 1 ∷ sign signs.Minus 2 ∷ token (kinds.Word b) 3 ∷ sign signs.Times 4 ∷ token (kinds.Word c) 5 ∷ []) (plain_binary op.Multiply (plain_binary op.Power (metric a 0) (Unary true (metric b 3) (to (at 2) (at 3))) 1) (metric c 5) 4)
unfolding class_of
power_of_sign = (6, binary (omega arith) refl (binary (omega arith) refl (selector (word plain) no_mods) no_modifier (minus (omega arith) (selector (word plain) no_mods))) no_modifier (selector (word plain) no_mods))

-- sum by (a) (b{c="",}), with a comma behind the last matcher
grouped : Parses (token (kinds.Word (codes "sum")) 0 ∷ token (kinds.Word (codes "by")) 1 ∷ sign signs.OpenParen 2 ∷ token (kinds.Word a) 3 ∷ sign signs.CloseParen 4 ∷ sign signs.OpenParen 5 ∷ token (kinds.Word b) 6 ∷ sign signs.OpenBrace 7 ∷ token (kinds.Word c) 8 ∷ sign signs.Is 9 ∷ token (kinds.Str []) 10 ∷ sign signs.Comma 11 ∷ sign signs.CloseBrace 12 ∷ sign signs.CloseParen 13 ∷ []) (Aggregate Sum (grouping By (name a (at 3) ∷ [])) (Next (Selector (Some b) (matcher (name c (at 8)) match_op.Equal [] (at 10) ∷ []) (blank (to (at 6) (at 12))) (to (at 6) (at 12))) Nil) (at 0))
unfolding class_of
grouped = (14, aggregate_by (names one_label) (args (one (selector (word_braces plain (matchers_comma (one_matcher refl))) no_mods))))

-- a[5m][1h:] offset 5m
twice : Parses (token (kinds.Word a) 0 ∷ sign signs.OpenBracket 1 ∷ token (kinds.Duration (codes "5m")) 2 ∷ sign signs.CloseBracket 3 ∷ sign signs.OpenBracket 4 ∷ token (kinds.Duration (codes "1h")) 5 ∷ sign signs.Colon 6 ∷ sign signs.CloseBracket 7 ∷ token (kinds.Word (codes "offset")) 8 ∷ token (kinds.Duration (codes "5m")) 9 ∷ []) (Subquery (Selector (Some a) [] (ranged (codes "5m") (at 2)) (to (at 0) (at 3))) (with_mod (stepped (codes "1h") (at 5) None) (OffsetBy (codes "5m"))) (to (at 0) (at 7)))
unfolding class_of
twice = (10, subquery (range (word plain) no_mods) no_step (mods refl offset no_mods))

-- a * on (b) group_left (c) may go on with an operand
abbrev with_include : List Token
with_include =
    token (kinds.Word a) 0
    ∷ sign signs.Times 1
    ∷ token (kinds.Word (codes "on")) 2
    ∷ sign signs.OpenParen 3
    ∷ token (kinds.Word b) 4
    ∷ sign signs.CloseParen 5
    ∷ token (kinds.Word (codes "group_left")) 6
    ∷ sign signs.OpenParen 7
    ∷ token (kinds.Word c) 8
    ∷ sign signs.CloseParen 9
    ∷ []

goes_on : IsViable with_include
unfolding class_of
goes_on = (token (kinds.Word b) 10 ∷ [], _, (11, binary (omega arith) refl (selector (word plain) no_mods) (scoped (group_names (names one_label) (names one_label))) (selector (word plain) no_mods)))

-- but is no expression
ends_short : SyntaxAt with_include 10
unfolding class_of
ends_short = syntax_told with_include 10 refl

-- a second offset
second_offset : SyntaxAt (token (kinds.Word a) 0 ∷ token (kinds.Word (codes "offset")) 1 ∷ token (kinds.Duration (codes "5m")) 2 ∷ token (kinds.Word (codes "offset")) 3 ∷ token (kinds.Duration (codes "1m")) 4 ∷ []) 3
unfolding class_of
second_offset = syntax_told _ 3 refl
