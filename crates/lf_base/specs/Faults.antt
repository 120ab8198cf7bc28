-- What is wrong with a source and where, and which of several breaches is told.
use Rattle.std.specs.Prelude.{◌≢◌, ◌≤◌, ℕ, Bool, cond, Option, Some, None}
use Rattle.std.specs.Ordering.{nat_cmp, ordering_then, is_lt}
use Rattle.std.specs.declared.cmp.Ordering.{Ordering}
use Rattle.std.specs.declared.cmp.Ordering.TheVariants.{Less}
use Rattle.lf_base.specs.declared.fault.Fault.{Fault}
use Rattle.lf_base.specs.declared.kind.Kind.{Kind}
use Rattle.lf_base.specs.declared.kind.Kind.TheVariants.{BadUtf8, BadChar, BadEscape, OpenQuote, BadHeader, BadIndent, LeftOut, DoubleKey, NotANode, TooDeep, WrongKind, UnknownKey, MissingKey, BothKinds, BadName, BadLimit, DoubleGroup, NotForRecord, BadByte, OpenString, BadNumber, BadDuration, Syntax, WrongType, UnknownName, WrongCount, BadModifier, BadLabel, BadPattern, BadSelector, OpenAction, BadAction}
use Rattle.lf_base.specs.declared.place.Span.{Span}

abbrev pub span : ℕ → ℕ → Span
span start end = record { start = start; end = end }

-- the breach of a kind at a part of the source
abbrev pub fault : Kind → Span → Fault
fault kind span = record { kind = kind; span = span }

-- the span lies in a source of n bytes
abbrev pub LiesIn : ℕ → Span → Type 0
LiesIn n span = (span.start ≤ span.end) × (span.end ≤ n)

-- the place of a kind in the table of kinds
abbrev pub rank : Kind → ℕ
rank BadUtf8 = 0
rank BadChar = 1
rank BadEscape = 2
rank OpenQuote = 3
rank BadHeader = 4
rank BadIndent = 5
rank LeftOut = 6
rank DoubleKey = 7
rank NotANode = 8
rank TooDeep = 9
rank WrongKind = 10
rank UnknownKey = 11
rank MissingKey = 12
rank BothKinds = 13
rank BadName = 14
rank BadLimit = 15
rank DoubleGroup = 16
rank NotForRecord = 17
rank BadByte = 18
rank OpenString = 19
rank BadNumber = 20
rank BadDuration = 21
rank Syntax = 22
rank WrongType = 23
rank UnknownName = 24
rank WrongCount = 25
rank BadModifier = 26
rank BadLabel = 27
rank BadPattern = 28
rank BadSelector = 29
rank OpenAction = 30
rank BadAction = 31

-- the order in which breaches are told: by their start, at one start by their kind, and of one kind the shorter first
unfoldable pub told_order : Fault → Fault → Ordering
told_order f g = ordering_then (nat_cmp f.span.start g.span.start) (ordering_then (nat_cmp (rank f.kind) (rank g.kind)) (nat_cmp f.span.end g.span.end))

-- of some breaches this one is told: it is one of them, and none of them comes before it
abbrev pub IsTold : (Fault → Type 0) → Fault → Type 0
IsTold Breaks f = Breaks f × ((g : Fault) → Breaks g → told_order g f ≢ Less)

-- of two breaches the one that is told
abbrev pub first : Option Fault → Option Fault → Option Fault
first None other = other
first (Some f) None = Some f
first (Some f) (Some g) = Some (cond (is_lt (told_order g f)) g f)

-- a breach, if the rule is broken
abbrev pub when : Bool → Fault → Option Fault
when broken f = cond broken (Some f) None
