-- What the code's values stand for.
use Rattle.std.specs.Prelude.{ℕ, List, map, reverse, Option, Some, None}
use Rattle.std.specs.Borrow.{Bor}
use Rattle.std.specs.Char.{to_ascii_lowercase}
use Rattle.lf_parse.specs.declared.class.WordClass.{WordClass}
use Rattle.lf_parse.specs.declared.mark.Mark.{Mark as MarkOf}
use Rattle.lf_parse.specs.declared.mark.Mark.TheVariants as marks
use Rattle.lf_parse.specs.declared.mark.MarkedToken.{MarkedToken as MarkedTokenOf}
use Rattle.lf_parse.specs.declared.nesting.Nesting.{Nesting as NestingOf}
use Rattle.lf_parse.specs.declared.step.ParserStep.{ParserStep as StepOf}
use Rattle.lf_parse.specs.declared.step.ParserStep.TheVariants as steps
use Rattle.lf_parse.specs.declared.names.Names.{Names as NamesOf}
use Rattle.lf_parse.specs.declared.names.Names.TheVariants as names
use Rattle.lf_parse.specs.declared.braces.Braces.{Braces as BracesOf}
use Rattle.lf_parse.specs.declared.braces.Braces.TheVariants as braces
use Rattle.lf_parse.specs.declared.stage.Front.{Front as FrontOf}
use Rattle.lf_parse.specs.declared.stage.Stage.{Stage as StageOf}
use Rattle.lf_parse.specs.declared.stage.Stage.TheVariants as stages
use Rattle.lf_parse.specs.declared.mods.Mod.{Mod as ModOf}
use Rattle.lf_parse.specs.declared.mods.Mod.TheVariants as mods
use Rattle.lf_parse.specs.declared.mods.ModStage.{ModStage as ModStageOf}
use Rattle.lf_parse.specs.declared.mods.ModStage.TheVariants as mod_stages
use Rattle.lf_parse.specs.declared.mods.TimeSign.{TimeSign}
use Rattle.lf_parse.specs.declared.mods.TimeSign.TheVariants.{Plus, Minus}
use Rattle.lf_parse.specs.declared.mode.Callee.{Callee as CalleeOf}
use Rattle.lf_parse.specs.declared.mode.Callee.TheVariants as callees
use Rattle.lf_parse.specs.declared.mode.ParserFrame.{ParserFrame as ParserFrameOf}
use Rattle.lf_parse.specs.declared.mode.ParserFrame.TheVariants as frames
use Rattle.lf_parse.specs.declared.mode.Subject.{Subject as SubjectOf}
use Rattle.lf_parse.specs.declared.mode.Subject.TheVariants as subjects
use Rattle.lf_parse.specs.declared.mode.Operand.{Operand as OperandOf}
use Rattle.lf_parse.specs.declared.mode.Operand.TheVariants as operands
use Rattle.lf_parse.specs.declared.mode.ParserMode.{ParserMode as ParserModeOf}
use Rattle.lf_parse.specs.declared.mode.ParserMode.TheVariants as modes
use Rattle.lf_ast.specs.declared.expr.Expr.{Expr}
use Rattle.lf_ast.specs.Tree.{Tree, tree, trees}
use Rattle.lf_parse.specs.Depth.{Nesting}
use Rattle.lf_parse.specs.Grammar.{Mod, OffsetBy, AtTime}
use Rattle.lf_parse.specs.reading.Machine.{ParserStep, More, Done, DoneBefore, Reject, Names, Opening, NextName, AfterName, Braces, NextMatcher, AfterLabel, AfterSign, AfterMatcher, Front, front, Stage, Begin, AfterBool, InLabels, AfterLabels, AfterGroup, InInclude, ModStage, AfterOffset, AfterOffsetMinus, AfterAt, AfterAtSign, AfterEdge, InEdge, Callee, OfCall, OfAggregate, OfGrouped, ParserFrame, LeftOf, Signed, InParen, InArgs, Subject, OfSelector, OfSubquery, Operand, Whole, Bare, Selected, Aggregated, Sighted, ParserMode, ExpectOperand, First, ExpectOperator, Modifying, InBraces, InMod, AfterBracket, AfterRange, AfterColon, AfterStep, AfterAggregation, InGrouping, AfterGrouping, InGroupingBehind, ParserState, state}
use Rattle.lf_parse.specs.Tokens.{Mark, Word, Metric, Num, Dur, Quoted, Sign, MarkedToken, ◌at◌}

-- a table of words, each in lower case
abbrev pub entries : List (Bor (List ℕ) × WordClass) → List (List ℕ × WordClass)
entries es = map (λ e. (map to_ascii_lowercase e.0.now, e.1)) es

-- ---- tokens

abbrev pub mark_of : MarkOf → List ℕ → Mark
mark_of (marks.Word c) w = Word c w
mark_of marks.Metric w = Metric w
mark_of marks.Number w = Num w
mark_of marks.Duration w = Dur w
mark_of marks.Str w = Quoted w
mark_of (marks.Sign s) w = Sign s

abbrev pub token_of : MarkedTokenOf → MarkedToken
token_of t = mark_of t.mark t.text.now at t.span

-- ---- the depth

-- the innermost count is the last of the code's
abbrev pub nesting_of : NestingOf → Nesting
nesting_of n = record { here = n.here; around = reverse n.around.items; braces = n.braces; begun = n.begun }

-- ---- parts inside which no expression stands

abbrev pub step_of : {S V X Y : Type 0} → (S → X) → (V → Y) → StepOf S V → ParserStep X Y
step_of f g (steps.More s) = More (f s)
step_of f g (steps.Done v) = Done (g v)
step_of f g (steps.DoneBefore v) = DoneBefore (g v)
step_of f g steps.Reject = Reject

abbrev pub names_of : NamesOf → Names
names_of names.Opening = Opening
names_of (names.Next xs) = NextName xs
names_of (names.After xs) = AfterName xs

abbrev pub braces_of : BracesOf → Braces
braces_of (braces.Next xs) = NextMatcher xs
braces_of (braces.AfterLabel xs n) = AfterLabel xs n
braces_of (braces.AfterSign xs n o) = AfterSign xs n o
braces_of (braces.AfterMatcher xs) = AfterMatcher xs

abbrev pub front_of : FrontOf → Front
front_of f = front f.with_bool f.first f.scope

abbrev pub stage_of : StageOf → Stage
stage_of stages.Begin = Begin
stage_of (stages.AfterBool p) = AfterBool p
stage_of (stages.InLabels f n) = InLabels (front_of f) (names_of n)
stage_of (stages.AfterLabels f xs c) = AfterLabels (front_of f) xs c
stage_of (stages.AfterGroup f xs s p) = AfterGroup (front_of f) xs s p
stage_of (stages.InInclude f xs s n) = InInclude (front_of f) xs s (names_of n)

abbrev pub sign_byte : TimeSign → ℕ
sign_byte Plus = 43
sign_byte Minus = 45

abbrev pub mod_stage_of : ModStageOf → ModStage
mod_stage_of mod_stages.AfterOffset = AfterOffset
mod_stage_of mod_stages.AfterOffsetMinus = AfterOffsetMinus
mod_stage_of mod_stages.AfterAt = AfterAt
mod_stage_of (mod_stages.AfterAtSign s) = AfterAtSign (sign_byte s)
mod_stage_of (mod_stages.AfterEdge e) = AfterEdge e
mod_stage_of (mod_stages.InEdge e) = InEdge e

abbrev pub mod_of : ModOf → Mod
mod_of (mods.Offset x) = OffsetBy x
mod_of (mods.At x) = AtTime x

abbrev pub mod_with_end : ModOf × ℕ → Mod × ℕ
mod_with_end m = (mod_of m.0, m.1)

-- ---- the machine

abbrev pub callee_of : CalleeOf → Callee
callee_of (callees.Call w p) = OfCall w p
callee_of (callees.Aggregate a p) = OfAggregate a p
callee_of (callees.Grouped a g p) = OfGrouped a g p

abbrev pub frame_of : ParserFrameOf → ParserFrame
frame_of (frames.LeftOf o p m e) = LeftOf o p m (tree e.value)
frame_of (frames.Signed neg p) = Signed neg p
frame_of (frames.Paren p) = InParen p
frame_of (frames.Args h es) = InArgs (callee_of h) (trees es)

-- the last one that was begun is the first frame
abbrev pub frames_of : List ParserFrameOf → List ParserFrame
frames_of fs = map frame_of (reverse fs)

abbrev pub subject_of : SubjectOf → Subject
subject_of (subjects.Selector nm ms) = OfSelector nm ms
subject_of (subjects.Subquery e) = OfSubquery (tree e.value)

abbrev pub operand_of : OperandOf → Operand
operand_of (operands.Whole e n) = Whole (tree e.value) n
operand_of (operands.Bare w p) = Bare w p
operand_of (operands.Selected nm ms p) = Selected nm ms p
operand_of (operands.Aggregated a es p n) = Aggregated a (trees es) p n
operand_of (operands.Sighted x s p n) = Sighted (subject_of x) s.value p n

abbrev pub mode_of : ParserModeOf → ParserMode
mode_of modes.ExpectOperand = ExpectOperand
mode_of (modes.First h) = First (callee_of h)
mode_of (modes.ExpectOperator x) = ExpectOperator (operand_of x)
mode_of (modes.Modifying o p e st) = Modifying o p (tree e.value) (stage_of st)
mode_of (modes.InBraces nm p b) = InBraces nm p (braces_of b)
mode_of (modes.InMod x s p stage) = InMod (subject_of x) s.value p (mod_stage_of stage)
mode_of (modes.AfterBracket x) = AfterBracket (operand_of x)
mode_of (modes.AfterRange x d q) = AfterRange (operand_of x) d q
mode_of (modes.AfterColon e d q) = AfterColon (tree e.value) d q
mode_of (modes.AfterStep e d q x) = AfterStep (tree e.value) d q x
mode_of (modes.AfterAggregation a p) = AfterAggregation a p
mode_of (modes.InGrouping a p k n) = InGrouping a p k (names_of n)
mode_of (modes.AfterGrouping a p g) = AfterGrouping a p g
mode_of (modes.InGroupingBehind a p es k n) = InGroupingBehind a p (trees es) k (names_of n)

-- the state, or none where the token can't stand there
abbrev pub next : List ParserFrameOf → Option ParserModeOf → Option ParserState
next fs None = None
next fs (Some m) = Some (state (frames_of fs) (mode_of m))

abbrev pub option_tree : Option Expr → Option Tree
option_tree None = None
option_tree (Some e) = Some (tree e)

abbrev pub option_operand : Option OperandOf → Option Operand
option_operand None = None
option_operand (Some x) = Some (operand_of x)
