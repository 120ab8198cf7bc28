-- What the answer of a reader says. A reader answers with what its text stands for, or with a breach of the text; and it may always want for memory, of which nothing is said.
--
-- `Stands x`: the text stands for x. `Breaks f`: f is the breach of the text that is told. `view` is how contracts see what the reader makes.
use Rattle.std.specs.Prelude.{◌≡◌, ◌⊎◌, ℕ, Result, Ok, Err, IfOk, IfErr}
use Rattle.lf_base.specs.declared.fault.Fault.{Fault}
use Rattle.lf_base.specs.declared.refusal.Refusal.{Refusal}
use Rattle.lf_base.specs.declared.refusal.Refusal.TheVariants.{At, Memory}
use Rattle.lf_base.specs.Faults.{fault, LiesIn}

-- what holds of a refusal's breach; want of memory says nothing
abbrev pub IfAt : Refusal → (Fault → Type 0) → Type 0
IfAt Memory P = Unit {0}
IfAt (At kind span) P = P (fault kind span)

-- unless memory ran out, what was returned is this answer
abbrev pub AnswersAs : {X Y : Type 0} → (X → Y) → Result X Refusal → Result Y Fault → Type 0
AnswersAs view (Ok x) answer = answer ≡ Ok (view x)
AnswersAs view (Err refusal) answer = IfAt refusal (λ f. answer ≡ Err f)

-- the same of a reader whose result is seen as it is
abbrev pub Answers : {X : Type 0} → Result X Refusal → Result X Fault → Type 0
Answers = AnswersAs (λ x. x)

-- ---- the clauses of a reader

-- what is answered is what the text stands for
abbrev pub Found : {X Y : Type 0} → (X → Y) → (Y → Type 0) → Result X Refusal → Type 0
Found view Stands result = IfOk result (λ x. Stands (view x))

-- what the text stands for is answered, unless memory runs out; so it stands for one thing at most
abbrev pub Only : {X Y : Type 0} → (X → Y) → (Y → Type 0) → Result X Refusal → Type 0
Only view Stands result = (y : _) → Stands y → AnswersAs view result (Ok y)

-- what is refused is the breach that is told
abbrev pub Refused : {X : Type 0} → (Fault → Type 0) → Result X Refusal → Type 0
Refused Breaks result = IfErr result (λ refusal. IfAt refusal Breaks)

-- the breach that is told is refused, unless memory runs out; so there is one at most, and none where the text stands for something
abbrev pub Breach : {X Y : Type 0} → (X → Y) → (Fault → Type 0) → Result X Refusal → Type 0
Breach view Breaks result = (f : Fault) → Breaks f → AnswersAs view result (Err f)

-- the span of a refusal lies in a source of n bytes
abbrev pub RefusedIn : {X : Type 0} → ℕ → Result X Refusal → Type 0
RefusedIn n result = IfErr result (λ refusal. IfAt refusal (λ f. LiesIn n f.span))

-- ---- laws of what a text stands for

-- a text stands for one thing or has one breach that is told, and never both
pub record OneAnswer {Y : Type 0} (Stands : Y → Type 0) (Breaks : Fault → Type 0) : Type 0 where
  pub value : (x y : Y) → Stands x → Stands y → x ≡ y
  pub breach : (f g : Fault) → Breaks f → Breaks g → f ≡ g
  pub one : (x : Y) (f : Fault) → Stands x → Breaks f → ⊥
  pub some : ((x : Y) × Stands x) ⊎ ((f : Fault) × Breaks f)
