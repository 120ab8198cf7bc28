-- What the machine's answer says of the tokens.
use Rattle.std.proofs.Common.{◌≡◌, ℕ, zero, suc, ◌+◌, ◌≤◌, ◌<◌, ◌⊎◌, inl, inr, List, [], ◌∷◌, ◌++◌, length, take, drop, get_or, map, Option, Some, None, MatchOption, Result, Ok, Err, IfOk, refl, sym, ◌∙◌, ap, subst, append_assoc, add-one, arith}
use Rattle.std.proofs.lemmas.List.{append-nil, at_drop_more, at_drop_all}
use Rattle.std.specs.List.Sorted.{IsNonDecreasingBy}
use Rattle.std.specs.Option.{option_and_then}
use Rattle.std.proofs.Math.Seq.{take-length}
use Rattle.std.proofs.lemmas.Bool.{cases_order, cases_lt}
use Rattle.lf_base.specs.declared.kind.Kind.TheVariants.{TooDeep, Syntax}
use Rattle.lf_base.specs.declared.refusal.Refusal.{Refusal}
use Rattle.lf_base.specs.declared.refusal.Refusal.TheVariants.{At}
use Rattle.lf_ast.specs.declared.expr.Expr.{Expr}
use Rattle.lf_lex.specs.declared.token.Token.{Token}
use Rattle.lf_lex.specs.Tokens.{LieIn}
use Rattle.lf_base.specs.declared.fault.Fault.{Fault}
use Rattle.lf_base.specs.Answers.{Breach, Found, AnswersAs, OneAnswer, Only, Refused, RefusedIn}
use Rattle.lf_base.specs.Faults.{fault}
use Rattle.lf_base.proofs.Answering.{Decides, breach, found, one_answer, only, refused, refused_in}
use Rattle.lf_ast.specs.Inside.{Inside}
use Rattle.lf_parse.specs.Tokens.{MarkedToken, marked}
use Rattle.lf_ast.specs.Tree.{Tree, tree}
use Rattle.lf_parse.specs.Grammar.{Parses, IsViable}
use Rattle.lf_parse.specs.reading.Machine.{ParserState, step, finish, start, run, accept, at_end, reading_from, reading}
use Rattle.lf_parse.specs.Depth.{TooDeepAt, IsBounded}
use Rattle.lf_parse.specs.Answer.{IsExpression, SyntaxAt, place, Refuses, too_deep, syntax}
use Rattle.lf_parse.specs.reading.Answers.{placed, answer}
use Rattle.lf_parse.proofs.Complete.{complete}
use Rattle.lf_parse.proofs.Nestings.{deep_or_bounded}
use Rattle.lf_parse.proofs.SpansInside.{refusal_lies, tree_inside}
use Rattle.lf_parse.proofs.Sound.{sound}
use Rattle.lf_parse.proofs.Prefix.{viable_run, stuck_run}

-- ---- the machine's answer

-- the machine takes n tokens, and no more
record Stuck (s : ParserState) (ts : List Token) (n : ℕ) : Type 0 where
  within : n ≤ length ts
  last : ParserState
  runs : run s (map marked (take n ts)) ≡ Some last
  here : n < length ts → run s (map marked (take (suc n) ts)) ≡ None
  none : accept s (map marked ts) ≡ None

abbrev Tells : ℕ → ParserState → List Token → Result Tree ℕ → Type 0
Tells k s ts (Ok e) = accept s (map marked ts) ≡ Some e
Tells k s ts (Err j) = (n : ℕ) × (j ≡ k + n) × Stuck s ts n

tells_end : (k : ℕ) (s : ParserState) (o : Option Tree) → finish s ≡ o → Tells k s [] (at_end k o)
tells_end k s (Some e) h = h
tells_end k s None h = (0, omega arith, record { within = omega arith; last = s; runs = refl; here = λ l. absurd (omega arith); none = h })

tells_more : (k : ℕ) (s s' : ParserState) (t : Token) (ts : List Token) (r : Result Tree ℕ) → step s (marked t) ≡ Some s' → Tells (k + 1) s' ts r → Tells k s (t ∷ ts) r
tells_more k s s' t ts (Ok e) h i = ap (option_and_then (λ x. accept x (map marked ts))) h ∙ i
tells_more k s s' t ts (Err j) h (n, e, stuck) = (
  suc n,
  omega arith,
  record {
    within = omega (arith, stuck.within);
    last = stuck.last;
    runs = ap (option_and_then (λ x. run x (map marked (take n ts)))) h ∙ stuck.runs;
    here = λ l. ap (option_and_then (λ x. run x (map marked (take (suc n) ts)))) h ∙ stuck.here (omega arith);
    none = ap (option_and_then (λ x. accept x (map marked ts))) h ∙ stuck.none;
  },
)

tells_step : (k : ℕ) (s : ParserState) (t : Token) (ts : List Token) (o : Option ParserState) → step s (marked t) ≡ o → ((s' : ParserState) → Tells (k + 1) s' ts (reading_from (k + 1) s' (map marked ts))) → Tells k s (t ∷ ts) (elim o [ None ↦ Err k | Some s' ↦ reading_from (k + 1) s' (map marked ts) ])
tells_step k s t ts (Some s') h i = tells_more k s s' t ts (reading_from (k + 1) s' (map marked ts)) h (i s')
tells_step k s t ts None h i = (
  0,
  omega arith,
  record {
    within = omega arith;
    last = s;
    runs = refl;
    here = λ l. ap (option_and_then (λ x. run x [])) h;
    none = ap (option_and_then (λ x. accept x (map marked ts))) h;
  },
)

tells : (ts : List Token) (k : ℕ) (s : ParserState) → Tells k s ts (reading_from k s (map marked ts))
tells [] k s = tells_end k s (finish s) refl
tells (t ∷ ts) k s = tells_step k s t ts (step s (marked t)) refl (λ s'. tells ts (k + 1) s')

-- ---- places of Syntax

-- a front of tokens that are viable is viable
viable_front : (xs ys : List Token) → IsViable (xs ++ ys) → IsViable xs
viable_front xs ys v = (ys ++ v.0, v.1, rw append_assoc at v.2)

front : (j k : ℕ) (ts : List Token) → j ≤ k → (ys : List Token) × (take j ts ++ ys ≡ take k ts)
front zero k ts h = (take k ts, refl)
front (suc j) zero ts h = absurd (omega arith)
front (suc j) (suc k) [] h = ([], refl)
front (suc j) (suc k) (t ∷ ts) h = let y = front j k ts (omega arith) in (y.0, ap (λ l. t ∷ l) y.1)

viable_take : (j k : ℕ) (ts : List Token) → j ≤ k → IsViable (take k ts) → IsViable (take j ts)
viable_take j k ts h v = let y = front j k ts h in viable_front (take j ts) y.0 (subst IsViable (sym y.1) v)

viable_parse : (ts : List Token) (e : Tree) → Parses ts e → IsViable ts
viable_parse ts e d = ([], e, rw append-nil d)

abbrev read : List Token → Result Tree ℕ
read ts = reading (map marked ts)

-- a place that is told
pub syntax_told : (ts : List Token) (k : ℕ) → read ts ≡ Err k → SyntaxAt ts k
syntax_told ts k h = go (subst (Tells 0 start ts) h (tells ts 0 start))
  where
    go : Tells 0 start ts (Err k) → SyntaxAt ts k
    go (n, e, stuck) =
        let same : n ≡ k = omega arith in
        subst (SyntaxAt ts) same (record {
          within = stuck.within;
          before = viable_run (take n ts) stuck.last stuck.runs;
          here = λ l. stuck_run (take (n + 1) ts) (rw add-one (stuck.here l));
          end = λ l x d. let e' = sym (complete (map marked ts) x d) ∙ stuck.none in cc;
        })

parses_told : (ts : List Token) (e : Tree) → read ts ≡ Ok e → Parses ts e
parses_told ts e h = sound (map marked ts) e (subst (Tells 0 start ts) h (tells ts 0 start))

-- two places are one
syntax_before : (ts : List Token) (j k : ℕ) → SyntaxAt ts j → SyntaxAt ts k → j < k → ⊥
syntax_before ts j k a b l = a.here (omega (arith, b.within)) (viable_take (j + 1) k ts (omega arith) b.before)

syntax_once : (ts : List Token) (j k : ℕ) → SyntaxAt ts j → SyntaxAt ts k → j ≡ k
syntax_once ts j k a b = elim (cases_order j k) [ inl e ↦ e | inr u ↦ elim u [ inl l ↦ absurd (syntax_before ts j k a b l) | inr l ↦ absurd (syntax_before ts k j b a l) ] ]

-- no place stands in an expression
syntax_none : (ts : List Token) (e : Tree) (k : ℕ) → Parses ts e → SyntaxAt ts k → ⊥
syntax_none ts e k d a =
    let w : (k < length ts) ⊎ (k ≡ length ts) = elim (cases_lt k (length ts)) [ inl l ↦ inl l | inr e ↦ inr (omega (arith, a.within)) ] in
    elim w [
      | inl l ↦ a.here l (viable_take (k + 1) (length ts) ts (omega arith) (subst IsViable (sym (take-length ts)) (viable_parse ts e d)))
      | inr l ↦ a.end l e d
    ]

-- ---- one reading

-- no list of tokens has two trees
pub one_tree : (ts : List Token) (e f : Tree) → Parses ts e → Parses ts f → e ≡ f
one_tree ts e f d g = let p = sym (complete (map marked ts) e d) ∙ complete (map marked ts) f g in cc

deep_before : (ts : List Token) (j k : ℕ) → TooDeepAt ts j → TooDeepAt ts k → j < k → ⊥
deep_before ts j k a b l = let p = sym a.here ∙ b.before (j + 1) (omega arith) in cc

deep_once : (ts : List Token) (j k : ℕ) → TooDeepAt ts j → TooDeepAt ts k → j ≡ k
deep_once ts j k a b = elim (cases_order j k) [ inl e ↦ e | inr u ↦ elim u [ inl l ↦ absurd (deep_before ts j k a b l) | inr l ↦ absurd (deep_before ts k j b a l) ] ]

deep_bounded : (ts : List Token) (k : ℕ) → TooDeepAt ts k → IsBounded ts → ⊥
deep_bounded ts k a b = let p = sym a.here ∙ b (k + 1) (omega (arith, a.within)) in cc

-- tokens that are refused are no expression
pub never_both : (ts : List Token) (end : ℕ) (e : Tree) (f : Fault) → IsExpression ts e → Refuses ts end f → ⊥
never_both ts end e f (b, d) (too_deep k a) = deep_bounded ts k a b
never_both ts end e f (b, d) (syntax k c a) = syntax_none ts e k d a

-- and are refused for one reason
pub one_fault : (ts : List Token) (end : ℕ) (f g : Fault) → Refuses ts end f → Refuses ts end g → f ≡ g
one_fault ts end f g (too_deep j a) (too_deep k b) = ap (λ i. fault TooDeep (place ts end i)) (deep_once ts j k a b)
one_fault ts end f g (too_deep j a) (syntax k c b) = absurd (deep_bounded ts j a c)
one_fault ts end f g (syntax j c a) (too_deep k b) = absurd (deep_bounded ts k b c)
one_fault ts end f g (syntax j c a) (syntax k d b) = ap (λ i. fault Syntax (place ts end i)) (syntax_once ts j k a b)

-- ---- what the code returned

-- an answer that is right
abbrev pub IsRight : List Token → ℕ → Result Tree Fault → Type 0
IsRight ts end (Ok e) = IsExpression ts e
IsRight ts end (Err f) = Refuses ts end f

right_read : (ts : List Token) (end : ℕ) (r : Result Tree ℕ) → read ts ≡ r → IsBounded ts → IsRight ts end (placed ts end r)
right_read ts end (Ok e) h b = (b, parses_told ts e h)
right_read ts end (Err k) h b = syntax k b (syntax_told ts k h)

-- an answer that is right is the only one
only_right : (ts : List Token) (end : ℕ) (r s : Result Tree Fault) → IsRight ts end r → IsRight ts end s → r ≡ s
only_right ts end (Ok e) (Ok f) a b = ap Ok (one_tree ts e f a.1 b.1)
only_right ts end (Ok e) (Err f) a b = absurd (never_both ts end e f a b)
only_right ts end (Err f) (Ok e) a b = absurd (never_both ts end e f b a)
only_right ts end (Err f) (Err g) a b = ap Err (one_fault ts end f g a b)

-- so a right answer decides
decides : (ts : List Token) (end : ℕ) (read : Result Tree Fault) → IsRight ts end read → Decides (IsExpression ts) (Refuses ts end) read
decides ts end read right = record {
  stands = λ e is. subst (IsRight ts end) is right;
  read = λ e stands. only_right ts end read (Ok e) right stands;
  breaks = λ f is. subst (IsRight ts end) is right;
  told = λ f breaks. only_right ts end read (Err f) right breaks;
}

-- there is one for all tokens
right : (ts : List Token) (end : ℕ) → (read : Result Tree Fault) × IsRight ts end read
right ts end = elim (deep_or_bounded ts) [ inl deep ↦ (Err (fault TooDeep (place ts end deep.0)), too_deep deep.0 deep.1) | inr bounded ↦ (answer ts end, right_read ts end (read ts) refl bounded) ]

pub one_reading : (ts : List Token) (end : ℕ) → OneAnswer (IsExpression ts) (Refuses ts end)
one_reading ts end = let y = right ts end in one_answer (IsExpression ts) (Refuses ts end) y.0 (decides ts end y.0 y.1)

-- the clauses of the parser
pub record Clauses (ts : List Token) (end : ℕ) (r : Result Expr Refusal) : Type 0 where
  pub found : Found tree (IsExpression ts) r
  pub only : Only tree (IsExpression ts) r
  pub refused : Refused (Refuses ts end) r
  pub breach : Breach tree (Refuses ts end) r
  pub inside : (n : ℕ) → LieIn n ts → IsNonDecreasingBy (λ t. t.span.start) ts → IfOk r (λ e. Inside n (tree e))
  pub refused_inside : (n : ℕ) → LieIn n ts → end ≤ n → RefusedIn n r

inside_given : (ts : List Token) (n : ℕ) → LieIn n ts → IsNonDecreasingBy (λ t. t.span.start) ts → (r : Result Expr Refusal) → Found tree (IsExpression ts) r → IfOk r (λ e. Inside n (tree e))
inside_given ts n lie order (Ok e) h = tree_inside n ts (tree e) lie order h.1
inside_given ts n lie order (Err refusal) h = tt

clauses : (ts : List Token) (end : ℕ) (r : Result Expr Refusal) (read : Result Tree Fault) → IsRight ts end read → AnswersAs tree r read → Clauses ts end r
clauses ts end r read right given =
    let d = decides ts end read right in
    let stands = found tree (IsExpression ts) (Refuses ts end) read d r given in
    let told = refused tree (IsExpression ts) (Refuses ts end) read d r given in
    record {
      found = stands;
      only = only tree (IsExpression ts) (Refuses ts end) read d r given;
      refused = told;
      breach = breach tree (IsExpression ts) (Refuses ts end) read d r given;
      inside = λ n lie order. inside_given ts n lie order r stands;
      refused_inside = λ n lie within. refused_in n (Refuses ts end) (refusal_lies n ts end lie within) r told;
    }

-- ---- the loop over the tokens

place_at : (ts : List Token) (end k : ℕ) (t : Token) → k < length ts → place ts end k ≡ (get_or ts k t).span
place_at [] end k t h = absurd (omega arith)
place_at (x ∷ ts) end zero t h = refl
place_at (x ∷ ts) end (suc k) t h = place_at ts end k t (omega arith)

place_end : (ts : List Token) (end k : ℕ) → length ts ≤ k → place ts end k ≡ record { start = end; end = end }
place_end [] end k h = refl
place_end (x ∷ ts) end zero h = absurd (omega arith)
place_end (x ∷ ts) end (suc k) h = place_end ts end k (omega arith)

-- what is read from token k on
abbrev pub ReadsFrom : List Token → ℕ → ParserState → Type 0
ReadsFrom ts k s = reading_from k s (map marked (drop k ts)) ≡ reading (map marked ts)

abbrev stepped : ℕ → List MarkedToken → Option ParserState → Result Tree ℕ
stepped k ts o = elim o [ None ↦ Err k | Some s' ↦ reading_from (k + 1) s' ts ]

reads_step : (ts : List Token) (k : ℕ) (t : Token) (s : ParserState) (o : Option ParserState) → k < length ts → t ≡ get_or ts k t → ReadsFrom ts k s → o ≡ step s (marked t) → stepped k (map marked (drop (k + 1) ts)) o ≡ reading (map marked ts)
reads_step ts k t s o h i r e =
    let here = at_drop_more (λ l. reading_from k s (map marked l)) ts k t h in
    let same = ap (λ x. stepped k (map marked (drop (k + 1) ts)) (step s (marked x))) i in
    ap (stepped k (map marked (drop (k + 1) ts))) e ∙ same ∙ sym here ∙ r

pub answer_stuck : (ts : List Token) (end k : ℕ) (t : Token) (s : ParserState) → k < length ts → t ≡ get_or ts k t → ReadsFrom ts k s → None ≡ step s (marked t) → answer ts end ≡ Err (fault Syntax t.span)
answer_stuck ts end k t s h i r e =
    let here = ap (placed ts end) (reads_step ts k t s None h i r e) in
    let same = ap (λ (x : Token). x.span) i ∙ sym (place_at ts end k t h) in
    sym (ap (λ p. Err (fault Syntax p)) same ∙ here)

reads_end : (ts : List Token) (k : ℕ) (s : ParserState) (o : Option Tree) → length ts ≤ k → ReadsFrom ts k s → o ≡ finish s → at_end k o ≡ reading (map marked ts)
reads_end ts k s o h r e = ap (at_end k) e ∙ sym (at_drop_all (λ l. reading_from k s (map marked l)) ts k h) ∙ r

pub answer_end : (ts : List Token) (end k : ℕ) (s : ParserState) → length ts ≤ k → ReadsFrom ts k s → None ≡ finish s → answer ts end ≡ Err (fault Syntax (record { start = end; end = end }))
answer_end ts end k s h r i = sym (ap (λ p. Err (fault Syntax p)) (sym (place_end ts end k h)) ∙ ap (placed ts end) (reads_end ts k s None h r i))

-- ---- the two answers of the parser

module _ (ts us : List Token) (end : ℕ) (same : us ≡ ts) where
  -- a bound is passed at token k, which the code has read
  deep_refuses : (k : ℕ) (t : Token) → TooDeepAt us k → Refuses us end (fault TooDeep (get_or us k t).span)
  deep_refuses k t a = subst (λ p. Refuses us end (fault TooDeep p)) (place_at us end k t a.within) (too_deep k a)

  pub clauses_deep : (o : Option ℕ) (k : ℕ) (t : Token) → o ≡ Some k → MatchOption o (IsBounded us) (TooDeepAt us) → Clauses ts end (Err (At TooDeep (get_or us k t).span))
  clauses_deep o k t e a =
      let deep = subst (λ (x : Option ℕ). MatchOption x (IsBounded us) (TooDeepAt us)) e a in
      let f = fault TooDeep (get_or us k t).span in
      subst (λ (xs : List Token). Clauses xs end (Err (At TooDeep (get_or us k t).span))) same (clauses us end (Err (At TooDeep (get_or us k t).span)) (Err f) (deep_refuses k t deep) refl)

  pub clauses_read : (r : Result Expr Refusal) (o : Option ℕ) → o ≡ None → MatchOption o (IsBounded us) (TooDeepAt us) → AnswersAs tree r (answer us end) → Clauses ts end r
  clauses_read r o e a g =
      let bounded = subst (λ (x : Option ℕ). MatchOption x (IsBounded us) (TooDeepAt us)) e a in
      subst (λ (xs : List Token). Clauses xs end r) same (clauses us end r (answer us end) (right_read us end (read us) refl bounded) g)
