-- Where tokens lie in a source in its order, so do the spans of their tree and of what is refused.
use Rattle.std.proofs.Common.{◌≡◌, ◌≤◌, ◌<◌, ℕ, zero, suc, Bool, List, [], ◌∷◌, ◌++◌, map, length, get_or, Option, refl, ap, arith}
use Rattle.std.specs.List.Sorted.{IsNonDecreasingBy}
use Rattle.lf_base.specs.declared.place.Span.{Span}
use Rattle.lf_base.specs.declared.fault.Fault.{Fault}
use Rattle.lf_base.specs.Faults.{LiesIn}
use Rattle.lf_ast.specs.Inside.{EachInside, GroupingInside, Inside, MatchersInside, MatchingInside, NamesInside, SightInside}
use Rattle.lf_ast.specs.Tree.{Tree, Trees, Unary, Nil, Next, span_of, with_last}
use Rattle.lf_ast.specs.declared.expr.Group.{Group}
use Rattle.lf_ast.specs.declared.expr.Group.TheVariants as group_of
use Rattle.lf_ast.specs.declared.expr.Matcher.{Matcher}
use Rattle.lf_ast.specs.declared.expr.Matching.{Matching as MatchingOf}
use Rattle.lf_ast.specs.declared.expr.Name.{Name}
use Rattle.lf_ast.specs.declared.expr.Sight.{Sight}
use Rattle.lf_lex.specs.declared.token.Token.{Token}
use Rattle.lf_lex.specs.Tokens.{LieIn}
use Rattle.lf_parse.specs.declared.class.Clause.{Clause}
use Rattle.lf_parse.specs.declared.class.Clause.TheVariants.{By, Without}
use Rattle.lf_parse.specs.declared.class.Scope.{Scope}
use Rattle.lf_parse.specs.declared.class.Scope.TheVariants.{On, Ignoring}
use Rattle.lf_parse.specs.Answer.{Refuses, place, syntax, too_deep}
use Rattle.lf_parse.specs.Grammar.{to, up_to, many_of, LabelsAt, one_label, next_label, NamesAt, no_names, names, names_comma, matched, ScopedAt, alone, group, group_names, ModifierAt, no_modifier, bool, scoped, bool_scoped, MatchersAt, one_matcher, next_matcher, BracesAt, no_matchers, matchers, matchers_comma, SelectAt, word, word_braces, braces, Mod, OffsetBy, AtTime, ModAt, offset, offset_minus, time, time_plus, time_minus, time_edge, with_mod, ModsAt, no_mods, mods, StepAt, no_step, step, grouping, At, number, numeric, string, paren, selector, range, subquery, call, aggregate, aggregate_by, aggregate_args_by, plus, minus, binary, SomeAt, one, also, ArgsAt, no_args, args, Parses}
use Rattle.lf_parse.specs.Tokens.{MarkedToken, ◌at◌, marked}

module _ (n : ℕ) where
  -- tokens as the grammar sees them lie in a source of n bytes, and begin one behind another from an offset on
  abbrev Along : ℕ → List MarkedToken → Type 0
  Along from [] = Unit {0}
  Along from ((m at p) ∷ ts) = (from ≤ p.start) × (p.start ≤ p.end) × (p.end ≤ n) × Along p.start ts

  along : (ts : List Token) (from : ℕ) → ((t : Token) → 0 < length ts → from ≤ (get_or ts 0 t).span.start) → LieIn n ts → IsNonDecreasingBy (λ t. t.span.start) ts → Along from (map marked ts)
  along [] from first lie order = tt
  along (t ∷ ts) from first lie order = (first t (omega arith), lie.0.0, lie.0.1, along ts t.span.start (λ u l. order 0 1 u (omega arith) (omega arith)) lie.1 (λ i j u l k. order (suc i) (suc j) u (omega arith) (omega arith)))

  -- the last token of a part begins at an offset, and others follow
  record Past (from : ℕ) (rest : List MarkedToken) : Type 0 where
    last : ℕ
    behind : from ≤ last
    ahead : Along last rest

  -- and it ends at another offset
  record Until (from end : ℕ) (rest : List MarkedToken) : Type 0 where
    last : ℕ
    behind : from ≤ last
    before : last ≤ end
    within : end ≤ n
    ahead : Along last rest

  -- a part has a span, with which it ends
  record Spans (from : ℕ) (p : Span) (rest : List MarkedToken) : Type 0 where
    last : ℕ
    start : from ≤ p.start
    behind : p.start ≤ last
    before : last ≤ p.end
    within : p.end ≤ n
    ahead : Along last rest

  lies : {from : ℕ} {p : Span} {rest : List MarkedToken} → Spans from p rest → LiesIn n p
  lies s = (omega (arith, s.behind, s.before), s.within)

  -- lists of names

  names_more : (xs : List Name) (x : Name) → NamesInside n xs → LiesIn n x.span → NamesInside n (xs ++ x ∷ [])
  names_more [] x h w = (w, tt)
  names_more (y ∷ xs) x h w = (h.0, names_more xs x h.1 w)

  labels_inside : {xs : List Name} {ts rest : List MarkedToken} (from : ℕ) → LabelsAt xs ts rest → Along from ts → NamesInside n xs × Past from rest
  labels_inside from (one_label {p = p}) h = (((h.1, h.2), tt), record { last = p.start; behind = h.0; ahead = h.3 })
  labels_inside from (next_label {xs = xs} {p = p} l) h =
      let y = labels_inside from l h in
      let z = y.1.ahead.3 in
      (names_more xs _ y.0 (z.1, z.2), record { last = p.start; behind = omega (arith, y.1.behind, y.1.ahead.0, z.0); ahead = z.3 })

  -- a token ends a part, behind an offset
  ends_with : {p : Span} {rest : List MarkedToken} (from : ℕ) → from ≤ p.start → p.start ≤ p.end → p.end ≤ n → Along p.start rest → Spans from p rest
  ends_with {p = p} from h i k rest = record { last = p.start; start = h; behind = omega arith; before = i; within = k; ahead = rest }

  names_inside : {xs : List Name} {c : Span} {ts rest : List MarkedToken} (from : ℕ) → NamesAt xs c ts rest → Along from ts → NamesInside n xs × Spans from c rest
  names_inside from no_names h = (tt, ends_with from (omega (arith, h.0, h.3.0)) h.3.1 h.3.2 h.3.3)
  names_inside from (names {o = o} l) h =
      let y = labels_inside o.start l h.3 in
      let z = y.1.ahead in
      (y.0, ends_with from (omega (arith, h.0, y.1.behind, z.0)) z.1 z.2 z.3)
  names_inside from (names_comma {o = o} l) h =
      let y = labels_inside o.start l h.3 in
      let z = y.1.ahead in
      (y.0, ends_with from (omega (arith, h.0, y.1.behind, z.0, z.3.0)) z.3.1 z.3.2 z.3.3)

  -- modifiers

  matched_inside : (b : Bool) (k : Scope) (xs : List Name) (g : Group) (ys : List Name) (p : Span) → NamesInside n xs → NamesInside n ys → LiesIn n p → MatchingInside n (matched b k xs g ys p)
  matched_inside b On xs g ys p h i w = (w, h, tt, i)
  matched_inside b Ignoring xs g ys p h i w = (w, tt, h, i)

  scoped_inside : {b : Bool} {f : Span} {k : Scope} {m : MatchingOf} {ts rest : List MarkedToken} (from : ℕ) → ScopedAt b f k m ts rest → f.start ≤ from → Along from ts → MatchingInside n m × Past from rest
  scoped_inside {b} {f} {k} from (alone {c = c} {xs = xs} d) e h =
      let y = names_inside from d h in
      (matched_inside b k xs group_of.One [] (to f c) y.0 tt (omega (arith, e, y.1.start, y.1.behind, y.1.before), y.1.within), record { last = y.1.last; behind = omega (arith, y.1.start, y.1.behind); ahead = y.1.ahead })
  scoped_inside {b} {f} {k} from (group {q = q} {s = s} {xs = xs} d shut) e h =
      let y = names_inside from d h in
      let z = y.1.ahead in
      (matched_inside b k xs (many_of s) [] (to f q) y.0 tt (omega (arith, e, y.1.start, y.1.behind, z.0, z.1), z.2), record { last = q.start; behind = omega (arith, y.1.start, y.1.behind, z.0); ahead = z.3 })
  scoped_inside {b} {f} {k} from (group_names {q = q} {d = c} {s = s} {xs = xs} {ys = ys} d i) e h =
      let y = names_inside from d h in
      let z = y.1.ahead in
      let w = names_inside q.start i z.3 in
      (matched_inside b k xs (many_of s) ys (to f c) y.0 w.0 (omega (arith, e, y.1.start, y.1.behind, z.0, w.1.start, w.1.behind, w.1.before), w.1.within), record { last = w.1.last; behind = omega (arith, y.1.start, y.1.behind, z.0, w.1.start, w.1.behind); ahead = w.1.ahead })

  modifier_inside : {o : Span} {m : MatchingOf} {ts rest : List MarkedToken} → ModifierAt o m ts rest → o.end ≤ n → Along o.start ts → MatchingInside n m × Past o.start rest
  modifier_inside {o} no_modifier w h = (((omega arith, w), tt, tt, tt), record { last = o.start; behind = omega arith; ahead = h })
  modifier_inside (bool {p = p}) w h = (((h.1, h.2), tt, tt, tt), record { last = p.start; behind = h.0; ahead = h.3 })
  modifier_inside (scoped {p = p} d) w h = let y = scoped_inside p.start d (omega arith) h.3 in (y.0, record { last = y.1.last; behind = omega (arith, h.0, y.1.behind); ahead = y.1.ahead })
  modifier_inside (bool_scoped {p = p} {q = q} d) w h = let y = scoped_inside q.start d h.3.0 h.3.3 in (y.0, record { last = y.1.last; behind = omega (arith, h.0, h.3.0, y.1.behind); ahead = y.1.ahead })

  -- selectors

  matchers_more : (xs : List Matcher) (x : Matcher) → MatchersInside n xs → LiesIn n x.label_span → LiesIn n x.value_span → MatchersInside n (xs ++ x ∷ [])
  matchers_more [] x h l v = ((l, v), tt)
  matchers_more (y ∷ xs) x h l v = (h.0, matchers_more xs x h.1 l v)

  matchers_inside : {xs : List Matcher} {ts rest : List MarkedToken} (from : ℕ) → MatchersAt xs ts rest → Along from ts → MatchersInside n xs × Past from rest
  matchers_inside from (one_matcher {r = r} m) h =
      let z = h.3.3 in
      ((((h.1, h.2), (z.1, z.2)), tt), record { last = r.start; behind = omega (arith, h.0, h.3.0, z.0); ahead = z.3 })
  matchers_inside from (next_matcher {xs = xs} {r = r} m l) h =
      let y = matchers_inside from l h in
      let w = y.1.ahead.3 in
      let z = w.3.3 in
      (matchers_more xs _ y.0 (w.1, w.2) (z.1, z.2), record { last = r.start; behind = omega (arith, y.1.behind, y.1.ahead.0, w.0, w.3.0, z.0); ahead = z.3 })

  braces_inside : {xs : List Matcher} {c : Span} {ts rest : List MarkedToken} (from : ℕ) → BracesAt xs c ts rest → Along from ts → MatchersInside n xs × Spans from c rest
  braces_inside from no_matchers h = (tt, ends_with from h.0 h.1 h.2 h.3)
  braces_inside from (matchers l) h = let y = matchers_inside from l h in let z = y.1.ahead in (y.0, ends_with from (omega (arith, y.1.behind, z.0)) z.1 z.2 z.3)
  braces_inside from (matchers_comma l) h = let y = matchers_inside from l h in let z = y.1.ahead in (y.0, ends_with from (omega (arith, y.1.behind, z.0, z.3.0)) z.3.1 z.3.2 z.3.3)

  select_inside : {nm : Option (List ℕ)} {ms : List Matcher} {p : Span} {ts rest : List MarkedToken} (from : ℕ) → SelectAt nm ms p ts rest → Along from ts → MatchersInside n ms × Spans from p rest
  select_inside from (word i) h = (tt, ends_with from h.0 h.1 h.2 h.3)
  select_inside from (word_braces {o = o} i b) h =
      let y = braces_inside o.start b h.3.3 in
      (y.0, record { last = y.1.last; start = h.0; behind = omega (arith, h.3.0, y.1.start, y.1.behind); before = y.1.before; within = y.1.within; ahead = y.1.ahead })
  select_inside from (braces {o = o} b) h =
      let y = braces_inside o.start b h.3 in (y.0, record { last = y.1.last; start = h.0; behind = omega (arith, y.1.start, y.1.behind); before = y.1.before; within = y.1.within; ahead = y.1.ahead })

  -- offsets, times and steps

  mod_along : {x : Mod} {k : ℕ} {ts rest : List MarkedToken} (from : ℕ) → ModAt x k ts rest → Along from ts → Until from k rest
  mod_along from (offset {q = q}) h = let z = h.3 in record { last = q.start; behind = omega (arith, h.0, z.0); before = z.1; within = z.2; ahead = z.3 }
  mod_along from (offset_minus {q = q}) h = let z = h.3.3 in record { last = q.start; behind = omega (arith, h.0, h.3.0, z.0); before = z.1; within = z.2; ahead = z.3 }
  mod_along from (time {q = q}) h = let z = h.3 in record { last = q.start; behind = omega (arith, h.0, z.0); before = z.1; within = z.2; ahead = z.3 }
  mod_along from (time_plus {q = q}) h = let z = h.3.3 in record { last = q.start; behind = omega (arith, h.0, h.3.0, z.0); before = z.1; within = z.2; ahead = z.3 }
  mod_along from (time_minus {q = q}) h = let z = h.3.3 in record { last = q.start; behind = omega (arith, h.0, h.3.0, z.0); before = z.1; within = z.2; ahead = z.3 }
  mod_along from (time_edge {c = c}) h = let z = h.3.3.3 in record { last = c.start; behind = omega (arith, h.0, h.3.0, h.3.3.0, z.0); before = z.1; within = z.2; ahead = z.3 }

  same_range : (s : Sight) (x : Mod) → SightInside n s → SightInside n (with_mod s x)
  same_range s (OffsetBy d) h = h
  same_range s (AtTime x) h = h

  mods_inside : {s r : Sight} {k m : ℕ} {ts rest : List MarkedToken} (from : ℕ) → ModsAt s r k m ts rest → SightInside n s → from ≤ k → k ≤ n → Along from ts → SightInside n r × Until from m rest
  mods_inside from no_mods s b w h = (s, record { last = from; behind = omega arith; before = b; within = w; ahead = h })
  mods_inside from (mods {s = s} {x = x} room m more) i b w h =
      let y = mod_along from m h in
      let z = mods_inside y.last more (same_range s x i) y.before y.within y.ahead in
      (z.0, record { last = z.1.last; behind = omega (arith, y.behind, z.1.behind); before = z.1.before; within = z.1.within; ahead = z.1.ahead })

  step_along : {x : Option (List ℕ)} {ts rest : List MarkedToken} (from : ℕ) → StepAt x ts rest → Along from ts → Past from rest
  step_along from no_step h = record { last = from; behind = omega arith; ahead = h }
  step_along from (step {p = p}) h = record { last = p.start; behind = h.0; ahead = h.3 }

  -- expressions

  grouping_inside : (k : Clause) (xs : List Name) → NamesInside n xs → GroupingInside n (grouping k xs)
  grouping_inside By xs h = h
  grouping_inside Without xs h = h

  last_inside : (xs : Trees) (e : Tree) → EachInside n xs → Inside n e → EachInside n (with_last xs e)
  last_inside Nil e h i = (i, tt)
  last_inside (Next x xs) e h i = (h.0, last_inside xs e h.1 i)

  -- an expression whose last token ends at an offset, and begins behind the expression's own span
  record Derived (from end : ℕ) (e : Tree) (rest : List MarkedToken) : Type 0 where
    inside : Inside n e
    until : Until from end rest
    span : (span_of e).start ≤ until.last

  derived : {from end : ℕ} {e : Tree} {rest : List MarkedToken} (p : Span) (u : Until from end rest) → span_of e ≡ p → Inside n e → p.start ≤ u.last → Derived from end e rest
  derived p u is inside behind = record { inside = inside; until = u; span = omega (arith, ap (λ (q : Span). q.start) is, behind) }

  abbrev token : {p : Span} {rest : List MarkedToken} (from : ℕ) → from ≤ p.start → p.start ≤ p.end → p.end ≤ n → Along p.start rest → Until from p.end rest
  token {p = p} from h i k rest = record { last = p.start; behind = h; before = i; within = k; ahead = rest }

  abbrev closed : {from : ℕ} {p : Span} {rest : List MarkedToken} (begin : ℕ) → begin ≤ from → Spans from p rest → Until begin p.end rest
  closed begin h s = record { last = s.last; behind = omega (arith, h, s.start, s.behind); before = s.before; within = s.within; ahead = s.ahead }

  signed : {m : ℕ} {e : Tree} {minus : Bool} {rest : List MarkedToken} (p : Span) (from : ℕ) → from ≤ p.start → Derived p.start m e rest → Derived from m (Unary minus e (up_to p m)) rest
  signed {m = m} p from h y =
      derived (up_to p m) (record { last = y.until.last; behind = omega (arith, h, y.until.behind); before = y.until.before; within = y.until.within; ahead = y.until.ahead }) refl
      ((omega (arith, y.until.behind, y.until.before), y.until.within), y.inside) y.until.behind

  mutual
    at_inside : {l m : ℕ} {e : Tree} {ts rest : List MarkedToken} (from : ℕ) → At l e m ts rest → Along from ts → Derived from m e rest
    at_inside from (number {p = p}) h = derived p (token from h.0 h.1 h.2 h.3) refl (h.1, h.2) (omega arith)
    at_inside from (numeric {p = p}) h = derived p (token from h.0 h.1 h.2 h.3) refl (h.1, h.2) (omega arith)
    at_inside from (string {p = p}) h = derived p (token from h.0 h.1 h.2 h.3) refl (h.1, h.2) (omega arith)
    at_inside from (paren {o = o} {c = c} d) h =
        let y = at_inside o.start d h.3 in
        let z = y.until.ahead in
        derived (to o c) (token from (omega (arith, h.0, y.until.behind, z.0)) z.1 z.2 z.3) refl ((omega (arith, y.until.behind, z.0, z.1), z.2), y.inside) (omega (arith, y.until.behind, z.0))
    at_inside from (selector {p = p} s m) h =
        let y = select_inside from s h in
        let z = mods_inside y.1.last m (omega arith, y.1.within) y.1.before y.1.within y.1.ahead in
        derived p (record { last = z.1.last; behind = omega (arith, y.1.start, y.1.behind, z.1.behind); before = z.1.before; within = z.1.within; ahead = z.1.ahead }) refl (lies y.1, y.0, z.0) (omega (arith, y.1.behind, z.1.behind))
    at_inside from (range {p = p} {q = q} {c = c} s m) h =
        let y = select_inside from s h in
        let w = y.1.ahead in
        let v = w.3.3 in
        let z = mods_inside c.start m (w.3.1, w.3.2) v.1 v.2 v.3 in
        derived (to p c) (record { last = z.1.last; behind = omega (arith, y.1.start, y.1.behind, w.0, w.3.0, v.0, z.1.behind); before = z.1.before; within = z.1.within; ahead = z.1.ahead }) refl
        ((omega (arith, y.1.behind, w.0, w.3.0, v.0, v.1), v.2), y.0, z.0) (omega (arith, y.1.behind, w.0, w.3.0, v.0, z.1.behind))
    at_inside from (subquery {e = e} {k = k} {c = c} d i m) h =
        let y = at_inside from d h in
        let w = y.until.ahead in
        let v = step_along k.start i w.3.3.3 in
        let u = v.ahead in
        let z = mods_inside c.start m (w.3.1, w.3.2) u.1 u.2 u.3 in
        derived (to (span_of e) c) (record { last = z.1.last; behind = omega (arith, y.until.behind, w.0, w.3.0, w.3.3.0, v.behind, u.0, z.1.behind); before = z.1.before; within = z.1.within; ahead = z.1.ahead }) refl
        ((omega (arith, y.span, w.0, w.3.0, w.3.3.0, v.behind, u.0, u.1), u.2), y.inside, z.0) (omega (arith, y.span, w.0, w.3.0, w.3.3.0, v.behind, u.0, z.1.behind))
    at_inside from (call {p = p} i a) h =
        let y = args_inside p.start a h.3 in
        derived p (closed from h.0 y.1) refl ((h.1, h.2), y.0) (omega (arith, y.1.start, y.1.behind))
    at_inside from (aggregate {p = p} a) h =
        let y = args_inside p.start a h.3 in
        derived p (closed from h.0 y.1) refl ((h.1, h.2), tt, y.0) (omega (arith, y.1.start, y.1.behind))
    at_inside from (aggregate_by {k = k} {ys = ys} {p = p} {q = q} b a) h =
        let x = names_inside q.start b h.3.3 in
        let y = args_inside x.1.last a x.1.ahead in
        derived p (closed from (omega (arith, h.0, h.3.0, x.1.start, x.1.behind)) y.1) refl ((h.1, h.2), grouping_inside k ys x.0, y.0) (omega (arith, h.3.0, x.1.start, x.1.behind, y.1.start, y.1.behind))
    at_inside from (aggregate_args_by {k = k} {ys = ys} {p = p} {q = q} a b) h =
        let y = args_inside p.start a h.3 in
        let w = y.1.ahead in
        let x = names_inside q.start b w.3 in
        derived p (closed from (omega (arith, h.0, y.1.start, y.1.behind, w.0)) x.1) refl ((h.1, h.2), grouping_inside k ys x.0, y.0) (omega (arith, y.1.start, y.1.behind, w.0, x.1.start, x.1.behind))
    at_inside from (plus {p = p} l d) h = signed p from h.0 (at_inside p.start d h.3)
    at_inside from (minus {p = p} l d) h = signed p from h.0 (at_inside p.start d h.3)
    at_inside from (binary {p = p} l i a x b) h =
        let y = at_inside from a h in
        let w = y.until.ahead in
        let v = modifier_inside x w.2 w.3 in
        let z = at_inside v.1.last b v.1.ahead in
        derived p (record { last = z.until.last; behind = omega (arith, y.until.behind, w.0, v.1.behind, z.until.behind); before = z.until.before; within = z.until.within; ahead = z.until.ahead }) refl
        ((w.1, w.2), v.0, y.inside, z.inside) (omega (arith, v.1.behind, z.until.behind))

    some_inside : {xs : Trees} {ts rest : List MarkedToken} (from : ℕ) → SomeAt xs ts rest → Along from ts → EachInside n xs × Past from rest
    some_inside from (one d) h = let y = at_inside from d h in ((y.inside, tt), record { last = y.until.last; behind = y.until.behind; ahead = y.until.ahead })
    some_inside from (also {xs = xs} {e = e} {q = q} s d) h =
        let y = some_inside from s h in
        let w = y.1.ahead in
        let z = at_inside q.start d w.3 in
        (last_inside xs e y.0 z.inside, record { last = z.until.last; behind = omega (arith, y.1.behind, w.0, z.until.behind); ahead = z.until.ahead })

    args_inside : {xs : Trees} {c : Span} {ts rest : List MarkedToken} (from : ℕ) → ArgsAt xs c ts rest → Along from ts → EachInside n xs × Spans from c rest
    args_inside from no_args h = (tt, ends_with from (omega (arith, h.0, h.3.0)) h.3.1 h.3.2 h.3.3)
    args_inside from (args {o = o} s) h =
        let y = some_inside o.start s h.3 in
        let z = y.1.ahead in
        (y.0, ends_with from (omega (arith, h.0, y.1.behind, z.0)) z.1 z.2 z.3)

  pub tree_inside : (ts : List Token) (e : Tree) → LieIn n ts → IsNonDecreasingBy (λ t. t.span.start) ts → Parses ts e → Inside n e
  tree_inside ts e lie order parses = (at_inside 0 parses.1 (along ts 0 (λ t l. omega arith) lie order)).inside

  -- refusals

  place_lies : (ts : List Token) (end k : ℕ) → LieIn n ts → end ≤ n → LiesIn n (place ts end k)
  place_lies [] end k lie within = (omega arith, within)
  place_lies (t ∷ ts) end zero lie within = lie.0
  place_lies (t ∷ ts) end (suc k) lie within = place_lies ts end k lie.1 within

  pub refusal_lies : (ts : List Token) (end : ℕ) → LieIn n ts → end ≤ n → (f : Fault) → Refuses ts end f → LiesIn n f.span
  refusal_lies ts end lie within f (too_deep k a) = place_lies ts end k lie within
  refusal_lies ts end lie within f (syntax k b a) = place_lies ts end k lie within
