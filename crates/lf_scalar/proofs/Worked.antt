-- Worked scalars: the definitions at small files, offsets and spans written out by hand.
use Rattle.std.proofs.Common.{◌≢◌, ℕ, ◌<◌, List, [], ◌∷◌, None, refl, arith, ◌⊎◌, inl, inr}
use Rattle.std.specs.Prelude.{pos, codes}
use Rattle.lf_base.specs.declared.kind.Kind.TheVariants.{BadIndent, NotANode}
use Rattle.lf_scalar.specs.declared.scalar.Style.TheVariants as style
use Rattle.lf_scalar.specs.declared.block.Chomp.TheVariants.{Clip, Keep}
use Rattle.lf_base.specs.declared.place.Span.{Span}
use Rattle.lf_base.specs.Faults.{span}
use Rattle.lf_scalar.specs.Cells.{Cell, cell, Value, byte_fault}
use Rattle.lf_scalar.specs.Lines.{line, lines}
use Rattle.lf_scalar.specs.Plain.{last, more, key, tab, later}
use Rattle.lf_scalar.specs.Quoted.{Single, Double, Bare, Twice, One, Pair, Drops}
use Rattle.lf_scalar.specs.Quoted as quoted
use Rattle.lf_scalar.specs.Block.{body_fault}
use Rattle.lf_scalar.specs.Scalars.{IsScalarAt, BreaksAt}

abbrev pub value : List ℕ → List ℕ → Span → Value
value text from place = record { text = text; from = from; span = place }

-- a plain scalar over two lines: one space between them, with the offset of the line feed
two_lines : IsScalarAt (codes "a: b\n  c\nd: e\n") 3 (pos 0) style.Plain (value (codes "b c") (3 ∷ 4 ∷ 7 ∷ 8 ∷ []) (span 3 8))
unfolding lines
two_lines = record {
  begun = record { first = _; following = _; opening = _; rest = _; source = refl; text = refl };
  text = cell 98 3 ∷ cell 32 4 ∷ cell 99 7 ∷ [];
  from = more [] refl (record { bare = refl; are_blank = tt; goes_on = refl }) refl (last refl (inr ([], _, refl, tt, (refl, refl))));
  value = refl;
}

-- a `:` before a blank in the second line
second_key : BreaksAt (codes "a: b\n  c: d\n") 3 (pos 0) style.Plain (byte_fault NotANode 8)
unfolding lines
second_key = (
  record { first = _; following = _; opening = _; rest = _; source = refl; text = refl },
  later [] refl (record { bare = refl; are_blank = tt; goes_on = refl }) refl (key [] refl),
)

-- a tab behind the spaces of the second line, told at that line's first byte
second_tab : BreaksAt (codes "a: b\n\n  \tc\n") 3 (pos 0) style.Plain (byte_fault BadIndent 6)
unfolding lines
second_tab = (
  record { first = _; following = _; opening = _; rest = _; source = refl; text = refl },
  tab (line [] 5 ∷ []) [] refl (record { bare = refl; are_blank = (refl, tt); goes_on = refl }) refl,
)

pub differ : (m n : ℕ) → (m < n) ⊎ (n < m) → m ≢ n
differ m n (inl h) e = omega arith
differ m n (inr h) e = omega arith

-- two single quotes give one, with the offset of the first
quote_in_quotes : IsScalarAt (codes "a: 'b''c' # d\n") 3 (pos 0) style.Single (value (codes "b'c") (4 ∷ 5 ∷ 7 ∷ 8 ∷ []) (span 3 9))
unfolding lines
quote_in_quotes = record {
  closed = record {
    between = record { raws = One (cell 98 4) ∷ Pair (cell 39 5) (cell 39 6) ∷ One (cell 99 7) ∷ []; each = (differ 98 39 (inr (omega arith)), ((refl, refl), (differ 99 39 (inr (omega arith)), tt))); closing = cell 39 8; rest = _; source = refl; closes = refl; alone = refl };
    first = _;
    following = [];
    source = refl;
    text = cell 98 4 ∷ cell 39 5 ∷ cell 99 7 ∷ [];
    from = quoted.last (Bare (cell 98 4) ∷ Twice (cell 39 5) (cell 39 6) ∷ Bare (cell 99 7) ∷ []) (cell 39 8) (differ 98 39 (inr (omega arith)), ((refl, refl), (differ 99 39 (inr (omega arith)), tt))) refl refl;
    value = refl;
  };
  alone = refl;
}

pub a_space : (◌≢◌ {A = ℕ} 32 34) × (◌≢◌ {A = ℕ} 32 92)
a_space = (differ 32 34 (inl (omega arith)), differ 32 92 (inl (omega arith)))

-- a backslash at a line's end with a blank line behind it: one line feed, with the offset of the line break that is dropped
dropped_break : IsScalarAt (codes "a: \"b\\\n\n  c\"\n") 3 (pos 0) style.Double (value (codes "b\nc") (4 ∷ 6 ∷ 10 ∷ 11 ∷ []) (span 3 12))
unfolding lines
dropped_break = record {
  closed = record {
    between = record {
      raws = One (cell 98 4) ∷ Pair (cell 92 5) (cell 10 6) ∷ One (cell 10 7) ∷ One (cell 32 8) ∷ One (cell 32 9) ∷ One (cell 99 10) ∷ [];
      each = (
        (differ 98 34 (inr (omega arith)), differ 98 92 (inr (omega arith))),
        (refl, ((differ 10 34 (inl (omega arith)), differ 10 92 (inl (omega arith))), (a_space, (a_space, ((differ 99 34 (inr (omega arith)), differ 99 92 (inr (omega arith))), tt))))),
      );
      closing = cell 34 11;
      rest = _;
      source = refl;
      closes = refl;
      alone = tt;
    };
    first = _;
    following = line [] 7 ∷ line (cell 32 8 ∷ cell 32 9 ∷ cell 99 10 ∷ cell 34 11 ∷ []) 12 ∷ [];
    source = refl;
    text = cell 98 4 ∷ cell 10 6 ∷ cell 99 10 ∷ [];
    from = quoted.more (cell 98 4 ∷ []) (Drops 6) (line [] 7 ∷ []) (Bare (cell 98 4) ∷ [], cell 92 5, ((differ 98 34 (inr (omega arith)), differ 98 92 (inr (omega arith))), tt), refl, refl, refl, refl)
        (record { are_blank = (refl, tt); is_full = refl }) refl (quoted.last (Bare (cell 99 10) ∷ []) (cell 34 11) ((differ 99 34 (inr (omega arith)), differ 99 92 (inr (omega arith))), tt) refl refl);
    value = refl;
  };
  alone = refl;
}

pub some : (c : Cell) (cs : List Cell) → c ∷ cs ≢ []
some c cs e = cc

-- a literal scalar that keeps the empty lines at its end, one of them of one space
kept : IsScalarAt (codes "a: |+\n  b\n\n \nc: d\n") 3 (pos 0) style.Literal (value (codes "b\n\n\n") (8 ∷ 9 ∷ 10 ∷ 12 ∷ 13 ∷ []) (span 3 13))
unfolding lines body_fault
kept = record {
  headed = record { sign = _; header = _; break = _; following = _; source = refl };
  chomp = Keep;
  digit = None;
  header = record { marks = cell 43 4 ∷ []; tail = []; source = refl; are_marks = refl; is_tail = refl };
  sound = refl;
  text = _;
  is_text = record { full = line (cell 98 8 ∷ []) 9 ∷ []; empty = line [] 10 ∷ line [] 12 ∷ []; source = refl; ends_full = some (cell 98 8) []; are_empty = (refl, (refl, tt)); inner = cell 98 8 ∷ []; joins = refl; text_is = refl };
  last = 13;
  last_is = refl;
  value = refl;
}

-- a folded scalar: one line feed more than there are empty lines beside a line that begins with a blank, all with the offset of the first line break there
beside_blanks : IsScalarAt (codes "a: >\n  b\n\n    c\n  d\n  e\n") 3 (pos 0) style.Folded (value (codes "b\n\n  c\nd e\n") (7 ∷ 8 ∷ 8 ∷ 12 ∷ 13 ∷ 14 ∷ 15 ∷ 18 ∷ 19 ∷ 22 ∷ 23 ∷ 24 ∷ []) (span 3 24))
unfolding lines body_fault
beside_blanks = record {
  headed = record { sign = _; header = _; break = _; following = _; source = refl };
  chomp = Clip;
  digit = None;
  header = record { marks = []; tail = []; source = refl; are_marks = tt; is_tail = refl };
  sound = refl;
  text = _;
  is_text = record {
    full = _;
    empty = [];
    source = refl;
    ends_full = some (cell 101 22) [];
    are_empty = tt;
    inner = _;
    joins = record {
      empty = [];
      stretches = record { full = line (cell 98 7 ∷ []) 8; behind = line [] 9 ∷ [] } ∷ record { full = line (cell 32 12 ∷ cell 32 13 ∷ cell 99 14 ∷ []) 15; behind = [] } ∷ record { full = line (cell 100 18 ∷ []) 19; behind = [] }
          ∷ record { full = line (cell 101 22 ∷ []) 23; behind = [] } ∷ [];
      source = refl;
      are_empty = tt;
      are_stretches = ((some (cell 98 7) [], (refl, tt)), ((some (cell 32 12) (cell 32 13 ∷ cell 99 14 ∷ []), tt), ((some (cell 100 18) [], tt), ((some (cell 101 22) [], tt), tt))));
      text_is = refl;
    };
    text_is = refl;
  };
  last = 24;
  last_is = refl;
  value = refl;
}
