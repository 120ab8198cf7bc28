-- More worked scalars and breaches, straight by the definitions: offsets and spans written out by hand.
use Rattle.std.proofs.Common.{◌≡◌, ◌≢◌, ℕ, ◌+◌, ◌<◌, ◌≤◌, true, false, List, [], ◌∷◌, ◌++◌, Option, Some, None, length, refl, ap, arith, sym, ◌∙◌, inl, inr}
use Rattle.std.specs.Prelude.{pos, negsuc, codes}
use Rattle.std.proofs.lemmas.Bool.{true≢false}
use Rattle.std.specs.List.{AllByRecursion, flat_map}
use Rattle.lf_base.specs.declared.kind.Kind.TheVariants.{BadEscape, OpenQuote, BadHeader, BadIndent, LeftOut, NotANode}
use Rattle.lf_scalar.specs.declared.scalar.Style.TheVariants as style
use Rattle.lf_scalar.specs.declared.block.Chomp.{Chomp}
use Rattle.lf_scalar.specs.declared.block.Chomp.TheVariants.{Strip, Clip, Keep}
use Rattle.lf_base.specs.Faults.{span, fault}
use Rattle.lf_scalar.specs.Cells.{Cell, cell, byte_fault}
use Rattle.lf_scalar.specs.Lines.{line, lines, is_tail}
use Rattle.lf_scalar.specs.Plain.{last, more}
use Rattle.lf_scalar.specs.Quoted.{Single, Double, QuotedPiece, Bare, Twice, Letter, Number, IsQuotedPiece, spelled, letter_of, width_of, One, Pair, raw, Folds, Drops, IsBadEscape, open_quote, inside, outside}
use Rattle.lf_scalar.specs.Quoted as quoted
use Rattle.lf_scalar.specs.Block.{AreMarks, IsChomp, body_fault, header, body}
use Rattle.lf_scalar.specs.Scalars.{IsScalarAt, BreaksAt}
use Rattle.lf_scalar.proofs.Cells.{no-cell, same-cells}
use Rattle.lf_scalar.proofs.Worked.{value, differ, some, a_space}
use Rattle.lf_scalar.proofs.Zipped.{not-nothing, some as something}

-- ---- plain

-- `null` is the empty text, which ends where the word ends
null_word : IsScalarAt (codes "a: null\n") 3 (pos 0) style.Plain (value [] (7 ∷ []) (span 3 7))
unfolding lines
null_word = record {
  begun = record { first = _; following = _; opening = _; rest = _; source = refl; text = refl };
  text = cell 110 3 ∷ cell 117 4 ∷ cell 108 5 ∷ cell 108 6 ∷ [];
  from = last refl (inr ([], [], refl, tt, tt));
  value = refl;
}

-- lines that end with a carriage return and a line feed: the space between them has the offset of the line feed
return_and_feed : IsScalarAt (codes "a: b\r\n  c\r\n") 3 (pos 0) style.Plain (value (codes "b c") (3 ∷ 5 ∷ 8 ∷ 9 ∷ []) (span 3 9))
unfolding lines
return_and_feed = record {
  begun = record { first = _; following = _; opening = _; rest = _; source = refl; text = refl };
  text = cell 98 3 ∷ cell 32 5 ∷ cell 99 8 ∷ [];
  from = more [] refl (record { bare = refl; are_blank = tt; goes_on = refl }) refl (last refl (inr ([], [], refl, tt, tt)));
  value = refl;
}

-- ---- between quotes

a_letter : (n : ℕ) → 97 ≤ n → n < 123 → (n ≢ 34) × (n ≢ 92)
a_letter n low high = (differ n 34 (inr (omega arith)), differ n 92 (inr (omega arith)))

a_feed : (◌≢◌ {A = ℕ} 10 34) × (◌≢◌ {A = ℕ} 10 92)
a_feed = (differ 10 34 (inl (omega arith)), differ 10 92 (inl (omega arith)))

b : (◌≢◌ {A = ℕ} 98 34) × (◌≢◌ {A = ℕ} 98 92)
b = a_letter 98 (omega arith) (omega arith)

c : (◌≢◌ {A = ℕ} 99 34) × (◌≢◌ {A = ℕ} 99 92)
c = a_letter 99 (omega arith) (omega arith)

-- a second line of blanks and a backslash: the blanks stand at the line's start and are dropped, and the line gives nothing
blanks_and_backslash : IsScalarAt (codes "a: \"b\n  \\\n  c\"\n") 3 (pos 0) style.Double (value (codes "b c") (4 ∷ 5 ∷ 12 ∷ 13 ∷ []) (span 3 14))
unfolding lines
blanks_and_backslash = record {
  closed = record {
    between = record {
      raws = One (cell 98 4) ∷ One (cell 10 5) ∷ One (cell 32 6) ∷ One (cell 32 7) ∷ Pair (cell 92 8) (cell 10 9) ∷ One (cell 32 10) ∷ One (cell 32 11) ∷ One (cell 99 12) ∷ [];
      each = (b, (a_feed, (a_space, (a_space, (refl, (a_space, (a_space, (c, tt))))))));
      closing = cell 34 13;
      rest = _;
      source = refl;
      closes = refl;
      alone = tt;
    };
    first = _;
    following = line (cell 32 6 ∷ cell 32 7 ∷ cell 92 8 ∷ []) 9 ∷ line (cell 32 10 ∷ cell 32 11 ∷ cell 99 12 ∷ cell 34 13 ∷ []) 14 ∷ [];
    source = refl;
    text = cell 98 4 ∷ cell 32 5 ∷ cell 99 12 ∷ [];
    from = quoted.more (cell 98 4 ∷ []) (Folds 5) [] (Bare (cell 98 4) ∷ [], (b, tt), refl, refl, refl) (record { are_blank = tt; is_full = refl }) refl
        (quoted.more [] (Drops 9) [] ([], cell 92 8, tt, refl, refl, refl, refl) (record { are_blank = tt; is_full = refl }) refl (quoted.last (Bare (cell 99 12) ∷ []) (cell 34 13) (c, tt) refl refl));
    value = refl;
  };
  alone = refl;
}

no-letter : (n : ℕ) → letter_of 113 ≡ something n → ⊥
unfolding letter_of
no-letter n e = not-nothing n (sym e)

no-width : (n : ℕ) → width_of 113 ≡ something n → ⊥
no-width n e = not-nothing n (sym e)

first-byte : (c d : Cell) (cs ds : List Cell) → c ∷ cs ≡ d ∷ ds → c.byte ≡ d.byte
first-byte c d cs ds e = cc

second-byte : (c d e f : Cell) (cs ds : List Cell) → c ∷ d ∷ cs ≡ e ∷ f ∷ ds → d.byte ≡ f.byte
second-byte c d e f cs ds h = cc

-- no piece begins with a backslash and q
no-piece : (at : ℕ) (p : QuotedPiece) (behind rest : List Cell) → IsQuotedPiece Double p → cell 92 at ∷ cell 113 (at + 1) ∷ behind ≡ spelled p ++ rest → ⊥
no-piece at (Bare d) behind rest h e = h.1 (sym (first-byte (cell 92 at) d (cell 113 (at + 1) ∷ behind) rest e))
no-piece at (Twice d g) behind rest h e = h
no-piece at (Letter d g n) behind rest h e = no-letter n (ap letter_of (second-byte (cell 92 at) (cell 113 (at + 1)) d g behind rest e) ∙ h.1)
no-piece at (Number d g digits n) behind rest h e = no-width (length digits) (ap width_of (second-byte (cell 92 at) (cell 113 (at + 1)) d g behind (digits ++ rest) e) ∙ h.1)

q-is-bad : (at : ℕ) (behind : List Cell) → IsBadEscape Double (cell 92 at) (cell 113 (at + 1) ∷ behind)
q-is-bad at behind = record { is_backslash = refl; inside = some (cell 113 (at + 1)) behind; none = λ p rest h e. no-piece at p behind rest h e }

-- `\q` is no escape, told at the backslash
no_escape : BreaksAt (codes "a: \"b\\q\"\n") 3 (pos 0) style.Double (byte_fault BadEscape 5)
unfolding lines
no_escape = inside
    (record { raws = One (cell 98 4) ∷ Pair (cell 92 5) (cell 113 6) ∷ []; each = (b, (refl, tt)); closing = cell 34 7; rest = cell 10 8 ∷ []; source = refl; closes = refl; alone = tt })
    refl
    (quoted.escape [] (record { pieces = Bare (cell 98 4) ∷ []; each = (b, tt); more = cell 113 6 ∷ cell 34 7 ∷ []; source = refl; is_bad = q-is-bad 5 (cell 34 7 ∷ []) }))

-- some cells, none of which is a single quote
others : (cs before rest : List Cell) (d : Cell) → AllByRecursion (λ x. x.byte ≢ 39) cs → cs ≡ before ++ d ∷ rest → d.byte ≡ 39 → ⊥
others [] [] rest d h e q = absurd (no-cell d rest e)
others [] (x ∷ before) rest d h e q = absurd (no-cell x (before ++ d ∷ rest) e)
others (c ∷ cs) [] rest d h e q = h.0 (first-byte c d cs rest e ∙ q)
others (c ∷ cs) (x ∷ before) rest d h e q = others cs before rest d h.1 (same-cells c x cs (before ++ d ∷ rest) e) q

-- a quote that doesn't close, told at it
no_quote : BreaksAt (codes "a: 'b\n") 3 (pos 0) style.Single (byte_fault OpenQuote 3)
unfolding lines
no_quote = open_quote (λ k. others (cell 98 4 ∷ cell 10 5 ∷ []) (flat_map raw k.raws) k.rest k.closing (differ 98 39 (inr (omega arith)), (differ 10 39 (inl (omega arith)), tt)) k.source k.closes)

-- something behind the quote that closes, told at its first character
behind_quote : BreaksAt (codes "a: \"b\" c\n") 3 (pos 0) style.Double (byte_fault NotANode 7)
unfolding lines
behind_quote = outside
    (record {
      between = record { raws = One (cell 98 4) ∷ []; each = (b, tt); closing = cell 34 5; rest = cell 32 6 ∷ cell 99 7 ∷ cell 10 8 ∷ []; source = refl; closes = refl; alone = tt };
      first = _;
      following = [];
      source = refl;
      text = cell 98 4 ∷ [];
      from = quoted.last (Bare (cell 98 4) ∷ []) (cell 34 5) (b, tt) refl refl;
      value = refl;
    })
    (record { front = cell 32 6 ∷ []; more = []; source = refl; before = refl; here = refl })

-- a second line that begins with the marker of a document, told at its first byte
marker_inside : BreaksAt (codes "'b\n---\n'") 0 (negsuc 0) style.Single (byte_fault LeftOut 3)
unfolding lines
marker_inside = inside
    (record {
      raws = One (cell 98 1) ∷ One (cell 10 2) ∷ One (cell 45 3) ∷ One (cell 45 4) ∷ One (cell 45 5) ∷ One (cell 10 6) ∷ [];
      each = (differ 98 39 (inr (omega arith)), (differ 10 39 (inl (omega arith)), (differ 45 39 (inr (omega arith)), (differ 45 39 (inr (omega arith)), (differ 45 39 (inr (omega arith)), (differ 10 39 (inl (omega arith)), tt))))));
      closing = cell 39 7;
      rest = [];
      source = refl;
      closes = refl;
      alone = refl;
    })
    refl
    (quoted.marker (cell 98 1 ∷ []) (Folds 2) [] _ (Bare (cell 98 1) ∷ [], (differ 98 39 (inr (omega arith)), tt), refl, refl, refl) (record { are_blank = tt; is_full = refl }) refl)

-- ---- blocks

no-digit : (d : ℕ) → d ≤ 9 → 120 ≡ 48 + d → ⊥
no-digit d le e = omega (arith, le, e)

no-sign : (c : Cell) (chomp : Chomp) → c.byte ≡ 120 → IsChomp c chomp → ⊥
no-sign c Strip e h = omega (arith, e, h)
no-sign c Clip e h = h
no-sign c Keep e h = omega (arith, e, h)

-- `x` alone is no header
not-marks : (marks tail : List Cell) (chomp : Chomp) (digit : Option ℕ) → cell 120 4 ∷ [] ≡ marks ++ tail → AreMarks marks chomp digit → is_tail false tail ≡ true → ⊥
not-marks [] tail chomp digit e h t = true≢false (sym t ∙ ap (is_tail false) (sym e))
not-marks (m ∷ []) tail chomp None e h t = no-sign m chomp (sym (first-byte (cell 120 4) m [] tail e)) h
not-marks (m ∷ []) tail Strip (Some d) e h t = h
not-marks (m ∷ []) tail Clip (Some d) e h t = no-digit d h.1 (first-byte (cell 120 4) m [] tail e ∙ h.2)
not-marks (m ∷ []) tail Keep (Some d) e h t = h
not-marks (m ∷ n ∷ marks) tail chomp digit e h t = no-cell n (marks ++ tail) (same-cells (cell 120 4) m [] (n ∷ (marks ++ tail)) e)

-- a header with another character, told at it
no_header : BreaksAt (codes "a: |x\n") 3 (pos 0) style.Literal (byte_fault BadHeader 4)
unfolding lines
no_header = header
    (record { sign = _; header = _; break = _; following = _; source = refl })
    (record { front = []; more = []; source = refl; before = (Clip, None, record { marks = []; tail = []; source = refl; are_marks = tt; is_tail = refl }); here = λ h. not-marks h.2.marks h.2.tail h.0 h.1 h.2.source h.2.are_marks h.2.is_tail })

-- a line of spaces alone that is longer than the content indent, before the line that tells it: told right behind its last space
long_line : BreaksAt (codes "a: |\n   \n  b\n") 3 (pos 0) style.Literal (fault BadIndent (span 8 8))
unfolding lines body_fault
long_line = body {chomp = Clip} {digit = None} (record { sign = _; header = _; break = _; following = _; source = refl }) (record { marks = []; tail = []; source = refl; are_marks = tt; is_tail = refl }) refl

-- the last line of the file has no line feed, and gives none
no_end : IsScalarAt (codes "a: |\n  b") 3 (pos 0) style.Literal (value (codes "b") (7 ∷ 8 ∷ []) (span 3 8))
unfolding lines body_fault
no_end = record {
  headed = record { sign = _; header = _; break = _; following = _; source = refl };
  chomp = Clip;
  digit = None;
  header = record { marks = []; tail = []; source = refl; are_marks = tt; is_tail = refl };
  sound = refl;
  text = _;
  is_text = record { full = line (cell 98 7 ∷ []) 8 ∷ []; empty = []; source = refl; ends_full = some (cell 98 7) []; are_empty = tt; inner = cell 98 7 ∷ []; joins = refl; text_is = refl };
  last = 8;
  last_is = refl;
  value = refl;
}

-- at the root the digit alone is the content indent, and `-` drops the last line break
digit_at_root : IsScalarAt (codes "|2-\n  b\n   c\n") 0 (negsuc 0) style.Literal (value (codes "b\n c") (6 ∷ 7 ∷ 10 ∷ 11 ∷ 12 ∷ []) (span 0 12))
unfolding lines body_fault
digit_at_root = record {
  headed = record { sign = _; header = _; break = _; following = _; source = refl };
  chomp = Strip;
  digit = Some 2;
  header = record { marks = cell 50 1 ∷ cell 45 2 ∷ []; tail = []; source = refl; are_marks = inr ((omega arith, omega arith, refl), refl); is_tail = refl };
  sound = refl;
  text = _;
  is_text = record { full = line (cell 98 6 ∷ []) 7 ∷ line (cell 32 10 ∷ cell 99 11 ∷ []) 12 ∷ []; empty = []; source = refl; ends_full = some (cell 32 10) (cell 99 11 ∷ []); are_empty = tt; inner = _; joins = refl; text_is = refl };
  last = 12;
  last_is = refl;
  value = refl;
}
