-- Blanks, comments, words, signs, strings in back quotes and unknown characters at the front of a text.
use Rattle.std.proofs.Common.{◌≡◌, ◌≢◌, ℕ, zero, suc, ◌+◌, ◌-◌, ◌<◌, ◌≤◌, Bool, true, false, not, eqb, ltb, List, [], ◌∷◌, ◌++◌, length, take, drop, Option, Some, None, refl, ap, arith, append_assoc, append-nil, sym, ◌∙◌, subst, ◌⊎◌, inl, inr, length-append, length-take-le, take-append-drop}
use Rattle.std.proofs.lemmas.List.{take_at}
use Rattle.std.proofs.lemmas.Bool.{cases_lt, and_parts, or_from, false≢true, false_from_ne_true, ne_eqb, eqb-true, lt-ltb, le-ltb, not-false}
use Rattle.std.specs.List.{prefix_len, list_all}
use Rattle.lf_base.specs.declared.kind.Kind.TheVariants.{BadByte, OpenString}
use Rattle.lf_lex.specs.declared.token.Sign.{Sign}
use Rattle.lf_lex.specs.declared.token.Sign.TheVariants.{Colon}
use Rattle.lf_lex.specs.declared.token.TokenKind.TheVariants as kinds
use Rattle.lf_lex.specs.Bytes.{is_blank, is_line_break, is_no_line_break, is_continuation, begins_word, is_in_word}
use Rattle.lf_base.specs.Names.{is_letter, begins_label}
use Rattle.lf_lex.specs.Signs.{spelling}
use Rattle.lf_lex.specs.Runs.{begins_run}
use Rattle.lf_lex.specs.Strings.{IsQuote, in_back_quotes}
use Rattle.lf_lex.specs.Lexemes.{IsLongest, IsWord, IsSign, IsSomeSign, Blank, Comment, Written, EndsComment}
use Rattle.lf_lex.specs.Breaches.{IsBeginning, a_blank, a_comment, a_word, a_run, a_quote, a_back_quote, a_sign, IsCharacter, BeginsNothing, in_back_quotes as open_back_quotes}
use Rattle.lf_lex.specs.reading.Signs.{sign_at}
use Rattle.lf_lex.specs.reading.Steps.{Front, gap, token, breach, comment_front, word_front, raw_front, sign_front, next_token}
use Rattle.lf_base.proofs.Rows.{row_all, row_is, row_then}
use Rattle.lf_base.specs.Rows.{is_no_back_quote, Each, Stops}
use Rattle.lf_lex.proofs.Longest.{Greatest, greatest_longest, longest_length, take_on}
use Rattle.lf_lex.proofs.Words.{word_greatest, no_word, character_greatest}
use Rattle.lf_lex.proofs.RunLaws.{no_run, run_greatest}
use Rattle.lf_lex.proofs.SignLaws.{SignAt, sign_is_at, no_sign_there, same_sign, some_sign}
use Rattle.lf_lex.proofs.Dispatch.{front_blank, front_comment, front_word, front_raw, front_sign, begins_no_run, other}
use Rattle.lf_lex.proofs.Standing.{Standing, stands, fails}

-- ---- comments

comment_stops : (rest : List ℕ) → EndsComment rest → Stops is_no_line_break rest
comment_stops [] h = refl
comment_stops (b ∷ rest) h = ap not h

comment_ends : (rest : List ℕ) → Stops is_no_line_break rest → EndsComment rest
comment_ends [] h = tt
comment_ends (b ∷ rest) h = not-false (is_line_break b) h

hash_no_break : is_no_line_break 35 ≡ true
unfolding is_line_break
hash_no_break = refl

hash_and : (line : List ℕ) → Each is_no_line_break line → Each is_no_line_break (35 ∷ line)
hash_and line h = rw hash_no_break h

module _ (from : List ℕ) (inside : Bool) (at : ℕ) where
  pub blank_reads : (b : ℕ) (rest : List ℕ) → is_blank b ≡ true → next_token from inside at (b ∷ rest) ≡ gap 1
  blank_reads b rest h = front_blank from inside at rest b h

  pub comment_reads : (line rest : List ℕ) → Each is_no_line_break line → EndsComment rest → next_token from inside at (35 ∷ (line ++ rest)) ≡ gap (length (35 ∷ line))
  unfolding comment_front
  comment_reads line rest h e = front_comment from inside at (line ++ rest) ∙ ap gap (row_is is_no_line_break (35 ∷ line) rest (hash_and line h) (comment_stops rest e))

  -- ---- words

  pub word_reads : (word rest : List ℕ) → IsLongest (IsWord inside) word rest → next_token from inside at (word ++ rest) ≡ token (kinds.Word word) (length word)
  unfolding word_front
  word_reads [] rest longest = absurd longest.0
  word_reads (b ∷ word) rest longest =
      let begins : begins_word inside b ≡ true = longest.0.0 in
      let n : prefix_len (is_in_word inside) ((b ∷ word) ++ rest) ≡ length (b ∷ word) = sym (longest_length (IsWord inside) (b ∷ (word ++ rest)) (prefix_len (is_in_word inside) (b ∷ (word ++ rest))) (word_greatest inside b (word ++ rest) begins) (b ∷ word) rest refl longest) in
      front_word from inside at (word ++ rest) b begins ∙ rw (n, take_at (b ∷ word) rest (length (b ∷ word)) refl) refl

  -- ---- signs

  pub sign_at_is : (s : Sign) (text rest : List ℕ) → IsSign inside s text → IsLongest (IsSomeSign inside) text rest → sign_at (text ++ rest) ≡ Some (s, length text)
  sign_at_is s text rest is longest = by (sign_at (text ++ rest)) refl
    where
      len : 0 < length text
      len = let a = some_sign s in let l = ap length is.0 in omega arith

      some : (t : Sign) (n : ℕ) → SignAt (text ++ rest) t n → ◌≡◌ {A = Sign × ℕ} (t, n) (s, length text)
      some t n a = split (cases_lt (length text) n)
        where
          longer : length text < n → ⊥
          longer lt =
              let k = n - length text in
              let w = a.within in
              let l = length-append text rest in
              let le : k ≤ length rest = omega arith in
              let kl = length-take-le k rest le in
              let front : take n (text ++ rest) ≡ text ++ take k rest = take_on text rest k n (omega arith) in
              let spelled : text ++ take k rest ≡ spelling t = sym front ∙ a.is in
              longest.1 (take k rest) (drop k rest) (sym (take-append-drop k rest)) (omega arith) (t, (spelled, λ e. absurd (not_colon t n e a lt)))
            where
              not_colon : (t : Sign) (n : ℕ) → t ≡ Colon → SignAt (text ++ rest) t n → length text < n → ⊥
              not_colon t n e a lt =
                  let z = len in
                  let one : length (spelling t) ≡ 1 = ap (λ (x : Sign). length (spelling x)) e in
                  let l = ap length a.is in
                  let m = length-take-le n (text ++ rest) a.within in
                  omega arith

          split : (length text < n) ⊎ (n ≤ length text) → ◌≡◌ {A = Sign × ℕ} (t, n) (s, length text)
          split (inl lt) = absurd (longer lt)
          split (inr le) =
              let b = a.bound text rest s refl is.0 in
              let n_is : n ≡ length text = omega arith in
              let same : spelling t ≡ spelling s = sym a.is ∙ take_at text rest n (sym n_is) ∙ is.0 in
              ap (λ (x : Sign). (x, n)) (same_sign t s same) ∙ ap (λ (x : ℕ). (s, x)) n_is

      by : (o : Option (Sign × ℕ)) → sign_at (text ++ rest) ≡ o → sign_at (text ++ rest) ≡ Some (s, length text)
      by None e = absurd (no_sign_there (text ++ rest) rest s e (ap (λ (x : List ℕ). x ++ rest) is.0))
      by (Some r) e = e ∙ ap (λ (x : Sign × ℕ). Some x) (some r.0 r.1 (sign_is_at (text ++ rest) r.0 r.1 e))

  pub sign_reads : (s : Sign) (text rest : List ℕ) → IsSign inside s text → IsLongest (IsSomeSign inside) text rest → next_token from inside at (text ++ rest) ≡ token (kinds.Sign s) (length text)
  unfolding sign_front
  sign_reads s text rest is longest =
      let o = other inside s is.1 in
      let source : text ++ rest ≡ o.b ∷ (o.more ++ rest) = ap (λ (x : List ℕ). x ++ rest) (is.0 ∙ o.source) in
      let dispatch : next_token from inside at (o.b ∷ (o.more ++ rest)) ≡ sign_front from at (o.b ∷ (o.more ++ rest)) = front_sign from inside at (o.more ++ rest) o.b o.blank o.hash o.word (begins_no_run o.b (o.more ++ rest) o.digit o.dot) o.quote o.back in
      let here : next_token from inside at (text ++ rest) ≡ sign_front from at (text ++ rest) = subst (λ (x : List ℕ). next_token from inside at x ≡ sign_front from at x) (sym source) dispatch in
      here ∙ rw (sign_at_is s text rest is longest) refl

  -- ---- strings in back quotes

  pub raw_reads : (value rest : List ℕ) → Each is_no_back_quote value → next_token from inside at (96 ∷ (value ++ 96 ∷ rest)) ≡ token (kinds.Str value) (length value + 2)
  unfolding raw_front
  raw_reads value rest h =
      let n : prefix_len is_no_back_quote (value ++ 96 ∷ rest) ≡ length value = row_is is_no_back_quote value (96 ∷ rest) h refl in
      let l = length-append value (96 ∷ rest) in
      let lt : ltb (length value) (length (value ++ 96 ∷ rest)) ≡ true = lt-ltb (length value) (length (value ++ 96 ∷ rest)) (omega arith) in
      front_raw from inside at (value ++ 96 ∷ rest) ∙ rw (n, lt, take_at value (96 ∷ rest) (length value) refl) refl

  pub open_raw_reads : (rest : List ℕ) → Each is_no_back_quote rest → next_token from inside at (96 ∷ rest) ≡ breach {X = Front} from OpenString at (at + 1)
  unfolding raw_front
  open_raw_reads rest h =
      let n : prefix_len is_no_back_quote rest ≡ length rest = all_row rest h in
      let ge : ltb (length rest) (length rest) ≡ false = le-ltb (length rest) (length rest) (omega arith) in
      front_raw from inside at rest ∙ rw (n, ge) refl
    where
      all_row : (rest : List ℕ) → Each is_no_back_quote rest → prefix_len is_no_back_quote rest ≡ length rest
      all_row [] h = refl
      all_row (b ∷ rest) h = let a = and_parts (is_no_back_quote b) (list_all is_no_back_quote rest) h in let k = all_row rest a.1 in rw a.0 (omega arith)

  -- ---- characters that begin nothing

  unknown_cons : (b : ℕ) (src : List ℕ) (len : ℕ) → BeginsNothing inside (b ∷ src) len → next_token from inside at (b ∷ src) ≡ breach {X = Front} from BadByte at (at + len)
  unfolding sign_front
  unknown_cons b src len u =
      let blank : is_blank b ≡ false = false_from_ne_true (is_blank b) (λ h. u.nothing (b ∷ []) src refl (a_blank b refl h)) in
      let hash : eqb b 35 ≡ false = ne_eqb b 35 (λ e. u.nothing (b ∷ []) src refl (a_comment (ap (λ (x : ℕ). x ∷ []) e))) in
      let word : begins_word inside b ≡ false = false_from_ne_true (begins_word inside b) (λ h. u.nothing (b ∷ []) src refl (a_word (h, refl))) in
      let run : begins_run (b ∷ src) ≡ false = false_from_ne_true (begins_run (b ∷ src)) (λ h. let g = run_greatest (b ∷ src) h in u.nothing _ _ (sym (take-append-drop _ (b ∷ src))) (a_run g.is)) in
      let double : eqb b 34 ≡ false = ne_eqb b 34 (λ e. u.nothing (b ∷ []) src refl (a_quote b refl (inl e))) in
      let single : eqb b 39 ≡ false = ne_eqb b 39 (λ e. u.nothing (b ∷ []) src refl (a_quote b refl (inr e))) in
      let back : eqb b 96 ≡ false = ne_eqb b 96 (λ e. u.nothing (b ∷ []) src refl (a_back_quote (ap (λ (x : ℕ). x ∷ []) e))) in
      let n : len ≡ 1 + prefix_len is_continuation src = u.len_is ∙ longest_length IsCharacter (b ∷ src) (1 + prefix_len is_continuation src) (character_greatest b src) u.character u.rest u.source u.whole in
      let end : at + len ≡ at + 1 + prefix_len is_continuation src = omega arith in
      front_sign from inside at src b blank hash word run (or_from (eqb b 34) (eqb b 39) double single) back ∙ rw (unread (sign_at (b ∷ src)) refl, end) refl
    where
      unread : (o : Option (Sign × ℕ)) → sign_at (b ∷ src) ≡ o → sign_at (b ∷ src) ≡ None
      unread None e = e
      unread (Some r) e = let a = sign_is_at (b ∷ src) r.0 r.1 e in absurd (u.nothing (take r.1 (b ∷ src)) (drop r.1 (b ∷ src)) (sym (take-append-drop r.1 (b ∷ src))) (a_sign r.0 a.is))

  pub unknown_reads : (src : List ℕ) (len : ℕ) → BeginsNothing inside src len → next_token from inside at src ≡ breach {X = Front} from BadByte at (at + len)
  unknown_reads [] len u = absurd (nil u.character u.whole.0 u.source)
    where
      nil : (character : List ℕ) → IsCharacter character → [] ≡ character ++ u.rest → ⊥
      nil [] h e = h
      nil (b ∷ more) h e = let l = ap length e in omega arith
  unknown_reads (b ∷ src) len u = unknown_cons b src len u

-- ---- something stands there

module _ (inside : Bool) where
  pub blank_stands : (b : ℕ) (src : List ℕ) → is_blank b ≡ true → Standing inside (b ∷ src)
  blank_stands b src h = stands (Blank b) src refl h

  pub comment_stands : (src : List ℕ) → Standing inside (35 ∷ src)
  comment_stands src =
      let n = prefix_len is_no_line_break src in
      stands (Comment (take n src)) (drop n src) (ap (λ (x : List ℕ). 35 ∷ x) (sym (take-append-drop n src))) (row_all is_no_line_break src, comment_ends (drop n src) (row_then is_no_line_break src))

  pub word_stands : (b : ℕ) (src : List ℕ) → begins_word inside b ≡ true → Standing inside (b ∷ src)
  word_stands b src h =
      let n = prefix_len (is_in_word inside) (b ∷ src) in
      stands (Written (kinds.Word (take n (b ∷ src))) (take n (b ∷ src))) (drop n (b ∷ src)) (sym (take-append-drop n (b ∷ src))) (refl, greatest_longest (IsWord inside) (b ∷ src) n (word_greatest inside b src h))

  pub raw_stands : (src : List ℕ) → Standing inside (96 ∷ src)
  raw_stands src = by (drop (prefix_len is_no_back_quote src) src) refl (row_then is_no_back_quote src)
    where
      value : List ℕ
      value = take (prefix_len is_no_back_quote src) src

      by : (rest : List ℕ) → drop (prefix_len is_no_back_quote src) src ≡ rest → Stops is_no_back_quote (drop (prefix_len is_no_back_quote src) src) → Standing inside (96 ∷ src)
      by [] e h =
          let all : src ≡ value = sym (take-append-drop (prefix_len is_no_back_quote src) src) ∙ ap (λ (x : List ℕ). value ++ x) e ∙ append-nil value in
          fails OpenString 0 1 (refl, refl, open_back_quotes src refl (subst (λ (x : List ℕ). Each is_no_back_quote x) (sym all) (row_all is_no_back_quote src)))
      by (b ∷ rest) e h =
          let s : is_no_back_quote b ≡ false = rw e at h in
          let q : b ≡ 96 = eqb-true b 96 (not-false (eqb b 96) s) in
          let whole : 96 ∷ src ≡ (96 ∷ (value ++ 96 ∷ [])) ++ rest = ap (λ (x : List ℕ). 96 ∷ x) (sym (take-append-drop (prefix_len is_no_back_quote src) src) ∙ ap (λ (x : List ℕ). value ++ x) (e ∙ ap (λ (x : ℕ). x ∷ rest) q) ∙ sym (append_assoc value (96 ∷ []) rest)) in
          stands (Written (kinds.Str value) (96 ∷ (value ++ 96 ∷ []))) rest whole (in_back_quotes refl (row_all is_no_back_quote src))

  module _ (b : ℕ) (src : List ℕ) (blank : is_blank b ≡ false) (hash : b ≢ 35) (word : begins_word inside b ≡ false) (run : begins_run (b ∷ src) ≡ false) (double : b ≢ 34) (single : b ≢ 39) (back : b ≢ 96) where
    colon_inside : (t : Bool) → inside ≡ t → b ≡ 58 → t ≡ true
    unfolding begins_word begins_label is_letter
    colon_inside true e h = refl
    colon_inside false e h = let k = rw (e, h) at word in absurd (false≢true (sym k))

    head_is : (text rest : List ℕ) (c : ℕ) (more : List ℕ) → b ∷ src ≡ text ++ rest → text ≡ c ∷ more → b ≡ c
    head_is text rest c more e f = ap first (e ∙ ap (λ (x : List ℕ). x ++ rest) f)
      where
        first : List ℕ → ℕ
        first [] = c
        first (x ∷ xs) = x

    no_quote_mark : (q : ℕ) → IsQuote q → b ≡ q → ⊥
    no_quote_mark q (inl g) k = double (k ∙ g)
    no_quote_mark q (inr g) k = single (k ∙ g)

    pub nothing_begins : sign_at (b ∷ src) ≡ None → (text rest : List ℕ) → b ∷ src ≡ text ++ rest → IsBeginning inside text → ⊥
    nothing_begins none text rest e (a_blank c f h) = let k = head_is text rest c [] e f in let l : is_blank b ≡ true = ap is_blank k ∙ h in false≢true (sym blank ∙ l)
    nothing_begins none text rest e (a_comment f) = hash (head_is text rest 35 [] e f)
    nothing_begins none text rest e (a_word h) = no_word inside b src text rest word e h
    nothing_begins none text rest e (a_run h) = no_run (b ∷ src) text rest run e h
    nothing_begins none text rest e (a_quote q f h) = no_quote_mark q h (head_is text rest q [] e f)
    nothing_begins none text rest e (a_back_quote f) = back (head_is text rest 96 [] e f)
    nothing_begins none text rest e (a_sign t f) = no_sign_there (b ∷ src) rest t none (e ∙ ap (λ (x : List ℕ). x ++ rest) f)

    pub begins_nothing : sign_at (b ∷ src) ≡ None → BeginsNothing inside (b ∷ src) (length (take (1 + prefix_len is_continuation src) (b ∷ src)))
    begins_nothing none =
        let n = 1 + prefix_len is_continuation src in
        record {
          nothing = nothing_begins none;
          character = take n (b ∷ src);
          rest = drop n (b ∷ src);
          source = sym (take-append-drop n (b ∷ src));
          whole = greatest_longest IsCharacter (b ∷ src) n (character_greatest b src);
          len_is = refl;
        }

    pub sign_stands : Standing inside (b ∷ src)
    sign_stands = by (sign_at (b ∷ src)) refl
      where
        src_is : (n : ℕ) → b ∷ src ≡ take n (b ∷ src) ++ drop n (b ∷ src)
        src_is n = sym (take-append-drop n (b ∷ src))

        head : (n : ℕ) (xs : List ℕ) → 0 < n → take n (b ∷ src) ≡ 58 ∷ xs → b ≡ 58
        head zero xs lt e = absurd (omega arith)
        head (suc n) xs lt e = ap first e
          where
            first : List ℕ → ℕ
            first [] = 0
            first (x ∷ xs) = x

        token_stands : (s : Sign) (n : ℕ) → SignAt (b ∷ src) s n → Standing inside (b ∷ src)
        token_stands s n a =
            let colon : s ≡ Colon → inside ≡ true = λ e. colon_inside inside refl (head n [] a.some (a.is ∙ ap spelling e)) in
            let g : Greatest (IsSomeSign inside) (b ∷ src) n = record { within = a.within; is = (s, (a.is, colon)); bound = λ text left f h. a.bound text left h.0 f h.1.0 } in
            stands (Written (kinds.Sign s) (take n (b ∷ src))) (drop n (b ∷ src)) (src_is n) ((a.is, colon), greatest_longest (IsSomeSign inside) (b ∷ src) n g)

        by : (o : Option (Sign × ℕ)) → sign_at (b ∷ src) ≡ o → Standing inside (b ∷ src)
        by (Some r) e = token_stands r.0 r.1 (sign_is_at (b ∷ src) r.0 r.1 e)
        by None e = fails BadByte 0 _ (refl, begins_nothing e)
