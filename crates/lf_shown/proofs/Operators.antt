-- What is built for an operator between two vectors.
use Rattle.std.proofs.Common.{◌≡◌, ◌≤◌, ◌⊎◌, inl, inr, ℕ, ◌+◌, Bool, true, false, not, ◌&&◌, ◌||◌, cond, eqb, List, [], ◌∷◌, Option, Some, None, is_some, refl, sym, ◌∙◌, ap, subst, arith}
use Rattle.std.specs.List.{Contains}
use Rattle.std.specs.Option.{option_or}
use Rattle.std.proofs.lemmas.Bool.{and_from}
use Rattle.std.proofs.lemmas.Option.{none-some, same_Some}
use Rattle.lf_laws.proofs.Booleans.{and_left, and_right, clash}
use Rattle.lf_laws.proofs.Members.{any_in, any_out, here, none_in, only_one}
use Rattle.lf_ast.specs.Labels.{Bytes, Labels}
use Rattle.lf_ast.specs.Rules.{RuleTree}
use Rattle.lf_ast.specs.Selectors.{metric}
use Rattle.lf_ast.specs.Types.{is_among, names_at}
use Rattle.lf_ast.specs.declared.expr.Group.{Group}
use Rattle.lf_ast.specs.declared.expr.Group.TheVariants.{One, Left, Right}
use Rattle.lf_ast.specs.declared.expr.Matching.{Matching}
use Rattle.lf_ast.specs.declared.expr.Name.{Name}
use Rattle.lf_ast.specs.declared.expr.Op.{Op}
use Rattle.lf_ast.specs.declared.expr.Op.TheVariants.{Add, Subtract, Multiply, Divide, Modulo, Power, Atan2, Equal, NotEqual, LessOrEqual, Less, GreaterOrEqual, Greater, And, Or, Unless}
use Rattle.lf_semantics.specs.ClassRows.{HasShape, HoldsText, Represents, Sets, bottom, holds, is_live, join, narrowed, only_empty, replaced}
use Rattle.lf_semantics.specs.Grouped.{SameSignature, is_arithmetic, is_metric, keeps, many_to_one, out, paired, signs, taken_from, without_name_if}
use Rattle.lf_semantics.specs.Listing.{IsListing, Listing, class_of, label_of}
use Rattle.lf_semantics.specs.RowTable.{combined_row, is_label_among, is_metric_label, keeps_label, many_to_one_row, matched_row, nameless_if, paired_row, signs_label, taken_row}
use Rattle.lf_semantics.specs.Texts.{HasTexts, value_of}
use Rattle.lf_semantics.proofs.Constructs.{shape_combined}
use Rattle.lf_semantics.proofs.Kept.{restricted_has_texts}
use Rattle.lf_semantics.proofs.LabelTexts.{value-taken_from, value-without_name_if}
use Rattle.lf_semantics.proofs.LeqLaws.{bottom_dead}
use Rattle.lf_semantics.proofs.Numbered.{AreKnown, among_label, keep_label, metric_label, sign_label}
use Rattle.lf_semantics.proofs.PairsRepresent.{represents_matched, represents_paired, shape_matched}
use Rattle.lf_semantics.proofs.Restricted.{value-restricted}
use Rattle.lf_semantics.proofs.RowLaws.{represents_join_left, represents_join_right}
use Rattle.lf_semantics.proofs.GivenTexts.{taken_has_texts, without_if_has_texts}
use Rattle.lf_witness.specs.Strict.{From, IsAmbiguous, IsSet, HasTwoAlike, Outcomes, StrictCombines, StrictPairs}
use Rattle.lf_trials.specs.Building.{Builder, Building, and_then, both}
use Rattle.lf_trials.specs.Candidates.{candidates_in_both, first, in_row, is_one_of, labels_in}
use Rattle.lf_trials.specs.Given.{Given, holds_texts}
use Rattle.lf_trials.specs.Matched.{build_match, build_operator, has_signature, side, signature_text}
use Rattle.lf_trials.specs.Sides.{drops, left_gives, left_of_match, many_side_gives, one_side_gives, right_gives, right_of_match}
use Rattle.lf_shown.specs.Agreement.{Gives, MetricNames}
use Rattle.lf_shown.proofs.Rows.{Held, join_held, join_was_live, narrowed_held, narrowed_passes, narrowed_was_live, replaced_held, replaced_passes, replaced_was_live}
use Rattle.lf_shown.proofs.Choices.{AtMostOne, Gave, HoldsGiven, In, IsSmall, all_true, class_at, holds_by_test, test_by_holds}
use Rattle.lf_shown.proofs.Texts.{first_member, of_candidates, some_candidate}
use Rattle.lf_shown.proofs.Worlds.{agree_less, gives_both}
use Rattle.lf_shown.proofs.Made.{Answers, IsMade, IsRaw, Lacks, empty_text}

-- ---- a side alone, where the other one is silent

module _ (rules : List RuleTree) (Mine Other Read : MetricNames) (into : (n : Bytes) → Mine n → Read n) (into_other : (n : Bytes) → Other n → Read n) (apart : (n : Bytes) → Mine n → Other n → ⊥) where
  pub gives_beside : (count most : ℕ) (b : Building) (f g : List Labels → Outcomes) (one : Labels) → count ≤ most → ((X : List Labels) → f X (Some (one ∷ [])) → Lacks Other X → g X (Some (one ∷ [])))
      → Gives rules Mine count b f one → Gives rules Read most b g one
  gives_beside count most b f g one less pair of = record {
    series_read = λ s c. into (value_of s metric) (of.series_read s c);
    steps_read = λ k c. let r = of.steps_read k c in (r.0, r.1, r.2, into r.0.name r.3);
    steps_once = of.steps_once;
    few = let h = of.few in omega (arith, h, less);
    runs = λ W agree.
        let run = of.runs W (agree_less Read Mine W b.series into agree) in (
          run.0,
          run.1,
          record { kept = run.2.kept; further = λ s c. elim (run.2.further s c) [ inl d ↦ inl d | inr d ↦ inr (into (value_of s metric) d) ] },
          λ X agrees. pair X (run.3 X (agree_less Read Mine X run.0 into agrees))
              (λ s c other.
              elim (run.2.further s ((agrees s (into_other (value_of s metric) other)).0 c)) [
                | inl d ↦ apart (value_of s metric) (of.series_read s ((agree s (into_other (value_of s metric) other)).0 d)) other
                | inr mine ↦ apart (value_of s metric) mine other
              ]),
        );
  }

-- ---- values

-- the many side's text, or the one side's
many_value : (d a x : Bool) (tm to : Bytes) → cond d [] (cond x to (cond a [] tm)) ≡ cond (not x && not (d || a)) tm (cond (x && not d) to [])
many_value true a true tm to = refl
many_value true a false tm to = refl
many_value false a true tm to = refl
many_value false true false tm to = refl
many_value false false false tm to = refl

one_value : (d a x : Bool) (tm to : Bytes) → cond d [] (cond x to (cond a [] tm)) ≡ cond (x && not d) to (cond (not x && not (d || a)) tm [])
one_value true a true tm to = refl
one_value true a false tm to = refl
one_value false a true tm to = refl
one_value false true false tm to = refl
one_value false false false tm to = refl

many_is : (op : Op) (m : Matching) (s t : Labels) (n : Bytes) → value_of (many_to_one op m s t) n ≡ cond (m.bool_mod && is_metric n) [] (cond (is_among m.include n) (value_of t n) (cond (is_arithmetic op && is_metric n) [] (value_of s n)))
many_is op m s t n =
    value-without_name_if m.bool_mod (taken_from t m.include (without_name_if (is_arithmetic op) s)) n
    ∙ ap (λ v. cond (m.bool_mod && is_metric n) [] v) (value-taken_from t m.include (without_name_if (is_arithmetic op) s) n ∙ ap (λ v. cond (is_among m.include n) (value_of t n) v) (value-without_name_if (is_arithmetic op) s n))

many_texts : (op : Op) (m : Matching) (many one : Labels) → HasTexts many → HasTexts (many_to_one op m many one)
many_texts op m many one full = without_if_has_texts m.bool_mod (taken_from one m.include (without_name_if (is_arithmetic op) many)) (taken_has_texts one m.include (without_name_if (is_arithmetic op) many) (without_if_has_texts (is_arithmetic op) many full))

module _ (u : Listing) (p : IsListing u) where
  -- ---- rows without the name

  nameless_live : (drops : Bool) (row : Sets) → is_live (nameless_if u drops row) ≡ true → is_live row ≡ true
  nameless_live true row live = replaced_was_live (is_metric_label u) (λ l c. eqb c 0) row live
  nameless_live false row live = live

  nameless_held : (drops : Bool) (row : Sets) → is_live (nameless_if u drops row) ≡ true → (n : Bytes) (c : ℕ) → Held (nameless_if u drops row) (label_of u n) c → (drops && is_metric n) ≡ false → Held row (label_of u n) c
  nameless_held true row live n c held is = replaced_held (is_metric_label u) (λ l c. eqb c 0) row live (label_of u n) c held (metric_label u p n ∙ is)
  nameless_held false row live n c held is = held

  nameless_empty : (drops : Bool) (row : Sets) → is_live (nameless_if u drops row) ≡ true → (n : Bytes) (c : ℕ) → Held (nameless_if u drops row) (label_of u n) c → (drops && is_metric n) ≡ true → eqb c 0 ≡ true
  nameless_empty true row live n c held is = replaced_passes (is_metric_label u) (λ l c. eqb c 0) row live (label_of u n) c held (metric_label u p n ∙ is)
  nameless_empty false row live n c held is = absurd (cc)

  taken_live : (one row : Sets) (names : List Name) → is_live (taken_row u one names row) ≡ true → is_live one ≡ true
  taken_live one row names live = by (is_live one) refl live
    where
      by : (b : Bool) → is_live one ≡ b → is_live (cond b (replaced (is_label_among u names) (holds one) row) (bottom u)) ≡ true → is_live one ≡ true
      by true is live = is
      by false is live = absurd (clash _ live (bottom_dead u p))

  taken_is : (one row : Sets) (names : List Name) → is_live (taken_row u one names row) ≡ true → taken_row u one names row ≡ replaced (is_label_among u names) (holds one) row
  taken_is one row names live = ap (λ b. cond b (replaced (is_label_among u names) (holds one) row) (bottom u)) (taken_live one row names live)

  -- ---- a many and a one side

  module _ (op : Op) (m : Matching) (include : AreKnown u m.include) (many one : Sets) (live : is_live (many_to_one_row u op m many one) ≡ true) where
    abbrev first_row : Sets
    first_row = nameless_if u (is_arithmetic op) many

    abbrev taken : Sets
    taken = taken_row u one m.include first_row

    live_taken : is_live taken ≡ true
    live_taken = nameless_live m.bool_mod taken live

    pub one_live : is_live one ≡ true
    one_live = taken_live one first_row m.include live_taken

    live_replaced : is_live (replaced (is_label_among u m.include) (holds one) first_row) ≡ true
    live_replaced = ap is_live (sym (taken_is one first_row m.include live_taken)) ∙ live_taken

    pub many_live : is_live many ≡ true
    many_live = nameless_live (is_arithmetic op) many (replaced_was_live (is_label_among u m.include) (holds one) first_row live_replaced)

    module _ (n : Bytes) (c : ℕ) (held : Held (many_to_one_row u op m many one) (label_of u n) c) where
      in_taken : (m.bool_mod && is_metric n) ≡ false → Held (replaced (is_label_among u m.include) (holds one) first_row) (label_of u n) c
      in_taken is = subst (λ x. Held x (label_of u n) c) (taken_is one first_row m.include live_taken) (nameless_held m.bool_mod taken live n c held is)

      from_one : (m.bool_mod && is_metric n) ≡ false → is_among m.include n ≡ true → Held one (label_of u n) c
      from_one is among = replaced_passes (is_label_among u m.include) (holds one) first_row live_replaced (label_of u n) c (in_taken is) (among_label u m.include include n ∙ among)

      from_first : (m.bool_mod && is_metric n) ≡ false → is_among m.include n ≡ false → Held first_row (label_of u n) c
      from_first is among = replaced_held (is_label_among u m.include) (holds one) first_row live_replaced (label_of u n) c (in_taken is) (among_label u m.include include n ∙ among)

      live_first : is_live first_row ≡ true
      live_first = replaced_was_live (is_label_among u m.include) (holds one) first_row live_replaced

      pub one_held : one_side_gives m n ≡ true → Held one (label_of u n) c
      one_held e = by (is_among m.include n) refl (m.bool_mod && is_metric n) refl e
        where
          by : (x : Bool) → is_among m.include n ≡ x → (d : Bool) → (m.bool_mod && is_metric n) ≡ d → (x && not d) ≡ true → Held one (label_of u n) c
          by true isx false isd e = from_one isd isx
          by true isx true isd e = absurd (cc)
          by false isx d isd e = absurd (cc)

      pub many_held : many_side_gives op m n ≡ true → Held many (label_of u n) c
      many_held e = by (is_among m.include n) refl (m.bool_mod && is_metric n) refl (is_arithmetic op && is_metric n) refl e
        where
          by : (x : Bool) → is_among m.include n ≡ x → (d : Bool) → (m.bool_mod && is_metric n) ≡ d → (a : Bool) → (is_arithmetic op && is_metric n) ≡ a → (not x && not (d || a)) ≡ true → Held many (label_of u n) c
          by true isx d isd a isa e = absurd (cc)
          by false isx true isd a isa e = absurd (cc)
          by false isx false isd true isa e = absurd (cc)
          by false isx false isd false isa e = nameless_held (is_arithmetic op) many live_first n c (from_first isd isx) isa

      pub none_held : one_side_gives m n ≡ false → many_side_gives op m n ≡ false → eqb c 0 ≡ true
      none_held e f = by (is_among m.include n) refl (m.bool_mod && is_metric n) refl (is_arithmetic op && is_metric n) refl e f
        where
          by : (x : Bool) → is_among m.include n ≡ x → (d : Bool) → (m.bool_mod && is_metric n) ≡ d → (a : Bool) → (is_arithmetic op && is_metric n) ≡ a → (x && not d) ≡ false → (not x && not (d || a)) ≡ false → eqb c 0 ≡ true
          by x isx true isd a isa e f = nameless_empty m.bool_mod taken live n c held isd
          by true isx false isd a isa e f = absurd (cc)
          by false isx false isd true isa e f = nameless_empty (is_arithmetic op) many live_first n c (from_first isd isx) isa
          by false isx false isd false isa e f = absurd (cc)

  -- ---- matched sides

  module _ (m : Matching) (on : AreKnown u (names_at m.on)) (ignoring : AreKnown u (names_at m.ignoring)) where
    module _ (row other : Sets) (live : is_live (matched_row u m row other) ≡ true) where
      abbrev test : ℕ → ℕ → Bool
      test label class = not (signs_label u m label) || holds other label class

      pub partner_live : is_live other ≡ true
      partner_live = by (is_live other) refl live
        where
          by : (b : Bool) → is_live other ≡ b → is_live (cond b (narrowed (λ label class. not (signs_label u m label) || holds other label class) row) (bottom u)) ≡ true → is_live other ≡ true
          by true is live = is
          by false is live = absurd (clash _ live (bottom_dead u p))

      matched_is : matched_row u m row other ≡ narrowed test row
      matched_is = ap (λ b. cond b (narrowed test row) (bottom u)) partner_live

      live_narrowed : is_live (narrowed test row) ≡ true
      live_narrowed = ap is_live (sym matched_is) ∙ live

      pub matched_live : is_live row ≡ true
      matched_live = narrowed_was_live test row live_narrowed

      pub matched_held : (l c : ℕ) → Held (matched_row u m row other) l c → Held row l c
      matched_held l c held = narrowed_held test row live_narrowed l c (subst (λ x. Held x l c) matched_is held)

      pub partner_held : (n : Bytes) (c : ℕ) → Held (matched_row u m row other) (label_of u n) c → signs m n ≡ true → Held other (label_of u n) c
      partner_held n c held is =
          by (signs_label u m (label_of u n)) (sign_label u p m on ignoring n ∙ is) (narrowed_passes test row live_narrowed (label_of u n) c (subst (λ x. Held x (label_of u n) c) matched_is held))
        where
          by : (b : Bool) → b ≡ true → (not b || holds other (label_of u n) c) ≡ true → Held other (label_of u n) c
          by true e h = h
          by false e h = absurd (cc)

    -- ---- what is needed of a match: by which side a label is given, and that its results lie in its row

    pub record IsMatch (left right : Sets) (lefts rights : Bytes → Bool) (row : Sets) (third : Labels → Labels → Labels) : Type 0 where
      pub left_live : is_live row ≡ true → is_live left ≡ true
      pub right_live : is_live row ≡ true → is_live right ≡ true
      pub meets : is_live row ≡ true → (is_live (matched_row u m left right) ≡ true) ⊎ (is_live (matched_row u m right left) ≡ true)
      pub left_held : is_live row ≡ true → (n : Bytes) (c : ℕ) → Held row (label_of u n) c → lefts n ≡ true → Held left (label_of u n) c × (signs m n ≡ true → Held right (label_of u n) c)
      pub right_held : is_live row ≡ true → (n : Bytes) (c : ℕ) → Held row (label_of u n) c → rights n ≡ true → Held right (label_of u n) c × (signs m n ≡ true → Held left (label_of u n) c)
      pub no_held : is_live row ≡ true → (n : Bytes) (c : ℕ) → Held row (label_of u n) c → lefts n ≡ false → rights n ≡ false → eqb c 0 ≡ true
      pub values : (s t : Labels) (n : Bytes) → value_of (third s t) n ≡ cond (lefts n) (value_of s n) (cond (rights n) (value_of t n) [])
      pub fulls : (s t : Labels) → HasTexts s → HasTexts t → HasTexts (third s t)
      pub lies : (s t : Labels) → SameSignature m s t → Represents u left s → Represents u right t → Represents u row (third s t)

    module _ (left right : Sets) (shape_left : HasShape u left) (shape_right : HasShape u right) where
      abbrev ml : Sets
      ml = matched_row u m left right

      abbrev mr : Sets
      mr = matched_row u m right left

      pub and_match : IsMatch left right (λ n. true) (λ n. false) ml (λ s t. s)
      and_match = record {
        left_live = λ live. matched_live left right live;
        right_live = λ live. partner_live left right live;
        meets = λ live. inl live;
        left_held = λ live n c held e. (matched_held left right live (label_of u n) c held, λ is. partner_held left right live n c held is);
        right_held = λ live n c held e. absurd (clash _ e refl);
        no_held = λ live n c held e f. absurd (clash _ refl e);
        values = λ s t n. refl;
        fulls = λ s t full other. full;
        lies = λ s t same a b. represents_matched u p m on ignoring left right s t shape_left same a b;
      }

      module _ (op : Op) (include : AreKnown u m.include) where
        turned : (s t : Labels) → SameSignature m s t → SameSignature m t s
        turned s t same label e = sym (same label e)

        lies_paired : (g : Group) (s t : Labels) → SameSignature m s t → Represents u left s → Represents u right t → Represents u (paired_row u g op m ml mr) (paired g op m s t)
        lies_paired g s t same a b =
            represents_paired u p m on ignoring include op g ml mr s t (shape_matched u p m left right shape_left) (shape_matched u p m right left shape_right)
            (represents_matched u p m on ignoring left right s t shape_left same a b) (represents_matched u p m on ignoring right left t s shape_right (turned s t same) b a)

        pub pair_match : (g : Group) → IsMatch left right (left_of_match g op m) (right_of_match g op m) (paired_row u g op m ml mr) (paired g op m)
        pair_match One =
            let chosen : ℕ → Bool = λ label. not (keeps_label u op m label) in
            let was : is_live (only_empty chosen ml) ≡ true → is_live ml ≡ true = λ live. replaced_was_live chosen (λ l c. eqb c 0) ml live in
            record {
              left_live = λ live. matched_live left right (was live);
              right_live = λ live. partner_live left right (was live);
              meets = λ live. inl (was live);
              left_held = λ live n c held e.
                  let h = replaced_held chosen (λ l c. eqb c 0) ml live (label_of u n) c held (ap not (keep_label u p op m on ignoring n ∙ e)) in (
                    matched_held left right (was live) (label_of u n) c h,
                    λ is. partner_held left right (was live) n c h is,
                  );
              right_held = λ live n c held e. absurd (clash _ e refl);
              no_held = λ live n c held e f. replaced_passes chosen (λ l c. eqb c 0) ml live (label_of u n) c held (ap not (keep_label u p op m on ignoring n ∙ e));
              values = λ s t n. value-restricted (keeps op m) s n;
              fulls = λ s t full other. restricted_has_texts (keeps op m) s full;
              lies = lies_paired One;
            }
        pair_match Left = record {
          left_live = λ live. matched_live left right (many_live op m include ml mr live);
          right_live = λ live. matched_live right left (one_live op m include ml mr live);
          meets = λ live. inl (many_live op m include ml mr live);
          left_held = λ live n c held e.
              let h = many_held op m include ml mr live n c held e in
              let l = many_live op m include ml mr live in
              (matched_held left right l (label_of u n) c h, λ is. partner_held left right l n c h is);
          right_held = λ live n c held e.
              let h = one_held op m include ml mr live n c held e in
              let l = one_live op m include ml mr live in
              (matched_held right left l (label_of u n) c h, λ is. partner_held right left l n c h is);
          no_held = λ live n c held e f. none_held op m include ml mr live n c held f e;
          values = λ s t n. many_is op m s t n ∙ many_value (m.bool_mod && is_metric n) (is_arithmetic op && is_metric n) (is_among m.include n) (value_of s n) (value_of t n);
          fulls = λ s t full other. many_texts op m s t full;
          lies = lies_paired Left;
        }
        pair_match Right = record {
          left_live = λ live. matched_live left right (one_live op m include mr ml live);
          right_live = λ live. matched_live right left (many_live op m include mr ml live);
          meets = λ live. inl (one_live op m include mr ml live);
          left_held = λ live n c held e.
              let h = one_held op m include mr ml live n c held e in
              let l = one_live op m include mr ml live in
              (matched_held left right l (label_of u n) c h, λ is. partner_held left right l n c h is);
          right_held = λ live n c held e.
              let h = many_held op m include mr ml live n c held e in
              let l = many_live op m include mr ml live in
              (matched_held right left l (label_of u n) c h, λ is. partner_held right left l n c h is);
          no_held = λ live n c held e f. none_held op m include mr ml live n c held e f;
          values = λ s t n. many_is op m t s n ∙ one_value (m.bool_mod && is_metric n) (is_arithmetic op && is_metric n) (is_among m.include n) (value_of t n) (value_of s n);
          fulls = λ s t full other. many_texts op m t s other;
          lies = lies_paired Right;
        }

  -- ---- strict matches of two samples

  module _ (m : Matching) (s t : Labels) (same : SameSignature m s t) where
    pub one_matched : (op : Op) → IsSet (Rattle.lf_semantics.specs.Evaluation.AreMatched m (s ∷ []) (t ∷ [])) (Some (s ∷ []))
    one_matched op = (
      λ x c partner. c,
      λ x c. (c, (t, here t [], subst (λ z. SameSignature m z t) (only_one s x c) same)),
    )

    never_alike : (z : Labels) → HasTwoAlike m (z ∷ []) → ⊥
    never_alike z two = two.4 (sym (only_one z two.0 two.2) ∙ only_one z two.1 two.3)

    unambiguous : (g : Group) → IsAmbiguous g m (s ∷ []) (t ∷ []) → ⊥
    unambiguous One (inl two) = never_alike s two
    unambiguous One (inr two) = never_alike t two
    unambiguous Left two = never_alike t two
    unambiguous Right two = never_alike s two

    pub one_pair : (op : Op) → StrictPairs op m (s ∷ []) (t ∷ []) (Some (out op m s t ∷ []))
    one_pair op = (
      (
        λ r c. (s, t, here s [], here t [], same, sym (only_one (out op m s t) r c)),
        λ x y c d alike. subst (λ z. Contains (out op m s t ∷ []) z) (ap (λ z. out op m z t) (only_one s x c) ∙ ap (λ z. out op m x z) (only_one t y d)) (here (out op m s t) []),
      ),
      unambiguous m.group,
      λ (x, y, z, v, first, second, apart, e). elim apart [
        | inl q ↦ q (sym (only_one s x first.0) ∙ only_one s z second.0)
        | inr q ↦ q (sym (only_one t y first.1) ∙ only_one t v second.1)
      ],
    )

  -- ---- what is built

  module _ (rules : List RuleTree) (small : IsSmall u) (Lefts Rights Read : MetricNames) (into_left : (n : Bytes) → Lefts n → Read n) (into_right : (n : Bytes) → Rights n → Read n) (apart : (n : Bytes) → Lefts n → Rights n → ⊥)
      (left right : Sets) (count most : ℕ) (f g : List Labels → Outcomes) (bl br : Builder) (fork_left fork_right silent_left silent_right : Bool)
      (of_left : IsMade u rules left Lefts count f bl fork_left silent_left) (of_right : IsMade u rules right Rights most g br fork_right silent_right) where
    abbrev combined : Op → Matching → List Labels → Outcomes
    combined op m X = From (f X) (λ P. From (g X) (StrictCombines op m P))

    module _ (m : Matching) (on : AreKnown u (names_at m.on)) (ignoring : AreKnown u (names_at m.ignoring)) (no_left : fork_left ≡ false) (no_right : fork_right ≡ false) (op : Op) (row : Sets) (third : Labels → Labels → Labels)
        (is : IsMatch m on ignoring left right (left_gives op m) (right_gives op m) row third) where
      module _ (D : Given) (h : HoldsGiven u row D) where
        -- a label that is in the signature has a class on both sides
        in_both : (n : Bytes) → signs m n ≡ true → (text : Bytes) × (first (candidates_in_both u left right n) ≡ Some text)
        in_both n signed = elim (is.meets h.live) [
          | inl live ↦
              let c = class_at u p small (matched_row u m left right) n (shape_matched u p m left right of_left.shape) live in
              some_candidate u p n (small (label_of u n)) (λ class. in_row u left n class && in_row u right n class) c.0 c.1
              (and_from _ _ (matched_held m on ignoring left right live (label_of u n) c.0 c.2) (partner_held m on ignoring left right live n c.0 c.2 signed))
          | inr live ↦
              let c = class_at u p small (matched_row u m right left) n (shape_matched u p m right left of_right.shape) live in
              some_candidate u p n (small (label_of u n)) (λ class. in_row u left n class && in_row u right n class) c.0 c.1
              (and_from _ _ (partner_held m on ignoring right left live n c.0 c.2 signed) (matched_held m on ignoring right left live (label_of u n) c.0 c.2))
        ]

        -- the text of a label of the signature: both sides hold it, and it is the one that is given where the result has the label
        abbrev IsSigned : Bytes → Option Bytes → Type 0
        IsSigned n o = (text : Bytes) × (option_or o (first (candidates_in_both u left right n)) ≡ Some text) × HoldsText u left n text × HoldsText u right n text

        by_candidate : (n : Bytes) → signs m n ≡ true → IsSigned n None
        by_candidate n signed =
            let t = in_both n signed in
            let c = of_candidates u p n (small (label_of u n)) (λ class. in_row u left n class && in_row u right n class) t.0 (first_member (candidates_in_both u left right n) t.0 t.1) in
            (t.0, t.1, and_left _ _ c, and_right _ _ c)

        signed_by : (n : Bytes) → In u n → signs m n ≡ true → IsSigned n (cond (drops op m n) None (D n))
        signed_by n there signed = by (left_gives op m n) refl (right_gives op m n) refl (D n) refl
          where
            by : (a : Bool) → left_gives op m n ≡ a → (b : Bool) → right_gives op m n ≡ b → (o : Option Bytes) → D n ≡ o → IsSigned n (cond (not (a || b)) None o)
            by true isa b isb None e = by_candidate n signed
            by true isa b isb (Some t) e = let k = is.left_held h.live n (class_of u (label_of u n) t) (h.held n t there e) isa in (t, refl, k.0, k.1 signed)
            by false isa true isb None e = by_candidate n signed
            by false isa true isb (Some t) e = let k = is.right_held h.live n (class_of u (label_of u n) t) (h.held n t there e) isb in (t, refl, k.1 signed, k.0)
            by false isa false isb o e = by_candidate n signed

        signed_text : (n : Bytes) → In u n → signs m n ≡ true → (text : Bytes) × (signature_text u op m left right D n ≡ Some text) × HoldsText u left n text × HoldsText u right n text
        signed_text n there signed = signed_by n there signed

        signature_is : has_signature u op m left right D ≡ true
        signature_is = all_true (λ n. not (signs m n) || is_some (signature_text u op m left right D n)) (labels_in u) (λ n there. by n there (signs m n) refl)
          where
            by : (n : Bytes) → In u n → (b : Bool) → signs m n ≡ b → (not b || is_some (signature_text u op m left right D n)) ≡ true
            by n there true signed = let t = signed_text n there signed in ap is_some t.1
            by n there false signed = refl

        holds_left : HoldsGiven u left (side u (left_gives op m) op m left right D)
        holds_left = record { live = is.left_live h.live; held = λ n t there given. by n t there (signs m n) refl (left_gives op m n) refl given }
          where
            by : (n t : Bytes) → In u n → (a : Bool) → signs m n ≡ a → (b : Bool) → left_gives op m n ≡ b → cond a (signature_text u op m left right D n) (cond b (D n) None) ≡ Some t → HoldsText u left n t
            by n t there true isa b isb e = let k = signed_text n there isa in subst (λ x. HoldsText u left n x) (same_Some k.0 t (sym k.1 ∙ e)) k.2
            by n t there false isa true isb e = (is.left_held h.live n (class_of u (label_of u n) t) (h.held n t there e) isb).0
            by n t there false isa false isb e = absurd (cc)

        holds_right : HoldsGiven u right (side u (right_gives op m) op m left right D)
        holds_right = record { live = is.right_live h.live; held = λ n t there given. by n t there (signs m n) refl (right_gives op m n) refl given }
          where
            by : (n t : Bytes) → In u n → (a : Bool) → signs m n ≡ a → (b : Bool) → right_gives op m n ≡ b → cond a (signature_text u op m left right D n) (cond b (D n) None) ≡ Some t → HoldsText u right n t
            by n t there true isa b isb e = let k = signed_text n there isa in subst (λ x. HoldsText u right n x) (same_Some k.0 t (sym k.1 ∙ e)) k.3
            by n t there false isa true isb e = (is.right_held h.live n (class_of u (label_of u n) t) (h.held n t there e) isb).0
            by n t there false isa false isb e = absurd (cc)

        -- a side has the text of the signature at its labels, and what is given where it gives the label
        side_signed : (gives : Bytes → Bool) (n t : Bytes) → signs m n ≡ true → signature_text u op m left right D n ≡ Some t → side u gives op m left right D n ≡ Some t
        side_signed gives n t signed e = ap (λ a. cond a (signature_text u op m left right D n) (cond (gives n) (D n) None)) signed ∙ e

        side_given : (gives : Bytes → Bool) (n t : Bytes) → gives n ≡ true → drops op m n ≡ false → D n ≡ Some t → side u gives op m left right D n ≡ Some t
        side_given gives n t is_given kept e = by (signs m n)
          where
            by : (a : Bool) → cond a (signature_text u op m left right D n) (cond (gives n) (D n) None) ≡ Some t
            by true = ap (λ b. option_or (cond b None (D n)) (first (candidates_in_both u left right n))) kept ∙ ap (λ (o : Option Bytes). option_or o (first (candidates_in_both u left right n))) e
            by false = ap (λ b. cond b (D n) None) is_given ∙ e

        -- the two samples have one signature
        same_signature : (s t : Labels) → ((n x : Bytes) → In u n → side u (left_gives op m) op m left right D n ≡ Some x → value_of s n ≡ x) → ((n x : Bytes) → In u n → side u (right_gives op m) op m left right D n ≡ Some x → value_of t n ≡ x)
            → ((n : Bytes) → (In u n → ⊥) → value_of s n ≡ []) → ((n : Bytes) → (In u n → ⊥) → value_of t n ≡ []) → SameSignature m s t
        same_signature s t of_s of_t out_s out_t n signed = by (is_one_of (labels_in u) n) refl
          where
            by : (b : Bool) → is_one_of (labels_in u) n ≡ b → value_of s n ≡ value_of t n
            by true e =
                let there : In u n = any_out n (labels_in u) e in
                let k = signed_text n there signed in
                of_s n k.0 there (side_signed (left_gives op m) n k.0 signed k.1) ∙ sym (of_t n k.0 there (side_signed (right_gives op m) n k.0 signed k.1))
            by false e = let out : In u n → ⊥ = λ c. clash _ (any_in n (labels_in u) c) e in out_s n out ∙ sym (out_t n out)

        module _ (strict : (s t : Labels) → SameSignature m s t → StrictCombines op m (s ∷ []) (t ∷ []) (Some (third s t ∷ []))) where
          answers_match : Answers u rules row Read (count + most) (combined op m) (build_match u op m left right bl br D) D
          answers_match =
              let a = of_left.answers (side u (left_gives op m) op m left right D) holds_left (inl no_left) in
              let b = of_right.answers (side u (right_gives op m) op m left right D) holds_right (inl no_right) in
              let same : SameSignature m a.one b.one = same_signature a.one b.one a.agrees b.agrees a.within b.within in
              record {
                building = both a.building b.building;
                is_built =
                    ap (λ k. cond k (and_then (bl (side u (left_gives op m) op m left right D)) (br (side u (right_gives op m) op m left right D))) None) signature_is
                    ∙ ap (λ o. and_then o (br (side u (right_gives op m) op m left right D))) a.is_built ∙ ap (λ o. and_then (Some a.building) o) b.is_built;
                one = third a.one b.one;
                represented = is.lies a.one b.one same a.represented b.represented;
                full = is.fulls a.one b.one a.full b.full;
                within = λ n out. is.values a.one b.one n ∙ none (left_gives op m n) (right_gives op m n) (value_of a.one n) (value_of b.one n) (a.within n out) (b.within n out);
                agrees = λ n t there given. is.values a.one b.one n ∙ agreed a.one b.one a.agrees b.agrees n t there given (left_gives op m n) refl (right_gives op m n) refl;
                gives = gives_both rules Lefts Rights Read into_left into_right apart count most a.building b.building f g (combined op m) a.one b.one (third a.one b.one) a.gives b.gives
                    (λ X x y. inr (a.one ∷ [], x, inr (b.one ∷ [], y, strict a.one b.one same)));
              }
            where
              none : (k l : Bool) (x y : Bytes) → x ≡ [] → y ≡ [] → cond k x (cond l y []) ≡ []
              none true l x y e f = e
              none false true x y e f = f
              none false false x y e f = refl

              agreed : (s t : Labels) → ((n x : Bytes) → In u n → side u (left_gives op m) op m left right D n ≡ Some x → value_of s n ≡ x) → ((n x : Bytes) → In u n → side u (right_gives op m) op m left right D n ≡ Some x → value_of t n ≡ x)
                  → (n x : Bytes) → In u n → Gave D n x → (k : Bool) → left_gives op m n ≡ k → (l : Bool) → right_gives op m n ≡ l → cond k (value_of s n) (cond l (value_of t n) []) ≡ x
              agreed s t of_s of_t n x there given true isk l isl = of_s n x there (side_given (left_gives op m) n x isk (ap (λ k. not (k || right_gives op m n)) isk) given)
              agreed s t of_s of_t n x there given false isk true isl =
                  of_t n x there (side_given (right_gives op m) n x isl (ap (λ k. not (k || right_gives op m n)) isk ∙ ap not isl) given)
              agreed s t of_s of_t n x there given false isk false isl =
                  sym (empty_text u (label_of u n) x (is.no_held h.live n (class_of u (label_of u n) x) (h.held n x there given) isk isl))

    -- both sides silent
    silent_both : (op : Op) (m : Matching) → StrictCombines op m [] [] (Some []) → (silent_left && silent_right) ≡ true → (W : List Labels) → Lacks Read W → combined op m W (Some [])
    silent_both op m none e W lacks =
        inr (
          [],
          of_left.is_silent (and_left silent_left silent_right e) W (λ s c l. lacks s c (into_left (value_of s metric) l)),
          inr ([], of_right.is_silent (and_right silent_left silent_right e) W (λ s c r. lacks s c (into_right (value_of s metric) r)), none),
        )

    no_pairs : (op : Op) (m : Matching) → StrictPairs op m [] [] (Some [])
    no_pairs op m = (((λ r c. absurd (none_in r c)), λ s t c d same. absurd (none_in s c)), ambiguous m.group, λ (x, y, z, v, first, second, other, e). none_in x first.0)
      where
        ambiguous : (g : Group) → IsAmbiguous g m [] [] → ⊥
        ambiguous One (inl two) = none_in two.0 two.2
        ambiguous One (inr two) = none_in two.0 two.2
        ambiguous Left two = none_in two.0 two.2
        ambiguous Right two = none_in two.0 two.2

    module _ (fork : Bool) (m : Matching) (on : AreKnown u (names_at m.on)) (ignoring : AreKnown u (names_at m.ignoring)) (include : AreKnown u m.include) where
      -- operators that match: no fork beneath
      module _ (no_left : fork_left ≡ false) (no_right : fork_right ≡ false) where
        pub raw_and : IsRaw u rules (combined_row u And m left right) Read (count + most) (combined And m) (build_operator u And m left right bl br) fork (silent_left && silent_right)
        raw_and = record {
          shape = shape_combined u p And m left right of_left.shape of_right.shape;
          answers = λ D h either.
              answers_match m on ignoring no_left no_right And (combined_row u And m left right) (λ s t. s) (and_match m on ignoring left right of_left.shape of_right.shape) D h (λ s t same. one_matched m s t same And);
          is_silent = silent_both And m ((λ s c partner. absurd (none_in s c)), λ s c. absurd (none_in s c));
        }

        pub raw_pairs : (op : Op) (row : Sets) → HasShape u row → IsMatch m on ignoring left right (left_gives op m) (right_gives op m) row (out op m) → ((s t : Labels) → SameSignature m s t → StrictCombines op m (s ∷ []) (t ∷ []) (Some (out op m s t ∷ [])))
            → StrictCombines op m [] [] (Some []) → IsRaw u rules row Read (count + most) (combined op m) (build_match u op m left right bl br) fork (silent_left && silent_right)
        raw_pairs op row shape is strict none = record {
          shape = shape;
          answers = λ D h either. answers_match m on ignoring no_left no_right op row (out op m) is D h strict;
          is_silent = silent_both op m none;
        }

      -- ---- `unless` and `or`

      pub raw_unless : fork_left ≡ false → silent_right ≡ true → IsRaw u rules left Read (count + most) (combined Unless m) bl fork (silent_left && silent_right)
      raw_unless no_left quiet = record {
        shape = of_left.shape;
        answers = λ D h either.
            let a = of_left.answers D h (inl no_left) in
            record {
              building = a.building;
              is_built = a.is_built;
              one = a.one;
              represented = a.represented;
              full = a.full;
              within = a.within;
              agrees = a.agrees;
              gives = gives_beside rules Lefts Rights Read into_left into_right apart count (count + most) a.building f (combined Unless m) a.one (omega arith)
                  (λ X given lacks. inr (a.one ∷ [], given, inr ([], of_right.is_silent quiet X lacks, ((λ s c alone. c), λ s c. (c, λ partner. none_in partner.0 partner.1))))) a.gives;
            };
        is_silent = silent_both Unless m ((λ s c alone. absurd (none_in s c)), λ s c. absurd (none_in s c));
      }

      -- of at most one text that is held by either row, one of them holds what is given
      either_holds : (D : Given) → AtMostOne u D → HoldsGiven u (join left right) D → HoldsGiven u left D ⊎ HoldsGiven u right D
      either_holds D few h = by (is_one_of (labels_in u) few.0) refl (D few.0) refl
        where
          -- nothing is given
          vacuous : ((n t : Bytes) → In u n → Gave D n t → ⊥) → HoldsGiven u left D ⊎ HoldsGiven u right D
          vacuous none = elim (join_was_live left right h.live) [
            | inl live ↦ inl (record { live = live; held = λ n t there given. absurd (none n t there given) })
            | inr live ↦ inr (record { live = live; held = λ n t there given. absurd (none n t there given) })
          ]

          alone : (row : Sets) (t : Bytes) → D few.0 ≡ Some t → is_live row ≡ true → Held row (label_of u few.0) (class_of u (label_of u few.0) t) → HoldsGiven u row D
          alone row t e live held = record {
            live = live;
            held = λ n x there given.
                let q : n ≡ few.0 = few.1 n x there given in
                let v : t ≡ x = same_Some t x (sym e ∙ sym (ap D q) ∙ given) in
                subst (λ z. HoldsText u row z x) (sym q) (subst (λ z. HoldsText u row few.0 z) v held);
          }

          by : (b : Bool) → is_one_of (labels_in u) few.0 ≡ b → (o : Option Bytes) → D few.0 ≡ o → HoldsGiven u left D ⊎ HoldsGiven u right D
          by false out o e = vacuous (λ n t there given. clash _ (any_in few.0 (labels_in u) (subst (In u) (few.1 n t there given) there)) out)
          by true is None e = vacuous (λ n t there given. absurd (none-some t (sym (ap D (few.1 n t there given) ∙ e) ∙ given)))
          by true is (Some t) e =
              elim (join_held left right h.live (label_of u few.0) (class_of u (label_of u few.0) t) (h.held few.0 t (any_out few.0 (labels_in u) is) e)) [
                | inl k ↦ inl (alone left t e k.0 k.1)
                | inr k ↦ inr (alone right t e k.0 k.1)
              ]

      module _ (forked : fork ≡ true) (quiet_left : silent_left ≡ true) (quiet_right : silent_right ≡ true) where
        by_left : (D : Given) → Answers u rules left Lefts count f (bl D) D → Answers u rules (join left right) Read (count + most) (combined Or m) (bl D) D
        by_left D a = record {
          building = a.building;
          is_built = a.is_built;
          one = a.one;
          represented = represents_join_left u p left right a.one of_left.shape a.represented;
          full = a.full;
          within = a.within;
          agrees = a.agrees;
          gives = gives_beside rules Lefts Rights Read into_left into_right apart count (count + most) a.building f (combined Or m) a.one (omega arith)
              (λ X given lacks. inr (a.one ∷ [], given, inr ([], of_right.is_silent quiet_right X lacks, ((λ s c. c), (λ t c alone. absurd (none_in t c)), λ r c. inl c)))) a.gives;
        }

        by_right : (D : Given) → Answers u rules right Rights most g (br D) D → Answers u rules (join left right) Read (count + most) (combined Or m) (br D) D
        by_right D a = record {
          building = a.building;
          is_built = a.is_built;
          one = a.one;
          represented = represents_join_right u p left right a.one of_left.shape a.represented;
          full = a.full;
          within = a.within;
          agrees = a.agrees;
          gives = gives_beside rules Rights Lefts Read into_right into_left (λ n r l. apart n l r) most (count + most) a.building g (combined Or m) a.one (omega arith)
              (λ X given lacks. inr ([], of_left.is_silent quiet_left X lacks, inr (a.one ∷ [], given, ((λ s c. absurd (none_in s c)), (λ t c alone. c), λ r c. inr (c, λ partner. none_in partner.0 partner.1))))) a.gives;
        }

        pub raw_or : IsRaw u rules (join left right) Read (count + most) (combined Or m) (λ D. cond (holds_texts u left D) (bl D) (br D)) fork (silent_left && silent_right)
        raw_or = record {
          shape = shape_combined u p Or m left right of_left.shape of_right.shape;
          answers = λ D h either. by D h (elim either [ inl e ↦ absurd (clash _ forked e.0) | inr e ↦ e.1 ]) (holds_texts u left D) refl;
          is_silent = silent_both Or m ((λ s c. absurd (none_in s c)), (λ t c alone. absurd (none_in t c)), λ r c. absurd (none_in r c));
        }
          where
            by : (D : Given) → HoldsGiven u (join left right) D → AtMostOne u D → (b : Bool) → holds_texts u left D ≡ b → Answers u rules (join left right) Read (count + most) (combined Or m) (cond b (bl D) (br D)) D
            by D h few true e = by_left D (of_left.answers D (holds_by_test u left D e) (inr few))
            by D h few false e = elim (either_holds D few h) [
              | inl held ↦ absurd (clash _ (test_by_holds u left D held) e)
              | inr held ↦ by_right D (of_right.answers D held (inr few))
            ]

      -- ---- each operator

      -- what is asked of the sides
      abbrev pub SidesFit : Op → Type 0
      SidesFit Or = (fork ≡ true) × (silent_left ≡ true) × (silent_right ≡ true)
      SidesFit Unless = (fork_left ≡ false) × (silent_right ≡ true)
      SidesFit _ = (fork_left ≡ false) × (fork_right ≡ false)

      pairs_of : (op : Op) → IsMatch m on ignoring left right (left_of_match m.group op m) (right_of_match m.group op m) (paired_row u m.group op m (matched_row u m left right) (matched_row u m right left)) (out op m)
      pairs_of op = pair_match m on ignoring left right of_left.shape of_right.shape op include m.group

      pub raw_operator : (op : Op) → SidesFit op → IsRaw u rules (combined_row u op m left right) Read (count + most) (combined op m) (build_operator u op m left right bl br) fork (silent_left && silent_right)
      raw_operator Or fit = raw_or fit.0 fit.1 fit.2
      raw_operator Unless fit = raw_unless fit.0 fit.1
      raw_operator And fit = raw_and fit.0 fit.1
      raw_operator Add fit = raw_pairs fit.0 fit.1 Add (combined_row u Add m left right) (shape_combined u p Add m left right of_left.shape of_right.shape) (pairs_of Add) (λ s t same. one_pair m s t same Add) (no_pairs Add m)
      raw_operator Subtract fit =
          raw_pairs fit.0 fit.1 Subtract (combined_row u Subtract m left right) (shape_combined u p Subtract m left right of_left.shape of_right.shape) (pairs_of Subtract) (λ s t same. one_pair m s t same Subtract) (no_pairs Subtract m)
      raw_operator Multiply fit =
          raw_pairs fit.0 fit.1 Multiply (combined_row u Multiply m left right) (shape_combined u p Multiply m left right of_left.shape of_right.shape) (pairs_of Multiply) (λ s t same. one_pair m s t same Multiply) (no_pairs Multiply m)
      raw_operator Divide fit = raw_pairs fit.0 fit.1 Divide (combined_row u Divide m left right) (shape_combined u p Divide m left right of_left.shape of_right.shape) (pairs_of Divide) (λ s t same. one_pair m s t same Divide) (no_pairs Divide m)
      raw_operator Modulo fit = raw_pairs fit.0 fit.1 Modulo (combined_row u Modulo m left right) (shape_combined u p Modulo m left right of_left.shape of_right.shape) (pairs_of Modulo) (λ s t same. one_pair m s t same Modulo) (no_pairs Modulo m)
      raw_operator Power fit = raw_pairs fit.0 fit.1 Power (combined_row u Power m left right) (shape_combined u p Power m left right of_left.shape of_right.shape) (pairs_of Power) (λ s t same. one_pair m s t same Power) (no_pairs Power m)
      raw_operator Atan2 fit = raw_pairs fit.0 fit.1 Atan2 (combined_row u Atan2 m left right) (shape_combined u p Atan2 m left right of_left.shape of_right.shape) (pairs_of Atan2) (λ s t same. one_pair m s t same Atan2) (no_pairs Atan2 m)
      raw_operator Equal fit = raw_pairs fit.0 fit.1 Equal (combined_row u Equal m left right) (shape_combined u p Equal m left right of_left.shape of_right.shape) (pairs_of Equal) (λ s t same. one_pair m s t same Equal) (no_pairs Equal m)
      raw_operator NotEqual fit =
          raw_pairs fit.0 fit.1 NotEqual (combined_row u NotEqual m left right) (shape_combined u p NotEqual m left right of_left.shape of_right.shape) (pairs_of NotEqual) (λ s t same. one_pair m s t same NotEqual) (no_pairs NotEqual m)
      raw_operator LessOrEqual fit =
          raw_pairs fit.0 fit.1 LessOrEqual (combined_row u LessOrEqual m left right) (shape_combined u p LessOrEqual m left right of_left.shape of_right.shape) (pairs_of LessOrEqual) (λ s t same. one_pair m s t same LessOrEqual) (no_pairs LessOrEqual m)
      raw_operator Less fit = raw_pairs fit.0 fit.1 Less (combined_row u Less m left right) (shape_combined u p Less m left right of_left.shape of_right.shape) (pairs_of Less) (λ s t same. one_pair m s t same Less) (no_pairs Less m)
      raw_operator GreaterOrEqual fit =
          raw_pairs fit.0 fit.1 GreaterOrEqual (combined_row u GreaterOrEqual m left right) (shape_combined u p GreaterOrEqual m left right of_left.shape of_right.shape) (pairs_of GreaterOrEqual) (λ s t same. one_pair m s t same GreaterOrEqual) (no_pairs GreaterOrEqual m)
      raw_operator Greater fit = raw_pairs fit.0 fit.1 Greater (combined_row u Greater m left right) (shape_combined u p Greater m left right of_left.shape of_right.shape) (pairs_of Greater) (λ s t same. one_pair m s t same Greater) (no_pairs Greater m)
