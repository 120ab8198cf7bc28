-- Files that are read one after the other.
use Rattle.std.proofs.Common.{◌≡◌, ◌≢◌, ◌≤◌, ◌<◌, ◌+◌, ◌-◌, ℕ, zero, suc, Bool, true, false, inl, inr, List, [], ◌∷◌, ◌++◌, take, drop, length, slice_index_or, Option, Some, refl, sym, ◌∙◌, ap, subst, arith, codes, nat_le, if◌then◌else◌}
use Rattle.std.specs.Prelude.{slice_get}
use Rattle.std.specs.List.{AllByRecursion, AllZip}
use Rattle.std.proofs.lemmas.Bool.Decides.{nat_tests}
use Rattle.std.proofs.lemmas.List.{length-map, map-append, take_more}
use Rattle.std.proofs.lemmas.Option.{slice_get_within}
use Rattle.std.proofs.lemmas.List.Sums.{sum_by-append, sum_by-cons}
use Rattle.std.proofs.lemmas.Slice.Zip.{AllZip-long}
use Rattle.lf_laws.proofs.Slices.{zip_push}
use Rattle.lf_ast.specs.Labels.{Bytes}
use Rattle.lf_checks.specs.Files.{File}
use Rattle.lf_judge.specs.Judged.{file_of, files_of}
use Rattle.lf_judge.specs.declared.source.Source.{Source}
use Rattle.lf_gen.specs.Generated.{generated}
use Rattle.lf_words.specs.Grammar.{Asks}
use Rattle.lf_words.specs.declared.options.Options.{Options}
use Rattle.lf_words.specs.declared.options.Options.TheVariants.{Lint, Gen}
use Rattle.lf_judge.proofs.Places.{read_at}
use Rattle.lf_lint.specs.declared.reading.ReadEnd.{ReadEnd}
use Rattle.lf_lint.specs.declared.reading.ReadEnd.TheVariants.{Failed, TooLong, Memory}
use Rattle.lf_lint.specs.declared.unreported.Unreported.{Unreported}
use Rattle.lf_lint.specs.declared.unreported.Unreported.TheVariants.{Read, Memory as UnreportedMemory, Limit}
use Rattle.lf_lint.specs.Asked.{names_of}
use Rattle.lf_lint.specs.Read.{AreAsTold, AreShort, IsPassedBehind, AreReadBefore, IsReadFile, byte_count, most_bytes, most_bytes_in_all, most_files, room_behind}
use Rattle.lf_lint.specs.views.Making.{AreGathered, IsWhyUnread, IsWhyUnreported, unread_by}
use Rattle.lf_lint.proofs.GeneratedSize.{gen_short, gen_within}

all_more : (P : File → Type 0) (xs : List File) (x : File) → AllByRecursion P xs → P x → AllByRecursion P (xs ++ x ∷ [])
all_more P [] x are is = (is, tt)
all_more P (y ∷ xs) x are is = (are.0, all_more P xs x are.1 is)

one_more : (files : List File) (file : File) → byte_count (files ++ file ∷ []) ≡ byte_count files + length file.bytes
one_more files file =
    let bytes : File → ℕ = λ f. length f.bytes in
    let all = sum_by-append bytes files (file ∷ []) in
    let last = sum_by-cons bytes file [] in
    omega (arith, all, last)

short_more : (files : List File) (file : File) → AreShort files → length file.bytes ≤ room_behind (byte_count files) → AreShort (files ++ file ∷ [])
short_more files file are fits = record {
  each = all_more (λ f. length f.bytes ≤ most_bytes) files file are.each (omega (arith, fits));
  together = omega (arith, fits, one_more files file, are.together);
}

-- the first files of these names were read
pub record AreGatheredSoFar (held : Bytes → Option Bytes) (names : List Bytes) (k : ℕ) (sources : List Source) (before : ℕ) : Type 0 where
  pub read : AllZip (IsReadFile held) (take k names) (files_of sources)
  pub short : AreShort (files_of sources)
  pub total : byte_count (files_of sources) ≡ before
  pub count : length sources ≡ k

module _ (held : Bytes → Option Bytes) (names : List Bytes) where
  pub one_gathered : (k : ℕ) (name : Bytes) (sources later : List Source) (source : Source) (before count : ℕ) → k < length names → name ≡ slice_index_or names k name → AreGatheredSoFar held names k sources before
      → later ≡ sources ++ source ∷ [] → IsReadFile held name (file_of source) → length source.bytes ≡ count → count ≤ room_behind before → AreGatheredSoFar held names (k + 1) later (before + count)
  one_gathered k name sources later source before count less is so_far grown read counted fits =
      let files : files_of later ≡ files_of sources ++ file_of source ∷ [] = ap files_of grown ∙ map-append file_of sources (source ∷ []) in
      let front : take (k + 1) names ≡ take k names ++ name ∷ [] = take_more names k name less ∙ ap (λ (n : Bytes). take k names ++ n ∷ []) (sym is) in
      let both = zip_push (IsReadFile held) (take k names) (files_of sources) name (file_of source) so_far.read read in
      let of_front = subst (λ (l : List Bytes). AllZip (IsReadFile held) l (files_of sources ++ file_of source ∷ [])) (sym front) both in
      let short = short_more (files_of sources) (file_of source) so_far.short (omega (arith, so_far.total, counted, fits)) in
      let bytes = one_more (files_of sources) (file_of source) in
      record {
        read = subst (λ (l : List File). AllZip (IsReadFile held) (take (k + 1) names) l) (sym files) of_front;
        short = subst AreShort (sym files) short;
        total = ap byte_count files ∙ omega (arith, bytes, so_far.total, counted);
        count = ap length grown ∙ omega (arith, so_far.count, added sources source);
      }
    where
      added : (xs : List Source) (x : Source) → length (xs ++ x ∷ []) ≡ length xs + 1
      added [] x = refl
      added (y ∷ xs) x = omega (arith, added xs x)

  pub reached : (k : ℕ) (name : Bytes) (sources : List Source) (before : ℕ) → k < length names → name ≡ slice_index_or names k name → AreGatheredSoFar held names k sources before → AreReadBefore held names k
  reached k name sources before less is so_far = record { name = name; is_named = read_at names k name less is; before = files_of sources; are_read = so_far.read; are_short = so_far.short }

  -- which limit is passed behind files of so many bytes
  passed : (file before : ℕ) (P : Unreported → Type 0) → ((quantity count : ℕ) → IsPassedBehind before quantity count → P (Limit quantity count)) → P (unread_by file before TooLong)
  passed file before P step = by (nat_le (before + most_bytes) most_bytes_in_all) refl
    where
      by : (b : Bool) → nat_le (before + most_bytes) most_bytes_in_all ≡ b → P (if b then Limit 2 4194305 else Limit 3 16777217)
      by true is = step 2 4194305 (inl (grind (arith, nat_tests, is), refl, refl))
      by false is = step 3 16777217 (inr (grind (arith, nat_tests, is), refl, refl))

  -- why the next file isn't read
  pub why_next : (left : Option Bytes) (k : ℕ) (name : Bytes) (sources : List Source) (before opens mid later faults calm rose : ℕ) (end : ReadEnd) → k < length names → name ≡ slice_index_or names k name → length names ≤ most_files
      → AreGatheredSoFar held names k sources before → mid ≡ opens + k → (end ≢ Memory → later ≡ mid + 1) → (mid ≤ later) × (later ≤ mid + 1) → faults ≡ 0 → calm ≡ 0 → (end ≡ Failed → calm < rose) → (end ≢ Failed → rose ≡ calm)
      → (end ≡ TooLong → (bytes : Bytes) × AreAsTold (held name) bytes × (room_behind before < length bytes) × AreAsTold left (drop (room_behind before + 1) bytes))
      → (file : ℕ) → file ≡ k → (opened : ℕ) × (later ≡ opens + opened) × IsWhyUnread held left names faults rose opened (unread_by file before end)
  unfolding reached
  why_next left k name sources before opens mid later faults calm rose Failed less is few so_far at one most f z failed same long file numbered =
      (k + 1, omega (arith, at, one (λ e. cc)), (omega (arith, f, z, failed refl), omega (arith, numbered), few, subst (AreReadBefore held names) (sym numbered) (reached k name sources before less is so_far)))
  why_next left k name sources before opens mid later faults calm rose TooLong less is few so_far at one most f z failed same long file numbered =
      let (bytes, told, longer, stopped) = long refl in
      let total : byte_count (files_of sources) ≡ before = so_far.total in
      let P : Unreported → Type 0 = λ why. IsWhyUnread held left names faults rose (k + 1) why in
      let here = reached k name sources before less is so_far in (
        k + 1,
        omega (arith, at, one (λ e. cc)),
        passed file before P (λ quantity count is_passed. (
          omega (arith, f, z, same (λ e. cc)),
          inr record {
            few = few;
            file = k;
            is_too_long = record {
              reached = here;
              bytes = bytes;
              told = told;
              longer = subst (λ (n : ℕ). room_behind n < length bytes) (sym total) longer;
              passed = subst (λ (n : ℕ). IsPassedBehind n quantity count) (sym total) is_passed;
              stopped = subst (λ (n : ℕ). AreAsTold left (drop (room_behind n + 1) bytes)) (sym total) stopped;
            };
            is_opened = refl;
          },
        )),
      )
  why_next left k name sources before opens mid later faults calm rose Memory less is few so_far at one most f z failed same long file numbered =
      (later - opens, omega (arith, at, most), (omega (arith, f, z, same (λ e. cc)), omega (arith, at, most, less)))

-- ---- the files that options ask for

each_at : (P : File → Type 0) (sources : List Source) → AllByRecursion P (files_of sources) → (k : ℕ) (source : Source) → slice_get sources k ≡ Some source → P (file_of source)
each_at P [] all k source e = absurd cc
each_at P (s ∷ sources) all zero source e = (let same : s ≡ source = cc in subst (λ (x : Source). P (file_of x)) same all.0)
each_at P (s ∷ sources) all (suc k) source e = each_at P sources all.1 k source e

-- each file is shorter than what is judged may be
pub short_each : (sources : List Source) → AreShort (files_of sources) → (k : ℕ) (source : Source) → slice_get sources k ≡ Some source → length source.bytes ≤ most_bytes
short_each sources short = each_at (λ (f : File). length f.bytes ≤ most_bytes) sources short.each

few_files : (held : Bytes → Option Bytes) (options : Options) (files : List File) → AreGathered held options files → length files ≤ most_files
few_files held (Lint workers json labels names) files are = omega (arith, are.few, AllZip-long (IsReadFile held) names files are.are_files)
few_files held (Gen n) files are = let one : length files ≡ 1 = ap length are.are_files in omega (arith, one)

pub few_sources : (held : Bytes → Option Bytes) (options : Options) (sources : List Source) → AreGathered held options (files_of sources) → length sources ≤ most_files
few_sources held options sources are = omega (arith, few_files held options (files_of sources) are, length-map sources file_of)

-- the generated file alone
pub gen_gathered : (held : Bytes → Option Bytes) (words : List Bytes) (options : Options) (n : ℕ) (source : Source) (sources : List Source) → options ≡ Gen n → Asks words options → source.name ≡ codes "gen.yml" → source.bytes ≡ generated n
    → sources ≡ source ∷ [] → AreGathered held options (files_of sources)
gen_gathered held words options n source sources is asks name bytes alone =
    let within = gen_within words n (subst (Asks words) is asks) in
    let files : files_of sources ≡ file_of source ∷ [] = ap files_of alone in
    let same : file_of source ≡ record { name = codes "gen.yml"; bytes = generated n } = λ i. record { name = name i; bytes = bytes i } in
    subst (λ (o : Options). AreGathered held o (files_of sources)) (sym is) record {
      few = omega arith;
      are_files = files ∙ ap (λ (f : File). f ∷ []) same;
      are_short = subst AreShort (sym files) (gen_short n (file_of source) within.1 bytes);
    }

-- no more files are opened than are named
pub opened_most : (held : Bytes → Option Bytes) (left : Option Bytes) (options : Options) (faults later opened : ℕ) (why : Unreported) → IsWhyUnreported held left options faults later opened why → opened ≤ length (names_of options)
opened_most held left options faults later opened (Read file) is = let reached = is.3 in omega (arith, is.1, slice_get_within (names_of options) file reached.name reached.is_named)
opened_most held left options faults later opened UnreportedMemory is = is.1
opened_most held left options faults later opened (Limit quantity count) (same, inl files) = omega (arith, files.is_opened)
opened_most held left options faults later opened (Limit quantity count) (same, inr (inl bytes)) =
    let reached = bytes.is_too_long.reached in omega (arith, bytes.is_opened, slice_get_within (names_of options) bytes.file reached.name reached.is_named)
opened_most held left options faults later opened (Limit quantity count) (same, inr (inr rules)) = omega (arith, rules.is_opened)
