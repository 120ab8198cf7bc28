-- The two commands are simple, by their settings.
use Rattle.std.proofs.Common.{◌≡◌, ◌≢◌, true, [], refl, inl, inr, subst}
use Rattle.clap.specs.Words.{is_simple, is_simple_and_free, Kinds, HasKind, kind_of}
use Rattle.clap.specs.declared.error.Error.{Error}
use Rattle.clap.specs.declared.error.kind.ErrorKind.TheVariants as kind
use Rattle.clap.proofs.OnLiterals.{clap_on_literals}
use Rattle.lf_words.specs.views.Commands.{lint_app, gen_app}

pub lint_simple : is_simple lint_app ≡ true
unfolding clap_on_literals
lint_simple = refl

pub lint_free : is_simple_and_free lint_app ≡ true
unfolding clap_on_literals
lint_free = refl

pub gen_simple : is_simple gen_app ≡ true
unfolding clap_on_literals
gen_simple = refl

pub gen_free : is_simple_and_free gen_app ≡ true
unfolding clap_on_literals
gen_free = refl

-- an error that isn't of memory comes of a fault
pub refused_by : (e : Error) {kinds : Kinds} → kinds ≡ [] → HasKind kinds e → kind_of e ≢ kind.OutOfMemory → ⊥
refused_by e none has not = let H : Kinds → Type 0 = λ ks. HasKind ks e in go (subst H none has)
  where
    go : HasKind [] e → ⊥
    go (inl memory) = not memory
    go (inr among) = among
