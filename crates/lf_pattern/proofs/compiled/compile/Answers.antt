use Rattle.std.proofs.Common.{◌≡◌, ◌∙◌, ap, true}
use Rattle.regex.specs.Patterns.{Config, default_config}
use Rattle.regex.specs.Views.{builder_config, builder_source}
use Rattle.regex.specs.declared.builder.RegexBuilder.{RegexBuilder}
use Rattle.lf_pattern.specs.Read.{anchored}
use Rattle.lf_pattern.proofs.ReadLaws.{reads_reading, refused_reading, is_some_of}
use Rattle.lf_pattern.proofs.compiled.compile.Goals as goal

pub returns-in-Ok-clause-known : goal.returns-in-Ok-clause-known
returns-in-Ok-clause-known c =
    let config : builder_config c.size_limit.result ≡ default_config = ap (λ (b : RegexBuilder). builder_config b) c.size_limit.ensures ∙ c.new.ensures.config in
    let source : builder_source c.size_limit.result ≡ anchored c.args.text.now = ap (λ (b : RegexBuilder). builder_source b) c.size_limit.ensures ∙ c.new.ensures.source ∙ c.as_str.ensures.value ∙ c.in_ok-source.ensures in
    let r = reads_reading c.in-Ok.regex c.args.text.now (c.in-Ok.ensures.source ∙ source) (c.in-Ok.ensures.config ∙ ap (λ (k : Config). record k { utf8 = true }) config) c.in-Ok.ensures.read in
    is_some_of _ r.0 r.1

pub returns-in-Err-Syntax-clause-bad : goal.returns-in-Err-Syntax-clause-bad
returns-in-Err-Syntax-clause-bad c = λ _.
    let config : builder_config c.size_limit.result ≡ default_config = ap (λ (b : RegexBuilder). builder_config b) c.size_limit.ensures ∙ c.new.ensures.config in
    let source : builder_source c.size_limit.result ≡ anchored c.args.text.now = ap (λ (b : RegexBuilder). builder_source b) c.size_limit.ensures ∙ c.new.ensures.source ∙ c.as_str.ensures.value ∙ c.in_ok-source.ensures in
    refused_reading c.args.text.now _ _ c.in-Err-Syntax.field-0-0 (ap (λ (k : Config). record k { utf8 = true }) config) source
    (rw c.in-Err-Syntax.field-0-is at c.in-Err-Syntax.ensures.by_grammar) (rw c.in-Err-Syntax.field-0-is at c.in-Err-Syntax.ensures.kind)
