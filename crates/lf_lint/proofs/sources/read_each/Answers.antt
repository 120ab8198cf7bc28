use Rattle.std.proofs.Common.{◌≡◌, ◌∙◌, ℕ, Err, ap, sym, subst, length, ◌+◌, arith}
use Rattle.lf_lint.specs.declared.unreported.Unreported.{Unreported}
use Rattle.lf_lint.specs.Read.{AreAsTold}
use Rattle.lf_lint.specs.views.Making.{IsWhyUnread}
use Rattle.lf_lint.proofs.Gathered.{one_gathered, why_next}
use Rattle.lf_lint.proofs.sources.read_each.Goals as goal

pub returns-in-Err-clause-why : goal.returns-in-Err-clause-why
returns-in-Err-clause-why g c =
    let held = g.F.Files.held c.args.files.now in
    let kept = c.loop-name.invariant.kept c.name-item.result in
    let numbered : c.len.result ≡ c.loop-name.name-index = c.len.ensures ∙ ap length c.in-Err.ensures.same ∙ c.loop-name.invariant.so_far.count in
    let why = why_next held c.args.names.now (g.F.Files.left c.read_next.new.files) c.loop-name.name-index c.name-item.result c.loop-name.sources c.loop-name.before (g.F.Files.opens c.args.files.now) (g.F.Files.opens c.loop-name.files)
    (g.F.Files.opens c.read_next.new.files) (g.F.Files.faults c.args.files.now) (g.F.Files.faults c.loop-name.files) (g.F.Files.faults c.read_next.new.files) c.in-Err.end c.loop-name-test.true c.name-item.is c.requires.few c.loop-name.invariant.so_far
    c.loop-name.invariant.opened (λ other. c.read_next.ensures.opened (λ e. other cc)) c.read_next.ensures.opened_once c.requires.calm c.loop-name.invariant.calm (λ e. c.read_next.ensures.failed (c.in-Err.is ∙ ap Err e))
    (λ other. c.read_next.ensures.calm (λ e. other cc))
    (λ e. let long = c.read_next.ensures.too_long (c.in-Err.is ∙ ap Err e) in (long.0, subst (λ o. AreAsTold o long.0) kept long.1, long.2, long.3))
    c.len.result numbered in
    let P : Unreported → Type 0 =
    λ reason. (opened : ℕ) × (g.F.Files.opens c.read_next.new.files ≡ g.F.Files.opens c.args.files.now + opened)
    × IsWhyUnread held (g.F.Files.left c.read_next.new.files) c.args.names.now (g.F.Files.faults c.args.files.now) (g.F.Files.faults c.read_next.new.files) opened reason in
    subst P (sym c.why_unread.ensures) why

pub loop-name-preserved : goal.loop-name-preserved
loop-name-preserved g c =
    let held = g.F.Files.held c.args.files.now in
    let read = c.in-Ok.ensures.read in
    record {
      so_far = one_gathered held c.args.names.now c.loop-name.name-index c.name-item.result c.loop-name.sources c.read_next.new.sources read.0 c.loop-name.before c.in-Ok.count c.loop-name-test.true c.name-item.is c.loop-name.invariant.so_far
          read.1 (read.2.0, subst (λ o. AreAsTold o read.0.bytes) (c.loop-name.invariant.kept c.name-item.result) read.2.1) read.3 c.in-Ok.ensures.within;
      calm = c.read_next.ensures.calm (λ e. cc) ∙ c.loop-name.invariant.calm;
      opened = omega (arith, c.read_next.ensures.opened (λ e. cc), c.loop-name.invariant.opened);
      kept = λ name. cc (c.read_next.ensures.kept name, c.loop-name.invariant.kept name);
    }
