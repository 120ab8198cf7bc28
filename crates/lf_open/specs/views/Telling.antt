-- What is known where an expression of a rule is gone over: how contracts see the code. It defines nothing.
use Rattle.lf_open.specs.declared.telling.Telling.{Telling}
use Rattle.lf_open.specs.views.Told.{Facts}

abbrev pub facts_of : Telling → Facts
facts_of t = record { forks = t.known.now.forks.now; loud = t.known.now.loud.now; on_le = t.known.now.on_le.now; table = t.table.now; all = t.known.now.reading.now.all; rule = t.rule }
