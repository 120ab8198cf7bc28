use Rattle.lf_scalar.proofs.body.leads_with_tab.Goals as goal

pub returns-then-leads : goal.returns-then-leads
returns-then-leads c = λ at feed. rw c.if-leads.true (c.has_tab.ensures at feed)
