use Rattle.std.proofs.Common.{length, sym, ap, ◌∙◌}
use Rattle.script_nodes.proofs.Counts.{source_exists}
use Rattle.script_nodes.proofs.Followed.{found_followed}
use Rattle.script_nodes.proofs.scripts.Script.trace.Goals as goal

pub returns-clause-followed : goal.returns-clause-followed
returns-clause-followed c =
    found_followed c.args.counts.now c.args.self.now c.deref.result.now c.deref-3.result.now c.deref-4.result.now c.lengths_of-lengths.result.items c.len-last.result c.args.frame _ _ _ _ c.new.ensures c.found_in-found.ensures.value c.deref-4.ensures.0 c.lengths_of-lengths.ensures.value (c.deref.ensures.value ∙ c.self.view_is) (c.deref-3.ensures.value ∙ c.self.view_is) (c.len-last.ensures ∙ sym c.deref.ensures.len ∙ ap length (c.deref.ensures.value ∙ c.self.view_is))

pub returns-clause-source : goal.returns-clause-source
returns-clause-source c =
    source_exists c.args.counts.now _ _ (c.found_in-found.ensures.inside c.args.counts.now (rw (c.deref-4.ensures.0, c.deref-3.ensures.value) (rw c.deref.ensures.value at c.lengths_of-lengths.ensures.given)))
