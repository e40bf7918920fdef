use Rattle.webm_writing.proofs.Checked.{Fit}
use Rattle.webm_writing.proofs.checks.samples_fit.Given as goal

abbrev pub invariant-loop-sample : goal.invariant-loop-sample
invariant-loop-sample l = Fit l.samples l.sample-index
