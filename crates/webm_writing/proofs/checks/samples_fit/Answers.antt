use Rattle.webm_writing.proofs.Checked.{fit_all, fit_none}
use Rattle.webm_writing.proofs.checks.samples_fit.Goals as goal

pub loop-sample-init : goal.loop-sample-init
loop-sample-init c = fit_none c.args.samples.now

pub returns : goal.returns
returns c = fit_all c.args.samples.now c.loop-sample.sample-index c.loop-sample-test.false c.loop-sample.invariant
