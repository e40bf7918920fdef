use Rattle.std.proofs.Common.{refl, sym, arith}
use Rattle.webm_writing.specs.Written.{Written}
use Rattle.webm_writing.proofs.Checked.{each_is, not_each, short_is}
use Rattle.webm_writing.proofs.checks.fits.Goals as goal

pub returns-then-not-each_fits : goal.returns-then-not-each_fits
returns-then-not-each_fits c = not_each (record { parts = c.args.parts.now; most = c.args.most; samples = c.args.samples.now }) (sym c.if-not-each_fits.ensures)

pub file_size-requires-clause-parts : goal.file_size-requires-clause-parts
file_size-requires-clause-parts c =
    let file : Written = record { parts = c.args.parts.now; most = c.args.most; samples = c.args.samples.now } in (each_is file (sym c.if-not-each_fits.ensures)).parts

pub file_size-requires-clause-cues : goal.file_size-requires-clause-cues
file_size-requires-clause-cues c =
    let file : Written = record { parts = c.args.parts.now; most = c.args.most; samples = c.args.samples.now } in omega (arith, (each_is file (sym c.if-not-each_fits.ensures)).cues 0)

pub returns : goal.returns
returns c =
    let file : Written = record { parts = c.args.parts.now; most = c.args.most; samples = c.args.samples.now } in
    short_is file c.file_size.result (each_is file (sym c.if-not-each_fits.ensures)) (c.if-not-samples_fit.ensures.0 refl) c.file_size.ensures
