use Rattle.std.proofs.Common.{arith}
use Rattle.webm_writing.specs.Written.{Written}
use Rattle.webm_writing.proofs.Checked.{parts_few}
use Rattle.webm_writing.proofs.Filed.{clusters_at, file_long}
use Rattle.webm_writing.proofs.checks.file_size.Goals as goal

pub parts_size-requires : goal.parts_size-requires
parts_size-requires c = omega (arith, parts_few c.args.parts.now c.requires.parts, c.requires.few)

pub overflow_add-others-2 : goal.overflow_add-others-2
overflow_add-others-2 c = omega (arith, parts_few c.args.parts.now c.requires.parts, c.requires.few, c.index_size.ensures, c.parts_size.ensures)

pub overflow_add-others-3 : goal.overflow_add-others-3
overflow_add-others-3 c = omega (arith, parts_few c.args.parts.now c.requires.parts, c.requires.few, c.requires.cues, c.index_size.ensures, c.parts_size.ensures, c.cues_size.ensures 0)

pub returns : goal.returns
returns c =
    let file : Written = record { parts = c.args.parts.now; most = c.args.most; samples = c.args.samples.now } in
    omega (arith, file_long file, c.index_size.ensures, c.parts_size.ensures, c.cues_size.ensures (clusters_at file), c.clusters_size.ensures, c.saturating_add.ensures)
