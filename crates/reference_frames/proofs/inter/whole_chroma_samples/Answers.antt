use Rattle.std.proofs.Common.{◌*◌, arith}
use Rattle.mode_parser.specs.RecordList.{mode_of}
use Rattle.reference_frames.specs.InterPrediction.{block_vector, chroma_sample}
use Rattle.reference_frames.proofs.Placed.{placed_from}
use Rattle.reference_frames.proofs.Quarters.{in_whole}
use Rattle.reference_frames.proofs.inter.whole_chroma_samples.Goals as goal

pub returns-clause-cb : goal.returns-clause-cb
returns-clause-cb c =
    let p = c.args.from.cb.now.shown in
    let motion = c.args.chroma.motion in
    placed_from (chroma_sample motion.version p c.args.corner.mx c.args.corner.my (block_vector motion.mode (mode_of motion.macroblock.now).vectors)) _ c.args.corner.across 8 (8 * c.args.corner.mx) (8 * c.args.corner.my) 0 0 _ _ _ _ (omega arith) (omega arith)
    (λ i j inside. in_whole motion.version p c.args.corner.mx c.args.corner.my motion.mode (mode_of motion.macroblock.now).vectors i j c.kind_of-kind.result c.args.chroma.whole c.requires.one c.kind_of-kind.ensures (c.requires.whole c.requires.one).0 (c.requires.whole c.requires.one).1) c.predict_pair.ensures.cb

pub returns-clause-cr : goal.returns-clause-cr
returns-clause-cr c =
    let p = c.args.from.cr.now.shown in
    let motion = c.args.chroma.motion in
    placed_from (chroma_sample motion.version p c.args.corner.mx c.args.corner.my (block_vector motion.mode (mode_of motion.macroblock.now).vectors)) _ c.args.corner.across 8 (8 * c.args.corner.mx) (8 * c.args.corner.my) 0 0 _ _ _ _ (omega arith) (omega arith)
    (λ i j inside. in_whole motion.version p c.args.corner.mx c.args.corner.my motion.mode (mode_of motion.macroblock.now).vectors i j c.kind_of-kind.result c.args.chroma.whole c.requires.one c.kind_of-kind.ensures (c.requires.whole c.requires.one).0 (c.requires.whole c.requires.one).1) c.predict_pair.ensures.cr
