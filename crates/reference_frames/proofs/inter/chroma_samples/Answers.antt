use Rattle.std.proofs.Common.{ℕ, ◌+◌, ◌*◌, sym, arith}
use Rattle.mode_parser.specs.RecordList.{mode_of}
use Rattle.pixel_planes.specs.Samples.{Samples}
use Rattle.reference_frames.specs.InterPrediction.{block_vector, chroma_sample}
use Rattle.reference_frames.specs.PlacedBlocks.{from_corner}
use Rattle.reference_frames.proofs.Placed.{from_part, placed_from}
use Rattle.reference_frames.proofs.Quarters.{in_group, in_whole}
use Rattle.reference_frames.proofs.inter.chroma_samples.Goals as goal

pub returns-then-is_split : goal.returns-then-is_split
returns-then-is_split c =
    let p : Samples = c.args.from.now.shown in
    let x : ℕ = 8 * c.args.corner.mx in
    let y : ℕ = 8 * c.args.corner.my in
    let vector_of = block_vector c.args.motion.mode c.vectors-vectors.result in
    let sample : ℕ → ℕ → ℕ = chroma_sample c.args.motion.version p c.args.corner.mx c.args.corner.my vector_of in
    rw (← c.vectors-vectors.ensures) (c.predict_four.ensures (from_corner x y sample) (record {
      first = from_part sample _ 4 x y 0 0 x y (omega arith) (omega arith) (λ i j inside. in_group c.args.motion.version p c.args.corner.mx c.args.corner.my vector_of 0 0 i j c.kind_of-kind.result c.group_vector-first.result c.kind_of-kind.ensures c.group_vector-first.ensures.x c.group_vector-first.ensures.y inside);
      second = from_part sample _ 4 x y 4 0 (x + 4) y (omega arith) (omega arith) (λ i j inside. in_group c.args.motion.version p c.args.corner.mx c.args.corner.my vector_of 1 0 i j c.kind_of-kind.result c.group_vector-second.result c.kind_of-kind.ensures c.group_vector-second.ensures.x c.group_vector-second.ensures.y inside);
      third = from_part sample _ 4 x y 0 4 x (y + 4) (omega arith) (omega arith) (λ i j inside. in_group c.args.motion.version p c.args.corner.mx c.args.corner.my vector_of 0 1 i j c.kind_of-kind.result c.group_vector-third.result c.kind_of-kind.ensures c.group_vector-third.ensures.x c.group_vector-third.ensures.y inside);
      fourth = from_part sample _ 4 x y 4 4 (x + 4) (y + 4) (omega arith) (omega arith) (λ i j inside. in_group c.args.motion.version p c.args.corner.mx c.args.corner.my vector_of 1 1 i j c.kind_of-kind.result c.group_vector-fourth.result c.kind_of-kind.ensures c.group_vector-fourth.ensures.x c.group_vector-fourth.ensures.y inside);
    }))

pub returns : goal.returns
returns c =
    let p : Samples = c.args.from.now.shown in
    placed_from (chroma_sample c.args.motion.version p c.args.corner.mx c.args.corner.my (block_vector c.args.motion.mode (mode_of c.args.motion.macroblock.now).vectors)) _ c.args.corner.across 8 (8 * c.args.corner.mx) (8 * c.args.corner.my) 0 0 _ _ _ _ (omega arith) (omega arith)
    (λ i j inside. in_whole c.args.motion.version p c.args.corner.mx c.args.corner.my c.args.motion.mode (mode_of c.args.motion.macroblock.now).vectors i j c.kind_of-kind.result c.args.whole (sym c.if-is_split.ensures) c.kind_of-kind.ensures (c.requires.whole (sym c.if-is_split.ensures)).0 (c.requires.whole (sym c.if-is_split.ensures)).1) c.predict_square.ensures
