use Rattle.std.proofs.Common.{ℕ, ◌+◌, length, arith}
use Rattle.std.proofs.lemmas.List.FromFn.{fill_by_all}
use Rattle.pixel_planes.specs.Samples.{sample_at}
use Rattle.reference_frames.proofs.prediction.read_column.Goals as goal

pub returns : goal.returns
returns c = fill_by_all (λ (k : ℕ). sample_at c.args.plane.now.shown c.args.x (c.args.y + k)) c.loop-k.out (length c.args.out.now) 0 c.loop-k.auto.out (λ k less. c.loop-k.invariant k (omega arith))
