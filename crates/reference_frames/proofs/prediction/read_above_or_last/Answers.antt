use Rattle.std.proofs.Common.{ℕ, ◌+◌, ◌-◌, ◌∙◌, length, arith}
use Rattle.std.specs.Prelude.{min}
use Rattle.std.proofs.lemmas.List.FromFn.{fill_by_all}
use Rattle.reference_frames.specs.Unfiltered.{above}
use Rattle.reference_frames.proofs.Sides.{above_within}
use Rattle.reference_frames.proofs.prediction.read_above_or_last.Goals as goal

pub returns-then-x-out : goal.returns-then-x-out
returns-then-x-out c = c.read_above.ensures ∙ above_within c.args.plane.now.shown c.args.x c.args.y (length c.args.out.now) (omega arith)

pub returns-after-loop-k : goal.returns-after-loop-k
returns-after-loop-k c = fill_by_all (λ (k : ℕ). above c.args.plane.now.shown (min (c.args.x + k) (c.args.plane.now.shown.width - 1)) c.args.y) c.loop-k.out (length c.args.out.now) 0 c.loop-k.auto.out (λ k less. c.loop-k.invariant k (omega arith))
