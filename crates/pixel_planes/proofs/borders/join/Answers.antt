use Rattle.std.proofs.Common.{◌≡◌, take, ap, sym, ◌∙◌}
use Rattle.std.proofs.Math.Nat.{mul_comm}
use Rattle.pixel_planes.proofs.BlockRows.{rows_at_front}
use Rattle.pixel_planes.proofs.borders.join.Goals as goal

pub returns-else-stride-width-clause-value : goal.returns-else-stride-width-clause-value
returns-else-stride-width-clause-value c =
    let flat : c.args.stride ≡ c.args.width = c.if-stride-width.false in
    let front : c.args.first ≡ 0 = c.requires.front flat in
    rw (flat, front) (ap (λ k. take k c.args.samples.now.items) (mul_comm c.args.width c.args.height) ∙ sym (rows_at_front c.args.samples.now.items c.args.width c.args.height))
