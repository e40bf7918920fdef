use Rattle.std.proofs.Common.{arith, ◌≡◌, ◌-◌, ◌%◌, ◌∙◌, cond, nat_le}
use Rattle.packet_times.proofs.Rounding.{half_up, one_if}
use Rattle.packet_times.proofs.clocks.rounded.Goals as goal

pub returns : goal.returns
returns c =
    let up : c.from-up.result ≡ cond (nat_le (c.args.by - c.args.n % c.args.by) (c.args.n % c.args.by)) 1 0 = c.from-up.ensures ∙ one_if _ in
    omega (arith, half_up c.args.n c.args.by c.requires)
