use Rattle.std.proofs.Common.{◌*◌, ◌^◌, ◌<◌, subst, arith}
use Rattle.webm_files.proofs.RateLemmas.{beyond}
use Rattle.webm_files.proofs.rates.rate_of_step.Goals as goal

pub returns-in_err-units-clause-none : goal.returns-in_err-units-clause-none
returns-in_err-units-clause-none c =
    let not : c.args.head.now.scale * c.args.step < 2 ^ 64 → ⊥ = subst (λ s. s * c.args.step < 2 ^ 64 → ⊥) c.from.ensures c.in_err-units.ensures in
    rw c.from_residual.ensures (beyond c.args.head.now.rate (c.args.head.now.scale * c.args.step) (omega arith) (omega (arith, not)))
