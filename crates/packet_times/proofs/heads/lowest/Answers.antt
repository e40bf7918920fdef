use Rattle.std.proofs.Common.{◌⊎◌, ◌≤◌, ◌/◌, ◌^◌, inl, inr, arith}
use Rattle.packet_times.proofs.Units.{gcd_positive, lowest_is, none_lowest}
use Rattle.packet_times.proofs.heads.lowest.Goals.{then-rate-from-via-then-rate-from, then-rate-from-via-else-rate-from+then-scale-from}
use Rattle.packet_times.proofs.heads.lowest.Goals as goal

pub nonzero_div-rate : goal.nonzero_div-rate
nonzero_div-rate c = gcd_positive c.args.rate c.args.scale c.gcd-by.result c.requires.0 c.gcd-by.ensures

pub nonzero_div-scale : goal.nonzero_div-scale
nonzero_div-scale c = gcd_positive c.args.rate c.args.scale c.gcd-by.result c.requires.0 c.gcd-by.ensures

pub returns-then-rate-from-clause-none : goal.returns-then-rate-from-clause-none
returns-then-rate-from-clause-none c =
    let long : (2 ^ 32 ≤ c.args.rate / c.gcd-by.result) ⊎ (2 ^ 32 ≤ c.args.scale / c.gcd-by.result) =
    elim c.then-rate-from.branch [ then-rate-from-via-then-rate-from w ↦ inl (omega (arith, w)) | then-rate-from-via-else-rate-from+then-scale-from w ↦ inr (omega (arith, w)) ] in
    none_lowest c.args.rate c.args.scale c.gcd-by.result c.requires c.gcd-by.ensures long

pub returns-clause-lowest : goal.returns-clause-lowest
returns-clause-lowest c = lowest_is c.args.rate c.args.scale c.gcd-by.result c.requires c.gcd-by.ensures
