use Rattle.std.proofs.Common.{◌≡◌, ◌+◌, ◌-◌, ◌*◌, ◌/◌, ◌<◌, sym, ap, ◌∙◌, arith}
use Rattle.std.proofs.Math.Nat.{mul-div_cancel}
use Rattle.script_nodes.specs.declared.nodes.Ramp.{Ramp}
use Rattle.script_nodes.specs.Frames.{weight_at}
use Rattle.script_nodes.proofs.Ramps.{weight_behind, weight_between}
use Rattle.script_nodes.proofs.laws.ramps_meet_their_ends.Goals as goal

first_is : (r : Ramp) → 0 < r.count → weight_at r r.first ≡ r.start
first_is r some =
    let none : r.first - r.first ≡ 0 = omega arith in
    let all : r.start * (r.count - (r.first - r.first)) + r.end * (r.first - r.first) ≡ r.start * r.count = (let keep : r.count - (r.first - r.first) ≡ r.count = omega arith in rw (keep, none) (omega arith)) in
    sym (weight_between r r.first (omega arith) (omega arith)) ∙ ap (λ k. k / r.count) all ∙ mul-div_cancel r.start some

pub returns : goal.returns
returns c = λ ramp some. (first_is ramp some, sym (weight_behind ramp (ramp.first + ramp.count) (omega arith) (omega arith)))
