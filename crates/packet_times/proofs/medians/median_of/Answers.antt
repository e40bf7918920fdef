use Rattle.std.proofs.Common.{◌≡◌, ◌-◌, ◌/◌, ◌∙◌, ℕ, List, max, length, filter, get_or, ap, arith}
use Rattle.packet_times.specs.Medians.{is_half, least}
use Rattle.packet_times.proofs.Middle.{middle_is_median}
use Rattle.packet_times.proofs.medians.median_of.Goals as goal

pub returns : goal.returns
returns c =
    let steps : List ℕ = c.args.steps.items in
    let sorted : List ℕ = c.sort.new.self.items in
    let middle : get_or sorted ((length sorted - 1) / 2) 0 ≡ least (filter (is_half steps) steps) = middle_is_median steps sorted c.in_ok-sort.ensures.permutation c.in_ok-sort.ensures.sorted in
    let read : c.middle_of.result ≡ get_or sorted ((length sorted - 1) / 2) 0 = c.middle_of.ensures ∙ ap (λ (xs : List ℕ). get_or xs ((length xs - 1) / 2) 0) c.deref.ensures.value in
    let most : c.max.result ≡ max 1 c.middle_of.result = omega (arith, c.max.ensures) in
    most ∙ ap (λ (n : ℕ). max 1 n) (read ∙ middle)
