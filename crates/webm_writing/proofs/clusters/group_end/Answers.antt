use Rattle.std.proofs.Common.{◌≡◌, ◌+◌, ◌∷◌, drop, sym, subst, take}
use Rattle.webm_writing.specs.Written.{groups}
use Rattle.webm_writing.proofs.Grouped.{first_group}
use Rattle.webm_writing.proofs.clusters.group_end.Goals as goal

pub returns-in-Some-clause-groups : goal.returns-in-Some-clause-groups
returns-in-Some-clause-groups c =
    let end = 1 + c.staying.result in
    subst (λ s. groups c.args.most s ≡ take end s ∷ groups c.args.most (drop end s)) (sym c.in-Some.ensures.cases.0) (first_group c.args.most c.in-Some.first.now c.in-Some.others.now c.staying.result c.staying.ensures.value)
