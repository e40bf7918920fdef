use Rattle.std.proofs.Common.{◌≡◌, ℕ, ◌+◌, ◌*◌, ◌<◌, ◌≤◌, ◌∷◌, length, get_or, leb, ap, ◌∙◌, arith, rules}
use Rattle.std.proofs.lemmas.Bool.{leb-true, leb-false}
use Rattle.std.proofs.lemmas.List.Sorted.{IsPartitionPoint-from_clause, IsPartitionedBy-leb, IsNonDecreasingBy-from_default}
use Rattle.packet_edits.specs.FlagCounts.{flagged_before}
use Rattle.packet_edits.proofs.Runs.{counted_runs, counts_ascend, runs_within}
use Rattle.packet_edits.proofs.flag_index.FlagIndex.runs_within.Goals as goal

pub returns-clause-whole : goal.returns-clause-whole
returns-clause-whole c =
    let bound : c.partition_point.result ≤ length c.self.inside.counts.items = search (rules, arith) in
    let same : length c.self.inside.flags ≡ length c.args.self.now = ap length c.self.view_is in
    omega (arith, bound, same, c.self.invariant.many)

pub returns-clause-up_to : goal.returns-clause-up_to
returns-clause-up_to c =
    let counts = c.self.inside.counts.items in
    let flags = c.self.inside.flags in
    let p = c.partition_point.result in
    let sorted = IsPartitionedBy-leb (λ (y : ℕ). y) counts c.args.n (IsNonDecreasingBy-from_default (λ (y : ℕ). y) counts 0 (counts_ascend counts flags c.self.invariant)) in
    let point = IsPartitionPoint-from_clause (λ (y : ℕ). leb y c.args.n) counts p (rw c.deref.ensures.value at c.partition_point.ensures.partitioned) sorted (λ a r f' k. search rules) in
    let enough : get_or (0 ∷ counts) p 0 ≤ c.args.n = runs_within counts c.args.n p (λ i less. leb-true (get_or counts i 0) c.args.n (point.0 i 0 (omega arith) less)) in
    let bound : p ≤ length counts = search (rules, arith) in
    let is : get_or (0 ∷ counts) p 0 ≡ flagged_before (p * 1024) c.args.self.now = counted_runs counts flags p c.self.invariant bound ∙ ap (flagged_before (p * 1024)) c.self.view_is in
    omega (arith, enough, is)

pub returns-clause-after : goal.returns-clause-after
returns-clause-after c within =
    let counts = c.self.inside.counts.items in
    let flags = c.self.inside.flags in
    let p = c.partition_point.result in
    let same : length flags ≡ length c.args.self.now = ap length c.self.view_is in
    let in_ : p < length counts = omega (arith, within, same, c.self.invariant.many) in
    let sorted = IsPartitionedBy-leb (λ (y : ℕ). y) counts c.args.n (IsNonDecreasingBy-from_default (λ (y : ℕ). y) counts 0 (counts_ascend counts flags c.self.invariant)) in
    let point = IsPartitionPoint-from_clause (λ (y : ℕ). leb y c.args.n) counts p (rw c.deref.ensures.value at c.partition_point.ensures.partitioned) sorted (λ a r f' k. search rules) in
    let more : c.args.n < get_or counts p 0 = leb-false (get_or counts p 0) c.args.n (point.1 p 0 (omega arith) in_) in
    let is : get_or counts p 0 ≡ flagged_before ((p + 1) * 1024) c.args.self.now = c.self.invariant.each p in_ ∙ ap (flagged_before ((p + 1) * 1024)) c.self.view_is in
    omega (arith, more, is)
