use Rattle.std.proofs.Common.{ℕ, ◌<◌, length, get_or, leb, sym, ap, ◌∙◌, arith, rules}
use Rattle.std.proofs.lemmas.Bool.{leb-true, leb-false}
use Rattle.std.proofs.lemmas.List.Sorted.{IsPartitionPoint-from_clause, IsPartitionedBy-leb, IsNonDecreasingBy-from_default}
use Rattle.script_nodes.specs.PartLists.{ends_from}
use Rattle.script_nodes.proofs.PartSums.{IsPlacedAt, IsSplitAt, ends_sorted, place_is, start_here, whole_placed}
use Rattle.script_nodes.proofs.part_list.PartList.place.Goals as goal

pub index-part-requires : goal.index-part-requires
index-part-requires c =
    let ends = c.self.inside.ends.items in
    let p = c.partition_point-at.result in
    let summed = c.self.invariant.summed ∙ ap (ends_from 0) c.self.view_is in
    let sorted = IsPartitionedBy-leb (λ (y : ℕ). y) ends c.args.frame (IsNonDecreasingBy-from_default (λ (y : ℕ). y) ends 0 (ends_sorted ends c.args.self.now summed)) in
    let point = IsPartitionPoint-from_clause (λ (y : ℕ). leb y c.args.frame) ends p (rw c.deref-2.ensures.value at c.partition_point-at.ensures.partitioned) sorted (λ a r f' k. search rules) in
    let split : IsSplitAt c.args.frame ends p = record { before = λ j less. leb-true (get_or ends j 0) c.args.frame (point.0 j 0 (omega arith) less); after = λ j from less. leb-false (get_or ends j 0) c.args.frame (point.1 j 0 from less) } in
    let placed : IsPlacedAt c.args.lengths.now c.args.self.now 0 c.args.frame p = whole_placed c.args.lengths.now c.args.self.now ends c.args.frame p summed (c.are_whole.ensures c.if-not-are_whole.false) c.requires.within c.requires.inside split in
    let within : p < length c.self.inside.parts.items = rw c.self.view_is placed.within in
    search (rules, within)

pub overflow_sub-result : goal.overflow_sub-result
overflow_sub-result c =
    let ends = c.self.inside.ends.items in
    let p = c.partition_point-at.result in
    let summed = c.self.invariant.summed ∙ ap (ends_from 0) c.self.view_is in
    let sorted = IsPartitionedBy-leb (λ (y : ℕ). y) ends c.args.frame (IsNonDecreasingBy-from_default (λ (y : ℕ). y) ends 0 (ends_sorted ends c.args.self.now summed)) in
    let point = IsPartitionPoint-from_clause (λ (y : ℕ). leb y c.args.frame) ends p (rw c.deref-2.ensures.value at c.partition_point-at.ensures.partitioned) sorted (λ a r f' k. search rules) in
    let split : IsSplitAt c.args.frame ends p = record { before = λ j less. leb-true (get_or ends j 0) c.args.frame (point.0 j 0 (omega arith) less); after = λ j from less. leb-false (get_or ends j 0) c.args.frame (point.1 j 0 from less) } in
    let placed : IsPlacedAt c.args.lengths.now c.args.self.now 0 c.args.frame p = whole_placed c.args.lengths.now c.args.self.now ends c.args.frame p summed (c.are_whole.ensures c.if-not-are_whole.false) c.requires.within c.requires.inside split in
    let start = start_here c.deref-3.result.now c.args.self.now p c.start_at-start.result (c.deref-3.ensures.value ∙ summed) c.start_at-start.ensures.first c.start_at-start.ensures.later in
    omega (arith, start, placed.started)

pub overflow_add-result : goal.overflow_add-result
overflow_add-result c =
    let ends = c.self.inside.ends.items in
    let p = c.partition_point-at.result in
    let summed = c.self.invariant.summed ∙ ap (ends_from 0) c.self.view_is in
    let sorted = IsPartitionedBy-leb (λ (y : ℕ). y) ends c.args.frame (IsNonDecreasingBy-from_default (λ (y : ℕ). y) ends 0 (ends_sorted ends c.args.self.now summed)) in
    let point = IsPartitionPoint-from_clause (λ (y : ℕ). leb y c.args.frame) ends p (rw c.deref-2.ensures.value at c.partition_point-at.ensures.partitioned) sorted (λ a r f' k. search rules) in
    let split : IsSplitAt c.args.frame ends p = record { before = λ j less. leb-true (get_or ends j 0) c.args.frame (point.0 j 0 (omega arith) less); after = λ j from less. leb-false (get_or ends j 0) c.args.frame (point.1 j 0 from less) } in
    let placed : IsPlacedAt c.args.lengths.now c.args.self.now 0 c.args.frame p = whole_placed c.args.lengths.now c.args.self.now ends c.args.frame p summed (c.are_whole.ensures c.if-not-are_whole.false) c.requires.within c.requires.inside split in
    let start = start_here c.deref-3.result.now c.args.self.now p c.start_at-start.result (c.deref-3.ensures.value ∙ summed) c.start_at-start.ensures.first c.start_at-start.ensures.later in
    let part = c.index-part.result.now in
    let is = place_is c.args.lengths.now c.args.self.now c.args.frame p c.start_at-start.result part placed start (c.index-part.ensures ∙ ap (λ ps. get_or ps p part) c.self.view_is) in
    omega (arith, is.1, c.requires.small part.clip)

pub returns : goal.returns
returns c =
    let ends = c.self.inside.ends.items in
    let p = c.partition_point-at.result in
    let summed = c.self.invariant.summed ∙ ap (ends_from 0) c.self.view_is in
    let sorted = IsPartitionedBy-leb (λ (y : ℕ). y) ends c.args.frame (IsNonDecreasingBy-from_default (λ (y : ℕ). y) ends 0 (ends_sorted ends c.args.self.now summed)) in
    let point = IsPartitionPoint-from_clause (λ (y : ℕ). leb y c.args.frame) ends p (rw c.deref-2.ensures.value at c.partition_point-at.ensures.partitioned) sorted (λ a r f' k. search rules) in
    let split : IsSplitAt c.args.frame ends p = record { before = λ j less. leb-true (get_or ends j 0) c.args.frame (point.0 j 0 (omega arith) less); after = λ j from less. leb-false (get_or ends j 0) c.args.frame (point.1 j 0 from less) } in
    let placed : IsPlacedAt c.args.lengths.now c.args.self.now 0 c.args.frame p = whole_placed c.args.lengths.now c.args.self.now ends c.args.frame p summed (c.are_whole.ensures c.if-not-are_whole.false) c.requires.within c.requires.inside split in
    let start = start_here c.deref-3.result.now c.args.self.now p c.start_at-start.result (c.deref-3.ensures.value ∙ summed) c.start_at-start.ensures.first c.start_at-start.ensures.later in
    let part = c.index-part.result.now in
    let is = place_is c.args.lengths.now c.args.self.now c.args.frame p c.start_at-start.result part placed start (c.index-part.ensures ∙ ap (λ ps. get_or ps p part) c.self.view_is) in
    sym is.0
