use Rattle.std.proofs.Common.{◌≡◌, List, ◌<◌, ◌≤◌, ◌∙◌, Err, false, length, refl, subst, sym, arith, rules}
use Rattle.std.specs.Prelude.{IfErr, is_ok}
use Rattle.packet_edits.specs.Edits.{Listing}
use Rattle.packet_edits.specs.Marks.{StoreValue}
use Rattle.state_cache.specs.declared.outcomes.Kept.{Kept}
use Rattle.state_cache.specs.declared.outcomes.PacketKey.{PacketKey}
use Rattle.state_cache.specs.declared.outcomes.ReachFault.{ReachFault}
use Rattle.state_cache.specs.Costs.{Costs}
use Rattle.state_cache.specs.Reaching.{CacheValue, Reaches, view_of}
use Rattle.state_cache.specs.Faults.{is_share_fault}
use Rattle.state_cache.specs.Views.{IsCoherent, cached_in, is_usable, marked_packets}
use Rattle.state_cache.specs.Walks.{IsWalk}
use Rattle.state_cache.proofs.Reached.{answer_fault, length_seens, not_reached, reaches_answer, reaches_fault}
use Rattle.state_cache.proofs.Settled.{first_unsettled}
use Rattle.state_cache.proofs.Walked.{walk_begins, walk_ends, walk_more, walk_refused}
use Rattle.state_cache.proofs.WalkSteps.{walk_arrives, walk_others, walk_refused as refused_walk, walking_begins, walking_more}
use Rattle.state_cache.proofs.cache.Cache.reach.Goals as goal

pub loop-next-init : goal.loop-next-init
loop-next-init c =
    record {
      list = refl;
      coherent = c.requires.coherent;
      next = c.next_step-next.ensures;
      so_far = walk_begins c.args.tables.now c.args.source c.args.store.now c.args.self.now c.args.place c.next_step-next.result c.next_step-next.ensures c.prove_few.ensures.most;
      walk = walking_begins c.args.tables.now c.args.source c.args.store.now c.args.self.now c.args.place c.next_step-next.result c.next_step-next.ensures;
    }

pub loop-next-preserved : goal.loop-next-preserved
loop-next-preserved c =
    let inv = c.loop-next.invariant in
    let low : c.loop-next.next ≤ c.args.place = search (rules, arith) in
    record {
      list = c.advance.ensures.list ∙ inv.list;
      coherent = c.advance.ensures.coherent;
      next = c.in-Ok.ensures.advances.first;
      so_far = walk_more c.args.tables.now c.args.source c.args.store.now c.loop-next.store c.args.self.now c.loop-next.self c.args.place c.loop-next.next inv.so_far low inv.list c.advance.new.store c.advance.new.self c.in-Ok.further c.in-Ok.ensures.advances
          c.advance.ensures.counted c.advance.ensures.capacity c.advance.ensures.list;
      walk = walking_more c.args.tables.now c.args.source c.args.store.now c.loop-next.store c.advance.new.store c.args.self.now c.loop-next.self c.advance.new.self c.args.place c.loop-next.next c.in-Ok.further inv.walk c.in-Ok.ensures.walks;
    }

pub returns-in-Err-clause-reaches : goal.returns-in-Err-clause-reaches
returns-in-Err-clause-reaches c =
    let inv = c.loop-next.invariant in
    let within : c.args.place < length c.loop-next.store.list.entries = subst (λ (l : Listing). c.args.place < length l.entries) (sym inv.list) c.requires.place in
    let low : c.loop-next.next ≤ c.args.place = search (rules, arith) in
    subst (λ (l : Listing). Reaches c.args.tables.now l c.args.place (Err c.in-Err.fault)) inv.list
    (reaches_fault c.args.tables.now c.loop-next.store.list c.loop-next.store.marks (view_of c.args.source c.loop-next.self) inv.coherent c.args.place c.loop-next.next c.in-Err.fault within low inv.next c.in-Err.ensures.step_result)

pub returns-in-Err-clause-costs : goal.returns-in-Err-clause-costs
returns-in-Err-clause-costs c =
    let inv = c.loop-next.invariant in
    let within : c.args.place < length c.loop-next.store.list.entries = subst (λ (l : Listing). c.args.place < length l.entries) (sym inv.list) c.requires.place in
    let long = length_seens c.loop-next.store.list.entries c.loop-next.store.marks in
    let low : c.loop-next.next ≤ c.args.place = search (rules, arith) in
    walk_refused c.args.tables.now c.args.source c.args.store.now c.loop-next.store c.args.self.now c.loop-next.self c.args.place c.loop-next.next inv.so_far low inv.list c.advance.new.store c.advance.new.self
    (first_unsettled c.args.tables.now (marked_packets c.loop-next.store) (view_of c.args.source c.loop-next.self) c.args.place c.loop-next.next inv.next (omega (arith, within, long)))
    c.advance.ensures.counted c.in-Err.ensures.refused.1 c.advance.ensures.capacity c.prove_few-in-Err.ensures.bounded c.prove_few-in-Err.ensures.within

pub returns-clause-reaches : goal.returns-clause-reaches
returns-clause-reaches c =
    let inv = c.loop-next.invariant in
    let within : c.args.place < length c.loop-next.store.list.entries = subst (λ (l : Listing). c.args.place < length l.entries) (sym inv.list) c.requires.place in
    let up : c.args.place < c.loop-next.next = search (rules, arith) in
    subst (λ (l : Listing). Reaches c.args.tables.now l c.args.place c.answer.result) inv.list
    (reaches_answer c.args.tables.now c.loop-next.store.list c.loop-next.store.marks (view_of c.args.source c.loop-next.self) inv.coherent c.args.place c.answer.result within (inv.next.arrived up) c.answer.ensures.kept)

pub returns-in-Err-clause-fault : goal.returns-in-Err-clause-fault
returns-in-Err-clause-fault c =
    let l = c.loop-next in
    let low : l.next ≤ c.args.place = search (rules, arith) in
    subst (λ (s : StoreValue). is_usable (marked_packets s) (view_of c.args.source c.advance.new.self) c.args.place ≡ is_share_fault c.in-Err.fault) (sym c.in-Err.ensures.refused.0)
    (subst (λ (es : List (PacketKey × Kept)). is_usable (marked_packets l.store) (cached_in es c.args.source) c.args.place ≡ is_share_fault c.in-Err.fault) (sym c.in-Err.ensures.refused.1)
    (not_reached c.args.tables.now l.store.list (marked_packets l.store) (view_of c.args.source l.self) c.args.place l.next c.in-Err.fault low l.invariant.next c.in-Err.ensures.step_result))

pub returns-clause-fault : goal.returns-clause-fault
returns-clause-fault c =
    let l = c.loop-next in
    let up : c.args.place < l.next = search (rules, arith) in
    subst (λ (v : CacheValue). IfErr c.answer.result (λ (fault : ReachFault). is_usable (marked_packets l.store) (view_of c.args.source v) c.args.place ≡ is_share_fault fault)) (sym c.answer.ensures.same)
    (answer_fault (marked_packets l.store) (view_of c.args.source l.self) c.args.place c.answer.result (l.invariant.next.arrived up) c.answer.ensures.kept)

pub returns-clause-costs : goal.returns-clause-costs
returns-clause-costs c =
    let inv = c.loop-next.invariant in
    let up : c.args.place < c.loop-next.next = search (rules, arith) in
    subst (λ (v : CacheValue). Costs c.args.tables.now c.args.source c.args.store.now c.args.self.now c.args.place (is_ok c.answer.result) c.loop-next.store v) (sym c.answer.ensures.same)
    (walk_ends c.args.tables.now c.args.source c.args.store.now c.loop-next.store c.args.self.now c.loop-next.self c.args.place c.loop-next.next inv.so_far inv.next up c.answer.ensures.bounded c.answer.ensures.within (is_ok c.answer.result))

pub returns-in-Err-clause-walks : goal.returns-in-Err-clause-walks
returns-in-Err-clause-walks c =
    refused_walk c.args.tables.now c.args.source c.args.store.now c.loop-next.store c.advance.new.store c.args.self.now c.loop-next.self c.advance.new.self c.args.place c.loop-next.next c.loop-next.invariant.walk (search (rules, arith)) c.in-Err.ensures.refused.0 c.in-Err.ensures.refused.1
    c.advance.ensures.capacity c.advance.ensures.counted

pub returns-clause-walks : goal.returns-clause-walks
returns-clause-walks c =
    let up : c.args.place < c.loop-next.next = search (rules, arith) in
    subst (λ (v : CacheValue). IsWalk c.args.tables.now c.args.source c.args.store.now c.args.self.now c.args.place (is_ok c.answer.result) c.loop-next.store v) (sym c.answer.ensures.same)
    (walk_arrives c.args.tables.now c.args.source c.args.store.now c.loop-next.store c.args.self.now c.loop-next.self c.args.place c.loop-next.next (is_ok c.answer.result) c.loop-next.invariant.walk up)

pub returns-in-Err-clause-others : goal.returns-in-Err-clause-others
returns-in-Err-clause-others c = walk_others c.args.tables.now c.args.source c.args.store.now c.advance.new.store c.args.self.now c.advance.new.self c.args.place false (returns-in-Err-clause-walks c)

pub returns-clause-others : goal.returns-clause-others
returns-clause-others c = walk_others c.args.tables.now c.args.source c.args.store.now c.loop-next.store c.args.self.now c.answer.new.self c.args.place (is_ok c.answer.result) (returns-clause-walks c)

pub returns-clause-coherent : goal.returns-clause-coherent
returns-clause-coherent c = subst (λ (v : CacheValue). IsCoherent c.args.tables.now (marked_packets c.loop-next.store) (view_of c.args.source v)) (sym c.answer.ensures.same) c.loop-next.invariant.coherent
