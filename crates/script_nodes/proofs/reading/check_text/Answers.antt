use Rattle.std.proofs.Common.{◌≡◌, ℕ, List, ◌<◌, length, sym, ap, ◌∙◌, arith}
use Rattle.std.proofs.lemmas.Bool.Decides.{nat_tests}
use Rattle.script_nodes.specs.Reading.{facts_of}
use Rattle.script_nodes.proofs.NodesRead.{node_of_facts, one_checked, one_left_out}
use Rattle.script_nodes.proofs.reading.check_text.Goals as goal

pub loop-left-preserved-then-is_full : goal.loop-left-preserved-then-is_full
loop-left-preserved-then-is_full c =
    let full : length c.loop-left.most.items ≡ 17 = grind (arith, nat_tests, c.is_full.ensures.value, c.if-is_full.true) in
    let node = node_of_facts (facts_of c.len.result c.args.sources c.deref.result.now) _ c.in_ok-facts.facts (sym c.check_node.ensures ∙ c.in_ok-facts.ensures.ok_part) in
    one_left_out _ _ _ c.with_more-flags.result _ c.in-Some.text _ _ node.0 (rw c.in-Some.is at c.loop-left.invariant) c.cut_part.ensures.cut node.1 full c.with_more-flags.ensures

pub loop-left-preserved : goal.loop-left-preserved
loop-left-preserved c =
    let room : length c.loop-left.most.items < 17 = grind (arith, nat_tests, c.is_full.ensures, c.if-is_full.false) in
    let node = node_of_facts (facts_of c.len.result c.args.sources c.deref.result.now) _ c.in_ok-facts.facts (sym c.check_node.ensures ∙ c.in_ok-facts.ensures.ok_part) in
    one_checked _ _ _ c.with-flags.result _ _ c.in-Some.text _ _ node.0 c.len.result c.in_ok-facts.facts (rw c.in-Some.is at c.loop-left.invariant) c.cut_part.ensures.cut node.1 room c.len.ensures.value (node.2 ∙ ap (λ (l : List ℕ). facts_of c.len.result c.args.sources l node.0) c.deref.ensures.0) c.with-flags.ensures c.push.ensures.items
