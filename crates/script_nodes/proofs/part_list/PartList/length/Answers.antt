use Rattle.std.proofs.Common.{ap, sym, ◌∙◌}
use Rattle.script_nodes.specs.PartLists.{ends_from}
use Rattle.script_nodes.proofs.PartSums.{start_is, start_of, whole_length}
use Rattle.script_nodes.proofs.part_list.PartList.length.Goals as goal

pub returns : goal.returns
returns c =
    whole_length c.args.lengths.now c.args.self.now c.deref-2.result.now c.start_at.result (c.deref-2.ensures.value ∙ c.self.invariant.summed ∙ ap (ends_from 0) c.self.view_is) (c.are_whole.ensures c.if-not-are_whole.false) c.requires.within
    (start_is c.deref-2.result.now c.len.result c.start_at.result c.start_at.ensures.first c.start_at.ensures.later ∙ ap (start_of 0 c.deref-2.result.now) (c.len.ensures ∙ sym c.deref-2.ensures.len))
