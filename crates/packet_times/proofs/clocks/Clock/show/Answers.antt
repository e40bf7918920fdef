use Rattle.std.proofs.Common.{◌≡◌, List, map, ap, ◌∙◌, arith, refl}
use Rattle.packet_times.specs.Clocks.{added, opened}
use Rattle.packet_times.specs.Sums.{base_of}
use Rattle.packet_times.specs.declared.clocks.Sum.{Sum}
use Rattle.packet_times.proofs.Counted.{Base, shown_more}
use Rattle.packet_times.proofs.clocks.Clock.show.Goals as goal

pub returns : goal.returns
returns c head durations shown =
    let base : Base = base_of c.args.duration in
    let made : c.add_to.new.sums.items ≡ map (added c.args.duration) (opened base c.args.self.now.sums.items) =
    c.add_to.ensures ∙ ap (λ (xs : List Sum). map (added c.args.duration) xs) (c.in_ok-open_sum.ensures ∙ ap (λ (b : Base). opened b c.args.self.now.sums.items) c.base.ensures.value) in
    shown_more head durations c.args.duration c.args.self.now _ c.base_of_head.result c.deref.result.now c.due-due.result c.saturating_add.result shown refl made c.deref.ensures.value c.base_of_head.ensures.value c.due-due.ensures (omega arith) c.max-self.ensures
