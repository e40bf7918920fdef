use Rattle.std.proofs.Common.{◌<◌, List, ℕ, length, rules, arith, ap, subst, sym, ◌∙◌}
use Rattle.std.specs.Io.KnownBytes.{Appends}
use Rattle.stream_files.specs.Texts.{record_text}
use Rattle.packet_edits.specs.Saved.{padded_if}
use Rattle.packet_edits.proofs.Records.{element_is}
use Rattle.packet_edits.proofs.Restamped.{IsPart, one, part_all, part_more, part_none}
use Rattle.packet_edits.proofs.saving.write_restamped_records.Goals as goal

pub loop-i-init : goal.loop-i-init
loop-i-init g c = part_none c.args.pads c.args.head c.args.entries.now c.starting-clock.result (g.W.Write.contents c.args.w.now) c.starting-clock.ensures

pub loop-i-preserved : goal.loop-i-preserved
loop-i-preserved g c =
    let es = c.args.entries.now in
    let entry = c.get-entry.result.now in
    let within : c.loop-i.i < length es = search (rules, arith) in
    let wrote : Appends (g.W.Write.contents c.loop-i.w) (g.W.Write.contents c.write_stamped.new.w) (record_text (one c.args.pads c.loop-i.clock.stamp entry)) =
    subst (λ (stamp : ℕ). Appends (g.W.Write.contents c.loop-i.w) (g.W.Write.contents c.write_stamped.new.w) (record_text (one c.args.pads stamp entry))) c.stamp.ensures (
    subst (λ (bytes : List ℕ). Appends (g.W.Write.contents c.loop-i.w) (g.W.Write.contents c.write_stamped.new.w) (record_text (padded_if c.args.pads (record { stamp = c.stamp.result; bytes = bytes })))) c.as_slice.ensures c.in-Ok.ensures
    ) in
    part_more c.args.pads c.args.head es c.loop-i.i c.loop-i.clock c.pass.new.clock (g.W.Write.contents c.args.w.now) (g.W.Write.contents c.loop-i.w) (g.W.Write.contents c.write_stamped.new.w) entry within (element_is es c.loop-i.i entry c.get-entry.ensures) c.loop-i.invariant wrote c.in-Ok-pass.ensures

pub returns : goal.returns
returns g c = part_all c.args.pads c.args.head c.args.entries.now c.loop-i.i c.loop-i.clock (g.W.Write.contents c.args.w.now) (g.W.Write.contents c.loop-i.w) (search (rules, arith)) c.loop-i.invariant
