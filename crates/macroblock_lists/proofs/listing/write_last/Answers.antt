use Rattle.std.proofs.Common.{◌≡◌, List, Some, length, slice_get, ap, refl, sym, ◌∙◌}
use Rattle.std.proofs.lemmas.Option.{slice_get_read}
use Rattle.stream_files.specs.declared.packets.Packet.{Packet}
use Rattle.macroblock_lists.proofs.PacketLemmas.{packet_enough}
use Rattle.macroblock_lists.proofs.listing.write_last.Goals as goal

pub returns-clause-written : goal.returns-clause-written
returns-clause-written g c =
    let packet : Packet = c.index-packets-target.result in
    let bytes : c.as_slice-packet.result.now ≡ packet.bytes = c.as_slice-packet.ensures ∙ ap (λ (p : Packet). p.bytes) (sym c.index-packets-target.is) in
    let found : slice_get c.args.packets.now c.args.target.place ≡ Some packet = slice_get_read c.args.packets.now (length c.args.packets.now) c.args.target.place packet refl c.requires.inside c.index-packets-target.is in
    let text = packet_enough c.args.target.what c.args.target.form c.args.tables.now c.args.packets.now c.args.target.place packet c.args.progress.now found c.requires.before in
    rw (bytes, text) at c.write_packet.ensures.written

pub returns-clause-early : goal.returns-clause-early
returns-clause-early g c =
    let packet : Packet = c.index-packets-target.result in
    let bytes : c.as_slice-packet.result.now ≡ packet.bytes = c.as_slice-packet.ensures ∙ ap (λ (p : Packet). p.bytes) (sym c.index-packets-target.is) in
    let found : slice_get c.args.packets.now c.args.target.place ≡ Some packet = slice_get_read c.args.packets.now (length c.args.packets.now) c.args.target.place packet refl c.requires.inside c.index-packets-target.is in
    let text = packet_enough c.args.target.what c.args.target.form c.args.tables.now c.args.packets.now c.args.target.place packet c.args.progress.now found c.requires.before in
    rw (bytes, text) at c.write_packet.ensures.early
