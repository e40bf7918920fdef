use Rattle.std.proofs.Common.{◌≡◌}
use Rattle.std.proofs.lemmas.Result.{IfOk-weaker}
use Rattle.bool_coder.specs.CodeText.{text_of}
use Rattle.packet_forge.specs.Packets.{hold_partition}
use Rattle.packet_forge.proofs.Written.{hold_partition_written}
use Rattle.packet_forge.proofs.packets.write_hold.Goals as goal

pub returns : goal.returns
returns c =
    IfOk-weaker c.finish.result (λ bytes. bytes.items ≡ text_of c.write_hold_macroblocks.new.encoder) (λ bytes. bytes.items ≡ hold_partition c.args.tables.now c.args.width c.args.height)
    (λ bytes text. hold_partition_written c.args.tables.now c.args.width c.args.height _ _ _ _ _ _ bytes.items c.updates.ensures c.macroblocks-columns.ensures.value c.macroblocks.ensures.value c.new-encoder.ensures c.in_ok-write_hold_header.ensures c.in_ok-write_hold_macroblocks.ensures text)
    c.finish.ensures
