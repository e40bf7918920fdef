use Rattle.std.proofs.lemmas.Result.{on_ok_weaker}
use Rattle.packet_forge.proofs.Written.{blank_header_written}
use Rattle.packet_forge.proofs.pairs.write_blank_header.Goals as goal

pub returns : goal.returns
returns c = on_ok_weaker c.write_skip.result (λ p. blank_header_written c.args.updates.now _ _ _ _ c.in_ok-write_zeros.ensures c.in_ok-write_zeros-2.ensures p) c.write_skip.ensures
