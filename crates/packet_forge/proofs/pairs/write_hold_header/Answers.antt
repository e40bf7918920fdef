use Rattle.std.proofs.lemmas.Result.{on_ok_weaker}
use Rattle.packet_forge.proofs.Written.{hold_header_written}
use Rattle.packet_forge.proofs.pairs.write_hold_header.Goals as goal

pub returns : goal.returns
returns c = on_ok_weaker c.write_vector_updates.result (λ p. hold_header_written c.args.updates.now _ _ _ _ _ _ c.in_ok-write_zeros.ensures c.in_ok-write_zeros-2.ensures c.in_ok-write_skip.ensures c.in_ok-write_references.ensures p) c.write_vector_updates.ensures
