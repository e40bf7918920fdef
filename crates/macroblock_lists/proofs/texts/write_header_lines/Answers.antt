use Rattle.std.proofs.KnownBytes.{Appends-trans}
use Rattle.std.proofs.lemmas.Result.{on_ok_weaker}
use Rattle.macroblock_lists.proofs.texts.write_header_lines.Goals as goal

pub returns : goal.returns
returns g c = on_ok_weaker c.write_text-3.result (λ p. Appends-trans _ _ _ _ _ (Appends-trans _ _ _ _ _ (Appends-trans _ _ _ _ _ (Appends-trans _ _ _ _ _ (Appends-trans _ _ _ _ _ (Appends-trans _ _ _ _ _ c.in_ok-write_packet_line.ensures (c.in_ok-write_header_fields.ensures)) (c.in_ok-write_text.ensures)) (rw c.as_slice.ensures.value at c.in_ok-write_lengths.ensures)) (c.in_ok-write_text-2.ensures)) (c.in_ok-write_sizes_bits.ensures)) p) (c.write_text-3.ensures)
