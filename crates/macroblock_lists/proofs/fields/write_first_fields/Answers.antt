use Rattle.std.proofs.KnownBytes.{Appends-trans}
use Rattle.std.proofs.lemmas.Result.{on_ok_weaker}
use Rattle.macroblock_lists.proofs.fields.write_first_fields.Goals as goal

pub returns : goal.returns
returns g c = on_ok_weaker c.write_partition_fields.result (λ p. Appends-trans _ _ _ _ _ (Appends-trans _ _ _ _ _ (Appends-trans _ _ _ _ _ c.in_ok-write_frame_fields.ensures c.in_ok-write_segment_fields.ensures) c.in_ok-write_filter_fields.ensures) p) (c.write_partition_fields.ensures)
