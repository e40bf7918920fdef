use Rattle.macroblock_lists.proofs.segment_fields.write_map_field_if.Goals as goal

pub returns-then-segmentation : goal.returns-then-segmentation
returns-then-segmentation g c = rw c.if-segmentation.true c.write_numbers_field.ensures
