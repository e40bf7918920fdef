use Rattle.macroblock_lists.proofs.fields.write_partition_fields.Goals as goal

pub returns : goal.returns
returns g c = rw (c.log_of-log.ensures, c.len.ensures.value) at c.write_number_field.ensures
