use Rattle.std.proofs.Common.{refl}
use Rattle.frame_header.specs.Header.{header_of}
use Rattle.frame_header.specs.Fields.{fields, partition_count, adjustment, filter, segmentation, colors}
use Rattle.bool_coder.specs.Reading.{literal, more_bits}
use Rattle.bool_coder.specs.Reader.{read, renewed, trimmed}
use Rattle.frame_header.specs.Places.{token_ranges}
use Rattle.frame_header.proofs.laws.worked_causes.Goals as goal

pub returns-clause-token_sizes : goal.returns-clause-token_sizes
unfolding header_of fields partition_count adjustment filter segmentation colors literal more_bits read renewed trimmed token_ranges
returns-clause-token_sizes c = refl

pub returns-clause-token_partition : goal.returns-clause-token_partition
unfolding header_of fields partition_count adjustment filter segmentation colors literal more_bits read renewed trimmed token_ranges
returns-clause-token_partition c = refl
