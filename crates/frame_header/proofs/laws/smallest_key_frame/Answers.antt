use Rattle.std.proofs.Common.{refl}
use Rattle.frame_header.specs.Header.{header_of}
use Rattle.frame_header.specs.Fields.{fields, partition_count, adjustment, filter, segmentation, colors}
use Rattle.bool_coder.specs.Reading.{literal, more_bits}
use Rattle.bool_coder.specs.Reader.{read, renewed, trimmed}
use Rattle.frame_header.specs.Places.{token_ranges}
use Rattle.frame_header.proofs.laws.smallest_key_frame.Goals as goal

pub returns : goal.returns
unfolding header_of fields partition_count adjustment filter segmentation colors literal more_bits read renewed trimmed token_ranges
returns c = (refl, refl, refl)
