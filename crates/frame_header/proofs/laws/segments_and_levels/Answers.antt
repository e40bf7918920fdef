use Rattle.std.proofs.Common.{refl}
use Rattle.frame_header.specs.Header.{header_of}
use Rattle.frame_header.specs.Fields.{fields, partition_count, adjustment, filter, segmentation, segment_updates, colors}
use Rattle.bool_coder.specs.Reading.{literal, more_bits}
use Rattle.bool_coder.specs.Reader.{read, renewed, trimmed}
use Rattle.frame_header.specs.Places.{token_ranges}
use Rattle.frame_header.proofs.laws.segments_and_levels.Goals as goal

pub returns-clause-segments : goal.returns-clause-segments
unfolding header_of fields partition_count adjustment filter segmentation segment_updates colors literal more_bits read renewed trimmed token_ranges
returns-clause-segments c = refl

pub returns-clause-level : goal.returns-clause-level
unfolding header_of fields partition_count adjustment filter segmentation colors literal more_bits read renewed trimmed token_ranges
returns-clause-level c = refl

pub returns-clause-later_segments : goal.returns-clause-later_segments
unfolding header_of fields partition_count adjustment filter segmentation segment_updates colors literal more_bits read renewed trimmed token_ranges
returns-clause-later_segments c = refl
