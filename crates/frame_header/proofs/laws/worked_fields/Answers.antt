use Rattle.std.proofs.Common.{refl}
use Rattle.frame_header.specs.Fields.{fields, partition_count, adjustment, deltas, filter, segmentation, segment_updates, segment_data, map_probabilities, map_probability, four_signed, delta, four_deltas, colors}
use Rattle.frame_header.specs.TrailingFields.{quantizers, updated, skip_probability, trailing_fields}
use Rattle.frame_header.specs.Updates.{first_updated}
use Rattle.frame_header.specs.References.{refreshes}
use Rattle.bool_coder.specs.Reading.{literal, more_bits, signed}
use Rattle.bool_coder.specs.Reader.{read, renewed, trimmed}
use Rattle.frame_header.proofs.laws.worked_fields.Goals as goal

pub returns-clause-first : goal.returns-clause-first
unfolding fields partition_count adjustment deltas filter segmentation segment_updates segment_data map_probabilities map_probability four_signed colors literal more_bits signed delta four_deltas read renewed trimmed
returns-clause-first c = refl

pub returns-clause-trailing : goal.returns-clause-trailing
unfolding fields partition_count adjustment deltas filter segmentation segment_updates segment_data map_probabilities map_probability four_signed colors literal more_bits signed delta four_deltas read renewed trimmed quantizers updated first_updated refreshes skip_probability trailing_fields
returns-clause-trailing c = refl
