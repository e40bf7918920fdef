use Rattle.std.proofs.Common.{refl}
use Rattle.frame_header.specs.Header.{header_of}
use Rattle.frame_header.specs.Fields.{fields, partition_count, adjustment, deltas, delta, four_deltas, filter, segmentation, colors}
use Rattle.frame_header.specs.TrailingFields.{quantizers, updated, skip_probability, trailing_fields}
use Rattle.frame_header.specs.Updates.{first_updated}
use Rattle.frame_header.specs.References.{refreshes, inter_refreshes, golden_copy, altref_copy}
use Rattle.frame_header.specs.InterFields.{reference_probabilities, y_modes, uv_modes, vector_probability, vectors, inter_fields}
use Rattle.frame_header.specs.Places.{token_ranges}
use Rattle.bool_coder.specs.Reading.{literal, more_bits, signed}
use Rattle.bool_coder.specs.Reader.{read, renewed, trimmed}
use Rattle.header_bits.proofs.laws.worked_totals.Goals as goal

pub returns : goal.returns
unfolding header_of fields partition_count adjustment deltas delta four_deltas filter segmentation colors quantizers updated first_updated refreshes inter_refreshes golden_copy altref_copy reference_probabilities y_modes uv_modes vector_probability vectors inter_fields skip_probability trailing_fields literal more_bits signed read renewed trimmed token_ranges
returns c = record { key = refl; inter = refl }
