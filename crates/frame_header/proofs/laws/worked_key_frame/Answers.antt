use Rattle.std.proofs.Common.{refl}
use Rattle.frame_header.specs.Header.{header_of}
use Rattle.frame_header.specs.Fields.{fields, partition_count, adjustment, filter, segmentation, colors}
use Rattle.frame_header.specs.TrailingFields.{quantizers, updated, skip_probability, trailing_fields}
use Rattle.frame_header.specs.Updates.{first_updated}
use Rattle.frame_header.specs.References.{refreshes}
use Rattle.bool_coder.specs.Reading.{literal, more_bits, signed}
use Rattle.bool_coder.specs.Reader.{read, renewed, trimmed}
use Rattle.frame_header.specs.Places.{token_ranges}
use Rattle.frame_header.proofs.laws.worked_key_frame.Goals as goal

pub returns : goal.returns
unfolding header_of fields partition_count adjustment filter segmentation colors quantizers updated first_updated refreshes skip_probability trailing_fields literal more_bits signed read renewed trimmed token_ranges
returns c = (refl, refl, refl, refl, refl, refl, refl, refl, refl, refl, refl)
