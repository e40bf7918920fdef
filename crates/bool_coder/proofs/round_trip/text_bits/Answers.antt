use Rattle.std.proofs.Common.{◌+◌, ◌*◌, ◌/◌, ◌^◌, ◌∙◌}
use Rattle.bool_coder.specs.CodeText.{padding}
use Rattle.bool_coder.proofs.ByteBits.{bit_string-bytes_of, bits_of-padded, whole_bytes}
use Rattle.bool_coder.proofs.round_trip.text_bits.Goals as goal

pub returns : goal.returns
returns c = λ code.
    bit_string-bytes_of ((code.shifts + 8 + padding code.shifts) / 8) (code.low * 2 ^ padding code.shifts) ∙ rw (whole_bytes code.shifts) (bits_of-padded (code.shifts + 8) (padding code.shifts) code.low)
