-- Tests of what can be written.
use Rattle.std.specs.Prelude.{ℕ, ◌==◌, ◌&&◌, Bool, count_by, length, nat_lt}
use Rattle.std.specs.List.{list_all, list_any}
use Rattle.webm_writing.specs.declared.checks.TheConstants.{NAMES}
use Rattle.webm_writing.specs.declared.samples.Part.{Part}
use Rattle.webm_writing.specs.declared.samples.Sample.{Sample}
use Rattle.webm_writing.specs.Written.{Written}

unfoldable pub is_name : ℕ → Bool
is_name id = list_any (λ other. other == id) NAMES

abbrev pub part_fits : Part → Bool
part_fits part = is_name part.id && nat_lt (length part.content) 268435455

abbrev pub sample_fits : Sample → Bool
sample_fits sample = nat_lt sample.track 127 && nat_lt (length sample.bytes) 72057594037927931

-- everything but the samples and the length of the file
abbrev pub each_fits : Written → Bool
each_fits file = list_all part_fits file.parts && (nat_lt file.most 32768 && (nat_lt (length file.parts) 1048576 && nat_lt (count_by (λ sample. sample.is_key) file.samples) 6391321))
