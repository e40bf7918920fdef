use Rattle.std.proofs.Common.{◌≡◌, length}
use Rattle.webm_files.specs.Tracks.{codec_in}
use Rattle.webm_files.proofs.tracks.codec_in.Given as goal

abbrev pub invariant-entries : goal.invariant-entries
invariant-entries l = codec_in l.tracks ≡ codec_in l.rest

abbrev pub decreases-entries : goal.decreases-entries
decreases-entries l = length l.rest
