use Rattle.std.proofs.Common.{◌≡◌, length}
use Rattle.webm_files.specs.Tracks.{video_in}
use Rattle.webm_files.proofs.tracks.video_in.Given as goal

abbrev pub invariant-entries : goal.invariant-entries
invariant-entries l = video_in l.tracks ≡ video_in l.rest

abbrev pub decreases-entries : goal.decreases-entries
decreases-entries l = length l.rest
