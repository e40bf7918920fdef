use Rattle.std.proofs.Common.{◌≡◌, ◌++◌, length}
use Rattle.webm_files.specs.Tracks.{numbers_of}
use Rattle.webm_files.proofs.tracks.numbers_of.Given as goal

abbrev pub invariant-entries : goal.invariant-entries
invariant-entries l = numbers_of l.tracks ≡ l.numbers.items ++ numbers_of l.rest

abbrev pub decreases-entries : goal.decreases-entries
decreases-entries l = length l.rest
