-- The bytes that several reads take from a reader.
use Rattle.std.proofs.Common.{ℕ, ◌+◌, ◌≤◌, List, ◌++◌, length, Option, arith, length-append}
use Rattle.std.specs.Io.KnownBytes.{Consumes}
use Rattle.std.proofs.KnownBytes.{Consumes-trans}
use Rattle.stream_files.specs.Reading.{TakesAtMost}

-- first these bytes, and then at most this many
pub takes_more : (a b c : Option (List ℕ)) (taken : List ℕ) (more most : ℕ) → Consumes a b taken → TakesAtMost more b c → length taken + more ≤ most → TakesAtMost most a c
takes_more a b c taken more most first then few = record {
  bytes = taken ++ then.bytes;
  taken = Consumes-trans a b c taken then.bytes first then.taken;
  few = omega (arith, length-append taken then.bytes, then.few);
}
