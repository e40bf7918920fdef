use Rattle.std.proofs.Common.{◌≡◌, List, ℕ, ◌++◌, drop}
use Rattle.std.specs.Io.KnownBytes.{Appends}
use Rattle.hex.specs.Hex.{encode_lower}
use Rattle.request_lines.proofs.hex_text.write_digits.Given as goal

abbrev pub invariant-loop-byte : goal.invariant-loop-byte
invariant-loop-byte g l = record {
  done : List ℕ;
  whole : done ++ encode_lower (drop l.byte-index l.bytes) ≡ encode_lower l.bytes;
  said : Appends (g.W.Write.contents l.fn.w) (g.W.Write.contents l.w) done;
}
