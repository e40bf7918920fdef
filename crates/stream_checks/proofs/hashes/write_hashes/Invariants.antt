use Rattle.std.proofs.Common.{◌≡◌, List, ◌++◌, drop}
use Rattle.std.specs.Io.KnownBytes.{Appends}
use Rattle.stream_checks.specs.Frames.{frames_from, frames_of}
use Rattle.stream_checks.specs.HashLines.{Frame}
use Rattle.stream_checks.specs.TimeBases.{IsTimeBase}
use Rattle.stream_checks.proofs.HashTexts.{has_frames, so_far}
use Rattle.stream_checks.proofs.hashes.write_hashes.Given as goal

abbrev pub invariant-loop-packet : goal.invariant-loop-packet
invariant-loop-packet g l = record {
  done : List Frame;
  whole : done ++ frames_from l.tables l.writing.decoding.place l.writing.decoding.progress (drop l.packet-index l.file.packets) ≡ frames_of l.tables l.file.packets;
  said : Appends (g.W.Write.contents l.fn.w) (g.W.Write.contents l.w) (so_far l.file.head l.writing.base done);
  begun : l.writing.has_begun ≡ has_frames done;
  place : l.writing.decoding.place ≡ l.packet-index;
  unit : IsTimeBase l.file.head l.writing.base;
}
