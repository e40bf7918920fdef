use Rattle.std.proofs.Common.{◌≡◌, ◌-◌}
use Rattle.std.specs.List.{flat_map, range_with_len}
use Rattle.std.specs.Io.KnownBytes.{Appends}
use Rattle.macroblock_lists.specs.ProofsOnly.{IsEnough}
use Rattle.macroblock_lists.specs.Texts.{text_at}
use Rattle.macroblock_lists.proofs.listing.write_all_but_last.Given as goal

abbrev pub invariant-loop-place : goal.invariant-loop-place
invariant-loop-place g l = record {
  said : Appends (g.W.Write.contents l.fn.w) (g.W.Write.contents l.w) (flat_map (text_at l.what l.form l.tables l.packets) (range_with_len l.first (l.place - l.first)));
  enough : IsEnough l.tables l.packets l.place l.progress;
}
