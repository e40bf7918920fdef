use Rattle.std.proofs.Common.{◌≡◌, List, ℕ, ◌++◌, drop}
use Rattle.std.specs.List.{flat_map}
use Rattle.std.specs.Io.KnownBytes.{Appends}
use Rattle.macroblock_lists.specs.Parts.{after_comma, mode_text}
use Rattle.macroblock_lists.proofs.parts.write_more_modes.Given as goal

abbrev pub invariant-loop-mode : goal.invariant-loop-mode
invariant-loop-mode g l = record {
  done : List ℕ;
  whole : done ++ flat_map (after_comma (mode_text l.form)) (drop l.mode-index l.modes) ≡ flat_map (after_comma (mode_text l.form)) l.modes;
  said : Appends (g.W.Write.contents l.fn.w) (g.W.Write.contents l.w) done;
}
