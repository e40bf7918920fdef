use Rattle.std.proofs.KnownBytes.{Appends-trans}
use Rattle.std.proofs.lemmas.Result.{on_ok_weaker}
use Rattle.macroblock_lists.proofs.lines.write_line.Goals as goal

pub returns : goal.returns
returns g c = on_ok_weaker c.write_tokens.result (λ p. Appends-trans _ _ _ _ _ (Appends-trans _ _ _ _ _ (Appends-trans _ _ _ _ _ c.in_ok-write_place.ensures c.in_ok-write_record.ensures) c.in_ok-write_force.ensures) p) (c.write_tokens.ensures)
