use Rattle.std.proofs.KnownBytes.{Appends-trans}
use Rattle.std.proofs.lemmas.Result.{on_ok_weaker}
use Rattle.command_lines.proofs.formats.write_container.Goals as goal

pub returns : goal.returns
returns g c = on_ok_weaker c.write_coding_command.result (λ p. Appends-trans _ _ _ _ _ c.in_ok-write_copy_command.ensures p) c.write_coding_command.ensures
