use Rattle.std.proofs.KnownBytes.{Appends-trans}
use Rattle.std.proofs.lemmas.Result.{on_ok_weaker}
use Rattle.macroblock_lists.proofs.texts.write_comment.Goals as goal

pub returns-in_ok-write_header_fields-in-Lines : goal.returns-in_ok-write_header_fields-in-Lines
returns-in_ok-write_header_fields-in-Lines g c = rw c.in-Lines.is (on_ok_weaker c.write_text.result (λ p. Appends-trans _ _ _ _ _ (Appends-trans _ _ _ _ _ c.in_ok-write_start-in-Lines.ensures (rw c.read_coded-coded.ensures at c.in_ok-write_header_fields-in-Lines.ensures)) p) (c.write_text.ensures))
