use Rattle.std.proofs.KnownBytes.{Appends-trans}
use Rattle.std.proofs.lemmas.Result.{on_ok_weaker}
use Rattle.macroblock_lists.proofs.packet_texts.write_commented.Goals as goal

pub returns-clause-written : goal.returns-clause-written
returns-clause-written g c = on_ok_weaker c.write_frame.result (λ p. Appends-trans _ _ _ _ _ c.in_ok-write_comment.ensures p) c.write_frame.ensures.written
