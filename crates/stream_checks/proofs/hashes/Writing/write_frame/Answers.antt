use Rattle.std.proofs.KnownBytes.{Appends-trans}
use Rattle.stream_checks.proofs.hashes.Writing.write_frame.Goals as goal

pub returns-in-Ok-clause-added : goal.returns-in-Ok-clause-added
returns-in-Ok-clause-added g c =
    Appends-trans _ _ _ _ _ (rw (c.width.ensures.value, c.height.ensures.value) at c.in_ok-write_head_once.ensures.head) c.in-Ok.ensures
