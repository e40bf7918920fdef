use Rattle.std.proofs.KnownBytes.{Appends-trans}
use Rattle.std.proofs.lemmas.Result.{on_ok_weaker}
use Rattle.stream_facts.proofs.refusals.write_own.Goals as goal

pub returns-in_ok-write_cause-in-Err : goal.returns-in_ok-write_cause-in-Err
returns-in_ok-write_cause-in-Err g c =
    rw c.in-Err.is
    (on_ok_weaker c.write_text.result
    (λ p. Appends-trans _ _ _ _ _ (Appends-trans _ _ _ _ _ c.in_ok-write_start-in-Err.ensures c.in_ok-write_cause-in-Err.ensures) p)
    c.write_text.ensures)
