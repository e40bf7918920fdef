use Rattle.std.proofs.KnownBytes.{Appends-trans}
use Rattle.std.proofs.lemmas.Result.{on_ok_weaker}
use Rattle.stream_checks.proofs.objects.write_spot.Goals as goal

pub returns-in_ok-write_member-in-None : goal.returns-in_ok-write_member-in-None
returns-in_ok-write_member-in-None g c =
    rw c.in-None.is
    (on_ok_weaker c.write_member-in-None.result (λ p. Appends-trans _ _ _ _ _ c.in_ok-write_member-in-None.ensures p) c.write_member-in-None.ensures)
