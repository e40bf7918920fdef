use Rattle.std.proofs.KnownBytes.{Appends-trans}
use Rattle.std.proofs.lemmas.Result.{on_ok_weaker}
use Rattle.stream_checks.proofs.lines.write_left.Goals as goal

pub returns-in_ok-write_number-in-Some : goal.returns-in_ok-write_number-in-Some
returns-in_ok-write_number-in-Some g c =
    rw c.in-Some.is
    (on_ok_weaker c.write_text.result
    (λ p. Appends-trans _ _ _ _ _ (Appends-trans _ _ _ _ _ c.in_ok-write_claimed-in-Some.ensures c.in_ok-write_number-in-Some.ensures) p)
    c.write_text.ensures)
