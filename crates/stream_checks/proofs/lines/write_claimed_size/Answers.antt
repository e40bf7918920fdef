use Rattle.std.proofs.KnownBytes.{Appends-trans}
use Rattle.std.proofs.lemmas.Result.{on_ok_weaker}
use Rattle.stream_checks.proofs.lines.write_claimed_size.Goals as goal

pub returns : goal.returns
returns g c =
    on_ok_weaker c.write_size-2.result (λ p. Appends-trans _ _ _ _ _ (Appends-trans _ _ _ _ _ (Appends-trans _ _ _ _ _ c.in_ok-write_text.ensures c.in_ok-write_size.ensures) c.in_ok-write_text-2.ensures) p) c.write_size-2.ensures
