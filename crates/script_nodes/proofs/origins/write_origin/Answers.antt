use Rattle.std.proofs.KnownBytes.{Appends-trans}
use Rattle.std.proofs.lemmas.Result.{on_ok_weaker}
use Rattle.script_nodes.proofs.origins.write_origin.Goals as goal

pub returns : goal.returns
returns g c = on_ok_weaker c.write_all-2.result
    (λ p. Appends-trans _ _ _ _ _ (Appends-trans _ _ _ _ _ (Appends-trans _ _ _ _ _ c.in_ok-write_members.ensures c.in_ok-write_all.ensures.bytes) c.in_ok-write_numbers.ensures) p)
    c.write_all-2.ensures.bytes
