use Rattle.std.proofs.KnownBytes.{Appends-trans}
use Rattle.std.proofs.lemmas.Result.{on_ok_weaker}
use Rattle.macroblock_lists.proofs.objects.write_tokens.Goals as goal

pub returns : goal.returns
returns g c =
    on_ok_weaker c.write_bits.result
    (λ p. Appends-trans _ _ _ _ _ (Appends-trans _ _ _ _ _ (Appends-trans _ _ _ _ _ c.in_ok-write_block_member.ensures (rw c.count_of.ensures at c.in_ok-write_number.ensures)) (rw (c.from.ensures, c.greatest_of.ensures) at c.in_ok-write_number-2.ensures)) p)
    c.write_bits.ensures
