use Rattle.std.proofs.Common.{◌≡◌, ◌*◌, ◌%◌, ◌^◌, ap, sym, ◌∙◌, inl, inr, arith}
use Rattle.std.proofs.Math.Nat.{mod-eq_of_lt}
use Rattle.std.proofs.lemmas.Bool.{le-leb, lt-leb}
use Rattle.bool_coder.specs.Reader.{read}
use Rattle.bool_coder.proofs.EvenOdds.{even-shifted, even-kept}
use Rattle.bool_coder.proofs.decoder.Decoder.flag.Goals as goal
use Rattle.bool_coder.proofs.decoder.Decoder.flag.Goals.{then-bit, else-bit}

pub returns-then-half-lt128 : goal.returns-then-half-lt128
returns-then-half-lt128 c =
    let whole : c.self.inside.range * 2 ^ c.self.inside.shift % 2 ^ 32 ≡ c.self.inside.range * 2 ^ c.self.inside.shift = mod-eq_of_lt (omega (arith, c.self.invariant.1)) in
    let start = ap (read 128) (sym (rw whole at c.ready.ensures.same)) in
    rw (← c.self.view_is, whole)
    (start ∙ even-shifted _ _ _ _ _ _ c.self.invariant.0 c.self.invariant.1 c.ready.ensures.enough c.ready.ensures.room (rw whole at c.if-half-lt128.true) (elim c.if-bit.branch [
      | then-bit w ↦ let reached = rw whole at w.if-bit.true in inl (reached, rw whole at w.self-is, rw (c.from.ensures, whole, le-leb _ _ reached) (omega arith))
      | else-bit w ↦ let missed = rw whole at w.if-bit.false in inr (missed, w.self-is, rw (c.from.ensures, whole, lt-leb _ _ missed) (omega arith))
    ]))

pub returns-else-half-lt128 : goal.returns-else-half-lt128
returns-else-half-lt128 c =
    let whole : c.self.inside.range * 2 ^ c.self.inside.shift % 2 ^ 32 ≡ c.self.inside.range * 2 ^ c.self.inside.shift = mod-eq_of_lt (omega (arith, c.self.invariant.1)) in
    let start = ap (read 128) (sym (rw whole at c.ready.ensures.same)) in
    rw (← c.self.view_is, whole)
    (start ∙ even-kept _ _ _ _ _ _ c.self.invariant.0 c.self.invariant.1 c.ready.ensures.enough c.ready.ensures.room (rw whole at c.if-half-lt128.false) (elim c.if-bit.branch [
      | then-bit w ↦ let reached = rw whole at w.if-bit.true in inl (reached, rw whole at w.self-is, rw (c.from.ensures, whole, le-leb _ _ reached) (omega arith))
      | else-bit w ↦ let missed = rw whole at w.if-bit.false in inr (missed, w.self-is, rw (c.from.ensures, whole, lt-leb _ _ missed) (omega arith))
    ]))
