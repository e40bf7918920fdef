use Rattle.std.proofs.Common.{◌≡◌, ◌*◌, ◌%◌, ◌^◌, ap, sym, ◌∙◌, arith}
use Rattle.std.proofs.Math.Nat.{mod-eq_of_lt}
use Rattle.std.proofs.lemmas.Bool.{le-leb, lt-leb}
use Rattle.bool_coder.specs.Odds.{prob_in}
use Rattle.bool_coder.specs.Reader.{read}
use Rattle.bool_coder.proofs.Windows.{bit-one, bit-zero}
use Rattle.bool_coder.proofs.decoder.Decoder.bit_by.Goals as goal

pub returns-then-self-least : goal.returns-then-self-least
returns-then-self-least c =
    let whole : c.self.inside.range * 2 ^ c.self.inside.shift % 2 ^ 32 ≡ c.self.inside.range * 2 ^ c.self.inside.shift = mod-eq_of_lt (omega (arith, c.self.invariant.1)) in
    let split = c.scaled_by-scaled.ensures in
    let reached = rw split at c.if-self-least.true in
    let bit = bit-one (prob_in c.args.odds) _ _ _ _ c.ready.new.self.bytes.now c.requires.0 c.self.invariant.0 c.self.invariant.1 c.ready.ensures.enough c.ready.ensures.room reached c.shift_of-count.ensures.few (rw (whole, split) at c.shift_of-count.ensures.large) (rw (whole, split) at c.shift_of-count.ensures.small) in
    rw (← c.self.view_is, whole, split)
    (ap (read (prob_in c.args.odds)) (sym (rw whole at c.ready.ensures.same)) ∙ rw (le-leb _ _ reached) at bit)

pub returns-else-self-least : goal.returns-else-self-least
returns-else-self-least c =
    let whole : c.self.inside.range * 2 ^ c.self.inside.shift % 2 ^ 32 ≡ c.self.inside.range * 2 ^ c.self.inside.shift = mod-eq_of_lt (omega (arith, c.self.invariant.1)) in
    let split = c.scaled_by-scaled.ensures in
    let missed = rw split at c.if-self-least.false in
    let bit = bit-zero (prob_in c.args.odds) _ _ _ _ c.ready.new.self.bytes.now c.requires.0 c.self.invariant.0 c.self.invariant.1 c.ready.ensures.enough c.ready.ensures.room missed c.shift_of_scaled-count.ensures.few (rw split at c.shift_of_scaled-count.ensures.large) (rw split at c.shift_of_scaled-count.ensures.small) in
    rw (← c.self.view_is, split)
    (ap (read (prob_in c.args.odds)) (sym (rw whole at c.ready.ensures.same)) ∙ rw (lt-leb _ _ missed) at bit)
