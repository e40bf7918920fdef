use Rattle.std.proofs.Common.{◌≡◌, true, is_ok, refl, arith}
use Rattle.bool_coder.specs.Low.{number_of}
use Rattle.bool_coder.proofs.LowNumbers.{shifted-tail, shifted-value, moved-shifted, moved-byte}
use Rattle.bool_coder.proofs.encoder.Low.double.Goals as goal

pub overflow_cast-self : goal.overflow_cast-self
overflow_cast-self c =
    let low = c.args.self.now in
    let byte = moved-byte low.tail low.shifts c.args.count c.requires.tail.1 c.requires.tail.0 c.requires.few c.if-self-ge8.true in
    omega (arith, byte)

pub returns-then-self-ge8-clause-value : goal.returns-then-self-ge8-clause-value
returns-then-self-ge8-clause-value c =
    let low = c.args.self.now in
    let ok : is_ok c.push.result ≡ true = rw c.unwrap.ensures refl in
    let items = rw ok at c.push.ensures.items in
    moved-shifted low.bytes.items c.push.new.self.items low.tail low.shifts c.args.count c.requires.tail.1 c.requires.tail.0 c.requires.few c.if-self-ge8.true items

pub returns-else-self-ge8-clause-value : goal.returns-else-self-ge8-clause-value
returns-else-self-ge8-clause-value c =
    let low = c.args.self.now in
    let kept = shifted-tail low.tail low.shifts c.args.count c.requires.tail.1 c.requires.tail.0 c.requires.few in
    rw kept.0 (shifted-value (number_of low.bytes.items) low.tail low.shifts c.args.count)

pub returns-else-self-ge8-clause-tail : goal.returns-else-self-ge8-clause-tail
returns-else-self-ge8-clause-tail c =
    let low = c.args.self.now in
    let kept = shifted-tail low.tail low.shifts c.args.count c.requires.tail.1 c.requires.tail.0 c.requires.few in
    (omega arith, rw kept.0 kept.1)
