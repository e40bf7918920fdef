use Rattle.std.proofs.Common.{◌≡◌, ◌≤◌, ◌+◌, ◌^◌, length, arith}
use Rattle.std.proofs.lemmas.List.{with_items_is}
use Rattle.std.specs.Vec.{with_items}
use Rattle.bool_coder.specs.Low.{number_of}
use Rattle.bool_coder.proofs.LowNumbers.{carried-value, carried-inside, carried-tail, tail-top}
use Rattle.bool_coder.proofs.encoder.Low.add.Goals as goal

pub add_one-requires : goal.add_one-requires
add_one-requires c =
    let low = c.args.self.now in
    let over : 2 ^ (8 + low.shifts) ≤ low.tail + c.args.amount = rw (tail-top low.shifts c.requires.tail.0) at c.if-self-top.true in
    rw c.deref_mut.ensures.value (carried-inside (number_of low.bytes.items) low.tail low.shifts (length low.bytes.items) c.args.amount over c.requires.inside)

pub returns-then-self-top-clause-value : goal.returns-then-self-top-clause-value
returns-then-self-top-clause-value c =
    let low = c.args.self.now in
    let over : 2 ^ (8 + low.shifts) ≤ low.tail + c.args.amount = rw (tail-top low.shifts c.requires.tail.0) at c.if-self-top.true in
    let len : length c.add_one.new.bytes ≡ low.bytes.len = omega arith in
    let items : (with_items low.bytes c.add_one.new.bytes).items ≡ c.add_one.new.bytes = with_items_is low.bytes c.add_one.new.bytes len in
    let one_more = rw c.deref_mut.ensures.value at c.add_one.ensures in
    rw (items, one_more, tail-top low.shifts c.requires.tail.0, carried-value (number_of low.bytes.items) (low.tail + c.args.amount) (2 ^ (8 + low.shifts)) over) (omega arith)

pub returns-then-self-top-clause-tail : goal.returns-then-self-top-clause-tail
returns-then-self-top-clause-tail c =
    let low = c.args.self.now in
    (c.requires.tail.0, rw (tail-top low.shifts c.requires.tail.0) (carried-tail low.tail low.shifts c.args.amount c.requires.tail.1 c.requires.small))
