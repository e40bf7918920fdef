use Rattle.std.proofs.Common.{◌<◌, length, arith, rules}
use Rattle.packet_edits.proofs.Whole.{whole_move}
use Rattle.packet_edits.proofs.store.Store.move_to.Goals as goal

pub invariant_of-self : goal.invariant_of-self
invariant_of-self c =
    let es = c.self.inside.entries in
    let out : c.args.from < length es = search (rules, arith) in
    let in_ : c.args.to < length es = search (rules, arith) in
    whole_move es c.move_to-2.new.self c.self.inside.next_id c.self.inside.marks c.move_marked.new.marks c.self.inside.index c.move_to.new.self c.self.invariant c.args.from c.args.to out in_
    c.move_to-2.ensures c.move_marked.ensures c.move_to.ensures
