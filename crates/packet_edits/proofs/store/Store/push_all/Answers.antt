use Rattle.std.proofs.Common.{◌≡◌, ◌+◌, ◌≤◌, ℕ, length, subst, sym, arith, rules}
use Rattle.packet_edits.specs.Stores.{IsWhole}
use Rattle.packet_edits.proofs.Whole.{whole_push}
use Rattle.packet_edits.proofs.store.Store.push_all.Goals as goal

pub invariant_of-self-2 : goal.invariant_of-self-2
invariant_of-self-2 c =
    let es = c.self.inside.entries in
    let few : length es + length c.args.packets ≤ 1048576 = search (rules, arith) in
    let many : c.len.result ≡ length c.args.packets = search rules in
    subst (λ (n : ℕ). IsWhole c.push_entries.new.entries (c.self.inside.next_id + n) c.push_marks.new.marks c.push_all.new.self) (sym many)
    (whole_push es c.push_entries.new.entries c.self.inside.next_id c.self.inside.marks c.push_marks.new.marks c.self.inside.index c.push_all.new.self c.self.invariant c.self.inside.usual c.args.packets few c.in-Ok-push_entries.ensures c.in-Ok-push_marks.ensures c.in-Ok.ensures)
