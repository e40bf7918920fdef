use Rattle.std.proofs.Common.{◌≡◌, ◌+◌, ◌≤◌, ℕ, List, Some, ap, sym, ◌∙◌, length, slice_get, arith}
use Rattle.std.proofs.lemmas.List.{drop_all, length-map}
use Rattle.stream_files.specs.declared.packets.Packet.{Packet}
use Rattle.packet_edits.specs.Saved.{packet_of, packets_of}
use Rattle.stream_checks.specs.Packets.{is_repeated, is_same}
use Rattle.session_questions.proofs.Found.{drop_here}
use Rattle.session_questions.proofs.Steps.{packet_here}
use Rattle.session_questions.proofs.ahead.is_repeated.Goals as goal

-- the packet at an index is one
one_packet : (packets : List Packet) (at : ℕ) (one other : Packet) → slice_get packets at ≡ Some one → slice_get packets at ≡ Some other → one ≡ other
one_packet packets at one other first second = cc

pub returns-then-next-len : goal.returns-then-next-len
returns-then-next-len c = λ packet here.
    let es = c.args.store.now.list.entries in
    let packets : List Packet = packets_of c.args.store.now.list in
    let one : Packet = record { stamp = c.stamp.result; bytes = c.packet.result.now } in
    let next : Packet = record { stamp = c.stamp-then-next-len.result; bytes = c.packet-then-next-len.result.now } in
    let same : one ≡ packet = one_packet packets c.args.at one packet (packet_here es c.args.at c.stamp.result c.packet.result.now c.stamp.ensures c.packet.ensures) here in
    let left = drop_here packets (c.args.at + 1) next (packet_here es (c.args.at + 1) c.stamp-then-next-len.result c.packet-then-next-len.result.now c.stamp-then-next-len.ensures c.packet-then-next-len.ensures) in
    c.is_same.ensures ∙ ap (λ (p : Packet). is_same p next) same ∙ ap (is_repeated packet) (sym left)

pub returns-else-next-len : goal.returns-else-next-len
returns-else-next-len c = λ packet here.
    let packets : List Packet = packets_of c.args.store.now.list in
    let past : length packets ≤ c.args.at + 1 = omega (arith, length-map c.args.store.now.list.entries packet_of, c.len.ensures.value) in
    ap (is_repeated packet) (sym (drop_all (c.args.at + 1) packets past))
