use Rattle.std.proofs.Common.{◌≡◌, ◌≤◌, ◌∙◌, ℕ, List, None, sym, rules, arith}
use Rattle.packet_edits.specs.Shown.{stream_of}
use Rattle.lossless_cuts.proofs.AcceptedRuns.{break-is, cause-is, none-more}
use Rattle.lossless_cuts.proofs.accepts.break_from.Goals as goal

pub returns-in-Some-clause-broken : goal.returns-in-Some-clause-broken
returns-in-Some-clause-broken c =
    let packets : List (List ℕ) = stream_of c.args.list.now.list in
    let low : c.args.first ≤ c.packets.k = omega (arith, c.requires.from.0, c.requires.from.1) in
    let high : c.packets.k ≤ c.args.place = omega arith in
    let cause = cause-is packets c.args.first c.args.place c.packets.k c.packet.result.now c.requires.first low high c.packet.ensures in
    break-is packets c.args.first c.args.place c.packets.k c.in-Some.cause c.requires.first low high c.packets.invariant (cause ∙ sym c.cause_against.ensures ∙ c.in-Some.is)

pub packets-preserved : goal.packets-preserved
packets-preserved c =
    let packets : List (List ℕ) = stream_of c.args.list.now.list in
    let low : c.args.first ≤ c.packets.k = omega (arith, c.requires.from.0, c.requires.from.1) in
    let high : c.packets.k ≤ c.args.place = omega arith in
    let cause = cause-is packets c.args.first c.args.place c.packets.k c.packet.result.now c.requires.first low high c.packet.ensures in
    let none : c.cause_against.result ≡ None = search rules in
    none-more packets c.args.first c.packets.k c.packets.invariant (cause ∙ sym c.cause_against.ensures ∙ none)
