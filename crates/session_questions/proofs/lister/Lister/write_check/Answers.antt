use Rattle.std.proofs.Common.{◌≡◌, List, ap, drop, take}
use Rattle.stream_checks.specs.declared.finding.Finding.{Finding}
use Rattle.stream_checks.specs.Checks.{each_after}
use Rattle.stream_checks.specs.Packets.{joined}
use Rattle.packet_edits.specs.Saved.{packets_of}
use Rattle.session_questions.specs.Findings.{findings_from}
use Rattle.session_questions.proofs.Found.{check_counted, check_said}
use Rattle.session_questions.proofs.lister.Lister.write_check.Goals as goal

pub returns-in-Ok-write_tally-clause-written : goal.returns-in-Ok-write_tally-clause-written
returns-in-Ok-write_tally-clause-written g c =
    let list = c.args.store.now.list in
    let found : List Finding = joined (take c.args.count (each_after c.args.tables.now c.in-Ok.checker (drop c.args.first (packets_of list)))) in
    let is : found ≡ findings_from c.args.tables.now list c.args.first c.args.count = ap (λ (each : List (List Finding)). joined (take c.args.count each)) c.in-Ok.ensures.each in
    check_said c.args.tables.now list c.args.first c.args.count c.in-Ok.checker.form found c.in_ok-tally.tally _ _ _ c.in-Ok.ensures.form is c.in_ok-tally.ensures.counted c.in_ok-tally.ensures.written c.in-Ok-write_tally.ensures

pub returns-in-Ok-write_tally-clause-lines : goal.returns-in-Ok-write_tally-clause-lines
returns-in-Ok-write_tally-clause-lines g c =
    let list = c.args.store.now.list in
    let found : List Finding = joined (take c.args.count (each_after c.args.tables.now c.in-Ok.checker (drop c.args.first (packets_of list)))) in
    let is : found ≡ findings_from c.args.tables.now list c.args.first c.args.count = ap (λ (each : List (List Finding)). joined (take c.args.count each)) c.in-Ok.ensures.each in
    check_counted c.args.tables.now list c.args.first c.args.count found c.in_ok-tally.tally is c.in_ok-tally.ensures.counted
