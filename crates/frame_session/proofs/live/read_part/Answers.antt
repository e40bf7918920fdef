use Rattle.std.proofs.Common.{◌+◌, ◌-◌, ◌<◌, ◌≤◌, [], arith, length, subst, take}
use Rattle.std.specs.Io.BufRead.{FillKeeps}
use Rattle.std.proofs.KnownBytes.{Consumes-nil, Consumes-kept}
use Rattle.std.proofs.BufReadLemmas.{Consumes_shown}
use Rattle.frame_session.specs.Live.{longest_line}
use Rattle.frame_session.proofs.LiveReads.{part_at_end, part_ends, part_goes_on, part_too_long, part_unread}
use Rattle.frame_session.proofs.live.read_part.Goals as goal

pub returns-in-Err : goal.returns-in-Err
returns-in-Err g c = λ text is short.
    ([], Consumes-kept _ _ _ [] (Consumes-nil _) c.fill_buf.follows.holds-at-none.0, part_unread _ _ c.args.line.now text is short c.unread.result c.unread.ensures.again c.unread.ensures.fault)

pub returns-then-end-line : goal.returns-then-end-line
returns-then-end-line g c = λ text is short.
    let end = c.length_before-end in
    let rested = c.fill_buf.follows.lender-at-none in
    let filled = subst (FillKeeps _ (g.I.Read.remaining rested) (g.I.BufRead.consumable_len rested)) c.in-Ok.is c.fill_buf.follows.holds-at-none in
    let moved = Consumes_shown _ _ _ _ c.in-Ok.ready.now end.result end.ensures.within c.in-Ok.ensures.front c.in-Ok.ensures.end filled.0 filled.1 c.consume.ensures.bytes in
    let many : longest_line - length text < end.result = omega (arith, c.if-end-line.true, is.length) in
    (take end.result c.in-Ok.ready.now, moved.0, part_too_long (g.I.Read.remaining c.args.input.now) (g.I.Read.remaining c.consume.new.self) c.args.line.now text c.in-Ok.ready.now end.result short end.ensures.value end.ensures.within many)

pub returns-then-end-ready : goal.returns-then-end-ready
returns-then-end-ready g c = λ text is short.
    let end = c.length_before-end in
    let rested = c.fill_buf.follows.lender-at-none in
    let filled = subst (FillKeeps _ (g.I.Read.remaining rested) (g.I.BufRead.consumable_len rested)) c.in-Ok.is c.fill_buf.follows.holds-at-none in
    let within : end.result + 1 ≤ length c.in-Ok.ready.now = omega (arith, c.if-end-ready.true) in
    let moved = Consumes_shown _ _ _ _ c.in-Ok.ready.now (end.result + 1) within c.in-Ok.ensures.front c.in-Ok.ensures.end filled.0 filled.1 c.consume-then-end-ready.ensures.bytes in
    let few : length text + end.result ≤ longest_line = omega (arith, c.if-end-line.false, is.length, short.few) in
    (take (end.result + 1) c.in-Ok.ready.now, moved.0, part_ends (g.I.Read.remaining c.args.input.now) (g.I.Read.remaining c.consume-then-end-ready.new.self) c.add.new.self text c.in-Ok.ready.now end.result short end.ensures.value end.ensures.within (omega (arith, c.if-end-ready.true)) few (c.add.ensures text is))

pub returns-then-end-eq0 : goal.returns-then-end-eq0
returns-then-end-eq0 g c = λ text is short.
    let end = c.length_before-end in
    let rested = c.fill_buf.follows.lender-at-none in
    let filled = subst (FillKeeps _ (g.I.Read.remaining rested) (g.I.BufRead.consumable_len rested)) c.in-Ok.is c.fill_buf.follows.holds-at-none in
    let moved = Consumes_shown _ _ _ _ c.in-Ok.ready.now end.result end.ensures.within c.in-Ok.ensures.front c.in-Ok.ensures.end filled.0 filled.1 c.consume-2.ensures.bytes in
    (take end.result c.in-Ok.ready.now, moved.0, part_at_end (g.I.Read.remaining c.args.input.now) (g.I.Read.remaining c.consume-2.new.self) c.add.new.self text c.in-Ok.ready.now end.result short end.ensures.value end.ensures.within c.if-end-eq0.true (c.add.ensures text is) (moved.1 (omega (arith, c.if-end-ready.false, c.if-end-eq0.true))))

pub returns-else-end-eq0 : goal.returns-else-end-eq0
returns-else-end-eq0 g c = λ text is short.
    let end = c.length_before-end in
    let rested = c.fill_buf.follows.lender-at-none in
    let filled = subst (FillKeeps _ (g.I.Read.remaining rested) (g.I.BufRead.consumable_len rested)) c.in-Ok.is c.fill_buf.follows.holds-at-none in
    let moved = Consumes_shown _ _ _ _ c.in-Ok.ready.now end.result end.ensures.within c.in-Ok.ensures.front c.in-Ok.ensures.end filled.0 filled.1 c.consume-2.ensures.bytes in
    let few : length text + end.result ≤ longest_line = omega (arith, c.if-end-line.false, is.length, short.few) in
    (take end.result c.in-Ok.ready.now, moved.0, part_goes_on (g.I.Read.remaining c.args.input.now) (g.I.Read.remaining c.consume-2.new.self) c.add.new.self text c.in-Ok.ready.now end.result short end.ensures.value end.ensures.within few (c.add.ensures text is))
