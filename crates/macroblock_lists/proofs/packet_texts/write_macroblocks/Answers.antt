use Rattle.std.proofs.Common.{◌≡◌, ◌∙◌, ◌<◌, Err, Ok, Option, ap, arith, sym}
use Rattle.std.specs.Option.{option_copied}
use Rattle.std.proofs.lemmas.Result.{err_from_is_err_and}
use Rattle.frame_header.specs.Header.{header_over}
use Rattle.mode_parser.specs.FrameModes.{FrameModes}
use Rattle.macroblock_lists.specs.FirstChains.{context_in}
use Rattle.macroblock_lists.specs.Known.{Known, frame_modes}
use Rattle.macroblock_lists.proofs.Fronts.{front-none}
use Rattle.macroblock_lists.proofs.ReadOnce.{IsMarked}
use Rattle.macroblock_lists.proofs.ReadTexts.{counted-by, known-is-read, over-text, read-over}
use Rattle.macroblock_lists.proofs.packet_texts.write_macroblocks.Goals as goal

pub returns-in_err-first-clause-early : goal.returns-in_err-first-clause-early
returns-in_err-first-clause-early g c =
    let p = err_from_is_err_and c.from_residual.result c.from_residual.ensures.1 in
    rw (p.1, p.2) (front-none _ _)

pub write_own-requires-clause-marked : goal.write_own-requires-clause-marked
write_own-requires-clause-marked g c =
    let known : Option Known = option_copied c.args.known in
    let marked : IsMarked known c.args.packet.now c.in_ok-first.first.text.items c.in_ok-first.first.zeros c.in_ok-first.first.size =
    record { text = c.in_ok-first.ensures.text; size = c.in_ok-first.ensures.size; zeros = c.in_ok-first.ensures.zeros } in
    let refused : header_over c.args.tables.now (context_in known) c.args.packet.now c.in_ok-first.first.text.items ≡ Err c.in_default.field-0 =
    rw (c.context_of.ensures, c.as_slice-text.ensures.value) at (sym c.read_header_over.ensures.value ∙ c.in_default.is) in
    counted-by c.args.tables.now c.args.packet.now known _ _ _ marked (Err c.in_default.field-0) refused

pub returns-in_err-records-clause-early : goal.returns-in_err-records-clause-early
returns-in_err-records-clause-early g c =
    let p = err_from_is_err_and c.from_residual-in_err-records.result c.from_residual-in_err-records.ensures.1 in
    rw (p.1, p.2) (front-none _ _)

pub write_own-requires-then-left-eq0-clause-marked : goal.write_own-requires-then-left-eq0-clause-marked
write_own-requires-then-left-eq0-clause-marked g c =
    let known : Option Known = option_copied c.args.known in
    let marked : IsMarked known c.args.packet.now c.in_ok-first.first.text.items c.in_ok-first.first.zeros c.in_ok-first.first.size =
    record { text = c.in_ok-first.ensures.text; size = c.in_ok-first.ensures.size; zeros = c.in_ok-first.ensures.zeros } in
    let accepted : header_over c.args.tables.now (context_in known) c.args.packet.now c.in_ok-first.first.text.items ≡ Ok c.in-Ok.header =
    rw (c.context_of.ensures, c.as_slice-text.ensures.value) at (sym c.in-Ok.ensures.value) in
    rw (c.deref.ensures.value, c.in_ok-records.ensures.facts) (counted-by c.args.tables.now c.args.packet.now known _ _ _ marked (Ok c.in-Ok.header) accepted)

pub returns-in_err-write_commented-clause-early : goal.returns-in_err-write_commented-clause-early
returns-in_err-write_commented-clause-early g c =
    let known : Option Known = option_copied c.args.known in
    let marked : IsMarked known c.args.packet.now c.in_ok-first.first.text.items c.in_ok-first.first.zeros c.in_ok-first.first.size =
    record { text = c.in_ok-first.ensures.text; size = c.in_ok-first.ensures.size; zeros = c.in_ok-first.ensures.zeros } in
    let accepted : header_over c.args.tables.now (context_in known) c.args.packet.now c.in_ok-first.first.text.items ≡ Ok c.in-Ok.header =
    rw (c.context_of.ensures, c.as_slice-text.ensures.value) at (sym c.in-Ok.ensures.value) in
    let left = ap (λ (m : FrameModes). m.left) c.in_ok-records.ensures.modes in
    let some : 0 < (frame_modes c.args.tables.now c.in-Ok.header known).left = omega (arith, c.if-left-eq0.false, c.left-left.ensures, left) in
    let is = read-over c.args.tables.now c.args.packet.now known c.in-Ok.header _ _ _ marked c.prove_read.ensures c.requires.known accepted some in
    let text = over-text c.args.target.form c.args.target.place c.args.tables.now c.args.packet.now known c.in-Ok.header _ _ _ marked c.requires.known is in
    let modes = ap (λ (m : FrameModes). m.records) c.in_ok-records.ensures.modes in
    let p = err_from_is_err_and c.from_residual-in_err-write_commented.result c.from_residual-in_err-write_commented.ensures.1 in
    let early = rw (c.in_err-write_commented.was, c.frame_of.ensures.records, c.frame_of.ensures.header, c.frame_of.ensures.columns, c.frame_of.ensures.rows, modes, c.in_ok-records.ensures.facts, text) at c.write_commented.ensures.early in
    rw (p.1, p.2) early

pub returns-clause-written : goal.returns-clause-written
returns-clause-written g c =
    let known : Option Known = option_copied c.args.known in
    let marked : IsMarked known c.args.packet.now c.in_ok-first.first.text.items c.in_ok-first.first.zeros c.in_ok-first.first.size =
    record { text = c.in_ok-first.ensures.text; size = c.in_ok-first.ensures.size; zeros = c.in_ok-first.ensures.zeros } in
    let accepted : header_over c.args.tables.now (context_in known) c.args.packet.now c.in_ok-first.first.text.items ≡ Ok c.in-Ok.header =
    rw (c.context_of.ensures, c.as_slice-text.ensures.value) at (sym c.in-Ok.ensures.value) in
    let left = ap (λ (m : FrameModes). m.left) c.in_ok-records.ensures.modes in
    let some : 0 < (frame_modes c.args.tables.now c.in-Ok.header known).left = omega (arith, c.if-left-eq0.false, c.left-left.ensures, left) in
    let is = read-over c.args.tables.now c.args.packet.now known c.in-Ok.header _ _ _ marked c.prove_read.ensures c.requires.known accepted some in
    let text = over-text c.args.target.form c.args.target.place c.args.tables.now c.args.packet.now known c.in-Ok.header _ _ _ marked c.requires.known is in
    let modes = ap (λ (m : FrameModes). m.records) c.in_ok-records.ensures.modes in
    rw (c.frame_of.ensures.records, c.frame_of.ensures.header, c.frame_of.ensures.columns, c.frame_of.ensures.rows, modes, c.in_ok-records.ensures.facts, text) at c.in_ok-write_commented.ensures.written

pub returns-clause-after : goal.returns-clause-after
returns-clause-after g c =
    let known : Option Known = option_copied c.args.known in
    let marked : IsMarked known c.args.packet.now c.in_ok-first.first.text.items c.in_ok-first.first.zeros c.in_ok-first.first.size =
    record { text = c.in_ok-first.ensures.text; size = c.in_ok-first.ensures.size; zeros = c.in_ok-first.ensures.zeros } in
    let accepted : header_over c.args.tables.now (context_in known) c.args.packet.now c.in_ok-first.first.text.items ≡ Ok c.in-Ok.header =
    rw (c.context_of.ensures, c.as_slice-text.ensures.value) at (sym c.in-Ok.ensures.value) in
    let left = ap (λ (m : FrameModes). m.left) c.in_ok-records.ensures.modes in
    let some : 0 < (frame_modes c.args.tables.now c.in-Ok.header known).left = omega (arith, c.if-left-eq0.false, c.left-left.ensures, left) in
    let is = read-over c.args.tables.now c.args.packet.now known c.in-Ok.header _ _ _ marked c.prove_read.ensures c.requires.known accepted some in
    let map = ap (λ (m : FrameModes). m.segment_map) c.in_ok-records.ensures.modes in
    rw (c.known_after.ensures, map) (known-is-read c.args.tables.now c.args.packet.now known c.in-Ok.header c.requires.known is.read)
