use Rattle.std.proofs.Common.{◌≡◌, ◌∙◌, Ok, Option, ap, sym}
use Rattle.std.specs.Option.{option_copied}
use Rattle.std.proofs.lemmas.Result.{err_from_is_err_and}
use Rattle.frame_header.specs.Header.{header_of}
use Rattle.frame_header.specs.declared.context.Context.{Context}
use Rattle.frame_header.specs.declared.header.Header.{Header}
use Rattle.mode_parser.specs.FrameModes.{FrameModes}
use Rattle.macroblock_lists.specs.Known.{header_after}
use Rattle.macroblock_lists.proofs.Fronts.{front-none}
use Rattle.macroblock_lists.proofs.ReadTexts.{text-is-own}
use Rattle.macroblock_lists.proofs.packet_texts.write_own.Goals as goal

pub returns-in_err-records-clause-early : goal.returns-in_err-records-clause-early
returns-in_err-records-clause-early g c =
    let p = err_from_is_err_and c.from_residual-in_err-records.result c.from_residual-in_err-records.ensures.1 in
    rw (p.1, p.2) (front-none _ _)

pub returns-in_err-write_commented-clause-early : goal.returns-in_err-write_commented-clause-early
returns-in_err-write_commented-clause-early g c =
    let known = option_copied c.args.known in
    let header : Header = c.in-Ok.header in
    let accepted : header_after c.args.tables.now known c.args.packet.now ≡ Ok header =
    ap (λ (before : Option Context). header_of c.args.tables.now before c.args.packet.now) (sym c.context_of.ensures) ∙ sym c.in-Ok.ensures.value in
    let text = text-is-own c.args.target.form c.args.target.place c.args.tables.now c.args.packet.now known header c.args.marked.now c.requires.known accepted (c.requires.marked header accepted) in
    let modes = ap (λ (m : FrameModes). m.records) c.in_ok-records.ensures.modes in
    let p = err_from_is_err_and c.from_residual-in_err-write_commented.result c.from_residual-in_err-write_commented.ensures.1 in
    let early = rw (c.in_err-write_commented.was, c.frame_of.ensures.records, c.frame_of.ensures.header, c.frame_of.ensures.columns, c.frame_of.ensures.rows, modes, c.in_ok-records.ensures.facts, text) at c.write_commented.ensures.early in
    rw (p.1, p.2) early

pub returns-clause-written : goal.returns-clause-written
returns-clause-written g c =
    let known = option_copied c.args.known in
    let header : Header = c.in-Ok.header in
    let accepted : header_after c.args.tables.now known c.args.packet.now ≡ Ok header =
    ap (λ (before : Option Context). header_of c.args.tables.now before c.args.packet.now) (sym c.context_of.ensures) ∙ sym c.in-Ok.ensures.value in
    let text = text-is-own c.args.target.form c.args.target.place c.args.tables.now c.args.packet.now known header c.args.marked.now c.requires.known accepted (c.requires.marked header accepted) in
    let modes = ap (λ (m : FrameModes). m.records) c.in_ok-records.ensures.modes in
    rw (c.frame_of.ensures.records, c.frame_of.ensures.header, c.frame_of.ensures.columns, c.frame_of.ensures.rows, modes, c.in_ok-records.ensures.facts, text) at c.in_ok-write_commented.ensures.written
