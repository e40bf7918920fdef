use Rattle.std.proofs.Common.{◌≡◌, Option, Ok, Err, sym, ap, ◌∙◌}
use Rattle.std.specs.Option.{option_copied}
use Rattle.frame_header.specs.Header.{header_of}
use Rattle.frame_header.specs.declared.context.Context.{Context}
use Rattle.macroblock_lists.specs.Known.{Known, header_after, known_before}
use Rattle.macroblock_lists.proofs.KeyEnds.{none-before}
use Rattle.macroblock_lists.proofs.ReadOnce.{later-before, own-read, refused-ends}
use Rattle.macroblock_lists.proofs.partition_ends.read_own.Goals as goal
use Rattle.macroblock_lists.proofs.partition_ends.read_own.Goals.{then-header, else-header}

pub returns-in-Err-clause-ends : goal.returns-in-Err-clause-ends
returns-in-Err-clause-ends c =
    let refused : header_after c.args.tables.now (option_copied c.args.known) c.args.packet.now ≡ Err c.in-Err.cause =
    ap (λ (before : Option Context). header_of c.args.tables.now before c.args.packet.now) (sym c.context_of.ensures) ∙ sym c.in-Err.ensures.value in
    c.none.ensures ∙ refused-ends c.args.tables.now (option_copied c.args.known) c.args.packet.now c.in-Err.cause refused

pub returns-clause-ends : goal.returns-clause-ends
returns-clause-ends c =
    let known : Option Known = option_copied c.args.known in
    let accepted : header_after c.args.tables.now known c.args.packet.now ≡ Ok c.in-Ok.header =
    ap (λ (before : Option Context). header_of c.args.tables.now before c.args.packet.now) (sym c.context_of.ensures) ∙ sym c.in-Ok.ensures.value in
    let before : option_copied c.if-header.before ≡ known_before c.args.packet.now known = elim c.if-header.branch [
      | then-header w ↦ ap (λ b. option_copied b) w.before-is ∙ sym (none-before c.args.packet.now known (sym c.in-Ok.ensures.key ∙ w.if-header.true))
      | else-header w ↦ ap (λ b. option_copied b) w.before-is ∙ later-before c.args.packet.now known (sym c.in-Ok.ensures.key ∙ w.if-header.false)
    ] in
    own-read c.args.tables.now known c.args.packet.now c.in-Ok.header c.args.first (option_copied c.if-header.before) c.in_ok-modes.modes c.in_ok-ends.ends
    c.requires.first accepted before c.in_ok-modes.ensures.value c.in_ok-ends.ensures.ends
