use Rattle.std.proofs.Common.{◌≡◌, ◌∙◌, Ok, Option, ap, sym}
use Rattle.std.specs.Option.{option_copied}
use Rattle.std.proofs.KnownBytes.{Appends-trans}
use Rattle.frame_header.specs.Header.{header_of}
use Rattle.frame_header.specs.declared.context.Context.{Context}
use Rattle.frame_header.specs.declared.header.Header.{Header}
use Rattle.macroblock_lists.specs.Known.{header_after}
use Rattle.macroblock_lists.proofs.packet_texts.write_whole_header.Goals as goal

pub returns-clause-written : goal.returns-clause-written
returns-clause-written g c =
    let known = option_copied c.args.known in
    let header : Header = c.in-Ok.header in
    let accepted : header_after c.args.tables.now known c.args.packet.now ≡ Ok header =
    ap (λ (before : Option Context). header_of c.args.tables.now before c.args.packet.now) (sym c.context_of.ensures) ∙ sym c.in-Ok.ensures.value in
    rw accepted (Appends-trans _ _ _ _ _ (rw c.read_coded.ensures at c.in_ok-write_header.ensures) (rw c.probabilities_before-old.ensures at c.in_ok-write_changes.ensures))
