use Rattle.std.proofs.Common.{◌≡◌, ◌<◌, Option, Ok, Err, sym, ap, ◌∙◌, arith}
use Rattle.std.specs.Option.{option_copied}
use Rattle.frame_header.specs.Header.{header_over}
use Rattle.macroblock_lists.specs.FirstChains.{context_in}
use Rattle.macroblock_lists.specs.Known.{Known, known_before, left_at}
use Rattle.macroblock_lists.specs.PartitionEnds.{end_of}
use Rattle.macroblock_lists.specs.declared.partition_ends.PartitionEnd.{PartitionEnd}
use Rattle.macroblock_lists.proofs.KeyEnds.{none-before}
use Rattle.macroblock_lists.proofs.ReadOnce.{IsMarked, ends_by, later-before, over-after, over-read, spent-left, spent-refused}
use Rattle.macroblock_lists.proofs.partition_ends.read_coded.Goals as goal
use Rattle.macroblock_lists.proofs.partition_ends.read_coded.Goals.{then-header, else-header}

pub read_own-requires : goal.read_own-requires
read_own-requires c =
    let known : Option Known = option_copied c.args.known in
    let marked : IsMarked known c.args.packet.now c.in_ok-marked.marked.text.items c.in_ok-marked.marked.zeros c.in_ok-marked.marked.size =
    record { text = c.in_ok-marked.ensures.text; size = c.in_ok-marked.ensures.size; zeros = c.in_ok-marked.ensures.zeros } in
    let refused : header_over c.args.tables.now (context_in known) c.args.packet.now c.in_ok-marked.marked.text.items ≡ Err c.in_default.field-0 =
    rw (c.context_of.ensures, c.as_slice-text.ensures.value) at (sym c.read_header_over.ensures.value ∙ c.in_default.is) in
    record { first = rw c.end_of-spent.ensures (spent-refused c.args.tables.now known c.args.packet.now _ _ _ c.in_default.field-0 marked refused) }

pub read_own-requires-then-left-eq0 : goal.read_own-requires-then-left-eq0
read_own-requires-then-left-eq0 c =
    let known : Option Known = option_copied c.args.known in
    let marked : IsMarked known c.args.packet.now c.in_ok-marked.marked.text.items c.in_ok-marked.marked.zeros c.in_ok-marked.marked.size =
    record { text = c.in_ok-marked.ensures.text; size = c.in_ok-marked.ensures.size; zeros = c.in_ok-marked.ensures.zeros } in
    let accepted : header_over c.args.tables.now (context_in known) c.args.packet.now c.in_ok-marked.marked.text.items ≡ Ok c.in-Ok.header =
    rw (c.context_of.ensures, c.as_slice-text.ensures.value) at (sym c.in-Ok.ensures.value) in
    let before : option_copied c.if-header.before ≡ known_before c.args.packet.now known = elim c.if-header.branch [
      | then-header w ↦ ap (λ b. option_copied b) w.before-is ∙ sym (none-before c.args.packet.now known (sym c.in-Ok.ensures.key ∙ w.if-header.true))
      | else-header w ↦ ap (λ b. option_copied b) w.before-is ∙ later-before c.args.packet.now known (sym c.in-Ok.ensures.key ∙ w.if-header.false)
    ] in
    let none : c.in_ok-modes.modes.left ≡ 0 = sym c.left-left.ensures ∙ c.if-left-eq0.true in
    record { first = rw c.end_of-spent.ensures (spent-left c.args.tables.now known c.args.packet.now _ _ _ c.in-Ok.header (option_copied c.if-header.before) c.in_ok-modes.modes marked accepted before c.in_ok-modes.ensures.value none) }

pub returns-clause-ends : goal.returns-clause-ends
returns-clause-ends c =
    let known : Option Known = option_copied c.args.known in
    let marked : IsMarked known c.args.packet.now c.in_ok-marked.marked.text.items c.in_ok-marked.marked.zeros c.in_ok-marked.marked.size =
    record { text = c.in_ok-marked.ensures.text; size = c.in_ok-marked.ensures.size; zeros = c.in_ok-marked.ensures.zeros } in
    let accepted : header_over c.args.tables.now (context_in known) c.args.packet.now c.in_ok-marked.marked.text.items ≡ Ok c.in-Ok.header =
    rw (c.context_of.ensures, c.as_slice-text.ensures.value) at (sym c.in-Ok.ensures.value) in
    let before : option_copied c.if-header.before ≡ known_before c.args.packet.now known = elim c.if-header.branch [
      | then-header w ↦ ap (λ b. option_copied b) w.before-is ∙ sym (none-before c.args.packet.now known (sym c.in-Ok.ensures.key ∙ w.if-header.true))
      | else-header w ↦ ap (λ b. option_copied b) w.before-is ∙ later-before c.args.packet.now known (sym c.in-Ok.ensures.key ∙ w.if-header.false)
    ] in
    let some : 0 < c.in_ok-modes.modes.left = omega (arith, c.if-left-eq0.false, c.left-left.ensures) in
    let ends = c.in_ok-ends.ensures.ends
    ∙ ap (λ (first : PartitionEnd). ends_by known c.args.packet.now c.in-Ok.header first c.in_ok-modes.modes.records) (c.end_of-end.ensures ∙ ap (end_of c.in_ok-marked.marked.zeros c.in_ok-marked.marked.size) c.left-left.ensures) in
    over-read c.args.tables.now known c.args.packet.now _ _ _ c.in-Ok.header (option_copied c.if-header.before) c.in_ok-modes.modes c.in_ok-ends.ends
    marked c.prove_read.ensures accepted before c.in_ok-modes.ensures.value some ends

pub returns-clause-after : goal.returns-clause-after
returns-clause-after c =
    let known : Option Known = option_copied c.args.known in
    let marked : IsMarked known c.args.packet.now c.in_ok-marked.marked.text.items c.in_ok-marked.marked.zeros c.in_ok-marked.marked.size =
    record { text = c.in_ok-marked.ensures.text; size = c.in_ok-marked.ensures.size; zeros = c.in_ok-marked.ensures.zeros } in
    let accepted : header_over c.args.tables.now (context_in known) c.args.packet.now c.in_ok-marked.marked.text.items ≡ Ok c.in-Ok.header =
    rw (c.context_of.ensures, c.as_slice-text.ensures.value) at (sym c.in-Ok.ensures.value) in
    let before : option_copied c.if-header.before ≡ known_before c.args.packet.now known = elim c.if-header.branch [
      | then-header w ↦ ap (λ b. option_copied b) w.before-is ∙ sym (none-before c.args.packet.now known (sym c.in-Ok.ensures.key ∙ w.if-header.true))
      | else-header w ↦ ap (λ b. option_copied b) w.before-is ∙ later-before c.args.packet.now known (sym c.in-Ok.ensures.key ∙ w.if-header.false)
    ] in
    let some : 0 < c.in_ok-modes.modes.left = omega (arith, c.if-left-eq0.false, c.left-left.ensures) in
    ap (left_at c.args.place) (over-after c.args.tables.now known c.args.packet.now _ _ _ c.in-Ok.header (option_copied c.if-header.before) c.in_ok-modes.modes c.in_ok-ends.after
    marked c.prove_read.ensures accepted before c.in_ok-modes.ensures.value some c.in_ok-ends.ensures.after)
