use Rattle.std.proofs.Common.{◌≡◌, ℕ, List, Ok, refl, sym, ap, ◌∙◌}
use Rattle.packet_forge.specs.Packets.{blank_of}
use Rattle.request_lines.specs.declared.edit.Edit.TheVariants.{Blank}
use Rattle.frame_session.proofs.Forging.{insertion_gives, insertion_leaves}
use Rattle.frame_session.proofs.forged.insert_blank.Goals as goal

pub returns-in-Ok-clause-returned : goal.returns-in-Ok-clause-returned
returns-in-Ok-clause-returned c = λ lists.
    let made : blank_of c.args.tables.now c.args.width c.args.height ≡ Ok c.new.result = c.in-Ok.ensures.bytes ∙ ap (λ (bytes : List ℕ). Ok bytes) (sym c.new.ensures) in
    insertion_gives c.args.tables.now lists c.args.list.now.list c.args.at c.stamp_before.result c.new.result (blank_of c.args.tables.now c.args.width c.args.height) c.insert.result made c.stamp_before.ensures (c.insert.ensures.returned c.args.tables.now lists)

pub returns-in-Ok-clause-after : goal.returns-in-Ok-clause-after
returns-in-Ok-clause-after c = λ lists.
    let made : blank_of c.args.tables.now c.args.width c.args.height ≡ Ok c.new.result = c.in-Ok.ensures.bytes ∙ ap (λ (bytes : List ℕ). Ok bytes) (sym c.new.ensures) in
    insertion_leaves c.args.tables.now lists c.args.list.now.list c.insert.new.list.list c.args.at c.stamp_before.result c.new.result (blank_of c.args.tables.now c.args.width c.args.height) (Blank c.args.at c.args.width c.args.height) c.insert.result made c.stamp_before.ensures refl (c.insert.ensures.after c.args.tables.now lists)
