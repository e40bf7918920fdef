use Rattle.std.proofs.Common.{◌≡◌, ℕ, List, Option, Ok, refl, sym, ap, ◌∙◌}
use Rattle.request_lines.specs.declared.edit.Edit.TheVariants.{Hold}
use Rattle.frame_session.specs.Edits.{hold_bytes, hold_bytes_at}
use Rattle.frame_session.proofs.Forging.{insertion_gives, insertion_leaves}
use Rattle.frame_session.proofs.forged.insert_hold.Goals as goal

pub returns-in-Ok-clause-returned : goal.returns-in-Ok-clause-returned
returns-in-Ok-clause-returned c = λ lists.
    let made : hold_bytes_at c.args.tables.now c.args.list.now.list c.args.at ≡ Ok c.new.result =
    ap (λ (size : Option (ℕ × ℕ)). hold_bytes c.args.tables.now size) (sym c.size_at.ensures) ∙ c.in-Ok.ensures.bytes ∙ ap (λ (bytes : List ℕ). Ok bytes) (sym c.new.ensures) in
    insertion_gives c.args.tables.now lists c.args.list.now.list c.args.at c.stamp_before.result c.new.result (hold_bytes_at c.args.tables.now c.args.list.now.list c.args.at) c.insert.result made c.stamp_before.ensures (c.insert.ensures.returned c.args.tables.now lists)

pub returns-in-Ok-clause-after : goal.returns-in-Ok-clause-after
returns-in-Ok-clause-after c = λ lists.
    let made : hold_bytes_at c.args.tables.now c.args.list.now.list c.args.at ≡ Ok c.new.result =
    ap (λ (size : Option (ℕ × ℕ)). hold_bytes c.args.tables.now size) (sym c.size_at.ensures) ∙ c.in-Ok.ensures.bytes ∙ ap (λ (bytes : List ℕ). Ok bytes) (sym c.new.ensures) in
    insertion_leaves c.args.tables.now lists c.args.list.now.list c.insert.new.list.list c.args.at c.stamp_before.result c.new.result (hold_bytes_at c.args.tables.now c.args.list.now.list c.args.at) (Hold c.args.at) c.insert.result made c.stamp_before.ensures refl (c.insert.ensures.after c.args.tables.now lists)
