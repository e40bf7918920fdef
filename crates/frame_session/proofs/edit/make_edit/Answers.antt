use Rattle.std.proofs.Common.{subst}
use Rattle.packet_edits.specs.Marks.{StoreValue}
use Rattle.request_lines.specs.declared.edit.Edit.TheVariants.{Insert, Replace, Delete, Move, Blank, Hold, ShowBit}
use Rattle.frame_session.specs.Cached.{lists_of}
use Rattle.frame_session.specs.Edits.{EditAnswers}
use Rattle.frame_session.proofs.Stores.{edited_here, found}
use Rattle.frame_session.proofs.edit.make_edit.Goals as goal

pub returns-in-Insert-clause-returned : goal.returns-in-Insert-clause-returned
returns-in-Insert-clause-returned c =
    rw c.in-Insert.is (subst (λ (s : StoreValue). EditAnswers c.args.tables.now (lists_of c.args.stores.now) s.list (Insert c.in-Insert.at c.in-Insert.stamp c.in-Insert.bytes) c.insert.result) ((found c.args.stores.now c.args.current c.index-stores-current.result c.requires)) (c.insert.ensures.returned c.args.tables.now (lists_of c.args.stores.now)))

pub returns-in-Insert-clause-after : goal.returns-in-Insert-clause-after
returns-in-Insert-clause-after c =
    rw c.in-Insert.is (edited_here c.args.tables.now c.args.current (Insert c.in-Insert.at c.in-Insert.stamp c.in-Insert.bytes) c.args.stores.now c.index-stores-current.result c.insert.new.list c.insert.result c.requires (c.insert.ensures.after c.args.tables.now (lists_of c.args.stores.now)) c.insert.ensures.marks)

pub returns-in-Replace-clause-returned : goal.returns-in-Replace-clause-returned
returns-in-Replace-clause-returned c =
    rw c.in-Replace.is (subst (λ (s : StoreValue). EditAnswers c.args.tables.now (lists_of c.args.stores.now) s.list (Replace c.in-Replace.at c.in-Replace.bytes) c.replace.result) ((found c.args.stores.now c.args.current c.index-stores-current-in-Replace.result c.requires)) (c.replace.ensures.returned c.args.tables.now (lists_of c.args.stores.now)))

pub returns-in-Replace-clause-after : goal.returns-in-Replace-clause-after
returns-in-Replace-clause-after c =
    rw c.in-Replace.is (edited_here c.args.tables.now c.args.current (Replace c.in-Replace.at c.in-Replace.bytes) c.args.stores.now c.index-stores-current-in-Replace.result c.replace.new.list c.replace.result c.requires (c.replace.ensures.after c.args.tables.now (lists_of c.args.stores.now)) c.replace.ensures.marks)

pub returns-in-Delete-clause-returned : goal.returns-in-Delete-clause-returned
returns-in-Delete-clause-returned c =
    rw c.in-Delete.is (subst (λ (s : StoreValue). EditAnswers c.args.tables.now (lists_of c.args.stores.now) s.list (Delete c.in-Delete.at) c.delete.result) ((found c.args.stores.now c.args.current c.index-stores-current-in-Delete.result c.requires)) (c.delete.ensures.returned c.args.tables.now (lists_of c.args.stores.now)))

pub returns-in-Delete-clause-after : goal.returns-in-Delete-clause-after
returns-in-Delete-clause-after c =
    rw c.in-Delete.is (edited_here c.args.tables.now c.args.current (Delete c.in-Delete.at) c.args.stores.now c.index-stores-current-in-Delete.result c.delete.new.list c.delete.result c.requires (c.delete.ensures.after c.args.tables.now (lists_of c.args.stores.now)) c.delete.ensures.marks)

pub returns-in-Move-clause-returned : goal.returns-in-Move-clause-returned
returns-in-Move-clause-returned c =
    rw c.in-Move.is (subst (λ (s : StoreValue). EditAnswers c.args.tables.now (lists_of c.args.stores.now) s.list (Move c.in-Move.from c.in-Move.to) c.move_to.result) ((found c.args.stores.now c.args.current c.index-stores-current-in-Move.result c.requires)) (c.move_to.ensures.returned c.args.tables.now (lists_of c.args.stores.now)))

pub returns-in-Move-clause-after : goal.returns-in-Move-clause-after
returns-in-Move-clause-after c =
    rw c.in-Move.is (edited_here c.args.tables.now c.args.current (Move c.in-Move.from c.in-Move.to) c.args.stores.now c.index-stores-current-in-Move.result c.move_to.new.list c.move_to.result c.requires (c.move_to.ensures.after c.args.tables.now (lists_of c.args.stores.now)) c.move_to.ensures.marks)

pub returns-in-Blank-clause-returned : goal.returns-in-Blank-clause-returned
returns-in-Blank-clause-returned c =
    rw c.in-Blank.is (subst (λ (s : StoreValue). EditAnswers c.args.tables.now (lists_of c.args.stores.now) s.list (Blank c.in-Blank.at c.in-Blank.width c.in-Blank.height) c.insert_blank.result) ((found c.args.stores.now c.args.current c.index-stores-current-in-Blank.result c.requires)) (c.insert_blank.ensures.returned (lists_of c.args.stores.now)))

pub returns-in-Blank-clause-after : goal.returns-in-Blank-clause-after
returns-in-Blank-clause-after c =
    rw c.in-Blank.is (edited_here c.args.tables.now c.args.current (Blank c.in-Blank.at c.in-Blank.width c.in-Blank.height) c.args.stores.now c.index-stores-current-in-Blank.result c.insert_blank.new.list c.insert_blank.result c.requires (c.insert_blank.ensures.after (lists_of c.args.stores.now)) c.insert_blank.ensures.marks)

pub returns-in-Hold-clause-returned : goal.returns-in-Hold-clause-returned
returns-in-Hold-clause-returned c =
    rw c.in-Hold.is (subst (λ (s : StoreValue). EditAnswers c.args.tables.now (lists_of c.args.stores.now) s.list (Hold c.in-Hold.at) c.insert_hold.result) ((found c.args.stores.now c.args.current c.index-stores-current-in-Hold.result c.requires)) (c.insert_hold.ensures.returned (lists_of c.args.stores.now)))

pub returns-in-Hold-clause-after : goal.returns-in-Hold-clause-after
returns-in-Hold-clause-after c =
    rw c.in-Hold.is (edited_here c.args.tables.now c.args.current (Hold c.in-Hold.at) c.args.stores.now c.index-stores-current-in-Hold.result c.insert_hold.new.list c.insert_hold.result c.requires (c.insert_hold.ensures.after (lists_of c.args.stores.now)) c.insert_hold.ensures.marks)

pub returns-in-ShowBit-clause-returned : goal.returns-in-ShowBit-clause-returned
returns-in-ShowBit-clause-returned c =
    rw c.in-ShowBit.is (subst (λ (s : StoreValue). EditAnswers c.args.tables.now (lists_of c.args.stores.now) s.list (ShowBit c.in-ShowBit.at c.in-ShowBit.shown) c.set_show_bit.result) ((found c.args.stores.now c.args.current c.index-stores-current-in-ShowBit.result c.requires)) (c.set_show_bit.ensures.returned c.args.tables.now (lists_of c.args.stores.now)))

pub returns-in-ShowBit-clause-after : goal.returns-in-ShowBit-clause-after
returns-in-ShowBit-clause-after c =
    rw c.in-ShowBit.is (edited_here c.args.tables.now c.args.current (ShowBit c.in-ShowBit.at c.in-ShowBit.shown) c.args.stores.now c.index-stores-current-in-ShowBit.result c.set_show_bit.new.list c.set_show_bit.result c.requires (c.set_show_bit.ensures.after c.args.tables.now (lists_of c.args.stores.now)) c.set_show_bit.ensures.marks)

pub returns-in-Copy-clause-returned : goal.returns-in-Copy-clause-returned
returns-in-Copy-clause-returned c = rw c.in-Copy.is (c.copy.ensures.returned c.args.tables.now)

pub returns-in-Copy-clause-after : goal.returns-in-Copy-clause-after
returns-in-Copy-clause-after c = rw c.in-Copy.is (c.copy.ensures.after c.args.tables.now)
