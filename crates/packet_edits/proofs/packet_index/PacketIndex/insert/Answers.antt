use Rattle.std.proofs.Common.{◌≡◌, Bool, List, ap, ◌∙◌, rules}
use Rattle.std.specs.List.{insert, remove}
use Rattle.packet_edits.specs.declared.packet_index.PacketIndex.{PacketIndex}
use Rattle.packet_edits.proofs.Mapped.{remove_inserted}
use Rattle.packet_edits.proofs.packet_index.PacketIndex.insert.Goals as goal

abbrev both_of : List Bool → List Bool → PacketIndex
both_of shown keys = record { shown = shown; keys = keys }

pub returns-then-is_err : goal.returns-then-is_err
returns-then-is_err c =
    let put : c.insert.new.self ≡ insert c.args.self.now.shown c.args.at c.is_shown.result = search rules in
    let shown : c.remove.new.self ≡ c.args.self.now.shown = c.remove.ensures ∙ ap (λ (flags : List Bool). remove flags c.args.at) put ∙ remove_inserted c.args.self.now.shown c.args.at c.is_shown.result c.requires.places.0 in
    let keys : c.insert-2.new.self ≡ c.args.self.now.keys = search rules in
    ap (λ (flags : List Bool). both_of flags c.insert-2.new.self) shown ∙ ap (λ (flags : List Bool). both_of c.args.self.now.shown flags) keys
