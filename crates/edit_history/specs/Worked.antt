-- A worked trail: one source with packets 0, 1 and 2, of which packet 1 was deleted.
use Rattle.std.specs.Prelude.{ℕ, true, false, List, [], ◌∷◌, map}
use Rattle.packet_times.specs.Durations.{one_frame}
use Rattle.packet_edits.specs.declared.entry.Entry.{Entry}
use Rattle.packet_edits.specs.Marks.{StoreValue}
use Rattle.edit_history.specs.declared.change.Change.TheVariants.{Put}
use Rattle.edit_history.specs.declared.step.Step.TheVariants.{Packets}
use Rattle.edit_history.specs.Steps.{content_of, store_at}
use Rattle.edit_history.specs.Trails.{Trail, nothing, remembering, trail_of}

-- a packet with this id and without bytes
abbrev pub packet : ℕ → Entry
packet id = record { id = id; stamp = 0; duration = one_frame; bytes = [] }

-- the packets after the deletion; the next id is 5
abbrev pub two_left : StoreValue
two_left = record { list = record { entries = packet 0 ∷ packet 2 ∷ []; next_id = 5; usual = one_frame }; marks = false ∷ true ∷ [] }

abbrev pub after_deletion : Trail
after_deletion = trail_of (content_of (two_left ∷ []) [] 0) (remembering (Packets 0 (Put 1 (packet 1)) 0) nothing)

-- the packets and marks of the source
abbrev pub source_of : Trail → StoreValue
source_of trail = store_at trail.now.stores 0

abbrev pub ids_of : Trail → List ℕ
ids_of trail = map (λ entry. entry.id) (source_of trail).list.entries
