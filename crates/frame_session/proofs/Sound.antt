-- A session's cache stays sound.
use Rattle.std.proofs.Common.{◌≡◌, ℕ, zero, suc, ◌<◌, ◌≤◌, ◌⊎◌, inl, inr, Bool, true, false, cond, List, [], ◌∷◌, Option, Some, None, Result, Ok, Err, length, map, nat_eq, nat_lt, option_map, slice_get, slice_set, eqb-true, refl, sym, ap, subst, ◌∙◌, arith}
use Rattle.std.proofs.lemmas.Bool.Decides.{nat_tests}
use Rattle.std.proofs.lemmas.List.{length-map}
use Rattle.std.specs.Cmp.{nat_eq_equiv}
use Rattle.std.specs.Option.{option_map_or}
use Rattle.std.specs.Prelude.{IsSome}
use Rattle.std.specs.Result.{result_unwrap_or}
use Rattle.vp8_tables.specs.declared.tables.Tables.{Tables}
use Rattle.packet_times.specs.declared.durations.Duration.{Duration}
use Rattle.packet_edits.specs.declared.entry.Entry.{Entry}
use Rattle.stream_files.specs.declared.streams.Stream.{Stream}
use Rattle.packet_edits.specs.declared.fault.EditFault.TheVariants as faults
use Rattle.packet_edits.specs.Edits.{Listing, copied, inserted_for, refused_copy, refused_insertion}
use Rattle.packet_edits.specs.Laws.{HasOwnIds}
use Rattle.packet_edits.specs.Marks.{StoreValue, marks_inserted}
use Rattle.packet_forge.specs.Packets.{blank_of}
use Rattle.pixel_planes.specs.Pictures.{PictureSamples}
use Rattle.state_cache.specs.declared.outcomes.Kept.{Kept}
use Rattle.stream_steps.specs.declared.broken.Broken.{Broken}
use Rattle.state_cache.specs.declared.outcomes.ReachFault.TheVariants.{Refused, NoMemory, TooManyShares}
use Rattle.state_cache.specs.Costs.{Costs, IsIdOf}
use Rattle.stream_steps.specs.Decoding.{Outcome}
use Rattle.state_cache.specs.declared.outcomes.PacketKey.{PacketKey}
use Rattle.state_cache.specs.EditLaws.{DropsKeepCoherence, EditsKeepCoherence, EditsKeepIds, IsViewWithout, IsMarked, NextIdIsNotCached, AreOfPackets, after_insertion, after_move, after_show_bit, id_at}
use Rattle.state_cache.specs.Reaching.{CacheValue, OthersDrop, ReachAnswers, view_of}
use Rattle.state_cache.specs.Views.{Before, CoherentFrom, Drops, IsCoherent, MarkedPacket, View, entering, cached_in, known, leaving as leaving_packet, marked_packets}
use Rattle.request_lines.specs.declared.edit.Edit.{Edit}
use Rattle.request_lines.specs.declared.edit.Edit.TheVariants.{Insert, Replace, Delete, Move, Copy, Blank, Hold, ShowBit}
use Rattle.frame_session.specs.declared.refusal.Refusal.{Refusal}
use Rattle.frame_session.specs.declared.refusal.Refusal.TheVariants as refusals
use Rattle.frame_session.specs.IsOrNoMemory.{IsOrNoMemory, MayRunOutOfMemory}
use Rattle.frame_session.specs.Edits.{EditAnswers, hold_bytes_at, list_at, refusal_by, refused_copy_of, refused_edit, stamp_before, count_unless}
use Rattle.frame_session.specs.Cached.{CacheWithout, IsSession, IsSound, leaving, id_removed, lists_of, store_at, store_edited, store_of_file, stores_after, stores_edited}
use Rattle.frame_session.specs.Sessions.{picture_from}
use Rattle.frame_session.proofs.Stores.{store_here, store_there}

-- there is no packet past the last
pub no_id : (es : List Entry) (at : ℕ) → length es ≤ at → None ≡ id_at es at
no_id [] at h = refl
no_id (e ∷ es) zero h = absurd (omega (arith, h))
no_id (e ∷ es) (suc at) h = no_id es at (omega (arith, h))

-- an edit that is accepted has no refusal
accepted : (refusal : Option Refusal) (n count : ℕ) → count_unless refusal n ≡ Ok count → refusal ≡ None
accepted None n count e = refl
accepted (Some refusal) n count e = cc

edit_accepted : (tables : Tables) (lists : List Listing) (list : Listing) (edit : Edit (List ℕ)) (count : ℕ) → EditAnswers tables lists list edit (Ok count) → refused_edit tables lists list edit ≡ None
edit_accepted tables lists list (Insert at stamp bytes) count answers = accepted _ _ count answers
edit_accepted tables lists list (Replace at bytes) count answers = accepted _ _ count (sym answers)
edit_accepted tables lists list (Delete at) count answers = accepted _ _ count (sym answers)
edit_accepted tables lists list (Move from to) count answers = accepted _ _ count (sym answers)
edit_accepted tables lists list (Copy source from at) count answers = accepted _ _ count answers
edit_accepted tables lists list (Blank at width height) count answers = accepted _ _ count answers
edit_accepted tables lists list (Hold at) count answers = accepted _ _ count answers
edit_accepted tables lists list (ShowBit at shown) count answers = accepted _ _ count answers

-- a packet that may be copied exists
packet_exists : (es : List Entry) (n : ℕ) → nat_lt n (length es) ≡ true → (e : Entry) × (slice_get es n ≡ Some e)
packet_exists [] n h = absurd (no_lt n h)
  where
    no_lt : (m : ℕ) → nat_lt m 0 ≡ true → ⊥
    no_lt m e = grind (arith, nat_tests)
packet_exists (e ∷ es) zero h = (e, refl)
packet_exists (e ∷ es) (suc n) h = packet_exists es n (grind (arith, nat_tests))

copy_exists : (lists : List Listing) (list : Listing) (source from at : ℕ) → refused_copy_of lists list source from at ≡ None → (e : Entry) × (slice_get (list_at lists source).entries from ≡ Some e)
copy_exists lists list source from at allowed = by_source (nat_lt source (length lists)) allowed
  where
    by_packet : (b : Bool) → nat_lt from (length (list_at lists source).entries) ≡ b → option_map refusal_by (cond b (refused_insertion list at) (Some faults.Place)) ≡ None → (e : Entry) × (slice_get (list_at lists source).entries from ≡ Some e)
    by_packet true e h = packet_exists (list_at lists source).entries from e
    by_packet false e h = cc

    by_source : (b : Bool) → cond b (option_map refusal_by (refused_copy list at (list_at lists source) from)) (Some refusals.Source) ≡ None → (e : Entry) × (slice_get (list_at lists source).entries from ≡ Some e)
    by_source true h = by_packet (nat_lt from (length (list_at lists source).entries)) refl h
    by_source false h = cc

same_case : (p m : ℕ) (b : Bool) → nat_eq p m ≡ b → (p ≡ m) ⊎ (p ≡ m → ⊥)
same_case p m true e = inl (eqb-true p m e)
same_case p m false e = inr (λ same. let is : nat_eq p m ≡ true = ap (nat_eq p) (sym same) ∙ nat_eq_equiv.refl p in cc)

-- a fact about each source, if it holds of one source and of the others
each_source : (P : ℕ → Type 0) (source : ℕ) → P source → ((other : ℕ) → (other ≡ source → ⊥) → P other) → (q : ℕ) → P q
each_source P source here there q = by_case (same_case q source (nat_eq q source) refl)
  where
    by_case : (q ≡ source) ⊎ (q ≡ source → ⊥) → P q
    by_case (inl same) = subst P (sym same) here
    by_case (inr differs) = there q differs

module _ (tables : Tables) where
  -- nothing is cached
  none_coherent : (b : Before) (ps : List MarkedPacket) (kept : View) → ((id : ℕ) → kept id ≡ None) → CoherentFrom tables b ps kept
  none_coherent b [] kept none = tt
  none_coherent b (p ∷ ps) kept none = rw (none p.id) (tt, none_coherent (leaving_packet tables (entering b p) p.bytes None) ps kept none)

  pub begun_sound : (stores : List StoreValue) (cache : CacheValue) → cache.entries ≡ [] → IsSound tables stores cache
  begun_sound stores cache none =
      let few : 0 ≤ cache.capacity.states = omega arith in
      let empty : (source id : ℕ) → view_of source cache id ≡ None = λ source id. ap (λ (es : List (PacketKey × Kept)). cached_in es source id) none in
      record {
        coherent = λ source. none_coherent (known None) (marked_packets (store_at stores source)) (view_of source cache) (empty source);
        of_packets = λ source id some. nothing_is_cached (store_at stores source).list id (view_of source cache id) (empty source id) some;
        bounded = subst (λ (es : List (PacketKey × Kept)). length es ≤ cache.capacity.states) (sym none) few;
      }
    where
      nothing_is_cached : (list : Listing) (id : ℕ) (o : Option Kept) → o ≡ None → IsSome o → IsIdOf list id
      nothing_is_cached list id None e some = cc
      nothing_is_cached list id (Some kept) e some = cc

  pub begun_session : (files : List Stream) (stores : List StoreValue) (cache : CacheValue) → stores ≡ map store_of_file files → (1 ≤ length files) × (length files ≤ 8) → cache.entries ≡ [] → IsSession tables stores 0 cache
  begun_session files stores cache are sources none =
      let long : length stores ≡ length files = ap length are ∙ length-map files store_of_file in
      record { sound = begun_sound stores cache none; few = omega (arith, long, sources.1); current_exists = omega (arith, long, sources.0) }

  -- a packet is reached, or not
  still_of : (list new : Listing) (before : View) (id : ℕ) → new ≡ list → AreOfPackets list before → IsSome (before id) ⊎ IsIdOf list id → IsIdOf new id
  still_of list new before id same of_packets (inl was) = subst (λ (l : Listing). IsIdOf l id) (sym same) (of_packets id was)
  still_of list new before id same of_packets (inr is) = subst (λ (l : Listing). IsIdOf l id) (sym same) is

  was_some : (old new : Option Kept) → Drops new old → IsSome new → IsSome old
  was_some old None drops some = cc
  was_some old (Some kept) drops some = subst IsSome (sym drops) some

  -- the other sources: the same packets, and some outcomes may be dropped
  module _ (dropping : DropsKeepCoherence tables) (stores : List StoreValue) (before after : CacheValue) (source : ℕ) (new : StoreValue) (drops : OthersDrop source before after) where
    others_coherent : IsSound tables stores before → (other : ℕ) → (other ≡ source → ⊥) → IsCoherent tables (marked_packets (store_at (slice_set stores source new) other)) (view_of other after)
    others_coherent sound other differs =
        let is = store_there stores source other new differs in
        subst (λ (s : StoreValue). IsCoherent tables (marked_packets s) (view_of other after)) (sym is)
        (dropping (marked_packets (store_at stores other)) (view_of other before) (view_of other after) (sound.coherent other) (λ id. drops other id differs))

    others_of_packets : IsSound tables stores before → (other : ℕ) → (other ≡ source → ⊥) → AreOfPackets (store_at (slice_set stores source new) other).list (view_of other after)
    others_of_packets sound other differs = λ id some.
        let is = store_there stores source other new differs in
        subst (λ (s : StoreValue). IsIdOf s.list id) (sym is) (sound.of_packets other id (was_some (view_of other before id) (view_of other after id) (drops other id differs) some))

    pub reached_sound : (place : ℕ) (reached : Bool) → source < length stores → new.list ≡ (store_at stores source).list → IsSound tables stores before → IsCoherent tables (marked_packets new) (view_of source after) → Costs tables source (store_at stores source) before place reached new after → IsSound tables (slice_set stores source new) after
    reached_sound place reached within same sound coherent costs =
        let here = store_here stores source new within in
        record {
          coherent = each_source (λ q. IsCoherent tables (marked_packets (store_at (slice_set stores source new) q)) (view_of q after)) source
              (subst (λ (s : StoreValue). IsCoherent tables (marked_packets s) (view_of source after)) (sym here) coherent) (others_coherent sound);
          of_packets = each_source (λ q. AreOfPackets (store_at (slice_set stores source new) q).list (view_of q after)) source
              (λ id some. subst (λ (s : StoreValue). IsIdOf s.list id) (sym here) (still_of (store_at stores source).list new.list (view_of source before) id same (sound.of_packets source) (costs.of_packets id some)))
              (others_of_packets sound);
          bounded = costs.bounded;
        }

  -- the result of reaching a packet is one that a frame may have
  pub picture_given : (source : ℕ) (o : Option Outcome) (kept : Kept) → (want : Outcome) × (o ≡ Some want) × ReachAnswers want (Ok kept) → IsOrNoMemory (picture_from source o) (Ok kept.picture)
  picture_given source o kept reached = ap (picture_from source) (reached.1 ∙ ap Some reached.2)

  pub break_given : (source : ℕ) (o : Option Outcome) (broken : Broken) → (want : Outcome) × (o ≡ Some want) × ReachAnswers want (Err (Refused broken)) → IsOrNoMemory {A = PictureSamples} (picture_from source o) (Err (refusals.Packet source broken.place broken.cause))
  break_given source o broken reached = ap (picture_from source) (reached.1 ∙ ap Some reached.2)

  pub nothing_given : (source : ℕ) (o : Option Outcome) → (want : Outcome) × (o ≡ Some want) × ReachAnswers want (Err NoMemory) → IsOrNoMemory {A = PictureSamples} (picture_from source o) (Err refusals.NoMemory)
  nothing_given source o reached = subst (λ (p : Option Outcome). MayRunOutOfMemory (picture_from source p)) (sym reached.1) (may_lack reached.0)
    where
      may_lack : (want : Outcome) → MayRunOutOfMemory (picture_from source (Some want))
      may_lack (Ok decoded) = tt
      may_lack (Err broken) = tt

  pub unshared_given : (source : ℕ) (o : Option Outcome) → (want : Outcome) × (o ≡ Some want) × ReachAnswers want (Err TooManyShares) → IsOrNoMemory {A = PictureSamples} (picture_from source o) (Err refusals.NoMemory)
  unshared_given source o reached = subst (λ (p : Option Outcome). MayRunOutOfMemory (picture_from source p)) (sym (reached.1 ∙ ap Some reached.2.1)) tt

  -- an edit of one source, in terms of that source
  pub record IsSourceSound (store : StoreValue) (kept : View) : Type 0 where
    pub coherent : IsCoherent tables (marked_packets store) kept
    pub of_packets : AreOfPackets store.list kept

  drops_none : (new old : Option Kept) → new ≡ old → Drops new old
  drops_none None old same = tt
  drops_none (Some kept) old same = sym same

  -- an edit: what is cached of its source stays sound with the new packets and marks,
  -- and what is cached of the others with theirs
  module _ (dropping : DropsKeepCoherence tables) (coherence : EditsKeepCoherence tables) (ids : EditsKeepIds) (next : NextIdIsNotCached) where
    same_view : (store : StoreValue) (old new : View) → ((q : ℕ) → new q ≡ old q) → IsSourceSound store old → IsSourceSound store new
    same_view store old new same s = record {
      coherent = dropping (marked_packets store) old new s.coherent (λ id. drops_none (new id) (old id) (same id));
      of_packets = λ id some. s.of_packets id (subst IsSome (same id) some);
    }

    inserted_sound : (duration : Duration) (at stamp : ℕ) (bytes : List ℕ) (store : StoreValue) (kept : View) → IsMarked store → HasOwnIds store.list → IsSourceSound store kept → IsSourceSound (after_insertion duration at stamp bytes store) kept
    inserted_sound duration at stamp bytes store kept marked own s =
        let none : kept store.list.next_id ≡ None = next store.list kept own s.of_packets in
        record {
          coherent = coherence.insertions store kept duration at stamp bytes marked none s.coherent;
          of_packets = ids.insertions store.list kept duration at stamp bytes s.of_packets;
        }

    pub edited_source : (lists : List Listing) (edit : Edit (List ℕ)) (store : StoreValue) (old new : View) → IsMarked store → HasOwnIds store.list → refused_edit tables lists store.list edit ≡ None → IsSourceSound store old → IsViewWithout (leaving edit store.list) old new
        → IsSourceSound (store_edited tables lists edit store) new
    edited_source lists (Insert at stamp bytes) store old new marked own allowed s without = same_view (after_insertion store.list.usual at stamp bytes store) old new without (inserted_sound store.list.usual at stamp bytes store old marked own s)
    edited_source lists (Replace at bytes) store old new marked own allowed s without = record {
      coherent = coherence.replacements store old new at bytes marked (next store.list old own s.of_packets) without s.coherent;
      of_packets = ids.replacements store.list old new at bytes without s.of_packets;
    }
    edited_source lists (Delete at) store old new marked own allowed s without = record {
      coherent = coherence.deletions store old new at marked without s.coherent;
      of_packets = ids.deletions store.list old new at without s.of_packets;
    }
    edited_source lists (Move from to) store old new marked own allowed s without = same_view (after_move from to store) old new without (record {
      coherent = coherence.moves store old from to marked s.coherent;
      of_packets = ids.moves store.list old from to s.of_packets;
    })
    edited_source lists (Copy source from at) store old new marked own allowed s without =
        let packet = copy_exists lists store.list source from at allowed in
        let is : copied at (list_at lists source) from store.list ≡ inserted_for packet.0.duration at packet.0.stamp packet.0.bytes store.list = ap (λ (o : Option Entry). option_map_or (λ (entry : Entry). inserted_for entry.duration at entry.stamp entry.bytes store.list) o store.list) packet.1 in
        subst (λ (l : Listing). IsSourceSound (record { list = l; marks = marks_inserted at store.marks }) new) (sym is)
        (same_view (after_insertion packet.0.duration at packet.0.stamp packet.0.bytes store) old new without (inserted_sound packet.0.duration at packet.0.stamp packet.0.bytes store old marked own s))
    edited_source lists (Blank at width height) store old new marked own allowed s without = same_view _ old new without (inserted_sound store.list.usual at (stamp_before at store.list) (result_unwrap_or (blank_of tables width height) []) store old marked own s)
    edited_source lists (Hold at) store old new marked own allowed s without = same_view _ old new without (inserted_sound store.list.usual at (stamp_before at store.list) (result_unwrap_or (hold_bytes_at tables store.list at) []) store old marked own s)
    edited_source lists (ShowBit at shown) store old new marked own allowed s without = same_view (after_show_bit at shown store) old new without (record {
      coherent = coherence.show_bits store old at shown s.coherent;
      of_packets = ids.show_bits store.list old at shown s.of_packets;
    })

    others_drop : (current : ℕ) (left : Option ℕ) (old new : CacheValue) → CacheWithout current left old new → OthersDrop current old new
    others_drop current None old new without = λ other id differs. drops_none (view_of other new id) (view_of other old id) (ap (λ (c : CacheValue). view_of other c id) without)
    others_drop current (Some left) old new without = λ other id differs. drops_none (view_of other new id) (view_of other old id) (without.1 other id differs)

    kept_without : (current : ℕ) (left : Option ℕ) (old new : CacheValue) → CacheWithout current left old new → IsViewWithout left (view_of current old) (view_of current new)
    kept_without current None old new without = λ q. ap (λ (c : CacheValue). view_of current c q) without
    kept_without current (Some id) old new without = without.0

    edited_sound : (current : ℕ) (edit : Edit (List ℕ)) (stores : List StoreValue) (old new : CacheValue) → current < length stores → IsMarked (store_at stores current) → HasOwnIds (store_at stores current).list → refused_edit tables (lists_of stores) (store_at stores current).list edit ≡ None
        → IsSound tables stores old → CacheWithout current (leaving edit (store_at stores current).list) old new → length new.entries ≤ new.capacity.states → IsSound tables (stores_edited tables current edit stores) new
    edited_sound current edit stores old new within marked own allowed sound without few =
        let store = store_at stores current in
        let made = store_edited tables (lists_of stores) edit store in
        let left = leaving edit store.list in
        let here : store_at (slice_set stores current made) current ≡ made = store_here stores current made within in
        let drops = others_drop current left old new without in
        let source : IsSourceSound made (view_of current new) =
        edited_source (lists_of stores) edit store (view_of current old) (view_of current new) marked own allowed (record { coherent = sound.coherent current; of_packets = sound.of_packets current }) (kept_without current left old new without) in
        record {
          coherent = each_source (λ q. IsCoherent tables (marked_packets (store_at (slice_set stores current made) q)) (view_of q new)) current
              (subst (λ (s : StoreValue). IsCoherent tables (marked_packets s) (view_of current new)) (sym here) source.coherent) (others_coherent dropping stores old new current made drops sound);
          of_packets = each_source (λ q. AreOfPackets (store_at (slice_set stores current made) q).list (view_of q new)) current
              (subst (λ (s : StoreValue). AreOfPackets s.list (view_of current new)) (sym here) source.of_packets) (others_of_packets dropping stores old new current made drops sound);
          bounded = few;
        }

    pub answered_sound : (current : ℕ) (edit : Edit (List ℕ)) (stores : List StoreValue) (old new : CacheValue) (answer : Result ℕ Refusal) → current < length stores → IsMarked (store_at stores current) → HasOwnIds (store_at stores current).list
        → EditAnswers tables (lists_of stores) (store_at stores current).list edit answer → IsSound tables stores old → CacheWithout current (id_removed edit (store_at stores current).list answer) old new → (length old.entries ≤ old.capacity.states → length new.entries ≤ new.capacity.states) → IsSound tables (stores_after tables current edit stores answer) new
    answered_sound current edit stores old new (Ok count) within marked own answers sound without few =
        edited_sound current edit stores old new within marked own (edit_accepted tables (lists_of stores) (store_at stores current).list edit count answers) sound without (few sound.bounded)
    answered_sound current edit stores old new (Err refusal) within marked own answers sound without few = subst (λ (c : CacheValue). IsSound tables stores c) (sym without) sound
