-- The functions that answer questions.
use Rattle.std.proofs.Common.{◌≡◌, ℕ, zero, suc, ◌≤◌, true, false, List, [], ◌∷◌, Option, None, Some, Result, length, map, option_map, slice_get, refl, sym, ap, subst, ◌∙◌, arith}
use Rattle.std.specs.Io.KnownBytes.{Appends}
use Rattle.std.specs.Option.{option_map_or}
use Rattle.std.specs.Prelude.{OnOk}
use Rattle.packet_edits.specs.declared.entry.Entry.{Entry}
use Rattle.packet_edits.specs.Edits.{Listing}
use Rattle.packet_edits.specs.Shown.{stream_of}
use Rattle.request_lines.specs.declared.lines.Line.{Line}
use Rattle.frame_session.specs.declared.refusal.Refusal.TheVariants as refusals
use Rattle.frame_session.specs.Questions.{is_question, packet_answer}
use Rattle.frame_session.specs.Replies.{packet_line, refused_line}

packet_at : (es : List Entry) (at stamp : ℕ) (bytes : List ℕ) → option_map (λ (e : Entry). e.stamp) (slice_get es at) ≡ Some stamp → slice_get (map (λ (e : Entry). e.bytes) es) at ≡ Some bytes
    → option_map_or (λ (e : Entry). packet_line e.stamp e.bytes) (slice_get es at) (refused_line refusals.Place) ≡ packet_line stamp bytes
packet_at [] at stamp bytes s b = cc
packet_at (e ∷ es) zero stamp bytes s b =
    let same : e.stamp ≡ stamp = cc in
    let all : e.bytes ≡ bytes = cc in
    ap (λ (n : ℕ). packet_line n e.bytes) same ∙ ap (packet_line stamp) all
packet_at (e ∷ es) (suc at) stamp bytes s b = packet_at es at stamp bytes s b

none_at : (es : List Entry) (at : ℕ) → length es ≤ at → slice_get es at ≡ None
none_at [] at past = refl
none_at (e ∷ es) zero past = absurd (omega arith)
none_at (e ∷ es) (suc at) past = none_at es at (omega arith)

-- the reply is that of the packet at an index, or there is none
pub packet_wrote : {A E : Type 0} (w : Result A E) (list : Listing) (at stamp : ℕ) (bytes : List ℕ) (r r' : Option (List ℕ)) → option_map (λ (e : Entry). e.stamp) (slice_get list.entries at) ≡ Some stamp → slice_get (stream_of list) at ≡ Some bytes
    → OnOk w (Appends r r' (packet_line stamp bytes)) → OnOk w (Appends r r' (packet_answer list at))
packet_wrote w list at stamp bytes r r' s b said = subst (λ (text : List ℕ). OnOk w (Appends r r' text)) (sym (packet_at list.entries at stamp bytes s b)) said

pub none_wrote : {A E : Type 0} (w : Result A E) (list : Listing) (at : ℕ) (r r' : Option (List ℕ)) → length list.entries ≤ at → OnOk w (Appends r r' (refused_line refusals.Place)) → OnOk w (Appends r r' (packet_answer list at))
none_wrote w list at r r' past said =
    let none : packet_answer list at ≡ refused_line refusals.Place = ap (λ (o : Option Entry). option_map_or (λ (e : Entry). packet_line e.stamp e.bytes) o (refused_line refusals.Place)) (none_at list.entries at past) in
    subst (λ (text : List ℕ). OnOk w (Appends r r' text)) (sym none) said

-- a line that does more than ask
pub no_question : (line other : Line) → line ≡ other → is_question other ≡ false → is_question line ≡ true → ⊥
no_question line other is does asks = let so : true ≡ false = sym asks ∙ ap is_question is ∙ does in cc
