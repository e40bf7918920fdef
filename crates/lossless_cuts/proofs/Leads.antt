-- Hidden packets step as the packets that they are copies of.
use Rattle.std.proofs.Common.{◌≡◌, ℕ, ◌==◌, Bool, true, false, not, List, [], ◌∷◌, ◌++◌, length, Option, Some, None, Ok, refl, sym, ap, subst, ◌∙◌}
use Rattle.std.proofs.Math.Dec.{eqb-suc-zero}
use Rattle.vp8_tables.specs.Tables.{TableEntries}
use Rattle.frame_header.specs.Tags.{has_key_tag, is_shown}
use Rattle.pixel_planes.specs.Pictures.{PictureSamples}
use Rattle.packet_edits.specs.Sizes.{key_tag_at}
use Rattle.packet_forge.specs.Laws.{AreUpdates, HasLast, HoldShowsLast}
use Rattle.packet_forge.specs.Packets.{hold_of}
use Rattle.reference_frames.specs.StepLaws.{KeysStepFromNone}
use Rattle.reference_frames.specs.Steps.{step_of}
use Rattle.reference_frames.specs.declared.states.State.{State}
use Rattle.frame_header.specs.ShowLaws.{ShowBitSays}
use Rattle.frame_header.specs.ShowBits.{with_show_bit}
use Rattle.stream_steps.specs.Hidden.{ShowBitKeepsSteps}
use Rattle.lossless_cuts.specs.Holds.{BiasesAreSetAnew, HoldsClearBiases, unbiased}
use Rattle.lossless_cuts.specs.Plans.{has_bytes, hidden}
use Rattle.lossless_cuts.proofs.Views.{has_bit}
use Rattle.lossless_cuts.proofs.Runs.{FromKey, FromState, Steps}
use Rattle.lossless_cuts.proofs.Plays.{Plays, PlaysFirst, shown_before}

-- the laws on which exports stand
pub record Laws : Type 0 where
  pub keys : KeysStepFromNone
  pub hides : ShowBitKeepsSteps
  pub says : ShowBitSays
  pub clears : HoldsClearBiases
  pub anew : BiasesAreSetAnew
  pub holds : HoldShowsLast

-- the state of an export and that of a source: the same, or the same but for the sign biases, which a hold cleared
pub data Like (own source : Option State) : Type 0 where
  alike_as : own ≡ source → Like own source
  alike_cleared : (state : State) → source ≡ Some state → own ≡ Some (unbiased state) → Like own source

pub like_moved : (own source source' : Option State) → source ≡ source' → Like own source → Like own source'
like_moved own source source' e like = subst (λ (s : Option State). Like own s) e like

-- a packet with bytes steps the same from both
pub step_like : Laws → (tables : TableEntries) (own source : Option State) (packet : List ℕ) → Like own source → (length packet == 0) ≡ false → step_of tables own packet ≡ step_of tables source packet
step_like laws tables own source packet (alike_as e) bytes = ap (λ (s : Option State). step_of tables s packet) e
step_like laws tables own source packet (alike_cleared state e f) bytes =
    ap (λ (s : Option State). step_of tables s packet) f ∙ laws.anew tables state packet bytes ∙ sym (ap (λ (s : Option State). step_of tables s packet) e)

-- ---- a hidden packet

hidden_shown : Laws → (tables : TableEntries) (before : Option State) (packet : List ℕ) (d : State × PictureSamples) → (length packet == 0) ≡ false → step_of tables before packet ≡ Ok d → is_shown (with_show_bit false packet) ≡ false
hidden_shown laws tables before packet d bytes is = laws.says false packet (has_bit tables before packet d bytes is)

-- it is accepted, and shows nothing
hidden_first : Laws → (tables : TableEntries) (own : Option State) (packet : List ℕ) (d : State × PictureSamples) (rest : Option State → List PictureSamples → Type 0) → (length packet == 0) ≡ false → step_of tables own packet ≡ Ok d → rest (Some d.0) [] → PlaysFirst tables own (with_show_bit false packet) [] rest
hidden_first laws tables own packet d rest bytes is onward = record {
  d = d;
  later = [];
  is = laws.hides tables own false packet ∙ is;
  shows = sym (ap (λ (b : Bool). shown_before b d.1 []) (hidden_shown laws tables own packet d bytes is));
  onward = onward;
}

hidden-cons : (packet : List ℕ) (packets : List (List ℕ)) → has_bytes packet ≡ true → hidden (packet ∷ packets) ≡ with_show_bit false packet ∷ hidden packets
hidden-cons packet packets bytes = rw bytes refl

-- ---- a lead

-- after the hidden packets the export's state is like the source's
pub record Led (tables : TableEntries) (own : Option State) (packets : List (List ℕ)) (source : Option State) : Type 0 where
  pub last : Option State
  pub like : Like last source
  pub plays : Plays tables own (hidden packets) [] last

dropped_state : (tables : TableEntries) (source : Option State) (d : State × PictureSamples) → step_of tables source [] ≡ Ok d → source ≡ Some d.0
unfolding step_of
dropped_state tables None d is = cc
dropped_state tables (Some state) d is = let same : (state, state.references.last) ≡ d = cc in ap (λ (e : State × PictureSamples). let s : Option State = Some e.0 in s) same

pub led : Laws → (tables : TableEntries) (own source last : Option State) (packets : List (List ℕ)) → Like own source → Steps tables source packets last → Led tables own packets last
led laws tables own source last [] like steps = record { last = own; like = like_moved own source last steps like; plays = (refl, refl) }
led laws tables own source last ([] ∷ packets) like steps =
    let stays : source ≡ Some steps.d.0 = dropped_state tables source steps.d steps.is in
    let rest : Led tables own packets last = led laws tables own (Some steps.d.0) last packets (like_moved own source (Some steps.d.0) stays like) steps.onward in
    record { last = rest.last; like = rest.like; plays = rest.plays }
led laws tables own source last ((byte ∷ bytes) ∷ packets) like steps =
    let some : (length (byte ∷ bytes) == 0) ≡ false = eqb-suc-zero (length bytes) in
    let is : step_of tables own (byte ∷ bytes) ≡ Ok steps.d = step_like laws tables own source (byte ∷ bytes) like some ∙ steps.is in
    let rest : Led tables (Some steps.d.0) packets last = led laws tables (Some steps.d.0) (Some steps.d.0) last packets (alike_as refl) steps.onward in
    let shown : Plays tables own (with_show_bit false (byte ∷ bytes) ∷ hidden packets) [] rest.last = hidden_first laws tables own (byte ∷ bytes) steps.d (λ mid later. Plays tables mid (hidden packets) later rest.last) some is rest.plays in
    record {
      last = rest.last;
      like = rest.like;
      plays = subst (λ (ps : List (List ℕ)). Plays tables own ps [] rest.last) (sym (hidden-cons (byte ∷ bytes) packets (ap not some))) shown;
    }

-- ---- a lead, and the packet after it

-- after the hidden packets, the packet of the frame has its own result, if it has bytes
pub record Ready (tables : TableEntries) (own : Option State) (packets : List (List ℕ)) (packet : List ℕ) (d : State × PictureSamples) : Type 0 where
  pub last : Option State
  pub plays : Plays tables own (hidden packets) [] last
  pub is : (length packet == 0) ≡ false → step_of tables last packet ≡ Ok d
  pub dropped : packet ≡ [] → Like last (Some d.0) × (d.0.references.last ≡ d.1)

dropped_picture : (tables : TableEntries) (source : Option State) (d : State × PictureSamples) → step_of tables source [] ≡ Ok d → d.0.references.last ≡ d.1
unfolding step_of
dropped_picture tables None d is = cc
dropped_picture tables (Some state) d is =
    let as_is : (state, state.references.last) ≡ d = cc in
    sym (ap (λ (e : State × PictureSamples). e.0.references.last) as_is) ∙ ap (λ (e : State × PictureSamples). e.1) as_is

ready_like : Laws → (tables : TableEntries) (own source : Option State) (packets : List (List ℕ)) (packet : List ℕ) (d : State × PictureSamples) → Led tables own packets source → step_of tables source packet ≡ Ok d → Ready tables own packets packet d
ready_like laws tables own source packets packet d l is = record {
  last = l.last;
  plays = l.plays;
  is = λ bytes. step_like laws tables l.last source packet l.like bytes ∙ is;
  dropped = λ empty.
      let from : step_of tables source [] ≡ Ok d = ap (step_of tables source) (sym empty) ∙ is in
      (like_moved l.last source (Some d.0) (dropped_state tables source d from) l.like, dropped_picture tables source d from);
}

pub ready_after : Laws → (tables : TableEntries) (own : Option State) (state : State) (packets : List (List ℕ)) (packet : List ℕ) (d : State × PictureSamples) → Like own (Some state) → FromState tables state packets packet d → Ready tables own packets packet d
ready_after laws tables own state packets packet d like from =
    ready_like laws tables own from.last packets packet d (led laws tables own (Some state) from.last packets like from.steps) from.is

-- from a key packet the state before does not matter
key_bytes : (packet : List ℕ) → has_key_tag packet ≡ true → (length packet == 0) ≡ false
key_bytes [] key = cc
key_bytes (byte ∷ bytes) key = eqb-suc-zero (length bytes)

empty_key : (packet : List ℕ) → has_key_tag packet ≡ true → packet ≡ [] → ⊥
empty_key packet key empty = let none : has_key_tag [] ≡ true = ap has_key_tag (sym empty) ∙ key in cc

pub ready_key : Laws → (tables : TableEntries) (own : Option State) (packets : List (List ℕ)) (packet : List ℕ) (d : State × PictureSamples) → key_tag_at (packets ++ packet ∷ []) 0 ≡ true → FromKey tables packets packet d → Ready tables own packets packet d
ready_key laws tables own [] packet d key from =
    let bytes : (length packet == 0) ≡ false = key_bytes packet key in
    let is : step_of tables None packet ≡ Ok d = ap (λ (s : Option State). step_of tables s packet) from.steps ∙ from.is in
    record {
      last = own;
      plays = (refl, refl);
      is = λ some. laws.keys tables own packet key ∙ is;
      dropped = λ empty. absurd (empty_key packet key empty);
    }
ready_key laws tables own (x ∷ packets) packet d key from =
    let bytes : (length x == 0) ≡ false = key_bytes x key in
    let first : step_of tables own x ≡ Ok from.steps.d = laws.keys tables own x key ∙ from.steps.is in
    let rest : Led tables (Some from.steps.d.0) packets from.state = led laws tables (Some from.steps.d.0) (Some from.steps.d.0) from.state packets (alike_as refl) from.steps.onward in
    let shown : Plays tables own (with_show_bit false x ∷ hidden packets) [] rest.last = hidden_first laws tables own x from.steps.d (λ mid later. Plays tables mid (hidden packets) later rest.last) bytes first rest.plays in
    let whole : Plays tables own (hidden (x ∷ packets)) [] rest.last = subst (λ (ps : List (List ℕ)). Plays tables own ps [] rest.last) (sym (hidden-cons x packets (ap not bytes))) shown in
    ready_like laws tables own from.state (x ∷ packets) packet d (record { last = rest.last; like = rest.like; plays = whole }) from.is

-- ---- a hold packet

has_last_unbiased : (state : State) → HasLast state → HasLast (unbiased state)
has_last_unbiased state has = record { whole = has.whole; luma = has.luma; cb = has.cb; cr = has.cr }

-- it shows the last reference, and leaves a state that is like the source's
pub record Holds (tables : TableEntries) (own : Option State) (state : State) (packet : List ℕ) : Type 0 where
  pub is : step_of tables own packet ≡ Ok (unbiased state, state.references.last)
  pub shown : is_shown packet ≡ true

pub other_is : (other state : State) → ◌≡◌ {A = Option State} (Some state) (Some other) → other ≡ state
other_is other state e = cc

pub hold_like : Laws → (tables : TableEntries) (own : Option State) (state : State) (packet : List ℕ) → AreUpdates tables → HasLast state → Like own (Some state) → hold_of tables state.references.last.width state.references.last.height ≡ Ok packet → Holds tables own state packet
hold_like laws tables own state packet updates has (alike_as e) forged = record {
  is = ap (λ (s : Option State). step_of tables s packet) e ∙ laws.clears tables state packet updates has forged;
  shown = (laws.holds tables state packet updates has forged).0;
}
hold_like laws tables own state packet updates has (alike_cleared other e f) forged =
    let whole : other ≡ state = other_is other state e in
    let own_is : own ≡ Some (unbiased state) = f ∙ ap (λ (s : State). let o : Option State = Some (unbiased s) in o) whole in
    record {
      is = ap (λ (s : Option State). step_of tables s packet) own_is ∙ laws.clears tables (unbiased state) packet updates (has_last_unbiased state has) forged;
      shown = (laws.holds tables state packet updates has forged).0;
    }
