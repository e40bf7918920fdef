-- What an accepted step is.
use Rattle.std.proofs.Common.{◌≡◌, ℕ, ◌≤◌, ◌<◌, ◌==◌, ◌&&◌, Bool, true, false, not, List, [], ◌∷◌, length, Option, Some, None, Result, Ok, Err, IfOk, refl, sym, ap, subst, ◌∙◌, inl, inr, nat_lt, if◌then◌else◌}
use Rattle.std.specs.Option.{option_map, option_map_or}
use Rattle.std.specs.Result.{result_ok}
use Rattle.std.proofs.Math.Dec.{eqb-suc-zero}
use Rattle.std.proofs.lemmas.Bool.{cases_Bool, cases_lt, lt-leb, le-leb}
use Rattle.vp8_tables.specs.Tables.{TableEntries}
use Rattle.frame_header.specs.Header.{header_of}
use Rattle.frame_header.specs.Outlines.{OutlinesAreHeaders, outline_of, outlined}
use Rattle.frame_header.specs.Start.{key_start, later_start, tagged_start, start_of}
use Rattle.frame_header.specs.Tags.{has_key_tag, number_at, tag_in, tag_of}
use Rattle.frame_header.specs.declared.cause.Cause.{Cause}
use Rattle.frame_header.specs.declared.cause.Cause.TheVariants.{ShortPacket, Version}
use Rattle.frame_header.specs.declared.context.Context.{Context}
use Rattle.frame_header.specs.declared.header.Header.{Header}
use Rattle.frame_header.specs.declared.outline.Outline.{Outline}
use Rattle.frame_header.specs.declared.tag_fields.Tag.{Tag}
use Rattle.frame_header.proofs.KeyLemmas.{IfOk-following}
use Rattle.pixel_planes.specs.Pictures.{PictureSamples}
use Rattle.reference_frames.specs.Steps.{decoded, decoded_by, decoded_picture, step_of}
use Rattle.reference_frames.specs.declared.states.State.{State}
use Rattle.frame_header.specs.ShowBits.{has_show_bit}
use Rattle.stream_steps.proofs.Starts.{Start, either_ok}
use Rattle.lossless_cuts.specs.Plans.{has_bytes, leaves_last}

-- an accepted step: a dropped frame, a key frame, or a later frame, with its header
pub data View (tables : TableEntries) (before : Option State) (packet : List ℕ) (d : State × PictureSamples) : Type 0 where
  is_dropped : packet ≡ [] → (state : State) → before ≡ Some state → (state, state.references.last) ≡ d → View tables before packet d
  is_keyed : has_bytes packet ≡ true → has_key_tag packet ≡ true → (header : Header) → decoded tables packet header None ≡ d → View tables before packet d
  is_later : has_bytes packet ≡ true → has_key_tag packet ≡ false → (state : State) → before ≡ Some state → (header : Header) → header_of tables (Some state.context) packet ≡ Ok header → decoded tables packet header (Some state) ≡ d → View tables before packet d

-- ---- a packet with no key tag needs a state

never_starts : (tag : Tag) (packet : List ℕ) → tag.key ≡ false → IfOk (tagged_start tag None packet) (λ start. ⊥)
never_starts tag packet plain =
    let P : Start → Type 0 = λ start. ⊥ in
    let chosen : IfOk (if tag.key then key_start tag packet else later_start tag None) P = rw plain tt in
    let known : IfOk (if nat_lt 3 tag.version then Err Version else if tag.key then key_start tag packet else later_start tag None) P = either_ok P (nat_lt 3 tag.version) (Err Version) (if tag.key then key_start tag packet else later_start tag None) tt chosen in
    either_ok P (tag.key && nat_lt (length packet) 10) (Err ShortPacket) (if nat_lt 3 tag.version then Err Version else if tag.key then key_start tag packet else later_start tag None) tt known

never_by : (packet : List ℕ) (tag : Option Tag) → option_map_or (λ t. t.key) tag false ≡ false → IfOk (option_map_or (λ t. tagged_start t None packet) tag (Err ShortPacket)) (λ start. ⊥)
never_by packet None plain = tt
never_by packet (Some tag) plain = never_starts tag packet plain

never_header : (tables : TableEntries) (packet : List ℕ) → has_key_tag packet ≡ false → IfOk (header_of tables None packet) (λ header. ⊥)
unfolding header_of
never_header tables packet plain = IfOk-following (λ start. ⊥) (λ header. ⊥) (start_of None packet) _ (never_by packet (tag_of packet) plain) (λ start never. absurd never)

-- ---- the view

bytes_of : (packet : List ℕ) (byte : ℕ) (bytes : List ℕ) → packet ≡ byte ∷ bytes → (length packet == 0) ≡ false
bytes_of packet byte bytes is = ap (λ (p : List ℕ). length p == 0) is ∙ eqb-suc-zero (length bytes)

pub has_bytes-cons : (byte : ℕ) (bytes : List ℕ) → has_bytes (byte ∷ bytes) ≡ true
has_bytes-cons byte bytes = ap not (eqb-suc-zero (length bytes))

view_dropped : (tables : TableEntries) (before : Option State) (d : State × PictureSamples) → step_of tables before [] ≡ Ok d → View tables before [] d
unfolding step_of
view_dropped tables None d is = cc
view_dropped tables (Some state) d is = is_dropped refl state refl (let same : (state, state.references.last) ≡ d = cc in same)

view_key : (tables : TableEntries) (before : Option State) (packet : List ℕ) (d : State × PictureSamples) (result : Result Header Cause) → has_bytes packet ≡ true → has_key_tag packet ≡ true
    → decoded_by tables packet before result ≡ Ok d → View tables before packet d
view_key tables before packet d (Err cause) bytes key is = cc
view_key tables before packet d (Ok header) bytes key is =
    let without : decoded tables packet header (if has_key_tag packet then None else before) ≡ d = cc in
    is_keyed bytes key header (rw key at without)

view_later : (tables : TableEntries) (before : Option State) (packet : List ℕ) (d : State × PictureSamples) (result : Result Header Cause) → has_bytes packet ≡ true → has_key_tag packet ≡ false
    → header_of tables (option_map (λ s. s.context) before) packet ≡ result → decoded_by tables packet before result ≡ Ok d → View tables before packet d
view_later tables before packet d (Err cause) bytes plain header is = cc
view_later tables None packet d (Ok header) bytes plain accepted is =
    absurd (subst (λ (r : Result Header Cause). IfOk r (λ h. ⊥)) accepted (never_header tables packet plain))
view_later tables (Some state) packet d (Ok header) bytes plain accepted is =
    let with_state : decoded tables packet header (if has_key_tag packet then None else Some state) ≡ d = cc in
    is_later bytes plain state refl header accepted (rw plain at with_state)

view_coded : (tables : TableEntries) (before : Option State) (packet : List ℕ) (d : State × PictureSamples) → (length packet == 0) ≡ false → step_of tables before packet ≡ Ok d → View tables before packet d
unfolding step_of
view_coded tables before packet d some is =
    let coded = rw some at is in
    let bytes : has_bytes packet ≡ true = ap not some in
    elim (cases_Bool (has_key_tag packet)) [
      | inl key ↦ view_key tables before packet d (header_of tables (option_map (λ (s : State). s.context) before) packet) bytes key coded
      | inr plain ↦ view_later tables before packet d (header_of tables (option_map (λ (s : State). s.context) before) packet) bytes plain refl coded
    ]

pub view : (tables : TableEntries) (before : Option State) (packet : List ℕ) (d : State × PictureSamples) → step_of tables before packet ≡ Ok d → View tables before packet d
view tables before [] d is = view_dropped tables before d is
view tables before (byte ∷ bytes) d is = view_coded tables before (byte ∷ bytes) d (eqb-suc-zero (length bytes)) is

-- a packet with no key tag is not accepted from no state
pub needs_state : (tables : TableEntries) (packet : List ℕ) (d : State × PictureSamples) → has_key_tag packet ≡ false → step_of tables None packet ≡ Ok d → ⊥
needs_state tables packet d plain is = elim (view tables None packet d is) [
  | is_dropped empty state before same ↦ let never : ⊥ = cc in never
  | is_keyed bytes key header same ↦ let never : ⊥ = cc in never
  | is_later bytes plain' state before header accepted same ↦ let never : ⊥ = cc in never
]

-- ---- an accepted packet with bytes has a show bit

short_header : (tables : TableEntries) (before : Option Context) (packet : List ℕ) → length packet < 3 → IfOk (header_of tables before packet) (λ header. ⊥)
unfolding header_of
short_header tables before packet short =
    let none : tag_of packet ≡ None = ap (λ (long : Bool). if long then Some (tag_in (number_at packet 0)) else None) (lt-leb 3 (length packet) short) in
    let refused : IfOk (start_of before packet) (λ start. ⊥) = rw none tt in
    IfOk-following (λ start. ⊥) (λ header. ⊥) (start_of before packet) _ refused (λ start never. absurd never)

short_refused : (tables : TableEntries) (before : Option State) (packet : List ℕ) (result : Result Header Cause) (d : State × PictureSamples) → IfOk result (λ header. ⊥) → decoded_by tables packet before result ≡ Ok d → ⊥
short_refused tables before packet (Err cause) d never is = cc
short_refused tables before packet (Ok header) d never is = never

accepted_long : (tables : TableEntries) (before : Option State) (packet : List ℕ) (d : State × PictureSamples) → (length packet == 0) ≡ false → step_of tables before packet ≡ Ok d → 3 ≤ length packet
unfolding step_of
accepted_long tables before packet d some is = elim (cases_lt (length packet) 3) [
  | inl short ↦
      let coded = rw some at is in
      absurd (short_refused tables before packet (header_of tables (option_map (λ (s : State). s.context) before) packet) d (short_header tables (option_map (λ (s : State). s.context) before) packet short) coded)
  | inr enough ↦ enough
]

pub has_bit : (tables : TableEntries) (before : Option State) (packet : List ℕ) (d : State × PictureSamples) → (length packet == 0) ≡ false → step_of tables before packet ≡ Ok d → has_show_bit packet ≡ true
has_bit tables before packet d some is = le-leb 3 (length packet) (accepted_long tables before packet d some is)

-- ---- the last reference

refreshed_last : (tables : TableEntries) (packet : List ℕ) (header : Header) (state : State) → header.references.refreshes_last ≡ true → (decoded tables packet header (Some state)).0.references.last ≡ (decoded tables packet header (Some state)).1
refreshed_last tables packet header state refreshes = rw refreshes refl

by_outline : (packet : List ℕ) (header : Header) → has_bytes packet ≡ true → outline_of true packet ≡ outlined (Ok header) → leaves_last packet ≡ true → header.references.refreshes_last ≡ true
by_outline packet header bytes outline leaves =
    let says : leaves_last packet ≡ header.references.refreshes_last =
    ap (λ (b : Bool). if b then option_map_or (λ (o : Outline). o.references.refreshes_last) (result_ok (outline_of true packet)) false else true) bytes
    ∙ ap (λ (o : Result Outline Cause). option_map_or (λ (p : Outline). p.references.refreshes_last) (result_ok o) false) outline in
    sym says ∙ leaves

-- the picture of such a packet is the last reference after it
pub last_is_picture : OutlinesAreHeaders → (tables : TableEntries) (before : Option State) (packet : List ℕ) (d : State × PictureSamples) → leaves_last packet ≡ true → step_of tables before packet ≡ Ok d → d.0.references.last ≡ d.1
last_is_picture outlines tables before packet d leaves is = elim (view tables before packet d is) [
  | is_dropped empty state was same ↦ sym (ap (λ (e : State × PictureSamples). e.0.references.last) same) ∙ ap (λ (e : State × PictureSamples). e.1) same
  | is_keyed bytes key header same ↦ sym (ap (λ (e : State × PictureSamples). e.0.references.last) same) ∙ ap (λ (e : State × PictureSamples). e.1) same
  | is_later bytes plain state was header accepted same ↦
      let outline : outline_of true packet ≡ outlined (Ok header) = sym (outlines tables (Some state.context) packet) ∙ ap outlined accepted in
      let refreshes : header.references.refreshes_last ≡ true = by_outline packet header bytes outline leaves in
      sym (ap (λ (e : State × PictureSamples). e.0.references.last) same) ∙ refreshed_last tables packet header state refreshes ∙ ap (λ (e : State × PictureSamples). e.1) same
]

-- the last reference has the size of the picture
same_width : (tables : TableEntries) (packet : List ℕ) (header : Header) (state : State) (refreshes : Bool) → header.references.refreshes_last ≡ refreshes → (decoded tables packet header (Some state)).0.references.last.width ≡ (decoded tables packet header (Some state)).1.width
unfolding decoded_picture
same_width tables packet header state true is = rw is refl
same_width tables packet header state false is = rw is refl

same_height : (tables : TableEntries) (packet : List ℕ) (header : Header) (state : State) (refreshes : Bool) → header.references.refreshes_last ≡ refreshes → (decoded tables packet header (Some state)).0.references.last.height ≡ (decoded tables packet header (Some state)).1.height
unfolding decoded_picture
same_height tables packet header state true is = rw is refl
same_height tables packet header state false is = rw is refl

pub record HasPictureSize (d : State × PictureSamples) : Type 0 where
  pub wide : d.0.references.last.width ≡ d.1.width
  pub high : d.0.references.last.height ≡ d.1.height

sized_as : (e d : State × PictureSamples) → e ≡ d → HasPictureSize e → HasPictureSize d
sized_as e d same size = subst HasPictureSize same size

pub sized : (tables : TableEntries) (before : Option State) (packet : List ℕ) (d : State × PictureSamples) → step_of tables before packet ≡ Ok d → HasPictureSize d
sized tables before packet d is = elim (view tables before packet d is) [
  | is_dropped empty state was same ↦ sized_as (state, state.references.last) d same (record { wide = refl; high = refl })
  | is_keyed bytes key header same ↦ sized_as (decoded tables packet header None) d same (record { wide = refl; high = refl })
  | is_later bytes plain state was header accepted same ↦
      sized_as (decoded tables packet header (Some state)) d same (record { wide = same_width tables packet header state _ refl; high = same_height tables packet header state _ refl })
]
