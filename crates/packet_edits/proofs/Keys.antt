-- The last packet with a key tag.
use Rattle.std.proofs.Common.{◌≡◌, ℕ, zero, suc, ◌<◌, List, [], ◌∷◌, Bool, true, false, cond, min, Option, Some, None, map, length, slice_get, take, refl, ap, sym, ◌∙◌, arith}
use Rattle.std.specs.Prelude.{option_and_then}
use Rattle.frame_header.specs.Tags.{has_key_tag, key_size_of}
use Rattle.packet_edits.specs.declared.entry.Entry.{Entry}
use Rattle.packet_edits.specs.Edits.{Listing}
use Rattle.packet_edits.specs.FlagCounts.{flag_at}
use Rattle.packet_edits.specs.Nearest.{HoldsNowhere, IsLastAt}
use Rattle.packet_edits.specs.Shown.{stream_of}
use Rattle.packet_edits.specs.Sizes.{key_tag_at, last_key_or, size_at}
use Rattle.packet_edits.proofs.Shown.{packet_within}

-- none of the first n packets has a key tag
no_key : (before : Option (List ℕ)) (n : ℕ) (xs : List (List ℕ)) → ((p : ℕ) (x : List ℕ) → slice_get xs p ≡ Some x → p < n → has_key_tag x ≡ false) → last_key_or before (take n xs) ≡ before
no_key before zero xs none = refl
no_key before (suc n) [] none = refl
no_key before (suc n) (x ∷ xs) none =
    let plain : has_key_tag x ≡ false = none 0 x refl (omega arith) in
    ap (λ (b : Bool). last_key_or (cond b (Some x) before) (take n xs)) plain ∙ no_key before n xs (λ p y is lt. none (suc p) y is (omega (arith, lt)))

-- the last of the first n packets that has one
last_key : (before : Option (List ℕ)) (n last : ℕ) (xs : List (List ℕ)) (x : List ℕ) → slice_get xs last ≡ Some x → last < n → has_key_tag x ≡ true
    → ((p : ℕ) (y : List ℕ) → slice_get xs p ≡ Some y → last < p → p < n → has_key_tag y ≡ false) → last_key_or before (take n xs) ≡ Some x
last_key before zero last xs x is lt key none = absurd (omega (arith, lt))
last_key before (suc n) last [] x is lt key none = cc
last_key before (suc n) zero (y ∷ xs) x is lt key none =
    let same : y ≡ x = cc in
    let key_here : has_key_tag y ≡ true = ap has_key_tag same ∙ key in
    ap (λ (b : Bool). last_key_or (cond b (Some y) before) (take n xs)) key_here
    ∙ no_key (Some y) n xs (λ p z there below. none (suc p) z there (omega arith) (omega (arith, below)))
    ∙ ap (λ (z : List ℕ). Some z) same
last_key before (suc n) (suc last) (y ∷ xs) x is lt key none =
    last_key (cond (has_key_tag y) (Some y) before) n last xs x is (omega (arith, lt)) key (λ p z there up below. none (suc p) z there (omega (arith, up)) (omega (arith, below)))

pub size_of_last : (list : Listing) (at last : ℕ) (packet : List ℕ) → slice_get (stream_of list) last ≡ Some packet → last < at → has_key_tag packet ≡ true
    → ((p : ℕ) (later : List ℕ) → slice_get (stream_of list) p ≡ Some later → last < p → p < at → has_key_tag later ≡ false) → size_at at list ≡ key_size_of packet
size_of_last list at last packet is lt key none = ap (λ (o : Option (List ℕ)). option_and_then key_size_of o) (last_key None at last (stream_of list) packet is lt key none)

pub size_of_none : (list : Listing) (at : ℕ) → ((p : ℕ) (earlier : List ℕ) → slice_get (stream_of list) p ≡ Some earlier → p < at → has_key_tag earlier ≡ false) → size_at at list ≡ None
size_of_none list at none = ap (λ (o : Option (List ℕ)). option_and_then key_size_of o) (no_key None at (stream_of list) none)

-- whether the packet at an index has a key tag
pub key_tag_here : (xs : List (List ℕ)) (at : ℕ) (x : List ℕ) → slice_get xs at ≡ Some x → key_tag_at xs at ≡ has_key_tag x
key_tag_here xs at x here = rw here refl

key_flag_case : (es : List Entry) (p : ℕ) (o : Option Entry) → slice_get es p ≡ o → flag_at (map (λ (e : Entry). has_key_tag e.bytes) es) p ≡ key_tag_at (map (λ (e : Entry). e.bytes) es) p
key_flag_case [] p o here = refl
key_flag_case (e ∷ es) zero o here = refl
key_flag_case (e ∷ es) (suc p) o here = key_flag_case es p o here

-- as the flags of key packets say
pub key_flag : (es : List Entry) (p : ℕ) → flag_at (map (λ (e : Entry). has_key_tag e.bytes) es) p ≡ key_tag_at (map (λ (e : Entry). e.bytes) es) p
key_flag es p = key_flag_case es p (slice_get es p) refl

-- a flag that is read
pub flag_got : (flags : List Bool) (p : ℕ) (flag : Bool) → slice_get flags p ≡ Some flag → flag ≡ flag_at flags p
flag_got flags p flag here = rw here refl

-- the size before an index, by the last packet with a key tag that a store finds
pub size_none : (list : Listing) (at end : ℕ) → end ≡ min at (length list.entries) → HoldsNowhere (key_tag_at (stream_of list)) 0 end → size_at at list ≡ None
size_none list at end is none =
    size_of_none list at (λ p x here less.
    let within : p < length list.entries = packet_within list.entries p x here in
    sym (key_tag_here (stream_of list) p x here) ∙ none p (omega arith) (omega (arith, is, within, less)))

pub size_some : (list : Listing) (at end p : ℕ) (bytes : List ℕ) → end ≡ min at (length list.entries) → IsLastAt (key_tag_at (stream_of list)) 0 end p → slice_get (stream_of list) p ≡ Some bytes → size_at at list ≡ key_size_of bytes
size_some list at end p bytes is last here =
    size_of_last list at p bytes here (omega (arith, is, last.within)) (sym (key_tag_here (stream_of list) p bytes here) ∙ last.here)
    (λ q x there more less.
    let within : q < length list.entries = packet_within list.entries q x there in
    sym (key_tag_here (stream_of list) q x there) ∙ last.later q more (omega (arith, is, within, less)))
