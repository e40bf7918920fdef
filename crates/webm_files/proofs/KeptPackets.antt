-- The packets of a file are among the blocks that are kept of it.
use Rattle.std.proofs.Common.{◌≡◌, ℕ, ◌==◌, Bool, true, false, List, [], ◌∷◌, map, Some, cond, refl, sym, ap, ◌∙◌, rules, tests}
use Rattle.std.specs.List.{filter, find, list_any}
use Rattle.webm_files.specs.declared.blocks.Block.{Block}
use Rattle.webm_files.specs.declared.files.Webm.{Webm}
use Rattle.webm_files.specs.Blocks.{blocks_of}
use Rattle.webm_files.specs.Files.{IsWebm}
use Rattle.webm_files.specs.Packets.{is_listed, is_packet, listed_in, packet_of, packets_in}
use Rattle.webm_files.specs.Tracks.{entries_of, is_video, number_of, numbers_of}

-- ---- the number of the video is among those of all tracks

abbrev has : ℕ → List ℕ → Bool
has number numbers = list_any (λ other. other == number) numbers

found_by : (is : Bool) (first : List ℕ) (entries : List (List ℕ)) (entry : List ℕ)
    → (find is_video entries ≡ Some entry → has (number_of entry) (map number_of entries) ≡ true)
    → cond is (Some first) (find is_video entries) ≡ Some entry → has (number_of entry) (number_of first ∷ map number_of entries) ≡ true
found_by true first entries entry rest found = search (rules, tests)
found_by false first entries entry rest found = search (rules, tests)

found_among : (entries : List (List ℕ)) (entry : List ℕ) → find is_video entries ≡ Some entry → has (number_of entry) (map number_of entries) ≡ true
found_among [] entry found = cc
found_among (first ∷ entries) entry found = found_by (is_video first) first entries entry (found_among entries entry) found

-- ---- a packet is a block of a track that is listed

packet_listed : (video : ℕ) (numbers : List ℕ) (block : Block) → has video numbers ≡ true → is_packet video block ≡ true → is_listed numbers block ≡ true
packet_listed video numbers block among passes = search (rules, tests)

-- a list that keeps each item that passes a test has the items that pass it
kept_by : (test keeps : Block → Bool) (block : Block) (blocks : List Block) (tested kept : Bool) → test block ≡ tested → keeps block ≡ kept → (tested ≡ true → kept ≡ true)
    → filter test (filter keeps blocks) ≡ filter test blocks → filter test (filter keeps (block ∷ blocks)) ≡ filter test (block ∷ blocks)
kept_by test keeps block blocks true true t k passes rest = rw (k, t) (ap (λ (bs : List Block). block ∷ bs) rest)
kept_by test keeps block blocks true false t k passes rest = search (passes refl, rules, tests)
kept_by test keeps block blocks false true t k passes rest = rw (k, t) rest
kept_by test keeps block blocks false false t k passes rest = rw (k, t) rest

kept_pass : (test keeps : Block → Bool) (blocks : List Block) → ((block : Block) → test block ≡ true → keeps block ≡ true) → filter test (filter keeps blocks) ≡ filter test blocks
kept_pass test keeps [] passes = refl
kept_pass test keeps (block ∷ blocks) passes = kept_by test keeps block blocks (test block) (keeps block) refl refl (passes block) (kept_pass test keeps blocks passes)

packets_listed : (bytes : List ℕ) (video : ℕ) (numbers : List ℕ) (blocks : List Block) → has video numbers ≡ true → packets_in bytes video (listed_in numbers blocks) ≡ packets_in bytes video blocks
packets_listed bytes video numbers blocks among =
    ap (map (packet_of bytes)) (kept_pass (is_packet video) (is_listed numbers) blocks (λ block passes. packet_listed video numbers block among passes))

pub packets_kept : (bytes : List ℕ) (file : Webm) → IsWebm bytes file → file.packets ≡ packets_in bytes file.media.video file.media.blocks
packets_kept bytes file is =
    let blocks : List Block = blocks_of bytes is.walk.elements in
    let among : has (number_of is.entry) (numbers_of is.tracks) ≡ true = found_among (entries_of is.tracks) is.entry is.stream.video.video in
    is.contents.packets ∙ sym (packets_listed bytes (number_of is.entry) (numbers_of is.tracks) blocks among)
    ∙ ap (λ (video : ℕ). packets_in bytes video (listed_in (numbers_of is.tracks) blocks)) (sym is.contents.video)
    ∙ ap (packets_in bytes file.media.video) (sym is.contents.blocks)
