-- The packets of the video, and the blocks of a file.
use Rattle.std.specs.Prelude.{◌≡◌, ℕ, ◌-◌, ◌/◌, ◌%◌, ◌==◌, ◌&&◌, Bool, not, List, map, length, take, drop}
use Rattle.std.specs.List.{filter, list_any}
use Rattle.stream_files.specs.declared.packets.Packet.{Packet}
use Rattle.webm_files.specs.declared.blocks.Block.{Block}
use Rattle.webm_files.specs.declared.packets.Blocks.{Blocks}
use Rattle.webm_files.specs.Walks.{Walk, IsWalk}
use Rattle.webm_files.specs.Blocks.{blocks_of}

-- a block is a packet of the video: it has the number of its track, and bits 1 and 2 of its flags say that it has one packet
abbrev pub is_packet : ℕ → Block → Bool
is_packet video block = (block.track == video) && (block.flags / 2 % 4 == 0)

-- the packet: the time of the block, and its bytes
abbrev pub packet_of : List ℕ → Block → Packet
packet_of file block = record { stamp = block.stamp; bytes = take (block.end - block.start) (drop block.start file) }

abbrev pub packets_in : List ℕ → ℕ → List Block → List Packet
packets_in file video blocks = map (packet_of file) (filter (is_packet video) blocks)

-- where the bytes of each packet begin in the file
abbrev pub places_in : ℕ → List Block → List ℕ
places_in video blocks = map (λ block. block.start) (filter (is_packet video) blocks)

-- a block has one of these track numbers
abbrev pub is_listed : List ℕ → Block → Bool
is_listed numbers block = list_any (λ number. number == block.track) numbers

abbrev pub listed_in : List ℕ → List Block → List Block
listed_in numbers blocks = filter (is_listed numbers) blocks

abbrev pub unlisted_in : List ℕ → List Block → List Block
unlisted_in numbers blocks = filter (λ block. not (is_listed numbers block)) blocks

-- the number of packets of the video of a file
pub record HasCount (file : List ℕ) (video number : ℕ) : Type 0 where
  pub walk : Walk
  pub is : IsWalk file walk
  pub count : number ≡ length (filter (is_packet video) (blocks_of file walk.elements))

-- the packets of the video of a file, and its blocks, those of tracks with these numbers and the others
pub record HasBlocks (file numbers : List ℕ) (video : ℕ) (found : Blocks) : Type 0 where
  pub walk : Walk
  pub is : IsWalk file walk
  pub packets : found.packets ≡ packets_in file video (blocks_of file walk.elements)
  pub listed : found.listed.items ≡ listed_in numbers (blocks_of file walk.elements)
  pub unlisted : found.unlisted.items ≡ unlisted_in numbers (blocks_of file walk.elements)
