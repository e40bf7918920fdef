-- Blocks and packets, when one more element is read.
use Rattle.std.proofs.Common.{◌≡◌, ℕ, ◌+◌, List, [], ◌∷◌, ◌++◌, length, map, sym, ap, ◌∙◌, arith, length-append, Option, option_to_list, Bool}
use Rattle.std.specs.List.{filter}
use Rattle.std.proofs.lemmas.List.Elements.{filter-append}
use Rattle.std.proofs.lemmas.List.{map-append}
use Rattle.stream_files.specs.declared.packets.Packet.{Packet}
use Rattle.webm_files.specs.declared.elements.Element.{Element}
use Rattle.webm_files.specs.declared.blocks.Block.{Block}
use Rattle.webm_files.specs.Blocks.{Reading, after_all, nothing, base_after, block_of, blocks_of}
use Rattle.webm_files.specs.Packets.{is_packet, packet_of, packets_in}
use Rattle.webm_files.proofs.Walked.{after_all_more}

pub base_more : (file : List ℕ) (elements : List Element) (element : Element) (base next : ℕ) → base ≡ (after_all file nothing elements).base → next ≡ base_after file base element
    → next ≡ (after_all file nothing (elements ++ element ∷ [])).base
base_more file elements element base next was is = is ∙ ap (λ b. base_after file b element) was ∙ sym (ap (λ (r : Reading). r.base) (after_all_more file nothing elements element))

pub blocks_more : (file : List ℕ) (elements : List Element) (element : Element) (base : ℕ) (block : Option Block) → base ≡ (after_all file nothing elements).base → block ≡ block_of file base element
    → blocks_of file elements ++ option_to_list block ≡ blocks_of file (elements ++ element ∷ [])
blocks_more file elements element base block was is =
    ap (λ b. blocks_of file elements ++ option_to_list b) (is ∙ ap (λ b. block_of file b element) was) ∙ sym (ap (λ (r : Reading). r.blocks) (after_all_more file nothing elements element))

-- some of the blocks
pub filter_more : (p : Block → Bool) (blocks more all found next : List Block) → blocks ++ more ≡ all → found ≡ filter p blocks → next ≡ found ++ filter p more → next ≡ filter p all
filter_more p blocks more all found next joined was is = is ∙ ap (λ f. f ++ filter p more) was ∙ sym (filter-append p blocks more) ∙ ap (filter p) joined

pub packets_more : (file : List ℕ) (video : ℕ) (blocks more all : List Block) (found next : List Packet) → blocks ++ more ≡ all → found ≡ packets_in file video blocks → next ≡ found ++ packets_in file video more → next ≡ packets_in file video all
packets_more file video blocks more all found next joined was is =
    is ∙ ap (λ f. f ++ packets_in file video more) was
    ∙ sym (ap (map (packet_of file)) (filter-append (is_packet video) blocks more) ∙ map-append (packet_of file) (filter (is_packet video) blocks) (filter (is_packet video) more))
    ∙ ap (packets_in file video) joined

pub count_more : (video : ℕ) (blocks more all : List Block) (count one : ℕ) → blocks ++ more ≡ all → count ≡ length (filter (is_packet video) blocks) → one ≡ length (filter (is_packet video) more)
    → count + one ≡ length (filter (is_packet video) all)
count_more video blocks more all count one joined was is =
    omega (arith, was, is, length-append (filter (is_packet video) blocks) (filter (is_packet video) more)) ∙ ap length (sym (filter-append (is_packet video) blocks more) ∙ ap (filter (is_packet video)) joined)
