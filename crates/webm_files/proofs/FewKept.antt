-- A file with few elements has few gaps, blocks and clusters.
use Rattle.std.proofs.Common.{ℕ, ◌+◌, ◌≤◌, Bool, true, false, List, [], ◌∷◌, length, Option, Some, None, option_to_list, not, nat_lt, cond, ap, sym, subst, arith, length-append}
use Rattle.std.specs.List.{filter}
use Rattle.webm_files.specs.declared.blocks.Block.{Block}
use Rattle.webm_files.specs.declared.elements.Element.{Element}
use Rattle.webm_files.specs.declared.files.Webm.{Webm}
use Rattle.webm_files.specs.declared.gaps.Gap.{Gap}
use Rattle.webm_files.specs.declared.lengths.WrongLength.{WrongLength}
use Rattle.webm_files.specs.Blocks.{Reading, after, after_all, block_of, blocks_of, nothing}
use Rattle.webm_files.specs.Files.{IsWebm}
use Rattle.webm_files.specs.Media.{IsFewKept}
use Rattle.webm_files.specs.Packets.{is_listed}
use Rattle.webm_files.specs.Tracks.{numbers_of}
use Rattle.webm_files.specs.Kept.{gap_between, gaps_before}
use Rattle.webm_files.proofs.ClusterLemmas.{few_timeless}
use Rattle.webm_files.proofs.LengthLemmas.{few_wrong}

-- ---- gaps

one_if : (is : Bool) (gap : Gap) → length (cond is (gap ∷ []) []) ≤ 1
one_if true gap = omega arith
one_if false gap = omega arith

one_gap : (start end : ℕ) → length (gap_between start end) ≤ 1
one_gap start end = one_if (nat_lt start end) (record { start = start; end = end })

few_before : (at : ℕ) (elements : List Element) → length (gaps_before at elements) ≤ length elements
few_before at [] = omega arith
few_before at (element ∷ elements) =
    omega (arith, length-append (gap_between at element.place) (gaps_before element.end elements), one_gap at element.place, few_before element.end elements)

-- ---- blocks

one_block : (block : Option Block) → length (option_to_list block) ≤ 1
one_block None = omega arith
one_block (Some block) = omega arith

few_after : (file : List ℕ) (known : Reading) (elements : List Element) → length (after_all file known elements).blocks ≤ length known.blocks + length elements
few_after file known [] = omega arith
few_after file known (element ∷ elements) =
    omega (arith, few_after file (after file known element) elements, length-append known.blocks (option_to_list (block_of file known.base element)), one_block (block_of file known.base element))

fewer_if : (is : Bool) (block : Block) (kept all : List Block) → length kept ≤ length all → length (cond is (block ∷ kept) kept) ≤ length all + 1
fewer_if true block kept all few = omega (arith, few)
fewer_if false block kept all few = omega (arith, few)

fewer : (test : Block → Bool) (blocks : List Block) → length (filter test blocks) ≤ length blocks
fewer test [] = omega arith
fewer test (block ∷ blocks) = omega (arith, fewer_if (test block) block (filter test blocks) blocks (fewer test blocks))

pub few_kept : (bytes : List ℕ) (file : Webm) → IsWebm bytes file → IsFewKept file.media
few_kept bytes file is =
    let elements : List Element = is.walk.elements in
    let blocks : List Block = blocks_of bytes elements in
    let numbers = numbers_of is.tracks in
    let all : length blocks ≤ length elements = omega (arith, few_after bytes nothing elements) in
    record {
      gaps = omega (arith, ap (λ (gaps : List Gap). length gaps) is.contents.gaps, length-append (gaps_before 0 elements) (gap_between is.walk.end (length bytes)), one_gap is.walk.end (length bytes), few_before 0 elements, is.few.elements);
      blocks = subst (λ (found : List Block). length found ≤ 16777216) (sym is.contents.blocks) (omega (arith, fewer (is_listed numbers) blocks, all, is.few.elements));
      unlisted = subst (λ (found : List Block). length found ≤ 16777216) (sym is.contents.unlisted) (omega (arith, fewer (λ block. not (is_listed numbers block)) blocks, all, is.few.elements));
      timeless = omega (arith, ap (λ (found : List ℕ). length found) is.contents.timeless, few_timeless elements, is.few.elements);
      lengths = omega (arith, ap (λ (found : List WrongLength). length found) is.contents.lengths, few_wrong bytes file.media.is_cut elements, is.few.elements);
    }
