-- What is found in a WebM file, by the parts of what is kept of it.
use Rattle.std.proofs.Common.{◌≡◌, ℕ, Bool, List, ◌++◌, ap, ◌∙◌}
use Rattle.webm_files.specs.declared.blocks.Block.{Block}
use Rattle.webm_files.specs.declared.gaps.Gap.{Gap}
use Rattle.webm_files.specs.declared.lengths.WrongLength.{WrongLength}
use Rattle.webm_files.specs.Media.{Kept}
use Rattle.stream_checks.specs.declared.finding.Finding.{Finding}
use Rattle.stream_checks.specs.Media.{block_findings, cluster_findings, gap_findings, length_findings, media_findings}

-- at the elements, and at the blocks
abbrev pub at_elements : ℕ → Bool → List Gap → List ℕ → List WrongLength → List Finding
at_elements size is_cut gaps clusters lengths = gap_findings size is_cut gaps ++ cluster_findings clusters ++ length_findings lengths

abbrev pub by_parts : List Finding → ℕ → List ℕ → List Block → List Block → List Finding
by_parts found video numbers blocks unlisted = found ++ block_findings video numbers blocks ++ block_findings video numbers unlisted

elements_found : (size : ℕ) (media : Kept) (is_cut : Bool) (gaps : List Gap) (clusters : List ℕ) (lengths : List WrongLength)
    → is_cut ≡ media.is_cut → gaps ≡ media.gaps → clusters ≡ media.timeless → lengths ≡ media.lengths
    → at_elements size is_cut gaps clusters lengths ≡ at_elements size media.is_cut media.gaps media.timeless media.lengths
elements_found size media is_cut gaps clusters lengths c g t l =
    ap (λ (x : Bool). at_elements size x gaps clusters lengths) c
    ∙ ap (λ (x : List Gap). at_elements size media.is_cut x clusters lengths) g
    ∙ ap (λ (x : List ℕ). at_elements size media.is_cut media.gaps x lengths) t
    ∙ ap (λ (x : List WrongLength). at_elements size media.is_cut media.gaps media.timeless x) l

pub parts_found : (size : ℕ) (media : Kept) (is_cut : Bool) (gaps : List Gap) (clusters : List ℕ) (lengths : List WrongLength) (video : ℕ) (numbers : List ℕ) (blocks unlisted : List Block)
    → is_cut ≡ media.is_cut → gaps ≡ media.gaps → clusters ≡ media.timeless → lengths ≡ media.lengths
    → video ≡ media.video → numbers ≡ media.numbers → blocks ≡ media.blocks → unlisted ≡ media.unlisted
    → by_parts (at_elements size is_cut gaps clusters lengths) video numbers blocks unlisted ≡ media_findings size media
parts_found size media is_cut gaps clusters lengths video numbers blocks unlisted c g t l v n b u =
    let found : List Finding = at_elements size media.is_cut media.gaps media.timeless media.lengths in
    ap (λ (x : List Finding). by_parts x video numbers blocks unlisted) (elements_found size media is_cut gaps clusters lengths c g t l)
    ∙ ap (λ (x : ℕ). by_parts found x numbers blocks unlisted) v
    ∙ ap (λ (x : List ℕ). by_parts found media.video x blocks unlisted) n
    ∙ ap (λ (x : List Block). by_parts found media.video media.numbers x unlisted) b
    ∙ ap (λ (x : List Block). by_parts found media.video media.numbers media.blocks x) u
