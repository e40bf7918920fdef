-- What is kept of a file besides the packets of its video, as contracts see it.
use Rattle.std.specs.Prelude.{ℕ, ◌+◌, ◌≤◌, Bool, List, length}
use Rattle.webm_files.specs.declared.files.TheConstants.{MAX_ELEMENTS}
use Rattle.webm_files.specs.declared.elements.Element.{Element}
use Rattle.webm_files.specs.declared.blocks.Block.{Block}
use Rattle.webm_files.specs.declared.gaps.Gap.{Gap}
use Rattle.webm_files.specs.declared.lengths.WrongLength.{WrongLength}

pub record Kept : Type 0 where
  pub video : ℕ
  pub default_duration : ℕ
  pub numbers : List ℕ
  pub blocks : List Block
  pub unlisted : List Block
  pub gaps : List Gap
  pub parts : List Element
  pub timeless : List ℕ
  pub lengths : List WrongLength
  pub is_cut : Bool

-- so many gaps, blocks, clusters and lengths are kept of a file at most
pub record IsFewKept (media : Kept) : Type 0 where
  pub gaps : length media.gaps ≤ MAX_ELEMENTS + 1
  pub blocks : length media.blocks ≤ MAX_ELEMENTS
  pub unlisted : length media.unlisted ≤ MAX_ELEMENTS
  pub timeless : length media.timeless ≤ MAX_ELEMENTS
  pub lengths : length media.lengths ≤ MAX_ELEMENTS + MAX_ELEMENTS
