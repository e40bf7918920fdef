-- What can be written, and what is read of it again.
use Rattle.std.specs.Prelude.{◌≡◌, ℕ, ◌+◌, ◌-◌, ◌^◌, ◌<◌, ◌≤◌, true, false, List, [], ◌∷◌, length, take, drop}
use Rattle.webm_files.specs.declared.ids.TheConstants.{TIMESTAMP}
use Rattle.webm_files.specs.declared.blocks.Block.{Block}
use Rattle.webm_files.specs.Elements.{is_block, is_known, is_opened}
use Rattle.webm_files.specs.Blocks.{AreBlocks}
use Rattle.webm_writing.specs.Pieces.{IsMarked}
use Rattle.webm_writing.specs.declared.samples.Part.{Part}
use Rattle.webm_writing.specs.declared.samples.Sample.{Sample}
use Rattle.webm_writing.specs.Written.{Written, groups, cues_from, webm_text}

-- a part has a name of four bytes that a reader knows, and is neither read as elements nor as a block or a time
pub record PartFits (part : Part) : Type 0 where
  pub name : IsMarked 4 part.id
  pub known : is_known part.id ≡ true
  pub shut : is_opened part.id ≡ false
  pub plain : is_block part.id ≡ false
  pub timeless : part.id ≡ TIMESTAMP → ⊥
  pub size : length part.content + 1 < 2 ^ 28

abbrev pub PartsFit : List Part → Type 0
PartsFit [] = Unit {0}
PartsFit (part ∷ parts) = PartFits part × PartsFit parts

pub record SampleFits (sample : Sample) : Type 0 where
  pub track : sample.track < 127
  pub stamp : sample.stamp < 2 ^ 64
  pub size : length sample.bytes + 5 < 2 ^ 56

abbrev pub SamplesFit : List Sample → Type 0
SamplesFit [] = Unit {0}
SamplesFit (sample ∷ samples) = SampleFits sample × SamplesFit samples

-- a sample of a cluster with this time
pub record Stays (base : ℕ) (sample : Sample) : Type 0 where
  pub fits : SampleFits sample
  pub low : base ≤ sample.stamp
  pub high : sample.stamp < base + 32768

abbrev pub AllStay : ℕ → List Sample → Type 0
AllStay base [] = Unit {0}
AllStay base (sample ∷ samples) = Stays base sample × AllStay base samples

-- the samples of a cluster have times from that of the first one on
abbrev pub GroupFits : List Sample → Type 0
GroupFits [] = Unit {0}
GroupFits (sample ∷ samples) = AllStay sample.stamp (sample ∷ samples)

-- a file that can be written
pub record FileFits (file : Written) : Type 0 where
  pub parts : PartsFit file.parts
  pub samples : SamplesFit file.samples
  pub most : file.most < 32768
  pub few : length file.parts < 2 ^ 20
  pub cues : (at : ℕ) → length (cues_from at (groups file.most file.samples)) + 1 < 2 ^ 28
  pub size : length (webm_text file) + 1 < 2 ^ 56

-- a block of a file is this sample
pub record IsSample (text : List ℕ) (block : Block) (sample : Sample) : Type 0 where
  pub track : block.track ≡ sample.track
  pub stamp : block.stamp ≡ sample.stamp
  pub bytes : take (block.end - block.start) (drop block.start text) ≡ sample.bytes

-- blocks are these samples, in this order
abbrev pub AreSamples : List ℕ → List Block → List Sample → Type 0
AreSamples text [] [] = Unit {0}
AreSamples text [] (sample ∷ samples) = ⊥
AreSamples text (block ∷ blocks) [] = ⊥
AreSamples text (block ∷ blocks) (sample ∷ samples) = IsSample text block sample × AreSamples text blocks samples

-- the blocks of a file are these samples
pub record HasSamples (text : List ℕ) (samples : List Sample) : Type 0 where
  pub blocks : List Block
  pub are : AreBlocks text blocks
  pub same : AreSamples text blocks samples
