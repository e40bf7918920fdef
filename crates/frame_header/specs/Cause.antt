use Rattle.std.specs.Prelude.{ℕ, List, codes}
use Rattle.frame_header.specs.declared.cause.Cause.{Cause}
use Rattle.frame_header.specs.declared.cause.Cause.TheVariants.{ShortPacket, Version, StartCode, Size, NoKeyFrame, FirstPartition, TokenSizes, TokenPartition}

-- the name of a cause
abbrev pub cause_word : Cause → List ℕ
cause_word ShortPacket = codes "ShortPacket"
cause_word Version = codes "Version"
cause_word StartCode = codes "StartCode"
cause_word Size = codes "Size"
cause_word NoKeyFrame = codes "NoKeyFrame"
cause_word FirstPartition = codes "FirstPartition"
cause_word TokenSizes = codes "TokenSizes"
cause_word (TokenPartition k) = codes "TokenPartition"
