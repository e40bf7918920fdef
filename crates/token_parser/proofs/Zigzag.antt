-- The zigzag order stays inside a block
use Rattle.std.proofs.Common.{◌<◌, ℕ, slice_index_or, refl, arith}
use Rattle.token_parser.specs.declared.places.TheConstants.{ZIGZAG}
use Rattle.token_parser.proofs.BlockPlaces.{small-at}

pub zigzag-small : (place : ℕ) → slice_index_or ZIGZAG place 0 < 16
zigzag-small place = small-at 16 ZIGZAG place (omega arith) refl
