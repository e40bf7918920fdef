use Rattle.std.proofs.Common.{◌≡◌, ◌/◌, ◌%◌, refl, arith}
use Rattle.std.specs.Prelude.{slice_index}
use Rattle.vp8_tables.specs.Tables.{coefficient_index}
use Rattle.token_parser.specs.declared.places.TheConstants.{BANDS}
use Rattle.token_parser.specs.Rows.{row_of}
use Rattle.token_parser.proofs.RowLemmas.{context-is}
use Rattle.token_parser.proofs.rows.row_of.Goals as goal

pub returns : goal.returns
unfolding row_of
returns c =
    let start = c.row_start-start.result in
    let first : start ≡ coefficient_index (c.args.row / 16) (slice_index BANDS (c.args.row % 16)) 0 0 = omega (arith, c.row_start-start.ensures.value 0) in
    rw (← context-is c.args.probs.now _ _ _ 0 _ first c.context_at.ensures, ← context-is c.args.probs.now _ _ _ 1 _ (c.row_start-start.ensures.value 1) c.context_at-2.ensures, ← context-is c.args.probs.now _ _ _ 2 _ (c.row_start-start.ensures.value 2) c.context_at-3.ensures) refl
