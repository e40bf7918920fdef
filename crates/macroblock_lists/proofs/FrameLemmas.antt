-- The macroblocks of a frame.
use Rattle.std.proofs.Common.{◌≡◌, ℕ, ◌/◌, ◌%◌, List, Some, slice_get, refl}
use Rattle.frame_header.specs.declared.header.Header.{Header}
use Rattle.mode_parser.specs.declared.records.MbMode.{MbMode}
use Rattle.mode_parser.specs.declared.record_facts.RecordFacts.{RecordFacts}
use Rattle.reference_frames.specs.FrameTokens.{TokenState, token_state}
use Rattle.macroblock_lists.specs.declared.layouts.Form.{Form}
use Rattle.macroblock_lists.specs.Frames.{macroblock_text, text_at}
use Rattle.macroblock_lists.specs.Macroblocks.{macroblock_of}
use Rattle.macroblock_lists.specs.Records.{facts_in}

-- the text of the macroblock after those before it
pub text_here : (form : Form) (packet : ℕ) (header : Header) (columns n : ℕ) (start marked old old_marked : TokenState) (modes : List MbMode) (facts : List RecordFacts) (mode : MbMode)
    → slice_get modes n ≡ Some mode → old ≡ token_state header columns start modes n → old_marked ≡ token_state header columns marked modes n
    → macroblock_text form packet (macroblock_of header (n % columns) (n / columns) old old_marked mode (facts_in facts n)) ≡ text_at form packet header columns start marked modes facts n
unfolding text_at
text_here form packet header columns n start marked old old_marked modes facts mode found so_far marked_so_far = rw (found, ← so_far, ← marked_so_far) refl
