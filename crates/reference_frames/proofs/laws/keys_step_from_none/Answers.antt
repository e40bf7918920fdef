use Rattle.std.proofs.Common.{◌≡◌, ℕ, List, true, refl, ap, ◌∙◌}
use Rattle.std.specs.Prelude.{Option, None, Result, Ok, Err}
use Rattle.std.specs.Option.{option_map}
use Rattle.vp8_tables.specs.Tables.{TableEntries}
use Rattle.frame_header.specs.Header.{header_of}
use Rattle.frame_header.specs.Tags.{has_key_tag}
use Rattle.frame_header.specs.declared.cause.Cause.{Cause}
use Rattle.frame_header.specs.declared.header.Header.{Header}
use Rattle.reference_frames.specs.Steps.{decoded_by, step_of}
use Rattle.reference_frames.specs.declared.states.State.{State}
use Rattle.reference_frames.proofs.Tagged.{key_has_bytes}
use Rattle.reference_frames.proofs.laws.keys_step_from_none.Goals as goal

-- with a key tag the state before does not matter
begins_anew : (tables : TableEntries) (packet : List ℕ) (state : Option State) (header : Result Header Cause) → has_key_tag packet ≡ true → decoded_by tables packet state header ≡ decoded_by tables packet None header
begins_anew tables packet state (Err cause) tagged = refl
begins_anew tables packet state (Ok header) tagged = rw tagged refl

pub returns : goal.returns
unfolding step_of
returns c = λ tables state packet tagged. rw (key_has_bytes packet tagged)
    (ap (decoded_by tables packet state) (c.keys_take_no_context.ensures tables (option_map (λ s. s.context) state) packet tagged) ∙ begins_anew tables packet state (header_of tables None packet) tagged)
