-- The texts of replies.
use Rattle.std.specs.Prelude.{ℕ, zero, suc, List, [], ◌∷◌, ◌++◌, ◌==◌, codes, length, Result, Ok, Err}
use Rattle.std.specs.List.{concat, count_by}
use Rattle.std.specs.Fmt.{decimal}
use Rattle.frame_header.specs.declared.cause.Cause.{Cause}
use Rattle.frame_header.specs.declared.cause.Cause.TheVariants as causes
use Rattle.frame_header.specs.Cause.{cause_word}
use Rattle.script_nodes.specs.declared.nodes.Node.{Node}
use Rattle.script_nodes.specs.Written.{script_text}
use Rattle.request_lines.specs.HexWords.{hex_word}
use Rattle.frame_session.specs.declared.refusal.Refusal.{Refusal}
use Rattle.frame_session.specs.declared.refusal.Refusal.TheVariants as refusals
use Rattle.frame_session.specs.declared.live.LiveFault.{LiveFault}
use Rattle.frame_session.specs.declared.live.LiveFault.TheVariants as lives
use Rattle.frame_session.specs.declared.serving.RunFault.{RunFault}
use Rattle.frame_session.specs.declared.serving.RunFault.TheVariants as faults

-- the name of a refusal
abbrev pub refusal_word : Refusal → List ℕ
refusal_word refusals.Line = codes "Line"
refusal_word refusals.Source = codes "Source"
refusal_word refusals.Place = codes "Place"
refusal_word refusals.Full = codes "Full"
refusal_word refusals.Spent = codes "Spent"
refusal_word refusals.NoBit = codes "NoBit"
refusal_word refusals.Size = codes "Size"
refusal_word refusals.TooLarge = codes "TooLarge"
refusal_word refusals.NoSuchFrame = codes "NoSuchFrame"
refusal_word (refusals.Packet source place cause) = codes "packet"
refusal_word refusals.CropOutside = codes "CropOutside"
refusal_word refusals.SizeDiffers = codes "SizeDiffers"
refusal_word refusals.Syntax = codes "Syntax"
refusal_word refusals.Nodes = codes "Nodes"
refusal_word refusals.Reference = codes "Reference"
refusal_word refusals.Number = codes "Number"
refusal_word refusals.NoMemory = codes "NoMemory"

-- a cause in a reply: its name, and the partition's number if it has one
abbrev pub cause_text : Cause → List ℕ
cause_text (causes.TokenPartition k) = codes "TokenPartition " ++ decimal k
cause_text cause = cause_word cause

-- the source of a packet in a reply: source 0 is not named
abbrev pub source_text : ℕ → List ℕ
source_text zero = []
source_text (suc before) = codes "source " ++ decimal (suc before) ++ codes " "

-- the text after the word `refused`
abbrev pub refusal_text : Refusal → List ℕ
refusal_text (refusals.Packet source place cause) = source_text source ++ codes "packet " ++ decimal place ++ codes " " ++ cause_text cause
refusal_text refusal = refusal_word refusal

-- the reply to a line that is refused
abbrev pub refused_line : Refusal → List ℕ
refused_line refusal = codes "refused " ++ refusal_text refusal ++ 10 ∷ []

-- the reply to a frame that was served
abbrev pub served_line : ℕ → List ℕ
served_line n = codes "served " ++ decimal n ++ 10 ∷ []

-- the reply to an edit or a script that was accepted, with the new number of packets
abbrev pub ok_line : ℕ → List ℕ
ok_line count = codes "ok " ++ decimal count ++ 10 ∷ []

-- the reply to an edit or a script
abbrev pub edit_line : Result ℕ Refusal → List ℕ
edit_line (Ok count) = ok_line count
edit_line (Err refusal) = refused_line refusal

-- the number of packets, and the number of frames that the script serves
abbrev pub count_line : ℕ → ℕ → List ℕ
count_line packets frames = codes "packets " ++ decimal packets ++ codes " frames " ++ decimal frames ++ 10 ∷ []

-- the number of decoding steps made
abbrev pub stats_line : ℕ → List ℕ
stats_line steps = codes "decoded " ++ decimal steps ++ 10 ∷ []

-- a packet: its time stamp and its bytes
abbrev pub packet_line : ℕ → List ℕ → List ℕ
packet_line stamp bytes = codes "packet " ++ decimal stamp ++ codes " " ++ hex_word bytes ++ 10 ∷ []

-- a script
abbrev pub script_line : List Node → List ℕ
script_line nodes = codes "script " ++ script_text nodes ++ 10 ∷ []

-- the first line of a reply of several lines: how many follow
abbrev pub lines_line : ℕ → List ℕ
lines_line count = codes "lines " ++ decimal count ++ 10 ∷ []

-- a reply of several lines, each of which ends with its newline
abbrev pub lines_reply : List (List ℕ) → List ℕ
lines_reply lines = lines_line (length lines) ++ concat lines

-- a reply of the lines of a text, each of which ends with its newline
abbrev pub newlines : List ℕ → ℕ
newlines text = count_by (λ byte. byte == 10) text

abbrev pub text_reply : List ℕ → List ℕ
text_reply text = lines_line (newlines text) ++ text

-- the name of a run's error
abbrev pub run_fault_word : RunFault → List ℕ
run_fault_word (faults.Source source fault) = codes "Source"
run_fault_word faults.Write = codes "Write"
run_fault_word faults.NoMemory = codes "NoMemory"

-- the name of a live run's error
abbrev pub live_fault_word : LiveFault → List ℕ
live_fault_word (lives.Source source fault) = codes "Source"
live_fault_word lives.Read = codes "Read"
live_fault_word lives.TooLong = codes "TooLong"
live_fault_word lives.Endless = codes "Endless"
live_fault_word lives.Write = codes "Write"
live_fault_word lives.NoMemory = codes "NoMemory"
