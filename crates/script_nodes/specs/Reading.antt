-- The results of the steps of reading a script's text.
use Rattle.std.specs.Prelude.{◌≡◌, ℕ, ◌+◌, ◌==◌, ◌&&◌, true, false, not, nat_le, if◌then◌else◌, min, List, [], ◌∷◌, Option, None, Some, Result, Ok, Err, MatchOption, nat_lt, slice_index}
use Rattle.std.specs.List.{slice_split}
use Rattle.std.specs.Borrow.{Bor}
use Rattle.text_words.specs.Words.{words_of}
use Rattle.script_nodes.specs.declared.drafts.Draft.{Draft}
use Rattle.script_nodes.specs.declared.drafts.Draft.TheVariants as drafts
use Rattle.script_nodes.specs.declared.drafts.Facts.{Facts}
use Rattle.script_nodes.specs.declared.reading.Flags.{Flags}
use Rattle.script_nodes.specs.declared.nodes.Node.{Node}
use Rattle.script_nodes.specs.declared.nodes.Node.TheVariants as nodes
use Rattle.script_nodes.specs.declared.part_list.Part.{Part}
use Rattle.script_nodes.specs.Lengths.{node_most}
use Rattle.script_nodes.specs.Nodes.{has_numbers, has_source, is_part, node_of_parts, part_before, parts_by, script_from, uses_below}
use Rattle.script_nodes.specs.PartLists.{most_frames, too_many}
use Rattle.script_nodes.specs.declared.faults.ScriptFault.{ScriptFault}
use Rattle.script_nodes.specs.declared.faults.ScriptFault.TheVariants.{Syntax, Nodes, Reference, Number, NoMemory}

-- the parts of the rest of a text, if there is a rest
abbrev pub parts_left : Option (Bor (List ℕ)) → List (List ℕ)
parts_left None = []
parts_left (Some text) = slice_split (λ b. b == 59) text.now

-- the first part of a text, and the rest after it
abbrev pub IsCut : List ℕ → List ℕ → Option (Bor (List ℕ)) → Type 0
IsCut text part left = slice_split (λ b. b == 59) text ≡ part ∷ parts_left left

-- the node of a draft, if its words are parts
abbrev pub drafted : Draft → Option Node
drafted (drafts.Source number) = Some (nodes.Source number)
drafted (drafts.Trim clip first count) = Some (nodes.Trim clip first count)
drafted (drafts.Splice front back) = Some (nodes.Splice front back)
drafted (drafts.Crop clip area) = Some (nodes.Crop clip area)
drafted (drafts.Fade clip ramp) = Some (nodes.Fade clip ramp)
drafted (drafts.Parts words) = node_of_parts (parts_by (words_of words.now))

abbrev pub drafted_of : Option Draft → Option Node
drafted_of None = None
drafted_of (Some draft) = drafted draft

-- the first part of words, and the rest of the text; or none, if there is no word
abbrev pub IsNextPart : List ℕ → Option (Part × Bor (List ℕ)) → Type 0
IsNextPart text found = MatchOption found (words_of text ≡ []) (λ next. parts_by (words_of text) ≡ part_before (Some next.0) (parts_by (words_of next.1.now)))

-- whether a node with this number may be one of a script over this many sources, and the most frames that it can have
abbrev pub facts_of : ℕ → ℕ → List ℕ → Node → Facts
facts_of own sources below node = record {
  references = uses_below own node && has_source sources node;
  numbers = has_numbers node;
  most = min too_many (node_most below node);
}

-- the facts of parts: of none, and with one more
abbrev pub facts_before : Facts
facts_before = record { references = true; numbers = true; most = 0 }

abbrev pub facts_with : ℕ → List ℕ → Facts → Part → Facts
facts_with own below facts part = record {
  references = facts.references && nat_lt part.clip own;
  numbers = facts.numbers && is_part part;
  most = min too_many (facts.most + min part.count (slice_index below part.clip));
}

-- the flags of nodes: of none, and with one more
abbrev pub flags_before : Flags
flags_before = record { more = false; references = true; numbers = true }

abbrev pub flags_with : Flags → Facts → Flags
flags_with flags facts = record {
  more = flags.more;
  references = flags.references && facts.references;
  numbers = flags.numbers && (facts.numbers && nat_le facts.most most_frames);
}

abbrev pub verdict_of : Flags → Result Unit ScriptFault
verdict_of flags =
    if flags.more then Err Nodes
    else if not flags.references then Err Reference
    else if not flags.numbers then Err Number
    else Ok tt

-- nodes are a script over this many sources
abbrev pub IsAccepted : ℕ → Option (List Node) → Type 0
IsAccepted sources found = (all : List Node) × (found ≡ Some all) × (script_from sources (Some all) ≡ Ok all)

-- why they are not, or not even nodes
abbrev pub RefusesNodes : ℕ → Option (List Node) → ScriptFault → Type 0
RefusesNodes sources found NoMemory = ⊥
RefusesNodes sources found Syntax = script_from sources found ≡ Err Syntax
RefusesNodes sources found Nodes = script_from sources found ≡ Err Nodes
RefusesNodes sources found Reference = script_from sources found ≡ Err Reference
RefusesNodes sources found Number = script_from sources found ≡ Err Number
