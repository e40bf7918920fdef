-- The end of a check: the texts of its three parts, and what follows them.
use Rattle.std.proofs.Common.{◌≡◌, ◌++◌, ℕ, List, Option, length, inr, sym, subst, ap, ◌∙◌, append_assoc}
use Rattle.std.proofs.KnownBytes.{Appends-trans}
use Rattle.std.proofs.lemmas.Grind.{flat_map-append}
use Rattle.std.specs.Io.KnownBytes.{Appends}
use Rattle.stream_checks.specs.declared.finding.Finding.{Finding}
use Rattle.stream_checks.specs.declared.finding.Tally.{Tally}
use Rattle.stream_checks.specs.declared.fault.CheckFault.{CheckFault}
use Rattle.stream_checks.specs.declared.fault.CheckFault.TheVariants.{NoMemory, Write}
use Rattle.macroblock_lists.specs.declared.layouts.Form.{Form}
use Rattle.vp8_tables.specs.Tables.{TableEntries}
use Rattle.stream_sources.specs.declared.sources.Source.{Source}
use Rattle.stream_checks.specs.Checks.{IsBegun, IsChecked, IsEarlyEnd, IsPacketEnd}
use Rattle.stream_checks.specs.Files.{end_findings, findings, head_findings}
use Rattle.stream_checks.specs.Lines.{frames_of}
use Rattle.stream_checks.specs.Packets.{packet_findings}
use Rattle.stream_checks.specs.Severity.{plus, tally_of}
use Rattle.stream_checks.specs.Texts.{end_of, text_of, texts_of}
use Rattle.stream_checks.proofs.Tallies.{tally_append}

-- an early end of the second part is one of the whole
pub begun_whole : (form : Form) (first middle last : List Finding) (w0 w1 w2 : Option (List ℕ))
    → Appends w0 w1 (texts_of form first) → IsBegun form middle w1 w2 → IsBegun form (first ++ middle ++ last) w0 w2
begun_whole form first middle last w0 w1 w2 said begun = record {
  done = first ++ begun.done;
  left = begun.left ++ last;
  whole = sym (append_assoc (first ++ begun.done) begun.left last)
      ∙ ap (λ (found : List Finding). found ++ last) (append_assoc first begun.done begun.left ∙ ap (λ (found : List Finding). first ++ found) begun.whole);
  said = rw (flat_map-append (text_of form) first begun.done) (Appends-trans _ _ _ _ _ said begun.said);
}

-- the parts in sequence, and then what follows
pub whole_text : (form : Form) (first middle last : List Finding) (end : List ℕ) (w0 w1 w2 w3 w4 : Option (List ℕ))
    → Appends w0 w1 (texts_of form first) → Appends w1 w2 (texts_of form middle) → Appends w2 w3 (texts_of form last) → Appends w3 w4 end
    → Appends w0 w4 (texts_of form (first ++ middle ++ last) ++ end)
whole_text form first middle last end w0 w1 w2 w3 w4 a b c d =
    rw (flat_map-append (text_of form) (first ++ middle) last, flat_map-append (text_of form) first middle)
    (Appends-trans _ _ _ _ _ (Appends-trans _ _ _ _ _ (Appends-trans _ _ _ _ _ a b) c) d)

-- and their tally
pub whole_tally : (first middle last : List Finding) (a b c : Tally) → a ≡ tally_of first → b ≡ tally_of middle → c ≡ tally_of last
    → plus (plus a b) c ≡ tally_of (first ++ middle ++ last)
whole_tally first middle last a b c of_first of_middle of_last =
    ap (λ (t : Tally). plus (plus t b) c) of_first ∙ ap (λ (t : Tally). plus (plus (tally_of first) t) c) of_middle
    ∙ ap (λ (t : Tally). plus (plus (tally_of first) (tally_of middle)) t) of_last
    ∙ ap (λ (t : Tally). plus t (tally_of last)) (sym (tally_append first middle)) ∙ sym (tally_append (first ++ middle) last)

-- memory ran out in the middle of the second part
pub early_whole : (fault : CheckFault) (form : Form) (tables : TableEntries) (bytes : List ℕ) (source : Source) (w0 w1 w2 : Option (List ℕ))
    → Appends w0 w1 (texts_of form (head_findings bytes source)) → IsPacketEnd form (packet_findings tables source.stream.packets) w1 w2 fault
    → IsEarlyEnd form tables bytes source w0 w2 fault
early_whole NoMemory form tables bytes source w0 w1 w2 said begun = inr (begun_whole form (head_findings bytes source) (packet_findings tables source.stream.packets) (end_findings bytes source) w0 w1 w2 said begun)
early_whole Write form tables bytes source w0 w1 w2 said begun = tt

-- a whole check
pub checked_whole : (form : Form) (tables : TableEntries) (bytes : List ℕ) (source : Source) (w0 w1 w2 w3 w4 : Option (List ℕ)) (a b c total : Tally)
    → Appends w0 w1 (texts_of form (head_findings bytes source)) → Appends w1 w2 (texts_of form (packet_findings tables source.stream.packets)) → Appends w2 w3 (texts_of form (end_findings bytes source))
    → a ≡ tally_of (head_findings bytes source) → b ≡ tally_of (packet_findings tables source.stream.packets) → c ≡ tally_of (end_findings bytes source)
    → total ≡ plus (plus a b) c → Appends w3 w4 (end_of form (length source.stream.packets) (frames_of source.stream.packets) total)
    → IsChecked form tables bytes source total w0 w4
checked_whole form tables bytes source w0 w1 w2 w3 w4 a b c total first middle last of_first of_middle of_last is end =
    let all : List Finding = findings tables bytes source in
    let counted : total ≡ tally_of all = is ∙ whole_tally (head_findings bytes source) (packet_findings tables source.stream.packets) (end_findings bytes source) a b c of_first of_middle of_last in
    let ended : Appends w3 w4 (end_of form (length source.stream.packets) (frames_of source.stream.packets) (tally_of all)) =
    subst (λ (tally : Tally). Appends w3 w4 (end_of form (length source.stream.packets) (frames_of source.stream.packets) tally)) counted end in
    record {
      written = whole_text form (head_findings bytes source) (packet_findings tables source.stream.packets) (end_findings bytes source) _ w0 w1 w2 w3 w4 first middle last ended;
      counted = counted;
    }
