-- The list of an IVF file is by the byte at which its first record begins.
use Rattle.std.proofs.Common.{◌≡◌, ◌++◌, ℕ, List, Option, None, false, ap, subst}
use Rattle.std.specs.List.{flat_map}
use Rattle.std.specs.Io.KnownBytes.{Appends}
use Rattle.macroblock_lists.specs.declared.layouts.Form.{Form}
use Rattle.macroblock_lists.specs.declared.layouts.Form.TheVariants.{Lines, Objects}
use Rattle.stream_facts.proofs.PlaceLemmas.{all_in_records}
use Rattle.stream_facts.specs.declared.facts.Facts.{Facts}
use Rattle.stream_facts.specs.declared.places.Places.{Places}
use Rattle.stream_facts.specs.declared.places.Places.TheVariants.{Records, Listed}
use Rattle.stream_facts.specs.Facts.{facts_in}
use Rattle.stream_facts.specs.Json.{object_of}
use Rattle.stream_facts.specs.Lines.{head_line, line_of}
use Rattle.stream_files.specs.Ivf.{IsIvf, header_length}
use Rattle.stream_files.specs.declared.packets.Packet.{Packet}
use Rattle.stream_files.specs.declared.streams.Stream.{Stream}
use Rattle.stream_sources.proofs.OneStream.{other_source_is_ivf}
use Rattle.stream_sources.specs.Sources.{IsIvfSource}
use Rattle.webm_files.specs.Files.{is_marked}
use Rattle.webm_files.specs.Media.{Kept}
use Rattle.list_program.specs.Lists.{ArePlaces, IsListed, listed_text}

of_ivf : (form : Form) (bytes : List ℕ) (output output' : Option (List ℕ)) → is_marked bytes ≡ false → (listed : IsListed form bytes output output') → IsIvfSource bytes listed.source
of_ivf form bytes output output' not listed = (other_source_is_ivf bytes listed.source not).0 listed.read

in_records : (bytes : List ℕ) (places : Places) → ArePlaces bytes None places → places ≡ Records (header_length bytes)
in_records bytes (Records begins) is = ap (λ (at : ℕ). Records at) is
in_records bytes (Listed begins) is = absurd is

pub ivf_lines : (bytes : List ℕ) (output output' : Option (List ℕ)) → is_marked bytes ≡ false → IsListed Lines bytes output output'
    → (file : Stream) × IsIvf bytes file × Appends output output' (head_line ++ flat_map line_of (facts_in (header_length bytes) file.packets))
ivf_lines bytes output output' not listed =
    let is = of_ivf Lines bytes output output' not listed in
    let packets : List Packet = listed.source.stream.packets in
    let begins = header_length bytes in
    let at : listed.places ≡ Records begins = in_records bytes listed.places (subst (λ (media : Option Kept). ArePlaces bytes media listed.places) is.1 listed.are) in
    let written = subst (λ (places : Places). Appends output output' (listed_text Lines places packets)) at listed.listed in
    let lines = subst (λ (facts : List Facts). Appends output output' (head_line ++ flat_map line_of facts)) (all_in_records begins (facts_in begins packets)) written in
    (is.0.0, is.0.1, subst (λ (own : List Packet). Appends output output' (head_line ++ flat_map line_of (facts_in begins own))) is.0.2.packets lines)

pub ivf_objects : (bytes : List ℕ) (output output' : Option (List ℕ)) → is_marked bytes ≡ false → IsListed Objects bytes output output'
    → (file : Stream) × IsIvf bytes file × Appends output output' (flat_map object_of (facts_in (header_length bytes) file.packets))
ivf_objects bytes output output' not listed =
    let is = of_ivf Objects bytes output output' not listed in
    let packets : List Packet = listed.source.stream.packets in
    let begins = header_length bytes in
    let at : listed.places ≡ Records begins = in_records bytes listed.places (subst (λ (media : Option Kept). ArePlaces bytes media listed.places) is.1 listed.are) in
    let written = subst (λ (places : Places). Appends output output' (listed_text Objects places packets)) at listed.listed in
    let objects = subst (λ (facts : List Facts). Appends output output' (flat_map object_of facts)) (all_in_records begins (facts_in begins packets)) written in
    (is.0.0, is.0.1, subst (λ (own : List Packet). Appends output output' (flat_map object_of (facts_in begins own))) is.0.2.packets objects)
