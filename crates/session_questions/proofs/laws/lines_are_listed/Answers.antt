use Rattle.std.proofs.Common.{◌∙◌, ap, sym}
use Rattle.std.specs.List.{flat_map}
use Rattle.std.proofs.lemmas.List.Concat.{concat_is}
use Rattle.std.proofs.lemmas.List.Folds.{flat_map-map}
use Rattle.packet_edits.specs.Saved.{packets_of}
use Rattle.stream_facts.specs.Facts.{facts_in}
use Rattle.stream_facts.specs.Json.{object_of}
use Rattle.stream_facts.proofs.PlaceLemmas.{all_in_records}
use Rattle.session_questions.specs.Lines.{first_record, lines_of}
use Rattle.session_questions.proofs.laws.lines_are_listed.Goals as goal

pub returns : goal.returns
returns c = λ list. concat_is (lines_of list) ∙ flat_map-map (λ x. x) object_of (facts_in first_record (packets_of list))
    ∙ ap (flat_map object_of) (sym (all_in_records first_record (facts_in first_record (packets_of list))))
