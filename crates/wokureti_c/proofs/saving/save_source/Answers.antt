use Rattle.std.proofs.Common.{◌≡◌, List, length, true, rules, refl, ap, ◌∙◌}
use Rattle.stream_files.specs.Texts.{written_text}
use Rattle.stream_files.specs.declared.streams.Head.{Head}
use Rattle.packet_edits.specs.Edits.{Listing}
use Rattle.wokureti_c.specs.Saves.{head_at, is_source, saved_packets}
use Rattle.wokureti_c.proofs.saving.save_source.Goals as goal

pub returns-clause-saved : goal.returns-clause-saved
returns-clause-saved c zero =
    let there : is_source c.args.engine.now c.args.source ≡ true = search rules in
    record {
      there = there;
      rest = refl;
      text =
          c.in-Some-text_of.ensures
          ∙ ap (λ (head : Head). written_text head (saved_packets c.args.pads c.args.restamps head c.in-Some.list.now.list)) (c.head_at-head.ensures ∙ ap (λ (heads : List Head). head_at heads c.args.source) c.as_slice.ensures.value)
          ∙ ap (λ (list : Listing). written_text (head_at c.args.engine.now.heads.items c.args.source) (saved_packets c.args.pads c.args.restamps (head_at c.args.engine.now.heads.items c.args.source) list)) c.in-Some.ensures.list;
    }
