use Rattle.std.proofs.Common.{subst}
use Rattle.std.specs.Io.Buffered.{writer_contents}
use Rattle.std.specs.Rc.{rc_slice_items}
use Rattle.list_program.specs.Answers.{IsAnswerFault}
use Rattle.list_program.specs.declared.fault.Fault.{Fault}
use Rattle.list_program.specs.declared.fault.Fault.TheVariants.{Input}
use Rattle.list_program.proofs.Ended.{no_stream, unanswered}
use Rattle.list_program.proofs.program.answer_given.Goals as goal

pub returns-in-Err-Input-clause-status : goal.returns-in-Err-Input-clause-status
returns-in-Err-Input-clause-status g c =
    let kind = c.in-Some.kind in
    let tables = c.in-Ok.read.tables in
    let bytes = rc_slice_items c.in-Ok-from_vec.bytes in
    let output = writer_contents g.O.Write.contents c.args.output.now in
    let output' = writer_contents g.O.Write.contents c.answer_to.new.w in
    let why : IsAnswerFault kind tables bytes output output' (Input c.in-Err-Input.fault) = subst (λ (fault : Fault). IsAnswerFault kind tables bytes output output' fault) c.in-Err-Input.field-0-is c.in-Err-Input.ensures.fault in
    no_stream (g.R.NamedFiles.bytes_at c.args.rt.now) c.args.given (g.I.Read.remaining c.args.input.now) (g.I.Read.remaining c.read_given.new.input) output output' kind (search) tables bytes
    c.in-Ok.read.bytes.items c.in-Ok-from_vec.ensures c.in-Ok.ensures.read c.in-Err-Input.fault c.tell_input.result c.tell_input.ensures why

pub returns : goal.returns
returns g c = record {
  status = tt;
  range = tt;
  flushed = tt;
  ended = unanswered
      (g.R.NamedFiles.bytes_at c.args.rt.now) c.args.given (g.I.Read.remaining c.args.input.now) (g.I.Read.remaining c.read_given.new.input)
      (writer_contents g.O.Write.contents c.args.output.now) (writer_contents g.O.Write.contents c.answer_to.new.w)
      c.in-Some.kind (search) c.in-Ok.read.tables (rc_slice_items c.in-Ok-from_vec.bytes) c.in-Ok.read.bytes.items c.in-Ok-from_vec.ensures c.in-Ok.ensures.read
      c.in-Err-answer_to.fault c.in-Err-answer_to.ensures.fault;
}
